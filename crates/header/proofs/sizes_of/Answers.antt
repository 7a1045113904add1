-- The answer goes by what the checks came to, and the header's bytes say what the database says.
use mathlib.Core.Path.{ap}
use Rattle.std.specs.Prelude.{Ok}
use Rattle.std.proofs.lemmas.Result.{err_from_is_err_and}
use Rattle.header.specs.Header.{sizes_of}
use Rattle.header.proofs.Head.{sizes-head}
use Rattle.header.proofs.sizes_of.Goals as goal

pub returns-in_err-head : goal.returns-in_err-head
unfolding sizes_of
returns-in_err-head c =
    let p = err_from_is_err_and c.from_residual.result c.from_residual.ensures.1 in
    rw (p.1, p.2, c.in_err-head.ensures.checks)

pub returns : goal.returns
unfolding sizes_of
returns c =
    let told = c.in_ok-head.ensures in
    rw (told.passed, c.page_size.ensures, c.end_of.ensures, c.field.ensures, c.field-2.ensures, c.field-3.ensures, told.head)
    (ap Ok (sizes-head c.args.db.now c.args.reading))
