-- The field's 1 stands for 65,536.
use borrow.Author.Tests.{eq-eqb, ne_eqb}
use Rattle.header.specs.Header.{page_size_of}
use Rattle.header.proofs.page_size.Goals as goal

pub returns-then-size-eq1 : goal.returns-then-size-eq1
unfolding page_size_of
returns-then-size-eq1 c =
    let f = c.field-size in
    rw (← f.ensures, eq-eqb f.result 1 c.if-size-eq1.true)

pub returns-else-size-eq1 : goal.returns-else-size-eq1
unfolding page_size_of
returns-else-size-eq1 c =
    let f = c.field-size in
    rw (← f.ensures, ne_eqb f.result 1 c.if-size-eq1.false)
