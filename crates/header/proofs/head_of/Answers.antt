-- Each test that was passed takes one check from the list of both readings; the file reading's own follow them.
use Prim.Native.Nat.{ℕ, ◌≤◌}
use mathlib.Core.Path.{◌≡◌, sym, ap, ◌∙◌}
use mathlib.Core.List.{List}
use mathlib.Core.Bool.{Bool, true}
use native.Mathlib.Omega.{arith}
use lib.Dec.{eqb, lit<}
use lib.ListN.{length, take, drop}
use borrow.Author.Tests.{lt-ltb, le-ltb}
use Rattle.std.specs.Prelude.{Err, Result, ⊤}
use Rattle.std.specs.List.{starts_with}
use Rattle.std.specs.Array.{IsFirstChunk}
use Rattle.std.proofs.lemmas.Result.{err_from_is_err_and}
use Rattle.answers.specs.declared.Flaw.{Flaw}
use Rattle.reading.specs.declared.Reading.TheVariants.{File as file}
use Rattle.answers.specs.Checks.{first}
use Rattle.answers.specs.declared.Flaw.TheVariants as fl
use Rattle.header.specs.Header.{field_of, alike, opening, both_checks, file_checks, checked_of}
use Rattle.header.proofs.Steps.{begins, encoding-known, encoding-unknown}
use Rattle.header.proofs.Laws.{fails, goes_on}
use Rattle.header.proofs.Head.{field-head, checks-head}
use Rattle.header.proofs.head_of.Goals as goal

-- the checks from the k-th on are all that is left
abbrev Left : ℕ → List ℕ → Type 0
Left k db = first (both_checks db) ≡ first (drop k (both_checks db))

module _ (db : List ℕ) (within : length db ≤ 1073741824) where
  limited : Left 1 db
  limited = rw (le-ltb 1073741824 (length db) within)

  module _ {begun : Bool} (told : begun ≡ starts_with eqb db opening) where
    known : {b : Bool} → begun ≡ b → alike (take 16 db) opening ≡ b
    known e = sym (begins db opening) ∙ sym told ∙ e

    module _ (o : begun ≡ true) where
      opened : Left 2 db
      opened = limited ∙ rw (known o)

      whole : 100 ≤ length db → Left 3 db
      whole w = opened ∙ rw (le-ltb (length db) 100 w)

      module _ {head : List ℕ} {encoding : ℕ} (first_chunk : IsFirstChunk db head 100) (field : encoding ≡ field_of 15 head) where
        same : encoding ≡ field_of 15 db
        same = field ∙ rw first_chunk.same (field-head db 15 (lit< tt))

        encoded : 1 ≤ encoding → encoding ≤ 3 → Left 4 db
        encoded l u = whole first_chunk.enough ∙ rw (← same, encoding-known encoding l u)

        unknown : (1 ≤ encoding → encoding ≤ 3 → ⊥) → first (both_checks db) ≡ Err fl.EncodingUnknown
        unknown n = whole first_chunk.enough ∙ rw (← same, encoding-unknown encoding n)

        on : {k : Result ⊤ Flaw} → k ≡ first (file_checks head) → 1 ≤ encoding → encoding ≤ 3 → checked_of file db ≡ k
        on e l u = goes_on db (encoded l u) ∙ sym (e ∙ rw first_chunk.same (ap first (checks-head db)))

pub returns-then-db-gt-LIMIT-clause-checks : goal.returns-then-db-gt-LIMIT-clause-checks
returns-then-db-gt-LIMIT-clause-checks c =
    let a = c.args in
    sym (fails a.db.now a.reading fl.OverLimit (rw (lt-ltb 1073741824 (length a.db.now) c.if-db-gt-LIMIT.true)))

pub returns-then-not-starts_with-clause-checks : goal.returns-then-not-starts_with-clause-checks
returns-then-not-starts_with-clause-checks c =
    let a = c.args in
    let unlike = known a.db.now c.if-db-gt-LIMIT.false c.starts_with.ensures.value c.if-not-starts_with.true in
    sym (fails a.db.now a.reading fl.OpeningDiffers (limited a.db.now c.if-db-gt-LIMIT.false ∙ rw unlike))

pub returns-in_default-clause-checks : goal.returns-in_default-clause-checks
returns-in_default-clause-checks c =
    let db = c.args.db.now in
    let begun = opened db c.if-db-gt-LIMIT.false c.starts_with.ensures.value c.if-not-starts_with.false in
    sym (fails db c.args.reading fl.HeaderCut (begun ∙ rw (lt-ltb (length db) 100 c.in_default.ensures.cases)))

pub returns-then-encoding-lt1-clause-checks : goal.returns-then-encoding-lt1-clause-checks
returns-then-encoding-lt1-clause-checks c =
    let db = c.args.db.now in
    let h = unknown db c.if-db-gt-LIMIT.false c.starts_with.ensures.value c.if-not-starts_with.false c.in-Some.ensures.cases c.field-encoding.ensures in
    let out = c.then-encoding-lt1.either in
    sym (fails db c.args.reading fl.EncodingUnknown (h (λ l u. grind arith)))

pub returns-in-Old-clause-passed : goal.returns-in-Old-clause-passed
unfolding checked_of
returns-in-Old-clause-passed c =
    rw c.in-Old.is
    (encoded c.args.db.now c.if-db-gt-LIMIT.false c.starts_with.ensures.value c.if-not-starts_with.false c.in-Some.ensures.cases c.field-encoding.ensures (omega arith) (omega arith))

pub returns-in_ok-file_checked-in-File-clause-passed : goal.returns-in_ok-file_checked-in-File-clause-passed
returns-in_ok-file_checked-in-File-clause-passed c =
    let h = on c.args.db.now c.if-db-gt-LIMIT.false c.starts_with.ensures.value c.if-not-starts_with.false c.in-Some.ensures.cases c.field-encoding.ensures c.file_checked.ensures in
    rw c.in-File.is (h (omega arith) (omega arith) ∙ c.in_ok-file_checked-in-File.was)

pub returns-in_err-file_checked-in-File-clause-checks : goal.returns-in_err-file_checked-in-File-clause-checks
returns-in_err-file_checked-in-File-clause-checks c =
    let h = on c.args.db.now c.if-db-gt-LIMIT.false c.starts_with.ensures.value c.if-not-starts_with.false c.in-Some.ensures.cases c.field-encoding.ensures c.file_checked.ensures in
    let p = err_from_is_err_and c.from_residual.result c.from_residual.ensures.1 in
    rw (p.1, p.2, c.in-File.is) (h (omega arith) (omega arith) ∙ c.in_err-file_checked-in-File.was)
