-- The row number, the values and the line's end, one behind the other.
use Rattle.std.proofs.Common.{[], ◌∷◌, ◌++◌, ◌∙◌}
use mir.Syntax.{w64}
use mir.Facts.{to_z-of_z}
use Rattle.cells.specs.Located.{row_number}
use Rattle.print.specs.Text.{signed_of}
use Rattle.print.proofs.Gathering.{failed, failed_on, ok_on, on, put_before, put_some}
use Rattle.texts.specs.Row.{values_text}
use Rattle.texts.proofs.row.Goals as goal

pub returns-in_err-n-in-Ok-clause-err : goal.returns-in_err-n-in-Ok-clause-err
returns-in_err-n-in-Ok-clause-err g c =
    let f = c.in-Ok.found in
    let a = 0x20 ∷ signed_of (row_number f.cell.row.value) in
    let b = values_text f.cell.columns f.cursor c.args.db.now in
    let e = to_z-of_z {w = w64} (record { sfits = c.signed_of.type_inv }) ∙ c.signed_of.ensures in
    rw c.in-Ok.is (failed _ _ (put_some (a ++ b) (0x0a ∷ []) _ _ (put_some a b _ _ (rw e at c.in_err-n-in-Ok.ensures.err))))

pub returns-in_err-n-in-Ok-2-clause-err : goal.returns-in_err-n-in-Ok-2-clause-err
returns-in_err-n-in-Ok-2-clause-err g c =
    let f = c.in-Ok.found in
    let a = 0x20 ∷ signed_of (row_number f.cell.row.value) in
    let b = values_text f.cell.columns f.cursor c.args.db.now in
    let e = to_z-of_z {w = w64} (record { sfits = c.signed_of.type_inv }) ∙ c.signed_of.ensures in
    let first = rw e at c.in_ok-n-in-Ok.ensures.ok in
    rw c.in-Ok.is (failed _ _ (put_some (a ++ b) (0x0a ∷ []) _ _ (put_before a b _ _ _ first c.in_err-n-in-Ok-2.ensures.err)))

pub returns-in_ok-n-in-Ok-2-clause-ok : goal.returns-in_ok-n-in-Ok-2-clause-ok
returns-in_ok-n-in-Ok-2-clause-ok g c =
    let f = c.in-Ok.found in
    let a = 0x20 ∷ signed_of (row_number f.cell.row.value) in
    let b = values_text f.cell.columns f.cursor c.args.db.now in
    let e = to_z-of_z {w = w64} (record { sfits = c.signed_of.type_inv }) ∙ c.signed_of.ensures in
    let first = rw e at c.in_ok-n-in-Ok.ensures.ok in
    rw c.in-Ok.is (ok_on _ (a ++ b) (0x0a ∷ []) _ _ _ (on a b _ _ _ first c.in_ok-n-in-Ok-2.ensures.ok) c.text.ensures.ok)

pub returns-in_ok-n-in-Ok-2-clause-err : goal.returns-in_ok-n-in-Ok-2-clause-err
returns-in_ok-n-in-Ok-2-clause-err g c =
    let f = c.in-Ok.found in
    let a = 0x20 ∷ signed_of (row_number f.cell.row.value) in
    let b = values_text f.cell.columns f.cursor c.args.db.now in
    let e = to_z-of_z {w = w64} (record { sfits = c.signed_of.type_inv }) ∙ c.signed_of.ensures in
    let first = rw e at c.in_ok-n-in-Ok.ensures.ok in
    rw c.in-Ok.is (failed_on _ (a ++ b) (0x0a ∷ []) _ _ _ (on a b _ _ _ first c.in_ok-n-in-Ok-2.ensures.ok) c.text.ensures.err)
