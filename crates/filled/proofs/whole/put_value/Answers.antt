-- At each type the definition computes to the reader that the code calls. It stands in `manners` and is unfolded here: a law for each
-- type would be its table again.
use Prim.Native.Nat.{◌+◌, ◌≤◌}
use mathlib.Core.Path.{◌≡◌, refl, sym, ap, ◌∙◌}
use native.Mathlib.Nat.{add-zero}
use native.Mathlib.Omega.{arith}
use lib.Seq.{sets}
use mir.Syntax.{w8, w16, w32, w64}
use borrow.Author.Rules.{rules}
use mir.Val.{to_z, of_z}
use mir.Facts.{to_z-of_z}
use Rattle.serial.proofs.Laws.{width-past}
use Rattle.turns.specs.Shown.{integer_of, real_of}
use Rattle.turns.specs.Words.{words_of}
use Rattle.manners.specs.Manners.{long_from, value_by}
use Rattle.manners.proofs.Laws.{bytes-as, by-long}
use Rattle.filled.proofs.Stored.{stored-as}
use Rattle.filled.proofs.whole.put_value.Goals as goal

pub overflow_add-at : goal.overflow_add-at
overflow_add-at c = omega (arith, bytes-as c.args.serial c.in-1.is (omega arith), c.requires.fits)

pub overflow_add-at-in-2 : goal.overflow_add-at-in-2
overflow_add-at-in-2 c = omega (arith, bytes-as c.args.serial c.in-2.is (omega arith), c.requires.fits)

pub overflow_add-at-in-3 : goal.overflow_add-at-in-3
overflow_add-at-in-3 c = omega (arith, bytes-as c.args.serial c.in-3.is (omega arith), c.requires.fits)

pub overflow_add-at-in-4 : goal.overflow_add-at-in-4
overflow_add-at-in-4 c = omega (arith, bytes-as c.args.serial c.in-4.is (omega arith), c.requires.fits)

pub overflow_add-at-in-5 : goal.overflow_add-at-in-5
overflow_add-at-in-5 c = omega (arith, bytes-as c.args.serial c.in-5.is (omega arith), c.requires.fits)

pub overflow_add-at-in-6 : goal.overflow_add-at-in-6
overflow_add-at-in-6 c = omega (arith, bytes-as c.args.serial c.in-6.is (omega arith), c.requires.fits)

pub overflow_add-at-in-7 : goal.overflow_add-at-in-7
overflow_add-at-in-7 c = omega (arith, bytes-as c.args.serial c.in-7.is (omega arith), c.requires.fits)

pub put_long-requires-clause-long : goal.put_long-requires-clause-long
put_long-requires-clause-long c = (width-past c.args.serial (omega arith) c.requires.width).0

pub put_long-requires-clause-fits : goal.put_long-requires-clause-fits
put_long-requires-clause-fits c = rw (width-past c.args.serial (omega arith) c.requires.width).1 at c.requires.fits

pub returns-in-0 : goal.returns-in-0
unfolding value_by
returns-in-0 c = let a = c.args in
    stored-as a.manner a.serial a.at a.part.now a.table.now a.place c.in-0.is (omega arith) (c.put_at.ensures.end ∙ sym (add-zero a.at))
    c.empty_value.ensures
    c.put_at.ensures.table

pub returns-in-1 : goal.returns-in-1
unfolding value_by
returns-in-1 c = let a = c.args in
    let b = c.be_i8 in
    stored-as a.manner a.serial a.at a.part.now a.table.now a.place c.in-1.is (omega arith) c.put_integer.ensures.end
    (ap (integer_of a.manner.i8) (to_z-of_z {w = w64} (record { sfits = c.from.type_inv }) ∙ c.from.ensures ∙ to_z-of_z {w = w8} (record { sfits = b.type_inv }) ∙ b.ensures))
    c.put_integer.ensures.table

pub returns-in-2 : goal.returns-in-2
unfolding value_by
returns-in-2 c = let a = c.args in
    let b = c.be_i16 in
    stored-as a.manner a.serial a.at a.part.now a.table.now a.place c.in-2.is (omega arith) c.put_integer-in-2.ensures.end
    (ap (integer_of a.manner.i16) (to_z-of_z {w = w64} (record { sfits = c.from-in-2.type_inv }) ∙ c.from-in-2.ensures ∙ to_z-of_z {w = w16} (record { sfits = b.type_inv }) ∙ b.ensures))
    c.put_integer-in-2.ensures.table

pub returns-in-3 : goal.returns-in-3
unfolding value_by
returns-in-3 c = let a = c.args in
    let b = c.be_i24 in
    stored-as a.manner a.serial a.at a.part.now a.table.now a.place c.in-3.is (omega arith) c.put_integer-in-3.ensures.end
    (ap (integer_of a.manner.i32) (to_z-of_z {w = w64} (record { sfits = c.from-in-3.type_inv }) ∙ c.from-in-3.ensures ∙ to_z-of_z {w = w32} (record { sfits = b.type_inv }) ∙ b.ensures))
    c.put_integer-in-3.ensures.table

pub returns-in-4 : goal.returns-in-4
unfolding value_by
returns-in-4 c = let a = c.args in
    let b = c.be_i32 in
    stored-as a.manner a.serial a.at a.part.now a.table.now a.place c.in-4.is (omega arith) c.put_integer-in-4.ensures.end
    (ap (integer_of a.manner.i32) (to_z-of_z {w = w64} (record { sfits = c.from-in-4.type_inv }) ∙ c.from-in-4.ensures ∙ to_z-of_z {w = w32} (record { sfits = b.type_inv }) ∙ b.ensures))
    c.put_integer-in-4.ensures.table

pub returns-in-5 : goal.returns-in-5
unfolding value_by
returns-in-5 c = let a = c.args in
    let b = c.load_i48 in
    stored-as a.manner a.serial a.at a.part.now a.table.now a.place c.in-5.is (omega arith) c.put_integer-in-5.ensures.end
    (ap (integer_of a.manner.i64) (to_z-of_z {w = w64} (record { sfits = b.type_inv }) ∙ b.ensures))
    c.put_integer-in-5.ensures.table

pub returns-in-6 : goal.returns-in-6
unfolding value_by
returns-in-6 c = let a = c.args in
    let b = c.be_i64 in
    stored-as a.manner a.serial a.at a.part.now a.table.now a.place c.in-6.is (omega arith) c.put_integer-in-6.ensures.end
    (ap (integer_of a.manner.i64) (to_z-of_z {w = w64} (record { sfits = b.type_inv }) ∙ b.ensures))
    c.put_integer-in-6.ensures.table

pub returns-in-7 : goal.returns-in-7
unfolding value_by
returns-in-7 c = let a = c.args in
    let b = c.be_u64 in
    stored-as a.manner a.serial a.at a.part.now a.table.now a.place c.in-7.is (omega arith) c.put_at-in-7.ensures.end
    (c.real_of.ensures ∙ ap real_of b.ensures)
    c.put_at-in-7.ensures.table

pub returns-in-8 : goal.returns-in-8
unfolding value_by
returns-in-8 c = let a = c.args in
    stored-as a.manner a.serial a.at a.part.now a.table.now a.place c.in-8.is (omega arith) (c.put_integer-in-8.ensures.end ∙ sym (add-zero a.at))
    refl
    c.put_integer-in-8.ensures.table

pub returns-in-9 : goal.returns-in-9
unfolding value_by
returns-in-9 c = let a = c.args in
    let same : to_z w64 (of_z w64 a.manner.one) ≡ a.manner.one = search rules in
    stored-as a.manner a.serial a.at a.part.now a.table.now a.place c.in-9.is (omega arith) (c.put_integer-in-9.ensures.end ∙ sym (add-zero a.at))
    (ap (integer_of a.manner.i8) same)
    c.put_integer-in-9.ensures.table

pub returns-in_default : goal.returns-in_default
returns-in_default c = let a = c.args in
    let h : 10 ≤ a.serial = omega arith in
    let l = width-past a.serial h c.requires.width in
    let e : long_from a.manner.least a.serial a.at ≡ value_by a.manner a.serial a.at a.part.now = sym (by-long a.manner a.serial a.at a.part.now h) in
    record {
      end = c.put_long.ensures.end ∙ ap (λ n. a.at + n) (sym l.1);
      table = c.put_long.ensures.table ∙ ap (λ v. sets a.table.now a.place (words_of v)) e;
    }
