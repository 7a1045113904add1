-- At each type the definition computes to the reader that the code calls.
use mathlib.Core.Path.{sym, ap, ◌∙◌}
use mir.Syntax.{w8, w16, w32, w64}
use mir.Facts.{to_z-of_z}
use native.Mathlib.Omega.{arith}
use Rattle.values.specs.File.{value_of}
use Rattle.values.specs.declared.file.Value.TheVariants.{Integer}
use Rattle.values.proofs.Laws.{file-long}
use Rattle.values.proofs.file.value_of.Goals as goal

pub returns-in-0 : goal.returns-in-0
unfolding value_of
returns-in-0 c = rw c.in-0.is

pub returns-in-1 : goal.returns-in-1
unfolding value_of
returns-in-1 c =
    rw c.in-1.is
    (ap Integer (to_z-of_z {w = w64} (record { sfits = c.from.type_inv }) ∙ c.from.ensures ∙ to_z-of_z {w = w8} (record { sfits = c.be_i8.type_inv }) ∙ c.be_i8.ensures))

pub returns-in-2 : goal.returns-in-2
unfolding value_of
returns-in-2 c =
    rw c.in-2.is
    (ap Integer (to_z-of_z {w = w64} (record { sfits = c.from-in-2.type_inv }) ∙ c.from-in-2.ensures ∙ to_z-of_z {w = w16} (record { sfits = c.be_i16.type_inv }) ∙ c.be_i16.ensures))

pub returns-in-3 : goal.returns-in-3
unfolding value_of
returns-in-3 c =
    rw c.in-3.is
    (ap Integer (to_z-of_z {w = w64} (record { sfits = c.from-in-3.type_inv }) ∙ c.from-in-3.ensures ∙ to_z-of_z {w = w32} (record { sfits = c.be_i24.type_inv }) ∙ c.be_i24.ensures))

pub returns-in-4 : goal.returns-in-4
unfolding value_of
returns-in-4 c =
    rw c.in-4.is
    (ap Integer (to_z-of_z {w = w64} (record { sfits = c.from-in-4.type_inv }) ∙ c.from-in-4.ensures ∙ to_z-of_z {w = w32} (record { sfits = c.be_i32.type_inv }) ∙ c.be_i32.ensures))

pub returns-in-5 : goal.returns-in-5
unfolding value_of
returns-in-5 c =
    rw c.in-5.is
    (ap Integer (to_z-of_z {w = w64} (record { sfits = c.be_i48.type_inv }) ∙ c.be_i48.ensures))

pub returns-in-6 : goal.returns-in-6
unfolding value_of
returns-in-6 c =
    rw c.in-6.is
    (ap Integer (to_z-of_z {w = w64} (record { sfits = c.be_i64.type_inv }) ∙ c.be_i64.ensures))

pub returns-in-7 : goal.returns-in-7
unfolding value_of
returns-in-7 c =
    let u = c.be_u64-bits in
    rw (c.in-7.is, c.number_of.ensures, u.ensures)

pub returns-in-8 : goal.returns-in-8
unfolding value_of
returns-in-8 c = rw c.in-8.is

pub returns-in-9 : goal.returns-in-9
unfolding value_of
returns-in-9 c = rw c.in-9.is

pub returns-in_default : goal.returns-in_default
returns-in_default c =
    let a = c.args in
    c.long.ensures ∙ sym (file-long a.serial a.at a.part.now (omega arith))
