-- Each number is read behind the one before, and what each call found is what the definition finds there; the laws say what the
-- definition makes of it.
use Prim.Native.Nat.{◌≤◌}
use mathlib.Core.Path.{◌≡◌, sym, ap, ◌∙◌}
use native.Mathlib.Omega.{arith}
use lib.ListN.{length}
use Rattle.std.specs.Prelude.{Ok}
use Rattle.laws.proofs.Parts.{tail}
use Rattle.answers.specs.declared.Fault.TheVariants as fa
use Rattle.record.specs.Record.{found}
use Rattle.kinds.specs.Kind.{child_bytes}
use Rattle.cell.proofs.Laws.{size_in, key_behind, child-cut, size-cut, key-cut, numbers-read, size-ends, key-ends}
use Rattle.cell.proofs.numbers_of.Goals as goal

pub returns-then-s-own : goal.returns-then-s-own
returns-then-s-own c = sym (child-cut c.args.reading c.args.kind c.args.s.now (rw (← c.child_bytes-own.ensures) c.if-s-own.true))

pub returns-in_default : goal.returns-in_default
returns-in_default c =
    let a = c.args in
    let l : child_bytes a.kind ≤ length a.s.now = omega (arith, c.child_bytes-own.ensures) in
    let first : c.number_in.result ≡ size_in a.reading a.kind a.s.now =
    c.number_in.ensures ∙ rw (tail _ _, c.child_bytes-own.ensures, c.limit_of-limit.ensures, c.has_size.ensures) in
    sym (size-cut a.reading a.kind a.s.now l (ap (found fa.CellCut) (sym first ∙ c.in_default.is)))

pub overflow_add-at : goal.overflow_add-at
overflow_add-at c =
    let a = c.args in
    let l : child_bytes a.kind ≤ length a.s.now = omega (arith, c.child_bytes-own.ensures) in
    let first : c.number_in.result ≡ size_in a.reading a.kind a.s.now =
    c.number_in.ensures ∙ rw (tail _ _, c.child_bytes-own.ensures, c.limit_of-limit.ensures, c.has_size.ensures) in
    let size : size_in a.reading a.kind a.s.now ≡ Ok c.in-Ok.size = sym first ∙ c.in-Ok.is in
    let ends = size-ends a.reading a.kind a.s.now l size in
    omega (arith, c.child_bytes-own.ensures)

pub slice_bounds-number_in-count-2 : goal.slice_bounds-number_in-count-2
slice_bounds-number_in-count-2 c =
    let a = c.args in
    let l : child_bytes a.kind ≤ length a.s.now = omega (arith, c.child_bytes-own.ensures) in
    let first : c.number_in.result ≡ size_in a.reading a.kind a.s.now =
    c.number_in.ensures ∙ rw (tail _ _, c.child_bytes-own.ensures, c.limit_of-limit.ensures, c.has_size.ensures) in
    let size : size_in a.reading a.kind a.s.now ≡ Ok c.in-Ok.size = sym first ∙ c.in-Ok.is in
    let ends = size-ends a.reading a.kind a.s.now l size in
    omega (arith, c.child_bytes-own.ensures)

pub slice_bounds-number_in-start-2 : goal.slice_bounds-number_in-start-2
slice_bounds-number_in-start-2 c =
    let a = c.args in
    let l : child_bytes a.kind ≤ length a.s.now = omega (arith, c.child_bytes-own.ensures) in
    let first : c.number_in.result ≡ size_in a.reading a.kind a.s.now =
    c.number_in.ensures ∙ rw (tail _ _, c.child_bytes-own.ensures, c.limit_of-limit.ensures, c.has_size.ensures) in
    let size : size_in a.reading a.kind a.s.now ≡ Ok c.in-Ok.size = sym first ∙ c.in-Ok.is in
    let ends = size-ends a.reading a.kind a.s.now l size in
    omega (arith, c.child_bytes-own.ensures)

pub returns-in_default-number_in : goal.returns-in_default-number_in
returns-in_default-number_in c =
    let a = c.args in
    let l : child_bytes a.kind ≤ length a.s.now = omega (arith, c.child_bytes-own.ensures) in
    let first : c.number_in.result ≡ size_in a.reading a.kind a.s.now =
    c.number_in.ensures ∙ rw (tail _ _, c.child_bytes-own.ensures, c.limit_of-limit.ensures, c.has_size.ensures) in
    let size : size_in a.reading a.kind a.s.now ≡ Ok c.in-Ok.size = sym first ∙ c.in-Ok.is in
    let second : c.number_in-2.result ≡ key_behind a.reading a.kind a.s.now c.in-Ok.size =
    c.number_in-2.ensures ∙ rw (tail _ _, c.child_bytes-own.ensures, c.limit_of-limit.ensures, c.has_row.ensures) in
    sym (key-cut a.reading a.kind a.s.now l size (ap (found fa.CellCut) (sym second ∙ c.in_default-number_in.is)))

pub overflow_add-result : goal.overflow_add-result
overflow_add-result c =
    let a = c.args in
    let l : child_bytes a.kind ≤ length a.s.now = omega (arith, c.child_bytes-own.ensures) in
    let first : c.number_in.result ≡ size_in a.reading a.kind a.s.now =
    c.number_in.ensures ∙ rw (tail _ _, c.child_bytes-own.ensures, c.limit_of-limit.ensures, c.has_size.ensures) in
    let size : size_in a.reading a.kind a.s.now ≡ Ok c.in-Ok.size = sym first ∙ c.in-Ok.is in
    let second : c.number_in-2.result ≡ key_behind a.reading a.kind a.s.now c.in-Ok.size =
    c.number_in-2.ensures ∙ rw (tail _ _, c.child_bytes-own.ensures, c.limit_of-limit.ensures, c.has_row.ensures) in
    let ends = key-ends a.reading a.kind a.s.now l size (sym second ∙ c.in-Ok-number_in.is) in
    omega (arith, c.child_bytes-own.ensures)

pub returns : goal.returns
returns c =
    let a = c.args in
    let l : child_bytes a.kind ≤ length a.s.now = omega (arith, c.child_bytes-own.ensures) in
    let first : c.number_in.result ≡ size_in a.reading a.kind a.s.now =
    c.number_in.ensures ∙ rw (tail _ _, c.child_bytes-own.ensures, c.limit_of-limit.ensures, c.has_size.ensures) in
    let size : size_in a.reading a.kind a.s.now ≡ Ok c.in-Ok.size = sym first ∙ c.in-Ok.is in
    let second : c.number_in-2.result ≡ key_behind a.reading a.kind a.s.now c.in-Ok.size =
    c.number_in-2.ensures ∙ rw (tail _ _, c.child_bytes-own.ensures, c.limit_of-limit.ensures, c.has_row.ensures) in
    rw (c.child_bytes-own.ensures, c.child_of.ensures)
    (sym (numbers-read a.reading a.kind a.s.now l size (sym second ∙ c.in-Ok-number_in.is)))
