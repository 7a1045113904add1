-- The numbers, the payload behind them, and the record in it.
use Prim.Native.Nat.{ℕ, ◌+◌, ◌-◌, ◌≤◌}
use mathlib.Core.Path.{◌≡◌, sym, ◌∙◌}
use mathlib.Core.List.{List}
use native.Mathlib.Omega.{arith}
use lib.ListN.{length, take, drop}
use Rattle.std.specs.Prelude.{Err, Ok, Result, Some}
use Rattle.std.specs.Result.{result_ok}
use Rattle.laws.proofs.Never.{never}
use Rattle.laws.proofs.Parts.{tail}
use Rattle.varint.specs.declared.Cause.{Cause}
use Rattle.varint.specs.declared.Number.{Number}
use Rattle.varint.specs.Varint.{varint_of}
use Rattle.varint.proofs.Laws.{length-bounds}
use Rattle.record.proofs.Laws.{read_at, room_at}
use Rattle.usual.proofs.Records.{start}
use Rattle.usual.proofs.row_of.Goals as goal

there : {A E : Type 0} (x : Result A E) {a : A} → result_ok x ≡ Some a → x ≡ Ok a
there (Ok a) e = cc
there (Err error) e = never cc

module _ (s : List ℕ) {size : Number} {v : Result Number Cause} (p : v ≡ varint_of 5 s) (i : result_ok v ≡ Some size) where
  -- the payload size
  first : varint_of 5 s ≡ Ok size
  first = sym p ∙ there v i

  after : size.length ≤ length s
  after = (length-bounds s 5 first).2

  -- and the row number
  behind : {key : Number} {w : Result Number Cause} → w ≡ varint_of 5 (take (length s - size.length) (drop size.length s))
      → result_ok w ≡ Some key → size.length + key.length ≤ length s
  behind {key} {w} e f = (room_at 5 s size.length after (read_at 5 s size.length e (there w f))).1

pub slice_bounds-read-start : goal.slice_bounds-read-start
slice_bounds-read-start c = after c.args.s.now c.read.ensures (sym c.ok.ensures.value ∙ c.in_ok-size.was)

pub slice_bounds-read-count : goal.slice_bounds-read-count
slice_bounds-read-count c = after c.args.s.now c.read.ensures (sym c.ok.ensures.value ∙ c.in_ok-size.was)

pub overflow_add-from : goal.overflow_add-from
overflow_add-from c =
    let h = behind c.args.s.now c.read.ensures (sym c.ok.ensures.value ∙ c.in_ok-size.was) c.read-2.ensures (sym c.ok-2.ensures.value ∙ c.in_ok-key.was) in
    omega arith

pub slice_bounds-rest-start : goal.slice_bounds-rest-start
slice_bounds-rest-start c =
    behind c.args.s.now c.read.ensures (sym c.ok.ensures.value ∙ c.in_ok-size.was) c.read-2.ensures (sym c.ok-2.ensures.value ∙ c.in_ok-key.was)

pub slice_bounds-rest-count : goal.slice_bounds-rest-count
slice_bounds-rest-count c =
    behind c.args.s.now c.read.ensures (sym c.ok.ensures.value ∙ c.in_ok-size.was) c.read-2.ensures (sym c.ok-2.ensures.value ∙ c.in_ok-key.was)

pub returns : goal.returns
returns c =
    let s = c.args.s.now in
    let n = c.in_ok-size.size.length in
    let from = n + c.in_ok-key.key.length in
    let paid = sym c.payload_of.ensures ∙ there c.payload_of.result (sym c.ok-3.ensures.value ∙ c.in_ok-payload.was) in
    start c.args.guarded c.args.reading c.args.usable s (first s c.read.ensures (sym c.ok.ensures.value ∙ c.in_ok-size.was))
    (read_at 5 s n c.read-2.ensures (there c.read-2.result (sym c.ok-2.ensures.value ∙ c.in_ok-key.was)))
    (rw (c.most_whole-most.ensures, tail s from) at paid) (rw (tail s from) at c.in_ok-header.ensures)
