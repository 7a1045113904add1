-- A cell that the file reading finds in the bytes s, where more bytes stand behind them: the same varints are there.
use Prim.Native.Nat.{ℕ, ◌≤◌}
use mathlib.Core.Path.{◌≡◌, sym, ap, ◌∙◌}
use mathlib.Core.List.{List, ◌++◌, append_assoc}
use native.Mathlib.Omega.{arith}
use lib.ListN.{length, take, drop, length-drop, take-append-drop}
use lib.Seq.{drop-append-le}
use Rattle.varint.specs.Varint.{varint_of}
use Rattle.varint.proofs.Laws.{length-bounds, bytes-behind, left_behind}
use Rattle.reading.specs.declared.Reading.TheVariants.{File as file}
use Rattle.cell.specs.declared.Numbers.{Numbers}
use Rattle.cell.specs.Cell.{Cell}
use Rattle.cell.proofs.Leaf.{Leaf}
use Rattle.std.specs.Prelude.{Ok}

module _ (u : ℕ) (s z : List ℕ) {c : Cell} (o : Leaf file u s c) where
  pub size-on : varint_of 9 (s ++ z) ≡ Ok c.numbers.size
  size-on = bytes-behind s 9 z o.size

  pub key-on : varint_of 9 (drop c.numbers.size.length (s ++ z)) ≡ Ok c.numbers.key
  key-on = rw (left_behind s 9 z o.size) (bytes-behind (drop c.numbers.size.length s) 9 z o.key)

  numbers-within : c.numbers.length ≤ length s
  numbers-within =
      let i = length-bounds s 9 o.size in
      let j = rw length-drop at (length-bounds (drop c.numbers.size.length s) 9 o.key) in
      let e = ap (λ (n : Numbers). n.length) o.numbers in
      omega arith

  -- the payload, and all that stands behind it
  abbrev pub payload : List ℕ
  payload = take c.payload (drop c.numbers.length s)

  abbrev pub beyond : List ℕ
  beyond = drop c.payload (drop c.numbers.length s) ++ z

  pub payload-on : drop c.numbers.length (s ++ z) ≡ payload ++ beyond
  payload-on =
      drop-append-le c.numbers.length s z numbers-within
      ∙ ap (λ (l : List ℕ). l ++ z) (sym (take-append-drop c.payload (drop c.numbers.length s)))
      ∙ append_assoc payload (drop c.payload (drop c.numbers.length s)) z
