-- The numbers of a cell, one by one, and that they and the payload lie in the cell's bytes.
use Prim.Native.Nat.{ℕ, ◌+◌, ◌≤◌, ◌<◌}
use mathlib.Core.Path.{◌≡◌, refl, ap}
use mathlib.Core.List.{List}
use mathlib.Core.Bool.{Bool, true, false}
use native.Mathlib.Omega.{arith}
use lib.Dec.{ltb}
use lib.ListN.{length, drop, length-drop}
use borrow.Author.Tests.{lt-ltb, le-ltb, ltb-true, ltb-false}
use Rattle.laws.specs.Pick.{pick}
use Rattle.laws.proofs.Never.{never}
use Rattle.varint.specs.declared.Number.{Number}
use Rattle.varint.specs.declared.Cause.{Cause}
use Rattle.varint.proofs.Laws.{length-bounds}
use Rattle.reading.specs.declared.Reading.{Reading}
use Rattle.reading.specs.declared.Reading.TheVariants.{Old as old, File as file}
use Rattle.reading.specs.Reading.{limit}
use Rattle.answers.specs.declared.Fault.{Fault}
use Rattle.answers.specs.declared.Fault.TheVariants as fa
use Rattle.record.specs.Record.{found}
use Rattle.kinds.specs.declared.Kind.{Kind}
use Rattle.kinds.specs.Kind.{has_size, has_row, child_bytes}
use Rattle.cell.specs.declared.Numbers.{Numbers}
use Rattle.cell.specs.Numbers.{none, number_in, child_at, numbers_of}
use Rattle.cell.specs.Cell.{payload_in}
use Rattle.std.specs.Prelude.{Err, Ok, Result}
use Rattle.std.specs.Result.{result_or}

-- a number lies in the bytes
pub number-within : (has : Bool) (limit : ℕ) (s : List ℕ) {n : Number} → number_in has limit none s ≡ Ok n → n.length ≤ length s
number-within true limit s e = (length-bounds s limit e).2
number-within false limit s {n} e = let z : none ≡ n = cc in rw (← z) (omega arith)

-- and so does a payload
pub payload-within : (r : Reading) (x p : ℕ) (s : List ℕ) {n : ℕ} → payload_in r x p s ≡ Ok n → n ≤ length s
payload-within old x p s {n} e = let z : length s ≡ n = cc in omega arith
payload-within file x p s {n} e = go (ltb x p) (ltb (length s) p) refl e
  where
    go : (a b : Bool) → ltb (length s) p ≡ b
        → pick a (Err fa.PayloadSpills) (pick b (Err fa.CellCut) (Ok p)) ≡ Ok n → n ≤ length s
    go true b q d = never cc
    go false true q d = never cc
    go false false q d = let z : p ≡ n = cc in let l = ltb-false (length s) p q in omega arith

-- a number, or the fault in place of the cause that there is none
pub found-or : (fault : Fault) (x : Result Number Cause) → result_or x (Err fault) ≡ found fault x
found-or fault (Err c) = refl
found-or fault (Ok n) = refl

pub found-there : (fault : Fault) (x : Result Number Cause) {n : Number} → found fault x ≡ Ok n → x ≡ Ok n
found-there fault (Err c) e = never cc
found-there fault (Ok n) e = cc

-- THE NUMBERS, one behind the other

module _ (r : Reading) (k : Kind) (s : List ℕ) where
  abbrev pub size_in : Result Number Cause
  size_in = number_in (has_size k) (limit r) none (drop (child_bytes k) s)

  abbrev pub key_behind : Number → Result Number Cause
  key_behind size = number_in (has_row k) (limit r) none (drop (child_bytes k + size.length) s)

  pub child-cut : length s < child_bytes k → numbers_of r k s ≡ Err fa.CellCut
  unfolding numbers_of
  child-cut h = rw (lt-ltb (length s) (child_bytes k) h)

  module _ (h : child_bytes k ≤ length s) where
    pub size-cut : {fault : Fault} → found fa.CellCut size_in ≡ Err fault → numbers_of r k s ≡ Err fault
    unfolding numbers_of
    size-cut e = rw (le-ltb (length s) (child_bytes k) h, e)

    module _ {size : Number} (e : size_in ≡ Ok size) where
      pub key-cut : {fault : Fault} → found fa.CellCut (key_behind size) ≡ Err fault → numbers_of r k s ≡ Err fault
      unfolding numbers_of
      key-cut d = rw (le-ltb (length s) (child_bytes k) h, e, d)

      pub numbers-read : {key : Number} → key_behind size ≡ Ok key
          → numbers_of r k s ≡ Ok (record { child = child_at k s; size = size; key = key; length = child_bytes k + size.length + key.length })
      unfolding numbers_of
      numbers-read d = rw (le-ltb (length s) (child_bytes k) h, e, d)

      -- each ends in the bytes
      pub size-ends : child_bytes k + size.length ≤ length s
      size-ends = let l = rw length-drop at (number-within (has_size k) (limit r) (drop (child_bytes k) s) e) in omega arith

      pub key-ends : {key : Number} → key_behind size ≡ Ok key → child_bytes k + size.length + key.length ≤ length s
      key-ends d =
          let l = rw length-drop at (number-within (has_row k) (limit r) (drop (child_bytes k + size.length) s) d) in
          let z = size-ends in omega arith

-- numbers that were read, taken apart
pub record Numbered (r : Reading) (k : Kind) (s : List ℕ) (n : Numbers) : Type 0 where
  pub child : child_bytes k ≤ length s
  pub size : size_in r k s ≡ Ok n.size
  pub key : key_behind r k s n.size ≡ Ok n.key
  pub is : record { child = child_at k s; size = n.size; key = n.key; length = child_bytes k + n.size.length + n.key.length } ≡ n
  pub within : n.length ≤ length s

-- they are read, or Err in one way
pub data Told (r : Reading) (k : Kind) (s : List ℕ) : Result Numbers Fault → Type 0 where
  cut : Told r k s (Err fa.CellCut)
  read : {n : Numbers} → Numbered r k s n → Told r k s (Ok n)

module _ (r : Reading) (k : Kind) (s : List ℕ) where
  pub numbers-told : Told r k s (numbers_of r k s)
  numbers-told = by-child (ltb (length s) (child_bytes k)) refl
    where
      by_key : (l : child_bytes k ≤ length s) {size : Number} (e : size_in r k s ≡ Ok size) (v : Result Number Cause) → key_behind r k s size ≡ v
          → Told r k s (numbers_of r k s)
      by_key l e (Err c) d = rw (key-cut r k s l e (ap (found fa.CellCut) d)) cut
      by_key l e (Ok key) d =
          rw (numbers-read r k s l e d) (read (record { child = l; size = e; key = d; is = refl; within = key-ends r k s l e d }))

      by_size : child_bytes k ≤ length s → (v : Result Number Cause) → size_in r k s ≡ v → Told r k s (numbers_of r k s)
      by_size l (Err c) e = rw (size-cut r k s l (ap (found fa.CellCut) e)) cut
      by_size l (Ok size) e = by_key l e (key_behind r k s size) refl

      by-child : (b : Bool) → ltb (length s) (child_bytes k) ≡ b → Told r k s (numbers_of r k s)
      by-child true t = rw (child-cut r k s (ltb-true (length s) (child_bytes k) t)) cut
      by-child false t = by_size (ltb-false (length s) (child_bytes k) t) (size_in r k s) refl

  pub numbered : {n : Numbers} → numbers_of r k s ≡ Ok n → Numbered r k s n
  numbered {n} e = go (numbers_of r k s) numbers-told e
    where
      go : (x : Result Numbers Fault) → Told r k s x → x ≡ Ok n → Numbered r k s n
      go x cut d = never cc
      go x (read {n = m} t) d = let i : m ≡ n = cc in rw (← i) t
