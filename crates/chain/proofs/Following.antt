-- A chain that is copied page by page: what is so at each page, and how it goes on.
use Prim.Native.Nat.{ℕ, suc, min, ◌+◌, ◌-◌, ◌≤◌}
use mathlib.Core.Path.{◌≡◌, sym, ◌∙◌, ap}
use mathlib.Core.List.{List, []}
use mathlib.Core.Bool.{true}
use native.Mathlib.Omega.{arith}
use lib.ListN.{length, take, drop, length-drop}
use lib.Seq.{length-take-le, take-nil, take-take}
use Rattle.fields.specs.Fields.{unsigned}
use Rattle.shape.specs.declared.Shape.{Shape}
use Rattle.links.specs.Links.{chain_of}
use Rattle.links.specs.Whole.{Shaped, whole, content}
use Rattle.chain.specs.Copied.{laid_at}
use Rattle.chain.proofs.Copies.{laid-nothing, laid_on, laid-length}
use Rattle.links.proofs.Steps.{lies, content_at, page-within, content-length, content-end, chain-absent}
use Rattle.links.proofs.Steps.{whole-next, content-next}
use Rattle.place.specs.Place.{placed_at}
use Rattle.std.specs.Prelude.{None}

module _ (shape : Shape) (db : List ℕ) (size : ℕ) where
  -- what is left of the chain, laid over the buffer from here on
  abbrev pub ahead : ℕ → ℕ → ℕ → List ℕ → List ℕ
  ahead left number here b = laid_at here (take (size - here) (content (chain_of left shape number db))) b

  -- at a page: in the end the buffer is `end`
  abbrev pub Going : (room : ℕ) (end : List ℕ) (left number here : ℕ) (b : List ℕ) → Type 0
  Going room end left number here b =
      (here ≤ size) × (length b ≡ room) × (whole (chain_of left shape number db) ≡ true) × (ahead left number here b ≡ end)

  module _ {room : ℕ} {end : List ℕ} where
    pub goes_on : Shaped shape → size ≤ room → (left number here : ℕ) (b : List ℕ) → Going room end left number here b
        → (k : ℕ) → left ≡ suc k → {at from : ℕ} → lies shape db number ≡ placed_at at from
        → {n : ℕ} → n ≡ min (shape.end - 4) (size - here) → {next : ℕ} → next ≡ unsigned 4 (drop at db)
        → {b' : List ℕ} → b' ≡ laid_at here (take n (drop (at + 4) db)) b
        → Going room end k next (here + n) b'
    goes_on is fits left number here b g k l {at} e {n} m {next} x {b'} y =
        let o : n ≤ shape.end - 4 = omega arith in
        let p = page-within shape db number e in
        let t : take n (content_at shape db at) ≡ take n (drop (at + 4) db) = take-take n (shape.end - 4) (drop (at + 4) db) o in
        let d : n ≤ length (drop (at + 4) db) = rw length-drop (omega (arith, is.0, is.1)) in
        let c : length (take n (drop (at + 4) db)) ≡ n = length-take-le n (drop (at + 4) db) d in
        let w : whole (chain_of (suc k) shape number db) ≡ true = rw l at g.2 in
        let z : size - here - n ≡ size - (here + n) = omega arith in
        let rest = content (chain_of k shape (unsigned 4 (drop at db)) db) in
        let f = laid_on here (size - here) (content_at shape db at) rest b (omega (arith, g.0, g.1)) in
        let on = rw (content-length shape db is number e, sym m, z, t, sym y) at f in
        let q = ap (λ x. laid_at here (take (size - here) x) b) (content-next shape db k number e w) in (
          omega (arith, g.0),
          rw y (laid-length here (take n (drop (at + 4) db)) b (rw c (omega (arith, g.0, g.1)))) ∙ g.1,
          rw x (sym (whole-next shape db k number e) ∙ w),
          rw x (sym on ∙ sym q ∙ rw l at g.3),
        )

    -- no page is left
    pub gone : (number here : ℕ) (b : List ℕ) → Going room end 0 number here b → b ≡ end
    gone number here b g =
        let z : take (size - here) (content (chain_of 0 shape number db)) ≡ []
        = rw (content-end shape db number) (take-nil (size - here)) in
        sym (laid-nothing here b) ∙ sym (ap (λ q. laid_at here q b) z) ∙ g.3

    pub absent : (left number here : ℕ) (b : List ℕ) → Going room end left number here b → (k : ℕ) → left ≡ suc k
        → lies shape db number ≡ None → b ≡ end
    absent left number here b g k l e =
        let c = chain-absent shape db k number e in
        let z : take (size - here) (content (chain_of left shape number db)) ≡ [] = rw (l, c) (take-nil (size - here)) in
        sym (laid-nothing here b) ∙ sym (ap (λ q. laid_at here q b) z) ∙ g.3
