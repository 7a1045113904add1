-- A chain page by page: whether it is whole, and its content.
use Prim.Native.Nat.{ℕ, zero, suc, ◌+◌, ◌-◌, ◌*◌, ◌≤◌}
use mathlib.Core.Path.{◌≡◌, refl, sym, ◌∙◌, ap}
use mathlib.Core.List.{List, [], ◌++◌}
use mathlib.Core.Bool.{Bool, true, false}
use native.Mathlib.Nat.{add-mul}
use native.Mathlib.Omega.{arith}
use lib.Dec.{eqb}
use lib.ListN.{length, take, drop, length-append, length-drop}
use lib.Seq.{length-take-le}
use Rattle.laws.specs.Pick.{pick}
use Rattle.laws.proofs.Never.{never}
use Rattle.fields.specs.Fields.{unsigned}
use Rattle.answers.specs.declared.Fault.{Fault}
use Rattle.answers.specs.declared.Fault.TheVariants as fa
use Rattle.answers.specs.Answer.{◌>>=◌}
use Rattle.shape.specs.declared.Shape.{Shape}
use Rattle.place.specs.Place.{file_page, place_of}
use Rattle.place.proofs.Laws.{place-lies}
use Rattle.links.specs.Links.{chain_of}
use Rattle.links.specs.Whole.{Shaped, whole, content}
use Rattle.place.specs.Place.{placed_at}
use Rattle.place.specs.declared.Place.{Place}
use Rattle.std.specs.Prelude.{Err, None, Ok, Option, Result, Some}

whole-behind : (c : List ℕ) (x : Result (List ℕ) Fault) → whole (x >>= (λ rest. Ok (c ++ rest))) ≡ whole x
whole-behind c (Err fault) = refl
whole-behind c (Ok rest) = refl

content-behind : (c : List ℕ) (x : Result (List ℕ) Fault) → whole x ≡ true
    → content (x >>= (λ rest. Ok (c ++ rest))) ≡ c ++ content x
content-behind c (Err fault) w = never cc
content-behind c (Ok rest) w = refl

-- a whole chain is its content
pub whole-shown : (x : Result (List ℕ) Fault) → whole x ≡ true → x ≡ Ok (content x)
whole-shown (Err fault) w = never cc
whole-shown (Ok rest) w = refl

module _ (shape : Shape) (db : List ℕ) where
  -- where a page lies in the file
  abbrev pub lies : ℕ → Option Place
  lies number = place_of (file_page number) (length db) shape

  -- the content of the page that lies at `at`
  abbrev pub content_at : ℕ → List ℕ
  content_at at = take (shape.end - 4) (drop (at + 4) db)

  pub page-within : (number : ℕ) {at from : ℕ} → lies number ≡ placed_at at from → at + shape.page_size ≤ length db
  page-within number e = (rw e at (place-lies (file_page number) (length db) shape)).0

  pub content-length : Shaped shape → (number : ℕ) {at from : ℕ} → lies number ≡ placed_at at from
      → length (content_at at) ≡ shape.end - 4
  content-length is number {at} e =
      let l = page-within number e in
      length-take-le (shape.end - 4) (drop (at + 4) db) (rw length-drop (omega (arith, is.0, is.1)))

  -- THE END

  pub whole-end : (number : ℕ) → whole (chain_of 0 shape number db) ≡ eqb number 0
  unfolding chain_of
  whole-end number = go (eqb number 0)
    where
      go : (b : Bool) → whole (pick b (Ok []) (Err fa.ChainUnfit)) ≡ b
      go true = refl
      go false = refl

  pub content-end : (number : ℕ) → content (chain_of 0 shape number db) ≡ []
  unfolding chain_of
  content-end number = go (eqb number 0)
    where
      go : (b : Bool) → content (pick b (Ok []) (Err fa.ChainUnfit)) ≡ []
      go true = refl
      go false = refl

  module _ (k number : ℕ) where
    -- NO PAGE

    pub chain-absent : lies number ≡ None → chain_of (suc k) shape number db ≡ Err fa.ChainUnfit
    unfolding chain_of
    chain-absent e = rw e

    -- ONE MORE

    module _ {at from : ℕ} (e : lies number ≡ placed_at at from) where
      pub chain_next : chain_of (suc k) shape number db
          ≡ (chain_of k shape (unsigned 4 (drop at db)) db >>= (λ rest. Ok (content_at at ++ rest)))
      unfolding chain_of
      chain_next = rw e

      pub whole-next : whole (chain_of (suc k) shape number db) ≡ whole (chain_of k shape (unsigned 4 (drop at db)) db)
      whole-next = ap (λ x. whole x) chain_next ∙ whole-behind (content_at at) (chain_of k shape (unsigned 4 (drop at db)) db)

      pub content-next : whole (chain_of (suc k) shape number db) ≡ true
          → content (chain_of (suc k) shape number db) ≡ content_at at ++ content (chain_of k shape (unsigned 4 (drop at db)) db)
      content-next w =
          ap (λ x. content x) chain_next
          ∙ content-behind (content_at at) (chain_of k shape (unsigned 4 (drop at db)) db) (sym whole-next ∙ w)

  -- a chain is refused in one way
  pub chain-unfit : (k number : ℕ) → whole (chain_of k shape number db) ≡ false
      → chain_of k shape number db ≡ Err fa.ChainUnfit
  unfolding chain_of
  chain-unfit zero number w = go (eqb number 0) w
    where
      go : (b : Bool) → whole (pick b (Ok []) (Err fa.ChainUnfit)) ≡ false
          → ◌≡◌ {A = Result (List ℕ) Fault} (pick b (Ok []) (Err fa.ChainUnfit)) (Err fa.ChainUnfit)
      go true d = never cc
      go false d = refl
  chain-unfit (suc k) number w = by (lies number) refl (λ n. chain-unfit k n)
    where
      by : (x : Option Place) → lies number ≡ x
          → ((n : ℕ) → whole (chain_of k shape n db) ≡ false → chain_of k shape n db ≡ Err fa.ChainUnfit)
          → chain_of (suc k) shape number db ≡ Err fa.ChainUnfit
      by None e rec = chain-absent k number e
      by (Some place) e rec = rw (chain_next k number e, rec (unsigned 4 (drop place.at db)) (sym (whole-next k number e) ∙ w))

  -- and a whole one has its pages' bytes
  pub chain_length : Shaped shape → (k number : ℕ) → whole (chain_of k shape number db) ≡ true
      → length (content (chain_of k shape number db)) ≡ k * (shape.end - 4)
  chain_length is zero number w = rw (content-end number) (omega arith)
  chain_length is (suc k) number w = by (lies number) refl (λ n. chain_length is k n)
    where
      by : (x : Option Place) → lies number ≡ x
          → ((n : ℕ) → whole (chain_of k shape n db) ≡ true → length (content (chain_of k shape n db)) ≡ k * (shape.end - 4))
          → length (content (chain_of (suc k) shape number db)) ≡ suc k * (shape.end - 4)
      by None e rec = let a = chain-absent k number e in never cc
      by (Some place) e rec =
          let l = rec (unsigned 4 (drop place.at db)) (sym (whole-next k number e) ∙ w) in
          rw (content-next k number e w, length-append, content-length is number e, l)
          (omega (arith, add-mul 1 k (shape.end - 4)))
