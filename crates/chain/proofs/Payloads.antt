-- A payload that spills: each way to refuse one, and how one is put together.
use Prim.Native.Nat.{ℕ, min, ◌+◌, ◌-◌, ◌*◌, ◌≤◌, ◌<◌}
use mathlib.Core.Path.{◌≡◌, ap}
use mathlib.Core.List.{List, ◌++◌}
use mathlib.Core.Bool.{true, false}
use native.Mathlib.Omega.{arith}
use lib.ListN.{length, take, drop, length-append}
use lib.Seq.{length-take-le, take-take}
use borrow.Author.Tests.{lt-ltb, le-ltb}
use Rattle.fields.specs.Fields.{unsigned}
use Rattle.answers.specs.declared.Fault.{Fault}
use Rattle.answers.specs.declared.Fault.TheVariants as fa
use Rattle.answers.specs.Answer.{◌>>=◌}
use Rattle.kinds.specs.declared.Kind.{Kind}
use Rattle.shape.specs.declared.Shape.{Shape}
use Rattle.kept.specs.Kept.{kept_of, links_of}
use Rattle.chain.specs.Payload.{chain_from, payload_of}
use Rattle.chain.specs.Gathered.{laid}
use Rattle.links.specs.Whole.{Shaped, whole, content}
use Rattle.chain.specs.Copied.{laid_at}
use Rattle.chain.proofs.Copies.{laid_on}
use Rattle.kept.proofs.Sizes.{links-hold}
use Rattle.links.proofs.Steps.{whole-shown, chain-unfit, chain_length}
use Rattle.std.specs.Prelude.{Err, Ok, Result}

module _ (k : Kind) (shape : Shape) (p : ℕ) (s db : List ℕ) where
  abbrev pub kept : ℕ
  kept = kept_of k shape.end p

  abbrev pub chain : Result (List ℕ) Fault
  chain = chain_from kept shape p s db

  -- what stays on the page and the chain's, as far as p goes
  abbrev pub joined : List ℕ
  joined = take p (take kept s ++ content chain)

  module _ (room : ℕ) where
    pub payload-short : room < p → payload_of k shape room p s db ≡ Err fa.BufferTooShort
    unfolding payload_of
    payload-short h = rw (lt-ltb room p h)

    module _ (h : p ≤ room) where
      pub payload_cut : length s < kept + 4 → payload_of k shape room p s db ≡ Err fa.CellCut
      unfolding payload_of
      payload_cut l = rw (le-ltb room p h, lt-ltb (length s) (kept + 4) l)

      module _ (l : kept + 4 ≤ length s) where
        pub payload-unfit : whole chain ≡ false → payload_of k shape room p s db ≡ Err fa.ChainUnfit
        unfolding payload_of
        payload-unfit w =
            let u = chain-unfit shape db (links_of shape.end (p - kept)) (unsigned 4 (drop kept s)) w in
            rw (le-ltb room p h, le-ltb (length s) (kept + 4) l, u)

        pub payload-joined : whole chain ≡ true → payload_of k shape room p s db ≡ Ok joined
        unfolding payload_of
        payload-joined w =
            rw (le-ltb room p h, le-ltb (length s) (kept + 4) l)
            (ap (λ x. x >>= (λ rest. Ok (take p (take kept s ++ rest)))) (whole-shown chain w))

  module _ (l : kept + 4 ≤ length s) where
    own-length : length (take kept s) ≡ kept
    own-length = length-take-le kept s (omega arith)

    -- its pages have the bytes for it
    pub joined_length : Shaped shape → whole chain ≡ true → length joined ≡ p
    joined_length is w =
        let c = chain_length shape db is (links_of shape.end (p - kept)) (unsigned 4 (drop kept s)) w in
        let n : length (take kept s ++ content chain) ≡ kept + links_of shape.end (p - kept) * (shape.end - 4)
        = rw (length-append, own-length, c) in
        length-take-le p (take kept s ++ content chain) (omega (arith, n, links-hold shape.end (p - kept) is.0))

    -- what stays on the page is laid first, and the chain's behind it
    pub joined-laid : (b : List ℕ) → let n = min kept p in
        laid joined b ≡ laid_at n (take (p - n) (content chain)) (laid_at 0 (take n s) b)
    joined-laid b =
        let n = min kept p in
        let t : take n (take kept s) ≡ take n s = take-take n kept s (omega arith) in
        let z : 0 + n ≡ n = omega arith in
        let y : 0 + length joined ≡ length joined = omega arith in
        rw y at (rw (own-length, t, z) at (laid_on 0 p (take kept s) (content chain) b (omega arith)))
