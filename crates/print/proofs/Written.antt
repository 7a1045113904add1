-- What calls append to the bytes that a writer holds, one after the other.
use Rattle.std.proofs.Common.{◌≡◌, ℕ, ◌+◌, ◌-◌, List, ◌++◌, sym, ap, ◌∙◌, append_assoc, take, length, subst, arith, ◌≤◌, drop, take-append-drop, Option, Result, Ok, Err, OnOk, OnErr}
use lib.ListN.{length-append, length-drop}
use lib.Seq.{length-take-le, take-append-add, take-append-le, take_at, take-add, take-length}
use Rattle.std.specs.Io.KnownBytes.{Appends, Consumes, Keeps}
use Rattle.std.proofs.KnownBytes.{Appends-trans, Consumes-trans, Consumes-kept}
use Rattle.print.specs.Begun.{AppendsBeginning}
use Rattle.print.specs.Hex.{hex_of}
use Rattle.print.specs.Taken.{TakesFirst}
use Rattle.print.proofs.Gathering.{hex_of-append}

-- a read behind another, in the rest of the buffer
pub read_on : (a b c : Option (List ℕ)) (done n : ℕ) (buf new post : List ℕ) → done ≤ length buf → n ≤ length new
    → Consumes a b (take done buf) → Consumes b c (take n new) → Consumes a c (take (done + n) (take done buf ++ (new ++ post)))
read_on a b c done n buf new post h k p q =
    let e : length (take done buf) ≡ done = length-take-le done buf h in
    let f : take (done + n) (take done buf ++ (new ++ post)) ≡ take done buf ++ take n new =
    ap (λ (i : ℕ). take (i + n) (take done buf ++ (new ++ post))) (sym e)
    ∙ take-append-add (take done buf) (new ++ post) n
    ∙ ap (λ l. take done buf ++ l) (take-append-le n new post k) in
    subst (λ l. Consumes a c l) (sym f) (Consumes-trans a b c (take done buf) (take n new) p q)

pub read_within : (done n : ℕ) (buf new post : List ℕ) → done ≤ length buf → n ≤ length new → done + n ≤ length (take done buf ++ (new ++ post))
read_within done n buf new post h k =
    let e : length (take done buf) ≡ done = length-take-le done buf h in
    simp length-append (omega arith)

-- a read that failed
pub read_stopped : (a b c : Option (List ℕ)) (done : ℕ) (buf rest : List ℕ) → done ≤ length buf
    → Consumes a b (take done buf) → Keeps b c → TakesFirst a c (take done buf ++ rest)
read_stopped a b c done buf rest h p q =
    let e : take done (take done buf ++ rest) ≡ take done buf = take_at (take done buf) rest done (length-take-le done buf h) in
    record { count = done; taken = subst (λ l. Consumes a c l) (sym e) (Consumes-kept a b c (take done buf) p q) }

-- a write behind another, of what is left
pub written_so_far : (a b c : Option (List ℕ)) (s : List ℕ) (at n : ℕ) → Appends a b (take at s) → Appends b c (take n (take (length s - at) (drop at s)))
    → Appends a c (take (at + n) s)
written_so_far a b c s at n p q =
    let e : take (length s - at) (drop at s) ≡ drop at s = ap (λ k. take k (drop at s)) (sym (length-drop at s)) ∙ take-length (drop at s) in
    subst (λ l. Appends a c l) (sym (take-add at n s)) (Appends-trans a b c (take at s) (take n (drop at s)) p (subst (λ l. Appends b c (take n l)) e q))

-- WHERE A WRITE FAILED

-- so many bytes were written before
pub given_to : (a b : Option (List ℕ)) (s : List ℕ) (at : ℕ) → Appends a b (take at s) → AppendsBeginning a b s
given_to a b s at p = record { begins = take at s; rest = drop at s; parted = sym (take-append-drop at s); given = p }

pub given_some : (a b : Option (List ℕ)) (s t : List ℕ) → AppendsBeginning a b s → AppendsBeginning a b (s ++ t)
given_some a b s t g =
    record { begins = g.begins; rest = g.rest ++ t; parted = ap (λ l. l ++ t) g.parted ∙ append_assoc g.begins g.rest t; given = g.given }

pub given_hex : (a b : Option (List ℕ)) (s : List ℕ) (k : ℕ) → AppendsBeginning a b (hex_of (take k s)) → AppendsBeginning a b (hex_of s)
given_hex a b s k g =
    let e : hex_of (take k s) ++ hex_of (drop k s) ≡ hex_of s = sym (hex_of-append (take k s) (drop k s)) ∙ ap hex_of (take-append-drop k s) in
    subst (λ l. AppendsBeginning a b l) e (given_some a b (hex_of (take k s)) (hex_of (drop k s)) g)

pub given_before : (a b c : Option (List ℕ)) (s t : List ℕ) → Appends a b s → AppendsBeginning b c t → AppendsBeginning a c (s ++ t)
given_before a b c s t p g =
    record {
      begins = s ++ g.begins;
      rest = g.rest;
      parted = ap (λ l. s ++ l) g.parted ∙ sym (append_assoc s g.begins g.rest);
      given = Appends-trans a b c s g.begins p g.given;
    }

module _ {T E : Type 0} where
  pub written_on : (r : Result T E) (a b c : Option (List ℕ)) (s t : List ℕ) → Appends a b s → OnOk r (Appends b c t) → OnOk r (Appends a c (s ++ t))
  written_on (Ok v) a b c s t p q = Appends-trans a b c s t p q
  written_on (Err e) a b c s t p q = tt

  pub given_on : (r : Result T E) (a b c : Option (List ℕ)) (s t : List ℕ) → Appends a b s → OnErr r (AppendsBeginning b c t) → OnErr r (AppendsBeginning a c (s ++ t))
  given_on (Ok v) a b c s t p g = tt
  given_on (Err e) a b c s t p g = given_before a b c s t p g
