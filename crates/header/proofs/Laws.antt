-- What a caller has of a header: the bounds of its sizes, and what its checks and answers say.
use Prim.Native.Nat.{ℕ, zero, suc, ◌≤◌}
use mathlib.Core.Path.{◌≡◌, refl, sym, ◌∙◌}
use mathlib.Core.List.{List, [], ◌∷◌, ◌++◌}
use mathlib.Core.Bool.{Bool, true, false}
use native.Mathlib.Nat.{le_refl, le_of_lt}
use native.Mathlib.Omega.{arith}
use lib.Dec.{eqb}
use lib.ListN.{length, drop}
use borrow.Author.Tests.{ltb-false}
use Rattle.laws.specs.Pick.{pick}
use Rattle.laws.proofs.Never.{never}
use Rattle.fields.proofs.Laws.{Bytes, unsigned-below, bytes_drop}
use Rattle.reading.specs.declared.Reading.{Reading}
use Rattle.reading.specs.declared.Reading.TheVariants.{Old as old, File as file}
use Rattle.answers.specs.declared.Flaw.{Flaw}
use Rattle.answers.specs.Checks.{Check, check, first}
use Rattle.header.specs.declared.Header.{Header}
use Rattle.header.specs.declared.Sizes.{Sizes}
use Rattle.header.specs.Header.{field_of, page_size_of, usable, both_checks, file_checks, checked_of, fields_in, header_by, header_of, sizes_in, sizes_by, sizes_of}
use Rattle.std.specs.Prelude.{Err, Ok, Result, ⊤}

-- SIZES

pick-below : (b : Bool) {x y n : ℕ} → x ≤ n → y ≤ n → pick b x y ≤ n
pick-below true h k = h
pick-below false h k = k

-- a field of two bytes is below 256 to the second
pub page-size-below : (db : List ℕ) → Bytes db → page_size_of db ≤ 65536
unfolding page_size_of field_of
page-size-below db bytes =
    pick-below (eqb (field_of 0 db) 1) (le_refl 65536)
    (le_of_lt (unsigned-below 2 (drop 16 db) (bytes_drop 16 db bytes)))

pub usable-below : (db : List ℕ) → usable db ≤ page_size_of db
unfolding usable
usable-below db = omega arith

-- LISTS OF CHECKS

-- the test of check k; a list that is passed has none that is given
abbrev pub given : List Check → ℕ → Bool
given [] k = false
given (check flaw b ∷ cs) zero = b
given (check flaw b ∷ cs) (suc k) = given cs k

pub passes : (cs : List Check) → first cs ≡ Ok tt → (k : ℕ) → given cs k ≡ false
passes [] h k = refl
passes (check flaw true ∷ cs) h k = let z : ◌≡◌ {A = ℕ} 0 1 = cc in absurd (omega arith)
passes (check flaw false ∷ cs) h zero = refl
passes (check flaw false ∷ cs) h (suc k) = passes cs h k

pub passed_then : (cs ds : List Check) → first cs ≡ Ok tt → first (cs ++ ds) ≡ first ds
passed_then [] ds h = refl
passed_then (check flaw true ∷ cs) ds h = let z : ◌≡◌ {A = ℕ} 0 1 = cc in absurd (omega arith)
passed_then (check flaw false ∷ cs) ds h = passed_then cs ds h

pub failed-then : (cs ds : List Check) (flaw : Flaw) → first cs ≡ Err flaw → first (cs ++ ds) ≡ Err flaw
failed-then [] ds r h = let z : ◌≡◌ {A = ℕ} 0 1 = cc in absurd (omega arith)
failed-then (check flaw true ∷ cs) ds r h = h
failed-then (check flaw false ∷ cs) ds r h = failed-then cs ds r h

-- ACCEPTANCE

-- the checks of both readings come first
module _ (db : List ℕ) where
  pub fails : (r : Reading) (flaw : Flaw) → first (both_checks db) ≡ Err flaw → Err flaw ≡ checked_of r db
  unfolding checked_of
  fails old flaw h = sym h
  fails file flaw h = sym (failed-then (both_checks db) (file_checks db) flaw h)

  pub goes_on : first (both_checks db) ≡ Ok tt → checked_of file db ≡ first (file_checks db)
  unfolding checked_of
  goes_on h = passed_then (both_checks db) (file_checks db) h

-- what the file reading lets pass, the old one does
pub old-passed : (db : List ℕ) → checked_of file db ≡ Ok tt → checked_of old db ≡ Ok tt
unfolding checked_of
old-passed db p = go (first (both_checks db)) refl
  where
    go : (x : Result ⊤ Flaw) → first (both_checks db) ≡ x → first (both_checks db) ≡ Ok tt
    go (Ok tt) i = i
    go (Err flaw) i = let e = sym (failed-then (both_checks db) (file_checks db) flaw i) ∙ p in never cc

pub passed-limit : (r : Reading) (db : List ℕ) → checked_of r db ≡ Ok tt → length db ≤ 1073741824
unfolding checked_of
passed-limit old db h = ltb-false 1073741824 (length db) (passes (both_checks db) h 0)
passed-limit file db h = ltb-false 1073741824 (length db) (passes (both_checks db ++ file_checks db) h 0)

pub passed_length : (r : Reading) (db : List ℕ) → checked_of r db ≡ Ok tt → 100 ≤ length db
unfolding checked_of
passed_length old db h = ltb-false (length db) 100 (passes (both_checks db) h 2)
passed_length file db h = ltb-false (length db) 100 (passes (both_checks db ++ file_checks db) h 2)

pub passed-usable : (db : List ℕ) → checked_of file db ≡ Ok tt → 480 ≤ usable db
unfolding checked_of
passed-usable db h = ltb-false (usable db) 480 (passes (both_checks db ++ file_checks db) h 5)

-- ANSWERS

header-by-shown : (t : Header) (k : Result ⊤ Flaw) (h : Header) → header_by t k ≡ Ok h → (k ≡ Ok tt) × (h ≡ t)
header-by-shown t (Ok tt) h e = (refl, cc)
header-by-shown t (Err flaw) h e = let z : ◌≡◌ {A = ℕ} 0 1 = cc in absurd (omega arith)

header-by-refused : (t : Header) (k : Result ⊤ Flaw) (flaw : Flaw) → header_by t k ≡ Err flaw → k ≡ Err flaw
header-by-refused t (Ok tt) flaw e = let z : ◌≡◌ {A = ℕ} 0 1 = cc in absurd (omega arith)
header-by-refused t (Err other) flaw e = cc

sizes-by-shown : (t : Sizes) (k : Result ⊤ Flaw) (s : Sizes) → sizes_by t k ≡ Ok s → (k ≡ Ok tt) × (s ≡ t)
sizes-by-shown t (Ok tt) s e = (refl, cc)
sizes-by-shown t (Err flaw) s e = let z : ◌≡◌ {A = ℕ} 0 1 = cc in absurd (omega arith)

sizes-by-refused : (t : Sizes) (k : Result ⊤ Flaw) (flaw : Flaw) → sizes_by t k ≡ Err flaw → k ≡ Err flaw
sizes-by-refused t (Ok tt) flaw e = let z : ◌≡◌ {A = ℕ} 0 1 = cc in absurd (omega arith)
sizes-by-refused t (Err other) flaw e = cc

module _ (r : Reading) (db : List ℕ) where
  pub header-shown : (h : Header) → header_of r db ≡ Ok h → (checked_of r db ≡ Ok tt) × (h ≡ fields_in r db)
  unfolding header_of
  header-shown h e = header-by-shown (fields_in r db) (checked_of r db) h e

  pub header_refused : (flaw : Flaw) → header_of r db ≡ Err flaw → checked_of r db ≡ Err flaw
  unfolding header_of
  header_refused flaw e = header-by-refused (fields_in r db) (checked_of r db) flaw e

  pub sizes-shown : (s : Sizes) → sizes_of r db ≡ Ok s → (checked_of r db ≡ Ok tt) × (s ≡ sizes_in r db)
  unfolding sizes_of
  sizes-shown s e = sizes-by-shown (sizes_in r db) (checked_of r db) s e

  pub sizes-passed : checked_of r db ≡ Ok tt → sizes_of r db ≡ Ok (sizes_in r db)
  unfolding sizes_of
  sizes-passed p = rw p

  pub sizes-refused : (flaw : Flaw) → sizes_of r db ≡ Err flaw → checked_of r db ≡ Err flaw
  unfolding sizes_of
  sizes-refused flaw e = sizes-by-refused (sizes_in r db) (checked_of r db) flaw e
