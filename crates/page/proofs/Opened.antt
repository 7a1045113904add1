-- What is so of a page that lies in the bytes: its end is in it, and its pointers end by there.
use Prim.Native.Nat.{ℕ, ◌+◌, ◌≤◌, ◌<◌}
use mathlib.Core.Path.{◌≡◌, refl}
use mathlib.Core.List.{List}
use mathlib.Core.Bool.{Bool, true, false}
use lib.Dec.{ltb, leb}
use lib.ListN.{length}
use borrow.Author.Tests.{ltb-false, leb-true, lt-ltb, le-ltb, lt-leb, le-leb}
use Rattle.laws.specs.Pick.{pick}
use Rattle.laws.proofs.Never.{never}
use Rattle.page.specs.declared.Open.{Open}
use Rattle.page.specs.Head.{pointers_end}
use Rattle.page.specs.Open.{lies_in}

pub record Opened (o : Open) (db : List ℕ) : Type 0 where
  pub there : o.at + o.size ≤ length db
  pub short : o.end ≤ o.size
  pub pointers : pointers_end o.from o.kind o.cells ≤ o.end

-- whether it lies there, test by test
module _ (bytes : ℕ) (o : Open) where
  pub lies-not : bytes < o.at + o.size → lies_in bytes o ≡ false
  lies-not h = rw (lt-ltb bytes (o.at + o.size) h)

  module _ (there : o.at + o.size ≤ bytes) where
    pub ends-late : o.size < o.end → lies_in bytes o ≡ false
    ends-late h = rw (le-ltb bytes (o.at + o.size) there, lt-ltb o.size o.end h)

    module _ (short : o.end ≤ o.size) where
      pub pointers-pass : o.end < pointers_end o.from o.kind o.cells → lies_in bytes o ≡ false
      pointers-pass h =
          rw (le-ltb bytes (o.at + o.size) there, le-ltb o.size o.end short, lt-leb (pointers_end o.from o.kind o.cells) o.end h)

      pub lies-there : pointers_end o.from o.kind o.cells ≤ o.end → lies_in bytes o ≡ true
      lies-there h =
          rw (le-ltb bytes (o.at + o.size) there, le-ltb o.size o.end short, le-leb (pointers_end o.from o.kind o.cells) o.end h)

-- it lies there just where these three hold
pub lies-opened : (o : Open) (db : List ℕ) → lies_in (length db) o ≡ true → Opened o db
lies-opened o db e = go (ltb (length db) (o.at + o.size)) (ltb o.size o.end) refl refl e
  where
    go : (a b : Bool) → ltb (length db) (o.at + o.size) ≡ a → ltb o.size o.end ≡ b
        → pick a false (pick b false (leb (pointers_end o.from o.kind o.cells) o.end)) ≡ true → Opened o db
    go true b i j d = never cc
    go false true i j d = never cc
    go false false i j d =
        record {
          there = ltb-false (length db) (o.at + o.size) i;
          short = ltb-false o.size o.end j;
          pointers = leb-true (pointers_end o.from o.kind o.cells) o.end d;
        }

pub opened-lies : (o : Open) (db : List ℕ) → Opened o db → lies_in (length db) o ≡ true
opened-lies o db is = lies-there (length db) o is.there is.short is.pointers
