-- A column count and a row number are told by their parts.
use Prim.Native.Nat.{ℕ}
use mathlib.Core.Path.{◌≡◌, ap}
use Rattle.std.specs.Prelude.{Bool, ℤ}
use Rattle.row_head.specs.declared.ColumnCount.{ColumnCount}
use Rattle.row_head.specs.declared.RowNumber.{RowNumber}
use Rattle.row_head.specs.Head.{count_told, row_told}

pub count-parts : {n m : ℕ} {s t : Bool} → count_told n s ≡ count_told m t → (n ≡ m) × (s ≡ t)
count-parts {n} {m} {s} {t} e =
    let f : ◌≡◌ {A = ColumnCount} (record { columns = n; shortest = s }) (record { columns = m; shortest = t }) = cc in
    (ap (λ x. x.columns) f, ap (λ x. x.shortest) f)

pub row-parts : {n m : ℤ} {s t : Bool} → row_told n s ≡ row_told m t → (n ≡ m) × (s ≡ t)
row-parts {n} {m} {s} {t} e =
    let f : ◌≡◌ {A = RowNumber} (record { number = n; shortest = s }) (record { number = m; shortest = t }) = cc in
    (ap (λ x. x.number) f, ap (λ x. x.shortest) f)
