-- The word, five numbers and the line's end, one behind the other.
use Rattle.std.proofs.Common.{ℕ, List, [], ◌∷◌, ◌++◌}
use Rattle.answers.specs.declared.Numbers.{Numbers}
use Rattle.print.specs.Gathered.{HoldsBeginning, Gathered}
use Rattle.print.specs.Text.{field_of}
use Rattle.print.proofs.Gathering.{failed, failed_on, ok_on, on, put_before, put_some}
use Rattle.print.proofs.out.refused.Goals as goal

-- what is put with the first call, the first two, and so on
module _ (r : Numbers) where
  abbrev to_0 : List ℕ
  to_0 = 0x20 ∷ 0x72 ∷ 0x65 ∷ 0x66 ∷ 0x75 ∷ 0x73 ∷ 0x65 ∷ 0x64 ∷ []

  abbrev to_1 : List ℕ
  to_1 = to_0 ++ field_of r.number

  abbrev to_2 : List ℕ
  to_2 = to_1 ++ field_of r.page

  abbrev to_3 : List ℕ
  to_3 = to_2 ++ field_of r.cell

  abbrev to_4 : List ℕ
  to_4 = to_3 ++ field_of r.column

  abbrev to_5 : List ℕ
  to_5 = to_4 ++ field_of r.mark

  end : (x : Gathered) (h : List ℕ) → HoldsBeginning to_5 x h → HoldsBeginning (to_5 ++ 0x0a ∷ []) x h
  end x h b = put_some to_5 (0x0a ∷ []) x h b

  from_4 : (x : Gathered) (h : List ℕ) → HoldsBeginning to_4 x h → HoldsBeginning (to_5 ++ 0x0a ∷ []) x h
  from_4 x h b = end x h (put_some to_4 (field_of r.mark) x h b)

  from_3 : (x : Gathered) (h : List ℕ) → HoldsBeginning to_3 x h → HoldsBeginning (to_5 ++ 0x0a ∷ []) x h
  from_3 x h b = from_4 x h (put_some to_3 (field_of r.column) x h b)

  from_2 : (x : Gathered) (h : List ℕ) → HoldsBeginning to_2 x h → HoldsBeginning (to_5 ++ 0x0a ∷ []) x h
  from_2 x h b = from_3 x h (put_some to_2 (field_of r.cell) x h b)

  from_1 : (x : Gathered) (h : List ℕ) → HoldsBeginning to_1 x h → HoldsBeginning (to_5 ++ 0x0a ∷ []) x h
  from_1 x h b = from_2 x h (put_some to_1 (field_of r.page) x h b)

  from_0 : (x : Gathered) (h : List ℕ) → HoldsBeginning to_0 x h → HoldsBeginning (to_5 ++ 0x0a ∷ []) x h
  from_0 x h b = from_1 x h (put_some to_0 (field_of r.number) x h b)

pub returns-in_err-n-clause-err : goal.returns-in_err-n-clause-err
returns-in_err-n-clause-err g c = failed _ _ (from_0 c.args.numbers _ _ c.in_err-n.ensures.err)

pub returns-in_err-n-2-clause-err : goal.returns-in_err-n-2-clause-err
returns-in_err-n-2-clause-err g c =
    failed _ _
    (from_1 c.args.numbers _ _ (put_before (to_0 c.args.numbers) (field_of c.args.numbers.number) _ _ _ c.in_ok-n.ensures.ok c.in_err-n-2.ensures.err))

pub returns-in_err-n-3-clause-err : goal.returns-in_err-n-3-clause-err
returns-in_err-n-3-clause-err g c =
    failed _ _
    (from_2 c.args.numbers _ _ (put_before (to_1 c.args.numbers) (field_of c.args.numbers.page) _ _ _ (on (to_0 c.args.numbers) (field_of c.args.numbers.number) _ _ _ c.in_ok-n.ensures.ok c.in_ok-n-2.ensures.ok) c.in_err-n-3.ensures.err))

pub returns-in_err-n-4-clause-err : goal.returns-in_err-n-4-clause-err
returns-in_err-n-4-clause-err g c =
    failed _ _
    (from_3 c.args.numbers _ _ (put_before (to_2 c.args.numbers) (field_of c.args.numbers.cell) _ _ _ (on (to_1 c.args.numbers) (field_of c.args.numbers.page) _ _ _ (on (to_0 c.args.numbers) (field_of c.args.numbers.number) _ _ _ c.in_ok-n.ensures.ok c.in_ok-n-2.ensures.ok) c.in_ok-n-3.ensures.ok) c.in_err-n-4.ensures.err))

pub returns-in_err-n-5-clause-err : goal.returns-in_err-n-5-clause-err
returns-in_err-n-5-clause-err g c =
    failed _ _
    (from_4 c.args.numbers _ _ (put_before (to_3 c.args.numbers) (field_of c.args.numbers.column) _ _ _ (on (to_2 c.args.numbers) (field_of c.args.numbers.cell) _ _ _ (on (to_1 c.args.numbers) (field_of c.args.numbers.page) _ _ _ (on (to_0 c.args.numbers) (field_of c.args.numbers.number) _ _ _ c.in_ok-n.ensures.ok c.in_ok-n-2.ensures.ok) c.in_ok-n-3.ensures.ok) c.in_ok-n-4.ensures.ok) c.in_err-n-5.ensures.err))

pub returns-in_err-n-6-clause-err : goal.returns-in_err-n-6-clause-err
returns-in_err-n-6-clause-err g c =
    failed _ _
    (end c.args.numbers _ _ (put_before (to_4 c.args.numbers) (field_of c.args.numbers.mark) _ _ _ (on (to_3 c.args.numbers) (field_of c.args.numbers.column) _ _ _ (on (to_2 c.args.numbers) (field_of c.args.numbers.cell) _ _ _ (on (to_1 c.args.numbers) (field_of c.args.numbers.page) _ _ _ (on (to_0 c.args.numbers) (field_of c.args.numbers.number) _ _ _ c.in_ok-n.ensures.ok c.in_ok-n-2.ensures.ok) c.in_ok-n-3.ensures.ok) c.in_ok-n-4.ensures.ok) c.in_ok-n-5.ensures.ok) c.in_err-n-6.ensures.err))

pub returns-clause-ok : goal.returns-clause-ok
returns-clause-ok g c = ok_on _ (to_5 c.args.numbers) (0x0a ∷ []) _ _ _ (on (to_4 c.args.numbers) (field_of c.args.numbers.mark) _ _ _ (on (to_3 c.args.numbers) (field_of c.args.numbers.column) _ _ _ (on (to_2 c.args.numbers) (field_of c.args.numbers.cell) _ _ _ (on (to_1 c.args.numbers) (field_of c.args.numbers.page) _ _ _ (on (to_0 c.args.numbers) (field_of c.args.numbers.number) _ _ _ c.in_ok-n.ensures.ok c.in_ok-n-2.ensures.ok) c.in_ok-n-3.ensures.ok) c.in_ok-n-4.ensures.ok) c.in_ok-n-5.ensures.ok) c.in_ok-n-6.ensures.ok) c.text-2.ensures.ok

pub returns-clause-err : goal.returns-clause-err
returns-clause-err g c = failed_on _ (to_5 c.args.numbers) (0x0a ∷ []) _ _ _ (on (to_4 c.args.numbers) (field_of c.args.numbers.mark) _ _ _ (on (to_3 c.args.numbers) (field_of c.args.numbers.column) _ _ _ (on (to_2 c.args.numbers) (field_of c.args.numbers.cell) _ _ _ (on (to_1 c.args.numbers) (field_of c.args.numbers.page) _ _ _ (on (to_0 c.args.numbers) (field_of c.args.numbers.number) _ _ _ c.in_ok-n.ensures.ok c.in_ok-n-2.ensures.ok) c.in_ok-n-3.ensures.ok) c.in_ok-n-4.ensures.ok) c.in_ok-n-5.ensures.ok) c.in_ok-n-6.ensures.ok) c.text-2.ensures.err
