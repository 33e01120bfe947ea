-- The numbers of an answer say which answer it is: each has its way back.
use Prim.Native.Nat.{ℕ, ◌≤◌}
use native.Mathlib.Omega.{arith}
use mathlib.Core.Path.{◌≡◌, refl, sym, ap, ◌∙◌}
use mathlib.Core.Bool.{cond}
use mathlib.Core.List.{List}
use lib.Dec.{eqb}
use lib.ListN.{get_or}
use Rattle.std.specs.Prelude.{Option, Some, None, Result, Ok, Err}
use Rattle.format.specs.declared.Place.{Place}
use Rattle.format.specs.declared.FieldNumber.{FieldNumber}
use Rattle.format.specs.declared.WriteError.{WriteError, TheVariants.UnknownMode, TheVariants.Malformed, TheVariants.Forbidden, TheVariants.LongContent, TheVariants.Uneven, TheVariants.LongFile, TheVariants.NoRoom}
use Rattle.format.specs.declared.SearchError.{SearchError, TheVariants.Malformed as Unfit, TheVariants.Twice, TheVariants.Missing}
use Rattle.format.specs.declared.Part.{Part}
use Rattle.format.specs.Table.{Bytes}
use Rattle.format.specs.Dialect.{dialect}
use Rattle.format.specs.Answer.{search_numbers, writer_numbers, part_numbers}
use Rattle.format.specs.Reading.{Refused, refusal_1, refusal_2, in_file}
use Rattle.format.proofs.Refusals.{refusal-row, row_number}

-- what has a way back is one
one-by : {A : Type 0} (f : A → List ℕ) (g : List ℕ → A) → ((x : A) → g (f x) ≡ x) → (x y : A) → f x ≡ f y → x ≡ y
one-by f g back x y e = sym (back x) ∙ ap g e ∙ back y

found : List ℕ → Result FieldNumber SearchError
found l =
    let n = get_or l 0 0 in
    let k : FieldNumber = record { 0 = get_or l 3 0 } in
    cond (eqb n 0) (Ok k) (cond (eqb n 14) (Err Unfit) (cond (eqb n 16) (Err (Twice k)) (Err Missing)))

pub one-search-numbers : (x y : Result FieldNumber SearchError) → search_numbers x ≡ search_numbers y → x ≡ y
unfolding found
one-search-numbers = one-by search_numbers found back
  where
    back : (x : Result FieldNumber SearchError) → found (search_numbers x) ≡ x
    back (Ok k) = refl
    back (Err Unfit) = refl
    back (Err (Twice k)) = refl
    back (Err Missing) = refl

written : List ℕ → Result ℕ WriteError
written l =
    let n = get_or l 0 0 in
    let k = get_or l 3 0 in
    cond (eqb n 0) (Ok (get_or l 4 0))
    (Err (cond (eqb n 1) UnknownMode
    (cond (eqb n 14) Malformed
    (cond (eqb n 3) (Forbidden (record { 0 = k }))
    (cond (eqb n 9) (LongContent (record { 0 = k }))
    (cond (eqb n 10) (Uneven (record { 0 = k }))
    (cond (eqb n 2) LongFile NoRoom)))))))

pub one-write-numbers : (x y : Result ℕ WriteError) → writer_numbers x ≡ writer_numbers y → x ≡ y
unfolding written
one-write-numbers = one-by writer_numbers written back
  where
    back : (x : Result ℕ WriteError) → written (writer_numbers x) ≡ x
    back (Ok n) = refl
    back (Err UnknownMode) = refl
    back (Err Malformed) = refl
    back (Err (Forbidden b)) = refl
    back (Err (LongContent k)) = refl
    back (Err (Uneven r)) = refl
    back (Err LongFile) = refl
    back (Err NoRoom) = refl

part : List ℕ → Option Part
part l = cond (eqb (get_or l 0 0) 0) None (Some (record { start = record { 0 = get_or l 1 0 }; length = get_or l 2 0 }))

pub one-part-numbers : (x y : Option Part) → part_numbers x ≡ part_numbers y → x ≡ y
unfolding part
one-part-numbers = one-by part_numbers part back
  where
    back : (x : Option Part) → part (part_numbers x) ≡ x
    back (Some p) = refl
    back None = refl

-- a refusal's number is not 0: so the numbers say whether a file is accepted
pub refused-number : {b sum n : ℕ} {f : Bytes} {p : Place} → Refused b sum f n p → 1 ≤ n
refused-number (refusal_1 v) = omega arith
refused-number (refusal_2 v l) = omega arith
refused-number {b} {sum} (in_file v l x q) = let w = (row_number (refusal-row (dialect b sum) v.0 x)).0 in omega arith
