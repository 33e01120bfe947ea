-- Accepted and refused files: what is judged before reading, and the table of places from 1 to 10.
use Prim.Native.Nat.{ℕ, ◌≤◌, ◌<◌}
use native.Mathlib.Omega.{arith}
use mathlib.Core.Path.{◌≡◌, refl, sym, subst}
use mathlib.Core.Bool.{Bool, true, false}
use mathlib.Core.List.{◌++◌}
use lib.Dec.{T, leb}
use lib.ListN.{length, length-append}
use borrow.Author.Tests.{leb-true, leb-false}
use Rattle.format.specs.declared.Place.{Place}
use Rattle.format.specs.Table.{Bytes, Table}
use Rattle.format.specs.Dialect.{dialect, delimits, Valid}
use Rattle.format.specs.House.{file_limit}
use Rattle.format.specs.Place.{place_of, nowhere}
use Rattle.format.specs.Refusal.{Refusal}
use Rattle.format.specs.Reading.{Reading, Accepted, Refused, refusal_1, refusal_2, in_file}
use Rattle.format.proofs.Places.{PlaceWithin, place-within}
use Rattle.format.proofs.Refusals.{RestOf, refusal-rests, Row, row_number, refusal-row}

-- What is judged before reading: 1, else 2, else nothing, for which 0 stands.
pub data Before (b sum : ℕ) (f : Bytes) : ℕ → Type 0 where
  unknown : (Valid b sum → ⊥) → Before b sum f 1
  too_long : Valid b sum → file_limit < length f → Before b sum f 2
  ready : Valid b sum → length f ≤ file_limit → Before b sum f 0

module _ {b sum : ℕ} {f : Bytes} where
  -- not more than one of the three holds, and (`some-before`) one does
  pub one-before : {n m : ℕ} → Before b sum f n → Before b sum f m → n ≡ m
  one-before (unknown n) (unknown m) = refl
  one-before (unknown n) (too_long v l) = absurd (n v)
  one-before (unknown n) (ready v l) = absurd (n v)
  one-before (too_long v l) (unknown n) = absurd (n v)
  one-before (too_long v l) (too_long w k) = refl
  one-before (too_long v l) (ready w k) = absurd (omega arith)
  one-before (ready v l) (unknown n) = absurd (n v)
  one-before (ready v l) (too_long w k) = absurd (omega arith)
  one-before (ready v l) (ready w k) = refl

  -- the first two are refusals; behind them a reading is accepted, and a refusal is one of the file
  pub refused-before : {n : ℕ} → Before b sum f n → 1 ≤ n → Refused b sum f n nowhere
  refused-before (unknown n) h = refusal_1 n
  refused-before (too_long v l) h = refusal_2 v (omega arith)
  refused-before (ready v l) h = absurd (omega arith)

  pub accepted-reading : {t : Table} {r : ℕ} → Before b sum f 0 → Reading (dialect b sum) f t r → Accepted b sum f t r
  accepted-reading (ready v l) p = record { valid = v; short = omega arith; reading = p }

  pub refused-refusal : {n : ℕ} {found named : Bytes} → Before b sum f 0 → Refusal (dialect b sum) n f found named → Refused b sum f n (place_of f named)
  refused-refusal (ready v l) x = in_file v (omega arith) x refl

  pub accepted-before : {t : Table} {r : ℕ} → Accepted b sum f t r → Before b sum f 0
  accepted-before a = ready a.valid (omega (arith, a.short))

pub some-before : (b sum : ℕ) (f : Bytes) → (n : ℕ) × Before b sum f n
some-before b sum f = go (delimits b) (leb sum 15) (leb (length f) file_limit) refl refl refl
  where
    go :
        (x y z : Bool) → delimits b ≡ x → leb sum 15 ≡ y → leb (length f) file_limit ≡ z
        → (n : ℕ) × Before b sum f n
    go false y z p q r = (1, unknown (λ v. subst T p v.0))
    go true false z p q r = (1, unknown (λ v. omega (arith, v.1, leb-false sum 15 q)))
    go true true true p q r = (0, ready (subst T (sym p) tt, leb-true sum 15 q) (leb-true (length f) file_limit r))
    go true true false p q r = (2, too_long (subst T (sym p) tt, leb-true sum 15 q) (leb-false (length f) file_limit r))

-- The table's rows from 1 on: the number and the place named, which for 1 and 2 is 0, 0, 0.
pub data RefusedRow (b sum : ℕ) (f : Bytes) : ℕ → Place → Type 0 where
  row_1_2 : {n : ℕ} → Before b sum f n → 1 ≤ n → RefusedRow b sum f n nowhere
  row_3_10 : {n : ℕ} {p : Place} {found named : Bytes}
      → Before b sum f 0 → Row (dialect b sum) f n found named → RestOf f named → place_of f named ≡ p → RefusedRow b sum f n p

pub refused-row : {b sum : ℕ} {f : Bytes} {n : ℕ} {p : Place} → Refused b sum f n p → RefusedRow b sum f n p
refused-row (refusal_1 n) = row_1_2 (unknown n) (omega arith)
refused-row (refusal_2 v l) = row_1_2 (too_long v (omega arith)) (omega arith)
refused-row {b} {sum} (in_file v l x q) = row_3_10 (ready v (omega arith)) (refusal-row (dialect b sum) v.0 x) (refusal-rests x).1 q

-- an accepted file is not refused by 1 or 2
pub accepted-not-before : {b sum : ℕ} {f : Bytes} {t : Table} {r n : ℕ} {p : Place} → Accepted b sum f t r → Refused b sum f n p → 3 ≤ n
accepted-not-before {b} {sum} {f} {n} {p} a x = go (refused-row x)
  where
    go : {n : ℕ} {p : Place} → RefusedRow b sum f n p → 3 ≤ n
    go (row_1_2 y h) = absurd (omega (arith, one-before (accepted-before a) y))
    go (row_3_10 y k s q) = (row_number k).0

-- the place that is named is in the file
pub refused-within : {b sum : ℕ} {f : Bytes} {n : ℕ} {p : Place} → Refused b sum f n p → PlaceWithin (length f) p
refused-within {b} {sum} {f} x = go (refused-row x)
  where
    go : {n : ℕ} {p : Place} → RefusedRow b sum f n p → PlaceWithin (length f) p
    go (row_1_2 y h) = record { line = omega arith; column = omega arith; byte = omega arith }
    go (row_3_10 {named} y k (s, e) q) = rw (← q, e) (wider (place-within s named))
      where
        wider : {p : Place} → PlaceWithin (length s) p → PlaceWithin (length (s ++ named)) p
        wider w =
            let n = length-append s named in
            record { line = omega (arith, w.line, n); column = omega (arith, w.column, n); byte = omega (arith, w.byte, n) }
