-- Laws of the calls: any two outcomes coincide, the table that comes out, and that the room is enough.
use Prim.Native.Nat.{ℕ, ◌+◌, ◌≤◌}
use native.Mathlib.Omega.{arith}
use mathlib.Core.Path.{◌≡◌, refl, ap, subst}
use mathlib.Core.List.{List, flatten}
use mathlib.Core.Logic.{◌⊎◌, inl, inr}
use lib.ListN.{length, take}
use lib.Seq.{take-append_seam}
use Rattle.format.specs.declared.Totals.{Totals}
use Rattle.format.specs.declared.Answer.{Answer}
use Rattle.format.specs.Answer.{accepted_as, refused_by}
use Rattle.format.specs.Table.{Bytes, Table}
use Rattle.format.specs.Memory.{text_of, ends_of, rows_of, WellFormed, table_of}
use Rattle.format.specs.Place.{nowhere}
use Rattle.format.specs.Reading.{Accepted}
use Rattle.format.proofs.CanHold.{reading-can-hold}
use Rattle.format.proofs.Memory.{length-lengths, table-well-formed, table-back}
use Rattle.format.proofs.Numbers.{refused-number}
use Rattle.format.proofs.Room.{room-enough as sizes}
use Rattle.steps.proofs.Theorems.{one-accepted, one-refused, never_both}
use Rattle.pieces.specs.Answers.{Answers, accepted, refused}
use Rattle.pieces.proofs.Stands.{one_answer}
use Rattle.format.specs.Filling.{over}
use Rattle.reader.specs.Read.{Room, NoRoom, no_text, no_ends, no_rows, ReadOutcome}

-- the tests of room exclude each other
module _ {t : Table} {text : Bytes} {ends rows : List ℕ} where
  one-room : {n m : ℕ} → NoRoom t text ends rows n → NoRoom t text ends rows m → n ≡ m
  one-room (no_text h) (no_text i) = refl
  one-room (no_text h) (no_ends i j) = absurd (omega arith)
  one-room (no_text h) (no_rows i j k) = absurd (omega arith)
  one-room (no_ends g h) (no_text i) = absurd (omega arith)
  one-room (no_ends g h) (no_ends i j) = refl
  one-room (no_ends g h) (no_rows i j k) = absurd (omega arith)
  one-room (no_rows f g h) (no_text i) = absurd (omega arith)
  one-room (no_rows f g h) (no_ends i j) = absurd (omega arith)
  one-room (no_rows f g h) (no_rows i j k) = refl

  -- their numbers are 11 to 13
  pub room-number : {n : ℕ} → NoRoom t text ends rows n → (11 ≤ n) × (n ≤ 13)
  room-number (no_text h) = (omega arith, omega arith)
  room-number (no_ends g h) = (omega arith, omega arith)
  room-number (no_rows f g h) = (omega arith, omega arith)

  room-or-not : {n : ℕ} → Room t text ends rows → NoRoom t text ends rows n → ⊥
  room-or-not r (no_text h) = omega (arith, r.for_text)
  room-or-not r (no_ends g h) = omega (arith, r.for_ends)
  room-or-not r (no_rows f g h) = omega (arith, r.for_rows)

module _ {b sum : ℕ} {f text : Bytes} {ends rows : List ℕ} where
  -- any two outcomes that the promise allows are equal, buffers included
  pub one-outcome :
      {a a' : Answer} {x x' : Bytes} {y y' z z' : List ℕ}
      → ReadOutcome b sum f text ends rows a x y z → ReadOutcome b sum f text ends rows a' x' y' z' → (a ≡ a') × (x ≡ x') × (y ≡ y') × (z ≡ z')
  one-outcome (ReadOutcome.refused h) (ReadOutcome.refused i) = let e = one-refused h i in ((λ j. refused_by (e.0 j) (e.1 j)), refl, refl, refl)
  one-outcome (ReadOutcome.refused h) (ReadOutcome.no_room i k) = absurd (never_both i h)
  one-outcome (ReadOutcome.refused h) (ReadOutcome.filled i k) = absurd (never_both i h)
  one-outcome (ReadOutcome.no_room h k) (ReadOutcome.refused i) = absurd (never_both h i)
  one-outcome (ReadOutcome.no_room {n} h k) (ReadOutcome.no_room i l) =
      let e = one-accepted h i in
      let s = one-room (subst (λ (t : Table). NoRoom t text ends rows n) e.0 k) l in
      (ap (λ (m : ℕ). refused_by m nowhere) s, refl, refl, refl)
  one-outcome (ReadOutcome.no_room h k) (ReadOutcome.filled {t} i l) =
      absurd (room-or-not (subst (λ (u : Table). Room u text ends rows) (one-accepted i h).0 l) k)
  one-outcome (ReadOutcome.filled h k) (ReadOutcome.refused i) = absurd (never_both h i)
  one-outcome (ReadOutcome.filled h k) (ReadOutcome.no_room i l) =
      absurd (room-or-not (subst (λ (u : Table). Room u text ends rows) (one-accepted h i).0 k) l)
  one-outcome (ReadOutcome.filled h k) (ReadOutcome.filled i l) =
      let e = one-accepted h i in (
        (λ j. accepted_as (e.0 j) (e.1 j)),
        ap (λ (t : Table). over (text_of t) text) e.0,
        ap (λ (t : Table). over (ends_of t) ends) e.0,
        ap (λ (t : Table). over (rows_of t) rows) e.0,
      )

-- The check's answer is the reader's, 11 to 13 apart: those come where the check accepts.
pub check_is_read :
    {b sum : ℕ} {f text : Bytes} {ends rows : List ℕ} {a a' : Answer} {x : Bytes} {y z : List ℕ}
    → Answers b sum f a → ReadOutcome b sum f text ends rows a' x y z
    → (a ≡ a') ⊎ ((t : Table) × (r n : ℕ) × (a ≡ accepted_as t r) × NoRoom t text ends rows n × (a' ≡ refused_by n nowhere))
check_is_read h (ReadOutcome.refused i) = inl (one_answer h (refused i))
check_is_read h (ReadOutcome.no_room {t} {r} {n} i k) = inr (t, r, n, one_answer h (accepted i), k, refl)
check_is_read h (ReadOutcome.filled i k) = inl (one_answer h (accepted i))

-- what a read that is not refused has done
pub record Filled (b sum : ℕ) (f text : Bytes) (ends rows : List ℕ) (a : Answer) (x : Bytes) (y z : List ℕ) : Type 0 where
  pub table : Table
  pub report : ℕ
  pub accepted : Accepted b sum f table report
  pub room : Room table text ends rows
  pub answer_is : a ≡ accepted_as table report
  pub text_is : x ≡ over (text_of table) text
  pub ends_is : y ≡ over (ends_of table) ends
  pub rows_is : z ≡ over (rows_of table) rows

module _ {b sum : ℕ} {f text : Bytes} {ends rows : List ℕ} where
  pub not-refused :
      {a : Answer} {x : Bytes} {y z : List ℕ} → ReadOutcome b sum f text ends rows a x y z → a.refusal ≡ 0 → Filled b sum f text ends rows a x y z
  not-refused (ReadOutcome.refused h) e = absurd (omega (arith, refused-number h))
  not-refused (ReadOutcome.no_room h k) e = absurd (omega (arith, (room-number k).0))
  not-refused (ReadOutcome.filled {t} {r} h k) e =
      record { table = t; report = r; accepted = h; room = k; answer_is = refl; text_is = refl; ends_is = refl; rows_is = refl }

  -- a refusal leaves every buffer as it was
  pub refused-same :
      {a : Answer} {x : Bytes} {y z : List ℕ} → ReadOutcome b sum f text ends rows a x y z → (a.refusal ≡ 0 → ⊥) → (x ≡ text) × (y ≡ ends) × (z ≡ rows)
  refused-same (ReadOutcome.refused h) n = (refl, refl, refl)
  refused-same (ReadOutcome.no_room h k) n = (refl, refl, refl)
  refused-same (ReadOutcome.filled h k) n = absurd (n refl)

-- what is used of a buffer is the table's part of it
module _ (t : Table) where
  pub used-text : (text : Bytes) → take (length (text_of t)) (over (text_of t) text) ≡ text_of t
  used-text text = take-append_seam (text_of t) _

  pub used-ends : (ends : List ℕ) → take (length (flatten t)) (over (ends_of t) ends) ≡ ends_of t
  used-ends ends = rw (← length-lengths 0 (flatten t)) (take-append_seam (ends_of t) _)

  pub used-rows : (rows : List ℕ) → take (length t) (over (rows_of t) rows) ≡ rows_of t
  used-rows rows = rw (← length-lengths 0 t) (take-append_seam (rows_of t) _)

-- the used part of the three buffers is well formed, and is the grammar's table
pub record Holding (b sum : ℕ) (f : Bytes) (s : Totals) (x : Bytes) (y z : List ℕ) : Type 0 where
  pub table : Table
  pub accepted : Accepted b sum f table s.report
  pub table_is : table_of (take s.text x) (take s.fields.0 y) (take s.records z) ≡ table
  pub formed : WellFormed (take s.text x) (take s.fields.0 y) (take s.records z)

pub read_table :
    {b sum : ℕ} {f text : Bytes} {ends rows : List ℕ} {a : Answer} {x : Bytes} {y z : List ℕ}
    → ReadOutcome b sum f text ends rows a x y z → a.refusal ≡ 0 → Holding b sum f a.totals x y z
read_table (ReadOutcome.refused h) e = absurd (omega (arith, refused-number h))
read_table (ReadOutcome.no_room h k) e = absurd (omega (arith, (room-number k).0))
read_table {b} {sum} {text} {ends} {rows} (ReadOutcome.filled {t} h k) e =
    record {
      table = t;
      accepted = h;
      table_is = rw (used-text t text, used-ends t ends, used-rows t rows) (table-back t);
      formed = rw (used-text t text, used-ends t ends, used-rows t rows) (table-well-formed t (reading-can-hold h.reading).some_field);
    }

-- Text of the file's length, ends of one more and rows of the file's length are always enough: then the read is not refused for lack of room.
pub room-enough :
    {b sum : ℕ} {f : Bytes} {t : Table} {r : ℕ} {text : Bytes} {ends rows : List ℕ}
    → Accepted b sum f t r → length f ≤ length text → length f + 1 ≤ length ends → length f ≤ length rows → Room t text ends rows
room-enough h i j k =
    let w = sizes h.reading in
    record { for_text = omega (arith, w.text); for_ends = omega (arith, w.ends); for_rows = omega (arith, w.rows) }
