-- Outcomes of a read: from the check's answer to them, and the laws that two calls obey.
use Prim.Native.Nat.{ℕ, ◌≤◌, ◌<◌}
use native.Mathlib.Omega.{arith}
use mathlib.Core.Path.{◌≡◌, refl}
use mathlib.Core.List.{flatten}
use lib.ListN.{length}
use Rattle.format.specs.declared.Answer.{Answer}
use Rattle.format.specs.Answer.{accepted_as, refused_by}
use Rattle.format.specs.Table.{Bytes, Table}
use Rattle.format.specs.Dialect.{dialect}
use Rattle.format.specs.Place.{nowhere}
use Rattle.format.specs.Reading.{Accepted}
use Rattle.format.specs.Memory.{text_of, ends_of, rows_of}
use Rattle.steps.proofs.Verdicts.{reading-taken}
use Rattle.format.proofs.Memory.{length-lengths}
use Rattle.format.proofs.Numbers.{refused-number}
use Rattle.pieces.specs.Answers.{Answers, accepted, refused}
use Rattle.fill.specs.Fill.{text_read, ends_read, rows_read}
use Rattle.fill.specs.Buffers.{Lists}
use Rattle.reader.specs.Read.{NoRoom, no_text, no_ends, no_rows, ReadOutcome, Reads, WrittenOver}
use Rattle.fill.proofs.Flow.{filled}

-- what the second walk has to write is the table
pub record Walked (b sum : ℕ) (f : Bytes) (t : Table) : Type 0 where
  pub text_is : text_read (dialect b sum) f ≡ text_of t
  pub ends_is : ends_read (dialect b sum) f ≡ ends_of t
  pub rows_is : rows_read (dialect b sum) f ≡ rows_of t

pub walked : {b sum : ℕ} {f : Bytes} {t : Table} {r : ℕ} → Accepted b sum f t r → Walked b sum f t
walked {b} {sum} {f} {t} a =
    let (m, l, e) = reading-taken (dialect b sum) a.reading in
    let (x, y, z) = filled (dialect b sum) f t m l e in
    record { text_is = x; ends_is = y; rows_is = z }

-- what the check accepts, with its answer
pub data Takes (b sum : ℕ) (f : Bytes) : Answer → Type 0 where
  takes : {t : Table} {r : ℕ} → Accepted b sum f t r → Takes b sum f (accepted_as t r)

pub accepts-it : {b sum : ℕ} {f : Bytes} {a : Answer} → Answers b sum f a → a.refusal ≡ 0 → Takes b sum f a
accepts-it (accepted h) e = takes h
accepts-it (refused h) e = absurd (omega (arith, refused-number h))

-- the second walk has room
pub has_room :
    {b sum : ℕ} {f : Bytes} {a : Answer} {x y z : ℕ}
    → Takes b sum f a → a.totals.text ≤ x → a.totals.fields.0 ≤ y → a.totals.records ≤ z
    → (length (text_read (dialect b sum) f) ≤ x) × (length (ends_read (dialect b sum) f) ≤ y) × (length (rows_read (dialect b sum) f) ≤ z)
has_room (takes {t} h) i j k =
    let w = walked h in
    (rw w.text_is i, rw (w.ends_is, length-lengths 0 (flatten t)) j, rw (w.rows_is, length-lengths 0 t) k)

-- from the check's answer and the tests of room to the outcome
module _ {b sum : ℕ} {f : Bytes} {old : Lists} where
  -- a refusal of the check is the outcome
  pub declines : {a : Answer} → Answers b sum f a → (a.refusal ≡ 0 → ⊥) → Reads b sum f old a old
  declines (accepted h) n = absurd (n refl)
  declines (refused h) n = ReadOutcome.refused h

  lacks : {t : Table} {r n : ℕ} {a : Answer} → Accepted b sum f t r → NoRoom t old.text old.ends old.rows n → a ≡ refused_by n nowhere → Reads b sum f old a old
  lacks h k e = rw e (ReadOutcome.no_room h k)

  module _ {a' : Answer} where
    pub lacks-text : {a : Answer} → Takes b sum f a → length old.text < a.totals.text → a' ≡ refused_by 11 nowhere → Reads b sum f old a' old
    lacks-text (takes h) k = lacks h (no_text k)

    pub lacks-ends : {a : Answer} → Takes b sum f a → a.totals.text ≤ length old.text → length old.ends < a.totals.fields.0 → a' ≡ refused_by 12 nowhere → Reads b sum f old a' old
    lacks-ends (takes h) i k = lacks h (no_ends i k)

    pub lacks-rows :
        {a : Answer} → Takes b sum f a → a.totals.text ≤ length old.text → a.totals.fields.0 ≤ length old.ends → length old.rows < a.totals.records → a' ≡ refused_by 13 nowhere
        → Reads b sum f old a' old
    lacks-rows (takes h) i j k = lacks h (no_rows i j k)

  -- what the second walk has written is the outcome
  pub fills :
      {a : Answer} {new : Lists}
      → Takes b sum f a → a.totals.text ≤ length old.text → a.totals.fields.0 ≤ length old.ends → a.totals.records ≤ length old.rows
      → WrittenOver (dialect b sum) f old new → Reads b sum f old a new
  fills (takes h) i j k x =
      let w = walked h in
      rw (x.text_is, x.ends_is, x.rows_is, w.text_is, w.ends_is, w.rows_is) (ReadOutcome.filled h (record { for_text = i; for_ends = j; for_rows = k }))
