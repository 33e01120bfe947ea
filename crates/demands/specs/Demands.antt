-- The customer's demands over the calls, in his own words; what stands in brackets is ours. A newcomer starts here, and proofs/Demands shows all of it. A
-- name that is not defined here is one of format/specs or, where it is about one call, of the specs/ of that call's crate.
use Rattle.std.specs.Prelude.{ℕ, ◌+◌, ◌*◌, ◌≤◌, ◌<◌, ◌≡◌, true, ◌⊎◌, ◌↔◌, length, take, get_or, Result, Ok}
use mathlib.Core.List.{List, [], ◌∷◌, flatten}
use Rattle.format.specs.declared.Place.{Place}
use Rattle.format.specs.declared.Answer.{Answer}
use Rattle.format.specs.declared.WriteError.{WriteError}
use Rattle.format.specs.Table.{Bytes, Table}
use Rattle.format.specs.Dialect.{Leniency, Dialect, names, strict}
use Rattle.format.specs.House.{EndsInBreak, file_limit}
use Rattle.format.specs.Count.{Tally}
use Rattle.format.specs.Memory.{text_of, ends_of, rows_of, WellFormed, table_of}
use Rattle.format.specs.WrittenForms.{plain, CanHold}
use Rattle.format.specs.Filling.{over}
use Rattle.format.specs.Place.{nowhere}
use Rattle.format.specs.Reading.{Reading, RfcReading, Accepted, Refused}
use Rattle.format.specs.Answer.{accepted_as, refused_by, writer_numbers}
use Rattle.state.specs.declared.Check.{Check}
use Rattle.pieces.specs.Answers.{Answers, Started, Fed, Asked}
use Rattle.reader.specs.Read.{Room, NoRoom, ReadOutcome}
use Rattle.tables.specs.Shown.{Lacks, Shown}
use Rattle.writer.specs.Write.{WriteOutcome}

-- three slices: lent to a call, left by it, or a table in memory; the table that they hold, a table as such slices, and some over the front of others
pub record Slices : Type 0 where
  pub text : Bytes
  pub ends : List ℕ
  pub rows : List ℕ

abbrev pub table_in : Slices → Table
table_in m = table_of m.text m.ends m.rows

abbrev pub memory_of : Table → Slices
memory_of t = record { text = text_of t; ends = ends_of t; rows = rows_of t }

abbrev pub laid : Slices → Slices → Slices
laid m lent = record { text = over m.text lent.text; ends = over m.ends lent.ends; rows = over m.rows lent.rows }

abbrev pub RoomFor : Table → Slices → Type 0
RoomFor t lent = Room t lent.text lent.ends lent.rows

-- A call is what it was given and, as fields, what it gave and left: any that its promise in src/ allows. `read`, which at comma and 0 is `read_strict`:
pub record Read (b sum : ℕ) (f : Bytes) (lent : Slices) : Type 0 where
  pub answer : Answer
  pub left : Slices
  pub promise : ReadOutcome b sum f lent.text lent.ends lent.rows answer left.text left.ends left.rows

-- `write` of a table in memory into the buffer out
pub record Write (m : Slices) (mode : ℕ) (out : Bytes) : Type 0 where
  pub answer : Result ℕ WriteError
  pub left : Bytes
  pub promise : WriteOutcome m.text m.ends m.rows mode out (writer_numbers answer) left

-- `feed` for each of some pieces
pub data Feeds : Check → List Bytes → Check → Type 0 where
  none : {c : Check} → Feeds c [] c
  more : {c d e : Check} {piece : Bytes} {pieces : List Bytes} → Fed c piece d → Feeds d pieces e → Feeds c (piece ∷ pieces) e

-- a read accepts the file with a table and a report; two reads of it, in one dialect or in two, come to the same
module _ {b sum : ℕ} {f : Bytes} {lent : Slices} where
  abbrev pub ReadAs : Read b sum f lent → Table → ℕ → Type 0
  ReadAs c t r = (c.answer ≡ accepted_as t r) × (c.left ≡ laid (memory_of t) lent)

  abbrev pub Same : {b' sum' : ℕ} → Read b sum f lent → Read b' sum' f lent → Type 0
  Same c e = (c.answer ≡ e.answer) × (c.left ≡ e.left)

-- Any bytes, any dialect, any lent buffers: the call ends and does no harm, and the caller need check nothing first. (`rt check` says this of each call.)
pub record Demand1 : Type 0 where
  -- Bad input is refused by number, a bad file with line, column and byte; (else only lack of room is refused, with 0, 0, 0)
  pub bad_file : {b sum n : ℕ} {f : Bytes} {lent : Slices} {p : Place} (c : Read b sum f lent) → Refused b sum f n p → c.answer ≡ refused_by n p
  pub no_other :
      {b sum : ℕ} {f : Bytes} {lent : Slices} (c : Read b sum f lent) → (c.answer.refusal ≡ 0 → ⊥)
      → Refused b sum f c.answer.refusal c.answer.place
      ⊎ ((t : Table) × (r : ℕ) × Accepted b sum f t r × NoRoom t lent.text lent.ends lent.rows c.answer.refusal
      × (c.answer ≡ refused_by c.answer.refusal nowhere))
  -- a request to show a missing field gets the caller's stand-in.
  pub missing_field :
      {text stand-in shown : Bytes} {ends rows : List ℕ} {r k : ℕ}
      → Shown text ends rows r k stand-in shown → Lacks text ends rows r k → shown ≡ stand-in
  -- A refused call writes nothing in any buffer it was lent. (The first of a writer's numbers is its refusal. For the stream this is amended: specs/Streaming.)
  pub refused_read : {b sum : ℕ} {f : Bytes} {lent : Slices} (c : Read b sum f lent) → (c.answer.refusal ≡ 0 → ⊥) → c.left ≡ lent
  pub refused_write : {m : Slices} {mode : ℕ} {out : Bytes} (w : Write m mode out) → (get_or (writer_numbers w.answer) 0 0 ≡ 0 → ⊥) → w.left ≡ out

pub record Demand2 : Type 0 where
  -- Given room, the strict reader takes exactly the files of RFC 4180's grammar under our house rules for the last line break, the empty file, equal rows
  -- and the size limits;
  pub strict_reader :
      {f : Bytes} {lent : Slices} {t : Table} (c : Read 0x2C 0 f lent) → RoomFor t lent → ReadAs c t 0 ↔ (RfcReading f t × (length f ≤ file_limit))
  -- the lax reader takes exactly what the leniencies switched on add to that.
  pub lax_reader : {b sum r : ℕ} {f : Bytes} {lent : Slices} {t : Table} (c : Read b sum f lent) → RoomFor t lent → ReadAs c t r ↔ Accepted b sum f t r
  -- (What is not refused is read as some table. There is room where the buffers are as long as the file, and ends one longer.)
  pub some_table : {b sum : ℕ} {f : Bytes} {lent : Slices} (c : Read b sum f lent) → c.answer.refusal ≡ 0 → (t : Table) × (r : ℕ) × ReadAs c t r
  pub enough_room :
      {b sum : ℕ} {f : Bytes} {lent : Slices} {t : Table} {r : ℕ}
      → Accepted b sum f t r → length f ≤ length lent.text → length f < length lent.ends → length f ≤ length lent.rows → RoomFor t lent
  -- (For a written file there is with two bytes for each of the text, three for each field and one for each record, or with as many as a file may have.)
  pub enough_to_write :
      {m : Slices} {mode : ℕ} {out : Bytes} (w : Write m mode out)
      → (2 * length m.text + 3 * length m.ends + length m.rows ≤ length out) ⊎ (file_limit ≤ length out)
      → get_or (writer_numbers w.answer) 0 0 ≡ 15 → ⊥
  -- Each file has one reading.
  pub one_reading : (d : Dialect) {f : Bytes} {t u : Table} {r s : ℕ} → Reading d f t r → Reading d f u s → (t ≡ u) × (r ≡ s)
  -- Whatever our writer accepts reads back as the same table.
  pub reads_back :
      {m lent : Slices} {mode n : ℕ} {out : Bytes} (w : Write m mode out) → w.answer ≡ Ok n
      → (c : Read 0x2C 0 (take n w.left) lent) → RoomFor (table_in m) lent → ReadAs c (table_in m) 0 × (memory_of (table_in m) ≡ m)
  -- A check fed in pieces gives, whenever asked, the answer for the bytes fed so far as one whole file, wherever the cuts fell. (The reader's, 11 to 13 apart.)
  pub in_pieces : {b sum : ℕ} {pieces : List Bytes} {c e : Check} {a : Answer} → Started b sum c → Feeds c pieces e → Asked e a → Answers b sum (flatten pieces) a
  pub check_is_read :
      {b sum : ℕ} {f : Bytes} {lent : Slices} {a : Answer} (c : Read b sum f lent) → Answers b sum f a
      → (a ≡ c.answer) ⊎ ((a.refusal ≡ 0) × (11 ≤ c.answer.refusal) × (c.answer.refusal ≤ 13))

-- Take any table of one or more records that the strict form can hold, and in this demand set the file size limit aside when judging which files are strict.
pub record Demand3 (t : Table) : Type 0 where
  -- Among strict files that end in a line break and read as that table, one is shorter than all others, (its plain form,)
  pub reads : Reading strict (plain strict t) t 0
  pub ended : EndsInBreak (plain strict t)
  pub others : (g : Bytes) {r : ℕ} → Reading strict g t r → EndsInBreak g → (g ≡ plain strict t → ⊥) → length (plain strict t) < length g
  -- and the plain-quoting writer gives that one where it fits the size limit and the lent buffer.
  pub writer_gives_it :
      {m : Slices} {out : Bytes} (w : Write m 0 out) → WellFormed m.text m.ends m.rows → table_in m ≡ t
      → length (plain strict t) ≤ file_limit → length (plain strict t) ≤ length out
      → (w.answer ≡ Ok (length (plain strict t))) × (w.left ≡ over (plain strict t) out)
  -- Any strict file of that table has that length, plus two for each field quoted without need, minus two if its last line break is missing.
  -- (n fields of f are quoted without need; m is 1 if its last line break is missing, and else 0. A file has one such tally.)
  pub tally : {f : Bytes} {r : ℕ} → Reading strict f t r → (n : ℕ) × (m : ℕ) × Tally strict f t n 0 0 m
  pub one_tally : {f : Bytes} {n m n' m' : ℕ} → Tally strict f t n 0 0 m → Tally strict f t n' 0 0 m' → (n ≡ n') × (m ≡ m')
  pub size : {f : Bytes} {n m : ℕ} → Tally strict f t n 0 0 m → (length f + 2 * m ≡ length (plain strict t) + 2 * n) × (m ≤ 1) × ((m ≡ 0) ↔ EndsInBreak f)
  -- Two strict files therefore have the same plain form exactly when they hold the same table.
  pub same_plain : {f g : Bytes} {u : Table} {r s : ℕ} → Reading strict f t r → Reading strict g u s → (plain strict t ≡ plain strict u) ↔ (t ≡ u)

pub record OfficeAndAuditor : Type 0 where
  -- Each leniency is switched on by name and reported when used. (One that is reported was on; with only those on that are reported the read is the same.)
  pub by_name :
      {b sum : ℕ} {f : Bytes} {lent : Slices} (c : Read b sum f lent) → c.answer.refusal ≡ 0
      → ((l : Leniency) → names c.answer.totals.report l ≡ true → names sum l ≡ true) × ((e : Read b c.answer.totals.report f lent) → Same c e)
  -- A comma file read with nothing reported is a file the strict reader takes, with the same table.
  pub nothing_reported :
      {sum : ℕ} {f : Bytes} {lent : Slices} (c : Read 0x2C sum f lent) (e : Read 0x2C 0 f lent)
      → c.answer.refusal ≡ 0 → c.answer.totals.report ≡ 0 → Same c e
  -- Whatever strict accepts, every comma dialect accepts, reporting 0 or 2.
  pub strict_taken :
      {sum : ℕ} {f : Bytes} {lent : Slices} (e : Read 0x2C 0 f lent) (c : Read 0x2C sum f lent) → e.answer.refusal ≡ 0 → sum ≤ 15
      → (c.answer.refusal ≡ 0) × (((c.answer.totals.report ≡ 0) × Same c e) ⊎ (c.answer.totals.report ≡ 2))

pub record Demands : Type 0 where
  pub demand_1 : Demand1
  pub demand_2 : Demand2
  pub demand_3 : (t : Table) → 1 ≤ length t → CanHold strict t → Demand3 t
  pub office_and_auditor : OfficeAndAuditor
