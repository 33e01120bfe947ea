-- What a read promises: its answer, and each of the three buffers behind it.
use Rattle.std.specs.Prelude.{ℕ, ◌≤◌, ◌<◌, ◌≡◌, false, length}
use mathlib.Core.List.{List, flatten}
use Rattle.format.specs.declared.Place.{Place}
use Rattle.format.specs.declared.Answer.{Answer}
use Rattle.format.specs.Table.{Bytes, Table}
use Rattle.format.specs.Memory.{text_of, ends_of, rows_of}
use Rattle.format.specs.Dialect.{Dialect}
use Rattle.format.specs.Place.{nowhere}
use Rattle.format.specs.Reading.{Accepted, Refused}
use Rattle.format.specs.Answer.{accepted_as, refused_by}
use Rattle.format.specs.Filling.{over}
use Rattle.steps.specs.Steps.{start}
use Rattle.steps.specs.Numbers.{form_number}
use Rattle.fill.specs.declared.Head.{Head}
use Rattle.fill.specs.Buffers.{Lists}
use Rattle.fill.specs.Fill.{text_read, ends_read, rows_read}

-- room for a table: its contents in text, a place of ends for each field, one of rows for each record
pub record Room (t : Table) (text : Bytes) (ends rows : List ℕ) : Type 0 where
  pub for_text : length (text_of t) ≤ length text
  pub for_ends : length (flatten t) ≤ length ends
  pub for_rows : length t ≤ length rows

-- no room, by the number of the refusal; the smallest counts
pub data NoRoom (t : Table) (text : Bytes) (ends rows : List ℕ) : ℕ → Type 0 where
  no_text : length text < length (text_of t) → NoRoom t text ends rows 11
  no_ends : length (text_of t) ≤ length text → length ends < length (flatten t) → NoRoom t text ends rows 12
  no_rows : length (text_of t) ≤ length text → length (flatten t) ≤ length ends → length rows < length t → NoRoom t text ends rows 13

-- `ReadOutcome b sum f text ends rows a text' ends' rows'`: the file f, in the dialect of two bytes, read into three buffers, is answered by a, and the
-- buffers are then the last three. Where the file is refused or there is no room they are as they were.
pub data ReadOutcome (b sum : ℕ) (f text : Bytes) (ends rows : List ℕ) : Answer → Bytes → List ℕ → List ℕ → Type 0 where
  refused : {n : ℕ} {p : Place} → Refused b sum f n p → ReadOutcome b sum f text ends rows (refused_by n p) text ends rows
  no_room : {t : Table} {r n : ℕ}
      → Accepted b sum f t r → NoRoom t text ends rows n → ReadOutcome b sum f text ends rows (refused_by n nowhere) text ends rows
  filled : {t : Table} {r : ℕ}
      → Accepted b sum f t r → Room t text ends rows
      → ReadOutcome b sum f text ends rows (accepted_as t r) (over (text_of t) text) (over (ends_of t) ends) (over (rows_of t) rows)

-- a read into the three lent buffers, by what they hold
abbrev pub Reads : ℕ → ℕ → Bytes → Lists → Answer → Lists → Type 0
Reads b sum f old a new = ReadOutcome b sum f old.text old.ends old.rows a new.text new.ends new.rows

-- where the second walk begins
abbrev pub first : Head
first = record { at = 0; form = form_number start; held = 0; text = 0; ends = 0; rows = 0; begun = false }

-- all that the second walk has to write of a file, over the front of the buffers
pub record WrittenOver (d : Dialect) (f : Bytes) (old new : Lists) : Type 0 where
  pub text_is : new.text ≡ over (text_read d f) old.text
  pub ends_is : new.ends ≡ over (ends_read d f) old.ends
  pub rows_is : new.rows ≡ over (rows_read d f) old.rows
