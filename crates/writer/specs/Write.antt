-- What a write promises: its answer, and the buffer behind it.
use Rattle.std.specs.Prelude.{ℕ, ◌≤◌, ◌<◌, ◌≡◌, cond, eqb, length}
use mathlib.Core.List.{List, [], ◌∷◌, flatten}
use Rattle.format.specs.Table.{Bytes, Content, Table, None, First}
use Rattle.format.specs.Dialect.{strict, forbidden, class_of}
use Rattle.format.specs.House.{content_limit, file_limit, width_of}
use Rattle.format.specs.Memory.{WellFormed, table_of}
use Rattle.format.specs.WrittenForms.{plain, full, CanHold}
use Rattle.format.specs.Filling.{over}

-- the file of a table in a mode: 0 is plain, 1 is full
abbrev pub file_in : ℕ → Table → Bytes
file_in mode t = cond (eqb mode 0) (plain strict t) (full strict t)

-- a byte that strict cannot hold, a content over the limit, and a record with another number of fields than the first
abbrev pub Forbidden : ℕ → Type 0
Forbidden b = class_of strict b ≡ forbidden

abbrev pub TooLong : Content → Type 0
TooLong c = content_limit < length c

abbrev pub Differs : Table → List Content → Type 0
Differs t cs = length cs ≡ width_of t → ⊥

-- the rules' numbers: refusal, line, column, byte, written length; line and column are 0, and byte holds an index from 0 or is 0
abbrev pub refused : ℕ → ℕ → List ℕ
refused n index = n ∷ 0 ∷ 0 ∷ index ∷ 0 ∷ []

abbrev pub accepted : ℕ → List ℕ
accepted n = 0 ∷ 0 ∷ 0 ∷ 0 ∷ n ∷ []

-- The order of the checks is 1, 14, 3, 9, 10, 2, 15. In each of these the last two places are the answer's numbers and the buffer out as it is then.
-- Refused, it is as it was; accepted, it begins with the file, and what stands behind that stays.

-- a file that is to be written: 2, else 15
pub data FileOutcome (file out : Bytes) : List ℕ → Bytes → Type 0 where
  refusal_2 : file_limit < length file → FileOutcome file out (refused 2 0) out
  refusal_15 : length file ≤ file_limit → length out < length file → FileOutcome file out (refused 15 0) out
  whole : length file ≤ file_limit → length file ≤ length out → FileOutcome file out (accepted (length file)) (over file out)

-- a table and its text: 3, 9 and 10 with the lowest text index, field and record; else strict can hold it
pub data TableOutcome (text : Bytes) (t : Table) (file out : Bytes) : List ℕ → Bytes → Type 0 where
  refusal_3 : {k : ℕ} → First Forbidden text k → TableOutcome text t file out (refused 3 k) out
  refusal_9 : {k : ℕ} → None Forbidden text → First TooLong (flatten t) k → TableOutcome text t file out (refused 9 k) out
  refusal_10 : {k : ℕ} → None Forbidden text → None TooLong (flatten t) → First (Differs t) t k → TableOutcome text t file out (refused 10 k) out
  holdable : {a : List ℕ} {out' : Bytes} → CanHold strict t → FileOutcome file out a out' → TableOutcome text t file out a out'

-- three slices and a mode: 1, else 14
pub data WriteOutcome (text : Bytes) (ends rows : List ℕ) (mode : ℕ) (out : Bytes) : List ℕ → Bytes → Type 0 where
  refusal_1 : 1 < mode → WriteOutcome text ends rows mode out (refused 1 0) out
  refusal_14 : mode ≤ 1 → (WellFormed text ends rows → ⊥) → WriteOutcome text ends rows mode out (refused 14 0) out
  well_formed : {a : List ℕ} {out' : Bytes}
      → mode ≤ 1 → WellFormed text ends rows
      → TableOutcome text (table_of text ends rows) (file_in mode (table_of text ends rows)) out a out'
      → WriteOutcome text ends rows mode out a out'
