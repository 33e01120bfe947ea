-- A walk over the records of a source, limits and equal rows set aside: where the record of a number begins and ends, and the index of a file.
use Rattle.std.specs.Prelude.{ℕ, suc, ◌*◌, ◌-◌, ◌≤◌, ◌<◌, ◌≡◌, List, [], ◌∷◌, length, get_or}
use Rattle.format.specs.Table.{Bytes, Content, Table, Ending}
use Rattle.format.specs.Dialect.{Dialect}
use Rattle.format.specs.Grammar.{Record, File}
use Rattle.format.specs.House.{LastBreak, EmptyFile}
use Rattle.format.specs.Refusal.{LineEnd, FieldRefusal, Fields, Records}

-- The source f, to its end, holds the table t.
pub data Holds (d : Dialect) (f : Bytes) (t : Table) : Type 0 where
  nothing : EmptyFile f t → Holds d f t
  something : {e : Ending} → File d f t e → LastBreak e → Holds d f t

-- `RecordAt d f k g cs h`: a walk from f finds record k, counted from 0, at g. It holds cs and ends at h, where its line break stands or the file ends. Where no
-- byte is left, there is no record.
pub data RecordAt (d : Dialect) (f : Bytes) (k : ℕ) : Bytes → List Content → Bytes → Type 0 where
  record_at : {b : ℕ} {g h i : Bytes} {t : Table} {cs : List Content}
      → Records d f t (b ∷ g) → length t ≡ k → Record d (b ∷ g) cs h → LineEnd d h i → RecordAt d f k (b ∷ g) cs h

-- a walk from f comes to the file's end and has found no record k
pub data NoRecord (d : Dialect) (f : Bytes) (k : ℕ) : Type 0 where
  no_record : {t : Table} → Holds d f t → length t ≤ k → NoRecord d f k

-- a fault in the field that begins at f, whatever the limits are: 3 to 8
abbrev pub FieldFault : Dialect → ℕ → Bytes → Bytes → Bytes → Type 0
FieldFault d n f found named = FieldRefusal d n f found named × (n ≡ 9 → ⊥)

-- a walk from f meets a fault of 3 to 8 before record k has ended: in a record before it or in itself, a CR or an LF that stands where its line break should be, and 6
-- and 8 at the file's length, included
pub data FaultBefore (d : Dialect) (f : Bytes) (k : ℕ) : Type 0 where
  fault_before : {n : ℕ} {g h found named : Bytes} {t : Table} {cs : List Content}
      → Records d f t g → length t ≤ k → Fields d g cs h → FieldFault d n h found named → FaultBefore d f k

-- An index has an entry for each so many records.
abbrev pub index_step : ℕ
index_step = 64

-- the entries of the file f from number j on: each is the byte offset where its record begins, and they go on as long as there is such a record
pub data Entries (d : Dialect) (f : Bytes) : ℕ → List ℕ → Type 0 where
  none : {j : ℕ} → NoRecord d f (j * index_step) → Entries d f j []
  entry : {j : ℕ} {g h : Bytes} {cs : List Content} {es : List ℕ}
      → RecordAt d f (j * index_step) g cs h → Entries d f (suc j) es → Entries d f j ((length f - length g) ∷ es)

-- the index of a file: of records 0, 64, 128 and so on
abbrev pub Index : Dialect → Bytes → List ℕ → Type 0
Index d f es = Entries d f 0 es

-- where a walk may begin by an entry: not above the file length, and straight behind an LF where it is above 0
pub record Usable (f : Bytes) (e : ℕ) : Type 0 where
  pub within : e ≤ length f
  pub behind_lf : 0 < e → get_or f (e - 1) 0 ≡ 0x0A
