-- What building an index promises, and asking for a record by one.
use Rattle.std.specs.Prelude.{ℕ, Result, Ok, Err, ◌-◌, ◌/◌, ◌%◌, ◌≤◌, ◌<◌, List, length, get_or, take, drop}
use Rattle.format.specs.declared.Place.{Place}
use Rattle.format.specs.declared.Indexed.{Indexed}
use Rattle.format.specs.declared.Jumped.{Jumped}
use Rattle.format.specs.declared.Refusal.{Refusal}
use Rattle.format.specs.declared.ReadError.{ReadError}
use Rattle.format.specs.Meant.{number_of}
use Rattle.format.specs.Table.{Bytes, Content, Table}
use Rattle.format.specs.Dialect.{Dialect, dialect, Valid}
use Rattle.format.specs.House.{file_limit}
use Rattle.format.specs.Place.{nowhere}
use Rattle.format.specs.Reading.{Accepted, Refused}
use Rattle.format.specs.Walk.{RecordAt, NoRecord, FaultBefore, index_step, Index, Usable}
use Rattle.format.specs.Answer.{indexed_by, unindexed, lies_at, lies_nowhere}
use Rattle.format.specs.Filling.{over}
use Rattle.jump.specs.declared.Part.{Part}

-- `IndexOutcome b sum f index a index'`: an index of the file f, in the dialect of two bytes, built in a lent buffer, is answered by a, and the buffer is then the
-- last. Where the file is refused or there is too little room it is as it was.
pub data IndexOutcome (b sum : ℕ) (f : Bytes) (index : List ℕ) : Indexed → List ℕ → Type 0 where
  refused : {n : ℕ} {p : Place} → Refused b sum f n p → IndexOutcome b sum f index (unindexed n p) index
  no_room : {t : Table} {r : ℕ} {es : List ℕ}
      → Accepted b sum f t r → Index (dialect b sum) f es → length index < length es → IndexOutcome b sum f index (unindexed 19 nowhere) index
  built : {t : Table} {r : ℕ} {es : List ℕ}
      → Accepted b sum f t r → Index (dialect b sum) f es → length es ≤ length index → IndexOutcome b sum f index (indexed_by (length es)) (over es index)

-- what is told of an index
abbrev pub indexed_from : Result ℕ ReadError → Indexed
indexed_from (Ok n) = indexed_by n
indexed_from (Err e) = unindexed e.number e.place

-- what is told of where a record lies
abbrev pub lies : Result Part Refusal → Jumped
lies (Ok p) = lies_at p.start.0 p.length
lies (Err r) = lies_nowhere (number_of r)

-- what a walk finds from a place g of the file f on, which passes k records: 20 for a fault before the next one has ended, 18 where there is none, or where it lies
pub data WalkOutcome (d : Dialect) (f g : Bytes) (k : ℕ) : Jumped → Type 0 where
  fault : FaultBefore d g k → WalkOutcome d f g k (lies_nowhere 20)
  none : NoRecord d g k → WalkOutcome d f g k (lies_nowhere 18)
  found : {from to : Bytes} {cs : List Content} → RecordAt d g k from cs to → WalkOutcome d f g k (lies_at (length f - length from) (length from - length to))

-- `JumpOutcome b sum f index k a`: asking for record k of the file f, by any index, is answered by a. Only the entry used is judged.
pub data JumpOutcome (b sum : ℕ) (f : Bytes) (index : List ℕ) (k : ℕ) : Jumped → Type 0 where
  refusal_1 : (Valid b sum → ⊥) → JumpOutcome b sum f index k (lies_nowhere 1)
  refusal_2 : Valid b sum → file_limit < length f → JumpOutcome b sum f index k (lies_nowhere 2)
  no_entry : Valid b sum → length f ≤ file_limit → length index ≤ k / index_step → JumpOutcome b sum f index k (lies_nowhere 18)
  wrong_entry : Valid b sum → length f ≤ file_limit → k / index_step < length index
      → (Usable f (get_or index (k / index_step) 0) → ⊥) → JumpOutcome b sum f index k (lies_nowhere 20)
  walked : {a : Jumped} → Valid b sum → length f ≤ file_limit → k / index_step < length index → Usable f (get_or index (k / index_step) 0)
      → WalkOutcome (dialect b sum) f (drop (get_or index (k / index_step) 0) f) (k % index_step) a → JumpOutcome b sum f index k a

-- the part of the file that such an answer names, which is handed out
pub data PartOutcome (b sum : ℕ) (f : Bytes) (index : List ℕ) (k : ℕ) : Bytes → Type 0 where
  part : {a : Jumped} → JumpOutcome b sum f index k a → PartOutcome b sum f index k (take a.length (drop a.start.0 f))
