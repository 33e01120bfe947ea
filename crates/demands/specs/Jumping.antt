-- The customer's fourth request over the calls, in his own words; what stands in brackets is ours. proofs/Jumping shows all of it.
use Rattle.std.specs.Prelude.{ℕ, ◌+◌, ◌-◌, ◌/◌, ◌%◌, ◌≤◌, ◌<◌, ◌≡◌, List, [], ◌++◌, ◌⊎◌, length, get_or, take, drop}
use Rattle.format.specs.declared.Place.{Place}
use Rattle.format.specs.declared.Indexed.{Indexed}
use Rattle.format.specs.declared.Jumped.{Jumped}
use Rattle.format.specs.Table.{Bytes, Content, Table}
use Rattle.format.specs.Dialect.{dialect, Valid}
use Rattle.format.specs.Grammar.{Record}
use Rattle.format.specs.House.{file_limit}
use Rattle.format.specs.Place.{nowhere}
use Rattle.format.specs.Reading.{Accepted, Refused}
use Rattle.format.specs.Walk.{Holds, RecordAt, NoRecord, index_step, Index, Usable}
use Rattle.format.specs.Answer.{indexed_by, unindexed, lies_at, lies_nowhere}
use Rattle.format.specs.Filling.{over}
use Rattle.jump.specs.Jump.{IndexOutcome, WalkOutcome, JumpOutcome, PartOutcome}

pub record Jumping : Type 0 where
  -- From an accepted file build an index in a lent 32-bit buffer: the byte offset of record 0, 64, 128 and so on, nothing for the empty file. (Every accepted file has one. Entries
  -- behind it stay; an entry for each 64 bytes of the file is always room enough.)
  pub some_index : {b sum r : ℕ} {f : Bytes} {t : Table} → Accepted b sum f t r → (es : List ℕ) × Index (dialect b sum) f es
  pub built :
      {b sum r : ℕ} {f : Bytes} {t : Table} {i j es : List ℕ} {a : Indexed} → Accepted b sum f t r → Index (dialect b sum) f es → length es ≤ length i
      → IndexOutcome b sum f i a j → (a ≡ indexed_by (length es)) × (j ≡ over es i)
  pub empty : {b sum : ℕ} {i j : List ℕ} {a : Indexed} → Valid b sum → IndexOutcome b sum [] i a j → (a ≡ indexed_by 0) × (j ≡ i)
  pub enough_room :
      {b sum r : ℕ} {f : Bytes} {t : Table} {i j : List ℕ} {a : Indexed} → Accepted b sum f t r → IndexOutcome b sum f i a j
      → (length f + index_step - 1) / index_step ≤ length i → a.refusal ≡ 0
  -- A file that isn't accepted gives the reader's number and place. Too little room for the index: 19, place 0, 0, 0, index unwritten.
  pub refused : {b sum n : ℕ} {f : Bytes} {i j : List ℕ} {a : Indexed} {p : Place} → Refused b sum f n p → IndexOutcome b sum f i a j → (a ≡ unindexed n p) × (j ≡ i)
  pub no_room :
      {b sum r : ℕ} {f : Bytes} {t : Table} {i j es : List ℕ} {a : Indexed} → Accepted b sum f t r → Index (dialect b sum) f es → length i < length es
      → IndexOutcome b sum f i a j → (a ≡ unindexed 19 nowhere) × (j ≡ i)
  -- Asking for a record hands back that part of the file, without its line break, equal to what a walk from the beginning finds. (With the index built from that
  -- very file and dialect. The part reads, as a record of that dialect, as the table's record of that number.)
  pub same_walk :
      {b sum r k : ℕ} {f : Bytes} {t : Table} {i j : List ℕ} {a : Indexed} {c : Jumped} → Accepted b sum f t r → IndexOutcome b sum f i a j → a.refusal ≡ 0
      → JumpOutcome b sum f (take a.entries j) k c
      → ((g h : Bytes) × (cs : List Content) × RecordAt (dialect b sum) f k g cs h × (c ≡ lies_at (length f - length g) (length g - length h)))
      ⊎ (NoRecord (dialect b sum) f k × (c ≡ lies_nowhere 18))
  pub reads :
      {b sum r k : ℕ} {f p : Bytes} {t : Table} {i j : List ℕ} {a : Indexed} → Accepted b sum f t r → IndexOutcome b sum f i a j → a.refusal ≡ 0
      → PartOutcome b sum f (take a.entries j) k p → k < length t → Record (dialect b sum) p (get_or t k []) []
  -- No such record: new refusal 18. (It comes exactly from the number of records on.)
  pub no_such_record :
      {b sum r k : ℕ} {f : Bytes} {t : Table} {i j : List ℕ} {a : Indexed} {c : Jumped} → Accepted b sum f t r → IndexOutcome b sum f i a j → a.refusal ≡ 0
      → JumpOutcome b sum f (take a.entries j) k c → (length t ≤ k → c ≡ lies_nowhere 18) × (k < length t → c.refusal ≡ 0)
  -- An index without the entry needed also gives 18. An index entry above the file length, or above 0 and not straight after an LF: 20; so does a fault 3 to 8 met in the walk before the
  -- record asked for has ended. Order: 1, 2, 18 for the missing entry, 20, 18. With any other index the answer is the walk from the entry used. (`WalkOutcome` says what a walk finds.)
  pub bad_dialect : {b sum k : ℕ} {f : Bytes} {i : List ℕ} {c : Jumped} → (Valid b sum → ⊥) → JumpOutcome b sum f i k c → c ≡ lies_nowhere 1
  pub too_long : {b sum k : ℕ} {f : Bytes} {i : List ℕ} {c : Jumped} → Valid b sum → file_limit < length f → JumpOutcome b sum f i k c → c ≡ lies_nowhere 2
  pub no_entry :
      {b sum k : ℕ} {f : Bytes} {i : List ℕ} {c : Jumped} → Valid b sum → length f ≤ file_limit → length i ≤ k / index_step → JumpOutcome b sum f i k c → c ≡ lies_nowhere 18
  pub wrong_entry :
      {b sum k : ℕ} {f : Bytes} {i : List ℕ} {c : Jumped} → Valid b sum → length f ≤ file_limit → k / index_step < length i → (Usable f (get_or i (k / index_step) 0) → ⊥)
      → JumpOutcome b sum f i k c → c ≡ lies_nowhere 20
  pub any_index :
      {b sum k : ℕ} {f : Bytes} {i : List ℕ} {c : Jumped} → Valid b sum → length f ≤ file_limit → k / index_step < length i → Usable f (get_or i (k / index_step) 0)
      → JumpOutcome b sum f i k c → WalkOutcome (dialect b sum) f (drop (get_or i (k / index_step) 0) f) (k % index_step) c
  -- Numbers 9 and 10 aren't looked for in a walk. (In a file that holds a table, whatever its contents and rows, each record is found by the index that it would have.)
  pub limits_unseen :
      {b sum k : ℕ} {f : Bytes} {t : Table} {es : List ℕ} {c : Jumped} → Valid b sum → length f ≤ file_limit → Holds (dialect b sum) f t → Index (dialect b sum) f es
      → JumpOutcome b sum f es k c → k < length t → c.refusal ≡ 0
  -- Every refusal hands back the empty part at the file's beginning, with place 0, 0, 0. (And whatever the index, what is handed back is a part of the file.)
  pub nothing_handed : {b sum k : ℕ} {f : Bytes} {i : List ℕ} {c : Jumped} → JumpOutcome b sum f i k c → (c.refusal ≡ 0 → ⊥) → c ≡ lies_nowhere c.refusal
  pub own_bytes : {b sum k : ℕ} {f p : Bytes} {i : List ℕ} → PartOutcome b sum f i k p → (s r : Bytes) × (f ≡ s ++ (p ++ r))
