-- What the column search promises, in the rules' numbers: the refusal, and the place 0, 0 and a column, from 0.
use Rattle.std.specs.Prelude.{ℕ, ◌<◌, ◌≡◌, List, [], ◌∷◌, length, get_or, Option, MatchOption}
use Rattle.format.specs.Table.{Bytes, Content, Table}
use Rattle.format.specs.Memory.{WellFormed, table_of}

abbrev pub answered : ℕ → ℕ → List ℕ
answered refusal column = refusal ∷ 0 ∷ 0 ∷ column ∷ []

-- the header is the first record
abbrev pub header_of : Table → List Content
header_of t = get_or t 0 []

-- column j has the name of an earlier column; column k has this name
abbrev pub Repeats : List Content → ℕ → Type 0
Repeats h j = (i : ℕ) × (i < j) × (get_or h i [] ≡ get_or h j [])

abbrev pub Named : List Content → Bytes → ℕ → Type 0
Named h name k = get_or h k [] ≡ name

-- no place below n has the property P
abbrev pub NoneBelow : (ℕ → Type 0) → ℕ → Type 0
NoneBelow P n = (i : ℕ) → i < n → P i → ⊥

-- in the header h: 16 and the lowest column that repeats a name; or, where none does, the column of the name; or 17
pub data InHeader (h : List Content) (name : Bytes) : List ℕ → Type 0 where
  twice : {j : ℕ} → j < length h → Repeats h j → NoneBelow (Repeats h) j → InHeader h name (answered 16 j)
  at : {k : ℕ} → NoneBelow (Repeats h) (length h) → k < length h → Named h name k → InHeader h name (answered 0 k)
  nowhere : NoneBelow (Repeats h) (length h) → NoneBelow (Named h name) (length h) → InHeader h name (answered 17 0)

-- 14 for a malformed table, then 17 with no records, then what the header gives
pub data Searched (text : Bytes) (ends rows : List ℕ) (name : Bytes) : List ℕ → Type 0 where
  malformed : (WellFormed text ends rows → ⊥) → Searched text ends rows name (answered 14 0)
  no_records : WellFormed text ends rows → length (table_of text ends rows) ≡ 0 → Searched text ends rows name (answered 17 0)
  in_header : {found : List ℕ}
      → WellFormed text ends rows → 0 < length (table_of text ends rows) → InHeader (header_of (table_of text ends rows)) name found
      → Searched text ends rows name found

-- the lowest of n places that has the property P
pub record Lowest (P : ℕ → Type 0) (n k : ℕ) : Type 0 where
  pub below : k < n
  pub none_before : NoneBelow P k
  pub here : P k

-- what a walk over n places promises: the lowest with the property P; or nothing, where none has it
abbrev pub Least : (ℕ → Type 0) → ℕ → Option ℕ → Type 0
Least P n r = MatchOption r (NoneBelow P n) (Lowest P n)
