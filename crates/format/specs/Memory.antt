-- A table in memory: text has the contents joined; ends has, for each field, the text length after it; rows has, for each record, the fields so far.
use Rattle.std.specs.Prelude.{ℕ, ◌+◌, ◌-◌, ◌≤◌, ◌<◌, ◌≡◌, length, get_or}
use mathlib.Core.List.{List, [], ◌∷◌, flatten}
use Rattle.std.proofs.Math.Seq.{slice}
use Rattle.format.specs.Table.{Bytes, Table, last_of}

-- the largest number of 32 bits, which is the most that ends and rows can count to
abbrev pub largest32 : ℕ
largest32 = 4294967295

-- the lengths of lists so far, where n came before
unfoldable pub lengths : {A : Type 0} → ℕ → List (List A) → List ℕ
lengths n [] = []
lengths n (l ∷ ls) = (n + length l) ∷ lengths (n + length l) ls

-- what memory has of a table; its fields are its records joined, and its text is its fields joined
abbrev pub text_of : Table → Bytes
text_of t = flatten (flatten t)

abbrev pub ends_of : Table → List ℕ
ends_of t = lengths 0 (flatten t)

abbrev pub rows_of : Table → List ℕ
rows_of t = lengths 0 t

-- each number stands in the order R to the one before it, and the first to n
abbrev pub Ordered : (ℕ → ℕ → Type 0) → ℕ → List ℕ → Type 0
Ordered R n [] = Unit {0}
Ordered R n (m ∷ l) = R n m × Ordered R m l

-- rows rise strictly from at least 1, and ends never fall; the last of each is the length that it counts up to
pub record WellFormed (text : Bytes) (ends rows : List ℕ) : Type 0 where
  pub rows_rise : Ordered ◌<◌ 0 rows
  pub last_row : last_of 0 rows ≡ length ends
  pub ends_never_fall : Ordered ◌≤◌ 0 ends
  pub last_end : last_of 0 ends ≡ length text
  pub no_rows : rows ≡ [] → (ends ≡ []) × (text ≡ [])

-- a list cut at the numbers of another, the first part from n on
unfoldable pub parts : {A : Type 0} → ℕ → List A → List ℕ → List (List A)
parts n l [] = []
parts n l (m ∷ ms) = slice n m l ∷ parts m l ms

-- how long the parts are: how far each number is from the one before it, and the first from n
unfoldable pub gaps : ℕ → List ℕ → List ℕ
gaps n [] = []
gaps n (m ∷ ms) = (m - n) ∷ gaps m ms

-- the table that memory holds
unfoldable pub table_of : Bytes → List ℕ → List ℕ → Table
table_of text ends rows = parts 0 (parts 0 text ends) rows

-- where entry k begins: at the entry before it, or at 0
abbrev pub start_of : List ℕ → ℕ → ℕ
start_of l k = get_or (0 ∷ l) k 0

-- the part of text that field k is
unfoldable pub part_of : Bytes → List ℕ → ℕ → Bytes
part_of text ends k = slice (start_of ends k) (get_or ends k 0) text
