-- What showing a field promises: a record and a column, both from 0.
use Rattle.std.specs.Prelude.{ℕ, ◌+◌, ◌≤◌, ◌<◌, List, [], ◌∷◌, length, get_or, Option, Some, None}
use Rattle.format.specs.Table.{Bytes}
use Rattle.format.specs.Memory.{WellFormed, table_of, start_of}

module _ (text : Bytes) (ends rows : List ℕ) (r c : ℕ) where
  -- the table is well formed and has the place; or it is malformed, or has no such record or no such column
  pub record Has : Type 0 where
    pub formed : WellFormed text ends rows
    pub record_in : r < length (table_of text ends rows)
    pub column_in : c < length (get_or (table_of text ends rows) r [])

  pub data Lacks : Type 0 where
    malformed : (WellFormed text ends rows → ⊥) → Lacks
    no_record : WellFormed text ends rows → length (table_of text ends rows) ≤ r → Lacks
    no_column : WellFormed text ends rows → r < length (table_of text ends rows) → length (get_or (table_of text ends rows) r []) ≤ c → Lacks

  -- the content of that place, or the stand-in
  pub data Shown (stand-in : Bytes) : Bytes → Type 0 where
    field : Has → Shown stand-in (get_or (get_or (table_of text ends rows) r []) c [])
    absent : Lacks → Shown stand-in stand-in

  -- the number of the field in the whole table, or nothing
  pub data Numbered : Option ℕ → Type 0 where
    numbered : Has → Numbered (Some (start_of rows r + c))
    absent : Lacks → Numbered None

  -- where it lies: found, its start in text, which is where the field before it ends, and its length
  pub data Located : List ℕ → Type 0 where
    lies : Has → Located (1 ∷ start_of ends (start_of rows r + c) ∷ length (get_or (get_or (table_of text ends rows) r []) c []) ∷ [])
    absent : Lacks → Located (0 ∷ 0 ∷ 0 ∷ [])
