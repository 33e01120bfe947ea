-- Bytes, tables and how a file ends. A byte is a number below 256.
use Rattle.std.specs.Prelude.{ℕ, suc, List, [], ◌∷◌}

abbrev pub Bytes : Type 0
Bytes = List ℕ

-- what a field holds
abbrev pub Content : Type 0
Content = List ℕ

-- a list of records, each of one or more fields
abbrev pub Table : Type 0
Table = List (List Content)

-- whether the last record has its line break; where it has none, the bytes of that record
pub data Ending : Type 0 where
  with_break : Ending
  without_break : Bytes → Ending

-- each element of a list has the property P
abbrev pub Every : {A : Type 0} → (A → Type 0) → List A → Type 0
Every P [] = Unit {0}
Every P (a ∷ l) = P a × Every P l

-- no element of a list has it; and the first that has it, counted from 0
abbrev pub None : {A : Type 0} → (A → Type 0) → List A → Type 0
None P l = Every (λ a. P a → ⊥) l

pub data First {A : Type 0} (P : A → Type 0) : List A → ℕ → Type 0 where
  here : {a : A} {l : List A} → P a → First P (a ∷ l) 0
  later : {a : A} {l : List A} {k : ℕ} → (P a → ⊥) → First P l k → First P (a ∷ l) (suc k)

-- the last number of a list, or n where the list is empty
unfoldable pub last_of : ℕ → List ℕ → ℕ
last_of n [] = n
last_of n (m ∷ l) = last_of m l
