-- The tests on a table in memory.
use Rattle.std.specs.Prelude.{ℕ, ◌+◌, ◌≤◌, ◌<◌, ◌≡◌, ◌↔◌, Bool, IsTrue, List, [], ◌∷◌, length, get_or}
use Rattle.std.specs.Coded.{×_prop, Unit-prop}
use Rattle.format.specs.Table.{Bytes, last_of}
use Rattle.format.specs.Memory.{largest32, Ordered, start_of}

-- an answer that decides a claim, both ways
abbrev pub Decides : Bool → Type 0 → Type 0
Decides r A = IsTrue r ↔ A

-- numbers that count up to n: each is at least so much above the one before it, the first above 0, and the last is n, or n is 0 where there is none
pub record CountsTo (least : ℕ) (l : List ℕ) (n : ℕ) : Type 0 where
  pub ordered : Ordered (λ a b. a + least ≤ b) 0 l
  pub last : last_of 0 l ≡ n

-- no more bytes, fields and records than 32 bits count
pub record Small (text : Bytes) (ends rows : List ℕ) : Type 0 where
  pub bytes : length text ≤ largest32
  pub fields : length ends ≤ largest32
  pub records : length rows ≤ largest32

-- record r of those that the rows part n fields into: the number of its first field, and of the first behind it
pub record Row (rows : List ℕ) (n r first next : ℕ) : Type 0 where
  pub exists : r < length rows
  pub begins : first ≡ start_of rows r
  pub ends : next ≡ get_or rows r 0
  pub in_order : first ≤ next
  pub within : next ≤ n

-- ends that cut text from a place on into fields: they never fall, the last is in it, and they are no more than a row can count
pub record Cuts (from : ℕ) (text : Bytes) (ends : List ℕ) : Type 0 where
  pub ends_never_fall : Ordered ◌≤◌ from ends
  pub last_end : last_of from ends ≤ length text
  pub few : length ends ≤ largest32

-- rows that divide fields from a number on into records: they never fall, and count fields that are there; the ends of all fields, and where the first of the records begins in the text
pub record Divides (text : Bytes) (ends : List ℕ) (first from : ℕ) (rows : List ℕ) : Type 0 where
  pub ends_never_fall : Ordered ◌≤◌ 0 ends
  pub last_end : last_of 0 ends ≤ length text
  pub begins : from ≡ start_of ends first
  pub rows_never_fall : Ordered ◌≤◌ first rows
  pub last_row : last_of first rows ≤ length ends

-- the rest of a well formed table, from a field's number on: each of its records has a field, they count all the fields, and these all the text
pub record Rest (text : Bytes) (ends : List ℕ) (first : ℕ) (rows : List ℕ) : Type 0 where
  pub rows_rise : Ordered ◌<◌ first rows
  pub last_row : last_of first rows ≡ length ends
  pub last_end : last_of 0 ends ≡ length text

-- numbers stand in an order in one way at most, where any two do
pub Ordered-prop : (R : ℕ → ℕ → Type 0) → ((n m : ℕ) → IsProp (R n m)) → (n : ℕ) (l : List ℕ) → IsProp (Ordered R n l)
Ordered-prop R only n [] = Unit-prop
Ordered-prop R only n (m ∷ l) = ×_prop (only n m) (Ordered-prop R only m l)
