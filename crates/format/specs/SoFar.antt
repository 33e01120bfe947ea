-- A beginning of a file, parted: whole records, whole fields of the next one, and a field as far as it has come.
use Rattle.std.specs.Prelude.{ℕ, ◌≡◌, false, List, [], ◌∷◌}
use Rattle.format.specs.Table.{Bytes, Content, Table}
use Rattle.format.specs.Dialect.{Dialect, CR, class_of}
use Rattle.format.specs.Grammar.{padded, Blanks, Bare, Open, Quoted, Field}
use Rattle.format.specs.Count.{blank_count}
use Rattle.format.specs.Refusal.{Fields, Records}

-- `Begun d h c n`: h is a field as far as it has come. Its content so far is c, which can no longer be dropped; behind it n blanks are held, which may
-- yet be dropped, or come out if content follows.
pub data Begun (d : Dialect) : Bytes → Content → ℕ → Type 0 where
  -- nothing, or blanks, which are dropped
  empty : {h : Bytes} → Blanks d h [] → Begun d h [] 0
  -- bare, with the blanks behind its text
  bare : {a n : ℕ} {h g i : Bytes} {c : Content}
      → Blanks d h g → Bare d g (a ∷ c) i → padded d (a ∷ c) ≡ false → (y : Blanks d i []) → blank_count y ≡ n → Begun d h (a ∷ c) n
  -- quoted, inside its quotes and behind them
  inside : {h q : Bytes} {c : Content} → Blanks d h q → Open d q c [] → Begun d h c 0
  shut : {h q i : Bytes} {c : Content} → Blanks d h q → Quoted d q c i → Blanks d i [] → Begun d h c 0
  -- before a CR: not closed until its LF is there
  before_cr : {b : ℕ} {h : Bytes} {c : Content} → Field d h c (b ∷ []) → class_of d b ≡ CR → Begun d h c 0

-- the bytes f are the records of t, each with its line break; fields cs of the next record, each with its delimiter; and a field that has begun
pub data SoFar (d : Dialect) : Bytes → Table → List Content → Content → ℕ → Type 0 where
  so_far : {f g h : Bytes} {t : Table} {cs : List Content} {c : Content} {n : ℕ}
      → Records d f t g → Fields d g cs h → Begun d h c n → SoFar d f t cs c n
