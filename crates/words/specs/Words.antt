-- The word of a list of bytes by a table of marks: the lowest bit is the first byte's.
use Rattle.std.specs.Prelude.{ℕ, ◌+◌, ◌-◌, ◌*◌, ◌<◌, min, ◌≡◌, Bool, false, cond, not, ◌||◌, List, [], ◌∷◌, eqb, get_or}
use Rattle.format.specs.Table.{Bytes}
use Rattle.format.specs.Dialect.{Dialect}
use Rattle.runs.specs.Runs.{is_plain}

abbrev pub bit : Bool → ℕ
bit x = cond x 1 0

unfoldable pub word : List Bool → Bytes → ℕ
word t [] = 0
word t (b ∷ f) = word t f * 2 + bit (get_or t b false)

-- where the block from a place on ends, in a part of n bytes
abbrev pub block_end : ℕ → ℕ → ℕ
block_end n i = i + min 64 (n - i)

-- the table that marks each byte without a property; that of a dialect marks what is no plain text
abbrev pub Marks : List Bool → (ℕ → Bool) → Type 0
Marks t p = (b : ℕ) → b < 256 → get_or t b false ≡ not (p b)

abbrev pub Stops : List Bool → Dialect → Type 0
Stops t d = Marks t (is_plain d)

-- bytes of rows of bare fields: plain text, and the delimiter
abbrev pub is_row : Dialect → ℕ → Bool
is_row d b = is_plain d b || eqb b d.delimiter_byte
