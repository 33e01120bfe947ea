-- The house rules, each by itself.
use Rattle.std.specs.Prelude.{ℕ, ◌≤◌, ◌≡◌, Bool, false, not, ◌||◌, [], ◌∷◌, T, eqb, length}
use Rattle.format.specs.Table.{Bytes, Content, Table, Ending, with_break, without_break, Every, last_of}
use Rattle.format.specs.Dialect.{ragged, Dialect}

-- The last line break: it closes the last record, and no empty record follows it. So a record without one has at least one byte.
abbrev pub LastBreak : Ending → Type 0
LastBreak with_break = Unit {0}
LastBreak (without_break []) = ⊥
LastBreak (without_break (b ∷ f)) = Unit {0}

-- a file that ends in a line break: its last byte is LF, which a quoted field cannot end in
abbrev pub EndsInBreak : Bytes → Type 0
EndsInBreak f = last_of 0 f ≡ 0x0A

-- The empty file: it holds no records.
pub data EmptyFile : Bytes → Table → Type 0 where
  empty : EmptyFile [] []

-- the number of fields of the first record
abbrev pub width_of : Table → ℕ
width_of [] = 0
width_of (cs ∷ t) = length cs

-- a record differs from n in its number of fields; one differs from the first
abbrev pub differs : ℕ → Table → Bool
differs n [] = false
differs n (cs ∷ t) = not (eqb (length cs) n) || differs n t

abbrev pub is_ragged : Table → Bool
is_ragged [] = false
is_ragged (cs ∷ t) = differs (length cs) t

-- Equal rows: every record has as many fields as the first, unless the dialect allows ragged tables.
unfoldable pub EqualRows : Dialect → Table → Type 0
EqualRows d t = T (d.allows ragged || not (is_ragged t))

-- The content limit: a field's content has at most so many bytes.
abbrev pub content_limit : ℕ
content_limit = 65535

abbrev pub Fits : Content → Type 0
Fits c = length c ≤ content_limit

-- The file limit: a file has at most so many bytes.
abbrev pub file_limit : ℕ
file_limit = 16777216

-- what the rules ask of a table
pub record Allowed (d : Dialect) (t : Table) : Type 0 where
  pub rows : EqualRows d t
  pub contents : Every (Every Fits) t
