-- The two written forms of a table, plain and full; and the tables that a dialect can hold.
use Rattle.std.specs.Prelude.{ℕ, ◌≤◌, ◌≡◌, Bool, false, cond, ◌||◌, List, [], ◌∷◌, ◌++◌, eqb, length}
use Rattle.format.specs.Table.{Bytes, Content, Table, Every}
use Rattle.format.specs.Dialect.{Dialect, forbidden, class_of}
use Rattle.format.specs.Grammar.{padded}
use Rattle.format.specs.House.{Allowed}

-- the delimiter, a quote, CR and LF
abbrev pub is_special : Dialect → ℕ → Bool
is_special d b = eqb b d.delimiter_byte || (eqb b 0x22 || (eqb b 0x0D || eqb b 0x0A))

unfoldable pub holds_special : Dialect → Content → Bool
holds_special d [] = false
holds_special d (b ∷ c) = is_special d b || holds_special d c

-- a field needs quotes: its content holds a special byte, or has a blank at either end that would be dropped
unfoldable pub needs_quotes : Dialect → Content → Bool
needs_quotes d c = holds_special d c || padded d c

-- each quote doubled
unfoldable pub doubled : Content → Bytes
doubled [] = []
doubled (b ∷ c) = cond (eqb b 0x22) (0x22 ∷ 0x22 ∷ doubled c) (b ∷ doubled c)

-- a field between quotes
unfoldable pub quoted_form : Content → Bytes
quoted_form c = 0x22 ∷ (doubled c ++ (0x22 ∷ []))

-- plain quotes a field exactly if it needs it
unfoldable pub plain_form : Dialect → Content → Bytes
plain_form d c = cond (needs_quotes d c) (quoted_form c) c

-- a record whose fields have the form given, the delimiter between them; a table of such records, each with its CRLF
unfoldable pub record_by : (Content → Bytes) → Dialect → List Content → Bytes
record_by form d [] = []
record_by form d (c ∷ []) = form c
record_by form d (c ∷ e ∷ cs) = form c ++ (d.delimiter_byte ∷ record_by form d (e ∷ cs))

unfoldable pub table_by : (Content → Bytes) → Dialect → Table → Bytes
table_by form d [] = []
table_by form d (cs ∷ t) = record_by form d cs ++ (0x0D ∷ 0x0A ∷ table_by form d t)

-- the plain form of a table, and the full form, which quotes every field
abbrev pub plain : Dialect → Table → Bytes
plain d t = table_by (plain_form d) d t

abbrev pub full : Dialect → Table → Bytes
full d t = table_by quoted_form d t

-- a table that the dialect can hold
pub record CanHold (d : Dialect) (t : Table) : Type 0 where
  pub some_field : Every (λ cs. 1 ≤ length cs) t
  pub none_forbidden : Every (Every (Every (λ b. class_of d b ≡ forbidden → ⊥))) t
  pub rules : Allowed d t
