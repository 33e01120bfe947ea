-- Dialects: a delimiter and a sum of leniencies; and what each byte is in one.
use Rattle.std.specs.Prelude.{ℕ, ◌≤◌, ◌/◌, ◌%◌, Bool, cond, not, ◌&&◌, ◌||◌, T, leb, eqb}

-- what may be switched on, by its name
pub data Leniency : Type 0 where
  lf blanks ragged bytes : Leniency

-- the bit of each in a sum
abbrev pub bit_of : Leniency → ℕ
bit_of lf = 1
bit_of blanks = 2
bit_of ragged = 4
bit_of bytes = 8

-- the byte that delimits, and which leniencies are on
pub record Dialect : Type 0 where
  pub delimiter_byte : ℕ
  pub allows : Leniency → Bool

-- the dialect of a delimiter byte and a sum, which names the leniencies whose bits it has
abbrev pub names : ℕ → Leniency → Bool
names sum l = eqb (sum / bit_of l % 2) 1

abbrev pub dialect : ℕ → ℕ → Dialect
dialect b sum = record { delimiter_byte = b; allows = names sum }

-- comma with sum 0
abbrev pub strict : Dialect
strict = dialect 0x2C 0

-- comma, semicolon, tab, bar
abbrev pub delimits : ℕ → Bool
delimits b = eqb b 0x2C || (eqb b 0x3B || (eqb b 0x09 || eqb b 0x7C))

-- two bytes are a dialect: a delimiter, and a sum of at most 15
abbrev pub Valid : ℕ → ℕ → Type 0
Valid b sum = T (delimits b) × (sum ≤ 15)

-- what a byte is to the grammar
pub data Class : Type 0 where
  text blank delimiter quote CR LF forbidden : Class

-- 0x21 to 0x7E
abbrev pub is_printable : ℕ → Bool
is_printable b = leb 0x21 b && leb b 0x7E

-- what the leniency "bytes" allows: tab, and 0x80 to 0xFF
abbrev pub is_wide : ℕ → Bool
is_wide b = eqb b 0x09 || (leb 0x80 b && leb b 0xFF)

-- where m delimits, only "bytes" allows the byte b: it is such a one, and not m
abbrev pub only_wide : ℕ → ℕ → Bool
only_wide m b = is_wide b && not (eqb b m)

-- The delimiter comes first: with another one comma is text, and tab as delimiter needs no leniency. 0x20 is a blank where "blanks" is on, and else text.
unfoldable pub class_of : Dialect → ℕ → Class
class_of d b =
    cond (eqb b d.delimiter_byte) delimiter
    (cond (eqb b 0x22) quote
    (cond (eqb b 0x0D) CR
    (cond (eqb b 0x0A) LF
    (cond (eqb b 0x20) (cond (d.allows blanks) blank text)
    (cond (is_printable b) text
    (cond (is_wide b) (cond (d.allows bytes) text forbidden) forbidden))))))
