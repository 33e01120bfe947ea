-- How long the runs are that a walk over a file may pass at once.
use Rattle.std.specs.Prelude.{ℕ, suc, ◌≡◌, Bool, true, false, cond, not, ◌&&◌, [], ◌∷◌, eqb}
use Rattle.std.specs.List.{prefix_len}
use Rattle.format.specs.Table.{Bytes}
use Rattle.format.specs.Dialect.{Dialect, strict, is_wide, Class, text, blank, delimiter, quote, CR, LF, forbidden, class_of}

-- the length of the longest front whose bytes all have a property
unfoldable pub run : (ℕ → Bool) → Bytes → ℕ
run p f = prefix_len p f

-- a test whose calls answer by a property of bytes
abbrev pub Computes : (ℕ → Bool → Type 0) → (ℕ → Bool) → Type 0
Computes answers p = (b : ℕ) (r : Bool) → answers b r → r ≡ p b

abbrev pub is_text : Class → Bool
is_text text = true
is_text blank = false
is_text delimiter = false
is_text quote = false
is_text CR = false
is_text LF = false
is_text forbidden = false

-- plain text: a byte of class text that needs no leniency
unfoldable pub is_plain : Dialect → ℕ → Bool
is_plain d b = is_text (class_of d b) && not (is_wide b)

abbrev pub is_inner_class : Class → Bool
is_inner_class text = true
is_inner_class blank = false
is_inner_class delimiter = true
is_inner_class quote = false
is_inner_class CR = true
is_inner_class LF = false
is_inner_class forbidden = false

-- a byte that is content between quotes in every dialect, needs no leniency and ends no line: at strict, where no byte is a blank, text, the comma or CR
unfoldable pub is_inner : ℕ → Bool
is_inner b = is_inner_class (class_of strict b)

-- how many pairs of quotes stand at the front
unfoldable pub pairs : Bytes → ℕ
pairs [] = 0
pairs (a ∷ []) = 0
pairs (a ∷ (b ∷ f)) = cond (eqb a 0x22 && eqb b 0x22) (suc (pairs f)) 0

-- whether a CR and an LF stand at the front
unfoldable pub is_break : Bytes → Bool
is_break [] = false
is_break (a ∷ []) = false
is_break (a ∷ (b ∷ f)) = eqb a 0x0D && eqb b 0x0A
