-- Line, column and byte of a place.
use Rattle.std.specs.Prelude.{ℕ, ◌+◌, ◌-◌, cond, [], ◌∷◌, eqb, length, take}
use Rattle.format.specs.declared.Place.{Place}
use Rattle.format.specs.Table.{Bytes}

abbrev pub place : ℕ → ℕ → ℕ → Place
place l c b = record { line = record { 0 = l }; column = record { 0 = c }; byte = record { 0 = b } }

-- the place of what names none
abbrev pub nowhere : Place
nowhere = place 0 0 0

-- LF bytes, quoted ones included
unfoldable pub line_feeds : Bytes → ℕ
line_feeds [] = 0
line_feeds (b ∷ f) = cond (eqb b 0x0A) 1 0 + line_feeds f

-- the bytes since the last LF, or all where there is none: bytes are left out as long as an LF is among what is left
unfoldable pub since_lf : Bytes → Bytes
since_lf [] = []
since_lf (b ∷ f) = cond (eqb (line_feeds (b ∷ f)) 0) (b ∷ f) (since_lf f)

-- the place behind these bytes: the line is 1 plus the LF bytes before it, the column 1 plus the bytes since the last LF, and bytes count from 0
unfoldable pub behind : Bytes → Place
behind f = place (1 + line_feeds f) (1 + length (since_lf f)) (length f)

-- where the rest g of the file f begins
unfoldable pub place_of : Bytes → Bytes → Place
place_of f g = behind (take (length f - length g) f)
