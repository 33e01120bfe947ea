-- Counters that stop, and how they move a place: for every place.
use Rattle.std.specs.Prelude.{ℕ, ◌+◌, min, cond, eqb}
use Rattle.format.specs.declared.Place.{Place}
use Rattle.format.specs.House.{file_limit}
use Rattle.format.specs.Place.{place}

-- counters stop here: one past the file limit
abbrev pub counter_limit : ℕ
counter_limit = file_limit + 1

-- the sum of two counters
abbrev pub plus : ℕ → ℕ → ℕ
plus a b = min (min a counter_limit + min b counter_limit) counter_limit

-- the place behind a byte
unfoldable pub moved : ℕ → Place → Place
moved b p = cond (eqb b 0x0A) (place (plus p.line.0 1) 1 (plus p.byte.0 1)) (place p.line.0 (plus p.column.0 1) (plus p.byte.0 1))

-- the place n bytes on, on the same line
abbrev pub along : ℕ → Place → Place
along n p = place p.line.0 (plus p.column.0 n) (plus p.byte.0 n)

-- the place n bytes on, behind l line feeds and t bytes behind the last of them
unfoldable pub spot : ℕ → ℕ → ℕ → Place → Place
spot l t n p = place (plus p.line.0 l) (plus (cond (eqb l 0) p.column.0 1) t) (plus p.byte.0 n)
