-- Sums of counters, and places moved: by one byte, along a line, over many lines.
use Prim.Native.Nat.{ℕ, ◌+◌, ◌-◌, ◌≤◌, min}
use native.Mathlib.Omega.{arith}
use mathlib.Core.Path.{◌≡◌, refl, sym, ap, ap₂, ◌∙◌}
use mathlib.Core.Bool.{Bool, true, false, cond}
use mathlib.Core.List.{◌∷◌, ◌++◌}
use lib.Dec.{eqb}
use lib.ListN.{length}
use borrow.Author.Tests.{ne_eqb}
use Rattle.format.specs.declared.Place.{Place}
use Rattle.format.specs.Table.{Bytes}
use Rattle.format.specs.House.{file_limit}
use Rattle.format.specs.Place.{place, place_of}
use Rattle.format.proofs.Places.{after, after-lf, after-other, place-step, PlaceWithin, place-within}
use Rattle.places.specs.Counters.{counter_limit, plus, moved, along, spot}

-- the sum of counters, without the stops on the way
pub plus-is : (a b : ℕ) → plus a b ≡ min (a + b) counter_limit
plus-is a b = omega arith

stop-stop : (a b : ℕ) → min (min a counter_limit + b) counter_limit ≡ min (a + b) counter_limit
stop-stop a b = omega arith

pub plus-plus : (a m n : ℕ) → plus (plus a m) n ≡ plus a (m + n)
plus-plus a m n =
    let e : a + m + n ≡ a + (m + n) = omega arith in
    plus-is (plus a m) n ∙ ap (λ (x : ℕ). min (x + n) counter_limit) (plus-is a m) ∙ stop-stop (a + m) n ∙ ap (λ (x : ℕ). min x counter_limit) e ∙ sym (plus-is a (m + n))

pub plus_none : (n : ℕ) → plus 0 n ≡ min n counter_limit
plus_none n = omega arith

pub plus-counted : (a n : ℕ) → plus a (min n counter_limit) ≡ plus a n
plus-counted a n = omega arith

-- a byte that is no LF moves the place along
pub moved-along : (b : ℕ) (p : Place) → eqb b 0x0A ≡ false → moved b p ≡ along 1 p
unfolding moved
moved-along b p e = rw e

pub along-along : (m n : ℕ) (p : Place) → along n (along m p) ≡ along (m + n) p
along-along m n p = rw (plus-plus p.column.0 m n, plus-plus p.byte.0 m n)

-- behind many bytes, one line feed or more of a line
pub spot-along : (k l t n : ℕ) (p : Place) → along k (spot l t n p) ≡ spot l (t + k) (n + k) p
unfolding spot
spot-along k l t n p = rw (plus-plus (cond (eqb l 0) p.column.0 1) t k, plus-plus p.byte.0 n k)

pub spot-line : (l t n : ℕ) (p : Place) → moved 0x0A (spot l t n p) ≡ spot (l + 1) 0 (n + 1) p
unfolding spot moved
spot-line l t n p = rw (plus-plus p.line.0 l 1, plus-plus p.byte.0 n 1, ne_eqb (l + 1) 0 (λ e. omega arith))

-- behind an LF, where one byte more of the line would be known
pub line-behind : (l t n : ℕ) (p q : Place) → along 1 p ≡ spot l t n q → moved 0x0A p ≡ spot (l + 1) 0 n q
unfolding spot moved
line-behind l t n p q e =
    let line : p.line.0 ≡ plus q.line.0 l = ap (λ (x : Place). x.line.0) e in
    let byte : plus p.byte.0 1 ≡ plus q.byte.0 n = ap (λ (x : Place). x.byte.0) e in
    rw (line, byte, plus-plus q.line.0 l 1, ne_eqb (l + 1) 0 (λ z. omega arith))

pub spot-none : (p : Place) → p.line.0 ≤ counter_limit → p.column.0 ≤ counter_limit → p.byte.0 ≤ counter_limit → spot 0 0 0 p ≡ p
unfolding spot
spot-none p a b c =
    let x : plus p.line.0 0 ≡ p.line.0 = omega arith in
    let y : plus p.column.0 0 ≡ p.column.0 = omega arith in
    let z : plus p.byte.0 0 ≡ p.byte.0 = omega arith in
    rw (x, y, z)

-- k bytes further on, in a line that begins at j, from a place at a
pub spot-further : (l i j a k : ℕ) (p : Place) → j ≤ i → a ≤ i → along k (spot l (i - j) (i - a) p) ≡ spot l (i + k - j) (i + k - a) p
spot-further l i j a k p h₁ h₂ =
    let e₁ : i - j + k ≡ i + k - j = omega arith in
    let e₂ : i - a + k ≡ i + k - a = omega arith in
    spot-along k l (i - j) (i - a) p ∙ ap₂ (λ (t n : ℕ). spot l t n p) e₁ e₂

pub spot-low : (l t n : ℕ) (p : Place) → (spot l t n p).line.0 ≤ counter_limit
unfolding spot
spot-low l t n p = omega arith

pub along-spot : (k : ℕ) (p : Place) → p.line.0 ≤ counter_limit → along k p ≡ spot 0 k k p
unfolding spot
along-spot k p h = let e : plus p.line.0 0 ≡ p.line.0 = omega arith in rw e

-- a place in a line behind line feeds, behind another
pub spot-flat : (t n l' t' n' : ℕ) (p : Place) → spot 0 t n (spot l' t' n' p) ≡ spot (l' + 0) (t' + t) (n' + n) p
unfolding spot
spot-flat t n l' t' n' p =
    let z : l' + 0 ≡ l' = omega arith in
    rw (plus-plus p.line.0 l' 0, plus-plus (cond (eqb l' 0) p.column.0 1) t' t, plus-plus p.byte.0 n' n, z)

pub spot-lines : (l t n l' t' n' : ℕ) (p : Place) → (l ≡ 0 → ⊥) → spot l t n (spot l' t' n' p) ≡ spot (l' + l) t (n' + n) p
unfolding spot
spot-lines l t n l' t' n' p h =
    rw (plus-plus p.line.0 l' l, plus-plus p.byte.0 n' n, ne_eqb l 0 h, ne_eqb (l' + l) 0 (λ e. h (omega arith)))

-- every byte counts as one
pub moved-byte : (b : ℕ) (p : Place) → (moved b p).byte.0 ≡ plus p.byte.0 1
unfolding moved
moved-byte b p = go (eqb b 0x0A)
  where
    go : (x : Bool) → (cond x (place (plus p.line.0 1) 1 (plus p.byte.0 1)) (place p.line.0 (plus p.column.0 1) (plus p.byte.0 1))).byte.0 ≡ plus p.byte.0 1
    go true = refl
    go false = refl

-- a place moves as the file's does, as long as no counter stops
pub moved-is : (s : Bytes) (b : ℕ) (f : Bytes) → length s + 1 ≤ file_limit → moved b (place_of (s ++ (b ∷ f)) (b ∷ f)) ≡ place_of (s ++ (b ∷ f)) f
unfolding moved
moved-is s b f h = rw (place-step s b f) (go (place_of (s ++ (b ∷ f)) (b ∷ f)) (place-within s (b ∷ f)) (eqb b 0x0A) refl)
  where
    go :
        (p : Place) → PlaceWithin (length s) p → (y : Bool) → eqb b 0x0A ≡ y
        → cond (eqb b 0x0A) (place (plus p.line.0 1) 1 (plus p.byte.0 1)) (place p.line.0 (plus p.column.0 1) (plus p.byte.0 1)) ≡ after b p
    go p w true e =
        let line : plus p.line.0 1 ≡ p.line.0 + 1 = omega (arith, w.line) in
        let byte : plus p.byte.0 1 ≡ p.byte.0 + 1 = omega (arith, w.byte) in
        rw (e, after-lf b p e, line, byte)
    go p w false e =
        let column : plus p.column.0 1 ≡ p.column.0 + 1 = omega (arith, w.column) in
        let byte : plus p.byte.0 1 ≡ p.byte.0 + 1 = omega (arith, w.byte) in
        rw (e, after-other b p e, column, byte)
