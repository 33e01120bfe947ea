-- How a place moves: over one byte, and over a run of bytes.
use Prim.Native.Nat.{ℕ, zero, suc, ◌+◌, ◌-◌, ◌≤◌}
use native.Mathlib.Nat.{add_assoc, add-zero, add-suc}
use native.Mathlib.Omega.{arith}
use mathlib.Core.Path.{◌≡◌, refl}
use mathlib.Core.Bool.{Bool, true, false, cond}
use mathlib.Core.List.{[], ◌∷◌, ◌++◌, append_assoc}
use lib.Dec.{eqb, eqb-suc-zero}
use borrow.Author.Tests.{eq-eqb}
use lib.ListN.{length, length-append}
use lib.Seq.{take_at}
use Rattle.format.specs.declared.Place.{Place}
use Rattle.format.specs.Table.{Bytes}
use Rattle.format.specs.Place.{place, line_feeds, since_lf, behind, place_of}

-- the place behind the byte b that stands at p
unfoldable pub after : ℕ → Place → Place
after b p = cond (eqb b 0x0A) (place (p.line.0 + 1) 1 (p.byte.0 + 1)) (place p.line.0 (p.column.0 + 1) (p.byte.0 + 1))

pub after-lf : (b : ℕ) (p : Place) → eqb b 0x0A ≡ true → after b p ≡ place (p.line.0 + 1) 1 (p.byte.0 + 1)
unfolding after
after-lf b p e = rw e

pub after-other : (b : ℕ) (p : Place) → eqb b 0x0A ≡ false → after b p ≡ place p.line.0 (p.column.0 + 1) (p.byte.0 + 1)
unfolding after
after-other b p e = rw e

-- the place behind the run r that begins at p
unfoldable pub past : Bytes → Place → Place
past r p =
    place (p.line.0 + line_feeds r) (cond (eqb (line_feeds r) 0) (p.column.0 + length r) (1 + length (since_lf r))) (p.byte.0 + length r)

past-byte : (b : ℕ) (p : Place) → past (b ∷ []) p ≡ after b p
unfolding past after line_feeds since_lf
past-byte b p = go (eqb b 0x0A) refl
  where
    go : (x : Bool) → eqb b 0x0A ≡ x → past (b ∷ []) p ≡ after b p
    go true e = rw e
    go false e = rw (e, add-zero p.line.0)

pub line_feeds-append : (s r : Bytes) → line_feeds (s ++ r) ≡ line_feeds s + line_feeds r
unfolding line_feeds
line_feeds-append [] r = omega arith
line_feeds-append (b ∷ s) r = rw (line_feeds-append s r) (omega arith)

-- none, and one byte more in front
pub feeds-nil : line_feeds [] ≡ 0
unfolding line_feeds
feeds-nil = refl

pub feeds-byte : (b : ℕ) (f : Bytes) → line_feeds (b ∷ f) ≡ cond (eqb b 0x0A) 1 0 + line_feeds f
unfolding line_feeds
feeds-byte b f = refl

pub feeds-lf : (b : ℕ) (f : Bytes) → eqb b 0x0A ≡ true → line_feeds (b ∷ f) ≡ 1 + line_feeds f
feeds-lf b f e = rw (feeds-byte b f, e)

pub feeds-other : (b : ℕ) (f : Bytes) → eqb b 0x0A ≡ false → line_feeds (b ∷ f) ≡ line_feeds f
feeds-other b f e = rw (feeds-byte b f, e) (omega arith)

-- without an LF it is all of them, and bytes before an LF do not count
pub since_none : (f : Bytes) → line_feeds f ≡ 0 → since_lf f ≡ f
unfolding since_lf
since_none [] h = refl
since_none (b ∷ f) h = rw (eq-eqb (line_feeds (b ∷ f)) 0 h)

pub since-on : (b : ℕ) (f : Bytes) → eqb (line_feeds (b ∷ f)) 0 ≡ false → since_lf (b ∷ f) ≡ since_lf f
unfolding since_lf
since-on b f e = rw e

sum-zero : (n m : ℕ) → eqb (n + m) 0 ≡ cond (eqb m 0) (eqb n 0) false
sum-zero n zero = rw add-zero
sum-zero n (suc m) = simp (add-suc, eqb-suc-zero)

pub since_lf-append : (s r : Bytes) → since_lf (s ++ r) ≡ cond (eqb (line_feeds r) 0) (since_lf s ++ r) (since_lf r)
unfolding since_lf line_feeds
since_lf-append [] [] = refl
since_lf-append [] (b ∷ r) = go (eqb (line_feeds (b ∷ r)) 0)
  where
    go : (x : Bool) → cond x (b ∷ r) (since_lf r) ≡ cond x (b ∷ r) (cond x (b ∷ r) (since_lf r))
    go true = refl
    go false = refl
since_lf-append (b ∷ s) r =
    rw (since_lf, line_feeds-append (b ∷ s) r, sum-zero (line_feeds (b ∷ s)) (line_feeds r), since_lf-append s r)
    (go (eqb (line_feeds r) 0) (eqb (line_feeds (b ∷ s)) 0))
  where
    go :
        (x y : Bool)
        → cond (cond x y false) (b ∷ (s ++ r)) (cond x (since_lf s ++ r) (since_lf r)) ≡ cond x (cond y (b ∷ s) (since_lf s) ++ r) (since_lf r)
    go true true = refl
    go true false = refl
    go false true = refl
    go false false = refl

pub behind-append : (s r : Bytes) → behind (s ++ r) ≡ past r (behind s)
unfolding behind past
behind-append s r = rw (line_feeds-append, since_lf-append, length-append, ← add_assoc, column (eqb (line_feeds r) 0))
  where
    column : (x : Bool) → 1 + length (cond x (since_lf s ++ r) (since_lf r)) ≡ cond x (1 + length (since_lf s) + length r) (1 + length (since_lf r))
    column true = simp (length-append, add_assoc)
    column false = refl

pub place-behind : (s g : Bytes) → place_of (s ++ g) g ≡ behind s
unfolding place_of
place-behind s g = rw (take_at s g (length (s ++ g) - length g) (rw length-append (omega arith)))

pub place-first : (f : Bytes) → place_of f f ≡ place 1 1 0
unfolding behind line_feeds since_lf
place-first f = place-behind [] f

pub place-run : (s r g : Bytes) → place_of (s ++ (r ++ g)) g ≡ past r (place_of (s ++ (r ++ g)) (r ++ g))
place-run s r g = rw (place-behind s (r ++ g), ← append_assoc s r g, place-behind (s ++ r) g, behind-append)

pub place-step : (s : Bytes) (b : ℕ) (g : Bytes) → place_of (s ++ (b ∷ g)) g ≡ after b (place_of (s ++ (b ∷ g)) (b ∷ g))
place-step s b g = rw (← past-byte) (place-run s (b ∷ []) g)

feeds-within : (s : Bytes) → line_feeds s ≤ length s
unfolding line_feeds
feeds-within [] = omega arith
feeds-within (b ∷ s) = go (eqb b 0x0A) (feeds-within s)
  where
    go : (x : Bool) → line_feeds s ≤ length s → cond x 1 0 + line_feeds s ≤ suc (length s)
    go true h = omega arith
    go false h = omega arith

since-within : (s : Bytes) → length (since_lf s) ≤ length s
unfolding since_lf
since-within [] = omega arith
since-within (b ∷ s) = go (eqb (line_feeds (b ∷ s)) 0) (since-within s)
  where
    go : (x : Bool) → length (since_lf s) ≤ length s → length (cond x (b ∷ s) (since_lf s)) ≤ suc (length s)
    go true h = omega arith
    go false h = omega arith

-- the numbers of a place are within the bytes before it
pub record PlaceWithin (n : ℕ) (p : Place) : Type 0 where
  pub line : p.line.0 ≤ 1 + n
  pub column : p.column.0 ≤ 1 + n
  pub byte : p.byte.0 ≤ n

pub place-within : (s g : Bytes) → PlaceWithin (length s) (place_of (s ++ g) g)
unfolding behind
place-within s g =
    rw (place-behind s g)
    (record { line = omega (arith, feeds-within s); column = omega (arith, since-within s); byte = omega arith })
