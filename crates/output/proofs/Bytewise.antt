-- A call, one byte after the other; and what the code of a byte computes.
use Prim.Native.Nat.{ℕ, ◌≤◌, min}
use native.Mathlib.Omega.{arith}
use mathlib.Core.Path.{◌≡◌, refl}
use mathlib.Core.Bool.{Bool, true, false, cond, ◌&&◌}
use mathlib.Core.List.{[], ◌∷◌, ◌++◌}
use lib.Dec.{leb}
use lib.ListN.{length, replicate}
use borrow.Author.Tests.{leb-true, le-leb}
use Rattle.format.specs.Table.{Bytes}
use Rattle.state.specs.declared.Check.{Check}
use Rattle.state.specs.Check.{fed}
use Rattle.output.specs.declared.Stream.{Stream}
use Rattle.output.specs.Out.{Out}
use Rattle.output.specs.declared.Room.{Room}
use Rattle.output.specs.Stream.{shown, is_over, puts_text, ends_field, ends_record, byte_left, when, blanks_due, due, fits, left, short_of, idle, onward, showing, stuck, taking, streamed}

module _ (s : Stream) (r : Room) where
  pub streamed-none : streamed s [] r ≡ idle s
  unfolding streamed
  streamed-none = refl

  pub streamed-over : (f : Bytes) → is_over s ≡ true → streamed s f r ≡ idle s
  unfolding streamed
  streamed-over [] h = refl
  streamed-over (b ∷ f) h = rw h

  module _ (b : ℕ) (f : Bytes) (h : is_over s ≡ false) where
    pub streamed-shown : shown (fed s.check b) ≡ true → streamed s (b ∷ f) r ≡ showing (fed s.check b)
    unfolding streamed
    streamed-shown i = rw (h, i)

    module _ (i : shown (fed s.check b) ≡ false) where
      abbrev dues : Out
      dues = due s.early s.check b (fed s.check b)

      pub streamed-taken : fits dues r ≡ true → streamed s (b ∷ f) r ≡ taking dues (streamed (onward (fed s.check b)) f (left dues r))
      unfolding streamed
      streamed-taken j = rw (h, i, j)

      pub streamed-stuck : fits dues r ≡ false → streamed s (b ∷ f) r ≡ stuck s dues r (min (blanks_due s.early s.check (fed s.check b)) r.text)
      unfolding streamed
      streamed-stuck j = rw (h, i, j)

-- a byte that shows a refusal ends the stream
pub shown-over : (e : Check) → shown e ≡ true → is_over (onward e) ≡ true
shown-over e h = rw h

pub shown-open : (e : Check) → shown e ≡ false → is_over (onward e) ≡ false
shown-open e h = rw h

-- what a byte puts out
pub due-is :
    (m : ℕ) (c : Check) (b : ℕ) (e : Check)
    → due m c b e
    ≡ record {
      text = replicate (blanks_due m c e) 0x20 ++ when (puts_text c e && byte_left c) b;
      ends = when (ends_field e) e.counts.text;
      rows = when (ends_record e) e.counts.fields.0;
    }
unfolding due
due-is m c b e = refl

-- no buffer is short exactly where all fits
pub short-fits : (o : Out) (r : Room) → short_of o r ≡ 0 → fits o r ≡ true
unfolding fits short_of
short-fits o r = by (leb (length o.text) r.text) (leb (length o.ends) r.ends) (leb (length o.rows) r.rows)
  where
    by : (x y z : Bool) → ◌≡◌ {A = ℕ} (cond x (cond y (cond z 0 13) 12) 11) 0 → (x && (y && z)) ≡ true
    by true true true h = refl
    by true true false h = absurd (omega (arith, h))
    by true false z h = absurd (omega (arith, h))
    by false y z h = absurd (omega (arith, h))

pub short-not : (o : Out) (r : Room) → (short_of o r ≡ 0 → ⊥) → fits o r ≡ false
unfolding fits short_of
short-not o r = by (leb (length o.text) r.text) (leb (length o.ends) r.ends) (leb (length o.rows) r.rows)
  where
    by : (x y z : Bool) → (◌≡◌ {A = ℕ} (cond x (cond y (cond z 0 13) 12) 11) 0 → ⊥) → (x && (y && z)) ≡ false
    by true true true h = absurd (h refl)
    by true true false h = refl
    by true false z h = refl
    by false y z h = refl

-- which one is, by its lengths
pub short-is :
    (o : Out) (r : Room)
    → short_of o r ≡ cond (leb (length o.text) r.text) (cond (leb (length o.ends) r.ends) (cond (leb (length o.rows) r.rows) 0 13) 12) 11
unfolding short_of
short-is o r = refl

pub parts-fit : (o : Out) (r : Room) → length o.text ≤ r.text → length o.ends ≤ r.ends → length o.rows ≤ r.rows → fits o r ≡ true
unfolding fits
parts-fit o r x y z = rw (le-leb (length o.text) r.text x, le-leb (length o.ends) r.ends y, le-leb (length o.rows) r.rows z)

pub fits-parts : (o : Out) (r : Room) → fits o r ≡ true → (length o.text ≤ r.text) × (length o.ends ≤ r.ends) × (length o.rows ≤ r.rows)
unfolding fits
fits-parts o r = by (leb (length o.text) r.text) refl (leb (length o.ends) r.ends) refl (leb (length o.rows) r.rows) refl
  where
    by :
        (x : Bool) → leb (length o.text) r.text ≡ x → (y : Bool) → leb (length o.ends) r.ends ≡ y → (z : Bool) → leb (length o.rows) r.rows ≡ z
        → (x && (y && z)) ≡ true → (length o.text ≤ r.text) × (length o.ends ≤ r.ends) × (length o.rows ≤ r.rows)
    by true p true q true u h = (leb-true (length o.text) r.text p, leb-true (length o.ends) r.ends q, leb-true (length o.rows) r.rows u)
    by true p true q false u h = let i : ◌≡◌ {A = ℕ} 0 1 = cc in absurd (omega arith)
    by true p false q z u h = let i : ◌≡◌ {A = ℕ} 0 1 = cc in absurd (omega arith)
    by false p y q z u h = let i : ◌≡◌ {A = ℕ} 0 1 = cc in absurd (omega arith)
