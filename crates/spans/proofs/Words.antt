-- A walk by words of marks: where it stands, and what a mark, a block without one and a shift change.
use Prim.Native.Nat.{ℕ, ◌+◌, ◌-◌, ◌/◌, ◌^◌, ◌≤◌, ◌<◌}
use native.Mathlib.Omega.{arith}
use mathlib.Core.Path.{◌≡◌, ◌∙◌}
use mathlib.Core.Bool.{Bool}
use mathlib.Core.List.{List}
use lib.Count.{count_trailing_zeros}
use lib.ListN.{length, get_or}
use Rattle.format.specs.Table.{Bytes}
use Rattle.format.specs.Dialect.{dialect}
use Rattle.runs.specs.Runs.{is_plain}
use Rattle.format.specs.Memory.{largest32}
use Rattle.words.specs.Words.{Stops}
use Rattle.words.proofs.Words.{Marked, marked-on, marked-none, marked-some}
use Rattle.state.specs.declared.Check.{Check}
use Rattle.spans.specs.declared.Walk.{Walk}
use Rattle.spans.specs.Walk.{placed_at, Sized, Walking}
use Rattle.spans.proofs.Passing.{walking-text}

-- what stays as it is
pub record Ground (c : Check) (t : List Bool) (s : Bytes) : Type 0 where
  pub stops : Stops t (dialect c.delimiter c.leniencies)
  pub bytes : (j : ℕ) → get_or s j 0 < 256

-- a walk within a block that ends at e, whose marks from there on are w
pub record Reading (c : Check) (t : List Bool) (s : Bytes) (a : ℕ) (x : Walk) (e w : ℕ) : Type 0 where
  pub walking : Walking c s a x
  pub ground : Ground c t s
  pub marked : Marked t s e x.at w
  pub within : e ≤ length s
  pub small : e - x.at ≤ 64

pub sized : (c : Check) (s : Bytes) (a : ℕ) (x : Walk) → Walking c s a x → x.at < length s → Sized x s
sized c s a x w h =
    record { inside = h; short = w.level.short; from = w.from; line = w.line; lines = w.lines; closed = w.closed; text = w.text; number = w.number }

-- the first mark
pub record Mark (c : Check) (s : Bytes) (a : ℕ) (x : Walk) (k : ℕ) : Type 0 where
  pub walking : Walking c s a (placed_at x (x.at + k))
  pub low : k < 64
  pub inside : x.at + k < length s
  pub short : length s ≤ largest32

module _ (c : Check) (t : List Bool) (s : Bytes) (a : ℕ) (x : Walk) (e w : ℕ) (r : Reading c t s a x e w) where
  pub first-mark : (w ≡ 0 → ⊥) → Mark c s a x (count_trailing_zeros 64 w)
  first-mark z =
      let q = marked-some t (is_plain (dialect c.delimiter c.leniencies)) r.ground.stops s r.ground.bytes e x.at w r.marked r.within r.small z in
      let q₀ = q.0 in
      let within = r.within in
      let small = r.small in
      record {
        walking = walking-text c s a x r.walking (count_trailing_zeros 64 w) q.1;
        low = omega arith;
        inside = omega arith;
        short = r.walking.level.short;
      }

  pub no-mark : w ≡ 0 → Walking c s a (placed_at x (x.at + (e - x.at)))
  no-mark z =
      walking-text c s a x r.walking (e - x.at)
      (marked-none t (is_plain (dialect c.delimiter c.leniencies)) r.ground.stops s r.ground.bytes e x.at w r.marked r.within z)

  -- further on, with the marks that are left
  pub goes_on :
      (k n v : ℕ) (y : Walk) → x.at + k + n ≡ y.at → Walking c s a y → v ≡ w / 2 ^ k / 2 ^ n → Reading c t s a y e v
  goes_on k n v y q h g =
      record {
        walking = h;
        ground = r.ground;
        marked = rw q at (g ∙ marked-on t P r.ground.stops s r.ground.bytes e (x.at + k) (w / 2 ^ k) (marked-on t P r.ground.stops s r.ground.bytes e x.at w r.marked k) n);
        within = r.within;
        small = let small = r.small in omega arith;
      }
    where
      P : ℕ → Bool
      P = is_plain (dialect c.delimiter c.leniencies)
