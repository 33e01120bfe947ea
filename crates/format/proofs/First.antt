-- The first element of a list that has a property: there is one place at most, and none where no element has it.
use Prim.Native.Nat.{ℕ, suc, ◌<◌}
use native.Mathlib.Omega.{arith}
use mathlib.Core.Path.{◌≡◌, refl, ap}
use mathlib.Core.List.{List}
use lib.ListN.{length}
use Rattle.format.specs.Table.{None, First, here, later}

module _ {A : Type 0} {P : A → Type 0} where
  pub one-first : {l : List A} {k j : ℕ} → First P l k → First P l j → k ≡ j
  one-first (here h) (here i) = refl
  one-first (here h) (later n y) = absurd (n h)
  one-first (later n x) (here i) = absurd (n i)
  one-first (later n x) (later m y) = ap suc (one-first x y)

  pub none_first : {l : List A} {k : ℕ} → None P l → First P l k → ⊥
  none_first n (here h) = n.0 h
  none_first n (later m x) = none_first n.1 x

  pub first-inside : {l : List A} {k : ℕ} → First P l k → k < length l
  first-inside (here h) = omega arith
  first-inside (later n x) = omega (arith, first-inside x)
