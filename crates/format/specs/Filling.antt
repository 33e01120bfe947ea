-- A buffer that is filled from the front, over any type of element.
use Rattle.std.specs.Prelude.{ℕ, ◌+◌, ◌≤◌, ◌≡◌, List, ◌++◌, length, drop}
use Rattle.std.proofs.lemmas.List.Edits.{sets}

-- the old buffer with the new list over its front
abbrev pub over : {A : Type 0} → List A → List A → List A
over new old = new ++ drop (length new) old

-- a buffer at the place of its next element, with what is still to be written there and the target, which the buffer is to become; and there is room
pub record Filling {A : Type 0} (buf : List A) (at : ℕ) (rest target : List A) : Type 0 where
  pub room : at + length rest ≤ length buf
  pub fills : sets buf at rest ≡ target

-- a buffer goes on as another: whatever the first is to become, the second is
abbrev pub Onward : {A : Type 0} → List A → ℕ → List A → List A → ℕ → List A → Type 0
Onward {A} buf at rest buf' at' rest' = (target : List A) → Filling buf at rest target → Filling buf' at' rest' target
