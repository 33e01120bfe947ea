-- What the second walk still has to write, one byte after the other.
use Prim.Native.Nat.{ℕ, ◌+◌}
use mathlib.Core.Path.{◌≡◌, refl}
use mathlib.Core.Bool.{Bool, cond}
use mathlib.Core.List.{[], ◌∷◌}
use Rattle.format.specs.Table.{Bytes}
use Rattle.format.specs.Dialect.{lf, Dialect, class_of}
use Rattle.steps.specs.Steps.{Form, step_of}
use Rattle.fill.specs.Fill.{text_by, ends_by, rows_by, text_left, ends_left, rows_left}

module _ (d : Dialect) where
  pub text-none : (k : Form) (h : ℕ) → text_left d [] k h ≡ []
  unfolding text_left
  text-none k h = refl

  pub text_byte : (b : ℕ) (f : Bytes) (k : Form) (h : ℕ) → text_left d (b ∷ f) k h ≡ text_by (step_of (d.allows lf) k (class_of d b)) h b (λ j i. text_left d f j i)
  unfolding text_left
  text_byte b f k h = refl

module _ (w : Bool) (d : Dialect) where
  pub ends-none : (k : Form) (h n : ℕ) (u : Bool) → ends_left w d [] k h n u ≡ cond u (cond w (n ∷ []) []) []
  unfolding ends_left
  ends-none k h n u = refl

  pub ends-byte :
      (b : ℕ) (f : Bytes) (k : Form) (h n : ℕ) (u : Bool)
      → ends_left w d (b ∷ f) k h n u ≡ ends_by (step_of (d.allows lf) k (class_of d b)) h n (λ j i m v. ends_left w d f j i m v)
  unfolding ends_left
  ends-byte b f k h n u = refl

  pub rows_none : (k : Form) (n : ℕ) (u : Bool) → rows_left w d [] k n u ≡ cond u (cond w ((n + 1) ∷ []) []) []
  unfolding rows_left
  rows_none k n u = refl

  pub rows-byte :
      (b : ℕ) (f : Bytes) (k : Form) (n : ℕ) (u : Bool)
      → rows_left w d (b ∷ f) k n u ≡ rows_by (step_of (d.allows lf) k (class_of d b)) n (λ j m v. rows_left w d f j m v)
  unfolding rows_left
  rows-byte b f k n u = refl
