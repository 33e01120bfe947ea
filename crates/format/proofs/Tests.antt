-- Tests that are joined: both halves of one that holds, neither half of one that does not, and what follows on one outcome alone.
use mathlib.Core.Path.{◌≡◌, refl, sym, ◌∙◌}
use mathlib.Core.Bool.{Bool, true, false, ◌&&◌, ◌||◌, true≢false, false≢true}

pub and_both : (x y : Bool) → (x && y) ≡ true → (x ≡ true) × (y ≡ true)
and_both true y e = (refl, e)
and_both false y e = absurd (false≢true e)

pub neither : (x y : Bool) → (x || y) ≡ false → (x ≡ false) × (y ≡ false)
neither true y e = absurd (true≢false e)
neither false y e = (refl, e)

pub on-true : {A B : Type 0} {x : Bool} → x ≡ true → A → (x ≡ true → A) × (x ≡ false → B)
on-true e a = (λ i. a, λ i. absurd (true≢false (sym e ∙ i)))
