-- Forms and classes by their numbers.
use Prim.Native.Nat.{ℕ, zero, suc, min, ◌≤◌}
use mathlib.Core.Path.{◌≡◌, refl, sym, ◌∙◌}
use mathlib.Core.Bool.{◌&&◌, ◌||◌}
use native.Mathlib.Nat.{min-eq_left, min-eq_right}
use native.Mathlib.Omega.{arith}
use lib.Dec.{eqb, leb}
use borrow.Author.Tests.{ne_eqb, le-leb}
use Rattle.format.specs.Dialect.{Class, text, blank, delimiter, quote, CR, LF, forbidden}
use Rattle.format.proofs.Classes.{special_class}
use Rattle.steps.specs.Steps.{Form, start, lead, bare, quoted, shut, tail, cr, is_in_quotes, is_behind_cr}
use Rattle.steps.specs.Numbers.{form_number, class_number, form_of}

abbrev six+ : ℕ → ℕ
six+ n = suc (suc (suc (suc (suc (suc n)))))

-- what holds of 0 to 5 and of each number from 6 on holds of every number
by_number : (P : ℕ → Type 0) → P 0 → P 1 → P 2 → P 3 → P 4 → P 5 → ((n : ℕ) → P (six+ n)) → (n : ℕ) → P n
by_number P p₀ p₁ p₂ p₃ p₄ p₅ p zero = p₀
by_number P p₀ p₁ p₂ p₃ p₄ p₅ p (suc zero) = p₁
by_number P p₀ p₁ p₂ p₃ p₄ p₅ p (suc (suc zero)) = p₂
by_number P p₀ p₁ p₂ p₃ p₄ p₅ p (suc (suc (suc zero))) = p₃
by_number P p₀ p₁ p₂ p₃ p₄ p₅ p (suc (suc (suc (suc zero)))) = p₄
by_number P p₀ p₁ p₂ p₃ p₄ p₅ p (suc (suc (suc (suc (suc zero))))) = p₅
by_number P p₀ p₁ p₂ p₃ p₄ p₅ p (suc (suc (suc (suc (suc (suc n)))))) = p n

-- a number that stands for a form or a class, and what the rules ask of it
pub form-at : (n : ℕ) → form_number (form_of n) ≡ min n 6
unfolding form_of
form-at = by_number (λ n. form_number (form_of n) ≡ min n 6) refl refl refl refl refl refl (λ n. sym (min-eq_right (omega arith)))

pub form-number : (n : ℕ) → n ≤ 6 → form_number (form_of n) ≡ n
form-number n h = form-at n ∙ min-eq_left h

pub quotes-at : (n : ℕ) → is_in_quotes (form_of n) ≡ (eqb n (form_number quoted) || eqb n (form_number shut))
unfolding form_of
quotes-at =
    by_number (λ n. is_in_quotes (form_of n) ≡ (eqb n 3 || eqb n 4)) refl refl refl refl refl refl
    (λ n. rw (ne_eqb (six+ n) 3 (omega arith), ne_eqb (six+ n) 4 (omega arith)))

pub cr-at : (n : ℕ) → is_behind_cr (form_of n) ≡ leb (form_number cr) n
unfolding form_of
cr-at = by_number (λ n. is_behind_cr (form_of n) ≡ leb 6 n) refl refl refl refl refl refl (λ n. sym (le-leb 6 (six+ n) (omega arith)))

pub behind-number : (k : Form) → leb (form_number cr) (form_number k) ≡ is_behind_cr k
behind-number = elim [ start ↦ refl | lead ↦ refl | bare ↦ refl | quoted ↦ refl | shut ↦ refl | tail ↦ refl | cr ↦ refl ]

-- n is none of the numbers below k
abbrev pub NoneBelow : ℕ → ℕ → Type 0
NoneBelow n zero = Unit {0}
NoneBelow n (suc k) = NoneBelow n k × (n ≡ k → ⊥)

pub past : (n k : ℕ) → NoneBelow n k → k ≤ n
past n zero h = omega arith
past n (suc k) h = omega (arith, past n k h.0, h.1)

-- the numbers of a forbidden byte and of special bytes
pub forbidden-number : (x : Class) → class_number x ≡ class_number forbidden → x ≡ forbidden
forbidden-number text e = absurd (omega (arith, e))
forbidden-number blank e = absurd (omega (arith, e))
forbidden-number delimiter e = absurd (omega (arith, e))
forbidden-number quote e = absurd (omega (arith, e))
forbidden-number CR e = absurd (omega (arith, e))
forbidden-number LF e = absurd (omega (arith, e))
forbidden-number forbidden e = refl

pub special-number : (x : Class) → special_class x ≡ (leb (class_number delimiter) (class_number x) && leb (class_number x) (class_number LF))
special-number text = refl
special-number blank = refl
special-number delimiter = refl
special-number quote = refl
special-number CR = refl
special-number LF = refl
special-number forbidden = refl
