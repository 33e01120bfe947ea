-- The laws of a step: its table is the rules' table.
use Prim.Native.Nat.{ℕ}
use mathlib.Core.Path.{◌≡◌, refl}
use mathlib.Core.Bool.{Bool}
use mathlib.Core.List.{[], map}
use lib.ListN.{get_or, get_or-map}
use Rattle.format.specs.Dialect.{Class, text, blank, delimiter, quote, CR, LF, forbidden}
use Rattle.steps.specs.Steps.{Form, start, lead, bare, quoted, shut, tail, cr, next, step_of}
use Rattle.steps.specs.declared.Move.{TheVariants.Start}
use Rattle.steps.specs.Numbers.{form_number, class_number, form_of, class_named, class_meant, move_meant, coded, forms, classes, step_table, step_by}
use Rattle.steps.proofs.Numbers.{form-at}

module _ {A : Type 0} where
  at-form : (f : Form → A) (a : A) (k : Form) → get_or (map f forms) (form_number k) a ≡ f k
  at-form f a = elim [ start ↦ refl | lead ↦ refl | bare ↦ refl | quoted ↦ refl | shut ↦ refl | tail ↦ refl | cr ↦ refl ]

  at-class : (f : Class → A) (a : A) (x : Class) → get_or (map f classes) (class_number x) a ≡ f x
  at-class f a = elim [ text ↦ refl | blank ↦ refl | delimiter ↦ refl | quote ↦ refl | CR ↦ refl | LF ↦ refl | forbidden ↦ refl ]

-- the test, over the whole table at once: each entry stands for its move
same-table : map (map move_meant) step_table ≡ map (λ k. map (next k) classes) forms
unfolding step_table form_of
same-table = refl

pub entry-is : (k : Form) (x : Class) → move_meant (get_or (get_or step_table (form_number k) []) (class_number x) Start) ≡ next k x
entry-is k x =
    rw (← get_or-map move_meant, ← get_or-map (map move_meant), same-table, at-form, at-class)

pub form-back : (k : Form) → form_of (form_number k) ≡ k
unfolding form_of
form-back = elim [ start ↦ refl | lead ↦ refl | bare ↦ refl | quoted ↦ refl | shut ↦ refl | tail ↦ refl | cr ↦ refl ]

pub class-back : (x : Class) → class_meant (class_named x) ≡ x
class-back = elim [ text ↦ refl | blank ↦ refl | delimiter ↦ refl | quote ↦ refl | CR ↦ refl | LF ↦ refl | forbidden ↦ refl ]

pub step-any : (lf : Bool) (form : ℕ) (x : Class) → step_by step_table lf form x ≡ coded (step_of lf (form_of form) x)
unfolding step_by step_of
step-any lf form x = rw (← form-at form, entry-is)
