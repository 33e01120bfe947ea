-- What a byte does by the step table, in the forms and the classes that others ask for, and what the model makes of it. These laws stand for `step_of` and
-- `run` outside this crate. And: the code's answer for a step settles the step.
use Prim.Native.Nat.{ℕ}
use mathlib.Core.Path.{◌≡◌, refl}
use mathlib.Core.Bool.{Bool, true, false, cond, not, ◌||◌, false≢true}
use mathlib.Core.List.{[], ◌∷◌}
use lib.Dec.{T, eqb, leb}
use Rattle.format.specs.Table.{Bytes}
use Rattle.format.specs.Dialect.{lf, Dialect, Class, text, blank, delimiter, quote, CR, LF, forbidden, class_of}
use Rattle.format.proofs.Classes.{decide, quoted_class}
use Rattle.steps.specs.Steps.{Form, start, lead, bare, quoted, shut, tail, cr, nothing, put, hold, drop, field_end, record_end, Move, to, end, wrong, Act, refuse, go, carry, is_in_quotes, is_behind_cr, is_blank, row, next, step_of}
use Rattle.steps.specs.Model.{doing, closing, run}
use Rattle.steps.specs.Numbers.{form_number, form_of, coded, act_of}

abbrev Back : Act → Type 0
Back a = act_of (coded a) ≡ a

-- only a blank is held
abbrev pub HeldBlank : Class → Act → Type 0
HeldBlank x (refuse n) = Unit {0}
HeldBlank x (go j nothing) = Unit {0}
HeldBlank x (go j put) = Unit {0}
HeldBlank x (go j hold) = x ≡ blank
HeldBlank x (go j drop) = Unit {0}
HeldBlank x (go j field_end) = Unit {0}
HeldBlank x (go j record_end) = Unit {0}

module _ (lf : Bool) (k : Form) (x : Class) where
  carried : (m : Move) → Back (carry lf k x m)
  unfolding form_of
  carried (wrong n) = refl
  carried end = decide Back (is_behind_cr k || lf) (λ e. refl) (λ e. refl)
  carried (to start) = refl
  carried (to lead) = refl
  carried (to bare) = decide (λ o. Back (go bare o)) (is_blank x) (λ e. refl) (λ e. refl)
  carried (to quoted) = decide (λ o. Back (go quoted o)) (is_in_quotes k) (λ e. refl) (λ e. refl)
  carried (to shut) = refl
  carried (to tail) = refl
  carried (to cr) = refl

  -- a step is the entry of the table, carried out
  pub step-entry : step_of lf k x ≡ carry lf k x (next k x)
  unfolding step_of
  step-entry = refl

  pub act-back : act_of (coded (step_of lf k x)) ≡ step_of lf k x
  act-back = rw step-entry (carried (next k x))

  held : (m : Move) → HeldBlank x (carry lf k x m)
  held (wrong n) = tt
  held end = decide (HeldBlank x) (is_behind_cr k || lf) (λ e. tt) (λ e. tt)
  held (to start) = tt
  held (to lead) = tt
  held (to bare) = decide (λ o. HeldBlank x (go bare o)) (is_blank x) (λ e. by x e) (λ e. tt)
    where
      by : (x : Class) → is_blank x ≡ true → x ≡ blank
      by text e = absurd (false≢true e)
      by blank e = refl
      by delimiter e = absurd (false≢true e)
      by quote e = absurd (false≢true e)
      by CR e = absurd (false≢true e)
      by LF e = absurd (false≢true e)
      by forbidden e = absurd (false≢true e)
  held (to quoted) = decide (λ o. HeldBlank x (go quoted o)) (is_in_quotes k) (λ e. tt) (λ e. tt)
  held (to shut) = tt
  held (to tail) = tt
  held (to cr) = tt

  pub held-blank : HeldBlank x (step_of lf k x)
  held-blank = rw step-entry (held (next k x))

-- entries that the table may have: a refusal has a number, and a quote shuts only a quoted field
abbrev pub fine : Form → Move → Bool
fine k (to start) = true
fine k (to lead) = true
fine k (to bare) = true
fine k (to quoted) = true
fine k (to shut) = is_in_quotes k
fine k (to tail) = true
fine k (to cr) = true
fine k end = true
fine k (wrong n) = not (eqb n 0)

row-all :
    (P : Move → Type 0) (a b c d e f g : Move) → P a → P b → P c → P d → P e → P f → P g → (x : Class) → P (row a b c d e f g x)
row-all P a b c d e f g i j k l m n o text = i
row-all P a b c d e f g i j k l m n o blank = j
row-all P a b c d e f g i j k l m n o delimiter = k
row-all P a b c d e f g i j k l m n o quote = l
row-all P a b c d e f g i j k l m n o CR = m
row-all P a b c d e f g i j k l m n o LF = n
row-all P a b c d e f g i j k l m n o forbidden = o

pub fine-entry : (k : Form) (x : Class) → T (fine k (next k x))
fine-entry start = row-all (λ m. T (fine start m)) _ _ _ _ _ _ _ tt tt tt tt tt tt tt
fine-entry lead = row-all (λ m. T (fine lead m)) _ _ _ _ _ _ _ tt tt tt tt tt tt tt
fine-entry bare = row-all (λ m. T (fine bare m)) _ _ _ _ _ _ _ tt tt tt tt tt tt tt
fine-entry quoted = row-all (λ m. T (fine quoted m)) _ _ _ _ _ _ _ tt tt tt tt tt tt tt
fine-entry shut = row-all (λ m. T (fine shut m)) _ _ _ _ _ _ _ tt tt tt tt tt tt tt
fine-entry tail = row-all (λ m. T (fine tail m)) _ _ _ _ _ _ _ tt tt tt tt tt tt tt
fine-entry cr = row-all (λ m. T (fine cr m)) _ _ _ _ _ _ _ tt tt tt tt tt tt tt

-- an act inside a field leads to no field's start, and a refusal has a number
abbrev pub Proper : Act → Type 0
Proper (refuse n) = eqb n 0 ≡ false
Proper (go j nothing) = eqb (form_number j) (form_number start) ≡ false
Proper (go j put) = eqb (form_number j) (form_number start) ≡ false
Proper (go j hold) = eqb (form_number j) (form_number start) ≡ false
Proper (go j drop) = eqb (form_number j) (form_number start) ≡ false
Proper (go j field_end) = Unit {0}
Proper (go j record_end) = Unit {0}

module _ (lf : Bool) (k : Form) (x : Class) where
  proper : (m : Move) → T (fine k m) → Proper (carry lf k x m)
  proper (wrong n) t = by (eqb n 0) t
    where
      by : (y : Bool) → T (not y) → y ≡ false
      by true u = absurd u
      by false u = refl
  proper end t = decide Proper (is_behind_cr k || lf) (λ e. tt) (λ e. refl)
  proper (to start) t = tt
  proper (to lead) t = refl
  proper (to bare) t = decide (λ o. Proper (go bare o)) (is_blank x) (λ e. refl) (λ e. refl)
  proper (to quoted) t = decide (λ o. Proper (go quoted o)) (is_in_quotes k) (λ e. refl) (λ e. refl)
  proper (to shut) t = refl
  proper (to tail) t = refl
  proper (to cr) t = refl

  pub step-proper : Proper (step_of lf k x)
  step-proper = rw (step-entry lf k x) (proper (next k x) (fine-entry k x))

-- the forms in which a field may be over, and the classes at which it may
abbrev pub over : Form → Bool
over start = true
over lead = true
over bare = true
over quoted = false
over shut = true
over tail = true
over cr = false

abbrev pub stops : Class → Bool
stops text = false
stops blank = false
stops delimiter = true
stops quote = false
stops CR = true
stops LF = true
stops forbidden = true

module _ (y : Bool) where
  -- text before a field, or in a bare one
  pub text-puts : (k : Form) → leb (form_number k) (form_number bare) ≡ true → step_of y k text ≡ go bare put
  unfolding step_of
  text-puts start e = refl
  text-puts lead e = refl
  text-puts bare e = refl
  text-puts quoted e = absurd (false≢true e)
  text-puts shut e = absurd (false≢true e)
  text-puts tail e = absurd (false≢true e)
  text-puts cr e = absurd (false≢true e)

  -- a byte of content between quotes; a quote that opens, that may close, and the second of a pair
  pub inside-puts : (x : Class) → quoted_class x ≡ true → step_of y quoted x ≡ go quoted put
  unfolding step_of
  inside-puts text e = refl
  inside-puts blank e = refl
  inside-puts delimiter e = refl
  inside-puts quote e = absurd (false≢true e)
  inside-puts CR e = refl
  inside-puts LF e = refl
  inside-puts forbidden e = absurd (false≢true e)

  pub quote-opens : step_of y start quote ≡ go quoted nothing
  unfolding step_of
  quote-opens = refl

  pub quote-shuts : step_of y quoted quote ≡ go shut nothing
  unfolding step_of
  quote-shuts = refl

  pub quote-pairs : step_of y shut quote ≡ go quoted put
  unfolding step_of
  quote-pairs = refl

  -- where a field may be over: its end by a delimiter, a line break that is begun or whole, and a byte that is forbidden
  pub over-delimiter : (k : Form) → T (over k) → step_of y k delimiter ≡ go start field_end
  unfolding step_of
  over-delimiter start u = refl
  over-delimiter lead u = refl
  over-delimiter bare u = refl
  over-delimiter shut u = refl
  over-delimiter tail u = refl
  over-delimiter quoted u = elim u [ ]
  over-delimiter cr u = elim u [ ]

  pub over-CR : (k : Form) → T (over k) → step_of y k CR ≡ go cr nothing
  unfolding step_of
  over-CR start u = refl
  over-CR lead u = refl
  over-CR bare u = refl
  over-CR shut u = refl
  over-CR tail u = refl
  over-CR quoted u = elim u [ ]
  over-CR cr u = elim u [ ]

  pub over-LF : (k : Form) → T (over k) → step_of y k LF ≡ cond y (go start record_end) (refuse 7)
  unfolding step_of
  over-LF start u = refl
  over-LF lead u = refl
  over-LF bare u = refl
  over-LF shut u = refl
  over-LF tail u = refl
  over-LF quoted u = elim u [ ]
  over-LF cr u = elim u [ ]

  pub over-forbidden : (k : Form) → T (over k) → step_of y k forbidden ≡ refuse 3
  unfolding step_of
  over-forbidden start u = refl
  over-forbidden lead u = refl
  over-forbidden bare u = refl
  over-forbidden shut u = refl
  over-forbidden tail u = refl
  over-forbidden quoted u = elim u [ ]
  over-forbidden cr u = elim u [ ]

  pub CR-LF : step_of y cr LF ≡ go start record_end
  unfolding step_of
  CR-LF = refl

-- the model at the file's end, and at a byte
module _ (d : Dialect) where
  pub run_end : (k : Form) (p : Bytes) → run d [] k p ≡ closing k p
  unfolding run
  run_end k p = refl

  pub run-byte : (b : ℕ) (f : Bytes) (k : Form) (p : Bytes) → run d (b ∷ f) k p ≡ doing (step_of (d.allows lf) k (class_of d b)) k b f p (λ j q. run d f j q)
  unfolding run
  run-byte b f k p = refl
