-- The end of a field and of a record, from any state that may stand before one, and the opening of a quoted field.
use Prim.Native.Nat.{ℕ, ◌≤◌}
use mathlib.Core.Path.{◌≡◌, refl, sym, ap, ◌∙◌}
use mathlib.Core.Bool.{true, false, not, and-false, or-true}
use lib.Dec.{T, eqb, leb}
use borrow.Author.Tests.{eq-eqb, le-leb}
use Rattle.format.specs.declared.Place.{Place}
use Rattle.format.specs.Dialect.{lf, ragged, names, dialect, is_wide, delimiter, quote, CR, LF}
use Rattle.format.specs.House.{content_limit}
use Rattle.format.proofs.Classes.{delimiter-at, quote-beside, CR-beside, LF-beside}
use Rattle.steps.specs.Steps.{Form, start, lead, bare, quoted, shut, tail, cr}
use Rattle.steps.specs.Numbers.{form_number}
use Rattle.steps.proofs.Acts.{over, over-delimiter, over-CR, over-LF, CR-LF, quote-opens}
use Rattle.places.specs.Counters.{plus, moved, along}
use Rattle.places.proofs.Counting.{moved-along}
use Rattle.state.specs.declared.Check.{Check}
use Rattle.state.specs.declared.Counts.{Counts}
use Rattle.state.specs.declared.Current.{Current}
use Rattle.state.specs.declared.Used.{Used}
use Rattle.state.specs.Check.{new_field, entered, opened, placed, noted, one_field, one_record, used_at_end, field_ended, record_ended, seen_at, stepped, fed}
use Rattle.state.proofs.Jumps.{fed-is, noted-none}

-- what the start of a field keeps of the state before it
pub opened-from :
    (p : Place) (b : ℕ) (v : Used) (x : Current) (s : Counts) (g c : Check) → g.delimiter ≡ c.delimiter → g.leniencies ≡ c.leniencies → g.refusal ≡ c.refusal
    → placed p (opened b v x s g) ≡ placed p (opened b v x s c)
unfolding placed opened
opened-from p b v x s g c e₁ e₂ e₃ = rw (e₁, e₂, e₃)

-- no blanks to drop, and a content within the limit
pub record Ending (g : Check) (k : Form) : Type 0 where
  pub refusal : g.refusal ≡ 0
  pub form : g.form ≡ form_number k
  pub ends : T (over k)
  pub held : g.field.held ≡ 0
  pub content : g.field.content ≤ content_limit

module _ (g : Check) (k : Form) (h : Ending g k) where
  -- by the delimiter
  noted-delimiter : (b : ℕ) → b ≡ g.delimiter → noted b g ≡ g.used
  unfolding noted
  noted-delimiter b e = rw (eq-eqb b g.delimiter e, and-false (is_wide b))

  field-ended : (p : Place) → field_ended g.used p g ≡ opened 1 g.used (new_field p (plus g.field.number.0 1)) (one_field g.field.content g.counts) g
  unfolding field_ended
  field-ended p = rw (le-leb _ _ h.content, h.held)

  pub field-closed :
      (b : ℕ) → b ≡ g.delimiter
      → let n = moved b g.here in
      fed g b ≡ placed n (opened 1 g.used (new_field n (plus g.field.number.0 1)) (one_field g.field.content g.counts) g)
  unfolding stepped
  field-closed b e =
      rw (
        fed-is g b k delimiter h.refusal h.form (delimiter-at (dialect g.delimiter g.leniencies) b e),
        over-delimiter (names g.leniencies lf) k h.ends,
        noted-delimiter b e,
        field-ended,
      )

  -- by a line break
  behind_cr : Check
  behind_cr = placed (moved 0x0D g.here) (entered (form_number cr) g.here g.used g.field g)

  cr-step : (g.delimiter ≡ 0x0D → ⊥) → fed g 0x0D ≡ behind_cr
  unfolding stepped behind_cr
  cr-step d =
      rw (
        fed-is g 0x0D k CR h.refusal h.form (CR-beside (dialect g.delimiter g.leniencies) d),
        over-CR (names g.leniencies lf) k h.ends,
        noted-none 0x0D g refl,
      )

  module _ (w : plus g.field.number.0 1 ≡ g.counts.width) (no_cr : g.delimiter ≡ 0x0D → ⊥) (no_lf : g.delimiter ≡ 0x0A → ⊥) where
    ended-record :
        (p : Place)
        → placed p (record_ended g.used g.here p false behind_cr)
        ≡ placed p (opened 0 g.used (new_field p 0) (one_record g.field.content g.counts.width g.counts) g)
    unfolding behind_cr record_ended opened placed entered
    ended-record p =
        rw (le-leb _ _ h.content, h.held, w, eq-eqb g.counts.width g.counts.width refl, or-true (eqb g.counts.width 0), or-true (names g.leniencies ragged))

    pub row-closed :
        let n = moved 0x0A (moved 0x0D g.here) in
        fed (fed g 0x0D) 0x0A ≡ placed n (opened 0 g.used (new_field n 0) (one_record g.field.content g.counts.width g.counts) g)
    unfolding stepped behind_cr placed entered
    row-closed = ap (λ (x : Check). fed x 0x0A) (cr-step no_cr) ∙ lf-step
      where
        lf-step :
            let n = moved 0x0A (moved 0x0D g.here) in
            fed behind_cr 0x0A ≡ placed n (opened 0 g.used (new_field n 0) (one_record g.field.content g.counts.width g.counts) g)
        lf-step =
            rw (fed-is behind_cr 0x0A cr LF h.refusal refl (LF-beside (dialect g.delimiter g.leniencies) no_lf), CR-LF (names g.leniencies lf), noted-none 0x0A behind_cr refl)
            (ended-record (moved 0x0A (moved 0x0D g.here)))

  -- by an LF alone, where one was noted before
  module _ (w : plus g.field.number.0 1 ≡ g.counts.width) (alone : names g.leniencies lf ≡ true) (before : g.used.lf ≡ 1) (no_lf : g.delimiter ≡ 0x0A → ⊥) where
    noted-before : (v : Used) → v.lf ≡ 1 → used_at_end 0 true true v ≡ v
    noted-before v e = λ i. record { lf = sym e i; blanks = v.blanks; ragged = v.ragged; bytes = v.bytes }

    no-cr-form : (k : Form) → T (over k) → leb (form_number cr) (form_number k) ≡ false
    no-cr-form start u = refl
    no-cr-form lead u = refl
    no-cr-form bare u = refl
    no-cr-form shut u = refl
    no-cr-form tail u = refl
    no-cr-form quoted u = elim u [ ]
    no-cr-form cr u = elim u [ ]

    ended-alone :
        (p : Place) → placed p (record_ended g.used (seen_at g) p (not (leb (form_number cr) g.form)) g)
        ≡ placed p (opened 0 g.used (new_field p 0) (one_record g.field.content g.counts.width g.counts) g)
    unfolding record_ended
    ended-alone p =
        rw (le-leb _ _ h.content, h.held, w, eq-eqb g.counts.width g.counts.width refl, or-true (eqb g.counts.width 0), or-true (names g.leniencies ragged), h.form, no-cr-form k h.ends, noted-before g.used before)

    pub lone-closed :
        let n = moved 0x0A g.here in
        fed g 0x0A ≡ placed n (opened 0 g.used (new_field n 0) (one_record g.field.content g.counts.width g.counts) g)
    unfolding stepped
    lone-closed =
        rw (
          fed-is g 0x0A k LF h.refusal h.form (LF-beside (dialect g.delimiter g.leniencies) no_lf),
          alone,
          over-LF true k h.ends,
          noted-none 0x0A g refl,
        )
        (ended-alone (moved 0x0A g.here))

-- a quote at the start of a field opens it
pub quote-opened :
    (g : Check) → g.refusal ≡ 0 → g.form ≡ form_number start → (g.delimiter ≡ 0x22 → ⊥)
    → fed g 0x22 ≡ placed (along 1 g.here) (entered (form_number quoted) g.here g.used g.field g)
unfolding stepped
quote-opened g r f d = rw (fed-is g 0x22 start quote r f (quote-beside (dialect g.delimiter g.leniencies) d), quote-opens (names g.leniencies lf), noted-none 0x22 g refl, moved-along 0x22 g.here refl)
