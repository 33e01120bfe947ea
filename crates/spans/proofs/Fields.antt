-- A walk over fields and records: what is known of the state at the start of the field in work, and to which state its end leads.
use Prim.Native.Nat.{ℕ, ◌+◌, ◌-◌, ◌≤◌, min}
use native.Mathlib.Omega.{arith}
use mathlib.Core.Path.{◌≡◌, refl, sym, ap, ap₂, ◌∙◌}
use mathlib.Core.Bool.{Bool, true, false, cond, not}
use lib.Dec.{eqb}
use borrow.Author.Tests.{eqb-true, ne_eqb}
use Rattle.format.specs.declared.Place.{Place}
use Rattle.format.specs.Table.{Bytes}
use Rattle.format.specs.Dialect.{lf, names}
use Rattle.format.proofs.Tests.{and_both}
use Rattle.steps.specs.Steps.{Form, start}
use Rattle.steps.specs.Numbers.{form_number}
use Rattle.state.specs.declared.Check.{Check}
use Rattle.state.specs.declared.Used.{Used}
use Rattle.spans.specs.declared.Walk.{Walk}
use Rattle.places.specs.Counters.{counter_limit, plus, moved, along, spot}
use Rattle.state.specs.Check.{new_field, opened, placed, noting, one_field, one_record, fed}
use Rattle.spans.specs.Walk.{Level, field_on, row_on, lone_ends, opening, Unmoved}
use Rattle.places.proofs.Counting.{plus-plus, moved-along, spot-line, spot-low, spot-further, along-spot, line-behind}
use Rattle.state.proofs.Parts.{opened-is}
use Rattle.state.proofs.Closing.{opened-from, Ending, field-closed, row-closed, lone-closed}

-- what is known of the state e at the start of the field in work of the walk x from the state c at a
pub record Opened (c : Check) (a : ℕ) (x : Walk) (e : Check) : Type 0 where
  pub refusal : e.refusal ≡ c.refusal
  pub form : e.form ≡ form_number start
  pub content : e.field.content ≡ 0
  pub held : e.field.held ≡ 0
  pub delimiter : e.delimiter ≡ c.delimiter
  pub leniencies : e.leniencies ≡ c.leniencies
  pub used : e.used ≡ c.used
  pub width : e.counts.width ≡ c.counts.width
  pub records : e.counts.records ≡ plus c.counts.records x.rows
  pub fields : plus e.counts.fields.0 1 ≡ plus c.counts.fields.0 (x.fields + 1)
  pub text : (m : ℕ) → plus e.counts.text m ≡ plus c.counts.text (x.text + m)
  pub number : plus e.field.number.0 1 ≡ min (x.number + 1) counter_limit
  pub line : e.here.line.0 ≤ counter_limit
  pub ahead : (k : ℕ) → along k e.here ≡ spot x.lines (x.start + k - x.line) (x.start + k - a) c.here

pub opened_some : (c : Check) (a : ℕ) (x : Walk) → x.line ≤ x.start → a ≤ x.start → Opened c a x (opening x a c)
unfolding opening
opened_some c a x h₁ h₂ =
    rw opened-is
    (record {
      refusal = refl;
      form = refl;
      content = refl;
      held = refl;
      delimiter = refl;
      leniencies = refl;
      used = refl;
      width = refl;
      records = refl;
      fields = plus-plus c.counts.fields.0 x.fields 1;
      text = λ m. plus-plus c.counts.text x.text m;
      number = stopped x.number;
      line = spot-low x.lines (x.start - x.line) (x.start - a) c.here;
      ahead = λ k. spot-further x.lines x.start x.line a k c.here h₁ h₂;
    })
  where
    stopped : (n : ℕ) → plus (min n counter_limit) 1 ≡ min (n + 1) counter_limit
    stopped n = omega arith

pub opened-none : (c : Check) (s : Bytes) (a : ℕ) (x : Walk) → Level c s → Unmoved c a x → x.fields ≡ 0 → Opened c a x c
opened-none c s a x l u f =
    record {
      refusal = refl;
      form = l.form;
      content = l.content;
      held = l.held;
      delimiter = refl;
      leniencies = refl;
      used = refl;
      width = refl;
      records = rw u.rows (kept c.counts.records l.records);
      fields = rw f;
      text = λ m. rw u.text (ap (plus c.counts.text) (none m));
      number = rw u.number (stopped c.field.number.0);
      line = l.line;
      ahead = λ k. rw (u.lines, u.start, u.line) (along-spot k c.here l.line ∙ ap (λ (n : ℕ). spot 0 n n c.here) (all k));
    }
  where
    kept : (n : ℕ) → n ≤ counter_limit → n ≡ plus n 0
    kept n h = omega arith

    none : (m : ℕ) → m ≡ 0 + m
    none m = omega arith

    stopped : (n : ℕ) → plus n 1 ≡ min (n + 1) counter_limit
    stopped n = omega arith

    all : (k : ℕ) → k ≡ a + k - a
    all k = omega arith

-- where a field ends: the place, the length of its content, where its line begins, and the line feeds passed
pub record Stop : Type 0 where
  pub at : ℕ
  pub content : ℕ
  pub line : ℕ
  pub lines : ℕ

abbrev pub stop_at : ℕ → ℕ → ℕ → ℕ → Stop
stop_at p m j l = record { at = p; content = m; line = j; lines = l }

-- what is known of the state g where the field in work ends
pub record Ended (c : Check) (a : ℕ) (x : Walk) (g : Check) (z : Stop) : Type 0 where
  pub form : Form
  pub ending : Ending g form
  pub refusal : g.refusal ≡ c.refusal
  pub delimiter : g.delimiter ≡ c.delimiter
  pub leniencies : g.leniencies ≡ c.leniencies
  pub used : g.used ≡ c.used
  pub width : g.counts.width ≡ c.counts.width
  pub records : g.counts.records ≡ plus c.counts.records x.rows
  pub fields : plus g.counts.fields.0 1 ≡ plus c.counts.fields.0 (x.fields + 1)
  pub text : plus g.counts.text g.field.content ≡ plus c.counts.text (x.text + z.content)
  pub number : plus g.field.number.0 1 ≡ min (x.number + 1) counter_limit
  pub ahead : (k : ℕ) → along (k + 1) g.here ≡ spot z.lines (z.at + (k + 1) - z.line) (z.at + (k + 1) - a) c.here

-- the start of a field, by its parts
abbrev opens : Check → Used → Place → ℕ → ℕ → ℕ → ℕ → ℕ → ℕ → Check
opens c v p b n r f t w = placed p (opened b v (new_field p n) (record { records = r; fields = record { 0 = f }; text = t; width = w }) c)

same-opens :
    (c : Check) (v v' : Used) (p p' : Place) (b b' n n' r r' f f' t t' w w' : ℕ) → v ≡ v' → p ≡ p' → b ≡ b' → n ≡ n' → r ≡ r' → f ≡ f' → t ≡ t' → w ≡ w'
    → opens c v p b n r f t w ≡ opens c v' p' b' n' r' f' t' w'
same-opens c v v' p p' b b' n n' r r' f f' t t' w w' e₁ e₂ e₃ e₄ e₅ e₆ e₇ e₈ = rw (e₁, e₂, e₃, e₄, e₅, e₆, e₇, e₈)

module _ (c : Check) (a : ℕ) (x : Walk) (g : Check) (z : Stop) (h : Ended c a x g z) (on : a ≤ z.at) (no_lf : c.delimiter ≡ 0x0A → ⊥) where
  one_on : along 1 g.here ≡ spot z.lines (z.at + 1 - z.line) (z.at + 1 - a) c.here
  one_on = h.ahead 0

  -- by the delimiter
  pub field_end : (b : ℕ) → b ≡ c.delimiter → fed g b ≡ opening (field_on x (z.at + 1) z.content z.line z.lines) a c
  unfolding opening
  field_end b e =
      let n = moved b g.here in
      let next : n ≡ spot z.lines (z.at + 1 - z.line) (z.at + 1 - a) c.here = moved-along b g.here (ne_eqb b 0x0A (λ q. no_lf (sym e ∙ q))) ∙ one_on in
      field-closed g h.form h.ending b (e ∙ sym h.delimiter)
      ∙ opened-from n 1 g.used (new_field n (plus g.field.number.0 1)) (one_field g.field.content g.counts) g c h.delimiter h.leniencies h.refusal
      ∙ same-opens c g.used c.used n (spot z.lines (z.at + 1 - z.line) (z.at + 1 - a) c.here) 1 (noting (not (eqb (x.number + 1) 0)) 0)
      (plus g.field.number.0 1) (min (x.number + 1) counter_limit)
      g.counts.records (plus c.counts.records x.rows) (plus g.counts.fields.0 1) (plus c.counts.fields.0 (x.fields + 1))
      (plus g.counts.text g.field.content) (plus c.counts.text (x.text + z.content)) g.counts.width c.counts.width
      h.used next (rw (ne_eqb (x.number + 1) 0 (λ q. omega arith))) h.number h.records h.fields h.text h.width

  -- by a line break
  module _ (no_cr : c.delimiter ≡ 0x0D → ⊥) (w : c.counts.width ≡ x.number + 1) (narrow : c.counts.width ≤ counter_limit) where
    as_wide : plus g.field.number.0 1 ≡ g.counts.width
    as_wide =
        let few : min (x.number + 1) counter_limit ≡ c.counts.width = omega arith in
        h.number ∙ few ∙ sym h.width

    next-line : moved 0x0A (moved 0x0D g.here) ≡ spot (z.lines + 1) (z.at + 2 - (z.at + 2)) (z.at + 2 - a) c.here
    next-line =
        ap (moved 0x0A) (moved-along 0x0D g.here refl ∙ one_on)
        ∙ spot-line z.lines (z.at + 1 - z.line) (z.at + 1 - a) c.here
        ∙ ap₂ (λ (t n : ℕ). spot (z.lines + 1) t n c.here) none bytes
      where
        none : 0 ≡ z.at + 2 - (z.at + 2)
        none = omega arith

        bytes : z.at + 1 - a + 1 ≡ z.at + 2 - a
        bytes = omega arith

    kept-width : cond (eqb g.counts.width 0) g.counts.width g.counts.width ≡ c.counts.width
    kept-width = by (eqb g.counts.width 0) ∙ h.width
      where
        by : (y : Bool) → cond y g.counts.width g.counts.width ≡ g.counts.width
        by true = refl
        by false = refl

    -- a state where the next record begins, at p
    row_opens :
        (f : Check) (n : Place) (p : ℕ) → f ≡ placed n (opened 0 g.used (new_field n 0) (one_record g.field.content g.counts.width g.counts) g)
        → n ≡ spot (z.lines + 1) (p - p) (p - a) c.here → f ≡ opening (row_on x p z.content z.lines) a c
    unfolding opening
    row_opens f n p e q =
        e
        ∙ opened-from n 0 g.used (new_field n 0) (one_record g.field.content g.counts.width g.counts) g c h.delimiter h.leniencies h.refusal
        ∙ same-opens c g.used c.used n (spot (z.lines + 1) (p - p) (p - a) c.here) 0 0 0 (min 0 counter_limit)
        (plus g.counts.records 1) (plus c.counts.records (x.rows + 1)) (plus g.counts.fields.0 1) (plus c.counts.fields.0 (x.fields + 1))
        (plus g.counts.text g.field.content) (plus c.counts.text (x.text + z.content)) (cond (eqb g.counts.width 0) g.counts.width g.counts.width) c.counts.width
        h.used q refl (omega arith) (ap (λ (r : ℕ). plus r 1) h.records ∙ plus-plus c.counts.records x.rows 1) h.fields h.text kept-width

    pub row-end : fed (fed g 0x0D) 0x0A ≡ opening (row_on x (z.at + 2) z.content z.lines) a c
    row-end =
        row_opens (fed (fed g 0x0D) 0x0A) (moved 0x0A (moved 0x0D g.here)) (z.at + 2)
        (row-closed g h.form h.ending as_wide (λ q. no_cr (sym h.delimiter ∙ q)) (λ q. no_lf (sym h.delimiter ∙ q))) next-line

    -- by an LF alone, where one was noted before
    pub lone-end : lone_ends c ≡ true → fed g 0x0A ≡ opening (row_on x (z.at + 1) z.content z.lines) a c
    lone-end y =
        let (v, u) = and_both (names c.leniencies lf) (eqb c.used.lf 1) y in
        row_opens (fed g 0x0A) (moved 0x0A g.here) (z.at + 1)
        (lone-closed g h.form h.ending as_wide (ap (λ (n : ℕ). names n lf) h.leniencies ∙ v) (ap (λ (r : Used). r.lf) h.used ∙ eqb-true c.used.lf 1 u) (λ q. no_lf (sym h.delimiter ∙ q)))
        (line-behind z.lines (z.at + 1 - z.line) (z.at + 1 - a) g.here c.here one_on ∙ ap (λ (t : ℕ). spot (z.lines + 1) t (z.at + 1 - a) c.here) none)
      where
        none : 0 ≡ z.at + 1 - (z.at + 1)
        none = omega arith
