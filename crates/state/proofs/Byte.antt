-- What a byte makes of any state that has no refusal, part by part, by the act of the table.
use Prim.Native.Nat.{ℕ, ◌≤◌, ◌<◌}
use mathlib.Core.Path.{◌≡◌, refl}
use mathlib.Core.Bool.{Bool, true, false, cond, ◌||◌}
use lib.Dec.{eqb, leb}
use borrow.Author.Tests.{leb-true, leb-false, eq-eqb}
use Rattle.format.specs.declared.Place.{Place}
use Rattle.format.specs.Dialect.{lf, ragged, names, dialect, class_of}
use Rattle.format.specs.House.{content_limit}
use Rattle.format.proofs.Classes.{decide}
use Rattle.steps.specs.Steps.{start, nothing, put, hold, drop, field_end, record_end, Act, refuse, go, step_of}
use Rattle.steps.specs.Numbers.{form_number, form_of, coded}
use Rattle.places.specs.Counters.{plus, moved}
use Rattle.state.specs.declared.Used.{Used}
use Rattle.state.specs.declared.Check.{Check}
use Rattle.state.specs.Check.{stopped, entered, opened, placed, noted, field_ended, width_here, evenly, record_ended, stepped, fed}

-- it leads to the form k inside the field, which then has m bytes of content and h blanks held
pub record Within (c : Check) (k m h : ℕ) (e : Check) : Type 0 where
  pub refusal : e.refusal ≡ c.refusal
  pub form : e.form ≡ k
  pub begun : e.begun ≡ 1
  pub content : e.field.content ≡ m
  pub held : e.field.held ≡ h
  pub number : e.field.number ≡ c.field.number
  pub counts : e.counts ≡ c.counts

-- it ends the field, and the next one begins; u says whether in the same record
pub record Over (c : Check) (u : ℕ) (e : Check) : Type 0 where
  pub short : c.field.content ≤ content_limit
  pub refusal : e.refusal ≡ c.refusal
  pub form : e.form ≡ form_number start
  pub begun : e.begun ≡ u
  pub content : e.field.content ≡ 0
  pub held : e.field.held ≡ 0
  pub text : e.counts.text ≡ plus c.counts.text c.field.content
  pub fields : e.counts.fields.0 ≡ plus c.counts.fields.0 1

-- the record goes on
pub record FieldOver (c e : Check) : Type 0 where
  pub over : Over c 1 e
  pub number : e.field.number.0 ≡ plus c.field.number.0 1
  pub records : e.counts.records ≡ c.counts.records
  pub width : e.counts.width ≡ c.counts.width

-- it ends as well
pub record RecordOver (c e : Check) : Type 0 where
  pub over : Over c 0 e
  pub even : (names c.leniencies ragged || evenly c) ≡ true
  pub number : e.field.number.0 ≡ 0
  pub records : e.counts.records ≡ plus c.counts.records 1
  pub width : e.counts.width ≡ cond (eqb c.counts.width 0) (width_here c) c.counts.width

-- where a field, or a record, is to end
pub data FieldEnds (c : Check) : Check → Type 0 where
  ends : {e : Check} → FieldOver c e → FieldEnds c e
  long : {e : Check} → content_limit < c.field.content → e.refusal ≡ 9 → FieldEnds c e

pub data RecordEnds (c : Check) : Check → Type 0 where
  ends : {e : Check} → RecordOver c e → RecordEnds c e
  long : {e : Check} → content_limit < c.field.content → e.refusal ≡ 9 → RecordEnds c e
  uneven : {e : Check} → c.field.content ≤ content_limit → (names c.leniencies ragged || evenly c) ≡ false → e.refusal ≡ 10 → RecordEnds c e

-- what each act makes of c
abbrev pub Does : Check → Act → Check → Type 0
Does c (refuse n) e = e.refusal ≡ n
Does c (go j nothing) e = Within c (form_number j) c.field.content c.field.held e
Does c (go j put) e = Within c (form_number j) (plus (plus c.field.content c.field.held) 1) 0 e
Does c (go j hold) e = Within c (form_number j) c.field.content (plus c.field.held 1) e
Does c (go j drop) e = Within c (form_number j) c.field.content c.field.held e
Does c (go j field_end) e = FieldEnds c e
Does c (go j record_end) e = RecordEnds c e

-- the act of a byte
abbrev pub act_of : Check → ℕ → Act
act_of c b = step_of (names c.leniencies lf) (form_of c.form) (class_of (dialect c.delimiter c.leniencies) b)

module _ (c : Check) (v : Used) (p : Place) where
  field-does : FieldEnds c (placed p (field_ended v p c))
  unfolding field_ended placed opened stopped
  field-does =
      decide (λ (e : Check). FieldEnds c (placed p e)) (leb c.field.content content_limit)
      (λ l. FieldEnds.ends (record {
        over = record { short = leb-true c.field.content content_limit l; refusal = refl; form = refl; begun = refl; content = refl; held = refl; text = refl; fields = refl };
        number = refl;
        records = refl;
        width = refl;
      }))
      (λ l. FieldEnds.long (leb-false c.field.content content_limit l) refl)

  pub record-does : (at : Place) (l : Bool) → RecordEnds c (record_ended v at p l c)
  unfolding record_ended opened stopped
  record-does at z =
      decide (RecordEnds c) (leb c.field.content content_limit)
      (λ l. decide (RecordEnds c) (names c.leniencies ragged || evenly c)
      (λ y. RecordEnds.ends (record {
        over = record { short = leb-true c.field.content content_limit l; refusal = refl; form = refl; begun = refl; content = refl; held = refl; text = refl; fields = refl };
        even = y;
        number = refl;
        records = refl;
        width = refl;
      }))
      (λ y. RecordEnds.uneven (leb-true c.field.content content_limit l) y refl))
      (λ l. RecordEnds.long (leb-false c.field.content content_limit l) refl)

  -- which says nothing of the place
  record-placed : {e : Check} → RecordEnds c e → RecordEnds c (placed p e)
  unfolding placed
  record-placed (RecordEnds.ends v) =
      let o = v.over in
      RecordEnds.ends (record {
        over = record { short = o.short; refusal = o.refusal; form = o.form; begun = o.begun; content = o.content; held = o.held; text = o.text; fields = o.fields };
        even = v.even;
        number = v.number;
        records = v.records;
        width = v.width;
      })
  record-placed (RecordEnds.long l v) = RecordEnds.long l v
  record-placed (RecordEnds.uneven l y v) = RecordEnds.uneven l y v

  by-act : (a : Act) → Does c a (placed p (stepped (coded a) v p c))
  unfolding stepped placed entered stopped
  by-act (refuse n) = refl
  by-act (go j nothing) = record { refusal = refl; form = refl; begun = refl; content = refl; held = refl; number = refl; counts = refl }
  by-act (go j put) = record { refusal = refl; form = refl; begun = refl; content = refl; held = refl; number = refl; counts = refl }
  by-act (go j hold) = record { refusal = refl; form = refl; begun = refl; content = refl; held = refl; number = refl; counts = refl }
  by-act (go j drop) = record { refusal = refl; form = refl; begun = refl; content = refl; held = refl; number = refl; counts = refl }
  by-act (go j field_end) = field-does
  by-act (go j record_end) = record-placed (record-does _ _)

pub fed-does : (c : Check) (b : ℕ) → c.refusal ≡ 0 → Does c (act_of c b) (fed c b)
unfolding fed
fed-does c b z = rw (eq-eqb c.refusal 0 z) (by-act c (noted b c) (moved b c.here) (act_of c b))
