-- What asking any state gives that shows no refusal so far, part by part.
use Prim.Native.Nat.{ℕ, ◌≤◌, ◌<◌}
use mathlib.Core.Path.{◌≡◌, refl, ◌∙◌}
use mathlib.Core.Bool.{Bool, true, false, cond, not, ◌&&◌, ◌||◌}
use lib.Dec.{eqb, leb}
use native.Mathlib.Omega.{arith}
use borrow.Author.Tests.{leb-true, le-leb, eqb-true, eqb-false, eq-eqb}
use Rattle.format.specs.declared.Answer.{Answer}
use Rattle.format.specs.Answer.{accepted_with, refused_by}
use Rattle.format.specs.Place.{nowhere}
use Rattle.format.specs.Dialect.{ragged, names}
use Rattle.format.specs.House.{content_limit, file_limit}
use Rattle.steps.specs.Model.{is_valid}
use Rattle.steps.specs.Steps.{quoted, cr}
use Rattle.steps.specs.Numbers.{form_number}
use Rattle.places.specs.Counters.{plus}
use Rattle.state.specs.declared.Check.{Check}
use Rattle.state.specs.Check.{evenly, record_ended}
use Rattle.state.proofs.Byte.{RecordEnds, record-does}
use Rattle.pieces.specs.Asked.{totalled, settled_answer, cut, asked}
use Rattle.pieces.proofs.Stands.{asked-as}

-- accepted, with so many fields and so much text
pub record Sums (m n : ℕ) (a : Answer) : Type 0 where
  pub refusal : a.refusal ≡ 0
  pub fields : a.totals.fields.0 ≡ m
  pub text : a.totals.text ≡ n

-- the record in work is the last
pub data LastEnds (c : Check) : Answer → Type 0 where
  ends : {a : Answer}
      → c.field.content ≤ content_limit → (names c.leniencies ragged || evenly c) ≡ true → Sums (plus c.counts.fields.0 1) (plus c.counts.text c.field.content) a
      → LastEnds c a
  long : {a : Answer} → content_limit < c.field.content → a.refusal ≡ 9 → LastEnds c a
  uneven : {a : Answer} → c.field.content ≤ content_limit → (names c.leniencies ragged || evenly c) ≡ false → a.refusal ≡ 10 → LastEnds c a

-- by where the file is cut: between records, between quotes, behind a CR, or elsewhere in a record
pub data Asks (c : Check) : Answer → Type 0 where
  between : {a : Answer} → eqb c.begun 0 ≡ true → Sums c.counts.fields.0 c.counts.text a → Asks c a
  in_quotes : {a : Answer} → eqb c.begun 0 ≡ false → eqb c.form (form_number quoted) ≡ true → a.refusal ≡ 8 → Asks c a
  behind_cr : {a : Answer} → eqb c.begun 0 ≡ false → leb (form_number cr) c.form ≡ true → a.refusal ≡ 6 → Asks c a
  in_record : {a : Answer}
      → eqb c.begun 0 ≡ false → eqb c.form (form_number quoted) ≡ false → leb (form_number cr) c.form ≡ false → LastEnds c a → Asks c a

settled-sums : (e : Check) → e.refusal ≡ 0 → Sums e.counts.fields.0 e.counts.text (settled_answer e)
unfolding settled_answer totalled
settled-sums e z = rw (eq-eqb e.refusal 0 z) (record { refusal = refl; fields = refl; text = refl })

settled-number : (e : Check) (n : ℕ) → eqb n 0 ≡ false → e.refusal ≡ n → (settled_answer e).refusal ≡ n
unfolding settled_answer
settled-number e n z q = rw (q, z)

module _ (c : Check) (z : c.refusal ≡ 0) where
  last-ends : (e : Check) → RecordEnds c e → LastEnds c (settled_answer e)
  last-ends e (RecordEnds.ends v) =
      let s = settled-sums e (v.over.refusal ∙ z) in
      LastEnds.ends v.over.short v.even (record { refusal = s.refusal; fields = s.fields ∙ v.over.fields; text = s.text ∙ v.over.text })
  last-ends e (RecordEnds.long l q) = LastEnds.long l (settled-number e 9 refl q)
  last-ends e (RecordEnds.uneven l y q) = LastEnds.uneven l y (settled-number e 10 refl q)

  cut-asks : eqb c.begun 0 ≡ false → Asks c (cut c)
  cut-asks u = by (eqb c.form (form_number quoted)) refl (leb (form_number cr) c.form) refl
    where
      by :
          (x : Bool) → eqb c.form (form_number quoted) ≡ x → (y : Bool) → leb (form_number cr) c.form ≡ y
          → Asks c (cond x (refused_by 8 c.anchor) (cond y (refused_by 6 c.anchor) (settled_answer (record_ended c.used c.here c.here false c))))
      by true p y q = Asks.in_quotes u p refl
      by false p true q = Asks.behind_cr u q refl
      by false p false q = Asks.in_record u p q (last-ends _ (record-does c c.used c.here c.here false))

pub asks : (c : Check) → is_valid c.delimiter c.leniencies ≡ true → c.here.byte.0 ≤ file_limit → c.refusal ≡ 0 → Asks c (asked c)
asks c v l z = by (eqb c.begun 0) refl
  where
    by : (y : Bool) → eqb c.begun 0 ≡ y → Asks c (asked c)
    by true e = rw (asked-as c v (le-leb c.here.byte.0 file_limit l) z true e) (Asks.between e (settled-sums c z))
    by false e = rw (asked-as c v (le-leb c.here.byte.0 file_limit l) z false e) (cut-asks c z e)

-- asking any other state gives a refusal
pub asks-refused : (c : Check) → (is_valid c.delimiter c.leniencies ≡ true → c.here.byte.0 ≤ file_limit → c.refusal ≡ 0 → ⊥) → (asked c).refusal ≡ 0 → ⊥
unfolding asked settled_answer
asks-refused c h =
    by (is_valid c.delimiter c.leniencies) refl (leb c.here.byte.0 file_limit) refl (eqb c.refusal 0) refl (cut c) (accepted_with (totalled c))
  where
    by : (u : Bool) → is_valid c.delimiter c.leniencies ≡ u → (v : Bool) → leb c.here.byte.0 file_limit ≡ v → (w : Bool) → eqb c.refusal 0 ≡ w
        → (y z : Answer)
        → (cond u (cond v (cond (w && not (eqb c.begun 0)) y (cond w z (refused_by c.refusal c.anchor))) (refused_by 2 nowhere)) (refused_by 1 nowhere)).refusal ≡ 0 → ⊥
    by true p true q true r y z e = h p (leb-true c.here.byte.0 file_limit q) (eqb-true c.refusal 0 r)
    by true p true q false r y z e = eqb-false c.refusal 0 r e
    by true p false q w r y z e = omega (arith, e)
    by false p v q w r y z e = omega (arith, e)
