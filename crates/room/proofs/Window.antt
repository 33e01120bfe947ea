-- Many bytes taken at once: what bytes put out that show no refusal is what the second walk writes for them.
use Prim.Native.Nat.{ℕ, suc, ◌+◌, ◌-◌, ◌≤◌, ◌<◌, min}
use native.Mathlib.Omega.{arith}
use mathlib.Core.Path.{◌≡◌, refl, sym, ap, ◌∙◌}
use mathlib.Core.Bool.{Bool, true, false, not}
use mathlib.Core.List.{[], ◌∷◌, ◌++◌, append_assoc}
use lib.Dec.{eqb}
use lib.ListN.{length, replicate, length-append}
use borrow.Author.Tests.{le-leb, lt-leb, eqb-false}
use Rattle.format.specs.Table.{Bytes}
use Rattle.format.specs.House.{content_limit}
use Rattle.steps.specs.Steps.{Form, start, nothing, put, hold, drop, field_end, record_end, Act, refuse, go}
use Rattle.steps.specs.Numbers.{form_number}
use Rattle.steps.proofs.Rules.{form-back}
use Rattle.steps.proofs.Acts.{Proper, step-proper}
use Rattle.places.specs.Counters.{counter_limit, plus}
use Rattle.state.specs.declared.Check.{Check}
use Rattle.state.specs.Check.{fed, fed_all}
use Rattle.state.proofs.Moves.{Keeps, fed-none, fed-cons, fed-keeps}
use Rattle.state.proofs.Byte.{Within, FieldEnds, RecordEnds, Does, act_of, fed-does}
use Rattle.fill.specs.Fill.{text_by, ends_by, rows_by, text_left, ends_left, rows_left}
use Rattle.fill.proofs.Left.{text-none, text_byte, ends-none, ends-byte, rows_none, rows-byte}
use Rattle.fill.proofs.Part.{ends-any, rows-any}
use Rattle.output.specs.Out.{Out, nothing as silence, then}
use Rattle.output.specs.declared.Room.{Room}
use Rattle.output.specs.Stream.{shown, puts_text, ends_field, byte_left, due, left, Called, onward, taking, streamed}
use Rattle.taking.specs.Walk.{adding}
use Rattle.room.specs.Room.{dialect_of, put_out}
use Rattle.taking.proofs.Growing.{adds_none}
use Rattle.output.proofs.Bytewise.{shown-open, parts-fit, streamed-taken}
use Rattle.output.proofs.Step.{clear, due-quiet, due-text, due-field, due-record}
use Rattle.output.proofs.Calls.{then-then}
use Rattle.output.proofs.Meaning.{shown-first}

-- no counter stops within n bytes
pub record Small (c : Check) (n : ℕ) : Type 0 where
  pub text : c.counts.text + c.field.content + c.field.held + n ≤ counter_limit
  pub fields : c.counts.fields.0 + n ≤ counter_limit

-- room for what is put out
pub record Holds (o : Out) (r : Room) : Type 0 where
  pub text : length o.text ≤ r.text
  pub ends : length o.ends ≤ r.ends
  pub rows : length o.rows ≤ r.rows

-- all blanks held come out where the content limit leaves room for them
blanks-all : (h c k : ℕ) → c + h + 1 ≤ k → min (h - 0) (k - (c + 0)) ≡ h
blanks-all h c k l = omega arith

-- and none where it leaves no room
none_left : (h c k : ℕ) → k < c → min (h - 0) (k - (c + 0)) ≡ 0
none_left h c k l = omega arith

-- one byte
module _ (c : Check) (b : ℕ) (g : Bytes) (n : ℕ) (few : Small c (suc n)) where
  abbrev act_out : Act → Out
  act_out a =
      record {
        text = text_by a c.field.held b (λ j i. text_left (dialect_of c) g j i);
        ends = ends_by a c.field.held (c.counts.text + c.field.content) (λ j i m v. ends_left false (dialect_of c) g j i m v);
        rows = rows_by a c.counts.fields.0 (λ j m v. rows_left false (dialect_of c) g j m v);
      }

  record Next (o : Out) (e : Check) : Type 0 where
    is : o ≡ then (due 0 c b e) (put_out e g)
    small : Small e n

  not-refused : {A : Type 0} {r : ℕ} (m : ℕ) → eqb m 0 ≡ false → r ≡ m → r ≡ 0 → A
  not-refused m p q z = absurd (eqb-false m 0 p (sym q ∙ z))

  no-put : (e : Check) → e.field.content ≤ c.field.content → puts_text c e ≡ false
  no-put e l = ap not (le-leb e.field.content c.field.content l)

  -- nothing comes out
  quiet : (j : Form) (h : ℕ) (e : Check) → Keeps c e → Within c (form_number j) c.field.content h e → eqb (form_number j) (form_number start) ≡ false → h ≤ c.field.held + 1
      → Next (record {
        text = text_left (dialect_of c) g j h;
        ends = ends_left false (dialect_of c) g j h (c.counts.text + c.field.content) true;
        rows = rows_left false (dialect_of c) g j c.counts.fields.0 true;
      }) e
  quiet j h e k v p l =
      let y : puts_text c e ≡ false = no-put e (rw v.content (omega arith)) in
      let z : ends_field e ≡ false = rw v.form p in
      let s₁ = few.text in
      let s₂ = few.fields in
      record {
        is = rw (due-quiet 0 c b e y z, k.delimiter, k.leniencies, v.form, v.content, v.held, v.counts, form-back j);
        small = record { text = rw (v.content, v.held, v.counts) (omega arith); fields = rw v.counts (omega arith) };
      }

  by-act : (a : Act) (e : Check) → Keeps c e → Proper a → Does c a e → e.refusal ≡ 0 → e.field.content ≤ content_limit → Next (act_out a) e
  by-act (refuse m) e k p v z l = not-refused m p v z
  by-act (go j nothing) e k p v z l = quiet j c.field.held e k v p (omega arith)
  by-act (go j drop) e k p v z l = quiet j c.field.held e k v p (omega arith)
  by-act (go j hold) e k p v z l =
      let s = few.text in
      let i : plus c.field.held 1 ≡ c.field.held + 1 = omega arith in
      quiet j (c.field.held + 1) e k (rw i at v) p (omega arith)
  by-act (go j put) e k p v z l =
      let s₁ = few.text in
      let s₂ = few.fields in
      let i : plus (plus c.field.content c.field.held) 1 ≡ c.field.content + c.field.held + 1 = omega arith in
      let q : e.field.content ≡ c.field.content + c.field.held + 1 = v.content ∙ i in
      let y : puts_text c e ≡ true = ap not (lt-leb e.field.content c.field.content (omega arith)) in
      let x : ends_field e ≡ false = rw v.form p in
      let n₀ : c.field.content + c.field.held + 1 ≤ content_limit = rw q at l in
      let w = blanks-all c.field.held c.field.content content_limit n₀ in
      let u : byte_left c ≡ true = le-leb (c.field.content + c.field.held + 1) content_limit n₀ in
      let m : c.counts.text + c.field.content + c.field.held + 1 ≡ c.counts.text + (c.field.content + c.field.held + 1) = omega arith in
      let o : due 0 c b e ≡ record { text = replicate c.field.held 0x20 ++ (b ∷ []); ends = []; rows = [] } = rw (due-text 0 c b e y x, w, u) in
      let t = text_left (dialect_of c) g j 0 in
      record {
        is = rw (o, k.delimiter, k.leniencies, v.form, q, v.held, v.counts, form-back j, m) (λ i. record {
          text = sym (append_assoc (replicate c.field.held 0x20) (b ∷ []) t) i;
          ends = ends_left false (dialect_of c) g j 0 (c.counts.text + (c.field.content + c.field.held + 1)) true;
          rows = rows_left false (dialect_of c) g j c.counts.fields.0 true;
        });
        small = record { text = rw (q, v.held, v.counts) (omega arith); fields = rw v.counts (omega arith) };
      }
  by-act (go j field_end) e k p (FieldEnds.long l v) z i = not-refused 9 refl v z
  by-act (go j field_end) e k p (FieldEnds.ends v) z i =
      let s₁ = few.text in
      let s₂ = few.fields in
      let o = v.over in
      let y : puts_text c e ≡ false = no-put e (rw o.content (omega arith)) in
      let x : ends_field e ≡ true = rw o.form in
      let u : eqb e.begun 0 ≡ false = rw o.begun in
      let t : e.counts.text ≡ c.counts.text + c.field.content = o.text ∙ omega arith in
      let f : e.counts.fields.0 ≡ c.counts.fields.0 + 1 = o.fields ∙ omega arith in
      let m : c.counts.text + c.field.content + 0 ≡ c.counts.text + c.field.content = omega arith in
      record {
        is = rw (due-field 0 c b e y x u, k.delimiter, k.leniencies, o.form, o.content, o.held, t, f, form-back start, m);
        small = record { text = rw (o.content, o.held, t) (omega arith); fields = rw f (omega arith) };
      }
  by-act (go j record_end) e k p (RecordEnds.long l v) z i = not-refused 9 refl v z
  by-act (go j record_end) e k p (RecordEnds.uneven l y v) z i = not-refused 10 refl v z
  by-act (go j record_end) e k p (RecordEnds.ends v) z i =
      let s₁ = few.text in
      let s₂ = few.fields in
      let o = v.over in
      let y : puts_text c e ≡ false = no-put e (rw o.content (omega arith)) in
      let x : ends_field e ≡ true = rw o.form in
      let u : eqb e.begun 0 ≡ true = rw o.begun in
      let t : e.counts.text ≡ c.counts.text + c.field.content = o.text ∙ omega arith in
      let f : e.counts.fields.0 ≡ c.counts.fields.0 + 1 = o.fields ∙ omega arith in
      let m : c.counts.text + c.field.content + 0 ≡ c.counts.text + c.field.content = omega arith in
      record {
        is = rw (due-record 0 c b e y x u, k.delimiter, k.leniencies, o.form, o.content, o.held, t, f, form-back start, m)
            (λ i. record {
              text = text_left (dialect_of c) g start 0;
              ends = (c.counts.text + c.field.content) ∷ ends-any (dialect_of c) g start 0 (c.counts.text + c.field.content) false true i;
              rows = (c.counts.fields.0 + 1) ∷ rows-any (dialect_of c) g start (c.counts.fields.0 + 1) false true i;
            });
        small = record { text = rw (o.content, o.held, t) (omega arith); fields = rw f (omega arith) };
      }

  byte_next : c.refusal ≡ 0 → (fed c b).refusal ≡ 0 → (fed c b).field.content ≤ content_limit → Next (put_out c (b ∷ g)) (fed c b)
  byte_next z z' l =
      rw (text_byte (dialect_of c) b g, ends-byte false (dialect_of c) b g, rows-byte false (dialect_of c) b g)
      (by-act (act_of c b) (fed c b) (fed-keeps c b) (step-proper _ _ _) (fed-does c b z) z' l)

-- Within a field content only grows, and a field over the limit does not end without a refusal: so what fits at the end has fitted before.
fits-before : (c : Check) (b : ℕ) → c.refusal ≡ 0 → (fed c b).refusal ≡ 0 → (fed c b).field.content ≤ content_limit → c.field.content ≤ content_limit
fits-before c b z z' l = by (act_of c b) (step-proper _ _ _) (fed-does c b z)
  where
    not-refused : {A : Type 0} (m : ℕ) → eqb m 0 ≡ false → (fed c b).refusal ≡ m → A
    not-refused m p q = absurd (eqb-false m 0 p (sym q ∙ z'))

    by : (a : Act) → Proper a → Does c a (fed c b) → c.field.content ≤ content_limit
    by (refuse m) p v = not-refused m p v
    by (go j nothing) p v = let e = v.content in omega arith
    by (go j put) p v = let e = v.content in omega arith
    by (go j hold) p v = let e = v.content in omega arith
    by (go j drop) p v = let e = v.content in omega arith
    by (go j field_end) p (FieldEnds.ends v) = v.over.short
    by (go j field_end) p (FieldEnds.long i v) = not-refused 9 refl v
    by (go j record_end) p (RecordEnds.ends v) = v.over.short
    by (go j record_end) p (RecordEnds.long i v) = not-refused 9 refl v
    by (go j record_end) p (RecordEnds.uneven i y v) = not-refused 10 refl v

fits-first : (g : Bytes) (c : Check) → shown (fed_all c g) ≡ false → (fed_all c g).field.content ≤ content_limit → c.field.content ≤ content_limit
fits-first [] c s l = rw (fed-none c) at l
fits-first (b ∷ g) c s l =
    let s' = rw (fed-cons c b g) at s in
    let e = shown-first g (fed c b) s' in
    fits-before c b (clear c (shown-first (b ∷ g) c s)).refusal (clear (fed c b) e).refusal (fits-first g (fed c b) s' (rw (fed-cons c b g) at l))

-- room
module _ (o p : Out) (r : Room) where
  lengths-then :
      (length (then o p).text ≡ length o.text + length p.text) × (length (then o p).ends ≡ length o.ends + length p.ends)
      × (length (then o p).rows ≡ length o.rows + length p.rows)
  lengths-then = (length-append o.text p.text, length-append o.ends p.ends, length-append o.rows p.rows)

  left-then : left p (left o r) ≡ left (then o p) r
  left-then =
      let l = lengths-then in
      let l₀ = l.0 in
      let l₁ = l.1 in
      let l₂ = l.2 in
      let x : r.text - length o.text - length p.text ≡ r.text - length (then o p).text = omega arith in
      let y : r.ends - length o.ends - length p.ends ≡ r.ends - length (then o p).ends = omega arith in
      let z : r.rows - length o.rows - length p.rows ≡ r.rows - length (then o p).rows = omega arith in
      λ i. record { text = x i; ends = y i; rows = z i }

  holds_parts : Holds (then o p) r → Holds o r × Holds p (left o r)
  holds_parts h =
      let l = lengths-then in
      let l₀ = l.0 in
      let l₁ = l.1 in
      let l₂ = l.2 in
      let h₀ = h.text in
      let h₁ = h.ends in
      let h₂ = h.rows in
      (record { text = omega arith; ends = omega arith; rows = omega arith }, record { text = omega arith; ends = omega arith; rows = omega arith })

left-none : (r : Room) → left silence r ≡ r
left-none r =
    let x : r.text - 0 ≡ r.text = omega arith in
    let y : r.ends - 0 ≡ r.ends = omega arith in
    let z : r.rows - 0 ≡ r.rows = omega arith in
    λ i. record { text = x i; ends = y i; rows = z i }

-- a byte that shows no refusal and has room
taken-byte :
    (c : Check) (b : ℕ) (f : Bytes) (r : Room) → shown c ≡ false → shown (fed c b) ≡ false → Holds (due 0 c b (fed c b)) r
    → streamed (onward c) (b ∷ f) r ≡ taking (due 0 c b (fed c b)) (streamed (onward (fed c b)) f (left (due 0 c b (fed c b)) r))
taken-byte c b f r s s' h = streamed-taken (onward c) r b f (shown-open c s) s' (parts-fit (due 0 c b (fed c b)) r h.text h.ends h.rows)

adds : (k : ℕ) (o p : Out) (x : Called) → taking o (adding k p x) ≡ adding (suc k) (then o p) x
adds k o p x =
    let e = then-then o p x.out in
    let z : suc (k + x.taken) ≡ suc k + x.taken = omega arith in
    λ i. record { taken = z i; out = sym e i; short = x.short; state = x.state }

-- Bytes that show no refusal and bring no content over the limit, with room for what they put out, are taken, whatever comes behind them.
pub windowed :
    (g f : Bytes) (c : Check) (r : Room) → Small c (length g) → shown (fed_all c g) ≡ false → (fed_all c g).field.content ≤ content_limit → Holds (put_out c g) r
    → streamed (onward c) (g ++ f) r ≡ adding (length g) (put_out c g) (streamed (onward (fed_all c g)) f (left (put_out c g) r))
windowed [] f c r m s l h =
    let e : put_out c [] ≡ silence = rw (text-none (dialect_of c), ends-none false (dialect_of c), rows_none false (dialect_of c)) in
    let q : left (put_out c []) r ≡ r = ap (λ (o : Out). left o r) e ∙ left-none r in
    adds_none (streamed (onward c) f r) ∙ λ i. adding 0 (sym e i) (streamed (onward (sym (fed-none c) i)) f (sym q i))
windowed (b ∷ g) f c r m s l h =
    let s' = rw (fed-cons c b g) at s in
    let l' = rw (fed-cons c b g) at l in
    let s₀ = shown-first (b ∷ g) c s in
    let s₁ = shown-first g (fed c b) s' in
    let n = byte_next c b g (length g) m (clear c s₀).refusal (clear (fed c b) s₁).refusal (fits-first g (fed c b) s' l') in
    let o = due 0 c b (fed c b) in
    let p = put_out (fed c b) g in
    let e = n.is in
    let k = holds_parts o p r (rw e at h) in
    let x = windowed g f (fed c b) (left o r) n.small s' l' k.1 in
    taken-byte c b (g ++ f) r s₀ s₁ k.0
    ∙ (ap (taking o) x
    ∙ (adds (length g) o p _
    ∙ λ i. adding (suc (length g)) (sym e i) (streamed (onward (sym (fed-cons c b g) i)) f ((left-then o p r ∙ ap (λ (q : Out). left q r) (sym e)) i))))

-- Once content is over the limit nothing comes out: its field does not end without a refusal.
module _ (c : Check) (b : ℕ) (z : c.refusal ≡ 0) (z' : (fed c b).refusal ≡ 0) (l : content_limit < c.field.content) where
  record Beyond : Type 0 where
    out : due 0 c b (fed c b) ≡ silence
    more : content_limit < (fed c b).field.content

  -- inside the field, whether or not the byte is content
  stays : (j : Form) (m h : ℕ) → content_limit < m → Within c (form_number j) m h (fed c b) → eqb (form_number j) (form_number start) ≡ false → Beyond
  stays j m h i v p = record { out = by (puts_text c (fed c b)) refl; more = rw v.content i }
    where
      x : ends_field (fed c b) ≡ false
      x = rw v.form p

      by : (y : Bool) → puts_text c (fed c b) ≡ y → due 0 c b (fed c b) ≡ silence
      by true q =
          let w : min (c.field.held - 0) (content_limit - (c.field.content + 0)) ≡ 0 = none_left c.field.held c.field.content content_limit l in
          let u : byte_left c ≡ false = lt-leb (c.field.content + c.field.held + 1) content_limit (omega arith) in
          due-text 0 c b (fed c b) q x ∙ rw (w, u)
      by false q = due-quiet 0 c b (fed c b) q x

  byte-beyond : Beyond
  byte-beyond = by (act_of c b) (step-proper _ _ _) (fed-does c b z)
    where
      not-refused : {A : Type 0} (m : ℕ) → eqb m 0 ≡ false → (fed c b).refusal ≡ m → A
      not-refused m p q = absurd (eqb-false m 0 p (sym q ∙ z'))

      by : (a : Act) → Proper a → Does c a (fed c b) → Beyond
      by (refuse m) p v = not-refused m p v
      by (go j nothing) p v = stays j _ _ l v p
      by (go j put) p v = stays j _ _ (omega arith) v p
      by (go j hold) p v = stays j _ _ l v p
      by (go j drop) p v = stays j _ _ l v p
      by (go j field_end) p (FieldEnds.ends v) = let i = v.over.short in absurd (omega arith)
      by (go j field_end) p (FieldEnds.long i v) = not-refused 9 refl v
      by (go j record_end) p (RecordEnds.ends v) = let i = v.over.short in absurd (omega arith)
      by (go j record_end) p (RecordEnds.long i v) = not-refused 9 refl v
      by (go j record_end) p (RecordEnds.uneven i y v) = not-refused 10 refl v

pub beyond :
    (g f : Bytes) (c : Check) (r : Room) → content_limit < c.field.content → shown (fed_all c g) ≡ false
    → streamed (onward c) (g ++ f) r ≡ adding (length g) silence (streamed (onward (fed_all c g)) f r)
beyond [] f c r l s = adds_none (streamed (onward c) f r) ∙ λ i. adding 0 silence (streamed (onward (sym (fed-none c) i)) f r)
beyond (b ∷ g) f c r l s =
    let s' = rw (fed-cons c b g) at s in
    let s₀ = shown-first (b ∷ g) c s in
    let s₁ = shown-first g (fed c b) s' in
    let n = byte-beyond c b (clear c s₀).refusal (clear (fed c b) s₁).refusal l in
    let o = due 0 c b (fed c b) in
    let e = n.out in
    let h : Holds o r = rw e (record { text = omega arith; ends = omega arith; rows = omega arith }) in
    let q : left o r ≡ r = ap (λ (p : Out). left p r) e ∙ left-none r in
    taken-byte c b (g ++ f) r s₀ s₁ h
    ∙ ((λ i. taking (e i) (streamed (onward (fed c b)) (g ++ f) (q i)))
    ∙ (ap (taking silence) (beyond g f (fed c b) r n.more s')
    ∙ (adds (length g) silence silence _ ∙ λ i. adding (suc (length g)) silence (streamed (onward (sym (fed-cons c b g) i)) f r))))
