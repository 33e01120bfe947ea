-- The second walk, byte by byte: what each act does to what is ahead, and what is written at once.
use Rattle.std.specs.Prelude.{Option, Some, None, IfSome, IfNone}
use Prim.Native.Nat.{ℕ, ◌+◌, ◌≤◌, ◌<◌}
use mathlib.Core.Path.{◌≡◌, refl, sym, ap, ◌∙◌}
use mathlib.Core.Bool.{Bool, true, false, cond}
use mathlib.Core.List.{List, [], ◌∷◌, ◌++◌, append_assoc}
use native.Mathlib.Numerals.{add-one}
use native.Mathlib.Omega.{arith}
use lib.ListN.{length, drop, get_or, replicate, length-append, length-replicate}
use lib.Seq.{drop-cons, drop-length}
use Rattle.format.specs.Table.{Bytes}
use Rattle.format.specs.Dialect.{lf, Dialect, class_of}
use Rattle.steps.specs.Steps.{Form, start, nothing, put, hold, drop as dropped, field_end, record_end, Act, refuse, go, step_of}
use Rattle.steps.specs.Numbers.{form_of}
use Rattle.steps.proofs.Rules.{form-back}
use Rattle.fill.specs.declared.Head.{Head}
use Rattle.fill.specs.Fill.{text_by, ends_by, rows_by, text_left, ends_left, rows_left}
use Rattle.fill.specs.Buffers.{Lists}
use Rattle.fill.specs.Put.{Puts, EndFits, PutsEnd, PutsField, rows_with}
use Rattle.fill.specs.Walk.{text_ahead, ends_ahead, rows_ahead, Grown, Wrote}
use Rattle.fill.proofs.Left.{text-none, text_byte, ends-none, ends-byte, rows_none, rows-byte}
use Rattle.fill.proofs.Grown.{grown-none, grown-one, grown-list, grown-all, grown-size}
use Rattle.stride.specs.Stride.{Ample, Ends}

-- room for what is ahead stays
pub ample-on : {w : Bool} {d : Dialect} {f : Bytes} {p q : Head} {b b' : Lists} → Wrote w d f p b q b' → Ample w d f p b → Ample w d f q b'
ample-on g h =
    let t = grown-all g.text_on in
    let u = grown-all g.ends_on in
    let v = grown-all g.rows_on in
    record {
      text_room = omega (arith, t, grown-size g.text_on, h.text_room);
      ends_room = omega (arith, u, grown-size g.ends_on, h.ends_room);
      rows_room = omega (arith, v, grown-size g.rows_on, h.rows_room);
      text_small = omega (arith, t, h.text_small);
      ends_small = omega (arith, u, h.ends_small);
      held = omega (arith, g.held, h.held);
    }

-- a field that ends, written
rows-grown :
    (p : Head) (row : Bool) {buf rest rest' : List ℕ} → (row ≡ true → p.rows < length buf) → rest ≡ cond row ((p.ends + 1) ∷ []) [] ++ rest'
    → Grown buf p.rows rest (rows_with p row buf) (p.rows + cond row 1 0) rest'
rows-grown p true h e = grown-one (h refl) e
rows-grown p false h e = let z : p.rows + 0 ≡ p.rows = omega arith in rw z (grown-none e)

module _ {w : Bool} {d : Dialect} {f : Bytes} {p : Head} {next : ℕ} {row : Bool} {b b' : Lists} {q : Head} where
  pub field-wrote : {c : Bytes} → Ends d f p c next row (p.text + length c) → PutsField p c next row b (Some q) b' → Wrote w d f p b q b'
  field-wrote {c} h g =
      let n = p.text + length c in
      let further = h.further in
      let fits = g.head.0 in
      rw (g.head.1, g.written)
      (record {
        on = omega arith;
        inside = λ i. h.inside;
        held = omega arith;
        text_on = record { new = c; rest_is = h.text_is; room = omega (arith, fits.text_room); buf_is = refl; at_is = refl };
        ends_on = grown-one fits.end_fits.end_room (h.ends_are w);
        rows_on = rows-grown p row fits.end_fits.row_room (h.rows_are w);
      })

  pub end-wrote : Ends d f p [] next row p.text → PutsEnd p next row p.text b (Some q) b' → Wrote w d f p b q b'
  end-wrote h g =
      let further = h.further in
      let fits = g.head.0 in
      rw (g.head.1, g.written)
      (record {
        on = omega arith;
        inside = λ i. h.inside;
        held = omega arith;
        text_on = grown-none h.text_is;
        ends_on = grown-one fits.end_room (h.ends_are w);
        rows_on = rows-grown p row fits.row_room (h.rows_are w);
      })

-- where there is room for what is ahead, an end fits
pub end-fits :
    {w : Bool} {d : Dialect} {f : Bytes} {p : Head} {next : ℕ} {row : Bool} {b : Lists} → Ends d f p [] next row p.text → Ample w d f p b → EndFits p row p.text b
end-fits {w} {row} h m =
    let e = ap length (h.ends_are w) in
    let small = m.text_small in
    record {
      end_room = omega (arith, e, m.ends_room);
      row_room = λ q. omega (arith, ap length (rw q at (h.rows_are w)), m.rows_room);
      small = omega arith;
      few = omega (arith, e, m.ends_small);
    }

-- so much for an end that is written, or is not
module _ {d : Dialect} {f : Bytes} {p : Head} {next : ℕ} {row : Bool} {b b' : Lists} (h : Ends d f p [] next row p.text) where
  pub end-walks : (r : Option Head) → PutsEnd p next row p.text b r b' → IfSome r (λ q. (w : Bool) → Wrote w d f p b q b')
  end-walks None g = tt
  end-walks (Some q) g = λ w. end-wrote h g

  pub end-lacks : (r : Option Head) → PutsEnd p next row p.text b r b' → IfNone r ((w : Bool) → Ample w d f p b → length f ≤ p.at)
  end-lacks None g = λ w m. absurd (g.head (end-fits h m))
  end-lacks (Some q) g = tt

-- the byte at a place does a
abbrev pub Does : Dialect → Bytes → Head → Act → Type 0
Does d f p a = step_of (d.allows lf) (form_of p.form) (class_of d (get_or f p.at 0)) ≡ a

-- what is ahead if it does
abbrev text_if : Dialect → Bytes → Head → Act → Bytes
text_if d f p a = text_by a p.held (get_or f p.at 0) (text_left d (drop (p.at + 1) f))

abbrev ends_if : Bool → Dialect → Bytes → Head → Act → List ℕ
ends_if w d f p a = ends_by a p.held p.text (ends_left w d (drop (p.at + 1) f))

abbrev rows_if : Bool → Dialect → Bytes → Head → Act → List ℕ
rows_if w d f p a = rows_by a p.ends (rows_left w d (drop (p.at + 1) f))

module _ (d : Dialect) (f : Bytes) (p : Head) (h : p.at < length f) where
  module _ (a : Act) (e : Does d f p a) where
    text-by : text_ahead d f p ≡ text_if d f p a
    text-by = rw (add-one, drop-cons f p.at 0 h, text_byte d, e)

    ends-by : (w : Bool) → ends_ahead w d f p ≡ ends_if w d f p a
    ends-by w = rw (add-one, drop-cons f p.at 0 h, ends-byte w d, e)

    rows-by : (w : Bool) → rows_ahead w d f p ≡ rows_if w d f p a
    rows-by w = rw (add-one, drop-cons f p.at 0 h, rows-byte w d, e)

    -- a place one byte further on, with nothing written
    pub goes :
        {w : Bool} {b : Lists} (q : Head) → q.at ≡ p.at + 1 → q.held ≤ p.held + 1 → q.text ≡ p.text → q.ends ≡ p.ends → q.rows ≡ p.rows
        → text_if d f p a ≡ text_ahead d f q → ends_if w d f p a ≡ ends_ahead w d f q → rows_if w d f p a ≡ rows_ahead w d f q → Wrote w d f p b q b
    goes {w} q n i e₁ e₂ e₃ t u v =
        record {
          on = omega arith;
          inside = λ l. omega arith;
          held = omega arith;
          text_on = rw e₁ (grown-none (text-by ∙ t));
          ends_on = rw e₂ (grown-none (ends-by w ∙ u));
          rows_on = rw e₃ (grown-none (rows-by w ∙ v));
        }

    -- where the byte ends a field: the next begins behind it
    module _ {k : Form} {row : Bool} (x : a ≡ go k (cond row record_end field_end)) where
      pub ends-here : Ends d f p [] (p.at + 1) row p.text
      ends-here = by row x
        where
          by : (y : Bool) → a ≡ go k (cond y record_end field_end) → Ends d f p [] (p.at + 1) y p.text
          by true z = record { further = omega arith; inside = omega arith; text_is = text-by ∙ rw (z, form-back start); ends_are = λ w. ends-by w ∙ rw (z, form-back start); rows_are = λ w. rows-by w ∙ rw (z, form-back start) }
          by false z = record { further = omega arith; inside = omega arith; text_is = text-by ∙ rw (z, form-back start); ends_are = λ w. ends-by w ∙ rw (z, form-back start); rows_are = λ w. rows-by w ∙ rw (z, form-back start) }

  -- behind a byte that ends nothing
  abbrev next : Head
  next = record p { at = p.at + 1; begun = true }

  pub passes : {w : Bool} {k : ℕ} {b : Lists} → Does d f p (go (form_of k) nothing) → Wrote w d f p b (record next { form = k }) b
  passes e = goes _ e _ refl (omega arith) refl refl refl refl refl refl

  pub drops : {w : Bool} {k : ℕ} {b : Lists} → Does d f p (go (form_of k) dropped) → Wrote w d f p b (record next { form = k }) b
  drops e = goes _ e _ refl (omega arith) refl refl refl refl refl refl

  pub holds : {w : Bool} {k n : ℕ} {b : Lists} → Does d f p (go (form_of k) hold) → n ≡ p.held + 1 → Wrote w d f p b (record next { form = k; held = n }) b
  holds e z = rw z (goes _ e _ refl (omega arith) refl refl refl refl refl refl)

  -- a byte of content behind the blanks held
  abbrev pub due : Bytes
  due = replicate p.held 0x20 ++ (get_or f p.at 0 ∷ [])

  due-length : length due ≡ p.held + 1
  due-length = omega (arith, length-append (replicate p.held 0x20) (get_or f p.at 0 ∷ []), length-replicate {A = ℕ} p.held 0x20)

  text-due : (k : ℕ) → Does d f p (go (form_of k) put) → text_ahead d f p ≡ due ++ text_left d (drop (p.at + 1) f) (form_of k) 0
  text-due k e = text-by _ e ∙ sym (append_assoc (replicate p.held 0x20) (get_or f p.at 0 ∷ []) _)

  pub puts :
      {w : Bool} {k m : ℕ} {b : Lists} {text : Bytes} → Does d f p (go (form_of k) put) → Puts b.text p.text due (Some m) text
      → Wrote w d f p b (record next { form = k; held = 0; text = m }) (record b { text = text })
  puts {w} {k} e g =
      let at : p.text + p.held + 1 ≡ p.text + length due = omega (arith, due-length) in
      rw (g.place.1, g.written)
      (record {
        on = omega arith;
        inside = λ i. omega arith;
        held = omega arith;
        text_on = grown-list due refl g.place.0 (text-due k e);
        ends_on = grown-none (rw at at (ends-by _ e w));
        rows_on = grown-none (rows-by _ e w);
      })

  pub put-fits : {w : Bool} (k : ℕ) {b : Lists} → Does d f p (go (form_of k) put) → Ample w d f p b → p.text + length due ≤ length b.text
  put-fits k e m = omega (arith, ap length (text-due k e) ∙ length-append due _, m.text_room)

  -- behind a refusal nothing is ahead
  pub stops : {w : Bool} {n : ℕ} {b : Lists} → Does d f p (refuse n) → Wrote w d f p b (record p { at = length f; begun = false }) b
  stops {w} e =
      record {
        on = omega arith;
        inside = λ l. omega arith;
        held = omega arith;
        text_on = grown-none (text-by _ e ∙ rw (drop-length, text-none d));
        ends_on = grown-none (ends-by _ e w ∙ rw (drop-length, ends-none w d));
        rows_on = grown-none (rows-by _ e w ∙ rw (drop-length, rows_none w d));
      }
