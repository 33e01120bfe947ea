-- A field of plain text in the second walk, bare or quoted, and what its end changes.
use Rattle.std.specs.Prelude.{Some}
use Prim.Native.Nat.{ℕ, ◌+◌, ◌-◌, ◌≤◌, ◌<◌}
use native.Mathlib.Numerals.{add-one}
use native.Mathlib.Omega.{arith}
use mathlib.Core.Path.{◌≡◌, refl, sym, ap, ◌∙◌}
use mathlib.Core.Bool.{Bool, true, false}
use mathlib.Core.List.{List, ◌∷◌, ◌++◌}
use lib.Dec.{T}
use lib.ListN.{length, get_or, take, drop, length-drop}
use lib.Seq.{drop-cons, drop-drop, length-take-le}
use Rattle.format.specs.Table.{Bytes}
use Rattle.format.specs.Dialect.{lf, Dialect, text, delimiter, CR, class_of}
use Rattle.steps.specs.Steps.{Form, start, bare, quoted, shut, cr, nothing, put, field_end, go, step_of}
use Rattle.steps.proofs.Rules.{form-back}
use Rattle.steps.proofs.Acts.{over, over-delimiter, over-CR, text-puts, quote-opens, quote-shuts, CR-LF}
use Rattle.runs.specs.Runs.{run, is_plain, is_inner}
use Rattle.runs.proofs.Runs.{run-within, BreakAt, break-at}
use Rattle.format.proofs.Classes.{delimiter-at, quote-beside, CR-beside, LF-beside}
use Rattle.steps.specs.Numbers.{form_number}
use Rattle.runs.proofs.Bytes.{plain-class}
use Rattle.fill.specs.declared.Head.{Head}
use Rattle.fill.specs.declared.Field.{Field}
use Rattle.fill.specs.Fill.{text_left, ends_left, rows_left}
use Rattle.fill.specs.Walk.{NoQuote}
use Rattle.fill.proofs.Left.{text_byte, ends-byte, rows-byte}
use Rattle.fill.proofs.Copy.{text-run, ends-run, rows_run, two_at}
use Rattle.inside.proofs.Quoted.{puts-inner}
use Rattle.stride.specs.Stride.{Ends, EndAt, delimits, breaks, length_of, is_record_end, Plain, Found}
use Rattle.stride.specs.declared.Ending.{Ending as Named, TheVariants.Delimiter, TheVariants.Break as CRLF}

-- a form in which a field may end
pub record Ending (y : Bool) (k : Form) : Type 0 where
  pub on_delimiter : step_of y k delimiter ≡ go start field_end
  pub on_CR : step_of y k CR ≡ go cr nothing

ending-over : (y : Bool) (k : Form) → T (over k) → Ending y k
ending-over y k e = record { on_delimiter = over-delimiter y k e; on_CR = over-CR y k e }

-- the field from b on: its content is the m bytes from c on, and at e it may end
pub record Content (d : Dialect) (f : Bytes) (b c m e : ℕ) : Type 0 where
  pub within : c + m ≤ length f
  pub room : b + m ≤ e
  pub text_to :
      (rest : Bytes) → ((k : Form) → Ending (d.allows lf) k → text_left d (drop e f) k 0 ≡ rest) → text_left d (drop b f) start 0 ≡ take m (drop c f) ++ rest
  pub ends_to :
      (w : Bool) (n : ℕ) (rest : List ℕ) → ((k : Form) (u : Bool) → Ending (d.allows lf) k → ends_left w d (drop e f) k 0 (n + m) u ≡ rest)
      → (u : Bool) → ends_left w d (drop b f) start 0 n u ≡ rest
  pub rows_to :
      (w : Bool) (n : ℕ) (rest : List ℕ) → ((k : Form) (u : Bool) → Ending (d.allows lf) k → rows_left w d (drop e f) k n u ≡ rest)
      → (u : Bool) → rows_left w d (drop b f) start n u ≡ rest

-- a bare field
record Bare (y : Bool) (k : Form) : Type 0 where
  on_text : step_of y k text ≡ go bare put
  ending : Ending y k

bare-start : (y : Bool) → Bare y start
bare-start y = record { on_text = text-puts y start refl; ending = ending-over y start tt }

bare-bare : (y : Bool) → Bare y bare
bare-bare y = record { on_text = text-puts y bare refl; ending = ending-over y bare tt }

puts-text : (d : Dialect) (k : Form) → Bare (d.allows lf) k → (b : ℕ) → is_plain d b ≡ true → step_of (d.allows lf) k (class_of d b) ≡ go bare put
puts-text d k s b e = rw (plain-class d b e) s.on_text

bare-content : (d : Dialect) (f : Bytes) (b m : ℕ) → b ≤ length f → m ≤ run (is_plain d) (drop b f) → Content d f b b m (b + m)
bare-content d f b m v l =
    record {
      within = run-within (is_plain d) f b m v l;
      room = omega arith;
      text_to = λ rest h.
          text-run d (is_plain d) (Bare (d.allows lf)) bare (bare-bare _) (puts-text d) m (drop b f) rest l (λ k s. rw (drop-drop m b f) (h k s.ending)) start (bare-start _);
      ends_to = λ w n rest h u.
          ends-run d (is_plain d) (Bare (d.allows lf)) bare (bare-bare _) (puts-text d) w m (drop b f) n rest l (λ k u s. rw (drop-drop m b f) (h k u s.ending)) start u (bare-start _);
      rows_to = λ w n rest h u.
          rows_run d (is_plain d) (Bare (d.allows lf)) bare (bare-bare _) (puts-text d) w m (drop b f) n rest l (λ k u s. rw (drop-drop m b f) (h k u s.ending)) start u (bare-start _);
    }

pub bare-to : (d : Dialect) (f : Bytes) (b i : ℕ) → b ≤ i → i ≤ length f → i - b ≤ run (is_plain d) (drop b f) → Content d f b b (i - b) i
bare-to d f b i o v l =
    let e : b + (i - b) ≡ i = omega arith in
    rw e at (bare-content d f b (i - b) (omega arith) l)

-- a quoted one
puts-quoted : (d : Dialect) (k : Form) → k ≡ quoted → (b : ℕ) → is_inner b ≡ true → step_of (d.allows lf) k (class_of d b) ≡ go quoted put
puts-quoted d k s b e = rw s (puts-inner b e d)

ending-shut : (y : Bool) → Ending y shut
ending-shut y = ending-over y shut tt

module _ (d : Dialect) (o : NoQuote d) (f : Bytes) (i : ℕ) (v : i < length f) (e : get_or f i 0 ≡ 0x22) where
  open-text : text_left d (drop i f) start 0 ≡ text_left d (drop (i + 1) f) quoted 0
  open-text = rw (add-one i, drop-cons f i 0 v, text_byte d, e, quote-beside d o, quote-opens (d.allows lf))

  open-ends : (w : Bool) (n : ℕ) (u : Bool) → ends_left w d (drop i f) start 0 n u ≡ ends_left w d (drop (i + 1) f) quoted 0 n true
  open-ends w n u = rw (add-one i, drop-cons f i 0 v, ends-byte w d, e, quote-beside d o, quote-opens (d.allows lf))

  open-rows : (w : Bool) (n : ℕ) (u : Bool) → rows_left w d (drop i f) start n u ≡ rows_left w d (drop (i + 1) f) quoted n true
  open-rows w n u = rw (add-one i, drop-cons f i 0 v, rows-byte w d, e, quote-beside d o, quote-opens (d.allows lf))

  shut-text : text_left d (drop i f) quoted 0 ≡ text_left d (drop (i + 1) f) shut 0
  shut-text = rw (add-one i, drop-cons f i 0 v, text_byte d, e, quote-beside d o, quote-shuts (d.allows lf))

  shut-ends : (w : Bool) (n : ℕ) (u : Bool) → ends_left w d (drop i f) quoted 0 n u ≡ ends_left w d (drop (i + 1) f) shut 0 n true
  shut-ends w n u = rw (add-one i, drop-cons f i 0 v, ends-byte w d, e, quote-beside d o, quote-shuts (d.allows lf))

  shut-rows : (w : Bool) (n : ℕ) (u : Bool) → rows_left w d (drop i f) quoted n u ≡ rows_left w d (drop (i + 1) f) shut n true
  shut-rows w n u = rw (add-one i, drop-cons f i 0 v, rows-byte w d, e, quote-beside d o, quote-shuts (d.allows lf))

-- from the quote at b to that at z
module _
    (d : Dialect) (o : NoQuote d) (f : Bytes) (b z : ℕ) (l : b < z) (v : z < length f) (e₁ : get_or f b 0 ≡ 0x22) (e₂ : get_or f z 0 ≡ 0x22)
    (h : z - (b + 1) ≤ run is_inner (drop (b + 1) f))
  where
    there : drop (z - (b + 1)) (drop (b + 1) f) ≡ drop z f
    there = let e : b + 1 + (z - (b + 1)) ≡ z = omega arith in drop-drop (z - (b + 1)) (b + 1) f ∙ ap (λ (j : ℕ). drop j f) e

    before : b < length f
    before = omega arith

    pub quoted-to : Content d f b (b + 1) (z - (b + 1)) (z + 1)
    quoted-to =
        record {
          within = omega arith;
          room = omega arith;
          text_to = λ rest q.
              open-text d o f b before e₁
              ∙ text-run d is_inner (λ (k : Form). k ≡ quoted) quoted refl (puts-quoted d) (z - (b + 1)) (drop (b + 1) f) rest h
              (λ k s. rw (there, s) (shut-text d o f z v e₂ ∙ q shut (ending-shut _))) quoted refl;
          ends_to = λ w n rest q u.
              open-ends d o f b before e₁ w n u
              ∙ ends-run d is_inner (λ (k : Form). k ≡ quoted) quoted refl (puts-quoted d) w (z - (b + 1)) (drop (b + 1) f) n rest h
              (λ k u s. rw (there, s) (shut-ends d o f z v e₂ w (n + (z - (b + 1))) u ∙ q shut true (ending-shut _))) quoted true refl;
          rows_to = λ w n rest q u.
              open-rows d o f b before e₁ w n u
              ∙ rows_run d is_inner (λ (k : Form). k ≡ quoted) quoted refl (puts-quoted d) w (z - (b + 1)) (drop (b + 1) f) n rest h
              (λ k u s. rw (there, s) (shut-rows d o f z v e₂ w n u ∙ q shut true (ending-shut _))) quoted true refl;
        }

-- a delimiter at e
module _ (d : Dialect) (f : Bytes) (e : ℕ) (v : e < length f) (q : get_or f e 0 ≡ d.delimiter_byte) (k : Form) (s : Ending (d.allows lf) k) where
  delimiter-text : text_left d (drop e f) k 0 ≡ text_left d (drop (e + 1) f) start 0
  delimiter-text = rw (add-one e, drop-cons f e 0 v, text_byte d, delimiter-at d (get_or f e 0) q, s.on_delimiter)

  delimiter-ends : (w : Bool) (n : ℕ) (u : Bool) → ends_left w d (drop e f) k 0 n u ≡ n ∷ ends_left w d (drop (e + 1) f) start 0 n true
  delimiter-ends w n u = rw (add-one e, drop-cons f e 0 v, ends-byte w d, delimiter-at d (get_or f e 0) q, s.on_delimiter)

  delimiter-rows : (w : Bool) (n : ℕ) (u : Bool) → rows_left w d (drop e f) k n u ≡ rows_left w d (drop (e + 1) f) start (n + 1) true
  delimiter-rows w n u = rw (add-one e, drop-cons f e 0 v, rows-byte w d, delimiter-at d (get_or f e 0) q, s.on_delimiter)

-- a break there, where neither of its bytes is the delimiter
pub record Break (d : Dialect) (f : Bytes) (e : ℕ) : Type 0 where
  pub here : BreakAt f e
  pub no_cr : d.delimiter_byte ≡ 0x0D → ⊥
  pub no_lf : d.delimiter_byte ≡ 0x0A → ⊥

module _ (d : Dialect) (f : Bytes) (e : ℕ) (q : Break d f e) (k : Form) (s : Ending (d.allows lf) k) where
  two : drop e f ≡ 0x0D ∷ (0x0A ∷ drop (e + 2) f)
  two = two_at f e q.here.inside q.here.first q.here.second

  break-text : text_left d (drop e f) k 0 ≡ text_left d (drop (e + 2) f) start 0
  break-text = rw (two, text_byte d, CR-beside d q.no_cr, s.on_CR, text_byte d, LF-beside d q.no_lf, CR-LF (d.allows lf))

  break-ends : (w : Bool) (n : ℕ) (u : Bool) → ends_left w d (drop e f) k 0 n u ≡ n ∷ ends_left w d (drop (e + 2) f) start 0 n false
  break-ends w n u = rw (two, ends-byte w d, CR-beside d q.no_cr, s.on_CR, ends-byte w d, LF-beside d q.no_lf, CR-LF (d.allows lf))

  break-rows : (w : Bool) (n : ℕ) (u : Bool) → rows_left w d (drop e f) k n u ≡ (n + 1) ∷ rows_left w d (drop (e + 2) f) start (n + 1) false
  break-rows w n u = rw (two, rows-byte w d, CR-beside d q.no_cr, s.on_CR, rows-byte w d, LF-beside d q.no_lf, CR-LF (d.allows lf))

-- a field at whose start the walk is, with its content
module _ (d : Dialect) (f : Bytes) (p : Head) (e₁ : p.form ≡ form_number start) (e₂ : p.held ≡ 0) (c k e : ℕ) (o : Content d f p.at c k e) where
  ends-field : e < length f → get_or f e 0 ≡ d.delimiter_byte → Ends d f p (take k (drop c f)) (e + 1) false (p.text + k)
  ends-field v q =
      let room = o.room in
      record {
        further = omega arith;
        inside = omega arith;
        text_is = rw (e₁, e₂, form-back start) (o.text_to _ (delimiter-text d f e v q));
        ends_are = λ w. rw (e₁, e₂, form-back start) (o.ends_to w p.text _ (λ j x s. delimiter-ends d f e v q j s w (p.text + k) x) p.begun);
        rows_are = λ w. rw (e₁, form-back start) (o.rows_to w p.ends _ (λ j x s. delimiter-rows d f e v q j s w p.ends x) p.begun);
      }

  ends-record : Break d f e → Ends d f p (take k (drop c f)) (e + 2) true (p.text + k)
  ends-record q =
      let room = o.room in
      let inside = q.here.inside in
      record {
        further = omega arith;
        inside = omega arith;
        text_is = rw (e₁, e₂, form-back start) (o.text_to _ (break-text d f e q));
        ends_are = λ w. rw (e₁, e₂, form-back start) (o.ends_to w p.text _ (λ j x s. break-ends d f e q j s w (p.text + k) x) p.begun);
        rows_are = λ w. rw (e₁, form-back start) (o.rows_to w p.ends _ (λ j x s. break-rows d f e q j s w p.ends x) p.begun);
      }

  pub ends_at : (d.delimiter_byte ≡ 0x0A → ⊥) → {n : Named} → EndAt f d.delimiter_byte e n → Ends d f p (take k (drop c f)) (e + length_of n) (is_record_end n) (p.text + k)
  ends_at z (delimits v q) = ends-field v q
  ends_at z (breaks q g) = let b = break-at f e q in ends-record (record { here = b; no_cr = λ x. g (b.first ∙ sym x); no_lf = z })

-- a field found with its content
pub found :
    {d : Dialect} {f : Bytes} {p : Head} {q c k e : ℕ} {x : Field} {n : Named}
    → (Plain d f p q → Content d f p.at c k e) → q ≤ e → EndAt f d.delimiter_byte e n → x.content.now ≡ take k (drop c f) → x.next ≡ e + length_of n → x.row ≡ is_record_end n
    → Found d f p q (Some x)
found {d} {f} {p} {q} {c} {k} {e} {x} {n} content l g e₁ e₂ e₃ =
    record {
      further = λ h. omega (arith, some n, e₂);
      ends =
          λ h.
          let o = content h in
          let size = length-take-le k (drop c f) (omega (arith, o.within, length-drop c f)) in
          rw (e₁, e₂, e₃, size) (ends_at d f p h.form h.held c k e o h.no_lf g);
    }
  where
    some : (m : Named) → 1 ≤ length_of m
    some Delimiter = omega arith
    some CRLF = omega arith

-- any two fields that are found end at one place of the text
pub one_found :
    {d : Dialect} {f : Bytes} {p : Head} {q : ℕ} {r s : Field} → Found d f p q (Some r) → Found d f p q (Some s) → Plain d f p q
    → p.text + length r.content.now ≡ p.text + length s.content.now
one_found g h o = ap (λ (e : List ℕ). get_or e 0 0) (sym ((g.ends o).ends_are true) ∙ (h.ends o).ends_are true)
