-- A walk inside a record, byte by byte, to its end.
use Prim.Native.Nat.{ℕ, zero, suc, ◌+◌, ◌*◌, ◌-◌, ◌≤◌, ◌<◌}
use native.Mathlib.Omega.{arith}
use native.Mathlib.Nat.{add-zero}
use native.Mathlib.Numerals.{add-one}
use mathlib.Core.Path.{◌≡◌, refl, sym, ap, subst, ◌∙◌}
use mathlib.Core.Bool.{Bool, true, false, cond, ◌||◌, or-false, false≢true}
use mathlib.Core.List.{List, [], ◌∷◌}
use Rattle.std.proofs.Common.{None, Some}
use lib.Dec.{T, eqb, leb}
use lib.Count.{count_trailing_zeros}
use lib.ListN.{length, get_or, take, drop, length-drop, drop_of_length-le}
use lib.Seq.{drop-cons}
use borrow.Author.Tests.{eqb-true, le-leb, lt-leb}
use Rattle.format.specs.Table.{Bytes}
use Rattle.format.specs.Dialect.{lf, Dialect, delimiter, quote, class_of}
use Rattle.format.proofs.Classes.{decide, class-delimiter, quote-beside}
use Rattle.steps.specs.Steps.{Form, start, lead, bare, quoted, shut, tail, cr, nothing, put, hold, drop as drops, field_end, record_end, Act, refuse, go, step_of}
use Rattle.steps.specs.declared.Stepped.{Stepped, TheVariants.Refuse, TheVariants.Quiet, TheVariants.Put, TheVariants.Hold, TheVariants.Drop, TheVariants.EndField, TheVariants.EndRecord}
use Rattle.steps.specs.Model.{anchor, seen}
use Rattle.steps.specs.Numbers.{form_number, form_of, coded}
use Rattle.steps.proofs.Acts.{over, text-puts, inside-puts, quote-shuts, quote-pairs, over-delimiter}
use Rattle.steps.proofs.Numbers.{form-number, cr-at}
use Rattle.steps.proofs.Rules.{form-back}
use Rattle.steps.proofs.Walks.{End, faulty, ended, end_by, end-number, Ends, by_fault, by_line, end_from, end-end, end-byte, end_is}
use Rattle.runs.specs.Runs.{run, is_plain, is_inner, pairs}
use Rattle.words.specs.Words.{word, block_end, Marks, is_row}
use Rattle.words.proofs.Words.{unmarked, marks-own, marked-none, marked-some, block}
use Rattle.runs.proofs.Bytes.{plain-class, inner-inside}
use Rattle.runs.proofs.Runs.{run_holds, run-part, run_join, run-within, pairs_first, pairs-le}
use Rattle.jump.specs.declared.Spot.{Spot}
use Rattle.jump.specs.Pass.{PairsEnd, no_pairs, pairs_end, RowEnd, row_form, Skips, stays, in_row, in_quotes, Ending, in_fault, ending}

-- a byte leads to a form inside its record
abbrev pub Leads : Stepped → ℕ → Type 0
Leads (Refuse n) k = ⊥
Leads (Quiet j) k = j ≡ k
Leads (Put j) k = j ≡ k
Leads (Hold j) k = j ≡ k
Leads (Drop j) k = j ≡ k
Leads EndField k = form_number start ≡ k
Leads EndRecord k = ⊥

pub leads-to : {s t : Stepped} (n : ℕ) → s ≡ t → Leads s n → Leads t n
leads-to n e l = subst (λ (s : Stepped). Leads s n) e l

behind-one : (n : ℕ) → n ≡ n + 1 - 1
behind-one n = omega arith

one_more : (n k : ℕ) → n + 1 + k ≡ n + suc k
one_more n k = omega arith

-- the forms in which no quote has come
open-over : (k : Form) → leb (form_number k) (form_number bare) ≡ true → T (over k)
open-over start e = tt
open-over lead e = tt
open-over bare e = tt
open-over quoted e = absurd (false≢true e)
open-over shut e = absurd (false≢true e)
open-over tail e = absurd (false≢true e)
open-over cr e = absurd (false≢true e)

row_small : (m b : ℕ) → row_form m b ≤ form_number bare
row_small m b = decide (λ n. n ≤ 2) (eqb b m) (λ e. omega arith) (λ e. omega arith)

no_more : (n : ℕ) → n ≡ n + 2 * 0
no_more n = omega arith

two-more : (n k : ℕ) → n + 1 + 1 + 2 * k ≡ n + 2 * suc k
two-more n k = omega arith

-- only behind a CR is its place known
anchor-cr : (here p : Bytes) (k j : Form) → 6 ≤ form_number j → anchor k j here p ≡ here
anchor-cr here p k start l = absurd (omega arith)
anchor-cr here p k lead l = absurd (omega arith)
anchor-cr here p k bare l = absurd (omega arith)
anchor-cr here p k quoted l = absurd (omega arith)
anchor-cr here p k shut l = absurd (omega arith)
anchor-cr here p k tail l = absurd (omega arith)
anchor-cr here p k cr l = refl

module _ (d : Dialect) (f : Bytes) (from : ℕ) where
  -- a walk from a place, inside its record, is at another, in a form; behind a CR it knows that one
  pub record Going (at form : ℕ) : Type 0 where
    pub begun : from ≤ at
    pub within : at ≤ length f
    pub mark : Bytes
    pub at_cr : 6 ≤ form → (from < at) × (mark ≡ drop (at - 1) f)
    pub same : end_from d (drop at f) (form_of form) mark ≡ end_from d (drop from f) start []

  pub going-first : from ≤ length f → Going from (form_number start)
  going-first h =
      record { begun = omega arith; within = h; mark = []; at_cr = λ n. absurd (omega arith); same = ap (λ (k : Form). end_from d (drop from f) k []) (form-back start) }

  -- how the record ends, once that is known
  pub faults : end_from d (drop from f) start [] ≡ faulty → Ending d f from None
  faults e = by (subst (Ends d (drop from f)) e (end_is d (drop from f)))
    where
      by : Ends d (drop from f) faulty → Ending d f from None
      by (by_fault x y) = in_fault x y

  pub finds :
      {end next : ℕ} → end_from d (drop from f) start [] ≡ ended (drop end f) (drop next f) → from ≤ end → end ≤ next → next ≤ length f
      → Ending d f from (Some (record { at = end; next = next }))
  finds {end} {next} e h i j = by (subst (Ends d (drop from f)) e (end_is d (drop from f)))
    where
      by : Ends d (drop from f) (ended (drop end f) (drop next f)) → Ending d f from (Some (record { at = end; next = next }))
      by (by_line r l) = ending r l h i j

  -- at a byte
  module _ {at form : ℕ} (w : Going at form) where
    module _ (h : at < length f) where
      abbrev act : Act
      act = step_of (d.allows lf) (form_of form) (class_of d (get_or f at 0))

      abbrev after : Act → End
      after a = end_by a (form_of form) (get_or f at 0) (drop (suc at) f) w.mark (λ j q. end_from d (drop (suc at) f) j q)

      next-byte : end_from d (drop from f) start [] ≡ after act
      next-byte =
          sym w.same
          ∙ (ap (λ (l : Bytes). end_from d l (form_of form) w.mark) (drop-cons f at 0 h) ∙ end-byte d (get_or f at 0) (drop (suc at) f) (form_of form) w.mark)

      -- the act by what the code makes of it
      refused : (a : Act) (n : ℕ) → Refuse n ≡ coded a → after a ≡ faulty
      refused (refuse n) m e = refl
      refused (go j nothing) m e = cc
      refused (go j put) m e = cc
      refused (go j hold) m e = cc
      refused (go j drops) m e = cc
      refused (go j field_end) m e = cc
      refused (go j record_end) m e = cc

      ended-here : (a : Act) → EndRecord ≡ coded a → after a ≡ ended (seen (form_of form) (get_or f at 0 ∷ drop (suc at) f) w.mark) (drop (suc at) f)
      ended-here (refuse n) e = cc
      ended-here (go j nothing) e = cc
      ended-here (go j put) e = cc
      ended-here (go j hold) e = cc
      ended-here (go j drops) e = cc
      ended-here (go j field_end) e = cc
      ended-here (go j record_end) e = refl

      abbrev Onward : ℕ → End → Type 0
      Onward n e = (q : Bytes) × (6 ≤ n → q ≡ get_or f at 0 ∷ drop (suc at) f) × (e ≡ end_from d (drop (suc at) f) (form_of n) q)

      goes_on : (j : Form) (q : Bytes) {n : ℕ} → form_number j ≡ n → (6 ≤ form_number j → q ≡ get_or f at 0 ∷ drop (suc at) f) → Onward n (end_from d (drop (suc at) f) j q)
      goes_on j q e h = subst (λ (n : ℕ). Onward n (end_from d (drop (suc at) f) j q)) e (q, h, ap (λ (k : Form). end_from d (drop (suc at) f) k q) (sym (form-back j)))

      leads-on : (a : Act) {n : ℕ} → Leads (coded a) n → Onward n (after a)
      leads-on (refuse n) l = absurd l
      leads-on (go j nothing) l = goes_on j _ l (anchor-cr (get_or f at 0 ∷ drop (suc at) f) w.mark (form_of form) j)
      leads-on (go j put) l = goes_on j _ l (anchor-cr (get_or f at 0 ∷ drop (suc at) f) w.mark (form_of form) j)
      leads-on (go j hold) l = goes_on j _ l (anchor-cr (get_or f at 0 ∷ drop (suc at) f) w.mark (form_of form) j)
      leads-on (go j drops) l = goes_on j _ l (anchor-cr (get_or f at 0 ∷ drop (suc at) f) w.mark (form_of form) j)
      leads-on (go j field_end) l = goes_on start [] l (λ l. absurd (omega arith))
      leads-on (go j record_end) l = absurd l

      pub byte-faults : {n : ℕ} → Refuse n ≡ coded act → Ending d f from None
      byte-faults {n} e = faults (next-byte ∙ refused act n e)

      module _ (e : EndRecord ≡ coded act) where
        ends_at : end_from d (drop from f) start [] ≡ ended (seen (form_of form) (drop at f) w.mark) (drop (at + 1) f)
        ends_at = next-byte ∙ (ended-here act e ∙ (λ j. ended (seen (form_of form) (sym (drop-cons f at 0 h) j) w.mark) (drop (sym (add-one at) j) f)))

        pub byte-ends : form < 6 → Ending d f from (Some (record { at = at; next = at + 1 }))
        byte-ends l = finds (ends_at ∙ ap (λ (x : Bool). ended (cond x w.mark (drop at f)) (drop (at + 1) f)) (cr-at form ∙ lt-leb 6 form l)) w.begun (omega arith) (omega arith)

        pub byte-ends-cr : 6 ≤ form → Ending d f from (Some (record { at = at - 1; next = at + 1 }))
        byte-ends-cr l =
            let (m, q) = w.at_cr l in
            finds (ends_at ∙ (ap (λ (x : Bool). ended (cond x w.mark (drop at f)) (drop (at + 1) f)) (cr-at form ∙ le-leb 6 form l) ∙ ap (λ (x : Bytes). ended x (drop (at + 1) f)) q))
            (omega arith) (omega arith) (omega arith)

      pub byte-goes : {n : ℕ} → Leads (coded act) n → Going (at + 1) n
      byte-goes {n} l =
          let (q, i, j) = leads-on act l in
          record {
            begun = omega (arith, w.begun);
            within = omega arith;
            mark = q;
            at_cr = λ l. (omega (arith, w.begun), i l ∙ (sym (drop-cons f at 0 h) ∙ ap (λ (m : ℕ). drop m f) (behind-one at)));
            same = (λ z. end_from d (drop (add-one at z) f) (form_of n) q) ∙ (sym j ∙ sym next-byte);
          }

    -- at the file's end
    at_end : length f ≤ at → end_from d (drop from f) start [] ≡ cond (eqb form (form_number quoted) || leb (form_number cr) form) faulty (ended [] [])
    at_end h =
        sym w.same ∙ (ap (λ (l : Bytes). end_from d l (form_of form) w.mark) (drop_of_length-le f h) ∙ (end-end d (form_of form) w.mark ∙ end-number form))

    pub end-faults : length f ≤ at → (eqb form (form_number quoted) || leb (form_number cr) form) ≡ true → Ending d f from None
    end-faults h e = faults (at_end h ∙ ap (λ (x : Bool). cond x faulty (ended [] [])) e)

    pub end-ends : length f ≤ at → (eqb form (form_number quoted) || leb (form_number cr) form) ≡ false → Ending d f from (Some (record { at = at; next = at }))
    end-ends h e =
        let n = drop_of_length-le f h in
        finds (at_end h ∙ (ap (λ (x : Bool). cond x faulty (ended [] [])) e ∙ (λ i. ended (sym n i) (sym n i)))) w.begun (omega arith) w.within

  -- the first byte of a run, and the others
  first : (p : ℕ → Bool) (at k : ℕ) → at ≤ length f → suc k ≤ run p (drop at f) → (at < length f) × (p (get_or f at 0) ≡ true) × (k ≤ run p (drop (at + 1) f))
  first p at k w h =
      (omega (arith, run-within p f at (suc k) w h), rw (add-zero at) at (run_holds p f at 0 (omega arith)), omega (arith, run-part p f at 1 (omega arith)))

  -- between quotes: the table leads from the form to itself
  inner-keeps : (b : ℕ) → is_inner b ≡ true → Leads (coded (step_of (d.allows lf) (form_of (form_number quoted)) (class_of d b))) (form_number quoted)
  inner-keeps b e =
      subst (λ (k : Form). Leads (coded (step_of (d.allows lf) k (class_of d b))) (form_number quoted)) (sym (form-back quoted))
      (subst (λ (a : Act). Leads (coded a) (form_number quoted)) (sym (inside-puts (d.allows lf) (class_of d b) (inner-inside d b e))) refl)

  inner-on : {at : ℕ} (k : ℕ) → Going at (form_number quoted) → k ≤ run is_inner (drop at f) → Going (at + k) (form_number quoted)
  inner-on {at} zero w h = subst (λ (m : ℕ). Going m (form_number quoted)) (sym (add-zero at)) w
  inner-on {at} (suc k) w h =
      let (i, b, l) = first is_inner at k w.within h in
      let v = byte-goes w i (inner-keeps (get_or f at 0) b) in
      subst (λ (m : ℕ). Going m (form_number quoted)) (one_more at k) (inner-on {at = at + 1} k v l)

  -- and over a pair of quotes, in two steps, too
  module _ (beside : d.delimiter_byte ≡ 0x22 → ⊥) where
    quote-class : (b : ℕ) → b ≡ 0x22 → class_of d b ≡ quote
    quote-class b e = ap (class_of d) e ∙ quote-beside d beside

    quote-shuts-it : (b : ℕ) → b ≡ 0x22 → Leads (coded (step_of (d.allows lf) (form_of (form_number quoted)) (class_of d b))) (form_number shut)
    quote-shuts-it b e =
        subst (λ (a : Act). Leads (coded a) (form_number shut))
        (sym ((λ i. step_of (d.allows lf) (form-back quoted i) (quote-class b e i)) ∙ quote-shuts (d.allows lf))) refl

    quote-opens-it : (b : ℕ) → b ≡ 0x22 → Leads (coded (step_of (d.allows lf) (form_of (form_number shut)) (class_of d b))) (form_number quoted)
    quote-opens-it b e =
        subst (λ (a : Act). Leads (coded a) (form_number quoted))
        (sym ((λ i. step_of (d.allows lf) (form-back shut i) (quote-class b e i)) ∙ quote-pairs (d.allows lf))) refl

    first-pair :
        (at k : ℕ) → at ≤ length f → suc k ≤ pairs (drop at f)
        → (at + 1 < length f) × (get_or f at 0 ≡ 0x22) × (get_or f (at + 1) 0 ≡ 0x22) × (k ≤ pairs (drop (at + 1 + 1) f))
    first-pair at k w h =
        let l : at + 1 < length f = omega (arith, pairs-le (drop at f), length-drop at f, h) in
        let q : drop at f ≡ get_or f at 0 ∷ (get_or f (at + 1) 0 ∷ drop (at + 1 + 1) f) =
        drop-cons f at 0 (omega (arith, l)) ∙ ap (λ (x : Bytes). get_or f at 0 ∷ x) (ap (λ (n : ℕ). drop n f) (sym (add-one at)) ∙ (drop-cons f (at + 1) 0 l ∙ ap (λ (n : ℕ). get_or f (at + 1) 0 ∷ drop n f) (sym (add-one (at + 1))))) in
        let (x, y, z) = pairs_first (get_or f at 0) (get_or f (at + 1) 0) k (drop (at + 1 + 1) f) (rw q at h) in
        (l, x, y, z)

    pairs-on : {at : ℕ} (k : ℕ) → Going at (form_number quoted) → k ≤ pairs (drop at f) → Going (at + 2 * k) (form_number quoted)
    pairs-on {at} zero w h = subst (λ (m : ℕ). Going m (form_number quoted)) (no_more at) w
    pairs-on {at} (suc k) w h =
        let (l, x, y, z) = first-pair at k w.within h in
        let v = byte-goes w (omega (arith, l)) (quote-shuts-it (get_or f at 0) x) in
        let u = byte-goes v l (quote-opens-it (get_or f (at + 1) 0) y) in
        subst (λ (m : ℕ). Going m (form_number quoted)) (two-more at k) (pairs-on {at = at + 1 + 1} k u z)

  pairs-go : {at to : ℕ} → Going at (form_number quoted) → PairsEnd f d.delimiter_byte at to → Going to (form_number quoted)
  pairs-go w no_pairs = w
  pairs-go {at} w (pairs_end n) = pairs-on n (pairs (drop at f)) w (omega arith)

  -- in rows of bare fields: it leads from where no quote has come to the start of a field, or into a bare one
  row-byte :
      (b form : ℕ) → form ≤ form_number bare → is_row d b ≡ true
      → Leads (coded (step_of (d.allows lf) (form_of form) (class_of d b))) (row_form d.delimiter_byte b)
  row-byte b form h e = by (eqb b d.delimiter_byte) refl e
    where
      k : leb (form_number (form_of form)) (form_number bare) ≡ true
      k = le-leb (form_number (form_of form)) 2 (omega (arith, h, form-number form (omega (arith, h))))

      by : (x : Bool) → eqb b d.delimiter_byte ≡ x → (is_plain d b || x) ≡ true → Leads (coded (step_of (d.allows lf) (form_of form) (class_of d b))) (cond x (form_number start) (form_number bare))
      by true i e =
          let q : class_of d b ≡ delimiter = ap (class_of d) (eqb-true b d.delimiter_byte i) ∙ class-delimiter d in
          subst (λ (a : Act). Leads (coded a) (form_number start))
          (sym (ap (step_of (d.allows lf) (form_of form)) q ∙ over-delimiter (d.allows lf) (form_of form) (open-over (form_of form) k))) refl
      by false i e =
          let q = plain-class d b (sym (or-false (is_plain d b)) ∙ e) in
          subst (λ (a : Act). Leads (coded a) (form_number bare))
          (sym (ap (step_of (d.allows lf) (form_of form)) q ∙ text-puts (d.allows lf) (form_of form) k)) refl

  row_one :
      {at form : ℕ} → Going at form → form ≤ form_number bare → 1 ≤ run (is_row d) (drop at f) → Going (at + 1) (row_form d.delimiter_byte (get_or f at 0))
  row_one {at} {form} w h l =
      let (i, b, r) = first (is_row d) at 0 w.within l in
      byte-goes w i (row-byte (get_or f at 0) form h b)

  row-on :
      {at form : ℕ} (k : ℕ) → Going at form → form ≤ form_number bare → suc k ≤ run (is_row d) (drop at f) → (to : ℕ) → to ≡ at + suc k
      → Going to (row_form d.delimiter_byte (get_or f (to - 1) 0))
  row-on {at} zero w h l to e =
      let p : at + 1 ≡ to = omega (arith, e) in
      let q : at ≡ to - 1 = omega (arith, e) in
      subst (λ (n : ℕ). Going n (row_form d.delimiter_byte (get_or f (to - 1) 0))) p
      (subst (λ (j : ℕ). Going (at + 1) (row_form d.delimiter_byte (get_or f j 0))) q (row_one w h l))
  row-on {at} (suc k) w h l to e =
      let (i, b, r) = first (is_row d) at (suc k) w.within l in
      row-on {at = at + 1} k (row_one w h (omega arith)) (row_small d.delimiter_byte (get_or f at 0)) r to (omega (arith, e))

  pub skips : {at form : ℕ} {r : Spot} → Going at form → Skips d f form at r → Going r.at r.form
  skips w stays = w
  skips {at} w (in_row {to} h i l) = row-on (to - at - 1) w h (omega arith) to (omega arith)
  skips {at} {form} w (in_quotes {to} e p) =
      let v = subst (λ (n : ℕ). Going at n) e w in
      subst (λ (n : ℕ). Going to n) (sym e) (pairs-go (inner-on (run is_inner (drop at f)) v (omega arith)) p)

pub no_less : {d : Dialect} {f : Bytes} {at form : ℕ} {r : Spot} → Skips d f form at r → at ≤ r.at
no_less stays = omega arith
no_less (in_row h i l) = omega arith
no_less (in_quotes e no_pairs) = omega arith
no_less (in_quotes e (pairs_end n)) = omega arith

-- bytes that are not marked, block after block
module _ (t : List Bool) (s : Bytes) (from : ℕ) where
  pub row-begins : from ≤ length s → RowEnd t s from from
  row-begins h = record { begun = omega arith; within = h; unmarked = λ p m. omega arith }

  module _ (bytes : (j : ℕ) → get_or s j 0 < 256) {at w : ℕ} (r : RowEnd t s from at) (h : at < length s) (e : w ≡ word t (take 64 (drop at s))) where
    on : {to : ℕ} (k : ℕ) → to ≡ at + k → to ≤ length s → ((p : ℕ → Bool) → Marks t p → k ≤ run p (drop at s)) → RowEnd t s from to
    on k q l u =
        record {
          begun = omega (arith, r.begun, q);
          within = l;
          unmarked = λ p m. omega (arith, q, run_join p s from at k r.begun (r.unmarked p m) (u p m));
        }

    pub row-stops : (w ≡ 0 → ⊥) → (count_trailing_zeros 64 w < 64) × RowEnd t s from (at + count_trailing_zeros 64 w)
    row-stops z =
        let b = block t s at w h e in
        let x = (marked-some t (unmarked t) (marks-own t) s bytes (block_end (length s) at) at w b.marked b.within b.small z).0 in
        (omega (arith, x, b.small), on (count_trailing_zeros 64 w) refl (omega (arith, x, b.within)) (λ p m. (marked-some t p m s bytes (block_end (length s) at) at w b.marked b.within b.small z).1))

    pub row_goes : {to : ℕ} → w ≡ 0 → to ≡ block_end (length s) at → (at < to) × RowEnd t s from to
    row_goes {to} z q =
        let b = block t s at w h e in
        (omega (arith, q, b.on), on (to - at) (omega (arith, q, b.on)) (omega (arith, q, b.within)) (λ p m. omega (arith, q, marked-none t p m s bytes (block_end (length s) at) at w b.marked b.within z)))
