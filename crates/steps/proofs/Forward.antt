-- The model from the front: what a byte makes of a point inside a file, and what is ahead of a point, one byte after the other.
use Prim.Native.Nat.{ℕ, suc, ◌+◌}
use native.Mathlib.Nat.{zero-add}
use native.Mathlib.Numerals.{add-one}
use native.Mathlib.Omega.{arith}
use mathlib.Core.Path.{◌≡◌, refl, sym, ap, ◌∙◌}
use mathlib.Core.Bool.{Bool, true, false, cond, not, ◌||◌, or-true, or-false}
use mathlib.Core.List.{[], ◌∷◌, flatten}
use lib.Dec.{eqb, leb, eqb-suc-zero}
use lib.ListN.{length}
use Rattle.format.specs.declared.Answer.{Answer}
use Rattle.format.specs.Answer.{accepted_with, accepted_as, refused_by}
use Rattle.format.specs.Table.{Bytes, Content}
use Rattle.format.specs.Dialect.{Leniency, lf, blanks, ragged, bytes, bit_of, Dialect, Class, text, blank, delimiter, quote, CR, LF, forbidden, class_of}
use Rattle.format.specs.House.{differs, content_limit}
use Rattle.format.specs.Count.{wides, some}
use Rattle.format.specs.Memory.{text_of}
use Rattle.format.specs.Place.{place_of}
use Rattle.format.proofs.Leniencies.{no-byte-wide}
use Rattle.steps.specs.Steps.{Form, start, lead, bare, quoted, shut, tail, cr, Out, nothing, put, hold, drop, field_end, record_end, Act, refuse, go, is_in_quotes, is_behind_cr, step_of}
use Rattle.steps.specs.Model.{Cell, cell, Trace, refused, last, field, line, change, putting, dropping, kept_in, holding, ending, anchor, seen, doing, run, Judged, declined, taken, any, agrees, judge, read, used, Verdict, accepts, refuses, verdict}
use Rattle.steps.specs.Numbers.{form_number}
use Rattle.steps.proofs.Tallies.{Account, Work, fresh, width_from, Ans, stop, gives, Total, closed, content_with, lost, drops_in, with_blanks, whole, field_on, record_on, field_up, record_up, goes, same_whole, Some, some-judge, tallied, tallies}

-- a point inside a file: its form, whether bytes came since the last record's end, its anchor, and the field in work
pub record Point : Type 0 where
  pub form : Form
  pub begun : Bool
  pub anchor : Bytes
  pub work : Work

abbrev pub inside : Form → Bytes → Work → Point
inside k m w = record { form = k; begun = true; anchor = m; work = w }

-- where a field begins, of the same record or of the next
abbrev pub opening : Bool → Account → Point
opening u a = record { form = start; begun = u; anchor = []; work = fresh a }

-- the account before the first byte of the file f
abbrev pub none : Bytes → Account
none f =
    record {
      width = 0;
      number = 0;
      start = f;
      sums = record { records = 0; fields = 0; text = 0 };
      flags = record { lf = false; blanks = false; ragged = false };
    }

-- a byte of content behind the blanks held; a blank that is held, or dropped; the field without more
abbrev pub put_on : Work → Work
put_on w = record { account = w.account; content = w.content + w.held + 1; held = 0 }

abbrev pub hold_on : Work → Work
hold_on w = record { account = w.account; content = w.content; held = w.held + 1 }

abbrev pub drop_on : Work → Work
drop_on w = record { account = with_blanks true w.account; content = w.content; held = w.held }

abbrev pub ended : Work → Work
ended w = whole w (cell [] 0)

-- what an act makes of a point, at the byte b before f
abbrev pub acting : Dialect → Act → ℕ → Bytes → Point → Ans Point
acting d (refuse n) b f p = stop n (seen p.form (b ∷ f) p.anchor)
acting d (go j nothing) b f p = gives (inside j (anchor p.form j (b ∷ f) p.anchor) p.work)
acting d (go j put) b f p = gives (inside j (anchor p.form j (b ∷ f) p.anchor) (put_on p.work))
acting d (go j hold) b f p = gives (inside j (anchor p.form j (b ∷ f) p.anchor) (hold_on p.work))
acting d (go j drop) b f p = gives (inside j (anchor p.form j (b ∷ f) p.anchor) (drop_on p.work))
acting d (go j field_end) b f p = let w = ended p.work in field_up w (gives (opening true (field_on f w)))
acting d (go j record_end) b f p =
    let w = ended p.work in
    record_up d w (seen p.form (b ∷ f) p.anchor) (gives (opening false (record_on (not (is_behind_cr p.form)) f w)))

-- what is ahead of a point: with no byte since the last record's end, nothing more is no record
abbrev or_fresh : Bool → Bytes → Account → Ans Total → Ans Total
or_fresh true g a k = k
or_fresh false [] a k = closed a
or_fresh false (b ∷ f) a k = k

unfoldable pub comes : Dialect → Bytes → Point → Ans Total
comes d g p = or_fresh p.begun g p.work.account (goes d p.work (run d g p.form p.anchor))

abbrev pub and_then : {A B : Type 0} → Ans A → (A → Ans B) → Ans B
and_then (stop n p) k = stop n p
and_then (gives a) k = k a

-- what a trace comes to, one byte earlier
goes-change :
    (d : Dialect) (w w' : Work) (φ : Cell → Cell) → ((x : Cell) → whole w' x ≡ whole w (φ x)) → (r : Trace) → goes d w' r ≡ goes d w (change φ r)
goes-change d w w' φ e (refused n a i) = refl
goes-change d w w' φ e (last x l a) = ap (λ (v : Work). record_up d v a (closed (record_on (some l) [] v))) (e x)
goes-change d w w' φ e (field x a g r) = ap (λ (v : Work). field_up v (goes d (fresh (field_on g v)) r)) (e x)
goes-change d w w' φ e (line x l a g r) = ap (λ (v : Work). record_up d v a (goes d (fresh (record_on (some l) g v)) r)) (e x)

some-suc : (n : ℕ) → some (suc n) ≡ true
some-suc n = rw (eqb-suc-zero n)

module _ (w : Work) (b : ℕ) where
  whole-put : (x : Cell) → whole (put_on w) x ≡ whole w (putting b x)
  whole-put x = same_whole w.account (ap (λ (y : Bool). y || w.account.flags.blanks) (drops x.content)) (content x.content)
    where
      drops : (c : Content) → (some x.drops || lost 0 c) ≡ (some x.drops || false)
      drops [] = refl
      drops (y ∷ c) = refl

      content : (c : Content) → content_with (w.content + w.held + 1) 0 c ≡ content_with w.content w.held (b ∷ c)
      content [] = omega arith
      content (y ∷ c) = omega arith

  whole-hold : (x : Cell) → whole (hold_on w) x ≡ whole w (holding b x)
  whole-hold x =
      same_whole w.account (ap (λ (y : Bool). y || w.account.flags.blanks) (drops x.drops x.content)) (content x.drops x.content)
    where
      drops : (n : ℕ) (c : Content) → drops_in (w.held + 1) (cell c n) ≡ drops_in w.held (kept_in b c n)
      drops n [] = rw (add-one w.held, some-suc w.held, some-suc n) (or-true (some n))
      drops n (y ∷ c) = refl

      content : (n : ℕ) (c : Content) → content_with w.content (w.held + 1) c ≡ content_with w.content w.held (kept_in b c n).content
      content n [] = refl
      content n (y ∷ c) = omega arith

whole_drop : (w : Work) (x : Cell) → whole (drop_on w) x ≡ whole w (dropping x)
whole_drop w x = same_whole w.account drops refl
  where
    drops : (drops_in w.held x || true) ≡ (drops_in w.held (dropping x) || w.account.flags.blanks)
    drops = rw (some-suc x.drops) (or-true (drops_in w.held x))

-- tests are passed on
cond-then : {A B : Type 0} (x : Bool) (a : Ans A) (n : ℕ) (p : Bytes) (k : A → Ans B) → cond x (and_then a k) (stop n p) ≡ and_then (cond x a (stop n p)) k
cond-then true a n p k = refl
cond-then false a n p k = refl

field-then : {A B : Type 0} (w : Work) (a : Ans A) (k : A → Ans B) → field_up w (and_then a k) ≡ and_then (field_up w a) k
field-then w a k = cond-then (leb w.content content_limit) a 9 w.account.start k

pub record-then : {A B : Type 0} (d : Dialect) (w : Work) (p : Bytes) (a : Ans A) (k : A → Ans B) → record_up d w p (and_then a k) ≡ and_then (record_up d w p a) k
record-then d w p a k =
    let even = agrees d (width_from w.account.width) (suc w.account.number) in
    ap (field_up w) (cond-then even a 10 p k) ∙ field-then w (cond even a (stop 10 p)) k

alone : (x : Bool) → some (cond x 0 1) ≡ not x
alone true = refl
alone false = refl

module _ (d : Dialect) (b : ℕ) (f : Bytes) (p : Point) where
  abbrev to : Form → Bytes
  to j = anchor p.form j (b ∷ f) p.anchor

  -- the end of a record, with what follows it
  record-ends :
      (l : ℕ) (a : Bytes) → let w = ended p.work in
      goes d p.work (ending l a f (run d f start [])) ≡ record_up d w a (comes d f (opening false (record_on (some l) f w)))
  unfolding comes
  record-ends l a = go f (run d f start [])
    where
      go :
          (f : Bytes) (r : Trace) → let w = ended p.work in
          goes d p.work (ending l a f r) ≡ record_up d w a (or_fresh false f (record_on (some l) f w) (goes d (fresh (record_on (some l) f w)) r))
      go [] r = refl
      go (b ∷ f) r = refl

  comes-act : (a : Act) → goes d p.work (doing a p.form b f p.anchor (λ j q. run d f j q)) ≡ and_then (acting d a b f p) (comes d f)
  unfolding comes
  comes-act (refuse n) = refl
  comes-act (go j nothing) = refl
  comes-act (go j put) = sym (goes-change d p.work (put_on p.work) (putting b) (whole-put p.work b) (run d f j (to j)))
  comes-act (go j hold) = sym (goes-change d p.work (hold_on p.work) (holding b) (whole-hold p.work b) (run d f j (to j)))
  comes-act (go j drop) = sym (goes-change d p.work (drop_on p.work) dropping (whole_drop p.work) (run d f j (to j)))
  comes-act (go j field_end) = let w = ended p.work in field-then w (gives (opening true (field_on f w))) (comes d f)
  comes-act (go j record_end) =
      let w = ended p.work in
      let a = seen p.form (b ∷ f) p.anchor in
      record-ends (cond (is_behind_cr p.form) 0 1) a
      ∙ (ap (λ (l : Bool). record_up d w a (comes d f (opening false (record_on l f w)))) (alone (is_behind_cr p.form))
      ∙ record-then d w a (gives (opening false (record_on (not (is_behind_cr p.form)) f w))) (comes d f))

  -- what is ahead of the point before a byte is what is ahead of the one behind it
  pub comes-byte : comes d (b ∷ f) p ≡ and_then (acting d (step_of (d.allows lf) p.form (class_of d b)) b f p) (comes d f)
  unfolding comes run
  comes-byte = go p.begun ∙ comes-act (step_of (d.allows lf) p.form (class_of d b))
    where
      go : (u : Bool) → or_fresh u (b ∷ f) p.work.account (goes d p.work (run d (b ∷ f) p.form p.anchor)) ≡ goes d p.work (run d (b ∷ f) p.form p.anchor)
      go true = refl
      go false = refl

-- at the file's length
abbrev pub lastly : Dialect → Form → Point → Ans Total
lastly d k p =
    let w = ended p.work in
    cond (eqb (form_number k) (form_number quoted)) (stop 8 p.anchor) (cond (is_behind_cr k) (stop 6 p.anchor) (record_up d w [] (closed (record_on false [] w))))

pub comes-end : (d : Dialect) (p : Point) → comes d [] p ≡ cond p.begun (lastly d p.form p) (closed p.work.account)
unfolding comes run
comes-end d p = go p.begun p.form
  where
    go :
        (u : Bool) (k : Form)
        → or_fresh u [] p.work.account (goes d p.work (run d [] k p.anchor)) ≡ cond u (lastly d k p) (closed p.work.account)
    go false = λ k. refl
    go true = elim [ start ↦ refl | lead ↦ refl | bare ↦ refl | quoted ↦ refl | shut ↦ refl | tail ↦ refl | cr ↦ refl ]

-- the answer for the file F of what is ahead of a point, with y for "bytes", which the bytes alone tell; and that of a verdict
abbrev bit_if : Bool → Leniency → ℕ
bit_if x l = cond x (bit_of l) 0

abbrev pub answer : Bytes → Bool → Ans Total → Answer
answer F y (stop n p) = refused_by n (place_of F p)
answer F y (gives t) =
    let s = t.sums in
    let v = t.flags in
    accepted_with
    (record {
      records = s.records;
      fields = record { 0 = s.fields };
      text = s.text;
      report = bit_if v.lf lf + (bit_if v.blanks blanks + (bit_if v.ragged ragged + bit_if y bytes));
    })

abbrev pub answer_of : Verdict → Answer
answer_of (accepts t r) = accepted_as t r
answer_of (refuses n p) = refused_by n p

module _ (d : Dialect) where
  tallied-answer : (f : Bytes) (r : Judged) → Some r → answer f (some (wides d f)) (tallied (none f) r) ≡ answer_of (verdict d f r)
  unfolding verdict used
  tallied-answer f (declined n a p) o = refl
  tallied-answer f (taken (cs ∷ t) m l) o =
      rw (or-false (some l), or-false (some m), zero-add (length cs), or-false (differs (length cs) t), zero-add (suc (length t)), zero-add (length (flatten (cs ∷ t))), zero-add (length (text_of (cs ∷ t))))
  tallied-answer f (taken [] m l) o = elim o [ ]

  pub comes-answer : (f : Bytes) → answer f (some (wides d f)) (comes d f (opening false (none f))) ≡ answer_of (verdict d f (read d any f))
  unfolding comes read verdict used flatten
  comes-answer [] = rw (no-byte-wide d)
  comes-answer (b ∷ f) =
      let r = run d (b ∷ f) start [] in
      ap (answer (b ∷ f) (some (wides d (b ∷ f)))) (tallies d (none (b ∷ f)) r) ∙ tallied-answer (b ∷ f) (judge d any 0 (b ∷ f) r) (some-judge d any 0 (b ∷ f) r)

-- the anchor is kept, and else it is the byte's own place
abbrev pub keeps : Form → Out → Bool
keeps j nothing = eqb (form_number j) (form_number shut)
keeps j put = true
keeps j hold = true
keeps j drop = true
keeps j field_end = true
keeps j record_end = true

-- the acts that a step may be: a refusal has a number, and a form with an anchor keeps it where the model's does
abbrev pub Fits : Form → Act → Type 0
Fits k (refuse n) = eqb n 0 ≡ false
Fits k (go start o) = Unit {0}
Fits k (go lead o) = Unit {0}
Fits k (go bare o) = Unit {0}
Fits k (go quoted o) = keeps quoted o ≡ is_in_quotes k
Fits k (go shut o) = keeps shut o ≡ is_in_quotes k
Fits k (go tail o) = Unit {0}
Fits k (go cr o) = keeps cr o ≡ false

ends-fit : (k : Form) (l : Bool) → Fits k (cond l (go start record_end) (refuse 7))
ends-fit k true = tt
ends-fit k false = refl

pub step_fits : (l : Bool) (k : Form) (x : Class) → Fits k (step_of l k x)
unfolding step_of
step_fits l start = elim [ text ↦ tt | blank ↦ tt | delimiter ↦ tt | quote ↦ refl | CR ↦ refl | LF ↦ ends-fit start l | forbidden ↦ refl ]
step_fits l lead = elim [ text ↦ tt | blank ↦ tt | delimiter ↦ tt | quote ↦ refl | CR ↦ refl | LF ↦ ends-fit lead l | forbidden ↦ refl ]
step_fits l bare = elim [ text ↦ tt | blank ↦ tt | delimiter ↦ tt | quote ↦ refl | CR ↦ refl | LF ↦ ends-fit bare l | forbidden ↦ refl ]
step_fits l quoted = elim [ text ↦ refl | blank ↦ refl | delimiter ↦ refl | quote ↦ refl | CR ↦ refl | LF ↦ refl | forbidden ↦ refl ]
step_fits l shut = elim [ text ↦ refl | blank ↦ tt | delimiter ↦ tt | quote ↦ refl | CR ↦ refl | LF ↦ ends-fit shut l | forbidden ↦ refl ]
step_fits l tail = elim [ text ↦ refl | blank ↦ tt | delimiter ↦ tt | quote ↦ refl | CR ↦ refl | LF ↦ ends-fit tail l | forbidden ↦ refl ]
step_fits l cr = elim [ text ↦ refl | blank ↦ refl | delimiter ↦ refl | quote ↦ refl | CR ↦ refl | LF ↦ tt | forbidden ↦ refl ]
