-- Whatever the grammar reads, the model reads: a field, from its first byte to a place where it may end.
use Prim.Native.Nat.{ℕ, ◌+◌}
use native.Mathlib.Omega.{arith}
use native.Mathlib.Nat.{zero-add}
use mathlib.Core.Path.{◌≡◌, refl, sym, ap, ◌∙◌}
use mathlib.Core.Bool.{Bool, true, false, true≢false}
use mathlib.Core.List.{[], ◌∷◌}
use lib.Dec.{T}
use Rattle.format.specs.Table.{Bytes, Content, last_of}
use Rattle.format.specs.Dialect.{lf, Dialect, Class, text, blank, delimiter, quote, CR, LF, forbidden, class_of}
use Rattle.format.specs.Grammar.{padded, Blanks, Bare, Inside, opened, Quoted, closed, Field, Break}
use Rattle.format.specs.Count.{blank_count, dropped, alone}
use Rattle.format.proofs.Classes.{droppable, blank-ordinary, unpadded-ends, quoted-class, quoted_class}
use Rattle.steps.specs.Steps.{Form, start, lead, bare, quoted, shut, tail, cr, step_of}
use Rattle.steps.specs.Model.{Cell, cell, Trace, refused, last, field, line, change, putting, dropping, kept_in, holding, ending, doing, run}
use Rattle.steps.proofs.Acts.{over, stops}

-- a place where a field may be over: the end, a delimiter, CR, LF or a forbidden byte
pub data Stops (d : Dialect) : Bytes → Type 0 where
  at_end : Stops d []
  at_delimiter : {b : ℕ} {f : Bytes} → class_of d b ≡ delimiter → Stops d (b ∷ f)
  at_CR : {b : ℕ} {f : Bytes} → class_of d b ≡ CR → Stops d (b ∷ f)
  at_LF : {b : ℕ} {f : Bytes} → class_of d b ≡ LF → Stops d (b ∷ f)
  at_forbidden : {b : ℕ} {f : Bytes} → class_of d b ≡ forbidden → Stops d (b ∷ f)

-- the same trace with another cell
abbrev pub set : Cell → Trace → Trace
set x = change (λ y. x)

change-set : (φ : Cell → Cell) (x : Cell) (r : Trace) → change φ (set x r) ≡ set (φ x) r
change-set φ x (refused n a p) = refl
change-set φ x (last y l a) = refl
change-set φ x (field y a g r) = refl
change-set φ x (line y l a g r) = refl

-- one byte before what a cell and a trace give
pub before : (φ : Cell → Cell) (x : Cell) (r : Trace) {s : Trace} → s ≡ set x r → change φ s ≡ set (φ x) r
before φ x r h = ap (change φ) h ∙ change-set φ x r

nil-ending : (l : ℕ) (a f : Bytes) (r : Trace) → ending l a f r ≡ set (cell [] 0) (ending l a f r)
nil-ending l a [] r = refl
nil-ending l a (b ∷ f) r = refl

-- where a field may be over its forms are one
alike :
    (k : Form) → T (over k) → (x : Class) → T (stops x) → (y : Bool) (b : ℕ) (f p : Bytes) (r : Form → Bytes → Trace)
    → doing (step_of y k x) k b f p r ≡ doing (step_of y tail x) tail b f [] r
unfolding step_of
alike start t delimiter u y b f p r = refl
alike start t CR u y b f p r = refl
alike start t forbidden u y b f p r = refl
alike start t LF u true b f p r = refl
alike start t LF u false b f p r = refl
alike lead t delimiter u y b f p r = refl
alike lead t CR u y b f p r = refl
alike lead t forbidden u y b f p r = refl
alike lead t LF u true b f p r = refl
alike lead t LF u false b f p r = refl
alike bare t delimiter u y b f p r = refl
alike bare t CR u y b f p r = refl
alike bare t forbidden u y b f p r = refl
alike bare t LF u true b f p r = refl
alike bare t LF u false b f p r = refl
alike shut t delimiter u y b f p r = refl
alike shut t CR u y b f p r = refl
alike shut t forbidden u y b f p r = refl
alike shut t LF u true b f p r = refl
alike shut t LF u false b f p r = refl
alike tail t delimiter u y b f p r = refl
alike tail t CR u y b f p r = refl
alike tail t forbidden u y b f p r = refl
alike tail t LF u true b f p r = refl
alike tail t LF u false b f p r = refl
alike start t text u y b f p r = elim u [ ]
alike start t blank u y b f p r = elim u [ ]
alike start t quote u y b f p r = elim u [ ]
alike lead t text u y b f p r = elim u [ ]
alike lead t blank u y b f p r = elim u [ ]
alike lead t quote u y b f p r = elim u [ ]
alike bare t text u y b f p r = elim u [ ]
alike bare t blank u y b f p r = elim u [ ]
alike bare t quote u y b f p r = elim u [ ]
alike quoted t _ u y b f p r = elim t [ ]
alike shut t text u y b f p r = elim u [ ]
alike shut t blank u y b f p r = elim u [ ]
alike shut t quote u y b f p r = elim u [ ]
alike tail t text u y b f p r = elim u [ ]
alike tail t blank u y b f p r = elim u [ ]
alike tail t quote u y b f p r = elim u [ ]
alike cr t _ u y b f p r = elim t [ ]

-- start and lead are one row
opening :
    (x : Class) (y : Bool) (b : ℕ) (f : Bytes) (r : Form → Bytes → Trace)
    → doing (step_of y start x) start b f [] r ≡ doing (step_of y lead x) lead b f [] r
unfolding step_of
opening text y b f r = refl
opening blank y b f r = refl
opening delimiter y b f r = refl
opening quote y b f r = refl
opening CR y b f r = refl
opening LF true b f r = refl
opening LF false b f r = refl
opening forbidden y b f r = refl

module _ (d : Dialect) where
  pub start-lead : (f : Bytes) → run d f start [] ≡ run d f lead []
  unfolding run
  start-lead [] = refl
  start-lead (b ∷ f) = opening (class_of d b) (d.allows lf) b f (λ j q. run d f j q)

  over-end : (k : Form) → T (over k) → (p : Bytes) → run d [] k p ≡ run d [] tail []
  unfolding run
  over-end start t p = refl
  over-end lead t p = refl
  over-end bare t p = refl
  over-end shut t p = refl
  over-end tail t p = refl
  over-end quoted t p = elim t [ ]
  over-end cr t p = elim t [ ]

  over-byte :
      {x : Class} (k : Form) → T (over k) → (b : ℕ) (f p : Bytes) → T (stops x) → class_of d b ≡ x → run d (b ∷ f) k p ≡ run d (b ∷ f) tail []
  unfolding run
  over-byte {x} k t b f p u e = rw e (alike k t x u (d.allows lf) b f p (λ j q. run d f j q))

  pub over-tail : {g : Bytes} (k : Form) → T (over k) → (p : Bytes) → Stops d g → run d g k p ≡ run d g tail []
  over-tail k t p at_end = over-end k t p
  over-tail k t p (at_delimiter {b} {f} e) = over-byte k t b f p tt e
  over-tail k t p (at_CR {b} {f} e) = over-byte k t b f p tt e
  over-tail k t p (at_LF {b} {f} e) = over-byte k t b f p tt e
  over-tail k t p (at_forbidden {b} {f} e) = over-byte k t b f p tt e

  -- behind a CR nothing is added to the field
  nil-cr : (f p : Bytes) → run d f cr p ≡ set (cell [] 0) (run d f cr p)
  unfolding run step_of
  nil-cr [] p = refl
  nil-cr (b ∷ f) p = go (class_of d b)
    where
      go :
          (x : Class)
          → doing (step_of (d.allows lf) cr x) cr b f p (λ j q. run d f j q) ≡ set (cell [] 0) (doing (step_of (d.allows lf) cr x) cr b f p (λ j q. run d f j q))
      go text = refl
      go blank = refl
      go delimiter = refl
      go quote = refl
      go CR = refl
      go LF = nil-ending 0 p f (run d f start [])
      go forbidden = refl

  -- and where a field is over, nothing either
  nil-stops : {g : Bytes} → Stops d g → run d g tail [] ≡ set (cell [] 0) (run d g tail [])
  unfolding run step_of
  nil-stops at_end = refl
  nil-stops (at_delimiter e) = rw e
  nil-stops (at_CR {b} {f} e) = rw e (nil-cr f (b ∷ f))
  nil-stops (at_LF {b} {f} e) = rw e (go (d.allows lf))
    where
      go : (y : Bool) → doing (step_of y tail LF) tail b f [] (λ j q. run d f j q) ≡ set (cell [] 0) (doing (step_of y tail LF) tail b f [] (λ j q. run d f j q))
      go true = nil-ending 1 (b ∷ f) f (run d f start [])
      go false = refl
  nil-stops (at_forbidden e) = rw e

  -- blanks before the rest of their field, in the forms that drop them
  pub blanks-lead :
      {f g : Bytes} (x : Blanks d f g) (c : Content) (n : ℕ) (r : Trace)
      → run d g lead [] ≡ set (cell c n) r → run d f lead [] ≡ set (cell c (blank_count x + n)) r
  unfolding run step_of blank_count
  blanks-lead Blanks.none c n r h = rw (zero-add n) h
  blanks-lead (Blanks.more e x) c n r h =
      rw e (before dropping (cell c (blank_count x + n)) r (blanks-lead x c n r h) ∙ ap (λ (m : ℕ). set (cell c m) r) (omega arith))

  pub blanks-tail :
      {f g : Bytes} (x : Blanks d f g) (r : Trace) → run d g tail [] ≡ set (cell [] 0) r → run d f tail [] ≡ set (cell [] (blank_count x)) r
  unfolding run step_of blank_count
  blanks-tail Blanks.none r h = h
  blanks-tail (Blanks.more e x) r h = rw e (before dropping (cell [] (blank_count x)) r (blanks-tail x r h))

  blanks-only : {f g : Bytes} (x : Blanks d f g) → Stops d g → run d f lead [] ≡ set (cell [] (blank_count x)) (run d g tail [])
  unfolding run step_of blank_count
  blanks-only Blanks.none s = over-tail lead tt [] s ∙ nil-stops s
  blanks-only {g} (Blanks.more e x) s = rw e (before dropping (cell [] (blank_count x)) (run d g tail []) (blanks-only x s))

  blanks-bare : {f g : Bytes} (x : Blanks d f g) → Stops d g → run d f bare [] ≡ set (cell [] (blank_count x)) (run d g tail [])
  unfolding run step_of blank_count
  blanks-bare Blanks.none s = over-tail bare tt [] s ∙ nil-stops s
  blanks-bare {g} (Blanks.more {b} e x) s = rw e (before (holding b) (cell [] (blank_count x)) (run d g tail []) (blanks-bare x s))

  blanks-shut : {f g : Bytes} (p : Bytes) (x : Blanks d f g) → Stops d g → run d f shut p ≡ set (cell [] (blank_count x)) (run d g tail [])
  unfolding run step_of blank_count
  blanks-shut p Blanks.none s = over-tail shut tt p s ∙ nil-stops s
  blanks-shut {g} p (Blanks.more e x) s =
      rw e (before dropping (cell [] (blank_count x)) (run d g tail []) (blanks-tail x (run d g tail []) (nil-stops s)))

-- a content that does not end in a blank
abbrev pub EndsWell : Dialect → Content → Type 0
EndsWell d [] = Unit {0}
EndsWell d (b ∷ c) = droppable d (last_of b c) ≡ false

module _ (d : Dialect) where
  ends-rest : (b : ℕ) (c : Content) → EndsWell d (b ∷ c) → EndsWell d c
  unfolding last_of
  ends-rest b [] h = tt
  ends-rest b (y ∷ c) h = h

  kept-blank : (b : ℕ) (c : Content) (n : ℕ) → class_of d b ≡ blank → EndsWell d (b ∷ c) → kept_in b c n ≡ cell (b ∷ c) n
  unfolding last_of
  kept-blank b [] n e h = absurd (true≢false (sym (blank-ordinary d b e).1 ∙ h))
  kept-blank b (y ∷ c) n e h = refl

  bares :
      {f g h : Bytes} {c : Content} (y : Blanks d g h) → Bare d f c g → EndsWell d c → Stops d h
      → run d f bare [] ≡ set (cell c (blank_count y)) (run d h tail [])
  unfolding run step_of
  bares y Bare.none w s = blanks-bare d y s
  bares {h} y (Bare.text_byte {b} {c} e k) w s =
      rw e (before (putting b) (cell c (blank_count y)) (run d h tail []) (bares y k (ends-rest b c w) s))
  bares {h} y (Bare.blank_byte {b} {c} e k) w s =
      rw e
      (before (holding b) (cell c (blank_count y)) (run d h tail []) (bares y k (ends-rest b c w) s)
      ∙ ap (λ (x : Cell). set x (run d h tail [])) (kept-blank b c (blank_count y) e w))

  pub bare-refused :
      {f g a q : Bytes} {c : Content} {n : ℕ} → Bare d f c g → run d g bare [] ≡ refused n a q → run d f bare [] ≡ refused n a q
  unfolding run step_of
  bare-refused Bare.none h = h
  bare-refused (Bare.text_byte {b} e k) h = rw e (ap (change (putting b)) (bare-refused k h))
  bare-refused (Bare.blank_byte {b} e k) h = rw e (ap (change (holding b)) (bare-refused k h))

  quoted-byte :
      (x : Class) → T (quoted_class x) → (b : ℕ) (f p : Bytes) → class_of d b ≡ x → run d (b ∷ f) quoted p ≡ change (putting b) (run d f quoted p)
  unfolding run step_of
  quoted-byte text t b f p e = rw e
  quoted-byte blank t b f p e = rw e
  quoted-byte delimiter t b f p e = rw e
  quoted-byte CR t b f p e = rw e
  quoted-byte LF t b f p e = rw e
  quoted-byte quote t b f p e = elim t [ ]
  quoted-byte forbidden t b f p e = elim t [ ]

  pub inside :
      {f g : Bytes} {c : Content} (p : Bytes) (n : ℕ) (r : Trace)
      → Inside d f c g → run d g quoted p ≡ set (cell [] n) r → run d f quoted p ≡ set (cell c n) r
  unfolding run step_of
  inside p n r Inside.none h = h
  inside p n r (Inside.byte {b} {f} {c} u v k) h =
      quoted-byte (class_of d b) (quoted-class (class_of d b) u v) b f p refl ∙ before (putting b) (cell c n) r (inside p n r k h)
  inside p n r (Inside.pair {b} {c} e e' k) h = rw e (rw e' (before (putting b) (cell c n) r (inside p n r k h)))

  -- an opening quote, and a closing one
  pub opens : (b : ℕ) (f : Bytes) → class_of d b ≡ quote → run d (b ∷ f) lead [] ≡ run d f quoted (b ∷ f)
  unfolding run step_of
  opens b f e = rw e

  pub closes : (b : ℕ) (f p : Bytes) → class_of d b ≡ quote → run d (b ∷ f) quoted p ≡ run d f shut p
  unfolding run step_of
  closes b f p e = rw e

  -- the rest of a quoted field, from its opening quote: r is what comes behind the closing one
  pub quotes :
      {f g : Bytes} {c : Content} (n : ℕ) (r : Trace)
      → Quoted d f c g → run d g shut f ≡ set (cell [] n) r → run d f lead [] ≡ set (cell c n) r
  quotes {g} n r (closed {b} (opened {b = a} {f} e k) e') h = opens a f e ∙ inside (a ∷ f) n r k (closes b g (a ∷ f) e' ∙ h)

  lead-text : (b : ℕ) (f : Bytes) → class_of d b ≡ text → run d (b ∷ f) lead [] ≡ run d (b ∷ f) bare []
  unfolding run step_of
  lead-text b f e = rw e

  bare-lead :
      {f g h : Bytes} {c : Content} (y : Blanks d g h) → Bare d f c g → padded d c ≡ false → Stops d h
      → run d f lead [] ≡ set (cell c (blank_count y)) (run d h tail [])
  bare-lead y Bare.none u s = blanks-only d y s
  bare-lead y (Bare.text_byte {b} {f} {c} e k) u s =
      lead-text b f e ∙ bares y (Bare.text_byte e k) (unpadded-ends d b c u).1 s
  bare-lead y (Bare.blank_byte {b} {c} e k) u s = absurd (true≢false (sym (blank-ordinary d b e).1 ∙ (unpadded-ends d b c u).0))

  -- a field, where it is over
  pub fields : {f g : Bytes} {c : Content} (p : Field d f c g) → Stops d g → run d f start [] ≡ set (cell c (dropped f c g p)) (run d g tail [])
  unfolding dropped
  fields {f} {g} {c} (Field.bare x k u y) s = start-lead d f ∙ blanks-lead d x c (blank_count y) (run d g tail []) (bare-lead y k u s)
  fields {f} {g} {c} (Field.quoted {g = h} x k y) s =
      start-lead d f ∙ blanks-lead d x c (blank_count y) (run d g tail []) (quotes (blank_count y) (run d g tail []) k (blanks-shut d h y s))

  pub field-then :
      {b : ℕ} {f g : Bytes} {c : Content} (p : Field d f c (b ∷ g)) → class_of d b ≡ delimiter
      → run d f start [] ≡ field (cell c (dropped f c (b ∷ g) p)) (b ∷ g) g (run d g start [])
  unfolding run step_of
  field-then p e = fields p (at_delimiter e) ∙ rw e

  pub break-stops : {g h : Bytes} → Break d g h → Stops d g
  break-stops (Break.crlf e e') = at_CR e
  break-stops (Break.lf_alone e t) = at_LF e

  pub break-ending : {g h : Bytes} (k : Break d g h) → run d g tail [] ≡ ending (alone k) g h (run d h start [])
  unfolding run step_of alone
  break-ending (Break.crlf e e') = rw e (rw e')
  break-ending (Break.lf_alone {b} {g} e t) = rw e (go (d.allows lf) t)
    where
      go : (y : Bool) → T y → doing (step_of y tail LF) tail b g [] (λ j q. run d g j q) ≡ ending 1 (b ∷ g) g (run d g start [])
      go true u = refl
      go false u = absurd u
