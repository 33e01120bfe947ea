-- A beginning of a file is parted in one way: the model's trace of it tells the records and fields that are closed and where the next field begins, and the
-- traces of that field, with a byte more or less where it is refused, its content and the blanks held.
use Prim.Native.Nat.{ℕ, ◌+◌, ◌-◌}
use native.Mathlib.Omega.{arith}
use mathlib.Core.Path.{◌≡◌, refl, sym, ap, ◌∙◌}
use mathlib.Core.Bool.{cond}
use mathlib.Core.List.{List, [], ◌∷◌, ◌++◌}
use lib.Dec.{eqb}
use lib.ListN.{length, take, replicate, length-append, length-replicate}
use lib.Seq.{take_at}
use Rattle.format.specs.Table.{Bytes, Content, Table}
use Rattle.format.specs.Dialect.{Dialect, text, quote, CR, LF, class_of}
use Rattle.format.specs.Grammar.{padded, Blanks, Bare, Open, opened, closed, Field, Record, Break}
use Rattle.format.specs.Count.{dropped, alone}
use Rattle.format.specs.Refusal.{FieldRefusal, refusal_5, refusal_6, refusal_8, Fields, Records}
use Rattle.format.specs.SoFar.{Begun, SoFar, so_far}
use Rattle.format.proofs.Classes.{some-text, quote-is}
use Rattle.format.proofs.Grow.{blanks-grow, open-grow, quoted-grow, field-grow, field_cut}
use Rattle.steps.specs.Steps.{start, bare, quoted, tail}
use Rattle.steps.specs.Numbers.{class_number}
use Rattle.steps.specs.Model.{Cell, cell, Trace, refused, last, field, line, ending, run}
use Rattle.steps.proofs.Acts.{run_end}
use Rattle.steps.proofs.Complete.{set, at_end, fields, field-then, break-stops, break-ending}
use Rattle.steps.proofs.Faults.{field-refused}
use Rattle.steps.proofs.Forms.{At, at_bare, at_quoted, first-text, put-bare, put-quoted}

-- the records that are closed, the fields of the next one, and the rest that begins with the field that has begun
data Parts : Type 0 where
  part : Table → List Content → Bytes → Parts

abbrev before : Content → Parts → Parts
before c (part [] cs h) = part [] (c ∷ cs) h
before c (part (es ∷ t) cs h) = part ((c ∷ es) ∷ t) cs h

abbrev above : Content → Parts → Parts
above c (part t cs h) = part ((c ∷ []) ∷ t) cs h

-- by the trace of f; where it ends with a record's line break, nothing has begun
abbrev parts : Bytes → Trace → Parts
parts f (refused n a p) = part [] [] f
parts f (last x l []) = part [] [] f
parts f (last x l (a ∷ g)) = part ((x.content ∷ []) ∷ []) [] []
parts f (field x a g r) = before x.content (parts g r)
parts f (line x l a g r) = above x.content (parts g r)

-- the content of a trace, and how much longer it is than c with one byte behind it
abbrev content : Trace → Content
content (refused n a p) = []
content (last x l a) = x.content
content (field x a g r) = x.content
content (line x l a g r) = x.content

abbrev longer : Trace → Content → ℕ
longer (refused n a p) c = 0
longer (last x l a) c = length x.content - length c - 1
longer (field x a g r) c = 0
longer (line x l a g r) c = 0

module _ (d : Dialect) where
  abbrev trace : Bytes → Trace
  trace f = run d f start []

  -- the content of the field h so far: of an open one with its closing quote, and of one before a CR without it
  abbrev content_by : Trace → Bytes → Content
  content_by (refused n a p) h = content (trace (cond (eqb n 8) (h ++ (0x22 ∷ [])) (take (length h - 1) h)))
  content_by (last x l a) h = x.content
  content_by (field x a g r) h = []
  content_by (line x l a g r) h = []

  whole : {h : Bytes} {c : Content} (p : Field d h c []) → trace h ≡ last (cell c (dropped h c [] p)) 0 []
  whole {h} {c} p = fields d p at_end ∙ ap (set (cell c (dropped h c [] p))) (run_end d tail [])

  faulty : {n : ℕ} {f found named : Bytes} → FieldRefusal d n f found named → (n ≡ 9 → ⊥) → trace f ≡ refused n found named
  faulty = field-refused d (λ n f found named. (n ≡ 9 → ⊥) → trace f ≡ refused n found named) (λ n f a q e u. e) (λ f g c p e l u. absurd (u refl))

  open-trace : {h q : Bytes} {c : Content} → Blanks d h q → Open d q c [] → trace h ≡ refused 8 [] q
  open-trace x k = faulty (refusal_8 x k) (λ e. omega arith)

  cr-trace : {b : ℕ} {h : Bytes} {c : Content} → Field d h c (b ∷ []) → class_of d b ≡ CR → trace h ≡ refused 6 (b ∷ []) (b ∷ [])
  cr-trace p e = faulty (refusal_6 p e tt) (λ e. omega arith)

  -- blanks alone are a field, of no content
  nothing : {h : Bytes} → Blanks d h [] → Field d h [] []
  unfolding padded
  nothing x = Field.bare x Bare.none refl Blanks.none

  -- the field that has begun
  begun-parts : {h : Bytes} {c : Content} {n : ℕ} → Begun d h c n → parts h (trace h) ≡ part [] [] h
  begun-parts (Begun.empty x) = rw (whole (nothing x))
  begun-parts (Begun.bare x k p y q) = rw (whole (Field.bare x k p y))
  begun-parts (Begun.inside x k) = rw (open-trace x k)
  begun-parts (Begun.shut x k y) = rw (whole (Field.quoted x k y))
  begun-parts (Begun.before_cr p e) = rw (cr-trace p e)

  closed-trace : {h q : Bytes} {c : Content} → Blanks d h q → Open d q c [] → content (trace (h ++ (0x22 ∷ []))) ≡ c
  closed-trace x (opened {b} e k) =
      let q : class_of d 0x22 ≡ quote = rw (quote-is d b e) at e in
      rw (whole (Field.quoted (blanks-grow d (0x22 ∷ []) x) (closed (open-grow d (0x22 ∷ []) (opened e k)) q) Blanks.none))

  cut-trace : {b : ℕ} {h : Bytes} {c : Content} → Field d h c (b ∷ []) → content (trace (take (length h - 1) h)) ≡ c
  cut-trace {b} {h} p =
      let (f, e, q) = field_cut d (b ∷ []) [] p refl in
      let n : length f ≡ length h - 1 = omega (arith, ap length e ∙ length-append f (b ∷ [])) in
      ap (λ (g : Bytes). content (trace (take (length h - 1) g))) e ∙ (ap (λ (g : Bytes). content (trace g)) (take_at f (b ∷ []) (length h - 1) n) ∙ ap content (whole q))

  begun-content : {h : Bytes} {c : Content} {n : ℕ} → Begun d h c n → content_by (trace h) h ≡ c
  begun-content (Begun.empty x) = rw (whole (nothing x))
  begun-content (Begun.bare x k p y q) = rw (whole (Field.bare x k p y))
  begun-content (Begun.inside x k) = rw (open-trace x k) (closed-trace x k)
  begun-content (Begun.shut x k y) = rw (whole (Field.quoted x k y))
  begun-content (Begun.before_cr p e) = rw (cr-trace p e) (cut-trace p)

  -- the blanks held, by a byte of text behind the field: it is content behind them, or a fault
  module _ (b : ℕ) (e : class_of d b ≡ text) where
    abbrev more : Bytes
    more = b ∷ []

    bare-longer : (h : Bytes) (c : Content) (n : ℕ) {i : Content} → At d bare (h ++ more) i 0 → length i ≡ length c + n + 1 → longer (trace (h ++ more)) c ≡ n
    bare-longer h c n (at_bare x k p y q) l = rw (whole (Field.bare x k p y)) (omega (arith, l))

    open-longer : (h : Bytes) (c : Content) {i : Content} → At d quoted (h ++ more) i 0 → longer (trace (h ++ more)) c ≡ 0
    open-longer h c (at_quoted x k) = rw (open-trace x k)

    begun-held : {h : Bytes} {c : Content} {n : ℕ} → Begun d h c n → longer (trace (h ++ more)) c ≡ n
    begun-held {h} (Begun.empty x) = bare-longer h [] 0 (first-text d b h x e) refl
    begun-held {h} (Begun.bare {a} {n} {c} x k p y q) =
        bare-longer h (a ∷ c) n (put-bare d b (at_bare x k p y q) e)
        (omega (arith, length-append (a ∷ c) (replicate n 0x20 ++ more), length-append (replicate n 0x20) more, length-replicate {A = ℕ} n 0x20))
    begun-held {h} {c} (Begun.inside x k) = open-longer h c (put-quoted d b (at_quoted x k) text tt e)
    begun-held (Begun.shut x k y) = rw (faulty (refusal_5 (blanks-grow d more x) (quoted-grow d more k) (blanks-grow d more y) e) (λ e. omega arith))
    begun-held (Begun.before_cr p i) =
        let no_lf : class_of d b ≡ LF → ⊥ = λ l. let z : class_number text ≡ class_number LF = ap class_number (sym e ∙ l) in omega arith in
        rw (faulty (refusal_6 (field-grow d more p) i no_lf) (λ e. omega arith))

  -- what is closed before it
  fields-parts : {g h : Bytes} {cs : List Content} → Fields d g cs h → parts h (trace h) ≡ part [] [] h → parts g (trace g) ≡ part [] cs h
  fields-parts Fields.none e = e
  fields-parts (Fields.more {c} p q x) e = rw (field-then d p q) (ap (before c) (fields-parts x e))

  ending-parts : (x : Cell) (l : ℕ) (f : Bytes) (a : ℕ) (g h : Bytes) → parts f (set x (ending l (a ∷ g) h (trace h))) ≡ above x.content (parts h (trace h))
  ending-parts x l f a g [] = rw (run_end d start [])
  ending-parts x l f a g (b ∷ h) = refl

  broken-parts : {f g h : Bytes} {c : Content} → Field d f c g → Break d g h → parts f (trace f) ≡ above c (parts h (trace h))
  broken-parts {f} {g} {h} {c} p k = ap (parts f) (fields d p (break-stops d k) ∙ ap (set (cell c (dropped f c g p))) (break-ending d k)) ∙ by (dropped f c g p) k
    where
      by : {g : Bytes} (m : ℕ) (k : Break d g h) → parts f (set (cell c m) (ending (alone k) g h (trace h))) ≡ above c (parts h (trace h))
      by m (Break.crlf {a} {b} e i) = ending-parts (cell c m) (alone (Break.crlf e i)) f a (b ∷ h) h
      by m (Break.lf_alone {b} e i) = ending-parts (cell c m) (alone (Break.lf_alone e i)) f b h h

  record-parts :
      {f g h i : Bytes} {cs es : List Content} {t : Table} → Record d f es g → Break d g h → parts h (trace h) ≡ part t cs i → parts f (trace f) ≡ part (es ∷ t) cs i
  record-parts (Record.one {c} p) k e = broken-parts p k ∙ ap (above c) e
  record-parts (Record.more {c} p q r) k e = rw (field-then d p q) (ap (before c) (record-parts r k e))

  records-parts :
      {f g h : Bytes} {cs : List Content} {t : Table} → Records d f t g → parts g (trace g) ≡ part [] cs h → parts f (trace f) ≡ part t cs h
  records-parts Records.none e = e
  records-parts (Records.more r k x) e = record-parts r k (records-parts x e)

  -- the bytes so far are parted in one way
  pub one-so-far :
      {f : Bytes} {t u : Table} {cs es : List Content} {c e : Content} {n m : ℕ} → SoFar d f t cs c n → SoFar d f u es e m
      → (t ≡ u) × (cs ≡ es) × (c ≡ e) × (n ≡ m)
  one-so-far (so_far {h} r x p) (so_far {h = i} s y q) =
      let (b, a) = some-text d in
      let v = records-parts r (fields-parts x (begun-parts p)) in
      let w = records-parts s (fields-parts y (begun-parts q)) in
      let z : h ≡ i = cc in
      let o = sym (begun-content p) ∙ (ap (λ (l : Bytes). content_by (trace l) l) z ∙ begun-content q) in
      (cc, cc, o, sym (begun-held b a p) ∙ ((λ j. longer (trace (z j ++ (b ∷ []))) (o j)) ∙ begun-held b a q))
