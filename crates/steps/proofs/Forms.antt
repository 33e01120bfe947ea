-- The field that has begun, by the form in which the step table has it; and what one byte more makes of it.
use Prim.Native.Nat.{ℕ, ◌+◌}
use native.Mathlib.Omega.{arith}
use mathlib.Core.Path.{◌≡◌, refl, sym, ap, subst, ◌∙◌}
use mathlib.Core.Bool.{Bool, true, false, cond, not, ◌&&◌, true≢false}
use mathlib.Core.List.{List, [], ◌∷◌, ◌++◌, append_assoc}
use lib.Dec.{T, eqb}
use lib.ListN.{replicate}
use Rattle.format.specs.Table.{Bytes, Content, last_of}
use Rattle.format.specs.Dialect.{lf, Dialect, Class, text, blank, delimiter, quote, CR, LF, forbidden, class_of}
use Rattle.format.specs.Grammar.{padded, Blanks, Bare, Inside, Open, opened, Quoted, closed, Field, Break}
use Rattle.format.specs.Count.{blank_count}
use Rattle.format.specs.Refusal.{FieldRefusal, refusal_3, refusal_3_inside, refusal_4, refusal_5, refusal_5_quote, refusal_6, refusal_7, refusal_8, refusal_9}
use Rattle.format.specs.SoFar.{Begun}
use Rattle.format.proofs.Classes.{droppable, text-ordinary, blank-ordinary, unpadded, unpadded-ends, quoted_class, inside-byte}
use Rattle.format.proofs.Grow.{blanks-grow, grow-count, bare-grow, inside-grow, open-grow, quoted-grow, field-grow, blanks-join, bare-join, inside-join, blanks-bare, blanks-count}
use Rattle.steps.specs.Steps.{Form, start, lead, bare, quoted, shut, tail, cr, nothing, put, hold, drop, field_end, record_end, Act, refuse, go, is_behind_cr, step_of}
use Rattle.steps.specs.Numbers.{class_number}
use Rattle.steps.proofs.Acts.{over, stops, over-delimiter, over-CR, over-LF, over-forbidden}

-- the field h in a form, with its content so far and the blanks held; those that are held before a CR are kept for the report
pub data At (d : Dialect) : Form → Bytes → Content → ℕ → Type 0 where
  at_start : At d start [] [] 0
  at_lead : {h : Bytes} → Blanks d h [] → At d lead h [] 0
  at_bare : {a n : ℕ} {h g i : Bytes} {c : Content}
      → Blanks d h g → Bare d g (a ∷ c) i → padded d (a ∷ c) ≡ false → (y : Blanks d i []) → blank_count y ≡ n → At d bare h (a ∷ c) n
  at_quoted : {h q : Bytes} {c : Content} → Blanks d h q → Open d q c [] → At d quoted h c 0
  at_shut : {h q : Bytes} {c : Content} → Blanks d h q → Quoted d q c [] → At d shut h c 0
  at_tail : {a : ℕ} {h q i : Bytes} {c : Content} → Blanks d h q → Quoted d q c (a ∷ i) → class_of d a ≡ blank → Blanks d i [] → At d tail h c 0
  at_cr : {b n : ℕ} {h : Bytes} {c : Content} → Field d h c (b ∷ []) → class_of d b ≡ CR → At d cr h c n

-- the blanks held: behind a CR they are dropped
abbrev pub held_in : Form → ℕ → ℕ
held_in k n = cond (is_behind_cr k) 0 n

pub at-begun : {d : Dialect} {k : Form} {h : Bytes} {c : Content} {n : ℕ} → At d k h c n → Begun d h c (held_in k n)
at-begun at_start = Begun.empty Blanks.none
at-begun (at_lead x) = Begun.empty x
at-begun (at_bare x k p y e) = Begun.bare x k p y e
at-begun (at_quoted x k) = Begun.inside x k
at-begun (at_shut x k) = Begun.shut x k Blanks.none
at-begun (at_tail x k e y) = Begun.shut x k (Blanks.more e y)
at-begun (at_cr p e) = Begun.before_cr p e

-- the field as it stands, where it may be over and the file ends
pub at_field : {d : Dialect} {k : Form} {h : Bytes} {c : Content} {n : ℕ} → At d k h c n → T (over k) → Field d h c []
unfolding padded
at_field at_start u = Field.bare Blanks.none Bare.none refl Blanks.none
at_field (at_lead x) u = Field.bare x Bare.none refl Blanks.none
at_field (at_bare x k p y e) u = Field.bare x k p y
at_field (at_shut x k) u = Field.quoted x k Blanks.none
at_field (at_tail x k i y) u = Field.quoted x k (Blanks.more i y)
at_field {d = d} {h = h} {c = c} (at_quoted {q = q} _ _) u = elim u [ ]
at_field {d = d} {h = h} {c = c} {n = n} (at_cr {b = b} _ _) u = elim u [ ]

-- a byte b that the table refuses is a fault in its field: found behind the field, or inside it at that very byte
pub data Fault (d : Dialect) (i b : ℕ) (h : Bytes) (c : Content) : Type 0 where
  behind : {named : Bytes} (found : Bytes) → Field d (h ++ (b ∷ [])) c found → FieldRefusal d i (h ++ (b ∷ [])) found named → Fault d i b h c
  within : {named : Bytes} → FieldRefusal d i (h ++ (b ∷ [])) (b ∷ []) named → Fault d i b h c

-- what a byte b behind the field h makes of it, by the step's act
abbrev pub Makes : Dialect → ℕ → Bytes → Content → ℕ → Act → Type 0
Makes d b h c n (refuse i) = Fault d i b h c
Makes d b h c n (go j nothing) = At d j (h ++ (b ∷ [])) c n
Makes d b h c n (go j put) = At d j (h ++ (b ∷ [])) (c ++ (replicate n 0x20 ++ (b ∷ []))) 0
Makes d b h c n (go j hold) = At d j (h ++ (b ∷ [])) c (n + 1)
Makes d b h c n (go j drop) = At d j (h ++ (b ∷ [])) c n
Makes d b h c n (go j field_end) = Field d (h ++ (b ∷ [])) c (b ∷ []) × (class_of d b ≡ delimiter)
Makes d b h c n (go j record_end) = (g : Bytes) × Field d (h ++ (b ∷ [])) c g × Break d g []

last-put : (b a : ℕ) (c : Content) → last_of a (c ++ (b ∷ [])) ≡ b
unfolding last_of
last-put b a [] = refl
last-put b a (y ∷ c) = last-put b y c

module _ (d : Dialect) (b : ℕ) where
  abbrev more : List ℕ
  more = b ∷ []

  -- before a field
  pub first-text : (h : Bytes) → Blanks d h [] → class_of d b ≡ text → At d bare (h ++ more) (b ∷ []) 0
  unfolding last_of blank_count
  first-text h x e =
      let t = (text-ordinary d b e).1 in
      at_bare (blanks-grow d more x) (Bare.text_byte e Bare.none) (unpadded d b [] t t) Blanks.none refl

  open-quote : (h : Bytes) → Blanks d h [] → class_of d b ≡ quote → At d quoted (h ++ more) [] 0
  open-quote h x e = at_quoted (blanks-grow d more x) (opened e Inside.none)

  blank-more : {h : Bytes} → Blanks d h [] → class_of d b ≡ blank → Blanks d (h ++ more) []
  blank-more x e = blanks-join d (blanks-grow d more x) (Blanks.more e Blanks.none)

  -- in a bare one
  pub put-bare : {h : Bytes} {c : Content} {n : ℕ} → At d bare h c n → class_of d b ≡ text → At d bare (h ++ more) (c ++ (replicate n 0x20 ++ more)) 0
  unfolding blank_count
  put-bare (at_bare {a} {n} {g} {c} x k p y q) e =
      let t = (text-ordinary d b e).1 in
      let l : last_of a (c ++ (replicate n 0x20 ++ more)) ≡ b = ap (last_of a) (sym (append_assoc c (replicate n 0x20) more)) ∙ last-put b a (c ++ replicate n 0x20) in
      let z : Bare d (g ++ more) ((a ∷ c) ++ (replicate (blank_count (blanks-grow d more y)) 0x20 ++ more)) [] =
      bare-join d (bare-grow d more k) (blanks-bare d (blanks-grow d more y) (Bare.text_byte e Bare.none)) in
      at_bare (blanks-grow d more x) (rw (grow-count d more y ∙ q) at z)
      (unpadded d a (c ++ (replicate n 0x20 ++ more)) (unpadded-ends d a c p).0 (subst (λ (i : ℕ). droppable d i ≡ false) (sym l) t)) Blanks.none refl

  hold-bare : {h : Bytes} {c : Content} {n : ℕ} → At d bare h c n → class_of d b ≡ blank → At d bare (h ++ more) c (n + 1)
  unfolding blank-more
  hold-bare (at_bare x k p y q) e =
      at_bare (blanks-grow d more x) (bare-grow d more k) p (blank-more y e) (blanks-count d b y e ∙ ap (λ (i : ℕ). i + 1) q)

  bare-fault : {h : Bytes} {c : Content} {n : ℕ} → At d bare h c n → class_of d b ≡ quote → Fault d 4 b h c
  bare-fault (at_bare x (Bare.text_byte i k) p y q) e =
      within (refusal_4 (blanks-grow d more x) i (bare-join d (bare-grow d more k) (blanks-bare d (blanks-grow d more y) Bare.none)) e)
  bare-fault (at_bare {a} {c} x (Bare.blank_byte i k) p y q) e = absurd (true≢false (sym (blank-ordinary d a i).1 ∙ (unpadded-ends d a c p).0))

  -- between quotes, and behind one that may close
  pub put-quoted : {h : Bytes} {c : Content} {n : ℕ} → At d quoted h c n → (x : Class) → T (quoted_class x) → class_of d b ≡ x → At d quoted (h ++ more) (c ++ (replicate n 0x20 ++ more)) 0
  put-quoted (at_quoted x (opened q k)) y t e =
      at_quoted (blanks-grow d more x) (opened q (inside-join d (inside-grow d more k) (inside-byte y t e Inside.none)))

  pair-shut : {h : Bytes} {c : Content} {n : ℕ} → At d shut h c n → class_of d b ≡ quote → At d quoted (h ++ more) (c ++ (replicate n 0x20 ++ more)) 0
  pair-shut (at_shut x (closed (opened q k) i)) e =
      at_quoted (blanks-grow d more x) (opened q (inside-join d (inside-grow d more k) (Inside.pair i e Inside.none)))

  -- behind a CR
  cr-fault : {h : Bytes} {c : Content} {n : ℕ} (x : Class) → At d cr h c n → class_of d b ≡ x → (class_number x ≡ class_number LF → ⊥) → Fault d 6 b h c
  cr-fault x (at_cr {b = a} p i) e u =
      behind (a ∷ more) (field-grow d more p) (refusal_6 (field-grow d more p) i (λ l. u (ap class_number (sym e ∙ l))))

  -- the field as it stands, where it may be over; and what then ends it
  whole : {k : Form} {h : Bytes} {c : Content} {n : ℕ} → At d k h c n → T (over k) → Field d (h ++ more) c more
  unfolding padded
  whole at_start u = Field.bare Blanks.none Bare.none refl Blanks.none
  whole (at_lead x) u = Field.bare (blanks-grow d more x) Bare.none refl Blanks.none
  whole (at_bare x k p y e) u = Field.bare (blanks-grow d more x) (bare-grow d more k) p (blanks-grow d more y)
  whole (at_shut x k) u = Field.quoted (blanks-grow d more x) (quoted-grow d more k) Blanks.none
  whole (at_tail x k i y) u = Field.quoted (blanks-grow d more x) (quoted-grow d more k) (Blanks.more i (blanks-grow d more y))
  whole {h = h} {c = c} (at_quoted {q = q} _ _) u = elim u [ ]
  whole {h = h} {c = c} {n = n} (at_cr _ _) u = elim u [ ]

  line-feed :
      (h : Bytes) {c : Content} (n : ℕ) → Field d (h ++ more) c more → class_of d b ≡ LF → (y : Bool) → d.allows lf ≡ y
      → Makes d b h c n (cond y (go start record_end) (refuse 7))
  line-feed h n p e true t = (more, p, Break.lf_alone e (rw t tt))
  line-feed h n p e false t = behind more p (refusal_7 p e t)

  ended :
      {k : Form} {h : Bytes} {c : Content} {n : ℕ} → At d k h c n → T (over k) → (x : Class) → T (stops x) → class_of d b ≡ x
      → Makes d b h c n (step_of (d.allows lf) k x)
  ended {k} a u delimiter t e = rw (over-delimiter (d.allows lf) k u) (whole a u, e)
  ended {k} a u CR t e = rw (over-CR (d.allows lf) k u) (at_cr (whole a u) e)
  ended {k} {h} {n} a u LF t e = rw (over-LF (d.allows lf) k u) (line-feed h n (whole a u) e (d.allows lf) refl)
  ended {k} a u forbidden t e = rw (over-forbidden (d.allows lf) k u) (behind more (whole a u) (refusal_3 (whole a u) e))
  ended {k = k} {h = h} {c = c} {n = n} a u text t e = elim t [ ]
  ended {k = k} {h = h} {c = c} {n = n} a u blank t e = elim t [ ]
  ended {k = k} {h = h} {c = c} {n = n} a u quote t e = elim t [ ]

  -- and what goes on with it
  goes_on :
      {k : Form} {h : Bytes} {c : Content} {n : ℕ} → At d k h c n → (x : Class) → T (not (over k && stops x)) → class_of d b ≡ x
      → Makes d b h c n (step_of (d.allows lf) k x)
  unfolding step_of
  goes_on at_start text u e = first-text [] Blanks.none e
  goes_on at_start blank u e = at_lead (Blanks.more e Blanks.none)
  goes_on at_start quote u e = open-quote [] Blanks.none e
  goes_on (at_lead x) text u e = first-text _ x e
  goes_on (at_lead x) blank u e = at_lead (blank-more x e)
  goes_on (at_lead x) quote u e = open-quote _ x e
  goes_on (at_bare x k p y q) text u e = put-bare (at_bare x k p y q) e
  goes_on (at_bare x k p y q) blank u e = hold-bare (at_bare x k p y q) e
  goes_on (at_bare x k p y q) quote u e = bare-fault (at_bare x k p y q) e
  goes_on (at_quoted x k) text u e = put-quoted (at_quoted x k) text tt e
  goes_on (at_quoted x k) blank u e = put-quoted (at_quoted x k) blank tt e
  goes_on (at_quoted x k) delimiter u e = put-quoted (at_quoted x k) delimiter tt e
  goes_on (at_quoted x k) quote u e = at_shut (blanks-grow d more x) (closed (open-grow d more k) e)
  goes_on (at_quoted x k) CR u e = put-quoted (at_quoted x k) CR tt e
  goes_on (at_quoted x k) LF u e = put-quoted (at_quoted x k) LF tt e
  goes_on (at_quoted x k) forbidden u e = within (refusal_3_inside (blanks-grow d more x) (open-grow d more k) e)
  goes_on (at_shut x k) text u e = within (refusal_5 (blanks-grow d more x) (quoted-grow d more k) Blanks.none e)
  goes_on (at_shut x k) blank u e = at_tail (blanks-grow d more x) (quoted-grow d more k) e Blanks.none
  goes_on (at_shut x k) quote u e = pair-shut (at_shut x k) e
  goes_on (at_tail x k i y) text u e = within (refusal_5 (blanks-grow d more x) (quoted-grow d more k) (Blanks.more i (blanks-grow d more y)) e)
  goes_on (at_tail x k i y) blank u e = at_tail (blanks-grow d more x) (quoted-grow d more k) i (blank-more y e)
  goes_on (at_tail x k i y) quote u e = within (refusal_5_quote (blanks-grow d more x) (quoted-grow d more k) i (blanks-grow d more y) e)
  goes_on (at_cr p i) text u e = cr-fault {n = 0} text (at_cr p i) e (λ z. omega arith)
  goes_on (at_cr p i) blank u e = cr-fault {n = 0} blank (at_cr p i) e (λ z. omega arith)
  goes_on (at_cr p i) delimiter u e = cr-fault {n = 0} delimiter (at_cr p i) e (λ z. omega arith)
  goes_on (at_cr p i) quote u e = cr-fault {n = 0} quote (at_cr p i) e (λ z. omega arith)
  goes_on (at_cr p i) CR u e = cr-fault {n = 0} CR (at_cr p i) e (λ z. omega arith)
  goes_on (at_cr {b = a} p i) LF u e = (a ∷ more, field-grow d more p, Break.crlf i e)
  goes_on (at_cr p i) forbidden u e = cr-fault {n = 0} forbidden (at_cr p i) e (λ z. omega arith)
  goes_on at_start delimiter u e = elim u [ ]
  goes_on at_start CR u e = elim u [ ]
  goes_on at_start LF u e = elim u [ ]
  goes_on at_start forbidden u e = elim u [ ]
  goes_on {h = h} (at_lead x) delimiter u e = elim u [ ]
  goes_on {h = h} (at_lead x) CR u e = elim u [ ]
  goes_on {h = h} (at_lead x) LF u e = elim u [ ]
  goes_on {h = h} (at_lead x) forbidden u e = elim u [ ]
  goes_on {h = h} {n = n} (at_bare {a = a} {g = g} {i = i} {c = c} x k p y q) delimiter u e = elim u [ ]
  goes_on {h = h} {n = n} (at_bare {a = a} {g = g} {i = i} {c = c} x k p y q) CR u e = elim u [ ]
  goes_on {h = h} {n = n} (at_bare {a = a} {g = g} {i = i} {c = c} x k p y q) LF u e = elim u [ ]
  goes_on {h = h} {n = n} (at_bare {a = a} {g = g} {i = i} {c = c} x k p y q) forbidden u e = elim u [ ]
  goes_on {h = h} {c = c} (at_shut {q = q} x k) delimiter u e = elim u [ ]
  goes_on {h = h} {c = c} (at_shut {q = q} x k) CR u e = elim u [ ]
  goes_on {h = h} {c = c} (at_shut {q = q} x k) LF u e = elim u [ ]
  goes_on {h = h} {c = c} (at_shut {q = q} x k) forbidden u e = elim u [ ]
  goes_on {h = h} {c = c} (at_tail {a = a} {q = q} x k i y) delimiter u e = elim u [ ]
  goes_on {h = h} {c = c} (at_tail {a = a} {q = q} x k i y) CR u e = elim u [ ]
  goes_on {h = h} {c = c} (at_tail {a = a} {q = q} x k i y) LF u e = elim u [ ]
  goes_on {h = h} {c = c} (at_tail {a = a} {q = q} x k i y) forbidden u e = elim u [ ]

  -- one byte more, of each class
  pub makes : {k : Form} {h : Bytes} {c : Content} {n : ℕ} → At d k h c n → (x : Class) → class_of d b ≡ x → Makes d b h c n (step_of (d.allows lf) k x)
  makes {k} {h} {c} {n} a x e = by (over k) (stops x) refl refl
    where
      by : (y z : Bool) → over k ≡ y → stops x ≡ z → Makes d b h c n (step_of (d.allows lf) k x)
      by true true i j = ended a (rw i tt) x (rw j tt) e
      by true false i j = goes_on a x (rw (i, j) tt) e
      by false z i j = goes_on a x (rw i tt) e

-- a refusal has a number
refusal-number : {d : Dialect} {i : ℕ} {f found named : Bytes} → FieldRefusal d i f found named → eqb i 0 ≡ false
refusal-number (refusal_3 p e) = refl
refusal-number (refusal_3_inside x k e) = refl
refusal-number (refusal_4 x i k e) = refl
refusal-number (refusal_5 x k y e) = refl
refusal-number (refusal_5_quote x k i y e) = refl
refusal-number (refusal_6 p e l) = refl
refusal-number (refusal_7 p e l) = refl
refusal-number (refusal_8 x k) = refl
refusal-number (refusal_9 p e l) = refl

pub fault-number : {d : Dialect} {i b : ℕ} {h : Bytes} {c : Content} → Fault d i b h c → eqb i 0 ≡ false
fault-number (behind found p q) = refusal-number q
fault-number (within q) = refusal-number q
