-- What the second walk has to write is the table that the model reads.
use Prim.Native.Nat.{ℕ, zero, suc, ◌+◌}
use native.Mathlib.Numerals.{add-one}
use native.Mathlib.Omega.{arith}
use mathlib.Core.Path.{◌≡◌, refl, sym, ap, ◌∙◌}
use mathlib.Core.Bool.{Bool, true, false, cond}
use mathlib.Core.List.{List, [], ◌∷◌, ◌++◌, append_assoc, flatten}
use lib.ListN.{length, replicate}
use Rattle.format.specs.Table.{Bytes, Content, Table}
use Rattle.format.specs.Dialect.{lf, Dialect, class_of}
use Rattle.format.specs.Memory.{lengths, text_of, ends_of, rows_of}
use Rattle.format.proofs.Classes.{blank-is}
use Rattle.format.proofs.Memory.{lengths_none, lengths-more}
use Rattle.steps.specs.Steps.{Form, start, lead, bare, quoted, shut, tail, cr, nothing, put, hold, drop, field_end, record_end, Act, refuse, go, step_of}
use Rattle.steps.specs.Model.{Cell, Trace, refused, last, field, line, change, putting, dropping, kept_in, holding, anchor, doing, closing, run, Judged, declined, taken, Width, any, settled, agrees, beside, above, fits, judge, read}
use Rattle.steps.proofs.Acts.{HeldBlank, held-blank, run_end, run-byte}
use Rattle.steps.proofs.Limits.{read_none, read_some}
use Rattle.steps.proofs.Tallies.{Some, some-judge}
use Rattle.fill.specs.Fill.{text_by, ends_by, rows_by, text_left, ends_left, rows_left}

-- a trace without a refusal
abbrev pub Clean : Trace → Type 0
Clean (refused n a p) = ⊥
Clean (last x l a) = Unit {0}
Clean (field x a g r) = Clean r
Clean (line x l a g r) = Clean r

clean-change : (φ : Cell → Cell) (r : Trace) → Clean (change φ r) → Clean r
clean-change φ (refused n a p) h = h
clean-change φ (last x l a) h = tt
clean-change φ (field x a g r) h = h
clean-change φ (line x l a g r) h = h

-- the contents ahead, the first of them from inside its field
abbrev pub flow : Trace → List Content
flow (refused n a p) = []
flow (last x l a) = x.content ∷ []
flow (field x a g r) = x.content ∷ flow r
flow (line x l a g r) = x.content ∷ flow r

-- with h blanks held: the text ahead; with n bytes of text so far: the ends ahead; with n fields so far: the rows ahead
abbrev held_on : ℕ → Content → Bytes
held_on h [] = []
held_on h (y ∷ c) = replicate h 0x20 ++ (y ∷ c)

abbrev text_ahead : ℕ → List Content → Bytes
text_ahead h [] = []
text_ahead h (c ∷ cs) = held_on h c ++ flatten cs

abbrev up_to : ℕ → ℕ → Content → ℕ
up_to n h [] = n
up_to n h (y ∷ c) = n + (h + length (y ∷ c))

abbrev ends_ahead : ℕ → ℕ → List Content → List ℕ
ends_ahead n h [] = []
ends_ahead n h (c ∷ cs) = up_to n h c ∷ lengths (up_to n h c) cs

abbrev pub rows_ahead : ℕ → Trace → List ℕ
rows_ahead n (refused i a p) = []
rows_ahead n (last x l a) = (n + 1) ∷ []
rows_ahead n (field x a g r) = rows_ahead (n + 1) r
rows_ahead n (line x l a g r) = (n + 1) ∷ rows_ahead (n + 1) r

-- with no byte since the last record's end, nothing more is no record
abbrev or_none : Bool → Bytes → List ℕ → List ℕ
or_none true g l = l
or_none false [] l = []
or_none false (b ∷ f) l = l

some-ahead : (u : Bool) (b : ℕ) (f : Bytes) (l : List ℕ) → or_none u (b ∷ f) l ≡ l
some-ahead true b f l = refl
some-ahead false b f l = refl

-- text
held-put : (h b : ℕ) (c l : Bytes) → held_on h (b ∷ c) ++ l ≡ replicate h 0x20 ++ (b ∷ (held_on 0 c ++ l))
held-put h b [] l = append_assoc (replicate h 0x20) (b ∷ []) l
held-put h b (y ∷ c) l = append_assoc (replicate h 0x20) (b ∷ y ∷ c) l

text-put : (h b : ℕ) (r : Trace) → Clean r → text_ahead h (flow (change (putting b) r)) ≡ replicate h 0x20 ++ (b ∷ text_ahead 0 (flow r))
text-put h b (last x l a) s = held-put h b x.content (flatten [])
text-put h b (field x a g r) s = held-put h b x.content (flatten (flow r))
text-put h b (line x l a g r) s = held-put h b x.content (flatten (flow r))
text-put h b (refused _ _ _) s = elim s [ ]

spaces-in : (h : ℕ) (l : Bytes) → replicate h 0x20 ++ (0x20 ∷ l) ≡ 0x20 ∷ (replicate h 0x20 ++ l)
spaces-in zero l = refl
spaces-in (suc h) l = ap (λ (m : Bytes). 0x20 ∷ m) (spaces-in h l)

held-keep : (h n : ℕ) (c : Content) → held_on h (kept_in 0x20 c n).content ≡ held_on (suc h) c
held-keep h n [] = refl
held-keep h n (y ∷ c) = spaces-in h (y ∷ c)

text-keep : (h : ℕ) (r : Trace) → text_ahead h (flow (change (holding 0x20) r)) ≡ text_ahead (suc h) (flow r)
text-keep h (refused n a p) = refl
text-keep h (last x l a) = ap (λ (l : Bytes). l ++ flatten []) (held-keep h x.drops x.content)
text-keep h (field x a g r) = ap (λ (l : Bytes). l ++ flatten (flow r)) (held-keep h x.drops x.content)
text-keep h (line x l a g r) = ap (λ (l : Bytes). l ++ flatten (flow r)) (held-keep h x.drops x.content)

text-hold : (h b : ℕ) (r : Trace) → b ≡ 0x20 → text_ahead (h + 1) (flow r) ≡ text_ahead h (flow (change (holding b) r))
text-hold h b r e = rw (e, add-one h, text-keep h r)

flow-drop : (r : Trace) → flow (change dropping r) ≡ flow r
flow-drop (refused n a p) = refl
flow-drop (last x l a) = refl
flow-drop (field x a g r) = refl
flow-drop (line x l a g r) = refl

held_none : (c : Content) (l : Bytes) → held_on 0 c ++ l ≡ c ++ l
held_none [] l = refl
held_none (y ∷ c) l = refl

text-start : (cs : List Content) → text_ahead 0 cs ≡ flatten cs
unfolding flatten
text-start [] = refl
text-start (c ∷ cs) = held_none c (flatten cs)

-- lengths
put-length : (n h b : ℕ) (c : Content) → up_to (n + h + 1) 0 c ≡ up_to n h (b ∷ c)
put-length n h b [] = omega arith
put-length n h b (y ∷ c) = omega arith

hold-length : (n h b i : ℕ) (c : Content) → up_to n (h + 1) c ≡ up_to n h (kept_in b c i).content
hold-length n h b i [] = refl
hold-length n h b i (y ∷ c) = omega arith

none-length : (n : ℕ) (c : Content) → up_to n 0 c ≡ n + length c
none-length n [] = omega arith
none-length n (y ∷ c) = omega arith

module _ (d : Dialect) where
  -- what holds of the bytes ahead, in every form
  abbrev TextIs : Bytes → Type 0
  TextIs f = (k : Form) (p : Bytes) (h : ℕ) → Clean (run d f k p) → text_left d f k h ≡ text_ahead h (flow (run d f k p))

  text-act :
      (a : Act) (k : Form) (b : ℕ) (f p : Bytes) (h : ℕ) → HeldBlank (class_of d b) a → TextIs f → Clean (doing a k b f p (λ j q. run d f j q))
      → text_by a h b (λ j i. text_left d f j i) ≡ text_ahead h (flow (doing a k b f p (λ j q. run d f j q)))
  unfolding flatten text_left
  text-act (refuse n) k b f p h o ih c = absurd c
  text-act (go j nothing) k b f p h o ih c = ih j (anchor k j (b ∷ f) p) h c
  text-act (go j put) k b f p h o ih c =
      let q = anchor k j (b ∷ f) p in
      let r = run d f j q in
      let s = clean-change (putting b) r c in
      ap (λ (l : Bytes). replicate h 0x20 ++ (b ∷ l)) (ih j q 0 s) ∙ sym (text-put h b r s)
  text-act (go j hold) k b f p h o ih c =
      let q = anchor k j (b ∷ f) p in
      let r = run d f j q in
      ih j q (h + 1) (clean-change (holding b) r c) ∙ text-hold h b r (blank-is d b o).0
  text-act (go j drop) k b f p h o ih c =
      let q = anchor k j (b ∷ f) p in
      let r = run d f j q in
      ih j q h (clean-change dropping r c) ∙ ap (text_ahead h) (sym (flow-drop r))
  text-act (go j field_end) k b f p h o ih c = ih start [] 0 c ∙ text-start (flow (run d f start []))
  text-act (go j record_end) k b [] p h o ih c = refl
  text-act (go j record_end) k b (e ∷ f) p h o ih c = ih start [] 0 c ∙ text-start (flow (run d (e ∷ f) start []))

  text-closing : (k : Form) (p : Bytes) (h : ℕ) → Clean (closing k p) → [] ≡ text_ahead h (flow (closing k p))
  unfolding flatten
  text-closing start p h c = refl
  text-closing lead p h c = refl
  text-closing bare p h c = refl
  text-closing quoted p h c = absurd c
  text-closing shut p h c = refl
  text-closing tail p h c = refl
  text-closing cr p h c = absurd c

  text_is : (f : Bytes) → TextIs f
  unfolding text_left
  text_is [] k p h c = rw (run_end d k p) (text-closing k p h (rw (run_end d k p) at c))
  text_is (b ∷ f) k p h c =
      let y = d.allows lf in
      let e = run-byte d b f k p in
      rw e (text-act (step_of y k (class_of d b)) k b f p h (held-blank y k (class_of d b)) (text_is f) (rw e at c))

  -- ends
  abbrev EndsAre : Bytes → Type 0
  EndsAre f = (k : Form) (p : Bytes) (h n : ℕ) (u : Bool) → Clean (run d f k p) → ends_left true d f k h n u ≡ or_none u f (ends_ahead n h (flow (run d f k p)))

  ends-put : (n h b : ℕ) (r : Trace) → ends_ahead (n + h + 1) 0 (flow r) ≡ ends_ahead n h (flow (change (putting b) r))
  ends-put n h b (refused i a p) = refl
  ends-put n h b (last x l a) = rw (put-length n h b x.content)
  ends-put n h b (field x a g r) = rw (put-length n h b x.content)
  ends-put n h b (line x l a g r) = rw (put-length n h b x.content)

  ends-hold : (n h b : ℕ) (r : Trace) → ends_ahead n (h + 1) (flow r) ≡ ends_ahead n h (flow (change (holding b) r))
  ends-hold n h b (refused i a p) = refl
  ends-hold n h b (last x l a) = rw (hold-length n h b x.drops x.content)
  ends-hold n h b (field x a g r) = rw (hold-length n h b x.drops x.content)
  ends-hold n h b (line x l a g r) = rw (hold-length n h b x.drops x.content)

  ends-start : (n : ℕ) (cs : List Content) → ends_ahead n 0 cs ≡ lengths n cs
  ends-start n [] = sym (lengths_none ℕ n)
  ends-start n (c ∷ cs) = rw (lengths-more n c cs, none-length n c)

  ends-act :
      (a : Act) (k : Form) (b : ℕ) (f p : Bytes) (h n : ℕ) → EndsAre f → Clean (doing a k b f p (λ j q. run d f j q))
      → ends_by a h n (λ j i m v. ends_left true d f j i m v) ≡ ends_ahead n h (flow (doing a k b f p (λ j q. run d f j q)))
  unfolding ends_left
  ends-act (refuse i) k b f p h n ih c = absurd c
  ends-act (go j nothing) k b f p h n ih c = ih j (anchor k j (b ∷ f) p) h n true c
  ends-act (go j put) k b f p h n ih c =
      let q = anchor k j (b ∷ f) p in
      let r = run d f j q in
      ih j q 0 (n + h + 1) true (clean-change (putting b) r c) ∙ ends-put n h b r
  ends-act (go j hold) k b f p h n ih c =
      let q = anchor k j (b ∷ f) p in
      let r = run d f j q in
      ih j q (h + 1) n true (clean-change (holding b) r c) ∙ ends-hold n h b r
  ends-act (go j drop) k b f p h n ih c =
      let q = anchor k j (b ∷ f) p in
      let r = run d f j q in
      ih j q h n true (clean-change dropping r c) ∙ ap (ends_ahead n h) (sym (flow-drop r))
  ends-act (go j field_end) k b f p h n ih c = ap (λ (l : List ℕ). n ∷ l) (ih start [] 0 n true c ∙ ends-start n (flow (run d f start [])))
  ends-act (go j record_end) k b [] p h n ih c = rw (lengths_none ℕ n)
  ends-act (go j record_end) k b (e ∷ f) p h n ih c = ap (λ (l : List ℕ). n ∷ l) (ih start [] 0 n false c ∙ ends-start n (flow (run d (e ∷ f) start [])))

  ends-closing : (k : Form) (p : Bytes) (h n : ℕ) → Clean (closing k p) → n ∷ [] ≡ ends_ahead n h (flow (closing k p))
  ends-closing start p h n c = rw (lengths_none ℕ n)
  ends-closing lead p h n c = rw (lengths_none ℕ n)
  ends-closing bare p h n c = rw (lengths_none ℕ n)
  ends-closing quoted p h n c = absurd c
  ends-closing shut p h n c = rw (lengths_none ℕ n)
  ends-closing tail p h n c = rw (lengths_none ℕ n)
  ends-closing cr p h n c = absurd c

  ends_are : (f : Bytes) → EndsAre f
  unfolding ends_left
  ends_are [] k p h n true c = rw (run_end d k p) (ends-closing k p h n (rw (run_end d k p) at c))
  ends_are [] k p h n false c = refl
  ends_are (b ∷ f) k p h n u c = let e = run-byte d b f k p in rw (some-ahead u b f _, e) (ends-act (step_of (d.allows lf) k (class_of d b)) k b f p h n (ends_are f) (rw e at c))

  -- rows
  abbrev RowsAre : Bytes → Type 0
  RowsAre f = (k : Form) (p : Bytes) (n : ℕ) (u : Bool) → Clean (run d f k p) → rows_left true d f k n u ≡ or_none u f (rows_ahead n (run d f k p))

  rows-change : (n : ℕ) (φ : Cell → Cell) (r : Trace) → rows_ahead n r ≡ rows_ahead n (change φ r)
  rows-change n φ (refused i a p) = refl
  rows-change n φ (last x l a) = refl
  rows-change n φ (field x a g r) = refl
  rows-change n φ (line x l a g r) = refl

  rows-act :
      (a : Act) (k : Form) (b : ℕ) (f p : Bytes) (n : ℕ) → RowsAre f → Clean (doing a k b f p (λ j q. run d f j q))
      → rows_by a n (λ j m v. rows_left true d f j m v) ≡ rows_ahead n (doing a k b f p (λ j q. run d f j q))
  unfolding rows_left
  rows-act (refuse i) k b f p n ih c = absurd c
  rows-act (go j nothing) k b f p n ih c = ih j (anchor k j (b ∷ f) p) n true c
  rows-act (go j put) k b f p n ih c = inside (putting b) j (anchor k j (b ∷ f) p) c
    where
      inside : (φ : Cell → Cell) (j : Form) (q : Bytes) → Clean (change φ (run d f j q)) → rows_left true d f j n true ≡ rows_ahead n (change φ (run d f j q))
      inside φ j q c = ih j q n true (clean-change φ (run d f j q) c) ∙ rows-change n φ (run d f j q)
  rows-act (go j hold) k b f p n ih c =
      let q = anchor k j (b ∷ f) p in
      ih j q n true (clean-change (holding b) (run d f j q) c) ∙ rows-change n (holding b) (run d f j q)
  rows-act (go j drop) k b f p n ih c =
      let q = anchor k j (b ∷ f) p in
      ih j q n true (clean-change dropping (run d f j q) c) ∙ rows-change n dropping (run d f j q)
  rows-act (go j field_end) k b f p n ih c = ih start [] (n + 1) true c
  rows-act (go j record_end) k b [] p n ih c = refl
  rows-act (go j record_end) k b (e ∷ f) p n ih c = ap (λ (l : List ℕ). (n + 1) ∷ l) (ih start [] (n + 1) false c)

  rows-closing : (k : Form) (p : Bytes) (n : ℕ) → Clean (closing k p) → (n + 1) ∷ [] ≡ rows_ahead n (closing k p)
  rows-closing start p n c = refl
  rows-closing lead p n c = refl
  rows-closing bare p n c = refl
  rows-closing quoted p n c = absurd c
  rows-closing shut p n c = refl
  rows-closing tail p n c = refl
  rows-closing cr p n c = absurd c

  rows_are : (f : Bytes) → RowsAre f
  unfolding rows_left
  rows_are [] k p n true c = rw (run_end d k p) (rows-closing k p n (rw (run_end d k p) at c))
  rows_are [] k p n false c = refl
  rows_are (b ∷ f) k p n u c = let e = run-byte d b f k p in rw (some-ahead u b f _, e) (rows-act (step_of (d.allows lf) k (class_of d b)) k b f p n (rows_are f) (rw e at c))

-- what a trace puts out is the table that is judged of it
pub record Flows (r : Trace) (t : Table) : Type 0 where
  pub clean : Clean r
  pub contents : flow r ≡ flatten t
  pub rows : (n : ℕ) → rows_ahead n r ≡ lengths n t

never-taken : {A : Type 0} {n m l : ℕ} {a p : Bytes} {t : Table} → declined n a p ≡ taken t m l → A
never-taken e = let z : ◌≡◌ {A = ℕ} 0 1 = cc in absurd (omega arith)

module _ (d : Dialect) where
  flows-line :
      (x y : Bool) (c : Content) (n l i k : ℕ) (a p : Bytes) (r : Trace) (q : Judged) (t : Table)
      → ((s : Table) (m o : ℕ) → q ≡ taken s m o → Clean r × (flow r ≡ c ∷ flatten s) × ((n : ℕ) → rows_ahead n r ≡ (n + 1) ∷ lengths (n + 1) s))
      → cond x (cond y (above (c ∷ []) n l q) (declined 10 a a)) (declined 9 a p) ≡ taken t i k → Flows r t
  unfolding flatten
  flows-line true true c n l i k a p r (declined j b e) t h q = never-taken q
  flows-line true true c n l i k a p r (taken s m o) t h q =
      let (u, v, w) = h s m o refl in
      let e : (c ∷ []) ∷ s ≡ t = cc in
      record { clean = u; contents = v ∙ ap flatten e; rows = λ n. w n ∙ (sym (lengths-more n (c ∷ []) s) ∙ ap (lengths n) e) }
  flows-line true false c n l i k a p r q t h e = never-taken e
  flows-line false y c n l i k a p r q t h e = never-taken e

  flows-field :
      (x : Bool) (u : Cell) (i k : ℕ) (a p g : Bytes) (r : Trace) (q : Judged) (t : Table) → Some q
      → ((s : Table) (m o : ℕ) → q ≡ taken s m o → Flows r s)
      → cond x (beside u q) (declined 9 a p) ≡ taken t i k → Flows (field u a g r) t
  unfolding flatten
  flows-field true u i k a p g r (declined j b e) t o h q = never-taken q
  flows-field true u i k a p g r (taken (cs ∷ s) m l) t o h q =
      let f = h (cs ∷ s) m l refl in
      let e : (u.content ∷ cs) ∷ s ≡ t = cc in
      record {
        clean = f.clean;
        contents = ap (λ (l : List Content). u.content ∷ l) f.contents ∙ ap flatten e;
        rows = λ n.
            f.rows (n + 1)
            ∙ (lengths-more (n + 1) cs s
            ∙ (ap (λ (m : ℕ). m ∷ lengths m s) (omega arith) ∙ (sym (lengths-more n (u.content ∷ cs) s) ∙ ap (lengths n) e)));
      }
  flows-field false u i k a p g r q t o h e = never-taken e
  flows-field true u i k a p g r (taken [] m l) t o h q = elim o [ ]

  flows : (w : Width) (j : ℕ) (p : Bytes) (r : Trace) (t : Table) (m l : ℕ) → judge d w j p r ≡ taken t m l → Flows r t
  unfolding flatten
  flows w j p (refused n a q) t m l e = never-taken e
  flows w j p (last x k a) t m l e =
      flows-line (fits x.content) (agrees d w (suc j)) x.content x.drops k m l a p (last x k a) (taken [] 0 0) t
      (λ s i o q.
      let z : [] ≡ s = cc in
      (tt, ap (λ (u : Table). x.content ∷ flatten u) z, λ n. ap (λ (u : List ℕ). (n + 1) ∷ u) (sym (lengths_none Content (n + 1)) ∙ ap (lengths (n + 1)) z))) e
  flows w j p (field x a g r) t m l e =
      flows-field (fits x.content) x m l a p g r (judge d w (suc j) g r) t (some-judge d w (suc j) g r)
      (λ s i o q. flows w (suc j) g r s i o q) e
  flows w j p (line x k a g r) t m l e =
      flows-line (fits x.content) (agrees d w (suc j)) x.content x.drops k m l a p (line x k a g r) (judge d (settled w (suc j)) 0 g r) t
      (λ s i o q.
      let f = flows (settled w (suc j)) 0 g r s i o q in
      (f.clean, ap (λ (u : List Content). x.content ∷ u) f.contents, λ n. ap (λ (u : List ℕ). (n + 1) ∷ u) (f.rows (n + 1)))) e

  -- over a whole file that is read as a table
  pub filled :
      (f : Bytes) (t : Table) (m l : ℕ) → read d any f ≡ taken t m l
      → (text_left d f start 0 ≡ text_of t) × (ends_left true d f start 0 0 false ≡ ends_of t) × (rows_left true d f start 0 false ≡ rows_of t)
  unfolding text_left ends_left rows_left flatten
  filled [] t m l e =
      let z : [] ≡ t = cc (read_none d any) in
      (ap text_of z, sym (lengths_none ℕ 0) ∙ ap ends_of z, sym (lengths_none Content 0) ∙ ap rows_of z)
  filled (b ∷ f) t m l e =
      let r = run d (b ∷ f) start [] in
      let q = flows any 0 (b ∷ f) r t m l (sym (read_some d any b f) ∙ e) in (
        text_is d (b ∷ f) start [] 0 q.clean ∙ (text-start (flow r) ∙ ap flatten q.contents),
        ends_are d (b ∷ f) start [] 0 0 false q.clean ∙ (ends-start d 0 (flow r) ∙ ap (lengths 0) q.contents),
        rows_are d (b ∷ f) start [] 0 false q.clean ∙ q.rows 0,
      )
