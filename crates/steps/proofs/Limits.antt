-- The limits: what the model judges over a trace is what the house rules say of a file.
use Prim.Native.Nat.{ℕ, suc, ◌+◌, ◌<◌}
use native.Mathlib.Omega.{arith}
use mathlib.Core.Path.{◌≡◌, refl, ap, ◌∙◌}
use mathlib.Core.Bool.{Bool, true, false, cond}
use mathlib.Core.List.{List, [], ◌∷◌}
use lib.Dec.{T}
use lib.ListN.{length}
use borrow.Author.Tests.{le-leb, lt-leb, leb-true, leb-false}
use Rattle.format.specs.Table.{Bytes, Content, Table, Ending, Every}
use Rattle.format.specs.Dialect.{Dialect, delimiter, class_of}
use Rattle.format.specs.Grammar.{Blanks, Bare, Open, opened, closed, Field, Record, Break, File}
use Rattle.format.specs.House.{LastBreak, content_limit, Fits}
use Rattle.format.specs.Refusal.{LineEnd, FieldEnd, delimited, lined, FieldRefusal, refusal_9, Fields}
use Rattle.format.specs.Count.{sum_in_record, sum_in_file, dropped, alone, alones}
use Rattle.format.proofs.Classes.{decide}
use Rattle.steps.specs.Steps.{start}
use Rattle.steps.specs.Model.{Cell, cell, Trace, ending, run, Judged, declined, taken, Width, any, settled, agrees, beside, above, fits, line_ends, judge, read}
use Rattle.steps.proofs.Sound.{Means, is_wrong, is_bad, is_last, is_ended, is_field, is_line, from_start, sound, wrong-refusal, bad-refusal}
use Rattle.steps.proofs.Faults.{field-refused}
use Rattle.steps.proofs.Complete.{set, at_end, fields, field-then, break-stops, break-ending}

-- the fields of a record, and of j before them
abbrev count : ℕ → List Content → ℕ
count j [] = j
count j (c ∷ cs) = count (suc j) cs

count-length : (j : ℕ) (cs : List Content) → count j cs ≡ j + length cs
count-length j [] = omega arith
count-length j (c ∷ cs) = count-length (suc j) cs ∙ omega arith

count-is : (cs : List Content) → count 0 cs ≡ length cs
count-is cs = count-length 0 cs ∙ omega arith

-- tests
yes-cond : {A : Type 0} (x : Bool) (u v : A) → T x → cond x u v ≡ u
yes-cond true u v t = refl
yes-cond false u v t = absurd t

no-cond : {A : Type 0} (x : Bool) (u v : A) → (T x → ⊥) → cond x u v ≡ v
no-cond true u v t = absurd (t tt)
no-cond false u v t = refl

fits-yes : (c : Content) {A : Type 0} (u v : A) → Fits c → cond (fits c) u v ≡ u
unfolding fits
fits-yes c u v h = rw (le-leb (length c) content_limit h)

fits-no : (c : Content) {A : Type 0} (u v : A) → content_limit < length c → cond (fits c) u v ≡ v
unfolding fits
fits-no c u v h = rw (lt-leb (length c) content_limit h)

fits-true : (c : Content) → fits c ≡ true → Fits c
unfolding fits
fits-true c e = leb-true (length c) content_limit e

fits-false : (c : Content) → fits c ≡ false → content_limit < length c
unfolding fits
fits-false c e = leb-false (length c) content_limit e

-- the LF alone that ends a line
abbrev alone_of : {d : Dialect} {g h : Bytes} → LineEnd d g h → ℕ
alone_of LineEnd.end = 0
alone_of (LineEnd.broken k) = alone k

-- a piece of nothing leaves nothing
cons-nil : {b : ℕ} {f : Bytes} → b ∷ f ≡ [] → ⊥
cons-nil e = let z : ◌≡◌ {A = ℕ} 0 1 = cc in omega arith

module _ (d : Dialect) where
  open-nil : {f g : Bytes} {c : Content} → Open d f c g → f ≡ [] → ⊥
  open-nil (opened e k) n = cons-nil n

  field-nil : {g : Bytes} {c : Content} → Field d [] c g → g ≡ []
  field-nil (Field.bare Blanks.none Bare.none u Blanks.none) = refl
  field-nil (Field.quoted Blanks.none (closed o e) y) = absurd (open-nil o refl)

  record-nil : {g : Bytes} {cs : List Content} → Record d [] cs g → g ≡ []
  record-nil (Record.one p) = field-nil p
  record-nil (Record.more p e r) = absurd (cons-nil (field-nil p))

  break-nil : {g h : Bytes} → Break d g h → g ≡ [] → ⊥
  break-nil (Break.crlf e e') n = cons-nil n
  break-nil (Break.lf_alone e t) n = cons-nil n

  judge-field :
      {b : ℕ} {f g : Bytes} {c : Content} (w : Width) (j : ℕ) (p : Bytes) (q : Field d f c (b ∷ g)) → class_of d b ≡ delimiter
      → judge d w j p (run d f start [])
      ≡ cond (fits c) (beside (cell c (dropped f c (b ∷ g) q)) (judge d w (suc j) g (run d g start []))) (declined 9 (b ∷ g) p)
  judge-field w j p q e = ap (judge d w j p) (field-then d q e)

  judge-ending :
      (w : Width) (j l : ℕ) (p g h : Bytes) (x : Cell)
      → judge d w j p (set x (ending l g h (run d h start []))) ≡ line_ends d w j p x l g (read d (settled w (suc j)) h)
  unfolding read
  judge-ending w j l p g [] x = refl
  judge-ending w j l p g (b ∷ h) x = refl

  judge-end :
      {f g h : Bytes} {c : Content} (w : Width) (j : ℕ) (p : Bytes) (q : Field d f c g) (e : LineEnd d g h)
      → judge d w j p (run d f start []) ≡ line_ends d w j p (cell c (dropped f c g q)) (alone_of e) g (read d (settled w (suc j)) h)
  unfolding run read
  judge-end w j p q LineEnd.end = ap (judge d w j p) (fields d q at_end)
  judge-end {f} {g} {h} {c} w j p q (LineEnd.broken k) =
      ap (judge d w j p) (fields d q (break-stops d k) ∙ ap (set (cell c (dropped f c g q))) (break-ending d k))
      ∙ judge-ending w j (alone k) p g h (cell c (dropped f c g q))

  -- an empty field alone is no refusal
  empty-taken : judge d any 0 [] (run d [] start []) ≡ taken (([] ∷ []) ∷ []) 0 0
  unfolding run agrees fits
  empty-taken = refl

  -- no bytes are no record; and else the first record begins at once
  pub read_none : (w : Width) → read d w [] ≡ taken [] 0 0
  unfolding read
  read_none w = refl

  pub read_some : (w : Width) (b : ℕ) (f : Bytes) → read d w (b ∷ f) ≡ judge d w 0 (b ∷ f) (run d (b ∷ f) start [])
  unfolding read
  read_some w b f = refl

  -- a record that fits
  abbrev closes : Width → ℕ → List Content → ℕ → ℕ → Bytes → Judged → Judged
  closes w n cs m l g a = cond (agrees d w n) (above cs m l a) (declined 10 g g)

  beside-above : (c : Content) (n m l : ℕ) (cs : List Content) (a : Judged) → beside (cell c n) (above cs m l a) ≡ above (c ∷ cs) (n + m) l a
  beside-above c n m l cs (declined i g p) = refl
  beside-above c n m l cs (taken t i k) = ap (λ (z : ℕ). taken ((c ∷ cs) ∷ t) z (l + k)) (omega arith)

  beside-closes :
      (x : Bool) (c : Content) (n m l : ℕ) (cs : List Content) (g : Bytes) (a : Judged)
      → beside (cell c n) (cond x (above cs m l a) (declined 10 g g)) ≡ cond x (above (c ∷ cs) (n + m) l a) (declined 10 g g)
  beside-closes true c n m l cs g a = beside-above c n m l cs a
  beside-closes false c n m l cs g a = refl

  fit-record :
      {f g h : Bytes} {cs : List Content} (w : Width) (j : ℕ) (p : Bytes) (r : Record d f cs g) (e : LineEnd d g h) → Every Fits cs
      → judge d w j p (run d f start [])
      ≡ closes w (count j cs) cs (sum_in_record dropped r) (alone_of e) g (read d (settled w (count j cs)) h)
  unfolding sum_in_record
  fit-record w j p (Record.one {c} q) e t = judge-end w j p q e ∙ fits-yes c _ _ t.0
  fit-record {f} {g} {h} w j p (Record.more {b} {g = i} {c} {cs} q k r) e t =
      judge-field w j p q k
      ∙ (fits-yes c _ _ t.0
      ∙ (ap (beside (cell c (dropped f c (b ∷ i) q))) (fit-record w (suc j) i r e t.1)
      ∙ beside-closes (agrees d w (count (suc j) cs)) c (dropped f c (b ∷ i) q) (sum_in_record dropped r) (alone_of e) cs g (read d (settled w (count (suc j) cs)) h)))

  -- a record that fits, from its beginning
  fit-first :
      {f g h : Bytes} {cs : List Content} (w : Width) (r : Record d f cs g) (e : LineEnd d g h) → Every Fits cs
      → judge d w 0 f (run d f start [])
      ≡ closes w (length cs) cs (sum_in_record dropped r) (alone_of e) g (read d (settled w (length cs)) h)
  fit-first {f} {cs} w r e t = rw (count-is cs) at (fit-record w 0 f r e t)

  begun-read : {f g h : Bytes} {cs : List Content} (w : Width) → Record d f cs g → Break d g h → read d w f ≡ judge d w 0 f (run d f start [])
  begun-read {f = []} w r k = absurd (break-nil k (record-nil r))
  begun-read {f = b ∷ f} w r k = read_some w b f

-- what the rules ask of a table whose first record is to agree with a width
abbrev pub Fine : Dialect → Width → Table → Type 0
Fine d w [] = Unit {0}
Fine d w (cs ∷ t) = Every Fits cs × T (agrees d w (length cs)) × Fine d (settled w (length cs)) t

same_taken : {t : Table} {m n l k : ℕ} → m ≡ n → l ≡ k → taken t m l ≡ taken t n k
same_taken {t} p q = λ i. taken t (p i) (q i)

module _ {d : Dialect} where
  -- a record that fits and agrees, before what follows its line's end
  agreed :
      {f g h : Bytes} {cs : List Content} (w : Width) (r : Record d f cs g) (e : LineEnd d g h) → Every Fits cs → T (agrees d w (length cs))
      → judge d w 0 f (run d f start []) ≡ above cs (sum_in_record dropped r) (alone_of e) (read d (settled w (length cs)) h)
  agreed {cs} w r e t u = fit-first d w r e t ∙ yes-cond (agrees d w (length cs)) _ _ u

  -- the model reads what the grammar reads
  pub read-complete :
      {f : Bytes} {t : Table} {e : Ending} (w : Width) (p : File d f t e) → LastBreak e → Fine d w t
      → read d w f ≡ taken t (sum_in_file dropped p) (alones p)
  unfolding read sum_in_file alones
  read-complete w (File.one {f = b ∷ f} r) l h = agreed w r LineEnd.end h.0 h.1 ∙ same_taken (omega arith) refl
  read-complete w (File.ended r k) l h =
      begun-read d w r k ∙ (agreed w r (LineEnd.broken k) h.0 h.1 ∙ same_taken (omega arith) (omega arith))
  read-complete w (File.more {cs} r k p) l h =
      begun-read d w r k
      ∙ (agreed w r (LineEnd.broken k) h.0 h.1
      ∙ ap (above cs (sum_in_record dropped r) (alone k)) (read-complete (settled w (length cs)) p l h.2))
  read-complete w (File.one {f = []} {cs = cs} r) l h = elim l [ ]

-- a refusal in the record that begins at f: w is the width that the record is to agree with
pub data Here (d : Dialect) (w : Width) : ℕ → Bytes → Bytes → Bytes → Type 0 where
  in_record :
      {n : ℕ} {f h found named : Bytes} {cs : List Content}
      → Fields d f cs h → Every Fits cs → FieldRefusal d n h found named → Here d w n f found named
  uneven :
      {b : ℕ} {f g h : Bytes} {cs : List Content}
      → Record d (b ∷ f) cs g → LineEnd d g h → Every Fits cs → (T (agrees d w (length cs)) → ⊥) → Here d w 10 (b ∷ f) g g

-- and in a later one
pub data Refuses (d : Dialect) : Width → ℕ → Bytes → Bytes → Bytes → Type 0 where
  here : {w : Width} {n : ℕ} {f found named : Bytes} → Here d w n f found named → Refuses d w n f found named
  later :
      {w : Width} {n : ℕ} {f g h found named : Bytes} {cs : List Content}
      → Record d f cs g → Break d g h → Every Fits cs → T (agrees d w (length cs)) → Refuses d (settled w (length cs)) n h found named
      → Refuses d w n f found named

module _ {d : Dialect} where
  fields-refuse :
      {n : ℕ} {f g found named : Bytes} {cs : List Content} (w : Width) (j : ℕ)
      → Fields d f cs g → Every Fits cs
      → ((i : ℕ) → judge d w i g (run d g start []) ≡ declined n found named)
      → judge d w j f (run d f start []) ≡ declined n found named
  fields-refuse w j Fields.none t h = h j
  fields-refuse {f} w j (Fields.more {b} {g} {c} q e r) t h =
      judge-field d w j f q e ∙ (fits-yes c _ _ t.0 ∙ ap (beside (cell c (dropped f c (b ∷ g) q))) (fields-refuse w (suc j) r t.1 h))

  long-declined :
      {f g : Bytes} {c : Content} (w : Width) (j : ℕ) → Field d f c g → FieldEnd d g → content_limit < length c
      → judge d w j f (run d f start []) ≡ declined 9 g f
  long-declined {f} {c} w j p (delimited e) h = judge-field d w j f p e ∙ fits-no c _ _ h
  long-declined {f} {c} w j p (lined e) h = judge-end d w j f p e ∙ fits-no c _ _ h

  field-declined :
      {n : ℕ} {f found named : Bytes} (w : Width) (j : ℕ) → FieldRefusal d n f found named → judge d w j f (run d f start []) ≡ declined n found named
  field-declined w j x =
      field-refused d (λ n f found named. judge d w j f (run d f start []) ≡ declined n found named)
      (λ n f found named e. ap (judge d w j f) e) (λ f g c p e l. long-declined w j p e l) x

  record-declined :
      {n : ℕ} {f g found named : Bytes} {cs : List Content} (w : Width) → Fields d f cs g → Every Fits cs → FieldRefusal d n g found named
      → read d w f ≡ declined n found named
  unfolding read
  record-declined {f = []} w r t x =
      let e = fields-refuse any 0 r t (λ i. field-declined any i x) in
      let z : ◌≡◌ {A = ℕ} 0 1 = cc (empty-taken d) in
      absurd (omega arith)
  record-declined {f = b ∷ f} w r t x = fields-refuse w 0 r t (λ i. field-declined w i x)

  -- the model refuses what the grammar and the rules refuse
  pub refusal-complete : {w : Width} {n : ℕ} {f found named : Bytes} → Refuses d w n f found named → read d w f ≡ declined n found named
  unfolding read
  refusal-complete {w} (here (in_record r t x)) = record-declined w r t x
  refusal-complete {w} (here (uneven {cs} r e t u)) = fit-first d w r e t ∙ no-cond (agrees d w (length cs)) _ _ u
  refusal-complete {w} (later {cs} r k t u x) =
      begun-read d w r k ∙ (agreed w r (LineEnd.broken k) t u ∙ ap (above cs (sum_in_record dropped r) (alone k)) (refusal-complete x))

-- And back. What the model reads of a source, under a width:
pub data Reads (d : Dialect) (w : Width) : Bytes → Table → ℕ → ℕ → Type 0 where
  reads_none : Reads d w [] [] 0 0
  reads_some :
      {f : Bytes} {t : Table} {e : Ending} {m l : ℕ} (p : File d f t e)
      → LastBreak e → Fine d w t → sum_in_file dropped p ≡ m → alones p ≡ l → Reads d w f t m l

abbrev pub Says : Dialect → Width → Bytes → Judged → Type 0
Says d w f (declined n found named) = Refuses d w n f found named
Says d w f (taken t m l) = Reads d w f t m l

-- the same of a source that begins with a record, of which j fields stand before it
data Opens (d : Dialect) (w : Width) : ℕ → Bytes → Judged → Type 0 where
  opens_read :
      {j m l i k : ℕ} {f g h : Bytes} {cs : List Content} {t : Table} (r : Record d f cs g) (e : LineEnd d g h)
      → Every Fits cs → T (agrees d w (count j cs)) → Reads d (settled w (count j cs)) h t i k
      → sum_in_record dropped r + i ≡ m → alone_of e + k ≡ l → Opens d w j f (taken (cs ∷ t) m l)
  opens_wrong :
      {j n : ℕ} {f g found named : Bytes} {cs : List Content}
      → Fields d f cs g → Every Fits cs → FieldRefusal d n g found named → Opens d w j f (declined n found named)
  opens_uneven :
      {j : ℕ} {f g h : Bytes} {cs : List Content}
      → Record d f cs g → LineEnd d g h → Every Fits cs → (T (agrees d w (count j cs)) → ⊥) → Opens d w j f (declined 10 g g)
  opens_later :
      {j n : ℕ} {f g h found named : Bytes} {cs : List Content}
      → Record d f cs g → Break d g h → Every Fits cs → T (agrees d w (count j cs)) → Refuses d (settled w (count j cs)) n h found named
      → Opens d w j f (declined n found named)

module _ {d : Dialect} where
  -- no file of records is empty
  pub file-nil : {t : Table} {e : Ending} → File d [] t e → LastBreak e → ⊥
  file-nil (File.one r) l = l
  file-nil (File.ended r k) l = break-nil d k (record-nil d r)
  file-nil (File.more r k p) l = break-nil d k (record-nil d r)

  reads_more :
      {b m l i k : ℕ} {f g h : Bytes} {cs : List Content} {t : Table} {w : Width} (r : Record d (b ∷ f) cs g) (e : LineEnd d g h)
      → Every Fits cs → T (agrees d w (length cs)) → Reads d (settled w (length cs)) h t i k
      → sum_in_record dropped r + i ≡ m → alone_of e + k ≡ l → Reads d w (b ∷ f) (cs ∷ t) m l
  unfolding sum_in_file alones
  reads_more {m} {l} r LineEnd.end t u reads_none p q = reads_some {m = m} {l = l} (File.one r) tt (t, u, tt) (omega arith) (omega arith)
  reads_more r LineEnd.end t u (reads_some x l z i k) p q = absurd (file-nil x l)
  reads_more {m} {l} r (LineEnd.broken e) t u reads_none p q = reads_some {m = m} {l = l} (File.ended r e) tt (t, u, tt) (omega arith) (omega arith)
  reads_more {m} {l} r (LineEnd.broken e) t u (reads_some x o z i k) p q = reads_some {m = m} {l = l} (File.more r e x) o (t, u, z) (omega arith) (omega arith)

  says : {b : ℕ} {f : Bytes} {a : Judged} (w : Width) → Opens d w 0 (b ∷ f) a → Says d w (b ∷ f) a
  says w (opens_read {cs} r e t u x p q) = reads_more r e t (rw (count-is cs) at u) (rw (count-is cs) at x) p q
  says w (opens_wrong r t x) = here (in_record r t x)
  says w (opens_uneven {cs} r e t u) = here (uneven r e t (rw (count-is cs) at u))
  says w (opens_later {cs} r k t u x) = later r k t (rw (count-is cs) at u) (rw (count-is cs) at x)

  -- a field before a record
  opens-beside :
      {b j n : ℕ} {f g : Bytes} {c : Content} {a : Judged} {w : Width} (p : Field d f c (b ∷ g)) → dropped f c (b ∷ g) p ≡ n
      → class_of d b ≡ delimiter → Fits c → Opens d w (suc j) g a → Opens d w j f (beside (cell c n) a)
  unfolding sum_in_record
  opens-beside {n} p q e t (opens_read {m} r le u v x y z) = opens_read {m = n + m} (Record.more p e r) le (t, u) v x (omega arith) z
  opens-beside p q e t (opens_wrong r u x) = opens_wrong (Fields.more p e r) (t, u) x
  opens-beside p q e t (opens_uneven r le u v) = opens_uneven (Record.more p e r) le (t, u) v
  opens-beside p q e t (opens_later r k u v x) = opens_later (Record.more p e r) k (t, u) v x

  nothing-wrong : {n : ℕ} {w : Width} {found named : Bytes} → Refuses d w n [] found named → ⊥
  nothing-wrong (here (in_record r t x)) =
      let z : ◌≡◌ {A = ℕ} 0 1 = cc (record-declined any r t x, read_none d any) in
      omega arith
  nothing-wrong (later r k t u x) = break-nil d k (record-nil d r)

  -- a field that ends its record
  opens-above :
      {j n : ℕ} {f g h : Bytes} {c : Content} {w : Width} (a : Judged) (p : Field d f c g) → dropped f c g p ≡ n
      → (e : LineEnd d g h) → Fits c → T (agrees d w (suc j)) → Says d (settled w (suc j)) h a
      → Opens d w j f (above (c ∷ []) n (alone_of e) a)
  unfolding sum_in_record
  opens-above (declined i a b) p q (LineEnd.broken k) t u x = opens_later (Record.one p) k (t, tt) u x
  opens-above (declined i a b) p q LineEnd.end t u x = absurd (nothing-wrong x)
  opens-above {n} (taken s i k) p q e t u x = opens_read {m = n + i} (Record.one p) e (t, tt) u x (omega arith) refl

  opens-end :
      {j n l : ℕ} {f g h : Bytes} {c : Content} {w : Width} (a : Judged) (p : Field d f c g) → dropped f c g p ≡ n
      → (e : LineEnd d g h) → alone_of e ≡ l → Says d (settled w (suc j)) h a → Opens d w j f (line_ends d w j f (cell c n) l g a)
  opens-end {j} {f} {g} {c} {w} a p q e o x =
      rw (← o)
      (decide (Opens d w j f) (fits c)
      (λ t.
      decide (Opens d w j f) (agrees d w (suc j)) (λ u. opens-above a p q e (fits-true c t) (rw u tt) x)
      (λ u. opens_uneven (Record.one p) e (fits-true c t, tt) (λ v. rw u at v)))
      (λ t. opens_wrong Fields.none tt (refusal_9 p (lined e) (fits-false c t))))

  opens : {f : Bytes} {r : Trace} (w : Width) (j : ℕ) → Means d start [] f r → Opens d w j f (judge d w j f r)
  opens w j (is_wrong x) = opens_wrong Fields.none tt (wrong-refusal x)
  opens w j (is_bad (from_start p q) x) = opens_wrong Fields.none tt (bad-refusal p x)
  opens w j (is_last (from_start p q)) = opens-end (taken [] 0 0) p q LineEnd.end refl reads_none
  opens w j (is_ended (from_start p q) k o) = opens-end (taken [] 0 0) p q (LineEnd.broken k) o reads_none
  opens {f} w j (is_field (from_start {c} p q) e m) =
      decide (Opens d w j f) (fits c) (λ t. opens-beside p q e (fits-true c t) (opens w (suc j) m))
      (λ t. opens_wrong Fields.none tt (refusal_9 p (delimited e) (fits-false c t)))
  opens w j (is_line {b} {h} {r} (from_start p q) k o m) =
      opens-end (judge d (settled w (suc j)) 0 (b ∷ h) r) p q (LineEnd.broken k) o (says (settled w (suc j)) (opens (settled w (suc j)) 0 m))

-- what the model says of a source, the grammar and the rules say
pub read-sound : (d : Dialect) (w : Width) (f : Bytes) → Says d w f (read d w f)
unfolding read
read-sound d w [] = reads_none
read-sound d w (b ∷ f) = says w (opens w 0 (sound d (b ∷ f)).at_start)
