-- A walk over records by the model: where the first record of a source ends, and that a walk finds one thing.
use Prim.Native.Nat.{ℕ, zero, suc, ◌+◌, ◌*◌, ◌-◌, ◌/◌, ◌≤◌, ◌<◌}
use native.Mathlib.Omega.{arith}
use mathlib.Core.Path.{◌≡◌, refl, sym, ap, ◌∙◌}
use mathlib.Core.Bool.{cond, ◌||◌}
use mathlib.Core.Logic.{◌⊎◌, inl, inr}
use mathlib.Core.List.{List, [], ◌∷◌}
use lib.Dec.{eqb, leb}
use lib.ListN.{length}
use borrow.Author.Tests.{ne_eqb, le-leb}
use Rattle.format.specs.Table.{Bytes, Content, Table, Ending, without_break}
use Rattle.format.specs.Dialect.{lf, Dialect, delimiter, class_of}
use Rattle.format.specs.Grammar.{Field, Record, Break, File}
use Rattle.format.specs.House.{LastBreak, EmptyFile}
use Rattle.format.specs.Count.{alone}
use Rattle.format.specs.Refusal.{LineEnd, Fields, Records}
use Rattle.format.specs.Walk.{Holds, RecordAt, record_at, NoRecord, no_record, FieldFault, FaultBefore, fault_before, index_step, Entries, Index}
use Rattle.format.proofs.Walk.{FoundOrNone, record-nil, break-nil, found_at, holds-either}
use Rattle.steps.specs.Steps.{Form, start, lead, bare, quoted, shut, tail, cr, nothing, put, hold, drop, field_end, record_end, Act, refuse, go, step_of}
use Rattle.steps.specs.Model.{Cell, Trace, refused, last, field, line, change, ending, anchor, seen, doing, closing, run}
use Rattle.steps.specs.Numbers.{form_number, form_of}
use Rattle.steps.proofs.Acts.{run_end, run-byte}
use Rattle.steps.proofs.Complete.{at_end, fields, field-then, break-stops, break-ending}
use Rattle.steps.proofs.Faults.{field-refused}
use Rattle.steps.proofs.Sound.{Wrong, in_3, in_8, in_5, in_5_quote, start_4, start_open, Bad, bad_3, bad_6, bad_7, Means, is_wrong, is_bad, is_last, is_ended, is_field, is_line, from_start, sound, wrong-refusal, bad-refusal}

-- how the first record of a source ends: in a fault, or at a place, with what is left behind its line break
pub data End : Type 0 where
  faulty : End
  ended : Bytes → Bytes → End

abbrev pub first_end : Trace → End
first_end (refused n a p) = faulty
first_end (last x l a) = ended a []
first_end (field x a g r) = first_end r
first_end (line x l a g r) = ended a g

-- the two are not one
ended-faulty : {g h : Bytes} → ended g h ≡ faulty → ⊥
ended-faulty e = let z : ◌≡◌ {A = ℕ} 0 1 = cc in omega arith

end-change : (φ : Cell → Cell) (r : Trace) → first_end (change φ r) ≡ first_end r
end-change φ (refused n a p) = refl
end-change φ (last x l a) = refl
end-change φ (field x a g r) = refl
end-change φ (line x l a g r) = refl

end-ending : (l : ℕ) (a f : Bytes) (r : Trace) → first_end (ending l a f r) ≡ ended a f
end-ending l a [] r = refl
end-ending l a (b ∷ f) r = refl

-- one byte after the other: what an act in the form k with the anchor p makes of it, at the byte b before f; r is what f gives
abbrev pub end_by : Act → Form → ℕ → Bytes → Bytes → (Form → Bytes → End) → End
end_by (refuse n) k b f p r = faulty
end_by (go j nothing) k b f p r = r j (anchor k j (b ∷ f) p)
end_by (go j put) k b f p r = r j (anchor k j (b ∷ f) p)
end_by (go j hold) k b f p r = r j (anchor k j (b ∷ f) p)
end_by (go j drop) k b f p r = r j (anchor k j (b ∷ f) p)
end_by (go j field_end) k b f p r = r start []
end_by (go j record_end) k b f p r = ended (seen k (b ∷ f) p) f

end-doing : (a : Act) (k : Form) (b : ℕ) (f p : Bytes) (r : Form → Bytes → Trace) → first_end (doing a k b f p r) ≡ end_by a k b f p (λ j q. first_end (r j q))
end-doing (refuse n) k b f p r = refl
end-doing (go j nothing) k b f p r = refl
end-doing (go j put) k b f p r = end-change _ (r j (anchor k j (b ∷ f) p))
end-doing (go j hold) k b f p r = end-change _ (r j (anchor k j (b ∷ f) p))
end-doing (go j drop) k b f p r = end-change _ (r j (anchor k j (b ∷ f) p))
end-doing (go j field_end) k b f p r = refl
end-doing (go j record_end) k b f p r = end-ending _ (seen k (b ∷ f) p) f (r start [])

-- at the file's length
abbrev pub end_at : Form → End
end_at start = ended [] []
end_at lead = ended [] []
end_at bare = ended [] []
end_at quoted = faulty
end_at shut = ended [] []
end_at tail = ended [] []
end_at cr = faulty

end-closing : (k : Form) (p : Bytes) → first_end (closing k p) ≡ end_at k
end-closing start p = refl
end-closing lead p = refl
end-closing bare p = refl
end-closing quoted p = refl
end-closing shut p = refl
end-closing tail p = refl
end-closing cr p = refl

-- which the form's number tells
pub end-number : (n : ℕ) → end_at (form_of n) ≡ cond (eqb n (form_number quoted) || leb (form_number cr) n) faulty (ended [] [])
unfolding form_of
end-number zero = refl
end-number (suc zero) = refl
end-number (suc (suc zero)) = refl
end-number (suc (suc (suc zero))) = refl
end-number (suc (suc (suc (suc zero)))) = refl
end-number (suc (suc (suc (suc (suc zero))))) = refl
end-number (suc (suc (suc (suc (suc (suc n)))))) = rw (ne_eqb (suc (suc (suc (suc (suc (suc n)))))) 3 (omega arith), le-leb 6 (suc (suc (suc (suc (suc (suc n)))))) (omega arith))

-- what is wrong in a field, or behind it, is no content over the limit
inside-not-9 : {d : Dialect} {n : ℕ} {p f found named : Bytes} → Wrong d quoted p n f found named → n ≡ 9 → ⊥
inside-not-9 (in_3 k q) e = omega (arith, e)
inside-not-9 (in_8 k) e = omega (arith, e)
inside-not-9 (in_5 k q x t) e = omega (arith, e)
inside-not-9 (in_5_quote k q v x t) e = omega (arith, e)

wrong-not-9 : {d : Dialect} {n : ℕ} {p f found named : Bytes} → Wrong d start p n f found named → n ≡ 9 → ⊥
wrong-not-9 (start_4 w t k q) e = omega (arith, e)
wrong-not-9 (start_open w q z) e = inside-not-9 z e

bad-not-9 : {d : Dialect} {n : ℕ} {a : Bytes} → Bad d n a → n ≡ 9 → ⊥
bad-not-9 (bad_3 q) e = omega (arith, e)
bad-not-9 (bad_6 q l) e = omega (arith, e)
bad-not-9 (bad_7 q l) e = omega (arith, e)

wrong-fault : {d : Dialect} {n : ℕ} {p f found named : Bytes} → Wrong d start p n f found named → FieldFault d n f found named
wrong-fault x = (wrong-refusal x, wrong-not-9 x)

bad-fault : {d : Dialect} {n : ℕ} {f a : Bytes} {c : Content} → Field d f c a → Bad d n a → FieldFault d n f a a
bad-fault p x = (bad-refusal p x, bad-not-9 x)

-- a fault is the model's refusal
fault-refused : (d : Dialect) {n : ℕ} {f found named : Bytes} → FieldFault d n f found named → run d f start [] ≡ refused n found named
fault-refused d (x, u) =
    field-refused d (λ n f found named. (n ≡ 9 → ⊥) → run d f start [] ≡ refused n found named) (λ n f a q e u. e) (λ f g c p e l u. absurd (u refl)) x u

-- how the first record ends, by the grammar
pub data Ends (d : Dialect) (f : Bytes) : End → Type 0 where
  by_fault : {n : ℕ} {g found named : Bytes} {cs : List Content} → Fields d f cs g → FieldFault d n g found named → Ends d f faulty
  by_line : {g h : Bytes} {cs : List Content} → Record d f cs g → LineEnd d g h → Ends d f (ended g h)

module _ (d : Dialect) where
  -- from a form in a field on, with an anchor
  unfoldable pub end_from : Bytes → Form → Bytes → End
  end_from f k p = first_end (run d f k p)

  pub end-end : (k : Form) (p : Bytes) → end_from [] k p ≡ end_at k
  unfolding end_from
  end-end k p = ap first_end (run_end d k p) ∙ end-closing k p

  pub end-byte : (b : ℕ) (f : Bytes) (k : Form) (p : Bytes) → end_from (b ∷ f) k p ≡ end_by (step_of (d.allows lf) k (class_of d b)) k b f p (λ j q. end_from f j q)
  unfolding end_from
  end-byte b f k p = ap first_end (run-byte d b f k p) ∙ end-doing (step_of (d.allows lf) k (class_of d b)) k b f p (λ j q. run d f j q)

  beside : {b : ℕ} {f g : Bytes} {c : Content} {e : End} → Field d f c (b ∷ g) → class_of d b ≡ delimiter → Ends d g e → Ends d f e
  beside p q (by_fault x y) = by_fault (Fields.more p q x) y
  beside p q (by_line r l) = by_line (Record.more p q r) l

  means-end : {f : Bytes} {r : Trace} → Means d start [] f r → Ends d f (first_end r)
  means-end (is_wrong w) = by_fault Fields.none (wrong-fault w)
  means-end (is_bad (from_start p q) w) = by_fault Fields.none (bad-fault p w)
  means-end (is_last (from_start p q)) = by_line (Record.one p) LineEnd.end
  means-end (is_ended (from_start p q) k o) = by_line (Record.one p) (LineEnd.broken k)
  means-end (is_field (from_start p q) e m) = beside p e (means-end m)
  means-end (is_line (from_start p q) k o m) = by_line (Record.one p) (LineEnd.broken k)

  -- the model's end is the grammar's
  pub end_is : (f : Bytes) → Ends d f (end_from f start [])
  unfolding end_from
  end_is f = means-end (sound d f).at_start

  -- and the grammar's is the model's
  fields-end : {f g : Bytes} {cs : List Content} {e : End} → Fields d f cs g → end_from g start [] ≡ e → end_from f start [] ≡ e
  unfolding end_from
  fields-end Fields.none h = h
  fields-end (Fields.more p q x) h = ap first_end (field-then d p q) ∙ fields-end x h

  fault-end : {n : ℕ} {f g found named : Bytes} {cs : List Content} → Fields d f cs g → FieldFault d n g found named → end_from f start [] ≡ faulty
  unfolding end_from
  fault-end x y = fields-end x (ap first_end (fault-refused d y))

  field-line : {f g h : Bytes} {c : Content} → Field d f c g → LineEnd d g h → end_from f start [] ≡ ended g h
  unfolding end_from
  field-line p LineEnd.end = ap first_end (fields d p at_end) ∙ (end-change _ (run d [] tail []) ∙ end-end tail [])
  field-line {g} {h} p (LineEnd.broken k) =
      ap first_end (fields d p (break-stops d k)) ∙ (end-change _ (run d g tail []) ∙ (ap first_end (break-ending d k) ∙ end-ending (alone k) g h (run d h start [])))

  line-end : {f g h : Bytes} {cs : List Content} → Record d f cs g → LineEnd d g h → end_from f start [] ≡ ended g h
  unfolding end_from
  line-end (Record.one p) l = field-line p l
  line-end (Record.more p q r) l = ap first_end (field-then d p q) ∙ line-end r l

-- what a walk finds that looks for a record: a fault before its end, no such record, or where it begins and ends
data Went : Type 0 where
  fault none : Went
  stands : Bytes → Bytes → Went

-- by the end of the record that begins at f: it is the one asked for, or it is passed and r is what comes behind it. Where no byte is left, there is no record.
abbrev found : Bytes → End → Went
found [] e = none
found (b ∷ f) faulty = fault
found (b ∷ f) (ended g h) = stands (b ∷ f) g

abbrev onward : Bytes → End → (Bytes → Went) → Went
onward [] e r = none
onward (b ∷ f) faulty r = fault
onward (b ∷ f) (ended g h) r = r h

module _ (d : Dialect) where
  -- k records are passed before the one asked for
  unfoldable walk : ℕ → Bytes → Went
  walk zero f = found f (end_from d f start [])
  walk (suc k) f = onward f (end_from d f start []) (λ h. walk k h)

  walk-nothing : (k : ℕ) → walk k [] ≡ none
  unfolding walk
  walk-nothing zero = refl
  walk-nothing (suc k) = refl

  walk_here : {b : ℕ} {f g h : Bytes} {cs : List Content} → Record d (b ∷ f) cs g → LineEnd d g h → walk zero (b ∷ f) ≡ stands (b ∷ f) g
  unfolding walk
  walk_here {b} {f} r l = ap (found (b ∷ f)) (line-end d r l)

  walk-on : {b : ℕ} {f g h : Bytes} {cs : List Content} → Record d (b ∷ f) cs g → LineEnd d g h → (k : ℕ) → walk (suc k) (b ∷ f) ≡ walk k h
  unfolding walk
  walk-on {b} {f} r l k = ap (λ (e : End). onward (b ∷ f) e (λ h. walk k h)) (line-end d r l)

  walk-fault : {b n : ℕ} {f g found named : Bytes} {cs : List Content} → Fields d (b ∷ f) cs g → FieldFault d n g found named → (k : ℕ) → walk k (b ∷ f) ≡ fault
  unfolding walk
  walk-fault {b} {f} x y zero = ap (found (b ∷ f)) (fault-end d x y)
  walk-fault {b} {f} x y (suc k) = ap (λ (e : End). onward (b ∷ f) e (λ h. walk k h)) (fault-end d x y)

  -- the same of a source that is not known to have a byte
  pass : {f g h : Bytes} {cs : List Content} → Record d f cs g → Break d g h → (k : ℕ) → walk (suc k) f ≡ walk k h
  pass {f = []} r x k = absurd (break-nil x (record-nil r))
  pass {f = b ∷ f} r x k = walk-on r (LineEnd.broken x) k

  meets : {n : ℕ} {f g i j : Bytes} {cs : List Content} → Fields d f cs g → FieldFault d n g i j → (k : ℕ) → walk k f ≡ fault
  meets {f = []} x y k = let z : end_at start ≡ faulty = sym (end-end d start []) ∙ fault-end d x y in absurd (ended-faulty z)
  meets {f = b ∷ f} x y k = walk-fault x y k

  records-walk : {f g : Bytes} {t : Table} {k : ℕ} (j : ℕ) → Records d f t g → length t + j ≡ k → walk k f ≡ walk j g
  records-walk {f} j Records.none e = ap (λ (i : ℕ). walk i f) (omega (arith, e))
  records-walk {f} j (Records.more {t} r x y) e =
      ap (λ (i : ℕ). walk i f) (omega (arith, e)) ∙ (pass r x (length t + j) ∙ records-walk j y refl)

  -- the grammar's walk is this one
  record-walk : {f g h : Bytes} {cs : List Content} {k : ℕ} → RecordAt d f k g cs h → walk k f ≡ stands g h
  record-walk (record_at r e x l) = records-walk 0 r (omega (arith, e)) ∙ walk_here x l

  before-walk : {f : Bytes} {k : ℕ} → FaultBefore d f k → walk k f ≡ fault
  before-walk {k} (fault_before {t} r e x y) = records-walk (k - length t) r (omega arith) ∙ meets x y (k - length t)

  last-walk : {f : Bytes} {cs : List Content} → Record d f cs [] → LastBreak (without_break f) → (k : ℕ) → walk (suc k) f ≡ none
  last-walk {f = []} r l k = absurd l
  last-walk {f = b ∷ f} r l k = walk-on r LineEnd.end k ∙ walk-nothing k

  file-walk : {f : Bytes} {t : Table} {e : Ending} → File d f t e → LastBreak e → (k : ℕ) → length t ≤ k → walk k f ≡ none
  file-walk (File.one r) l zero n = absurd (omega arith)
  file-walk (File.one r) l (suc k) n = last-walk r l k
  file-walk (File.ended r x) l zero n = absurd (omega arith)
  file-walk (File.ended r x) l (suc k) n = pass r x k ∙ walk-nothing k
  file-walk (File.more r x p) l zero n = absurd (omega arith)
  file-walk (File.more r x p) l (suc k) n = pass r x k ∙ file-walk p l k (omega arith)

  none_walk : {f : Bytes} {k : ℕ} → NoRecord d f k → walk k f ≡ none
  none_walk {k} (no_record (Holds.nothing EmptyFile.empty) n) = walk-nothing k
  none_walk {k} (no_record (Holds.something p l) n) = file-walk p l k n

  -- A walk finds one thing: a record at one place, no such record, or a fault before its end.
  pub one-record : {f g h i j : Bytes} {cs es : List Content} {k : ℕ} → RecordAt d f k g cs h → RecordAt d f k i es j → (g ≡ i) × (h ≡ j)
  one-record x y = (cc (record-walk x, record-walk y), cc (record-walk x, record-walk y))

  pub record-not-none : {f g h : Bytes} {cs : List Content} {k : ℕ} → RecordAt d f k g cs h → NoRecord d f k → ⊥
  record-not-none x y = let z : ◌≡◌ {A = ℕ} 0 1 = cc (record-walk x, none_walk y) in omega arith

  pub record-not-fault : {f g h : Bytes} {cs : List Content} {k : ℕ} → RecordAt d f k g cs h → FaultBefore d f k → ⊥
  record-not-fault x y = let z : ◌≡◌ {A = ℕ} 0 1 = cc (record-walk x, before-walk y) in omega arith

  pub none-not-fault : {f : Bytes} {k : ℕ} → NoRecord d f k → FaultBefore d f k → ⊥
  none-not-fault x y = let z : ◌≡◌ {A = ℕ} 0 1 = cc (none_walk x, before-walk y) in omega arith

  -- of a source that holds a table: its records are found, and no others, and no fault
  pub record-below : {f g h : Bytes} {t : Table} {cs : List Content} {k : ℕ} → Holds d f t → RecordAt d f k g cs h → k < length t
  record-below {f} {t} {k} h x = by (holds-either h k)
    where
      by : FoundOrNone d f t k → k < length t
      by (inl (l, g, i, y)) = l
      by (inr (l, y)) = absurd (record-not-none x y)

  pub none_above : {f : Bytes} {t : Table} {k : ℕ} → Holds d f t → NoRecord d f k → length t ≤ k
  none_above {f} {t} {k} h x = by (holds-either h k)
    where
      by : FoundOrNone d f t k → length t ≤ k
      by (inl (l, g, i, y)) = absurd (record-not-none y x)
      by (inr (l, y)) = l

  pub no-fault : {f : Bytes} {t : Table} {k : ℕ} → Holds d f t → FaultBefore d f k → ⊥
  no-fault {f} {t} {k} h x = by (holds-either h k)
    where
      by : FoundOrNone d f t k → ⊥
      by (inl (l, g, i, y)) = record-not-fault y x
      by (inr (l, y)) = none-not-fault y x

  -- behind whole records, a byte that is left begins a record
  pub next-record : {f g : Bytes} {t u : Table} {k : ℕ} → Holds d f u → Records d f t g → length t ≡ k → (g ≡ [] → ⊥) → (h : Bytes) × (cs : List Content) × RecordAt d f k g cs h
  next-record {f} {g} {k} h r e n = by (end_is d g)
    where
      by : {i : End} → Ends d g i → (h : Bytes) × (cs : List Content) × RecordAt d f k g cs h
      by (by_fault x y) = absurd (no-fault {k = k} h (fault_before r (omega (arith, e)) x y))
      by (by_line {g = i} {cs} x l) = (i, cs, found_at g n r e x l)

  -- the index of a file is one
  pub one-entries : {f : Bytes} {j : ℕ} {es us : List ℕ} → Entries d f j es → Entries d f j us → es ≡ us
  one-entries (Entries.none x) (Entries.none y) = refl
  one-entries (Entries.none x) (Entries.entry y v) = absurd (record-not-none y x)
  one-entries (Entries.entry x u) (Entries.none y) = absurd (record-not-none x y)
  one-entries {f} (Entries.entry x u) (Entries.entry y v) =
      let e = (one-record x y).0 in λ i. (length f - length (e i)) ∷ one-entries u v i

  -- from where its records end on, it has no entry
  pub entries-end : {f : Bytes} {t : Table} {j : ℕ} {es : List ℕ} → Holds d f t → length t ≤ j * index_step → Entries d f j es → es ≡ []
  entries-end h l (Entries.none x) = refl
  entries-end h l (Entries.entry x y) = absurd (omega (arith, record-below h x))

  -- it has an entry for each 64 records, or what is left of them
  pub entries-cover : {f : Bytes} {t : Table} {j : ℕ} {es : List ℕ} → Holds d f t → Entries d f j es → length t ≤ (j + length es) * index_step
  entries-cover h (Entries.none x) = omega (arith, none_above h x)
  entries-cover h (Entries.entry x u) = omega (arith, entries-cover h u)

  entries-need : {f : Bytes} {t : Table} {j : ℕ} {es : List ℕ} → Holds d f t → Entries d f j es → (j + length es) * index_step < length t + index_step ⊎ (es ≡ [])
  entries-need h (Entries.none x) = inr refl
  entries-need {t} {j} h (Entries.entry {es} x u) = inl (by (entries-need h u))
    where
      by : (suc j + length es) * index_step < length t + index_step ⊎ (es ≡ []) → (j + suc (length es)) * index_step < length t + index_step
      by (inl l) = omega (arith, l)
      by (inr e) = omega (arith, record-below h x, ap length e)

  pub entries-count : {f : Bytes} {t : Table} {es : List ℕ} → Holds d f t → Index d f es → length es ≡ (length t + index_step - 1) / index_step
  entries-count {t} {es} h x = by (entries-need h x)
    where
      by : (0 + length es) * index_step < length t + index_step ⊎ (es ≡ []) → length es ≡ (length t + index_step - 1) / index_step
      by (inl l) = omega (arith, l, entries-cover h x)
      by (inr e) = omega (arith, ap length e, entries-cover h x)
