-- The laws of a walk over records. Those that need "a walk finds one thing" are in `steps`, which has the machine.
use Prim.Native.Nat.{ℕ, zero, suc, ◌+◌, ◌*◌, ◌-◌, ◌≤◌, ◌<◌}
use native.Mathlib.Omega.{arith}
use mathlib.Core.Path.{◌≡◌, refl, sym, ap, subst, ◌∙◌}
use mathlib.Core.Bool.{Bool, true, false}
use mathlib.Core.Logic.{◌⊎◌, inl, inr}
use mathlib.Core.List.{List, [], ◌∷◌, ◌++◌, append_assoc}
use lib.ListN.{length, get_or, take, drop, length-append}
use lib.Dec.{leb}
use borrow.Author.Tests.{leb-true, leb-false}
use lib.Seq.{take_at, drop_at, get_or_at}
use Rattle.format.specs.Table.{Bytes, Content, Table, Ending, without_break}
use Rattle.format.specs.Dialect.{Dialect}
use Rattle.format.specs.Grammar.{Blanks, Bare, Open, opened, closed, Field, Record, Break, File}
use Rattle.format.specs.House.{LastBreak, EmptyFile}
use Rattle.format.specs.Refusal.{LineEnd, Records}
use Rattle.format.specs.Reading.{Reading}
use Rattle.format.specs.Walk.{Holds, RecordAt, record_at, NoRecord, no_record, FaultBefore, fault_before, index_step, Entries, Index, Usable}
use Rattle.format.proofs.Classes.{LF-is}
use Rattle.format.proofs.Grow.{record-cut, records-cut, records-more}
use Rattle.format.proofs.Refusals.{RestOf}

-- record k of the table t is found in the source f, with its contents; or t has no such record, and there is none
abbrev pub FoundOrNone : Dialect → Bytes → Table → ℕ → Type 0
FoundOrNone d f t k = ((k < length t) × (g h : Bytes) × RecordAt d f k g (get_or t k []) h) ⊎ ((length t ≤ k) × NoRecord d f k)

-- a piece of nothing leaves nothing
cons-nil : {b : ℕ} {f : Bytes} → b ∷ f ≡ [] → ⊥
cons-nil e = let z : ◌≡◌ {A = ℕ} 0 1 = cc in omega arith

module _ {d : Dialect} where
  open-nil : {f g : Bytes} {c : Content} → Open d f c g → f ≡ [] → ⊥
  open-nil (opened e k) n = cons-nil n

  field-nil : {g : Bytes} {c : Content} → Field d [] c g → g ≡ []
  field-nil (Field.bare Blanks.none Bare.none u Blanks.none) = refl
  field-nil (Field.quoted Blanks.none (closed o e) y) = absurd (open-nil o refl)

  pub record-nil : {g : Bytes} {cs : List Content} → Record d [] cs g → g ≡ []
  record-nil (Record.one p) = field-nil p
  record-nil (Record.more p e r) = absurd (cons-nil (field-nil p))

  pub break-nil : {g h : Bytes} → Break d g h → g ≡ [] → ⊥
  break-nil (Break.crlf e k) n = cons-nil n
  break-nil (Break.lf_alone e t) n = cons-nil n

  -- a record with its line break is not nothing
  some-before : {f g h : Bytes} {cs : List Content} → Record d f cs g → Break d g h → f ≡ [] → ⊥
  some-before {g} {cs} r k e = break-nil k (record-nil (subst (λ (x : Bytes). Record d x cs g) e r))

  -- no file of records is empty
  pub file-nil : {t : Table} {e : Ending} → File d [] t e → LastBreak e → ⊥
  file-nil (File.one r) l = l
  file-nil (File.ended r k) l = break-nil k (record-nil r)
  file-nil (File.more r k p) l = break-nil k (record-nil r)

  -- a record before a source, and the last one
  pub holds_more : {f g h : Bytes} {cs : List Content} {t : Table} → Record d f cs g → Break d g h → Holds d h t → Holds d f (cs ∷ t)
  holds_more r k (Holds.nothing EmptyFile.empty) = Holds.something (File.ended r k) tt
  holds_more r k (Holds.something p l) = Holds.something (File.more r k p) l

  pub holds-last : {g : Bytes} {cs : List Content} (f : Bytes) → (f ≡ [] → ⊥) → Record d f cs g → LineEnd d g [] → Holds d f (cs ∷ [])
  holds-last [] n r l = absurd (n refl)
  holds-last (b ∷ f) n r LineEnd.end = Holds.something (File.one r) tt
  holds-last (b ∷ f) n r (LineEnd.broken k) = Holds.something (File.ended r k) tt

  -- where something follows a record, it ends in a line break, which is shorter than what it stands before
  pub line-broken : {g h : Bytes} → LineEnd d g h → (h ≡ [] → ⊥) → Break d g h
  line-broken LineEnd.end n = absurd (n refl)
  line-broken (LineEnd.broken k) n = k

  pub break-shorter : {g h : Bytes} → Break d g h → length h < length g
  break-shorter (Break.crlf e k) = omega arith
  break-shorter (Break.lf_alone e t) = omega arith

  -- a record has a byte at least
  pub records-shorter : {f g : Bytes} {t : Table} → Records d f t g → length g + length t ≤ length f
  records-shorter Records.none = omega arith
  records-shorter (Records.more {g} r k x) =
      let (s, q, _) = record-cut d g [] r refl in
      omega (arith, ap length q, length-append s g, break-shorter k, records-shorter x)

  pub holds-behind : {f g : Bytes} {t u : Table} → Records d f t g → Holds d g u → Holds d f (t ++ u)
  holds-behind Records.none h = h
  holds-behind (Records.more r k x) h = holds_more r k (holds-behind x h)

  pub reading-holds : {f : Bytes} {t : Table} {r : ℕ} → Reading d f t r → Holds d f t
  reading-holds (Reading.nothing e) = Holds.nothing e
  reading-holds (Reading.something p l a q) = Holds.something p l

  -- behind some records a walk finds what one from there finds
  module _ {f g : Bytes} {t : Table} {j k : ℕ} (r : Records d f t g) (e : length t + j ≡ k) where
    pub record-later : {h i : Bytes} {cs : List Content} → RecordAt d g j h cs i → RecordAt d f k h cs i
    record-later (record_at {t = u} s q x l) = record_at (records-more d r s) (omega (arith, length-append t u)) x l

    pub fault-later : FaultBefore d g j → FaultBefore d f k
    fault-later (fault_before {t = u} s q x y) = fault_before (records-more d r s) (omega (arith, length-append t u)) x y

    pub none-later : NoRecord d g j → NoRecord d f k
    none-later (no_record {t = u} h q) = no_record (holds-behind r h) (omega (arith, length-append t u))

  -- a record is found where a byte is left
  pub found_at :
      {f h i : Bytes} {t : Table} {cs : List Content} {k : ℕ} (g : Bytes)
      → (g ≡ [] → ⊥) → Records d f t g → length t ≡ k → Record d g cs h → LineEnd d h i → RecordAt d f k g cs h
  found_at [] n r e x l = absurd (n refl)
  found_at (b ∷ g) n r e x l = record_at r e x l

  -- what is held, a walk finds
  first-at : {g h : Bytes} {cs : List Content} (f : Bytes) → (f ≡ [] → ⊥) → Record d f cs g → LineEnd d g h → RecordAt d f 0 f cs g
  first-at f n r l = found_at f n Records.none refl r l

  file-record : {f : Bytes} {t : Table} {e : Ending} → File d f t e → LastBreak e → (k : ℕ) → k < length t → (g h : Bytes) × RecordAt d f k g (get_or t k []) h
  file-record {f} (File.one r) l zero n = (f, [], first-at f (λ e. subst (λ (x : Bytes). LastBreak (without_break x)) e l) r LineEnd.end)
  file-record (File.one r) l (suc k) n = absurd (omega arith)
  file-record {f} (File.ended {g} r x) l zero n = (f, g, first-at f (λ e. some-before r x e) r (LineEnd.broken x))
  file-record (File.ended r x) l (suc k) n = absurd (omega arith)
  file-record {f} (File.more {g} r x p) l zero n = (f, g, first-at f (λ e. some-before r x e) r (LineEnd.broken x))
  file-record (File.more r x p) l (suc k) n =
      let (g, h, y) = file-record p l k (omega arith) in
      (g, h, record-later {k = suc k} (Records.more r x Records.none) (omega arith) y)

  holds-record : {f : Bytes} {t : Table} → Holds d f t → (k : ℕ) → k < length t → (g h : Bytes) × RecordAt d f k g (get_or t k []) h
  holds-record (Holds.nothing EmptyFile.empty) k n = absurd (omega arith)
  holds-record (Holds.something p l) k n = file-record p l k n

  -- so record k is found or there is none
  pub holds-either : {f : Bytes} {t : Table} → Holds d f t → (k : ℕ) → FoundOrNone d f t k
  holds-either {f} {t} h k = by (leb (length t) k) refl
    where
      by : (y : Bool) → leb (length t) k ≡ y → FoundOrNone d f t k
      by true e = let n = leb-true (length t) k e in inr (n, no_record h n)
      by false e = let n = leb-false (length t) k e in let (g, i, x) = holds-record h k n in inl (n, g, i, x)

-- a rest of a source is no longer, and is what stands from its offset on
pub rest-length : {f g : Bytes} → RestOf f g → length g ≤ length f
rest-length {f} {g} (s, q) = omega (arith, ap length q, length-append s g)

pub rest-drop : {f g : Bytes} → RestOf f g → drop (length f - length g) f ≡ g
rest-drop {f} {g} (s, q) =
    let n : length s ≡ length f - length g = omega (arith, ap length q, length-append s g) in
    ap (drop (length f - length g)) q ∙ drop_at s g (length f - length g) n

module _ {d : Dialect} where
  -- where a record stands: its part is in the source, and reads as that record alone
  pub record-from : {f g h : Bytes} {cs : List Content} {k : ℕ} → RecordAt d f k g cs h → RestOf f g
  record-from (record_at {b} {g} r e x l) = let (s, q, _) = records-cut d (b ∷ g) [] r refl in (s, q)

  pub record-to : {f g h : Bytes} {cs : List Content} {k : ℕ} → RecordAt d f k g cs h → RestOf g h
  record-to (record_at {h} r e x l) = let (s, q, _) = record-cut d h [] x refl in (s, q)

  pub record-part : {f g h : Bytes} {cs : List Content} {k : ℕ} → RecordAt d f k g cs h → Record d (take (length g - length h) g) cs []
  record-part (record_at {b} {g} {h} {cs} r e x l) =
      let (s, q, y) = record-cut d h [] x refl in
      let n : length s ≡ length (b ∷ g) - length h = omega (arith, ap length q, length-append s h) in
      let z : take (length (b ∷ g) - length h) (b ∷ g) ≡ s = ap (take (length (b ∷ g) - length h)) q ∙ take_at s h (length (b ∷ g) - length h) n in
      subst (λ (l : Bytes). Record d l cs []) (sym z) y

  -- whole records stand before it, and its beginning is the source's own, or straight behind an LF
  pub record-behind : {f g h : Bytes} {cs : List Content} {k : ℕ} → RecordAt d f k g cs h → (t : Table) × Records d f t g × (length t ≡ k)
  record-behind (record_at {t} r e x l) = (t, r, e)

  -- what stands behind whole records is the source itself, or stands straight behind an LF
  records-behind : {f g : Bytes} {t : Table} → Records d f t g → (f ≡ g) ⊎ ((s : Bytes) × (f ≡ s ++ (0x0A ∷ g)))
  records-behind Records.none = inl refl
  records-behind (Records.more {h} r k x) = inr (onward (line-feed r k) (records-behind x))
    where
      line-feed : {f g h : Bytes} {cs : List Content} → Record d f cs g → Break d g h → (s : Bytes) × (f ≡ s ++ (0x0A ∷ h))
      line-feed r (Break.crlf {a} {b} {g} j k) =
          let (s, q, _) = record-cut d (a ∷ b ∷ g) [] r refl in
          (s ++ (a ∷ []), q ∙ (sym (append_assoc s (a ∷ []) (b ∷ g)) ∙ ap (λ (n : ℕ). (s ++ (a ∷ [])) ++ (n ∷ g)) (LF-is d b k)))
      line-feed r (Break.lf_alone {b} {g} j k) =
          let (s, q, _) = record-cut d (b ∷ g) [] r refl in (s, q ∙ ap (λ (n : ℕ). s ++ (n ∷ g)) (LF-is d b j))

      onward : {f h g : Bytes} → (s : Bytes) × (f ≡ s ++ (0x0A ∷ h)) → (h ≡ g) ⊎ ((s : Bytes) × (h ≡ s ++ (0x0A ∷ g))) → (s : Bytes) × (f ≡ s ++ (0x0A ∷ g))
      onward (s, q) (inl e) = (s, q ∙ ap (λ (l : Bytes). s ++ (0x0A ∷ l)) e)
      onward {g} (s, q) (inr (z, e)) = (s ++ (0x0A ∷ z), q ∙ (ap (λ (l : Bytes). s ++ (0x0A ∷ l)) e ∙ sym (append_assoc s (0x0A ∷ z) (0x0A ∷ g))))

  pub records-usable : {f g : Bytes} {t : Table} → Records d f t g → Usable f (length f - length g)
  records-usable {f} {g} r = by (records-behind r)
    where
      by : (f ≡ g) ⊎ ((s : Bytes) × (f ≡ s ++ (0x0A ∷ g))) → Usable f (length f - length g)
      by (inl e) = record { within = omega arith; behind_lf = λ n. absurd (omega (arith, ap length e)) }
      by (inr (s, q)) =
          let n : length s ≡ length f - length g - 1 = omega (arith, ap length q, length-append s (0x0A ∷ g)) in
          record { within = omega arith; behind_lf = λ h. ap (λ (l : Bytes). get_or l (length f - length g - 1) 0) q ∙ get_or_at s 0x0A g 0 (length f - length g - 1) n }

  -- what holds a table has an index
  some-entries : {f : Bytes} {t : Table} → Holds d f t → (n j : ℕ) → length t ≤ (j + n) * index_step → (es : List ℕ) × Entries d f j es
  some-entries h zero j l = ([], Entries.none {j = j} (no_record h (omega arith)))
  some-entries {f} {t} h (suc n) j l = by (holds-either h (j * index_step)) (some-entries h n (suc j) (omega arith))
    where
      by : FoundOrNone d f t (j * index_step) → (es : List ℕ) × Entries d f (suc j) es → (es : List ℕ) × Entries d f j es
      by (inl (m, g, i, x)) (es, y) = ((length f - length g) ∷ es, Entries.entry x y)
      by (inr (m, x)) y = ([], Entries.none x)

  pub some_index : {f : Bytes} {t : Table} → Holds d f t → (es : List ℕ) × Index d f es
  some_index {t} h = some-entries h (length t) 0 (omega arith)

  -- the empty file's has no entry
  pub empty-index : Index d [] []
  empty-index = Entries.none {j = 0} (no_record (Holds.nothing EmptyFile.empty) (omega arith))

  -- and what has an index holds a table
  pub entries-hold : {f : Bytes} {j : ℕ} {es : List ℕ} → Entries d f j es → (t : Table) × Holds d f t
  entries-hold (Entries.none (no_record {t} h n)) = (t, h)
  entries-hold (Entries.entry x y) = entries-hold y

  -- the entry of a number is where its record begins
  pub entry_at :
      {f : Bytes} {j : ℕ} {es : List ℕ} → Entries d f j es → (i : ℕ) → i < length es
      → (g h : Bytes) × (cs : List Content) × RecordAt d f ((j + i) * index_step) g cs h × (get_or es i 0 ≡ length f - length g)
  entry_at (Entries.none n) i l = absurd (omega arith)
  entry_at {f} {j} (Entries.entry {g} {h} {cs} x y) zero l = (g, h, cs, subst (λ (k : ℕ). RecordAt d f (k * index_step) g cs h) (omega arith) x, refl)
  entry_at {f} {j} (Entries.entry x y) (suc i) l =
      let (g, h, cs, z, e) = entry_at y i (omega arith) in
      (g, h, cs, subst (λ (k : ℕ). RecordAt d f (k * index_step) g cs h) (omega arith) z, e)
