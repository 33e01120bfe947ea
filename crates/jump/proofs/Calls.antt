-- The laws for a caller.
use Prim.Native.Nat.{ℕ, ◌+◌, ◌-◌, ◌/◌, ◌%◌, ◌≤◌, ◌<◌}
use native.Mathlib.Omega.{arith}
use mathlib.Core.Path.{◌≡◌, refl, sym, ap, subst, ◌∙◌}
use mathlib.Core.Logic.{◌⊎◌, inl, inr}
use mathlib.Core.List.{List, [], ◌++◌}
use lib.ListN.{length, get_or, take, drop, length-drop, take-append-drop}
use Rattle.format.specs.declared.Indexed.{Indexed}
use Rattle.format.specs.declared.Jumped.{Jumped}
use Rattle.format.specs.Table.{Bytes, Content, Table}
use Rattle.format.specs.Dialect.{Dialect, dialect, Valid}
use Rattle.format.specs.House.{file_limit}
use Rattle.format.specs.Grammar.{Record}
use Rattle.format.specs.Refusal.{Records}
use Rattle.format.specs.Reading.{Accepted}
use Rattle.format.specs.Walk.{Holds, RecordAt, index_step, Index, Usable}
use Rattle.format.specs.Answer.{indexed_by, unindexed, lies_at, lies_nowhere}
use Rattle.format.specs.Filling.{over}
use Rattle.format.proofs.Numbers.{refused-number}
use Rattle.format.proofs.Room.{room-enough as read-room}
use Rattle.format.proofs.Walk.{FoundOrNone, reading-holds, holds-either, record-later, fault-later, none-later, rest-length, rest-drop, record-from, record-to, record-part, record-behind, records-usable, entry_at}
use Rattle.steps.proofs.Theorems.{one-refused, never_both}
use Rattle.steps.proofs.Walks.{one-record, record-not-none, record-not-fault, none-not-fault, none_above, no-fault, one-entries, entries-cover, entries-count}
use Rattle.jump.specs.Jump.{IndexOutcome, WalkOutcome, fault, none, found, JumpOutcome, refusal_1, refusal_2, no_entry, wrong_entry, walked, PartOutcome, part}

-- the part lies in the file
walk-within : {d : Dialect} {f g : Bytes} {k : ℕ} {a : Jumped} → length g ≤ length f → WalkOutcome d f g k a → a.start.0 + a.length ≤ length f
walk-within h (fault x) = omega arith
walk-within h (none x) = omega arith
walk-within h (found x) = omega (arith, rest-length (record-from x), rest-length (record-to x))

pub part-within : {b sum k : ℕ} {f : Bytes} {index : List ℕ} {a : Jumped} → JumpOutcome b sum f index k a → a.start.0 + a.length ≤ length f
part-within (refusal_1 v) = omega arith
part-within (refusal_2 v l) = omega arith
part-within (no_entry v l n) = omega arith
part-within (wrong_entry v l n u) = omega arith
part-within {k} {f} {index} (walked v l n u w) = walk-within (omega (arith, length-drop (get_or index (k / index_step) 0) f)) w

-- any two outcomes coincide
module _ {b sum : ℕ} {f : Bytes} {index : List ℕ} where
  pub one_index :
      {a c : Indexed} {i j : List ℕ} → IndexOutcome b sum f index a i → IndexOutcome b sum f index c j → (a ≡ c) × (i ≡ j)
  one_index (IndexOutcome.refused x) (IndexOutcome.refused y) = let e = one-refused x y in ((λ z. unindexed (e.0 z) (e.1 z)), refl)
  one_index (IndexOutcome.refused x) (IndexOutcome.no_room y u l) = absurd (never_both y x)
  one_index (IndexOutcome.refused x) (IndexOutcome.built y u l) = absurd (never_both y x)
  one_index (IndexOutcome.no_room x u l) (IndexOutcome.refused y) = absurd (never_both x y)
  one_index (IndexOutcome.no_room x u l) (IndexOutcome.no_room y v m) = (refl, refl)
  one_index (IndexOutcome.no_room x u l) (IndexOutcome.built y v m) = absurd (omega (arith, ap length (one-entries (dialect b sum) u v)))
  one_index (IndexOutcome.built x u l) (IndexOutcome.refused y) = absurd (never_both x y)
  one_index (IndexOutcome.built x u l) (IndexOutcome.no_room y v m) = absurd (omega (arith, ap length (one-entries (dialect b sum) u v)))
  one_index (IndexOutcome.built x u l) (IndexOutcome.built y v m) =
      let e = one-entries (dialect b sum) u v in ((λ z. indexed_by (length (e z))), (λ z. over (e z) index))

  -- a refused call writes nothing; one that is not has built the index of an accepted file
  pub refused-same : {a : Indexed} {index' : List ℕ} → IndexOutcome b sum f index a index' → (a.refusal ≡ 0 → ⊥) → index' ≡ index
  refused-same (IndexOutcome.refused x) n = refl
  refused-same (IndexOutcome.no_room x u l) n = refl
  refused-same (IndexOutcome.built x u l) n = absurd (n refl)

  pub not-refused :
      {a : Indexed} {index' : List ℕ} → IndexOutcome b sum f index a index' → a.refusal ≡ 0
      → (t : Table) × (r : ℕ) × (es : List ℕ) × Accepted b sum f t r × Index (dialect b sum) f es × (a ≡ indexed_by (length es)) × (index' ≡ over es index)
  not-refused (IndexOutcome.refused x) e = absurd (omega (arith, e, refused-number x))
  not-refused (IndexOutcome.no_room x u l) e = absurd (omega (arith, e))
  not-refused (IndexOutcome.built {t} {r} {es} x u l) e = (t, r, es, x, u, refl, refl)

  -- how much room is always enough: an entry for each 64 bytes of the file
  pub room-enough :
      {a : Indexed} {index' : List ℕ} {t : Table} {r : ℕ} → IndexOutcome b sum f index a index' → Accepted b sum f t r
      → (length f + index_step - 1) / index_step ≤ length index → a.refusal ≡ 0
  room-enough (IndexOutcome.refused x) y l = absurd (never_both y x)
  room-enough (IndexOutcome.no_room x u m) y l =
      absurd (omega (arith, entries-count (dialect b sum) (reading-holds x.reading) u, (read-room x.reading).rows))
  room-enough (IndexOutcome.built x u m) y l = refl

module _ (d : Dialect) {f g : Bytes} {k : ℕ} where
  one-walk : {a c : Jumped} → WalkOutcome d f g k a → WalkOutcome d f g k c → a ≡ c
  one-walk (fault x) (fault y) = refl
  one-walk (fault x) (none y) = absurd (none-not-fault d y x)
  one-walk (fault x) (found y) = absurd (record-not-fault d y x)
  one-walk (none x) (fault y) = absurd (none-not-fault d x y)
  one-walk (none x) (none y) = refl
  one-walk (none x) (found y) = absurd (record-not-none d y x)
  one-walk (found x) (fault y) = absurd (record-not-fault d x y)
  one-walk (found x) (none y) = absurd (record-not-none d x y)
  one-walk (found x) (found y) = let e = one-record d x y in λ z. lies_at (length f - length (e.0 z)) (length (e.0 z) - length (e.1 z))

module _ {b sum k : ℕ} {f : Bytes} {index : List ℕ} where
  pub one-jump : {a c : Jumped} → JumpOutcome b sum f index k a → JumpOutcome b sum f index k c → a ≡ c
  one-jump (refusal_1 u) (refusal_1 v) = refl
  one-jump (refusal_1 u) (refusal_2 v l) = absurd (u v)
  one-jump (refusal_1 u) (no_entry v l n) = absurd (u v)
  one-jump (refusal_1 u) (wrong_entry v l n x) = absurd (u v)
  one-jump (refusal_1 u) (walked v l n x y) = absurd (u v)
  one-jump (refusal_2 u i) (refusal_1 v) = absurd (v u)
  one-jump (refusal_2 u i) (refusal_2 v l) = refl
  one-jump (refusal_2 u i) (no_entry v l n) = absurd (omega arith)
  one-jump (refusal_2 u i) (wrong_entry v l n x) = absurd (omega arith)
  one-jump (refusal_2 u i) (walked v l n x y) = absurd (omega arith)
  one-jump (no_entry u i j) (refusal_1 v) = absurd (v u)
  one-jump (no_entry u i j) (refusal_2 v l) = absurd (omega arith)
  one-jump (no_entry u i j) (no_entry v l n) = refl
  one-jump (no_entry u i j) (wrong_entry v l n x) = absurd (omega arith)
  one-jump (no_entry u i j) (walked v l n x y) = absurd (omega arith)
  one-jump (wrong_entry u i j w) (refusal_1 v) = absurd (v u)
  one-jump (wrong_entry u i j w) (refusal_2 v l) = absurd (omega arith)
  one-jump (wrong_entry u i j w) (no_entry v l n) = absurd (omega arith)
  one-jump (wrong_entry u i j w) (wrong_entry v l n x) = refl
  one-jump (wrong_entry u i j w) (walked v l n x y) = absurd (w x)
  one-jump (walked u i j w z) (refusal_1 v) = absurd (v u)
  one-jump (walked u i j w z) (refusal_2 v l) = absurd (omega arith)
  one-jump (walked u i j w z) (no_entry v l n) = absurd (omega arith)
  one-jump (walked u i j w z) (wrong_entry v l n x) = absurd (x w)
  one-jump (walked u i j w z) (walked v l n x y) = one-walk (dialect b sum) z y

  pub one-part : {p q : Bytes} → PartOutcome b sum f index k p → PartOutcome b sum f index k q → p ≡ q
  one-part (part x) (part y) = ap (λ (a : Jumped). take a.length (drop a.start.0 f)) (one-jump x y)

  -- Whatever the index, nothing but the file's own bytes is handed out: the part is one of the file's.
  pub part-of-file : {p : Bytes} → PartOutcome b sum f index k p → (s : Bytes) × (r : Bytes) × (f ≡ s ++ (p ++ r))
  part-of-file (part {a} x) =
      (take a.start.0 f, drop a.length (drop a.start.0 f), sym (ap (λ (l : Bytes). take a.start.0 f ++ l) (take-append-drop a.length (drop a.start.0 f)) ∙ take-append-drop a.start.0 f))

-- every refusal names the empty part at the file's beginning
walk-nowhere : {d : Dialect} {f g : Bytes} {k : ℕ} {c : Jumped} → WalkOutcome d f g k c → (c.refusal ≡ 0 → ⊥) → c ≡ lies_nowhere c.refusal
walk-nowhere (fault x) n = refl
walk-nowhere (none x) n = refl
walk-nowhere (found x) n = absurd (n refl)

module _ {b sum k : ℕ} {f : Bytes} {index : List ℕ} where
  pub refused-nowhere : {c : Jumped} → JumpOutcome b sum f index k c → (c.refusal ≡ 0 → ⊥) → c ≡ lies_nowhere c.refusal
  refused-nowhere (refusal_1 v) n = refl
  refused-nowhere (refusal_2 v l) n = refl
  refused-nowhere (no_entry v l m) n = refl
  refused-nowhere (wrong_entry v l m u) n = refl
  refused-nowhere (walked v l m u w) n = walk-nowhere w n

  -- with a usable entry the walk from it alone is left
  pub usable-walks :
      {c : Jumped} → Valid b sum → length f ≤ file_limit → k / index_step < length index → Usable f (get_or index (k / index_step) 0)
      → JumpOutcome b sum f index k c → WalkOutcome (dialect b sum) f (drop (get_or index (k / index_step) 0) f) (k % index_step) c
  usable-walks v l m u (refusal_1 x) = absurd (x v)
  usable-walks v l m u (refusal_2 x y) = absurd (omega arith)
  usable-walks v l m u (no_entry x y z) = absurd (omega arith)
  usable-walks v l m u (wrong_entry x y z w) = absurd (w u)
  usable-walks v l m u (walked x y z w q) = q

-- With the index built from that very file and dialect: the record of each number is found, where a walk from the beginning finds it, and 18 is given exactly from
-- the number of records on. Limits and equal rows are not asked for.
module _
    {b sum : ℕ} {f : Bytes} {t : Table} {es : List ℕ} (valid : Valid b sum) (short : length f ≤ file_limit) (o : Holds (dialect b sum) f t) (x : Index (dialect b sum) f es) (k : ℕ)
  where
    abbrev pub Own : Jumped → Type 0
    Own c =
        ((k < length t) × (g h : Bytes) × RecordAt (dialect b sum) f k g (get_or t k []) h × (c ≡ lies_at (length f - length g) (length g - length h)))
        ⊎ ((length t ≤ k) × (c ≡ lies_nowhere 18))

    pub own-index : {c : Jumped} → JumpOutcome b sum f es k c → Own c
    own-index (refusal_1 v) = absurd (v valid)
    own-index (refusal_2 v l) = absurd (omega (arith, short))
    own-index (no_entry v l n) = inr (omega (arith, entries-cover (dialect b sum) o x), refl)
    own-index (wrong_entry v l n u) =
        let (g, h, cs, y, e) = entry_at x (k / index_step) n in
        absurd (u (subst (Usable f) (sym e) (records-usable (record-behind y).1)))
    own-index (walked {a = c} v l n u w) =
        let (g, h, cs, y, e) = entry_at x (k / index_step) n in
        let (s, p, i) = record-behind y in
        let q : drop (get_or es (k / index_step) 0) f ≡ g = ap (λ (j : ℕ). drop j f) e ∙ rest-drop (record-from y) in
        on p (omega (arith, i)) (subst (λ (j : Bytes). WalkOutcome (dialect b sum) f j (k % index_step) c) q w)
      where
        at : {g h : Bytes} {cs : List Content} → RecordAt (dialect b sum) f k g cs h → FoundOrNone (dialect b sum) f t k → Own (lies_at (length f - length g) (length g - length h))
        at z (inl (m, i, j, y)) = let e = one-record (dialect b sum) z y in inl (m, i, j, y, (λ o. lies_at (length f - length (e.0 o)) (length (e.0 o) - length (e.1 o))))
        at z (inr (m, y)) = absurd (record-not-none (dialect b sum) z y)

        on : {g : Bytes} {s : Table} {c : Jumped} → Records (dialect b sum) f s g → length s + k % index_step ≡ k → WalkOutcome (dialect b sum) f g (k % index_step) c → Own c
        on p e (fault z) = absurd (no-fault (dialect b sum) o (fault-later p e z))
        on p e (none z) = inr (none_above (dialect b sum) o (none-later p e z), refl)
        on p e (found z) = at (record-later p e z) (holds-either o k)

    -- and the part reads, as a record of that dialect, as the table's record of that number
    pub own-part : {p : Bytes} → PartOutcome b sum f es k p → k < length t → Record (dialect b sum) p (get_or t k []) []
    own-part (part {a = c} y) n = by (own-index y)
      where
        by : Own c → Record (dialect b sum) (take c.length (drop c.start.0 f)) (get_or t k []) []
        by (inl (m, g, h, z, e)) =
            let q : take c.length (drop c.start.0 f) ≡ take (length g - length h) g =
            ap (λ (o : Jumped). take o.length (drop o.start.0 f)) e ∙ ap (λ (l : Bytes). take (length g - length h) l) (rest-drop (record-from z)) in
            subst (λ (l : Bytes). Record (dialect b sum) l (get_or t k []) []) (sym q) (record-part z)
        by (inr (m, e)) = absurd (omega arith)
