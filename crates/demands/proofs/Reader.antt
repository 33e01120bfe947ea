-- The reader's laws in the words of the statements.
use Prim.Native.Nat.{ℕ}
use mathlib.Core.Path.{◌≡◌, refl, sym, ap, subst, ◌∙◌}
use mathlib.Core.List.{List}
use mathlib.Core.Logic.{◌⊎◌, inl, inr}
use lib.ListN.{take}
use Rattle.format.specs.declared.Answer.{Answer}
use Rattle.format.specs.Table.{Bytes, Table}
use Rattle.format.specs.Memory.{table_of}
use Rattle.format.specs.Place.{nowhere}
use Rattle.format.specs.Reading.{Accepted, Refused}
use Rattle.format.specs.Answer.{accepted_as, refused_by}
use Rattle.format.proofs.Memory.{table-back}
use Rattle.reader.specs.Read.{NoRoom, ReadOutcome}
use Rattle.reader.proofs.Calls.{one-outcome, not-refused, refused-same, used-text, used-ends, used-rows, read_table}
use Rattle.demands.specs.Demands.{Slices, memory_of, laid, RoomFor, Read, ReadAs, Same}

-- three slices are equal by their parts
pub slices : {m n : Slices} → m.text ≡ n.text → m.ends ≡ n.ends → m.rows ≡ n.rows → m ≡ n
slices e g h i = record { text = e i; ends = g i; rows = h i }

-- the table in the used part of three slices
abbrev used : Answer → Slices → Table
used a m = table_of (take a.totals.text m.text) (take a.totals.fields.0 m.ends) (take a.totals.records m.rows)

used-is : (t : Table) (r : ℕ) (lent : Slices) → used (accepted_as t r) (laid (memory_of t) lent) ≡ t
used-is t r lent = rw (used-text t lent.text, used-ends t lent.ends, used-rows t lent.rows) (table-back t)

-- what a read that is not refused comes to
pub record Took {b sum : ℕ} {f : Bytes} {lent : Slices} (c : Read b sum f lent) : Type 0 where
  pub table : Table
  pub came : ReadAs c table c.answer.totals.report
  pub accepted : Accepted b sum f table c.answer.totals.report
  pub room : RoomFor table lent

module _ {b sum : ℕ} {f : Bytes} {lent : Slices} where
  -- an outcome that the promise allows is what the read came to
  pub is-outcome :
      (c : Read b sum f lent) {a : Answer} (m : Slices)
      → ReadOutcome b sum f lent.text lent.ends lent.rows a m.text m.ends m.rows → (c.answer ≡ a) × (c.left ≡ m)
  is-outcome c m o = let (e, x, y, z) = one-outcome c.promise o in (e, slices x y z)

  pub reads_as : (c : Read b sum f lent) {t : Table} {r : ℕ} → Accepted b sum f t r → RoomFor t lent → ReadAs c t r
  reads_as c {t} a k = is-outcome c (laid (memory_of t) lent) (ReadOutcome.filled a k)

  -- the three slices and the totals tell the table
  pub read_as : (c : Read b sum f lent) {t : Table} {r : ℕ} → ReadAs c t r → Accepted b sum f t r
  read_as c {t} {r} (p, q) =
      let h = read_table c.promise (ap (λ (a : Answer). a.refusal) p) in
      let e : h.table ≡ t = sym h.table_is ∙ ((λ i. used (p i) (q i)) ∙ used-is t r lent) in
      let g : c.answer.totals.report ≡ r = ap (λ (a : Answer). a.totals.report) p in
      rw (e, g) at h.accepted

  pub took : (c : Read b sum f lent) → c.answer.refusal ≡ 0 → Took c
  took c z =
      let h = not-refused c.promise z in
      let g : c.answer.totals.report ≡ h.report = ap (λ (a : Answer). a.totals.report) h.answer_is in
      let a : Accepted b sum f h.table c.answer.totals.report = subst (λ (r : ℕ). Accepted b sum f h.table r) (sym g) h.accepted in
      record { table = h.table; came = reads_as c a h.room; accepted = a; room = h.room }

  pub same_end :
      {b' sum' : ℕ} (c : Read b sum f lent) (e : Read b' sum' f lent) (t : Table) (r : ℕ) → ReadAs c t r → ReadAs e t r → Same c e
  same_end c e t r p q = (p.0 ∙ sym q.0, p.1 ∙ sym q.1)

  pub left_alone : (c : Read b sum f lent) → (c.answer.refusal ≡ 0 → ⊥) → c.left ≡ lent
  left_alone c n = let (x, y, z) = refused-same c.promise n in slices x y z

-- a refused read: the file is refused, or there is no room for its table
module _ {b sum : ℕ} {f text : Bytes} {ends rows : List ℕ} where
  pub why-refused :
      {a : Answer} {x : Bytes} {y z : List ℕ} → ReadOutcome b sum f text ends rows a x y z → (a.refusal ≡ 0 → ⊥)
      → Refused b sum f a.refusal a.place
      ⊎ ((t : Table) × (r : ℕ) × Accepted b sum f t r × NoRoom t text ends rows a.refusal × (a ≡ refused_by a.refusal nowhere))
  why-refused (ReadOutcome.refused h) n = inl h
  why-refused (ReadOutcome.no_room {t} {r} h k) n = inr (t, r, h, k, refl)
  why-refused (ReadOutcome.filled h k) n = absurd (n refl)
