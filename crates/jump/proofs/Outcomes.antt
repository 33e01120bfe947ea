-- From the check's answer and the test of room to the outcome of an index.
use Prim.Native.Nat.{ℕ, ◌+◌, ◌-◌, ◌/◌, ◌%◌, ◌≤◌, ◌<◌}
use native.Mathlib.Omega.{arith}
use mathlib.Core.Path.{◌≡◌, refl, sym, ap, subst, ◌∙◌}
use mathlib.Core.List.{List, [], ◌∷◌, ◌++◌}
use lib.ListN.{length, get_or, take, drop}
use lib.Seq.{length-take-le}
use Rattle.std.specs.Int.{div_ceil}
use Rattle.std.specs.Option.{ok_or}
use Rattle.std.proofs.Common.{Option, None, Some, Err}
use Rattle.format.specs.declared.Place.{Place}
use Rattle.format.specs.declared.Answer.{Answer}
use Rattle.format.specs.declared.Jumped.{Jumped}
use Rattle.format.specs.declared.Refusal.{Refusal}
use Rattle.format.specs.Table.{Bytes}
use Rattle.format.specs.Dialect.{dialect, Valid}
use Rattle.format.specs.House.{file_limit}
use Rattle.format.specs.Place.{nowhere}
use Rattle.format.specs.Walk.{index_step, Index, Usable}
use Rattle.format.specs.Answer.{refused_by, indexed_by, unindexed, lies_nowhere}
use Rattle.format.specs.Filling.{over}
use Rattle.format.proofs.Walk.{reading-holds, some_index}
use Rattle.steps.proofs.Walks.{entries-count}
use Rattle.pieces.specs.Answers.{Answers, accepted, refused}
use Rattle.pieces.proofs.Stands.{Takes, takes}
use Rattle.jump.specs.Jump.{IndexOutcome, WalkOutcome, JumpOutcome, wrong_entry, walked}

pub within_limit : {b sum : ℕ} {f : Bytes} {a : Answer} → Takes b sum f a → length f ≤ file_limit
within_limit (takes h) = h.short

-- what `?` hands on where there is none
pub refuses : {A : Type 0} (o : Option A) {r x : Refusal} → Err x ≡ ok_or o r → (o ≡ None) × (x ≡ r)
refuses None e = (refl, cc)
refuses (Some y) e = cc

-- as many as fill so many, the last perhaps in part
rounded : (n : ℕ) → div_ceil n index_step ≡ (n + index_step - 1) / index_step
rounded n = omega arith

module _ {b sum : ℕ} {f : Bytes} {index : List ℕ} where
  -- the check's refusal is the outcome; were it one of number 0, the file would be empty, with no entry
  pub declines : {a : Answer} {n : ℕ} {p : Place} → Answers b sum f a → a ≡ refused_by n p → IndexOutcome b sum f index (unindexed n p) index
  declines (refused h) e = subst (λ (a : Answer). IndexOutcome b sum f index (unindexed a.refusal a.place) index) e (IndexOutcome.refused h)
  declines (accepted {t} h) e =
      let (es, x) = some_index (reading-holds h.reading) in
      let none : length t ≡ 0 = ap (λ (a : Answer). a.totals.records) e in
      let q : length es ≡ 0 = omega (arith, none, entries-count (dialect b sum) (reading-holds h.reading) x) in
      subst (λ (a : Answer). IndexOutcome b sum f index (unindexed a.refusal a.place) index) e (empty es (IndexOutcome.built h x (omega (arith, q))) q)
    where
      empty : (es : List ℕ) → IndexOutcome b sum f index (indexed_by (length es)) (over es index) → length es ≡ 0 → IndexOutcome b sum f index (indexed_by 0) index
      empty [] o q = o
      empty (x ∷ es) o q = absurd (omega (arith, q))

  pub lacks-room :
      {a : Answer} {n : ℕ} → Takes b sum f a → n ≡ div_ceil a.totals.records index_step → length index < n
      → IndexOutcome b sum f index (unindexed 19 nowhere) index
  lacks-room {a} (takes h) e l =
      let x = some_index (reading-holds h.reading) in
      IndexOutcome.no_room h x.1 (omega (arith, e, rounded a.totals.records, entries-count (dialect b sum) (reading-holds h.reading) x.1))

  -- the entries are written over the front of the index
  pub builds :
      {a : Answer} {n : ℕ} {entries : List ℕ} → Takes b sum f a → n ≡ div_ceil a.totals.records index_step → n ≤ length index
      → ((es : List ℕ) → Index (dialect b sum) f es → length es ≡ length (take n index) → entries ≡ es)
      → IndexOutcome b sum f index (indexed_by n) (entries ++ drop n index)
  builds {a} {n = n} (takes h) e l w =
      let (es, x) = some_index (reading-holds h.reading) in
      let q : length es ≡ n = omega (arith, e, rounded a.totals.records, entries-count (dialect b sum) (reading-holds h.reading) x) in
      let z : IndexOutcome b sum f index (indexed_by (length es)) (over es index) = IndexOutcome.built h x (omega (arith, q)) in
      subst (λ (u : List ℕ). IndexOutcome b sum f index (indexed_by n) (u ++ drop n index)) (sym (w es x (q ∙ sym (length-take-le n index l))))
      (subst (λ (k : ℕ). IndexOutcome b sum f index (indexed_by k) (es ++ drop k index)) q z)

-- by the entry that the index has for the record
module _ {b sum k : ℕ} {f : Bytes} {index : List ℕ} (valid : Valid b sum) (short : length f ≤ file_limit) (within : k / index_step < length index) {entry : ℕ} (is : entry ≡ get_or index (k / index_step) 0) where
  pub cannot-walk : (Usable f entry → ⊥) → JumpOutcome b sum f index k (lies_nowhere 20)
  cannot-walk u = wrong_entry valid short within (λ v. u (subst (Usable f) (sym is) v))

  pub walks : {a : Jumped} → Usable f entry → WalkOutcome (dialect b sum) f (drop entry f) (k % index_step) a → JumpOutcome b sum f index k a
  walks {a} u w = walked valid short within (subst (Usable f) is u) (subst (λ (e : ℕ). WalkOutcome (dialect b sum) f (drop e f) (k % index_step) a) is w)
