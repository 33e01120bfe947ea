-- The fourth request holds: each statement of specs/Jumping by its laws.
use Prim.Native.Nat.{ℕ, ◌-◌, ◌/◌, ◌≤◌, ◌<◌}
use native.Mathlib.Omega.{arith}
use mathlib.Core.Path.{◌≡◌, sym, ap, subst, ◌∙◌}
use mathlib.Core.Logic.{◌⊎◌, inl, inr}
use mathlib.Core.List.{List, []}
use lib.ListN.{length, get_or, take}
use lib.Seq.{take_at}
use Rattle.format.specs.declared.Indexed.{Indexed}
use Rattle.format.specs.declared.Jumped.{Jumped}
use Rattle.format.specs.Table.{Bytes, Content, Table}
use Rattle.format.specs.Dialect.{dialect, Valid}
use Rattle.format.specs.House.{empty, file_limit}
use Rattle.format.specs.Reading.{Reading, Accepted}
use Rattle.format.specs.Walk.{Holds, RecordAt, NoRecord, no_record, Index}
use Rattle.format.specs.Answer.{lies_at, lies_nowhere}
use Rattle.format.proofs.Walk.{reading-holds, some_index, empty-index}
use Rattle.jump.specs.Jump.{IndexOutcome, JumpOutcome, refusal_1, refusal_2, no_entry, wrong_entry}
use Rattle.jump.proofs.Calls.{one_index, one-jump, not-refused, room-enough, Own, own-index, own-part, part-of-file, refused-nowhere, usable-walks}
use Rattle.demands.specs.Jumping.{Jumping}

-- what an accepted call filled is the file's index
module _ {b sum r : ℕ} {f : Bytes} {t : Table} {i j : List ℕ} {a : Indexed} (x : Accepted b sum f t r) (y : IndexOutcome b sum f i a j) (e : a.refusal ≡ 0) where
  filled : Index (dialect b sum) f (take a.entries j)
  filled =
      let (u, s, es, z, v, p, q) = not-refused y e in
      let n : length es ≡ a.entries = sym (ap (λ (w : Indexed). w.entries) p) in
      subst (Index (dialect b sum) f) (sym (ap (take a.entries) q ∙ take_at es _ a.entries n)) v

  finds :
      {k : ℕ} {c : Jumped} → Own x.valid x.short (reading-holds x.reading) filled k c
      → ((g h : Bytes) × (cs : List Content) × RecordAt (dialect b sum) f k g cs h × (c ≡ lies_at (length f - length g) (length g - length h)))
      ⊎ (NoRecord (dialect b sum) f k × (c ≡ lies_nowhere 18))
  finds {k} (inl (l, g, h, z, q)) = inl (g, h, get_or t k [], z, q)
  finds (inr (l, q)) = inr (no_record (reading-holds x.reading) l, q)

  lacks : {k : ℕ} {c : Jumped} → Own x.valid x.short (reading-holds x.reading) filled k c → (length t ≤ k → c ≡ lies_nowhere 18) × (k < length t → c.refusal ≡ 0)
  lacks (inl (l, g, h, z, q)) = (λ m. absurd (omega arith), λ m. ap (λ (w : Jumped). w.refusal) q)
  lacks (inr (l, q)) = (λ m. q, λ m. absurd (omega arith))

-- the empty file is accepted
nothing-accepted : {b sum : ℕ} → Valid b sum → Accepted b sum [] [] 0
nothing-accepted v = record { valid = v; short = omega arith; reading = Reading.nothing empty }

module _
    {b sum : ℕ} {f : Bytes} {t : Table} {es : List ℕ} (v : Valid b sum) (l : length f ≤ file_limit) (o : Holds (dialect b sum) f t) (x : Index (dialect b sum) f es)
  where
    found_in : {k : ℕ} {c : Jumped} → JumpOutcome b sum f es k c → k < length t → c.refusal ≡ 0
    found_in {k} {c} z n = by (own-index v l o x k z)
      where
        by : Own v l o x k c → c.refusal ≡ 0
        by (inl (m, g, h, y, q)) = ap (λ (w : Jumped). w.refusal) q
        by (inr (m, q)) = absurd (omega arith)

pub jumping : Jumping
jumping =
    record {
      some_index = λ x. some_index (reading-holds x.reading);
      built = λ x u l y. one_index y (IndexOutcome.built x u l);
      empty = λ v y. one_index y (IndexOutcome.built {es = []} (nothing-accepted v) empty-index (omega arith));
      enough_room = λ x y l. room-enough y x l;
      refused = λ x y. one_index y (IndexOutcome.refused x);
      no_room = λ x u l y. one_index y (IndexOutcome.no_room x u l);
      same_walk = λ x y e z. finds x y e (own-index x.valid x.short (reading-holds x.reading) (filled x y e) _ z);
      reads = λ x y e z l. own-part x.valid x.short (reading-holds x.reading) (filled x y e) _ z l;
      no_such_record = λ x y e z. lacks x y e (own-index x.valid x.short (reading-holds x.reading) (filled x y e) _ z);
      bad_dialect = λ v z. one-jump z (refusal_1 v);
      too_long = λ v l z. one-jump z (refusal_2 v l);
      no_entry = λ v l m z. one-jump z (no_entry v l m);
      wrong_entry = λ v l m u z. one-jump z (wrong_entry v l m u);
      any_index = λ v l m u z. usable-walks v l m u z;
      limits_unseen = λ v l o x z m. found_in v l o x z m;
      nothing_handed = λ z n. refused-nowhere z n;
      own_bytes = λ z. part-of-file z;
    }
