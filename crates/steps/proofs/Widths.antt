-- The rules record by record, with the width that the first record sets, are the rules of the whole table.
use Prim.Native.Nat.{ℕ}
use mathlib.Core.Path.{◌≡◌, refl}
use mathlib.Core.Bool.{Bool, true, false, not, ◌||◌}
use mathlib.Core.List.{List, [], ◌∷◌, ◌++◌}
use lib.Dec.{T, eqb}
use lib.ListN.{length}
use Rattle.format.specs.Table.{Bytes, Content, Table, Every}
use Rattle.format.specs.Dialect.{ragged, Dialect}
use Rattle.format.specs.House.{differs, EqualRows, Fits, Allowed}
use Rattle.format.specs.Refusal.{Records, Refusal}
use Rattle.format.proofs.Even.{even-one, even-last, last-even}
use Rattle.steps.specs.Model.{Width, any, just, settled, agrees}
use Rattle.steps.proofs.Limits.{Fine, Here, in_record, uneven, Refuses, here, later}

-- one record more before the others: e, it has the width; f, another has not; r, that is allowed
split-first : (r e f : Bool) → T (r || not (not e || f)) → T (r || e) × T (r || not f)
split-first true e f t = (tt, tt)
split-first false true f t = (tt, t)
split-first false false f t = absurd t

join_first : (r e f : Bool) → T (r || e) → T (r || not f) → T (r || not (not e || f))
join_first true e f t u = tt
join_first false true f t u = u
join_first false false f t u = absurd t

or_yes : (r : Bool) → T (r || true)
or_yes true = tt
or_yes false = tt

module _ (d : Dialect) where
  fine-just : (n : ℕ) (t : Table) → Every (Every Fits) t → T (d.allows ragged || not (differs n t)) → Fine d (just n) t
  unfolding agrees
  fine-just n [] h r = tt
  fine-just n (cs ∷ t) h r =
      let u = split-first (d.allows ragged) (eqb (length cs) n) (differs n t) r in
      (h.0, u.0, fine-just n t h.1 u.1)

  just-fine : (n : ℕ) (t : Table) → Fine d (just n) t → Every (Every Fits) t × T (d.allows ragged || not (differs n t))
  unfolding agrees
  just-fine n [] h = (tt, or_yes (d.allows ragged))
  just-fine n (cs ∷ t) h =
      let u = just-fine n t h.2 in
      ((h.0, u.0), join_first (d.allows ragged) (eqb (length cs) n) (differs n t) h.1 u.1)

  pub allowed-fine : (t : Table) → Allowed d t → Fine d any t
  unfolding agrees EqualRows
  allowed-fine [] h = tt
  allowed-fine (cs ∷ t) h = (h.contents.0, tt, fine-just (length cs) t h.contents.1 h.rows)

  pub fine-allowed : (t : Table) → Fine d any t → Allowed d t
  unfolding EqualRows
  fine-allowed [] h = record { rows = or_yes (d.allows ragged); contents = tt }
  fine-allowed (cs ∷ t) h = let u = just-fine (length cs) t h.2 in record { rows = u.1; contents = (h.0, u.0) }

-- the width behind some records
abbrev behind : Width → Table → Width
behind w [] = w
behind w (cs ∷ t) = behind (settled w (length cs)) t

behind-just : (n : ℕ) (t : Table) → behind (just n) t ≡ just n
behind-just n [] = refl
behind-just n (cs ∷ t) = behind-just n t

module _ (d : Dialect) where
  -- the next record agrees exactly if the rows stay equal with it
  agrees-equal : (t : Table) (cs : List Content) → EqualRows d t → T (agrees d (behind any t) (length cs)) → EqualRows d (t ++ (cs ∷ []))
  unfolding agrees
  agrees-equal [] cs h u = even-one d cs
  agrees-equal (es ∷ t) cs h u = even-last d es t cs h (rw (behind-just (length es) t) at u)

  equal-agrees : (t : Table) (cs : List Content) → EqualRows d (t ++ (cs ∷ [])) → T (agrees d (behind any t) (length cs))
  unfolding agrees
  equal-agrees [] cs h = tt
  equal-agrees (es ∷ t) cs h = rw (behind-just (length es) t) (last-even d es t cs h)

  thread :
      {n : ℕ} {f g found named : Bytes} {t : Table} {w : Width}
      → Records d f t g → Fine d w t → Refuses d (behind w t) n g found named → Refuses d w n f found named
  thread Records.none h x = x
  thread (Records.more r k s) h x = later r k h.0 h.1 (thread s h.2 x)

  pub refusal-refuses : {n : ℕ} {f found named : Bytes} → Refusal d n f found named → Refuses d any n f found named
  refusal-refuses (Refusal.in_field {t} s a r u x) = thread s (allowed-fine d t a) (here (in_record r u x))
  refusal-refuses (Refusal.refusal_10 {t} {cs} s a r e u x) =
      thread s (allowed-fine d t a) (here (uneven r e u (λ v. x (agrees-equal t cs a.rows v))))

  -- and back: the records before the one at fault
  found_in :
      {n : ℕ} {f found named : Bytes} {w : Width}
      → Refuses d w n f found named → (t : Table) × (g : Bytes) × Records d f t g × Fine d w t × Here d (behind w t) n g found named
  found_in {f} (here x) = ([], f, Records.none, tt, x)
  found_in (later {cs} r k t u x) =
      let (s, g, q, h, y) = found_in x in
      (cs ∷ s, g, Records.more r k q, (t, u, h), y)

  here-refusal :
      {n : ℕ} {f g found named : Bytes} (t : Table)
      → Records d f t g → Fine d any t → Here d (behind any t) n g found named → Refusal d n f found named
  here-refusal t s h (in_record r u x) = Refusal.in_field s (fine-allowed d t h) r u x
  here-refusal t s h (uneven {cs} r e u v) = Refusal.refusal_10 s (fine-allowed d t h) r e u (λ x. v (equal-agrees t cs x))

  pub refuses-refusal : {n : ℕ} {f found named : Bytes} → Refuses d any n f found named → Refusal d n f found named
  refuses-refusal x = let (t, g, s, h, y) = found_in x in here-refusal t s h y
