-- An index written entry by entry: what is still to come, at the record that begins the next 64.
use Prim.Native.Nat.{ℕ, suc, ◌+◌, ◌*◌, ◌-◌, ◌≤◌, ◌<◌}
use native.Mathlib.Omega.{arith}
use native.Mathlib.Numerals.{add-one}
use mathlib.Core.Path.{◌≡◌, refl, sym, ap, subst, ◌∙◌}
use mathlib.Core.Bool.{Bool, true, false}
use mathlib.Core.List.{List, [], ◌∷◌, ◌++◌, append_assoc}
use lib.Dec.{leb}
use lib.ListN.{length, take, drop, set, length-append, length-drop, drop_of_length-le}
use lib.Seq.{length-take-le, take-suc-set}
use borrow.Author.Tests.{leb-true, leb-false}
use Rattle.std.proofs.Common.{None, Some}
use Rattle.format.specs.Table.{Bytes, Table}
use Rattle.format.specs.Dialect.{Dialect}
use Rattle.format.specs.House.{empty}
use Rattle.format.specs.Refusal.{Records}
use Rattle.format.specs.Walk.{Holds, RecordAt, index_step, Entries, Index}
use Rattle.format.proofs.Grow.{records-more}
use Rattle.format.proofs.Walk.{holds-behind, fault-later, entries-hold}
use Rattle.steps.proofs.Walks.{one-record, record-not-none, no-fault, next-record, entries-end}
use Rattle.jump.specs.Pass.{Passing, in_fault, through, out}
use Rattle.jump.proofs.Passes.{drop-some}

pub passing-within : {d : Dialect} {f : Bytes} {at n next : ℕ} → Passing d f at n (Some next) → next ≤ length f
passing-within (through r e i) = omega arith
passing-within (out x i e) = omega (arith, e)

module _ (d : Dialect) (f : Bytes) (target : List ℕ) where
  -- the entries of which the first k are written, the walk at a place: there the next 64 begin, or the file has ended
  pub record Noting (index : List ℕ) (at k : ℕ) : Type 0 where
    pub rest : List ℕ
    pub entries : Entries d f k rest
    pub written : take k index ++ rest ≡ target
    pub inside : at < length f → (t : Table) × Records d f t (drop at f) × (length t ≡ k * index_step)
    pub over_all : length f ≤ at → rest ≡ []

  -- the first entry is to come
  pub noting-first : Index d f target → (index : List ℕ) → Noting index 0 0
  noting-first x index =
      record {
        rest = target;
        entries = x;
        written = refl;
        inside = λ h. ([], Records.none, refl);
        over_all = λ h. entries-end d (subst (λ (g : Bytes). Holds d g []) (sym (drop_of_length-le f h)) (Holds.nothing empty)) (omega arith) x;
      }

  module _ {index : List ℕ} {at k : ℕ} (w : Noting index at k) (e : length target ≡ length index) where
    rest-length : k ≤ length index → k + length w.rest ≡ length index
    rest-length h = let n = length-take-le k index h in omega (arith, e, n, ap length w.written, length-append (take k index) w.rest)

    module _ (more : k < length index) where
      at_record : at < length f
      at_record = by (leb (length f) at) refl
        where
          by : (x : Bool) → leb (length f) at ≡ x → at < length f
          by true h = absurd (omega (arith, rest-length (omega arith), ap length (w.over_all (leb-true (length f) at h))))
          by false h = leb-false (length f) at h

      -- the next entry is this place
      next-entry : (es : List ℕ) → Entries d f k es → (us : List ℕ) × (es ≡ at ∷ us) × Entries d f (suc k) us
      next-entry es x =
          let (t, r, e) = w.inside at_record in
          let (u, o) = entries-hold x in
          let (i, cs, y) = next-record d o r e (drop-some f at at_record) in
          by x y
        where
          by : {es : List ℕ} {i : Bytes} {cs : List _} → Entries d f k es → RecordAt d f (k * index_step) (drop at f) cs i → (us : List ℕ) × (es ≡ at ∷ us) × Entries d f (suc k) us
          by (Entries.none n) y = absurd (record-not-none d y n)
          by (Entries.entry {g = g} {es = us} z v) y =
              let q = ap length (one-record d z y).0 in
              let l : length f - length g ≡ at = omega (arith, q, length-drop at f, at_record) in
              (us, ap (λ (n : ℕ). n ∷ us) l, v)

      pub no-fault-here : Passing d f at index_step None → ⊥
      no-fault-here (in_fault x) =
          let (t, r, e) = w.inside at_record in
          let (u, o) = entries-hold w.entries in
          no-fault d o (fault-later r refl x)

      pub noting-more : {next : ℕ} → Passing d f at index_step (Some next) → Noting (set index k at) next (k + 1)
      noting-more {next} p =
          let (t, r, e) = w.inside at_record in
          let (us, q, x) = next-entry w.rest w.entries in
          let v : Entries d f (k + 1) us = subst (λ (n : ℕ). Entries d f n us) (omega arith) x in
          let z : take (k + 1) (set index k at) ++ us ≡ take k index ++ (at ∷ us) = rw (add-one, take-suc-set index k at more) (append_assoc (take k index) (at ∷ []) us) in
          record { rest = us; entries = v; written = z ∙ (ap (λ (l : List ℕ). take k index ++ l) (sym q) ∙ w.written); inside = on e r p; over_all = ended e r v p }
        where
          on : {t : Table} → length t ≡ k * index_step → Records d f t (drop at f) → Passing d f at index_step (Some next) → next < length f → (t : Table) × Records d f t (drop next f) × (length t ≡ (k + 1) * index_step)
          on {t} e r (through {t = u} s i j) l = (t ++ u, records-more d r s, omega (arith, e, i, length-append t u))
          on e r (out x i j) l = absurd (omega (arith, j))

          ended : {t : Table} {us : List ℕ} → length t ≡ k * index_step → Records d f t (drop at f) → Entries d f (k + 1) us → Passing d f at index_step (Some next) → length f ≤ next → us ≡ []
          ended e r v (through s i j) l = absurd (omega arith)
          ended {t} e r v (out {t = u} x i j) l = entries-end d (holds-behind r x) (omega (arith, e, i, length-append t u)) v
