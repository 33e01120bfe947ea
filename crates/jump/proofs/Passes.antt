-- Records passed one after the other, and what a walk finds behind them.
use Prim.Native.Nat.{ℕ, ◌+◌, ◌-◌, ◌≤◌, ◌<◌}
use native.Mathlib.Omega.{arith}
use mathlib.Core.Path.{◌≡◌, refl, sym, ap, subst, ◌∙◌}
use mathlib.Core.Bool.{Bool, true, false}
use mathlib.Core.List.{[], ◌∷◌, ◌++◌}
use Rattle.std.proofs.Common.{None, Some}
use lib.Dec.{leb}
use lib.ListN.{length, drop, length-append, length-drop, drop_of_length-le}
use lib.Seq.{drop-cons}
use borrow.Author.Tests.{leb-true, leb-false}
use Rattle.format.specs.Table.{Bytes, Table}
use Rattle.format.specs.Dialect.{Dialect}
use Rattle.format.specs.House.{empty}
use Rattle.format.specs.Refusal.{LineEnd, Records}
use Rattle.format.specs.Walk.{Holds, no_record, fault_before}
use Rattle.format.proofs.Grow.{records-more}
use Rattle.format.proofs.Walk.{holds-last, holds-behind, found_at, line-broken}
use Rattle.format.specs.Answer.{lies_at, lies_nowhere}
use Rattle.jump.specs.declared.RecordEnd.{RecordEnd}
use Rattle.jump.specs.Jump.{WalkOutcome, fault, none, found}
use Rattle.jump.specs.Pass.{Ending, in_fault, ending, Passing, through, out}

pub drop-some : (f : Bytes) (at : ℕ) → at < length f → drop at f ≡ [] → ⊥
drop-some f at h e = omega (arith, ap length (sym (drop-cons f at 0 h) ∙ e))

module _ (d : Dialect) (f : Bytes) (from : ℕ) where
  -- at a place, so many records passed, or fewer where the file has ended
  pub record Passes (at k : ℕ) : Type 0 where
    pub within : at ≤ length f
    pub inside : at < length f → (t : Table) × Records d (drop from f) t (drop at f) × (length t ≡ k)
    pub over : length f ≤ at → (t : Table) × Holds d (drop from f) t × (length t ≤ k)

  pub passes-first : from ≤ length f → Passes from 0
  passes-first h =
      record {
        within = h;
        inside = λ l. ([], Records.none, refl);
        over = λ l. ([], subst (λ (g : Bytes). Holds d g []) (sym (drop_of_length-le f l)) (Holds.nothing empty), omega arith);
      }

  module _ {at k : ℕ} (w : Passes at k) where
    pub passes_over : {n : ℕ} → length f ≤ at → k ≤ n → Passing d f from n (Some at)
    passes_over h l = let (t, r, q) = w.over h in out {to = at} r (omega (arith, q)) (omega (arith, w.within))

    pub passes-all : Passing d f from k (Some at)
    passes-all = by (leb (length f) at) refl
      where
        by : (x : Bool) → leb (length f) at ≡ x → Passing d f from k (Some at)
        by true e = passes_over (leb-true (length f) at e) (omega arith)
        by false e = let l = leb-false (length f) at e in let (t, r, q) = w.inside l in through r q l

    pub passes-fault : {n : ℕ} → at < length f → k < n → Ending d f at None → Passing d f from n None
    passes-fault h l (in_fault x y) = let (t, r, q) = w.inside h in in_fault (fault_before r (omega (arith, q, l)) x y)

    pub passes-more : {e : RecordEnd} → at < length f → Ending d f at (Some e) → Passes e.next (k + 1)
    passes-more h (ending {end} {next} {cs} r l i j m) =
        let (t, s, q) = w.inside h in
        let n : length (t ++ (cs ∷ [])) ≡ k + 1 = omega (arith, q, length-append t (cs ∷ [])) in
        record {
          within = m;
          inside = λ b. (t ++ (cs ∷ []), records-more d s (Records.more r (line-broken l (drop-some f next b)) Records.none), n);
          over = λ b.
              let e = subst (λ (g : Bytes). LineEnd d (drop end f) g) (drop_of_length-le f b) l in
              (t ++ (cs ∷ []), holds-behind s (holds-last (drop at f) (drop-some f at h) r e), omega (arith, n));
        }

-- what a walk from a place finds that passes n records: by what passing them gives, and by the end of the record behind them
module _ {d : Dialect} {f : Bytes} {from n : ℕ} where
  pub walk-fault : Passing d f from n None → WalkOutcome d f (drop from f) n (lies_nowhere 20)
  walk-fault (in_fault x) = fault x

  module _ {at : ℕ} where
    pub walk_none : Passing d f from n (Some at) → length f ≤ at → WalkOutcome d f (drop from f) n (lies_nowhere 18)
    walk_none (through r e l) h = absurd (omega arith)
    walk_none (out x l e) h = none (no_record x l)

    pub walk-late : Passing d f from n (Some at) → at < length f → Ending d f at None → WalkOutcome d f (drop from f) n (lies_nowhere 20)
    walk-late (through r e l) h (in_fault x y) = fault (fault_before r (omega (arith, e)) x y)
    walk-late (out x l e) h y = absurd (omega (arith, e))

    pub walk-found : {e : RecordEnd} → Passing d f from n (Some at) → at < length f → Ending d f at (Some e) → WalkOutcome d f (drop from f) n (lies_at at (e.at - at))
    walk-found (through r e l) h (ending {end} x y i j k) =
        let a : length f - length (drop at f) ≡ at = omega (arith, length-drop at f) in
        let b : length (drop at f) - length (drop end f) ≡ end - at = omega (arith, length-drop at f, length-drop end f) in
        subst (WalkOutcome d f (drop from f) n) (λ z. lies_at (a z) (b z)) (found (found_at (drop at f) (drop-some f at h) r e x y))
    walk-found (out x l e) h y = absurd (omega (arith, e))
