-- How many items at the front of a list pass a test, and how many whole blocks.
use Prim.Native.Nat.{ℕ, zero, suc, ◌+◌, ◌*◌, ◌/◌, ◌≤◌, ◌<◌}
use native.Mathlib.Nat.{div-mul-le_self, lt-div-mul-add, div-eq_of_lt-le}
use native.Mathlib.Numerals.{one-add}
use native.Mathlib.Omega.{arith}
use mathlib.Core.Path.{◌≡◌, refl, sym, ap, ◌∙◌}
use mathlib.Core.Bool.{Bool, true, false, cond, ◌&&◌}
use mathlib.Core.List.{List, [], ◌∷◌}
use lib.ListN.{length, take, drop, length-drop}
use lib.Dec.{leb, ltb, leb-suc-suc}
use borrow.Author.Tests.{leb-true, leb-false, le-leb, lt-leb, ltb-true, ltb-false}
use denote.Param.Members.{Mut}
use denote.Ref.{Bor}
use Rattle.std.specs.Prelude.{Option}
use Rattle.std.specs.Fn.{CalledAt}
use Rattle.std.specs.Iterator.{Drains}
use Rattle.std.specs.Iterator.Adapters.{take_while_source, take_while_done, take_while_callee, take_while_steps}
use Rattle.std.specs.declared.iter.TakeWhile.{TakeWhile}
use Rattle.std.proofs.lemmas.Iterator.{YieldsList}
use Rattle.std.proofs.lemmas.Iterator.Consumers.{count_from_yields_List}
use Rattle.std.proofs.lemmas.Iterator.Search.{YieldsList-from_take_while}
use Rattle.std.specs.Simd.{first_chunks}
use Rattle.std.specs.List.{fold, prefix_len, list_all}
use Rattle.std.proofs.lemmas.List.Folds.{fold_stays, length-prefix_len}
use Rattle.format.specs.Table.{Bytes}
use Rattle.runs.specs.Runs.{run}
use Rattle.runs.proofs.Runs.{run-le, front-part}

-- what `take_while` and `count` make of a list that is gone over
pub counted-front :
    {S A B F : Type 0} {steps : S → Option A → S → Type 0} {v : A → B} {all : List B} {s : TakeWhile S F} (g : Mut F (Bor A × Unit {0}) Bool) (test : B → Bool) {f : F} (r : ℕ)
    → ((xs : List A) × Drains (take_while_steps steps g) s xs × (r ≡ length xs)) → YieldsList steps v (take_while_source s) all → take_while_callee s ≡ f → take_while_done s ≡ false
    → ((x : A) (b : Bool) (q : F) → CalledAt g f x b q → (q ≡ f) × (b ≡ test (v x)))
    → r ≡ prefix_len test all
counted-front {all} {s} g test r ran yields callee done calls =
    count_from_yields_List s r ran (YieldsList-from_take_while g test yields callee done calls) ∙ length-prefix_len test all

module _ (p : ℕ → Bool) where
  -- a test of each, with no end before the last
  pub fold-all : (a : Bool) (f : Bytes) → fold (λ x b. x && p b) a f ≡ (a && list_all p f)
  fold-all true [] = refl
  fold-all true (b ∷ f) = fold-all (p b) f
  fold-all false f = fold_stays (λ x b. x && p b) false (λ b. refl) f

  block-all : (n : ℕ) (f : Bytes) → n ≤ length f → list_all p (take n f) ≡ leb n (run p f)
  unfolding run
  block-all zero f h = sym (le-leb 0 (prefix_len p f) (omega arith))
  block-all (suc n) [] h = absurd (omega arith)
  block-all (suc n) (b ∷ f) h = go (p b) (block-all n f (omega arith))
    where
      go : (x : Bool) → list_all p (take n f) ≡ leb n (prefix_len p f) → (x && list_all p (take n f)) ≡ leb (suc n) (cond x (1 + prefix_len p f) 0)
      go true e = rw (one-add, leb-suc-suc) e
      go false e = sym (lt-leb (suc n) 0 (omega arith))

  -- m whole blocks of n bytes, of c, are all of such bytes
  record Front (n c m : ℕ) (f : Bytes) : Type 0 where
    few : m ≤ c
    passed : m * n ≤ run p f
    last : m < c → run p f < m * n + n

  front : (n c : ℕ) (f : Bytes) → c * n ≤ length f → Front n c (prefix_len (list_all p) (first_chunks n c f)) f
  front n zero f h = record { few = omega arith; passed = omega arith; last = λ q. absurd (omega arith) }
  front n (suc c) f h = go (leb n (run p f)) refl (λ k. front n c (drop n f) k)
    where
      room : n ≤ length f
      room = omega arith

      go :
          (x : Bool) → leb n (run p f) ≡ x → (c * n ≤ length (drop n f) → Front n c (prefix_len (list_all p) (first_chunks n c (drop n f))) (drop n f))
          → Front n (suc c) (prefix_len (list_all p) (first_chunks n (suc c) f)) f
      go true e rest =
          let part : n + run p (drop n f) ≡ run p f = front-part p f n (leb-true n (run p f) e) in
          let ih = rest (rw length-drop (omega arith)) in
          rw (block-all n f room, e) record { few = omega (arith, ih.few); passed = omega (arith, ih.passed); last = λ q. omega (arith, ih.last (omega arith)) }
      go false e rest = rw (block-all n f room, e) record { few = omega arith; passed = omega arith; last = λ q. omega (arith, leb-false n (run p f) e) }

  count-of : (n m : ℕ) (f : Bytes) → 0 < n → Front n (length f / n) m f → run p f / n ≡ m
  count-of n m f h at = div-eq_of_lt-le n at.passed (below (ltb m (length f / n)) refl)
    where
      below : (x : Bool) → ltb m (length f / n) ≡ x → run p f < (m + 1) * n
      below true e = omega (arith, at.last (ltb-true m (length f / n) e))
      below false e =
          let all : m ≡ length f / n = omega (arith, ltb-false m (length f / n) e, at.few) in
          let whole : length f < length f / n * n + n = lt-div-mul-add h in
          let same : m * n ≡ length f / n * n = ap (λ (k : ℕ). k * n) all in
          omega (arith, run-le p f)

  pub blocks-front : (n : ℕ) (f : Bytes) → 0 < n → prefix_len (list_all p) (first_chunks n (length f / n) f) ≡ run p f / n
  blocks-front n f h = sym (count-of n (prefix_len (list_all p) (first_chunks n (length f / n) f)) f h (front n (length f / n) f (div-mul-le_self (length f) n)))
