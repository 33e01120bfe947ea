-- A run, one byte or one block at a time.
use Prim.Native.Nat.{ℕ, zero, suc, ◌+◌, ◌-◌, ◌*◌, ◌/◌, ◌≤◌, ◌<◌}
use native.Mathlib.Numerals.{one-add}
use native.Mathlib.Omega.{arith}
use mathlib.Core.Path.{◌≡◌, refl, sym, ap, ◌∙◌}
use mathlib.Core.Bool.{Bool, true, false, cond, ◌&&◌}
use mathlib.Core.List.{[], ◌∷◌}
use lib.ListN.{length, get_or, drop, length-drop}
use borrow.Author.Tests.{eqb-true, leb-true, le-leb}
use lib.Dec.{eqb, leb}
use lib.Seq.{drop-drop, get_or-drop}
use Rattle.std.specs.List.{prefix_len, slice_range}
use Rattle.std.specs.Simd.{first_chunks}
use Rattle.std.proofs.lemmas.List.{take_all}
use Rattle.std.proofs.lemmas.List.Sums.{prefix_len-le-length, prefix_len_passes, prefix_len_stops}
use Rattle.format.specs.Table.{Bytes}
use Rattle.format.proofs.Tests.{and_both}
use Rattle.runs.specs.Runs.{run, pairs, is_break}

-- the bytes of a range that goes to the end
pub rest-is : (s rest : Bytes) (i : ℕ) → rest ≡ slice_range s i (length s) → rest ≡ drop i s
rest-is s rest i e = e ∙ take_all (length s - i) (drop i s) (omega (arith, length-drop i s))

pub run-le : (p : ℕ → Bool) (f : Bytes) → run p f ≤ length f
unfolding run
run-le p f = prefix_len-le-length p f

-- a run that begins with a byte
pub run-first : (p : ℕ → Bool) (b m : ℕ) (f : Bytes) → suc m ≤ run p (b ∷ f) → (p b ≡ true) × (m ≤ run p f)
unfolding run
run-first p b m f = go (p b)
  where
    go : (x : Bool) → suc m ≤ cond x (1 + prefix_len p f) 0 → (x ≡ true) × (m ≤ prefix_len p f)
    go true h = (refl, omega arith)
    go false h = absurd (omega arith)

module _ (p : ℕ → Bool) where
  -- each byte of a run has the property
  pub run_holds : (s : Bytes) (i k : ℕ) → k < run p (drop i s) → p (get_or s (i + k) 0) ≡ true
  unfolding run
  run_holds s i k h = rw (get_or-drop i s k 0) at (prefix_len_passes p (drop i s) k 0 h)

  -- and the byte behind it has not
  pub run_ends : (s : Bytes) (i : ℕ) → i + run p (drop i s) < length s → p (get_or s (i + run p (drop i s)) 0) ≡ false
  unfolding run
  run_ends s i h = rw (get_or-drop i s (prefix_len p (drop i s)) 0) at (prefix_len_stops p (drop i s) 0 (rw (length-drop i s) (omega arith)))

  -- a part of a front, and what is left of it
  pub front-part : (f : Bytes) (k : ℕ) → k ≤ run p f → k + run p (drop k f) ≡ run p f
  unfolding run
  front-part f zero h = omega arith
  front-part [] (suc k) h = absurd (omega arith)
  front-part (b ∷ f) (suc k) h = go (p b) h (λ l. front-part f k l)
    where
      go : (x : Bool) → suc k ≤ cond x (1 + prefix_len p f) 0 → (k ≤ prefix_len p f → k + prefix_len p (drop k f) ≡ prefix_len p f) → suc k + prefix_len p (drop k f) ≡ cond x (1 + prefix_len p f) 0
      go true l ih = omega (arith, ih (omega arith))
      go false l ih = absurd (omega arith)

  pub run-part : (s : Bytes) (i k : ℕ) → k ≤ run p (drop i s) → k + run p (drop (i + k) s) ≡ run p (drop i s)
  run-part s i k h = ap (λ (f : Bytes). k + run p f) (sym (drop-drop k i s)) ∙ front-part (drop i s) k h

-- a front that goes on
pub run-add : (p : ℕ → Bool) (s : Bytes) (a b : ℕ) → a ≤ run p s → b ≤ run p (drop a s) → a + b ≤ run p s
run-add p s a b h k = omega (arith, front-part p s a h)

-- the same in a part: up to i from b on, and k more from i on
pub run_join : (p : ℕ → Bool) (s : Bytes) (b i k : ℕ) → b ≤ i → i - b ≤ run p (drop b s) → k ≤ run p (drop i s) → i + k - b ≤ run p (drop b s)
run_join p s b i k from h l =
    let e : b + (i - b) ≡ i = omega arith in
    let q : run p (drop (i - b) (drop b s)) ≡ run p (drop i s) = ap (run p) (drop-drop (i - b) b s ∙ ap (λ (j : ℕ). drop j s) e) in
    let all = run-add p (drop b s) (i - b) k h (omega (arith, l, q)) in
    omega (arith, all, from)

-- a run ends within its part
pub run-within : (p : ℕ → Bool) (s : Bytes) (i k : ℕ) → i ≤ length s → k ≤ run p (drop i s) → i + k ≤ length s
run-within p s i k h l = omega (arith, run-le p (drop i s), length-drop i s)

-- pairs that begin with two bytes
pub pairs_first : (a b m : ℕ) (f : Bytes) → suc m ≤ pairs (a ∷ (b ∷ f)) → (a ≡ 0x22) × (b ≡ 0x22) × (m ≤ pairs f)
unfolding pairs
pairs_first a b m f = go (eqb a 0x22) (eqb b 0x22) refl refl
  where
    go : (x y : Bool) → eqb a 0x22 ≡ x → eqb b 0x22 ≡ y → suc m ≤ cond (x && y) (suc (pairs f)) 0 → (a ≡ 0x22) × (b ≡ 0x22) × (m ≤ pairs f)
    go true true p q h = (eqb-true a 0x22 p, eqb-true b 0x22 q, omega arith)
    go true false p q h = absurd (omega arith)
    go false y p q h = absurd (omega arith)

pub pairs-le : (f : Bytes) → pairs f + pairs f ≤ length f
unfolding pairs
pairs-le [] = omega arith
pairs-le (a ∷ []) = omega arith
pairs-le (a ∷ (b ∷ f)) = go (eqb a 0x22 && eqb b 0x22) (pairs-le f)
  where
    go : (x : Bool) → pairs f + pairs f ≤ length f → cond x (suc (pairs f)) 0 + cond x (suc (pairs f)) 0 ≤ suc (suc (length f))
    go true h = omega arith
    go false h = omega arith

-- whether two quotes stand at the front
abbrev pub begins : Bytes → Bool
begins f = leb 2 (length f) && (eqb (get_or f 0 0) 0x22 && eqb (get_or f 1 0) 0x22)

pub pairs_front : (f : Bytes) → pairs f ≡ cond (begins f) (suc (pairs (drop 2 f))) 0
unfolding pairs
pairs_front [] = refl
pairs_front (a ∷ []) = refl
pairs_front (a ∷ (b ∷ f)) = rw (le-leb 2 (length (a ∷ (b ∷ f))) (omega arith))

pub pairs_none : (f : Bytes) → begins f ≡ false → pairs f ≡ 0
pairs_none f e = pairs_front f ∙ rw e

-- one pair, and no quote behind it
pub pairs_one : (f : Bytes) → begins f ≡ true → (leb 3 (length f) && eqb (get_or f 2 0) 0x22) ≡ false → pairs f ≡ 1
pairs_one f e other = pairs_front f ∙ rw (e, pairs_none (drop 2 f) (none (leb 2 (length (drop 2 f))) refl))
  where
    none : (x : Bool) → leb 2 (length (drop 2 f)) ≡ x → (x && (eqb (get_or (drop 2 f) 0 0) 0x22 && eqb (get_or (drop 2 f) 1 0) 0x22)) ≡ false
    none true q =
        let l : 3 ≤ length f = omega (arith, leb-true 2 (length (drop 2 f)) q, length-drop 2 f) in
        let third : eqb (get_or f 2 0) 0x22 ≡ false = rw (le-leb 3 (length f) l) at other in
        rw (get_or-drop 2 f 0 0, third)
    none false q = refl

-- two bytes are a pair, and the pairs by twos
abbrev pub is_pair : Bytes → Bool
is_pair f = eqb (get_or f 0 0) 0x22 && eqb (get_or f 1 0) 0x22

by_twos : (c : ℕ) (f : Bytes) → c + c ≤ length f → length f ≤ c + c + 1 → prefix_len is_pair (first_chunks 2 c f) ≡ pairs f
unfolding pairs
by_twos zero [] h l = refl
by_twos zero (a ∷ []) h l = refl
by_twos zero (a ∷ (b ∷ f)) h l = absurd (omega arith)
by_twos (suc c) [] h l = absurd (omega arith)
by_twos (suc c) (a ∷ []) h l = absurd (omega arith)
by_twos (suc c) (a ∷ (b ∷ f)) h l = rw (by_twos c f (omega arith) (omega arith), one-add)

pub twos-pairs : (f : Bytes) → prefix_len is_pair (first_chunks 2 (length f / 2) f) ≡ pairs f
twos-pairs f = by_twos (length f / 2) f (omega arith) (omega arith)

-- pairs that are passed at once
pub pairs-skip : (n : ℕ) (f : Bytes) → n + n ≤ run (λ b. eqb b 0x22) f → pairs f ≡ n + pairs (drop (n + n) f)
unfolding pairs
pairs-skip zero f h = omega arith
pairs-skip (suc n) [] h = absurd (omega (arith, run-le (λ b. eqb b 0x22) []))
pairs-skip (suc n) (a ∷ []) h = absurd (omega (arith, run-le (λ b. eqb b 0x22) (a ∷ [])))
pairs-skip (suc n) (a ∷ (b ∷ f)) h =
    let e : suc n + suc n ≡ suc (suc (n + n)) = omega arith in
    let x = run-first (λ b. eqb b 0x22) a (suc (n + n)) (b ∷ f) (omega arith) in
    let y = run-first (λ b. eqb b 0x22) b (n + n) f x.1 in
    rw (x.0, y.0, e) (omega (arith, pairs-skip n f y.1))

-- the pairs of m blocks of 64 quotes, and those behind them
pub blocks-pairs : (f : Bytes) (m rest : ℕ) → m ≡ run (λ b. eqb b 0x22) f / 64 → rest ≡ pairs (drop (64 * m) f) → 32 * m + rest ≡ pairs f
blocks-pairs f m rest h q =
    let e : 32 * m + 32 * m ≡ 64 * m = omega arith in
    omega (arith, pairs-skip (32 * m) f (omega arith), ap (λ (k : ℕ). pairs (drop k f)) e)

-- a line break at the front
pub break_front : (f : Bytes) → is_break f ≡ (leb 2 (length f) && (eqb (get_or f 0 0) 0x0D && eqb (get_or f 1 0) 0x0A))
unfolding is_break
break_front [] = refl
break_front (a ∷ []) = refl
break_front (a ∷ (b ∷ f)) = rw (le-leb 2 (length (a ∷ (b ∷ f))) (omega arith))

-- a line break at a place
pub record BreakAt (s : Bytes) (at : ℕ) : Type 0 where
  pub inside : at + 1 < length s
  pub first : get_or s at 0 ≡ 0x0D
  pub second : get_or s (at + 1) 0 ≡ 0x0A

-- where is_break says so, there is one
pub break-at : (s : Bytes) (i : ℕ) → is_break (drop i s) ≡ true → BreakAt s i
break-at s i e =
    let b = and_both (leb 2 (length (drop i s))) (eqb (get_or (drop i s) 0 0) 0x0D && eqb (get_or (drop i s) 1 0) 0x0A) (sym (break_front (drop i s)) ∙ e) in
    let c = and_both (eqb (get_or (drop i s) 0 0) 0x0D) (eqb (get_or (drop i s) 1 0) 0x0A) b.1 in
    let z : i + 0 ≡ i = omega arith in
    record {
      inside = omega (arith, leb-true 2 (length (drop i s)) b.0, length-drop i s);
      first = rw (get_or-drop, z) at (eqb-true (get_or (drop i s) 0 0) 0x0D c.0);
      second = rw get_or-drop at (eqb-true (get_or (drop i s) 1 0) 0x0A c.1);
    }
