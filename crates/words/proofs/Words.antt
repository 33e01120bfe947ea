-- A word of marks: its bound, its trailing zeros, and what a shift drops.
use Prim.Native.Nat.{ℕ, zero, suc, ◌+◌, ◌-◌, ◌*◌, ◌/◌, ◌%◌, ◌^◌, ◌≤◌, ◌<◌, min}
use native.Mathlib.Nat.{pow-suc, lt_of_lt_of_le, zero-div, mul_assoc}
use native.Mathlib.Numerals.{one-add}
use native.Mathlib.Omega.{arith}
use mathlib.Core.Path.{◌≡◌, refl, ◌∙◌, ap, ap₂, sym}
use mathlib.Core.Bool.{Bool, true, false, cond, not}
use mathlib.Core.List.{List, [], ◌∷◌, ◌++◌}
use lib.Count.{count_trailing_zeros, under}
use lib.ListN.{length, take, drop, get_or, length-drop, length-take}
use lib.Pow.{pow_mono, shr-shr}
use lib.Seq.{drop-cons, get_or-drop, length-take-le, take-add, take_all, take-nil, drop-drop, ext_get_or}
use lib.Dec.{leb}
use mir.Val.{bool_byte}
use Rattle.std.specs.Simd.{first_chunks}
use borrow.Author.Tests.{leb-true, leb-false}
use Rattle.format.specs.Table.{Bytes}
use Rattle.runs.specs.Runs.{run}
use Rattle.words.specs.Words.{bit, word, block_end, Marks}

-- a chunk of n bytes by its place
pub chunk-at : (n c k : ℕ) (s : Bytes) → k < c → get_or (first_chunks n c s) k [] ≡ take n (drop (n * k) s)
chunk-at n zero k s h = absurd (omega arith)
chunk-at n (suc c) zero s h = let e : n * 0 ≡ 0 = omega arith in rw e
chunk-at n (suc c) (suc k) s h =
    let e : n + n * k ≡ n * suc k = omega arith in
    chunk-at n c k (drop n s) (omega arith) ∙ ap (take n) (drop-drop (n * k) n s ∙ ap (λ (j : ℕ). drop j s) e)

pub bit_le : (x : Bool) → bit x ≤ 1
bit_le true = omega arith
bit_le false = omega arith

module _ (t : List Bool) where
  pub word_lt : (s : Bytes) → word t s < 2 ^ length s
  unfolding word
  word_lt [] = omega arith
  word_lt (x ∷ s) = rw (pow-suc 2 (length s)) (omega (arith, word_lt s, bit_le (get_or t x false)))

  pub word_below : (s : Bytes) (k : ℕ) → length s ≤ k → word t s < 2 ^ k
  word_below s k h = lt_of_lt_of_le (word_lt s) (pow_mono h)

  low : (x : ℕ) (s : Bytes) → (word t s * 2 + bit (get_or t x false)) % 2 ≡ bit (get_or t x false)
  low x s = omega (arith, bit_le (get_or t x false))

  high : (x : ℕ) (s : Bytes) → (word t s * 2 + bit (get_or t x false)) / 2 ≡ word t s
  high x s = omega (arith, bit_le (get_or t x false))

  -- the places from which a byte is not marked
  abbrev pub unmarked : ℕ → Bool
  unmarked b = not (get_or t b false)

  first_by : (y : Bool) (f n l : ℕ) → (f < l → n ≡ f) → cond (not y) (1 + f) 0 < suc l → under (bit y) n ≡ cond (not y) (1 + f) 0
  first_by true f n l e h = refl
  first_by false f n l e h = rw (one-add, e (omega arith))

  pub first_word : (s : Bytes) (k : ℕ) → length s ≤ k → run unmarked s < length s → count_trailing_zeros k (word t s) ≡ run unmarked s
  unfolding word run count_trailing_zeros
  first_word [] k h l = absurd (omega arith)
  first_word (x ∷ s) zero h l = absurd (omega arith)
  first_word (x ∷ s) (suc k) h l =
      ap₂ (λ (m n : ℕ). under m (count_trailing_zeros k n)) (low x s) (high x s)
      ∙ first_by (get_or t x false) (run unmarked s) (count_trailing_zeros k (word t s)) (length s) (λ q. first_word s k (omega arith) q) l

  pub word-drop : (k : ℕ) (s : Bytes) → word t s / 2 ^ k ≡ word t (drop k s)
  unfolding word
  word-drop zero s = omega arith
  word-drop (suc k) [] = zero-div (2 ^ suc k)
  word-drop (suc k) (x ∷ s) =
      ap (λ (j : ℕ). (word t s * 2 + bit (get_or t x false)) / 2 ^ j) (sym (one-add k))
      ∙ sym (shr-shr (word t s * 2 + bit (get_or t x false)) 1 k)
      ∙ ap (λ (m : ℕ). m / 2 ^ k) (high x s) ∙ word-drop k s

  pub word-join : (a b : Bytes) → word t (a ++ b) ≡ word t b * 2 ^ length a + word t a
  unfolding word
  word-join [] b = omega arith
  word-join (x ∷ a) b = rw (pow-suc 2 (length a), word-join a b) (shift (word t b) (2 ^ length a) (word t a) (bit (get_or t x false)))
    where
      shift : (u p v c : ℕ) → (u * p + v) * 2 + c ≡ u * (p * 2) + (v * 2 + c)
      shift u p v c = let e : u * (p * 2) ≡ u * p * 2 = sym (mul_assoc u p 2) in omega (arith, e)

  -- the word of one byte is its mark
  pub one_word : (s : Bytes) (i b v : ℕ) → i < length s → b ≡ get_or s i 0 → v ≡ bool_byte (get_or t b false) → v ≡ word t (take 1 (drop i s))
  unfolding word
  one_word s i b v h e q = q ∙ rw (drop-cons s i 0, e) (go (get_or t (get_or s i 0) false))
    where
      go : (x : Bool) → bool_byte x ≡ 0 * 2 + bit x
      go true = refl
      go false = refl

  -- a word, and the word of the next k bytes shifted behind it
  module _ (s : Bytes) (i k w v : ℕ) (room : i + k ≤ length s) (fits : i + k ≤ 64) (e : w ≡ word t (take i s)) (h : v ≡ word t (take k (drop i s))) where
    behind : v * 2 ^ i + w ≡ word t (take (i + k) s)
    behind =
        let l : length (take i s) ≡ i = length-take-le i s (omega arith) in
        rw (e, h) (sym (ap (word t) (take-add i k s) ∙ word-join (take i s) (take k (drop i s)) ∙ ap (λ (n : ℕ). word t (take k (drop i s)) * 2 ^ n + word t (take i s)) l))

    all_small : word t (take (i + k) s) < 2 ^ 64
    all_small = word_below (take (i + k) s) 64 (rw (length-take (i + k) s) (omega arith))

    pub word-more : w + v * 2 ^ i % 2 ^ 64 ≡ word t (take (i + k) s)
    word-more = omega (arith, behind, all_small)

    pub word-fits : w + v * 2 ^ i % 2 ^ 64 < 2 ^ 64
    word-fits = omega (arith, behind, all_small)

  -- a word of no marks, and one of some
  pub word-clear : (s : Bytes) → word t s ≡ 0 → run unmarked s ≡ length s
  unfolding word run
  word-clear [] h = refl
  word-clear (x ∷ s) h = go (get_or t x false) h (λ q. word-clear s q)
    where
      go : (y : Bool) → word t s * 2 + bit y ≡ 0 → (word t s ≡ 0 → run unmarked s ≡ length s) → cond (not y) (1 + run unmarked s) 0 ≡ suc (length s)
      go true e ih = absurd (omega (arith, e))
      go false e ih = omega (arith, ih (omega (arith, e)))

  pub word-marked : (s : Bytes) → (word t s ≡ 0 → ⊥) → run unmarked s < length s
  unfolding word run
  word-marked [] h = absurd (h refl)
  word-marked (x ∷ s) h = go (get_or t x false) h (λ q. word-marked s q)
    where
      go : (y : Bool) → (word t s * 2 + bit y ≡ 0 → ⊥) → ((word t s ≡ 0 → ⊥) → run unmarked s < length s) → cond (not y) (1 + run unmarked s) 0 < suc (length s)
      go true e ih = omega arith
      go false e ih = omega (arith, ih (λ q. e (omega (arith, q))))

-- what a test that is the stronger one on bytes says of a front
pub run_take :
    (p q : ℕ → Bool) → ((b : ℕ) → b < 256 → q b ≡ true → p b ≡ true)
    → (n : ℕ) (s : Bytes) → ((j : ℕ) → get_or s j 0 < 256) → run q (take n s) ≤ run p s
unfolding run
run_take p q f zero s h = omega arith
run_take p q f (suc n) [] h = omega arith
run_take p q f (suc n) (b ∷ s) h = go (q b) refl (run_take p q f n s (λ j. h (suc j)))
  where
    go : (y : Bool) → q b ≡ y → run q (take n s) ≤ run p s → cond (q b) (1 + run q (take n s)) 0 ≤ cond (p b) (1 + run p s) 0
    go true e ih = rw (e, f b (h 0) e) (omega arith)
    go false e ih = rw e (omega arith)

-- an unmarked byte has the property
unmarked-has : (t : List Bool) (p : ℕ → Bool) → Marks t p → (b : ℕ) → b < 256 → unmarked t b ≡ true → p b ≡ true
unmarked-has t p h b l e = go (p b) (ap not (sym (h b l)) ∙ e)
  where
    go : (x : Bool) → not (not x) ≡ true → x ≡ true
    go true q = refl
    go false q = q

-- whatever the table, it marks each byte that it does not leave unmarked
pub marks-own : (t : List Bool) → Marks t (unmarked t)
marks-own t b l = twice (get_or t b false)
  where
    twice : (x : Bool) → x ≡ not (not x)
    twice true = refl
    twice false = refl

-- the marks of a property are one table
pub one_table : (t u : List Bool) (p : ℕ → Bool) → Marks t p → Marks u p → length t ≡ 256 → length u ≡ 256 → t ≡ u
one_table t u p h k l m = ext_get_or false t u (l ∙ sym m) (λ b q. h b (omega arith) ∙ sym (k b (omega arith)))

drop-take : (k n : ℕ) (s : Bytes) → drop k (take n s) ≡ take (n - k) (drop k s)
drop-take zero n s = ap (λ (j : ℕ). take j s) (none n)
  where
    none : (m : ℕ) → m ≡ m - 0
    none m = omega arith
drop-take (suc k) zero s = let e : 0 - suc k ≡ 0 = omega arith in rw e
drop-take (suc k) (suc n) [] = sym (take-nil (suc n - suc k))
drop-take (suc k) (suc n) (x ∷ s) = drop-take k n s ∙ ap (λ (j : ℕ). take j (drop k s)) (both n k)
  where
    both : (m j : ℕ) → m - j ≡ suc m - suc j
    both m j = omega arith

-- the word of the bytes from i to e
abbrev pub Marked : List Bool → Bytes → ℕ → ℕ → ℕ → Type 0
Marked t s e i w = w ≡ word t (take (e - i) (drop i s))

module _ (t : List Bool) (p : ℕ → Bool) (marks : Marks t p) (s : Bytes) (bytes : (j : ℕ) → get_or s j 0 < 256) (e i w : ℕ) (h : Marked t s e i w) where
  -- a shift goes on by that much
  pub marked-on : (k : ℕ) → Marked t s e (i + k) (w / 2 ^ k)
  marked-on k =
      let a : e - i - k ≡ e - (i + k) = omega arith in
      ap (λ (x : ℕ). x / 2 ^ k) h
      ∙ word-drop t k (take (e - i) (drop i s))
      ∙ ap (word t) (drop-take k (e - i) (drop i s))
      ∙ ap₂ (λ (n : ℕ) (l : Bytes). word t (take n l)) a (drop-drop k i s)

  text-le : run (unmarked t) (take (e - i) (drop i s)) ≤ run p (drop i s)
  text-le = run_take p (unmarked t) (unmarked-has t p marks) (e - i) (drop i s) (λ j. rw (get_or-drop i s j 0) (bytes (i + j)))

  block-length : e ≤ length s → length (take (e - i) (drop i s)) ≡ e - i
  block-length b = length-take-le (e - i) (drop i s) (rw (length-drop i s) (omega arith))

  -- no marks: plain text up to the end
  pub marked-none : e ≤ length s → w ≡ 0 → e - i ≤ run p (drop i s)
  marked-none b z = omega (arith, text-le, block-length b, word-clear t (take (e - i) (drop i s)) (sym h ∙ z))

  -- plain text up to the first mark
  pub marked-some : e ≤ length s → e - i ≤ 64 → (w ≡ 0 → ⊥) → (count_trailing_zeros 64 w < e - i) × (count_trailing_zeros 64 w ≤ run p (drop i s))
  marked-some b l z =
      let q = word-marked t (take (e - i) (drop i s)) (λ y. z (h ∙ y)) in
      let m : count_trailing_zeros 64 w ≡ run (unmarked t) (take (e - i) (drop i s)) =
      ap (count_trailing_zeros 64) h ∙ first_word t (take (e - i) (drop i s)) 64 (omega (arith, block-length b)) q in
      (omega (arith, m, q, block-length b), omega (arith, m, text-le))

-- the word of a part is one word, however far it reaches past the end
pub part-short : (t : List Bool) (s : Bytes) (i n m : ℕ) → length s - i ≤ n → length s - i ≤ m → word t (take n (drop i s)) ≡ word t (take m (drop i s))
part-short t s i n m h k = all n h ∙ sym (all m k)
  where
    all : (j : ℕ) → length s - i ≤ j → word t (take j (drop i s)) ≡ word t (drop i s)
    all j q = ap (word t) (take_all j (drop i s) (rw (length-drop i s) q))

-- the word of n bytes, or of as many as there are
pub marked-part : (t : List Bool) (s : Bytes) (n i w : ℕ) → w ≡ word t (take n (drop i s)) → Marked t s (i + min n (length s - i)) i w
marked-part t s n i w h = h ∙ by_length (leb n (length s - i)) refl
  where
    by_length : (x : Bool) → leb n (length s - i) ≡ x → word t (take n (drop i s)) ≡ word t (take (i + min n (length s - i) - i) (drop i s))
    by_length true e =
        let q = leb-true n (length s - i) e in
        let same : n ≡ i + min n (length s - i) - i = omega arith in
        ap (λ (m : ℕ). word t (take m (drop i s))) same
    by_length false e = let q = leb-false n (length s - i) e in part-short t s i n (i + min n (length s - i) - i) (omega arith) (omega arith)

-- the block from a place on: it is within the part and of at most 64 bytes, and the word of 64 marks is its own
pub record Block (t : List Bool) (s : Bytes) (i w : ℕ) : Type 0 where
  pub on : i < block_end (length s) i
  pub within : block_end (length s) i ≤ length s
  pub small : block_end (length s) i - i ≤ 64
  pub marked : Marked t s (block_end (length s) i) i w

pub block : (t : List Bool) (s : Bytes) (i w : ℕ) → i < length s → w ≡ word t (take 64 (drop i s)) → Block t s i w
block t s i w l h = record { on = omega arith; within = omega arith; small = omega arith; marked = marked-part t s 64 i w h }
