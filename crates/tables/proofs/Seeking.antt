-- Searches. In rest form: whatever is sought in what is left of a list stands, so much further on, in the whole of it.
use Prim.Native.Nat.{ℕ, zero, suc, ◌+◌, ◌<◌}
use native.Mathlib.Nat.{add-zero}
use native.Mathlib.Omega.{arith}
use mathlib.Core.Path.{◌≡◌, refl, ap, subst}
use mathlib.Core.Logic.{◌↔◌}
use mathlib.Core.List.{List, [], ◌∷◌, map}
use lib.ListN.{length}
use Rattle.std.specs.Prelude.{Option, Some, None as Nothing, option_map, MatchOption}
use Rattle.std.specs.List.{AllWithin, HoldsAt}
use Rattle.format.specs.Table.{None, First, here, later}
use Rattle.format.proofs.First.{one-first, none_first}
use Rattle.tables.specs.Seek.{Sought}

module _ {A : Type 0} (P : A → Type 0) where
  abbrev pub Further : List A → ℕ → List A → Type 0
  Further l i rest = (r : Option ℕ) → Sought P rest r → Sought P l (option_map (λ k. i + k) r)

  pub found : (l : List A) (i : ℕ) (a : A) (rest : List A) → Further l i (a ∷ rest) → P a → Sought P l (Some i)
  found l i a rest f h = rw add-zero at (f (Some 0) (here h))

  pub nowhere : (l : List A) (i : ℕ) → Further l i [] → Sought P l Nothing
  nowhere l i f = f Nothing tt

  pub pass : (l : List A) (i : ℕ) (a : A) (rest : List A) → Further l i (a ∷ rest) → (P a → ⊥) → Further l (i + 1) rest
  pass l i a rest f n Nothing m = f Nothing (n, m)
  pass l i a rest f n (Some k) x =
      let e : i + suc k ≡ i + 1 + k = omega arith in
      subst (First P l) e (f (Some (suc k)) (later n x))

-- what std says of the first of a list's elements, by its place
pub sought-first :
    {A : Type 0} (P : A → Type 0) (l : List A) (r : Option ℕ)
    → MatchOption r (AllWithin (λ a. P a → ⊥) l 0 (length l)) (λ i. (i < length l) × HoldsAt P l i × AllWithin (λ a. P a → ⊥) l 0 i) → Sought P l r
sought-first P [] Nothing n = tt
sought-first P [] (Some k) (h, x, n) = absurd (omega arith)
sought-first P (a ∷ l) Nothing n =
    (n 0 a (omega arith) (omega arith), sought-first P l Nothing (λ k d h i. n (suc k) d (omega arith) (omega arith)))
sought-first P (a ∷ l) (Some zero) (h, x, n) = here (x a)
sought-first P (a ∷ l) (Some (suc k)) (h, x, n) =
    later (n 0 a (omega arith) (omega arith)) (sought-first P l (Some k) (omega arith, λ d. x d, λ j d i m. n (suc j) d (omega arith) (omega arith)))

-- any two outcomes of a search coincide
pub one-sought : {A : Type 0} (P : A → Type 0) (l : List A) (r s : Option ℕ) → Sought P l r → Sought P l s → r ≡ s
one-sought P l (Some j) (Some k) x y = ap (λ (n : ℕ). Some n) (one-first x y)
one-sought P l (Some j) Nothing x n = absurd (none_first n x)
one-sought P l Nothing (Some k) n x = absurd (none_first n x)
one-sought P l Nothing Nothing n m = refl

-- two lists where, place by place, one has P exactly if the other has Q: what is sought stands at one place in both
module _ {A B : Type 0} (P : A → Type 0) (Q : B → Type 0) where
  abbrev pub Agree : List A → List B → Type 0
  Agree [] [] = Unit {0}
  Agree [] (b ∷ m) = ⊥
  Agree (a ∷ l) [] = ⊥
  Agree (a ∷ l) (b ∷ m) = (P a ↔ Q b) × Agree l m

  agree-none : (l : List A) (m : List B) → Agree l m → None P l → None Q m
  agree-none [] [] r n = tt
  agree-none [] (b ∷ m) r n = absurd r
  agree-none (a ∷ l) [] r n = absurd r
  agree-none (a ∷ l) (b ∷ m) (s, r) n = (λ h. n.0 (s.1 h), agree-none l m r n.1)

  agree-first : (l : List A) (m : List B) {k : ℕ} → Agree l m → First P l k → First Q m k
  agree-first (a ∷ l) [] r x = absurd r
  agree-first (a ∷ l) (b ∷ m) (s, r) (here h) = here (s.0 h)
  agree-first (a ∷ l) (b ∷ m) (s, r) (later n x) = later (λ h. n (s.1 h)) (agree-first l m r x)
  agree-first [] m {k = k} r x = elim x [ ]

  pub sought-agree : (l : List A) (m : List B) (r : Option ℕ) → Agree l m → Sought P l r → Sought Q m r
  sought-agree l m (Some k) a x = agree-first l m a x
  sought-agree l m Nothing a n = agree-none l m a n

-- sought by the lengths of lists
module _ {A : Type 0} (P : ℕ → Type 0) (Q : List A → Type 0) (same : (l : List A) → P (length l) ↔ Q l) where
  lengths-agree : (ls : List (List A)) → Agree P Q (map length ls) ls
  lengths-agree [] = tt
  lengths-agree (l ∷ ls) = (same l, lengths-agree ls)

  pub sought-lengths : (ls : List (List A)) (r : Option ℕ) → Sought P (map length ls) r → Sought Q ls r
  sought-lengths ls r s = sought-agree P Q (map length ls) ls r (lengths-agree ls) s
