-- Distances between the numbers of a list: one after the other, against an order, and against the gaps of a list that never falls.
use Prim.Native.Nat.{ℕ, suc, ◌+◌, ◌-◌, ◌≤◌, ◌<◌}
use native.Mathlib.Numerals.{add-one}
use native.Mathlib.Omega.{arith}
use mathlib.Core.Path.{◌≡◌, subst}
use mathlib.Core.Logic.{◌⊎◌, inl, inr, ◌↔◌}
use mathlib.Core.List.{List, [], ◌∷◌}
use lib.ListN.{length, drop, get_or, drop_of_length-le}
use lib.Seq.{drop-cons}
use Rattle.std.specs.Prelude.{true, false, Option, Some, None as Nothing, is_some}
use Rattle.format.specs.Table.{None}
use Rattle.format.specs.Memory.{Ordered, gaps}
use Rattle.format.proofs.First.{none_first}
use Rattle.format.proofs.Memory.{gaps-more, gaps-none}
use Rattle.tables.specs.Seek.{Sought, paired, Strays}
use Rattle.tables.proofs.Seeking.{Further, found, nowhere, pass, Agree, sought-agree}

paired-more : (n i : ℕ) (l : List ℕ) → i < length l → paired n (drop i l) ≡ (n, get_or l i 0) ∷ paired (get_or l i 0) (drop (i + 1) l)
unfolding paired
paired-more n i l h = rw (add-one, drop-cons l i 0 h)

paired_none : (n i : ℕ) (l : List ℕ) → length l ≤ i → paired n (drop i l) ≡ []
unfolding paired
paired_none n i l h = rw (drop_of_length-le l h)

keeps : (least most n m : ℕ) → n + least ≤ m → m ≤ n + most → Strays least most (n, m) → ⊥
keeps least most n m h k (inl x) = omega arith
keeps least most n m h k (inr x) = omega arith

-- where there are no numbers, none strays
pub nothing_strays : (least most n : ℕ) (l : List ℕ) → length l ≤ 0 → None (Strays least most) (paired n l)
nothing_strays least most n l h = rw (paired_none n 0 l h) tt

-- where no number is above the most, none strays exactly if each is at least so much above the one before it
module _ (least most : ℕ) where
  abbrev Above : ℕ → ℕ → Type 0
  Above n m = n + least ≤ m

  none-strays : (n : ℕ) (l : List ℕ) → None (Strays least most) (paired n l) → Ordered Above n l
  unfolding paired
  none-strays n [] x = tt
  none-strays n (m ∷ l) x =
      let h : m < n + least → ⊥ = λ y. x.0 (inl y) in
      (omega (arith, h), none-strays m l x.1)

  none-strays-back : (n : ℕ) (l : List ℕ) → ((i : ℕ) → get_or l i 0 ≤ most) → Ordered Above n l → None (Strays least most) (paired n l)
  unfolding paired
  none-strays-back n [] f o = tt
  none-strays-back n (m ∷ l) f o = (keeps least most n m o.0 (omega (arith, f 0)), none-strays-back m l (λ i. f (suc i)) o.1)

  pub in_order : (n : ℕ) (l : List ℕ) (r : Option ℕ) → is_some r ≡ false → Sought (Strays least most) (paired n l) r → Ordered (λ a b. a + least ≤ b) n l
  in_order n l (Some k) e s = cc
  in_order n l Nothing e s = none-strays n l s

  pub out_of_order :
      (n : ℕ) (l : List ℕ) (r : Option ℕ) → ((i : ℕ) → get_or l i 0 ≤ most) → is_some r ≡ true → Sought (Strays least most) (paired n l) r
      → Ordered (λ a b. a + least ≤ b) n l → ⊥
  out_of_order n l (Some k) f e s o = none_first (none-strays-back n l f o) s
  out_of_order n l Nothing f e s o = cc

-- a number below the least or above the most
abbrev pub Outside : ℕ → ℕ → ℕ → Type 0
Outside least most n = (n < least) ⊎ (most < n)

module _ (least most : ℕ) where
  by-gap : (n m : ℕ) → n ≤ m → Strays least most (n, m) ↔ Outside least most (m - n)
  by-gap n m h = (there, back)
    where
      there : Strays least most (n, m) → Outside least most (m - n)
      there (inl x) = inl (omega (arith, x))
      there (inr x) = inr (omega (arith, x))

      back : Outside least most (m - n) → Strays least most (n, m)
      back (inl x) = inl (omega (arith, x))
      back (inr x) = inr (omega (arith, x))

  gaps-agree : (n : ℕ) (l : List ℕ) → Ordered ◌≤◌ n l → Agree (Strays least most) (Outside least most) (paired n l) (gaps n l)
  unfolding paired
  gaps-agree n [] o = rw (gaps-none n 0 [] (omega arith)) tt
  gaps-agree n (m ∷ l) o = rw (gaps-more n 0 (m ∷ l) (omega arith)) (by-gap n m o.0, gaps-agree m l o.1)

  -- in a list that never falls, a number strays exactly if its gap is outside
  pub sought-gaps : (n : ℕ) (l : List ℕ) (r : Option ℕ) → Ordered ◌≤◌ n l → Sought (Strays least most) (paired n l) r → Sought (Outside least most) (gaps n l) r
  sought-gaps n l r o s = sought-agree (Strays least most) (Outside least most) (paired n l) (gaps n l) r (gaps-agree n l o) s

-- a walk at entry i, where the one before it is n
module _ (least most n i : ℕ) (l : List ℕ) (g : Further (Strays least most) (paired 0 l) i (paired n (drop i l))) where
  next-entry : i < length l → Further (Strays least most) (paired 0 l) i ((n, get_or l i 0) ∷ paired (get_or l i 0) (drop (i + 1) l))
  next-entry h = subst (Further (Strays least most) (paired 0 l) i) (paired-more n i l h) g

  pub strays_there : i < length l → Strays least most (n, get_or l i 0) → Sought (Strays least most) (paired 0 l) (Some i)
  strays_there h o = found (Strays least most) (paired 0 l) i (n, get_or l i 0) _ (next-entry h) o

  pub goes_on :
      i < length l → (Strays least most (n, get_or l i 0) → ⊥)
      → Further (Strays least most) (paired 0 l) (i + 1) (paired (get_or l i 0) (drop (i + 1) l))
  goes_on h o = pass (Strays least most) (paired 0 l) i (n, get_or l i 0) _ (next-entry h) o

  pub none-strays_there : length l ≤ i → Sought (Strays least most) (paired 0 l) Nothing
  none-strays_there h = nowhere (Strays least most) (paired 0 l) i (subst (Further (Strays least most) (paired 0 l) i) (paired_none n i l h) g)
