-- Lists: what is out grows at its end.
use Prim.Native.Nat.{ℕ, zero, suc, ◌+◌, ◌-◌, ◌≤◌, min}
use native.Mathlib.Omega.{arith}
use mathlib.Core.Path.{◌≡◌, refl, sym, ap, ◌∙◌}
use mathlib.Core.Bool.{Bool, true, false, cond}
use mathlib.Core.List.{List, [], ◌∷◌, ◌++◌, append_assoc}
use lib.Dec.{leb}
use lib.ListN.{length, take, replicate, length-replicate, replicate-append-replicate}
use lib.Seq.{take_all}
use borrow.Author.Tests.{leb-true, leb-false}

module _ {A : Type 0} where
  pub take-join : (n : ℕ) (p q : List A) → take n (p ++ q) ≡ take n p ++ take (n - length p) q
  take-join n [] q = let e : n ≡ n - 0 = omega arith in nil n ∙ ap (λ (m : ℕ). take n [] ++ take m q) e
    where
      nil : (n : ℕ) → take n q ≡ take n [] ++ take n q
      nil zero = refl
      nil (suc n) = refl
  take-join zero (a ∷ p) q = let e : zero ≡ zero - suc (length p) = omega arith in ap (λ (m : ℕ). take m q) e
  take-join (suc n) (a ∷ p) q =
      let e : n - length p ≡ suc n - suc (length p) = omega arith in ap (λ (r : List A). a ∷ r) (take-join n p q ∙ ap (λ (m : ℕ). take n p ++ take m q) e)

  pub take_same : (n m : ℕ) (a : A) → take n (replicate m a) ≡ replicate (min n m) a
  take_same zero m a = let e : zero ≡ min zero m = omega arith in ap (λ (i : ℕ). replicate i a) e
  take_same (suc n) zero a = let e : zero ≡ min (suc n) zero = omega arith in ap (λ (i : ℕ). replicate i a) e
  take_same (suc n) (suc m) a =
      let e : suc (min n m) ≡ min (suc n) (suc m) = omega arith in ap (λ (r : List A). a ∷ r) (take_same n m a) ∙ ap (λ (i : ℕ). replicate i a) e

-- The content c with h blanks sp and the byte b behind it, up to the limit k, of which c and m of the blanks are out: what is left.
module _ (k : ℕ) (c : List ℕ) (m h : ℕ) (sp b : ℕ) (fewer : m ≤ h) where
  one : (x : Bool) → leb (length c + h + 1) k ≡ x → take (k - length c - h) (b ∷ []) ≡ cond x (b ∷ []) []
  one true e = take_all (k - length c - h) (b ∷ []) (omega (arith, leb-true (length c + h + 1) k e))
  one false e = let z : k - length c - h ≡ zero = omega (arith, leb-false (length c + h + 1) k e) in ap (λ (i : ℕ). take i (b ∷ [])) z

  pub text-left :
      take k (c ++ replicate m sp) ++ (replicate (min (h - m) (k - (length c + m))) sp ++ cond (leb (length c + h + 1) k) (b ∷ []) [])
      ≡ take k (c ++ (replicate h sp ++ (b ∷ [])))
  text-left =
      let i = k - length c in
      let u : take k (c ++ replicate m sp) ≡ take k c ++ replicate (min i m) sp =
      take-join k c (replicate m sp) ∙ ap (λ (r : List ℕ). take k c ++ r) (take_same i m sp) in
      let v : take i (replicate h sp ++ (b ∷ [])) ≡ replicate (min i h) sp ++ cond (leb (length c + h + 1) k) (b ∷ []) [] =
      take-join i (replicate h sp) (b ∷ [])
      ∙ (ap (λ (r : List ℕ). r ++ take (i - length (replicate h sp)) (b ∷ [])) (take_same i h sp)
      ∙ (ap (λ (j : ℕ). replicate (min i h) sp ++ take (i - j) (b ∷ [])) (length-replicate h sp)
      ∙ ap (λ (r : List ℕ). replicate (min i h) sp ++ r) (one (leb (length c + h + 1) k) refl))) in
      let y : min i m + min (h - m) (k - (length c + m)) ≡ min i h = omega arith in
      let w : replicate (min i m) sp ++ replicate (min (h - m) (k - (length c + m))) sp ≡ replicate (min i h) sp =
      replicate-append-replicate (min i m) (min (h - m) (k - (length c + m))) sp ∙ ap (λ (j : ℕ). replicate j sp) y in
      let z = cond (leb (length c + h + 1) k) (b ∷ []) [] in
      rw (u, append_assoc (take k c) (replicate (min i m) sp) (replicate (min (h - m) (k - (length c + m))) sp ++ z), ← append_assoc (replicate (min i m) sp) (replicate (min (h - m) (k - (length c + m))) sp) z, w)
      (sym (take-join k c (replicate h sp ++ (b ∷ [])) ∙ ap (λ (r : List ℕ). take k c ++ r) v))

  -- and with only some of those blanks
  pub blanks-left : (j : ℕ) → j ≤ min (h - m) (k - (length c + m)) → take k (c ++ replicate m sp) ++ replicate j sp ≡ take k (c ++ replicate (m + j) sp)
  blanks-left j l =
      let i = k - length c in
      let u : take k (c ++ replicate m sp) ≡ take k c ++ replicate (min i m) sp =
      take-join k c (replicate m sp) ∙ ap (λ (r : List ℕ). take k c ++ r) (take_same i m sp) in
      let v : take k (c ++ replicate (m + j) sp) ≡ take k c ++ replicate (min i (m + j)) sp =
      take-join k c (replicate (m + j) sp) ∙ ap (λ (r : List ℕ). take k c ++ r) (take_same i (m + j) sp) in
      let y : min i m + j ≡ min i (m + j) = omega arith in
      rw (u, v, append_assoc (take k c) (replicate (min i m) sp) (replicate j sp), replicate-append-replicate (min i m) j sp)
      (ap (λ (n : ℕ). take k c ++ replicate n sp) y)
