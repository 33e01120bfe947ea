-- What a write to a part of a buffer leaves.
use Prim.Native.Nat.{ℕ, ◌+◌, ◌≤◌}
use mathlib.Core.Path.{◌≡◌}
use mathlib.Core.List.{List, [], ◌∷◌, ◌++◌, append_assoc}
use lib.ListN.{length, set}
use lib.Seq.{sets, sets-eq, drop-drop}
use Rattle.format.proofs.Filling.{sets-append}
use borrow.Rule.Slice.PartMut.{put_mid}

pub put_mid-sets : {A : Type 0} (a k : ℕ) (xs ys : List A) → length ys ≡ k → a + k ≤ length xs → put_mid a k xs ys ≡ sets xs a ys
put_mid-sets a k xs ys e h = rw (sets-eq ys xs a (rw (← e) at h), append_assoc, e, drop-drop k a xs)

-- and another element behind it
pub set-put_mid :
    {A : Type 0} (a k : ℕ) (xs ys : List A) (i : ℕ) (x : A) → length ys ≡ k → a + k ≤ length xs → i ≡ a + k
    → set (put_mid a k xs ys) i x ≡ sets xs a (ys ++ (x ∷ []))
set-put_mid a k xs ys i x e h z = rw (put_mid-sets a k xs ys e h, sets-append ys (x ∷ []) xs a, e, z)

pub ruleset parts = (put_mid-sets, set-put_mid)
