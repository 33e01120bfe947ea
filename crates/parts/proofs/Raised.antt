-- Entries that were put in a buffer, made greater.
use Prim.Native.Nat.{ℕ, zero, suc, ◌+◌, ◌-◌, ◌≤◌, ◌<◌, ◌^◌}
use native.Mathlib.Omega.{arith}
use mathlib.Core.Path.{◌≡◌, refl, sym, ap, ◌∙◌}
use mathlib.Core.List.{List, [], ◌∷◌, ◌++◌, map, append_assoc}
use lib.ListN.{length, take, drop, length-append}
use lib.Seq.{sets, sets-eq, length-sets, length-take-le, take_at, drop_at}
use borrow.Rule.Slice.PartMut.{put_mid}
use Rattle.std.proofs.Common.{All}
use Rattle.format.specs.Table.{Every}
use Rattle.fill.specs.Walk.{raised}
use Rattle.taking.specs.Walk.{Put}
use Rattle.taking.proofs.Growing.{put-size}
use Rattle.taking.proofs.Put.{put_mid-sets}

pub map-raised : (n : ℕ) (l : List ℕ) → map (λ (x : ℕ). x + n) l ≡ raised n l
map-raised n [] = refl
map-raised n (x ∷ l) = ap (λ (m : List ℕ). (x + n) ∷ m) (map-raised n l)

length-raised : (n : ℕ) (l : List ℕ) → length (raised n l) ≡ length l
length-raised n [] = refl
length-raised n (x ∷ l) = ap suc (length-raised n l)

-- entries of which each is no more than so much
pub small-all : (n most : ℕ) (l : List ℕ) → Every (λ (x : ℕ). x ≤ most) l → most + n < 2 ^ 32 → All (λ (x : ℕ). x + n < 2 ^ 32) l
small-all n most [] h b k d i = absurd (omega (arith, i))
small-all n most (x ∷ l) h b zero d i = omega (arith, h.0, b)
small-all n most (x ∷ l) h b (suc k) d i = small-all n most l h.1 b k d (omega (arith, i))

-- what was put there, and what is put over it
module _ (buf new : List ℕ) (at : ℕ) (room : at + length new ≤ length buf) where
  put_back : take (length new) (drop at (sets buf at new)) ≡ new
  put_back =
      ap (λ (l : List ℕ). take (length new) (drop at l)) (sets-eq new buf at room ∙ append_assoc (take at buf) new (drop (at + length new) buf))
      ∙ (ap (take (length new)) (drop_at (take at buf) (new ++ drop (at + length new) buf) at (length-take-le at buf (omega (arith, room))))
      ∙ take_at new (drop (at + length new) buf) (length new) refl)

  put-over : (m : List ℕ) → length m ≡ length new → sets (sets buf at new) at m ≡ sets buf at m
  put-over m e =
      let b : List ℕ = drop (at + length new) buf in
      let f : length (take at buf) ≡ at = length-take-le at buf (omega (arith, room)) in
      let p = sets-eq new buf at room ∙ append_assoc (take at buf) new b in
      let q = sets-eq m (sets buf at new) at (omega (arith, length-sets buf at new, room, e)) in
      let s = sets-eq m buf at (omega (arith, room, e)) in
      let t : take at (sets buf at new) ≡ take at buf = ap (take at) p ∙ take_at (take at buf) (new ++ b) at f in
      let n : length (take at buf ++ new) ≡ at + length m = length-append (take at buf) new ∙ omega (arith, f, e) in
      let d : drop (at + length m) (sets buf at new) ≡ b =
      ap (drop (at + length m)) (p ∙ sym (append_assoc (take at buf) new b)) ∙ drop_at (take at buf ++ new) b (at + length m) n in
      let u : b ≡ drop (at + length m) buf = ap (λ (j : ℕ). drop (at + j) buf) (sym e) in
      q ∙ ((λ i. t i ++ m ++ d i) ∙ ((λ i. take at buf ++ m ++ u i) ∙ sym s))

module _ {buf new buf' : List ℕ} {at at' : ℕ} (w : Put buf at new buf' at') where
  new_is : take (at' - at) (drop at buf') ≡ new
  new_is =
      let e : at' - at ≡ length new = omega (arith, w.at_is) in
      (λ i. take (e i) (drop at (w.buf_is i))) ∙ put_back buf new at w.room

  pub put-raised :
      (n : ℕ) {raised' : List ℕ} → raised' ≡ map (λ (x : ℕ). x + n) (take (at' - at) (drop at buf'))
      → Put buf at (raised n new) (put_mid at (at' - at) buf' raised') at'
  put-raised n {raised'} e =
      let l = length-raised n new in
      let r : raised' ≡ raised n new = e ∙ (ap (map (λ (x : ℕ). x + n)) new_is ∙ map-raised n new) in
      let k : at' - at ≡ length new = omega (arith, w.at_is) in
      let p : put_mid at (at' - at) buf' raised' ≡ sets buf' at raised' = put_mid-sets at (at' - at) buf' raised' (ap length r ∙ omega (arith, l, k)) (omega (arith, put-size w, w.room, k)) in
      record {
        room = omega (arith, w.room, l);
        buf_is = p ∙ ((λ i. sets (w.buf_is i) at (r i)) ∙ put-over buf new at w.room (raised n new) l);
        at_is = omega (arith, w.at_is, l);
      }

  pub put-small : (n most : ℕ) → Every (λ (x : ℕ). x ≤ most) new → most + n < 2 ^ 32 → All (λ (x : ℕ). x + n < 2 ^ 32) (take (at' - at) (drop at buf'))
  put-small n most h b = rw new_is (small-all n most new h b)
