-- Line feeds from a place on, and what stands behind the last of them.
use Prim.Native.Nat.{ℕ, suc, ◌+◌, ◌≤◌, ◌<◌}
use native.Mathlib.Numerals.{add-one}
use native.Mathlib.Omega.{arith}
use mathlib.Core.Path.{◌≡◌, refl, ap, ◌∙◌}
use mathlib.Core.Bool.{Bool, true, false, cond, not}
use mathlib.Core.List.{[], ◌∷◌, reverse}
use lib.Dec.{eqb}
use lib.ListN.{length, get_or, drop, drop_of_length-le}
use lib.Seq.{drop-cons}
use mir.Val.{bool_byte}
use borrow.Author.Tests.{ne_eqb, eq-eqb, eqb-true, eqb-false}
use Rattle.std.proofs.lemmas.Grind.{reverse_onto}
use Rattle.std.proofs.lemmas.List.{length-reverse}
use Rattle.std.proofs.lemmas.List.Folds.{prefix_len-append}
use Rattle.std.proofs.lemmas.List.Sums.{prefix_len-le-length}
use Rattle.std.specs.List.{prefix_len}
use Rattle.format.specs.Table.{Bytes}
use Rattle.format.specs.Place.{line_feeds, since_lf}
use Rattle.format.proofs.Places.{feeds-nil, feeds-byte}

pub feeds-more :
    (s : Bytes) (i v : ℕ) → i < length s → v ≡ bool_byte (eqb (get_or s i 0) 0x0A) → (v ≤ 1) × (line_feeds (drop i s) ≡ v + line_feeds (drop (i + 1) s))
feeds-more s i v h e = rw (add-one, drop-cons s i 0, feeds-byte (get_or s i 0) (drop (suc i) s), e) (go (eqb (get_or s i 0) 0x0A))
  where
    go : (x : Bool) → (bool_byte x ≤ 1) × (cond x 1 0 + line_feeds (drop (suc i) s) ≡ bool_byte x + line_feeds (drop (suc i) s))
    go true = (omega arith, refl)
    go false = (omega arith, refl)

pub feeds-none : (s : Bytes) (i : ℕ) → length s ≤ i → line_feeds (drop i s) ≡ 0
feeds-none s i h = rw (drop_of_length-le s h, feeds-nil)

-- from the end, as many bytes are no LF as stand behind the last; they are all where there is none
record Ends (f : Bytes) : Type 0 where
  count : prefix_len (λ b. not (eqb b 0x0A)) (reverse f) ≡ length (since_lf f)
  whole : eqb (prefix_len (λ b. not (eqb b 0x0A)) (reverse f)) (length f) ≡ eqb (line_feeds f) 0

ends : (f : Bytes) → Ends f
unfolding since_lf line_feeds
ends [] = record { count = refl; whole = refl }
ends (b ∷ f) = go (eqb b 0x0A) (eqb (line_feeds f) 0) refl refl (ends f)
  where
    n : ℕ
    n = prefix_len (λ b. not (eqb b 0x0A)) (reverse f)

    more : prefix_len (λ b. not (eqb b 0x0A)) (reverse (b ∷ f)) ≡ cond (eqb n (length f)) (length f + cond (not (eqb b 0x0A)) (1 + 0) 0) n
    more = rw (reverse_onto f b [], prefix_len-append, length-reverse)

    go : (x y : Bool) → eqb b 0x0A ≡ x → eqb (line_feeds f) 0 ≡ y → Ends f → Ends (b ∷ f)
    go true true p q ih =
        let all = eqb-true n (length f) (ih.whole ∙ q) in
        let some : eqb (1 + line_feeds f) 0 ≡ false = ne_eqb (1 + line_feeds f) 0 (λ z. omega arith) in
        record {
          count = more ∙ rw (ih.whole, q, p, some) (omega (arith, ih.count, all));
          whole = ap (λ (m : ℕ). eqb m (suc (length f))) more ∙ rw (ih.whole, q, p, some) (ne_eqb (length f + 0) (suc (length f)) (λ z. omega arith));
        }
    go false true p q ih =
        let none : eqb (0 + line_feeds f) 0 ≡ true = eq-eqb (0 + line_feeds f) 0 (omega (arith, eqb-true (line_feeds f) 0 q)) in
        record {
          count = more ∙ rw (ih.whole, q, p, none) (omega arith);
          whole = ap (λ (m : ℕ). eqb m (suc (length f))) more ∙ rw (ih.whole, q, p, none) (eq-eqb (length f + (1 + 0)) (suc (length f)) (omega arith));
        }
    go x false p q ih =
        let some : eqb (cond (eqb b 0x0A) 1 0 + line_feeds f) 0 ≡ false = ne_eqb (cond (eqb b 0x0A) 1 0 + line_feeds f) 0 (λ z. eqb-false (line_feeds f) 0 q (omega arith)) in
        let few : n ≤ length f = simp length-reverse at (prefix_len-le-length (λ b. not (eqb b 0x0A)) (reverse f)) in
        record {
          count = more ∙ rw (ih.whole, q, some) ih.count;
          whole = ap (λ (m : ℕ). eqb m (suc (length f))) more ∙ rw (ih.whole, q, some) (ne_eqb n (suc (length f)) (λ z. omega arith));
        }

pub since-counted : (f : Bytes) → prefix_len (λ b. not (eqb b 0x0A)) (reverse f) ≡ length (since_lf f)
since-counted f = (ends f).count
