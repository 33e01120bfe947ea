-- Behind a refusal bytes are only counted: all at once.
use Prim.Native.Nat.{ℕ, suc, ◌+◌, ◌≤◌}
use native.Mathlib.Omega.{arith}
use native.Mathlib.Nat.{add-zero}
use mathlib.Core.Path.{◌≡◌, refl, sym, ap, ap₂, ◌∙◌}
use mathlib.Core.Bool.{Bool, true, false, cond}
use mathlib.Core.List.{[], ◌∷◌}
use lib.Dec.{eqb}
use lib.ListN.{length}
use borrow.Author.Tests.{eqb-true, ne_eqb}
use Rattle.format.specs.declared.Place.{Place}
use Rattle.format.specs.Table.{Bytes}
use Rattle.format.specs.Place.{line_feeds, since_lf}
use Rattle.format.proofs.Places.{feeds-nil, feeds-lf, feeds-other, since_none, since-on}
use Rattle.state.specs.declared.Check.{Check}
use Rattle.places.specs.Counters.{counter_limit, moved, spot}
use Rattle.state.specs.Check.{placed, fed, fed_all}
use Rattle.places.proofs.Counting.{moved-along}
use Rattle.state.proofs.Jumps.{refused-step}
use Rattle.places.proofs.Counting.{spot-along, spot-line, spot-none}

-- the bytes behind the last line feed of t bytes and then g
tail : ℕ → Bytes → ℕ
tail t g = cond (eqb (line_feeds g) 0) (t + length g) (length (since_lf g))

since : (g : Bytes) → tail 0 g ≡ length (since_lf g)
unfolding tail
since g = go (eqb (line_feeds g) 0) refl
  where
    go : (y : Bool) → eqb (line_feeds g) 0 ≡ y → cond y (0 + length g) (length (since_lf g)) ≡ length (since_lf g)
    go true q = rw (since_none g (eqb-true (line_feeds g) 0 q)) (omega arith)
    go false q = refl

module _ (c : Check) (h : c.refusal ≡ 0 → ⊥) where
  one : (p : Place) (b : ℕ) → fed (placed p c) b ≡ placed (moved b p) c
  unfolding placed
  one p b = refused-step (placed p c) b h

  -- a line feed begins the tail anew, and another byte is one more of it
  tail-lf : (t b : ℕ) (g : Bytes) → eqb b 0x0A ≡ true → tail 0 g ≡ tail t (b ∷ g)
  unfolding tail
  tail-lf t b g e =
      let some : eqb (line_feeds (b ∷ g)) 0 ≡ false = ne_eqb (line_feeds (b ∷ g)) 0 (λ q. omega (arith, feeds-lf b g e)) in
      since g ∙ rw (some, since-on b g some)

  tail-other : (t b : ℕ) (g : Bytes) → eqb b 0x0A ≡ false → tail (t + 1) g ≡ tail t (b ∷ g)
  unfolding tail
  tail-other t b g e = go (eqb (line_feeds g) 0) refl
    where
      go : (y : Bool) → eqb (line_feeds g) 0 ≡ y → cond y (t + 1 + length g) (length (since_lf g)) ≡ cond (eqb (line_feeds (b ∷ g)) 0) (t + suc (length g)) (length (since_lf (b ∷ g)))
      go true q = rw (feeds-other b g e, q) (omega arith)
      go false q =
          let some : eqb (line_feeds (b ∷ g)) 0 ≡ false = rw (feeds-other b g e) q in
          rw (some, since-on b g some)

  all : (g : Bytes) (l t n : ℕ) (p : Place) → fed_all (placed (spot l t n p) c) g ≡ placed (spot (l + line_feeds g) (tail t g) (n + length g) p) c
  unfolding fed_all tail
  all [] l t n p = rw (feeds-nil, add-zero l, add-zero t, add-zero n)
  all (b ∷ g) l t n p = ap (λ (e : Check). fed_all e g) (one (spot l t n p) b) ∙ go (eqb b 0x0A) refl (λ l' t' n'. all g l' t' n' p)
    where
      bytes : n + 1 + length g ≡ n + suc (length g)
      bytes = omega arith

      there : (l' t' n' l'' t'' n'' : ℕ) → l' ≡ l'' → t' ≡ t'' → n' ≡ n'' → placed (spot l' t' n' p) c ≡ placed (spot l'' t'' n'' p) c
      there l' t' n' l'' t'' n'' e₁ e₂ e₃ = rw (e₁, e₂, e₃)

      go :
          (y : Bool) → eqb b 0x0A ≡ y → ((l' t' n' : ℕ) → fed_all (placed (spot l' t' n' p) c) g ≡ placed (spot (l' + line_feeds g) (tail t' g) (n' + length g) p) c)
          → fed_all (placed (moved b (spot l t n p)) c) g ≡ placed (spot (l + line_feeds (b ∷ g)) (tail t (b ∷ g)) (n + suc (length g)) p) c
      go true e ih =
          ap (λ (q : Place). fed_all (placed q c) g) (ap (λ (x : ℕ). moved x (spot l t n p)) (eqb-true b 0x0A e) ∙ spot-line l t n p)
          ∙ ih (l + 1) 0 (n + 1)
          ∙ there (l + 1 + line_feeds g) (tail 0 g) (n + 1 + length g) (l + line_feeds (b ∷ g)) (tail t (b ∷ g)) (n + suc (length g)) (omega (arith, feeds-lf b g e)) (tail-lf t b g e) bytes
      go false e ih =
          ap (λ (q : Place). fed_all (placed q c) g) (moved-along b (spot l t n p) e ∙ spot-along 1 l t n p)
          ∙ ih l (t + 1) (n + 1)
          ∙ there (l + line_feeds g) (tail (t + 1) g) (n + 1 + length g) (l + line_feeds (b ∷ g)) (tail t (b ∷ g)) (n + suc (length g)) (omega (arith, feeds-other b g e)) (tail-other t b g e) bytes

  -- from the state itself
  module _ (line : c.here.line.0 ≤ counter_limit) (column : c.here.column.0 ≤ counter_limit) (byte : c.here.byte.0 ≤ counter_limit) where
    itself : placed (spot 0 0 0 c.here) c ≡ c
    unfolding placed
    itself = rw (spot-none c.here line column byte)

    pub refused_all : (g : Bytes) → fed_all c g ≡ placed (spot (line_feeds g) (length (since_lf g)) (length g) c.here) c
    refused_all g =
        let z₁ : 0 + line_feeds g ≡ line_feeds g = omega arith in
        let z₂ : 0 + length g ≡ length g = omega arith in
        ap (λ (e : Check). fed_all e g) (sym itself) ∙ all g 0 0 0 c.here
        ∙ ap₂ (λ (l n : ℕ). placed (spot l (tail 0 g) n c.here) c) z₁ z₂
        ∙ ap (λ (t : ℕ). placed (spot (line_feeds g) t (length g) c.here) c) (since g)
