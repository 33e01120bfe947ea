-- Text and blanks without the blanks at their two ends are a field, of a content no longer.
use Prim.Native.Nat.{ℕ, suc, ◌+◌, ◌≤◌}
use mathlib.Core.Path.{◌≡◌, refl, sym, ◌∙◌}
use mathlib.Core.Bool.{Bool, true, false, true≢false}
use mathlib.Core.List.{[], ◌∷◌}
use native.Mathlib.Omega.{arith}
use lib.ListN.{length}
use Rattle.format.specs.Table.{Bytes, Content, last_of}
use Rattle.format.specs.Dialect.{Dialect, text, blank, class_of}
use Rattle.format.specs.Grammar.{Blanks, Bare, padded, Field}
use Rattle.format.specs.Count.{blank_count, dropped}
use Rattle.format.proofs.Classes.{droppable, text-ordinary, unpadded}
use Rattle.format.proofs.Grow.{blanks-join}

-- behind a byte that is kept: of the content c, what is left without the blanks at its end
data Tail (d : Dialect) (c : Content) : Bytes → Bytes → Type 0 where
  tail :
      {f g h : Bytes} {e : Content}
      → Bare d f e g → Blanks d g h → ((b : ℕ) → droppable d b ≡ false → droppable d (last_of b e) ≡ false) → length e ≤ length c → Tail d c f h

module _ {d : Dialect} where
  text-tail : {b : ℕ} {f g : Bytes} {c : Content} → class_of d b ≡ text → Tail d c f g → Tail d (b ∷ c) (b ∷ f) g
  unfolding last_of
  text-tail {b} k (tail p y l n) = tail (Bare.text_byte k p) y (λ a h. l b (text-ordinary d b k).1) (omega arith)

  blank-tail : {b : ℕ} {f g : Bytes} {c : Content} → class_of d b ≡ blank → Tail d c f g → Tail d (b ∷ c) (b ∷ f) g
  unfolding last_of
  blank-tail k (tail Bare.none y l n) = tail Bare.none (Blanks.more k y) l (omega arith)
  blank-tail k (tail (Bare.text_byte j p) y l n) = tail (Bare.blank_byte k (Bare.text_byte j p)) y l (omega arith)
  blank-tail k (tail (Bare.blank_byte j p) y l n) = tail (Bare.blank_byte k (Bare.blank_byte j p)) y l (omega arith)

  tail_of : {f g h : Bytes} {c : Content} → Bare d f c g → Blanks d g h → Tail d c f h
  unfolding last_of
  tail_of Bare.none y = tail Bare.none y (λ b h. h) (omega arith)
  tail_of (Bare.text_byte k p) y = text-tail k (tail_of p y)
  tail_of (Bare.blank_byte k p) y = blank-tail k (tail_of p y)

  behind-blanks : {f g h : Bytes} {c : Content} → Blanks d f g → Field d g c h → Field d f c h
  behind-blanks x (Field.bare w k n y) = Field.bare (blanks-join d x w) k n y
  behind-blanks x (Field.quoted w k y) = Field.quoted (blanks-join d x w) k y

  trimmed : {f g h : Bytes} {c : Content} → Bare d f c g → Blanks d g h → (e : Content) × Field d f e h × (length e ≤ length c)
  unfolding padded
  trimmed Bare.none y = ([], Field.bare Blanks.none Bare.none refl y, omega arith)
  trimmed (Bare.text_byte {b} {c} k p) y = go (tail_of p y)
    where
      go : {f h : Bytes} → Tail d c f h → (e : Content) × Field d (b ∷ f) e h × (length e ≤ suc (length c))
      go (tail {e} q z l n) =
          let t : droppable d b ≡ false = (text-ordinary d b k).1 in
          (b ∷ e, Field.bare Blanks.none (Bare.text_byte k q) (unpadded d b e t (l b t)) z, omega arith)
  trimmed (Bare.blank_byte k p) y =
      let (e, q, n) = trimmed p y in
      (e, behind-blanks (Blanks.more k Blanks.none) q, omega arith)

  -- where the content is not padded, it stays as it is
  pub fitted :
      {A : Type 0} {f g h i : Bytes} {c : Content} (x : Blanks d f g) → Bare d g c h → (y : Blanks d h i) → (A → padded d c ≡ false)
      → (e : Content) × (p : Field d f e i) × (length e ≤ length c) × (A → (e ≡ c) × (dropped f e i p ≡ blank_count x + blank_count y))
  unfolding dropped
  fitted {A} {f} {i} {c} x k y u = go (padded d c) refl
    where
      go :
          (z : Bool) → padded d c ≡ z
          → (e : Content) × (p : Field d f e i) × (length e ≤ length c) × (A → (e ≡ c) × (dropped f e i p ≡ blank_count x + blank_count y))
      go true q = let (e, p, n) = trimmed k y in (e, behind-blanks x p, n, λ a. absurd (true≢false (sym q ∙ u a)))
      go false q = (c, Field.bare x k q y, omega arith, λ a. (refl, refl))
