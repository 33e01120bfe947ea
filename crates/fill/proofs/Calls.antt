-- Laws of the calls. What copied, put_run, put_end and put_field promise leaves one result and one state of each buffer, so any two outcomes are
-- equal. How far a walk goes is in no promise: two that have written as much have written the same.
use Prim.Native.Nat.{ℕ}
use Rattle.std.specs.Prelude.{Option, Some, None}
use native.Mathlib.Omega.{arith}
use mathlib.Core.Path.{◌≡◌, refl, sym, ap, ◌∙◌}
use mathlib.Core.Bool.{Bool}
use mathlib.Core.List.{List, ◌++◌}
use lib.ListN.{length}
use lib.Seq.{sets, take-append_seam, drop-append_seam}
use Rattle.format.specs.Table.{Bytes}
use Rattle.format.specs.Dialect.{Dialect}
use Rattle.fill.specs.declared.Head.{Head}
use Rattle.fill.specs.Buffers.{Lists}
use Rattle.fill.specs.Put.{Puts, PutsEnd, PutsField}
use Rattle.fill.specs.Walk.{text_ahead, ends_ahead, rows_ahead, Grown, Wrote}

module _ {A : Type 0} where
  same-front : (xs ys r s : List A) → xs ++ r ≡ ys ++ s → length xs ≡ length ys → (xs ≡ ys) × (r ≡ s)
  same-front xs ys r s e l = (
    sym (take-append_seam xs r) ∙ rw (e, l) (take-append_seam ys s),
    sym (drop-append_seam xs r) ∙ rw (e, l) (drop-append_seam ys s),
  )

  pub one-grown :
      {buf rest b c r s : List A} {at i j : ℕ} → Grown buf at rest b i r → Grown buf at rest c j s → i ≡ j → (b ≡ c) × (r ≡ s)
  one-grown {buf} {r = r} {s = s} {at = at} g h e =
      let n : length g.new ≡ length h.new = omega (arith, g.at_is, h.at_is, e) in
      let both = same-front g.new h.new r s (sym g.rest_is ∙ h.rest_is) n in
      (g.buf_is ∙ ap (λ (l : List A). sets buf at l) both.0 ∙ sym h.buf_is, both.1)

-- the buffers are the same, and so is what is still to come
pub one-wrote :
    {w : Bool} {d : Dialect} {f : Bytes} {p q q' : Head} {b c c' : Lists} → Wrote w d f p b q c → Wrote w d f p b q' c'
    → q.text ≡ q'.text → q.ends ≡ q'.ends → q.rows ≡ q'.rows
    → (c ≡ c') × ((text_ahead d f q ≡ text_ahead d f q') × (ends_ahead w d f q ≡ ends_ahead w d f q') × (rows_ahead w d f q ≡ rows_ahead w d f q'))
one-wrote g h e₁ e₂ e₃ =
    let t = one-grown g.text_on h.text_on e₁ in
    let u = one-grown g.ends_on h.ends_on e₂ in
    let v = one-grown g.rows_on h.rows_on e₃ in
    ((λ j. record { text = t.0 j; ends = u.0 j; rows = v.0 j }), (t.1, u.1, v.1))

-- where something is written it is written alike, and it is not both written and left
pub one-puts : {A : Type 0} {old new : List A} {at : ℕ} (r s : Option ℕ) {now now' : List A} → Puts old at new r now → Puts old at new s now' → (r ≡ s) × (now ≡ now')
one-puts None None g h = (refl, g.unchanged ∙ sym h.unchanged)
one-puts (Some i) (Some j) g h = (ap Some (g.place.1 ∙ sym h.place.1), g.written ∙ sym h.written)
one-puts None (Some j) g h = absurd (g.place h.place.0)
one-puts (Some i) None g h = absurd (h.place g.place.0)

pub one-puts-end :
    {p : Head} {next n : ℕ} {row : Bool} {b c c' : Lists} (r s : Option Head) → PutsEnd p next row n b r c → PutsEnd p next row n b s c' → (r ≡ s) × (c ≡ c')
one-puts-end None None g h = (refl, g.unchanged ∙ sym h.unchanged)
one-puts-end (Some i) (Some j) g h = (ap Some (g.head.1 ∙ sym h.head.1), g.written ∙ sym h.written)
one-puts-end None (Some j) g h = absurd (g.head h.head.0)
one-puts-end (Some i) None g h = absurd (h.head g.head.0)

pub one-puts-field :
    {p : Head} {content : Bytes} {next : ℕ} {row : Bool} {b c c' : Lists} (r s : Option Head)
    → PutsField p content next row b r c → PutsField p content next row b s c' → (r ≡ s) × (c ≡ c')
one-puts-field None None g h = (refl, g.unchanged ∙ sym h.unchanged)
one-puts-field (Some i) (Some j) g h = (ap Some (g.head.1 ∙ sym h.head.1), g.written ∙ sym h.written)
one-puts-field None (Some j) g h = absurd (g.head h.head.0)
one-puts-field (Some i) None g h = absurd (h.head g.head.0)
