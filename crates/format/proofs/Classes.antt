-- Which bytes have which class. These laws stand for `class_of`: nothing else opens it.
use Prim.Native.Nat.{ℕ, ◌≤◌}
use mathlib.Core.Path.{◌≡◌, refl, sym, subst, ◌∙◌}
use mathlib.Core.Bool.{Bool, true, false, cond, ◌&&◌, ◌||◌, and-false, or-true, true≢false}
use mathlib.Core.List.{◌∷◌}
use mathlib.Core.Logic.{◌⊎◌, inl, inr}
use native.Mathlib.Omega.{arith}
use lib.Dec.{T, leb, eqb, eqb_refl}
use borrow.Author.Tests.{le-leb, leb-true, leb-false, eqb-true, eqb-false, lt-leb, eq-eqb, ne_eqb}
use Rattle.format.specs.Table.{Bytes, Content, last_of}
use Rattle.format.specs.Dialect.{blanks, bytes, Dialect, strict, Class, text, blank, delimiter, quote, CR, LF, forbidden, class_of, delimits, is_printable, is_wide, only_wide}
use Rattle.format.specs.Grammar.{padded, Inside}
use Rattle.format.specs.Rfc4180.{Textdata}
use Rattle.format.specs.WrittenForms.{is_special}

-- a byte that the leniency "blanks" drops at the ends of a bare field
abbrev pub droppable : Dialect → ℕ → Bool
droppable d b = d.allows blanks && eqb b 0x20

-- the bytes of each class, and what they are beside
pub data View (d : Dialect) (b : ℕ) : Class → Type 0 where
  is_delimiter : b ≡ d.delimiter_byte → View d b delimiter
  is_quote : b ≡ 0x22 → View d b quote
  is_CR : b ≡ 0x0D → View d b CR
  is_LF : b ≡ 0x0A → View d b LF
  is_blank_byte : b ≡ 0x20 → T (d.allows blanks) → is_special d b ≡ false → View d b blank
  is_text_byte : is_special d b ≡ false → droppable d b ≡ false → View d b text
  is_forbidden : is_special d b ≡ false → View d b forbidden

-- a test, with what it says
pub decide : {A : Type 0} (P : A → Type 0) (x : Bool) {u v : A} → (x ≡ true → P u) → (x ≡ false → P v) → P (cond x u v)
decide P true f g = f refl
decide P false f g = g refl

not-blank : (d : Dialect) (b : ℕ) → eqb b 0x20 ≡ false → droppable d b ≡ false
not-blank d b e = rw e (go (d.allows blanks))
  where
    go : (x : Bool) → (x && false) ≡ false
    go true = refl
    go false = refl

pub view : (d : Dialect) (b : ℕ) → View d b (class_of d b)
unfolding class_of
view d b =
    let P : Class → Type 0 = View d b in
    decide P (eqb b d.delimiter_byte) (λ e. is_delimiter (eqb-true b d.delimiter_byte e)) λ e₁.
    decide P (eqb b 0x22) (λ e. is_quote (eqb-true b 0x22 e)) λ e₂.
    decide P (eqb b 0x0D) (λ e. is_CR (eqb-true b 0x0D e)) λ e₃.
    decide P (eqb b 0x0A) (λ e. is_LF (eqb-true b 0x0A e)) λ e₄.
    let none : is_special d b ≡ false = simp (e₁, e₂, e₃, e₄) in
    decide P (eqb b 0x20)
    (λ e. decide P (d.allows blanks) (λ k. is_blank_byte (eqb-true b 0x20 e) (rw k tt) none) (λ k. is_text_byte none (rw k)))
    λ e₅.
    decide P (is_printable b) (λ e. is_text_byte none (not-blank d b e₅)) λ e₆.
    decide P (is_wide b) (λ e. decide P (d.allows bytes) (λ k. is_text_byte none (not-blank d b e₅)) (λ k. is_forbidden none)) (λ e. is_forbidden none)

module _ (d : Dialect) (b : ℕ) where
  pub quote-is : class_of d b ≡ quote → b ≡ 0x22
  quote-is e = go (rw e at (view d b))
    where
      go : View d b quote → b ≡ 0x22
      go (is_quote q) = q

  pub CR-is : class_of d b ≡ CR → b ≡ 0x0D
  CR-is e = go (rw e at (view d b))
    where
      go : View d b CR → b ≡ 0x0D
      go (is_CR q) = q

  pub LF-is : class_of d b ≡ LF → b ≡ 0x0A
  LF-is e = go (rw e at (view d b))
    where
      go : View d b LF → b ≡ 0x0A
      go (is_LF q) = q

  pub delimiter-is : class_of d b ≡ delimiter → b ≡ d.delimiter_byte
  delimiter-is e = go (rw e at (view d b))
    where
      go : View d b delimiter → b ≡ d.delimiter_byte
      go (is_delimiter q) = q

  pub blank-is : class_of d b ≡ blank → (b ≡ 0x20) × T (d.allows blanks)
  blank-is e = go (rw e at (view d b))
    where
      go : View d b blank → (b ≡ 0x20) × T (d.allows blanks)
      go (is_blank_byte q t m) = (q, t)

  pub text-ordinary : class_of d b ≡ text → (is_special d b ≡ false) × (droppable d b ≡ false)
  text-ordinary e = go (rw e at (view d b))
    where
      go : View d b text → (is_special d b ≡ false) × (droppable d b ≡ false)
      go (is_text_byte m n) = (m, n)

  pub blank-ordinary : class_of d b ≡ blank → (is_special d b ≡ false) × (droppable d b ≡ true)
  blank-ordinary e = go (rw e at (view d b))
    where
      on : (x : Bool) → T x → (x && true) ≡ true
      on true t = refl
      on false t = absurd t

      go : View d b blank → (is_special d b ≡ false) × (droppable d b ≡ true)
      go (is_blank_byte q t m) = (m, rw q (on (d.allows blanks) t))

-- the classes of special bytes
abbrev pub special_class : Class → Bool
special_class text = false
special_class blank = false
special_class delimiter = true
special_class quote = true
special_class CR = true
special_class LF = true
special_class forbidden = false

pub special-class : (d : Dialect) (b : ℕ) → is_special d b ≡ special_class (class_of d b)
special-class d b = go (view d b)
  where
    same : (n : ℕ) → eqb n n ≡ true
    same n = eq-eqb n n refl

    go : {x : Class} → View d b x → is_special d b ≡ special_class x
    go (is_delimiter q) = rw (q, same d.delimiter_byte)
    go (is_quote q) = rw (q, or-true (eqb 0x22 d.delimiter_byte))
    go (is_CR q) = rw (q, or-true (eqb 0x0D d.delimiter_byte))
    go (is_LF q) = rw (q, or-true (eqb 0x0A d.delimiter_byte))
    go (is_blank_byte q t m) = m
    go (is_text_byte m n) = m
    go (is_forbidden m) = m

-- and back, where the delimiter is one of the four
module _ (d : Dialect) (valid : T (delimits d.delimiter_byte)) where
  -- a byte that no dialect delimits by is not the delimiter
  pub other_byte : (b : ℕ) → (T (delimits b) → ⊥) → eqb b d.delimiter_byte ≡ false
  other_byte b other = ne_eqb b d.delimiter_byte (λ e. other (subst (λ (n : ℕ). T (delimits n)) (sym e) valid))

  pub class-quote : class_of d 0x22 ≡ quote
  unfolding class_of
  class-quote = rw (other_byte 0x22 (λ z. z))

  pub class-CR : class_of d 0x0D ≡ CR
  unfolding class_of
  class-CR = rw (other_byte 0x0D (λ z. z))

  pub class-LF : class_of d 0x0A ≡ LF
  unfolding class_of
  class-LF = rw (other_byte 0x0A (λ z. z))

pub class-delimiter : (d : Dialect) → class_of d d.delimiter_byte ≡ delimiter
unfolding class_of
class-delimiter d = go (eqb d.delimiter_byte d.delimiter_byte) _ (eqb_refl d.delimiter_byte)
  where
    go : (x : Bool) (u : Class) → T x → cond x delimiter u ≡ delimiter
    go true u t = refl
    go false u t = absurd t

-- the same in a dialect of any two bytes: the delimiter, and what it is not
pub delimiter-at : (d : Dialect) (b : ℕ) → b ≡ d.delimiter_byte → class_of d b ≡ delimiter
unfolding class_of
delimiter-at d b e = rw (eq-eqb b d.delimiter_byte e)

pub quote-beside : (d : Dialect) → (d.delimiter_byte ≡ 0x22 → ⊥) → class_of d 0x22 ≡ quote
unfolding class_of
quote-beside d e = rw (ne_eqb 0x22 d.delimiter_byte (λ q. e (sym q)))

pub CR-beside : (d : Dialect) → (d.delimiter_byte ≡ 0x0D → ⊥) → class_of d 0x0D ≡ CR
unfolding class_of
CR-beside d e = rw (ne_eqb 0x0D d.delimiter_byte (λ q. e (sym q)))

pub LF-beside : (d : Dialect) → (d.delimiter_byte ≡ 0x0A → ⊥) → class_of d 0x0A ≡ LF
unfolding class_of
LF-beside d e = rw (ne_eqb 0x0A d.delimiter_byte (λ q. e (sym q)))

ordinary : (x q c l : Bool) → (x || (q || (c || l))) ≡ false → (x ≡ false) × (q ≡ false) × (c ≡ false) × (l ≡ false)
ordinary true q c l e = absurd (true≢false e)
ordinary false true c l e = absurd (true≢false e)
ordinary false false true l e = absurd (true≢false e)
ordinary false false false true e = absurd (true≢false e)
ordinary false false false false e = (refl, refl, refl, refl)

-- every dialect has a byte of text
pub some-text : (d : Dialect) → (b : ℕ) × (class_of d b ≡ text)
unfolding class_of
some-text d = go (eqb 0x21 d.delimiter_byte) refl
  where
    go : (x : Bool) → eqb 0x21 d.delimiter_byte ≡ x → (b : ℕ) × (class_of d b ≡ text)
    go true e = (0x23, rw (← eqb-true 0x21 d.delimiter_byte e))
    go false e = (0x21, rw e)

-- what a byte that is not forbidden may stand in: bare, where it is not special; between quotes, where it is no quote
module _ (d : Dialect) (b : ℕ) (free : class_of d b ≡ forbidden → ⊥) where
  pub bare-byte : is_special d b ≡ false → (class_of d b ≡ text) ⊎ (class_of d b ≡ blank)
  bare-byte e = go (class_of d b) refl (view d b)
    where
      m : (eqb b d.delimiter_byte ≡ false) × (eqb b 0x22 ≡ false) × (eqb b 0x0D ≡ false) × (eqb b 0x0A ≡ false)
      m = ordinary (eqb b d.delimiter_byte) (eqb b 0x22) (eqb b 0x0D) (eqb b 0x0A) e

      go : (x : Class) → class_of d b ≡ x → View d b x → (x ≡ text) ⊎ (x ≡ blank)
      go text e v = inl refl
      go blank e v = inr refl
      go delimiter e (is_delimiter q) = absurd (eqb-false b d.delimiter_byte m.0 q)
      go quote e (is_quote q) = absurd (eqb-false b 0x22 m.1 q)
      go CR e (is_CR q) = absurd (eqb-false b 0x0D m.2 q)
      go LF e (is_LF q) = absurd (eqb-false b 0x0A m.3 q)
      go forbidden e v = absurd (free e)

-- the classes that may stand alone between quotes
abbrev pub quoted_class : Class → Bool
quoted_class text = true
quoted_class blank = true
quoted_class delimiter = true
quoted_class quote = false
quoted_class CR = true
quoted_class LF = true
quoted_class forbidden = false

pub inside-byte :
    {d : Dialect} {b : ℕ} {f g : Bytes} {c : Content} (x : Class)
    → T (quoted_class x) → class_of d b ≡ x → Inside d f c g → Inside d (b ∷ f) (b ∷ c) g
inside-byte x t e r = Inside.byte (λ k. subst (λ (y : Class). T (quoted_class y)) (sym e ∙ k) t) (λ k. subst (λ (y : Class). T (quoted_class y)) (sym e ∙ k) t) r

pub quoted-class : (x : Class) → (x ≡ quote → ⊥) → (x ≡ forbidden → ⊥) → T (quoted_class x)
quoted-class text n m = tt
quoted-class blank n m = tt
quoted-class delimiter n m = tt
quoted-class quote n m = n refl
quoted-class CR n m = tt
quoted-class LF n m = tt
quoted-class forbidden n m = m refl

-- CR and LF may, each as itself or as the delimiter
pub CR-inside : (d : Dialect) → quoted_class (class_of d 0x0D) ≡ true
unfolding class_of
CR-inside d = decide (λ x. quoted_class x ≡ true) (eqb 0x0D d.delimiter_byte) (λ e. refl) (λ e. refl)

pub LF-inside : (d : Dialect) → quoted_class (class_of d 0x0A) ≡ true
unfolding class_of
LF-inside d = decide (λ x. quoted_class x ≡ true) (eqb 0x0A d.delimiter_byte) (λ e. refl) (λ e. refl)

-- a content with no blank at either end
pub unpadded : (d : Dialect) (b : ℕ) (c : Content) → droppable d b ≡ false → droppable d (last_of b c) ≡ false → padded d (b ∷ c) ≡ false
unfolding padded
unpadded d b c = go (d.allows blanks) (eqb b 0x20) (eqb (last_of b c) 0x20)
  where
    go : (x y z : Bool) → (x && y) ≡ false → (x && z) ≡ false → (x && (y || z)) ≡ false
    go true false z p q = q
    go true true z p q = p
    go false y z p q = refl

pub unpadded-ends : (d : Dialect) (b : ℕ) (c : Content) → padded d (b ∷ c) ≡ false → (droppable d b ≡ false) × (droppable d (last_of b c) ≡ false)
unfolding padded
unpadded-ends d b c = go (d.allows blanks) (eqb b 0x20) (eqb (last_of b c) 0x20)
  where
    go : (x y z : Bool) → (x && (y || z)) ≡ false → ((x && y) ≡ false) × ((x && z) ≡ false)
    go true true z p = absurd (true≢false p)
    go true false z p = (refl, p)
    go false y z p = (refl, refl)

-- Two dialects of one delimiter.

both_true : (x y : Bool) → (x && y) ≡ true → (x ≡ true) × (y ≡ true)
both_true true y e = (refl, e)
both_true false y e = absurd (true≢false (sym e))

printable : (b : ℕ) → is_printable b ≡ true → (0x21 ≤ b) × (b ≤ 0x7E)
printable b e = let (l, h) = both_true _ _ e in (leb-true _ b l, leb-true b _ h)

not-printable : (b : ℕ) → is_printable b ≡ false → 0x21 ≤ b → b ≤ 0x7E → ⊥
not-printable b e l h = true≢false (rw (le-leb 0x21 b l, le-leb b 0x7E h) at e)

printable-not-wide : (b : ℕ) → is_printable b ≡ true → is_wide b ≡ false
printable-not-wide b e = let (l, h) = printable b e in rw (ne_eqb b 0x09 (omega arith), lt-leb 0x80 b (omega arith))

-- 0x20 to 0x7E, but for the quote, may stand alone between quotes
pub printed-inside : (d : Dialect) (b : ℕ) → 0x20 ≤ b → b ≤ 0x7E → (b ≡ 0x22 → ⊥) → quoted_class (class_of d b) ≡ true
unfolding class_of
printed-inside d b l h other =
    let P : Class → Type 0 = λ x. quoted_class x ≡ true in
    decide P (eqb b d.delimiter_byte) (λ e. refl) λ e₁.
    decide P (eqb b 0x22) (λ e. absurd (other (eqb-true b 0x22 e))) λ e₂.
    decide P (eqb b 0x0D) (λ e. refl) λ e₃.
    decide P (eqb b 0x0A) (λ e. refl) λ e₄.
    decide P (eqb b 0x20) (λ e. decide P (d.allows blanks) (λ k. refl) (λ k. refl)) λ e₅.
    decide P (is_printable b) (λ e. refl) λ e₆. absurd (not-printable b e₆ (omega (arith, eqb-false b 0x20 e₅)) h)

-- a byte that is not the delimiter, by the ranges that the rules name
module _ (d : Dialect) (b : ℕ) (other : b ≡ d.delimiter_byte → ⊥) where
  pub blank-class : b ≡ 0x20 → class_of d b ≡ cond (d.allows blanks) blank text
  unfolding class_of
  blank-class e = rw (ne_eqb b d.delimiter_byte other, eq-eqb b 0x20 e, ne_eqb b 0x22 (λ q. omega arith), ne_eqb b 0x0D (λ q. omega arith), ne_eqb b 0x0A (λ q. omega arith))

  pub printed-class : 0x21 ≤ b → b ≤ 0x7E → (b ≡ 0x22 → ⊥) → class_of d b ≡ text
  unfolding class_of
  printed-class l h q =
      rw (
        ne_eqb b d.delimiter_byte other,
        ne_eqb b 0x22 q,
        ne_eqb b 0x0D (λ e. omega arith),
        ne_eqb b 0x0A (λ e. omega arith),
        ne_eqb b 0x20 (λ e. omega arith),
        le-leb 0x21 b l,
        le-leb b 0x7E h,
      )

  -- what is beyond them and no line break is text only as a byte that "bytes" allows
  pub beyond-class : (b ≡ 0x0D → ⊥) → (b ≡ 0x0A → ⊥) → (0x20 ≤ b → b ≤ 0x7E → ⊥) → class_of d b ≡ cond (is_wide b && d.allows bytes) text forbidden
  unfolding class_of
  beyond-class v w out =
      let P : Class → Type 0 = λ x. x ≡ cond (is_wide b && d.allows bytes) text forbidden in
      rw (
        ne_eqb b d.delimiter_byte other,
        ne_eqb b 0x22 (λ e. out (omega arith) (omega arith)),
        ne_eqb b 0x0D v,
        ne_eqb b 0x0A w,
        ne_eqb b 0x20 (λ e. out (omega arith) (omega arith)),
      )
      (decide P (is_printable b) (λ e. let (l, h) = printable b e in absurd (out (omega arith) h)) (λ e. both (is_wide b) (d.allows bytes)))
    where
      both : (x y : Bool) → cond x (cond y text forbidden) forbidden ≡ cond (x && y) text forbidden
      both true y = refl
      both false y = refl

-- text that needs no leniency is in 0x20 to 0x7E
pub text-range : (d : Dialect) (b : ℕ) → class_of d b ≡ text → is_wide b ≡ false → (0x20 ≤ b) × (b ≤ 0x7E)
text-range d b e n = go (leb 0x20 b) (leb b 0x7E) refl refl
  where
    m : (eqb b d.delimiter_byte ≡ false) × (eqb b 0x22 ≡ false) × (eqb b 0x0D ≡ false) × (eqb b 0x0A ≡ false)
    m = ordinary (eqb b d.delimiter_byte) (eqb b 0x22) (eqb b 0x0D) (eqb b 0x0A) (text-ordinary d b e).0

    impossible : (0x20 ≤ b → b ≤ 0x7E → ⊥) → ⊥
    impossible out =
        let f = beyond-class d b (eqb-false b d.delimiter_byte m.0) (eqb-false b 0x0D m.2) (eqb-false b 0x0A m.3) out in
        subst (λ (y : Class). T (quoted_class y)) (sym e ∙ (rw n at f)) tt

    go : (x y : Bool) → leb 0x20 b ≡ x → leb b 0x7E ≡ y → (0x20 ≤ b) × (b ≤ 0x7E)
    go true true p q = (leb-true 0x20 b p, leb-true b 0x7E q)
    go true false p q = absurd (impossible (λ l h. true≢false (sym (le-leb b 0x7E h) ∙ q)))
    go false y p q = absurd (impossible (λ l h. true≢false (sym (le-leb 0x20 b l) ∙ p)))

-- where "bytes" is off, such a byte is forbidden
pub not_wide : (d : Dialect) (b : ℕ) → d.allows bytes ≡ false → (class_of d b ≡ forbidden → ⊥) → only_wide d.delimiter_byte b ≡ false
unfolding class_of
not_wide d b off =
    let P : Class → Type 0 = λ x. (x ≡ forbidden → ⊥) → only_wide d.delimiter_byte b ≡ false in
    decide P (eqb b d.delimiter_byte) (λ e h. rw e (and-false (is_wide b))) λ e₁.
    decide P (eqb b 0x22) (λ e h. rw (eqb-true b 0x22 e)) λ e₂.
    decide P (eqb b 0x0D) (λ e h. rw (eqb-true b 0x0D e)) λ e₃.
    decide P (eqb b 0x0A) (λ e h. rw (eqb-true b 0x0A e)) λ e₄.
    decide P (eqb b 0x20) (λ e h. rw (eqb-true b 0x20 e)) λ e₅.
    decide P (is_printable b) (λ e h. rw (printable-not-wide b e)) λ e₆.
    decide P (is_wide b) (λ e h. absurd (h (rw off))) (λ e h. rw e)

-- the class of a byte beside its class in another dialect, which drops blanks or not; what is forbidden may be anything there
pub data Beside (drops : Bool) : Class → Class → Type 0 where
  same : {x : Class} → Beside drops x x
  as_text : drops ≡ false → Beside drops blank text
  as_blank : Beside drops text blank
  any : {x : Class} → Beside drops forbidden x

pub beside :
    (d d' : Dialect) (b : ℕ)
    → d'.delimiter_byte ≡ d.delimiter_byte → (only_wide d.delimiter_byte b ≡ true → d'.allows bytes ≡ true) → Beside (d'.allows blanks) (class_of d b) (class_of d' b)
unfolding class_of
beside d d' b v w =
    rw v
    (test (eqb b d.delimiter_byte) (λ e. same) λ e₁.
    test (eqb b 0x22) (λ e. same) λ e₂.
    test (eqb b 0x0D) (λ e. same) λ e₃.
    test (eqb b 0x0A) (λ e. same) λ e₄.
    test (eqb b 0x20) (λ e. at-blank (d.allows blanks) (d'.allows blanks)) λ e₅.
    test (is_printable b) (λ e. same) λ e₆.
    test (is_wide b) (λ e. at_wide (d.allows bytes) (d'.allows bytes) (w (rw (e, e₁)))) (λ e. any))
  where
    test :
        (x : Bool) {k : Bool} {u v u' v' : Class}
        → (x ≡ true → Beside k u u') → (x ≡ false → Beside k v v') → Beside k (cond x u v) (cond x u' v')
    test true p q = p refl
    test false p q = q refl

    at-blank : (x k : Bool) → Beside k (cond x blank text) (cond k blank text)
    at-blank true true = same
    at-blank true false = as_text refl
    at-blank false true = as_blank
    at-blank false false = same

    at_wide : (x y : Bool) {k : Bool} → y ≡ true → Beside k (cond x text forbidden) (cond y text forbidden)
    at_wide true true e = same
    at_wide true false e = absurd (true≢false (sym e))
    at_wide false y e = any

-- Strict, by the RFC's own words.

-- TEXTDATA is 0x20-0x7E without quote and comma
pub record TextRange (b : ℕ) : Type 0 where
  pub low : 0x20 ≤ b
  pub high : b ≤ 0x7E
  pub no_quote : b ≡ 0x22 → ⊥
  pub no_comma : b ≡ 0x2C → ⊥

pub textdata-range : {b : ℕ} → Textdata b → TextRange b
textdata-range (Textdata.x20_21 l h) = omega arith
textdata-range (Textdata.x23_2B l h) = omega arith
textdata-range (Textdata.x2D_7E l h) = omega arith

range-textdata : (b : ℕ) → TextRange b → Textdata b
range-textdata b p = go (leb b 0x21) (leb b 0x2B) refl refl
  where
    go : (x y : Bool) → leb b 0x21 ≡ x → leb b 0x2B ≡ y → Textdata b
    go true y e n = Textdata.x20_21 p.low (leb-true b 0x21 e)
    go false true e n = Textdata.x23_2B {b = b} (omega (arith, leb-false b 0x21 e)) (leb-true b 0x2B n)
    go false false e n = Textdata.x2D_7E {b = b} (omega (arith, leb-false b 0x2B n)) p.high

-- the bytes of each class at strict, where no byte is a blank
pub data Strict (b : ℕ) : Class → Type 0 where
  strict_text : Textdata b → Strict b text
  strict_comma : b ≡ 0x2C → Strict b delimiter
  strict_quote : b ≡ 0x22 → Strict b quote
  strict_CR : b ≡ 0x0D → Strict b CR
  strict_LF : b ≡ 0x0A → Strict b LF
  strict_other : (0x20 ≤ b → b ≤ 0x7E → ⊥) → (b ≡ 0x0D → ⊥) → (b ≡ 0x0A → ⊥) → Strict b forbidden

pub strict-class : (b : ℕ) → Strict b (class_of strict b)
unfolding class_of
strict-class b =
    let P : Class → Type 0 = Strict b in
    decide P (eqb b 0x2C) (λ e. strict_comma (eqb-true b 0x2C e)) λ e₁.
    decide P (eqb b 0x22) (λ e. strict_quote (eqb-true b 0x22 e)) λ e₂.
    decide P (eqb b 0x0D) (λ e. strict_CR (eqb-true b 0x0D e)) λ e₃.
    decide P (eqb b 0x0A) (λ e. strict_LF (eqb-true b 0x0A e)) λ e₄.
    decide P (eqb b 0x20) (λ e. strict_text (range-textdata b (omega (arith, eqb-true b 0x20 e)))) λ e₅.
    decide P (is_printable b)
    (λ e. let (l, h) = printable b e in strict_text (range-textdata b (omega (arith, eqb-false b 0x22 e₂, eqb-false b 0x2C e₁))))
    λ n.
    let other : Strict b forbidden = strict_other (λ l h. not-printable b n (omega (arith, eqb-false b 0x20 e₅)) h) (eqb-false b 0x0D e₃) (eqb-false b 0x0A e₄) in
    decide P (is_wide b) (λ e. other) (λ e. other)
