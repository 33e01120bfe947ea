-- What stands in a run: no byte that only "bytes" allows and no LF; plain text is of class text, and an inner byte is content between quotes in every dialect.
use Prim.Native.Nat.{ℕ, ◌+◌, ◌≤◌, ◌<◌}
use native.Mathlib.Omega.{arith}
use mathlib.Core.Path.{◌≡◌, refl, sym, ◌∙◌}
use mathlib.Core.Bool.{Bool, true, false, not, ◌&&◌, ◌||◌, or-true, false≢true}
use mathlib.Core.Logic.{◌⊎◌, inl, inr}
use lib.Dec.{eqb, leb}
use lib.ListN.{get_or, drop}
use borrow.Author.Tests.{ne_eqb, leb-true, le-leb, lt-leb}
use Rattle.format.specs.Table.{Bytes}
use Rattle.format.specs.Dialect.{Dialect, is_wide, Class, text, blank, delimiter, quote, CR, LF, forbidden, class_of}
use Rattle.format.proofs.Classes.{quoted_class, text-ordinary, text-range, CR-inside, printed-inside, textdata-range, Strict, strict_text, strict_comma, strict_quote, strict_CR, strict_LF, strict_other, strict-class}
use Rattle.runs.specs.Runs.{run, is_text, is_plain, is_inner_class, is_inner}
use Rattle.runs.proofs.Runs.{run_holds}

-- plain text
plain-parts : (d : Dialect) (b : ℕ) → is_plain d b ≡ true → (class_of d b ≡ text) × (is_wide b ≡ false)
unfolding is_plain
plain-parts d b = go (class_of d b) (is_wide b)
  where
    go : (x : Class) (w : Bool) → (is_text x && not w) ≡ true → (x ≡ text) × (w ≡ false)
    go text false e = (refl, refl)
    go text true e = absurd (false≢true e)
    go blank w e = absurd (false≢true e)
    go delimiter w e = absurd (false≢true e)
    go quote w e = absurd (false≢true e)
    go CR w e = absurd (false≢true e)
    go LF w e = absurd (false≢true e)
    go forbidden w e = absurd (false≢true e)

pub plain-class : (d : Dialect) (b : ℕ) → is_plain d b ≡ true → class_of d b ≡ text
plain-class d b e = (plain-parts d b e).0

pub plain-narrow : (d : Dialect) (b : ℕ) → is_plain d b ≡ true → is_wide b ≡ false
plain-narrow d b e = (plain-parts d b e).1

pub plain-range : (d : Dialect) (b : ℕ) → (0x20 ≤ b → b ≤ 0x7E → ⊥) → is_plain d b ≡ false
plain-range d b out = go (is_plain d b) refl
  where
    go : (x : Bool) → is_plain d b ≡ x → x ≡ false
    go true e = let (t, n) = plain-parts d b e in let (l, h) = text-range d b t n in absurd (out l h)
    go false e = refl

-- plain text or the delimiter
pub row-range : (d : Dialect) (b : ℕ) → (0x20 ≤ b → b ≤ 0x7E → ⊥) → (d.delimiter_byte ≡ b → ⊥) → (is_plain d b || eqb b d.delimiter_byte) ≡ false
row-range d b out other = let e = ne_eqb b d.delimiter_byte (λ q. other (sym q)) in rw (plain-range d b out, e)

lf-not-plain : (d : Dialect) → is_plain d 0x0A ≡ true → ⊥
lf-not-plain d e = false≢true (sym (text-ordinary d 0x0A (plain-class d 0x0A e)).0 ∙ or-true (eqb 0x0A d.delimiter_byte))

pub plain-no-lf : (d : Dialect) (b : ℕ) → is_plain d b ≡ true → eqb b 0x0A ≡ false
plain-no-lf d b e = ne_eqb b 0x0A (λ q. lf-not-plain d (rw q at e))

-- between quotes: CR, and 0x20 to 0x7E but for the quote
pub inner-range : (b : ℕ) → is_inner b ≡ (eqb b 0x0D || ((leb 0x20 b && leb b 0x7E) && not (eqb b 0x22)))
unfolding is_inner
inner-range b = go (strict-class b)
  where
    outside : (x y : Bool) → leb 0x20 b ≡ x → leb b 0x7E ≡ y → (0x20 ≤ b → b ≤ 0x7E → ⊥) → false ≡ ((x && y) && not (eqb b 0x22))
    outside true true p q u = absurd (u (leb-true 0x20 b p) (leb-true b 0x7E q))
    outside true false p q u = refl
    outside false y p q u = refl

    go : {x : Class} → Strict b x → is_inner_class x ≡ (eqb b 0x0D || ((leb 0x20 b && leb b 0x7E) && not (eqb b 0x22)))
    go (strict_text t) =
        let r = textdata-range t in
        rw (le-leb 0x20 b r.low, le-leb b 0x7E r.high, ne_eqb b 0x22 r.no_quote) (sym (or-true (eqb b 0x0D)))
    go (strict_comma q) = rw q
    go (strict_quote q) = rw q
    go (strict_CR q) = rw q
    go (strict_LF q) = rw q
    go (strict_other u v w) = rw (ne_eqb b 0x0D v) (outside (leb 0x20 b) (leb b 0x7E) refl refl u)

pub inner-beyond : (b : ℕ) → (0x20 ≤ b → b ≤ 0x7E → ⊥) → (0x0D ≡ b → ⊥) → is_inner b ≡ false
inner-beyond b out other = inner-range b ∙ rw (ne_eqb b 0x0D (λ q. other (sym q))) (go (leb 0x20 b) (leb b 0x7E) refl refl)
  where
    go : (x y : Bool) → leb 0x20 b ≡ x → leb b 0x7E ≡ y → ((x && y) && not (eqb b 0x22)) ≡ false
    go true true p q = absurd (out (leb-true 0x20 b p) (leb-true b 0x7E q))
    go true false p q = refl
    go false y p q = refl

abbrev InnerParts : ℕ → Type 0
InnerParts b = (b ≡ 0x0D) ⊎ ((0x20 ≤ b) × (b ≤ 0x7E) × (b ≡ 0x22 → ⊥))

inner-parts : (b : ℕ) → is_inner b ≡ true → InnerParts b
unfolding is_inner
inner-parts b e = go (strict-class b) e
  where
    go : {x : Class} → Strict b x → is_inner_class x ≡ true → InnerParts b
    go (strict_text t) e = let r = textdata-range t in inr (r.low, r.high, r.no_quote)
    go (strict_comma q) e = inr (omega arith, omega arith, λ w. omega arith)
    go (strict_quote q) e = absurd (false≢true e)
    go (strict_CR q) e = inl q
    go (strict_LF q) e = absurd (false≢true e)
    go (strict_other u v w) e = absurd (false≢true e)

pub inner-no-lf : (b : ℕ) → is_inner b ≡ true → eqb b 0x0A ≡ false
inner-no-lf b e = go (inner-parts b e)
  where
    go : InnerParts b → eqb b 0x0A ≡ false
    go (inl q) = ne_eqb b 0x0A (λ r. omega arith)
    go (inr q) = ne_eqb b 0x0A (λ r. omega arith)

pub inner-narrow : (b : ℕ) → is_inner b ≡ true → is_wide b ≡ false
inner-narrow b e = go (inner-parts b e)
  where
    go : InnerParts b → is_wide b ≡ false
    go (inl q) = rw (ne_eqb b 0x09 (λ r. omega arith), lt-leb 0x80 b (omega arith))
    go (inr q) = rw (ne_eqb b 0x09 (λ r. omega arith), lt-leb 0x80 b (omega arith))

pub inner-inside : (d : Dialect) (b : ℕ) → is_inner b ≡ true → quoted_class (class_of d b) ≡ true
inner-inside d b e = go (inner-parts b e)
  where
    go : InnerParts b → quoted_class (class_of d b) ≡ true
    go (inl q) = rw q (CR-inside d)
    go (inr q) = printed-inside d b q.0 q.1 q.2

-- what stands in a run of plain text, and in one between quotes
pub text-run-stands : (d : Dialect) (s : Bytes) (i k : ℕ) → k < run (is_plain d) (drop i s) → (class_of d (get_or s (i + k) 0) ≡ text) × (is_wide (get_or s (i + k) 0) ≡ false)
text-run-stands d s i k h = plain-parts d (get_or s (i + k) 0) (run_holds (is_plain d) s i k h)

pub inner-run-stands : (s : Bytes) (i k : ℕ) → k < run is_inner (drop i s) → (is_wide (get_or s (i + k) 0) ≡ false) × (eqb (get_or s (i + k) 0) 0x0A ≡ false)
inner-run-stands s i k h =
    let e = run_holds is_inner s i k h in
    (inner-narrow (get_or s (i + k) 0) e, inner-no-lf (get_or s (i + k) 0) e)
