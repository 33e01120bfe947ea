-- Whatever has a fault, the model refuses: refusals 3 to 8, in a field.
use Prim.Native.Nat.{ℕ, ◌<◌}
use mathlib.Core.Path.{◌≡◌, refl, ap, ◌∙◌}
use mathlib.Core.Bool.{false}
use mathlib.Core.List.{[], ◌∷◌}
use lib.ListN.{length}
use Rattle.format.specs.Table.{Bytes, Content}
use Rattle.format.specs.Dialect.{lf, Dialect, Class, text, blank, delimiter, quote, CR, LF, forbidden, class_of}
use Rattle.format.specs.Grammar.{Blanks, Open, opened, Field}
use Rattle.format.specs.House.{content_limit}
use Rattle.format.specs.Count.{dropped}
use Rattle.format.specs.Refusal.{NoLf, FieldEnd, FieldRefusal, refusal_3, refusal_3_inside, refusal_4, refusal_5, refusal_5_quote, refusal_6, refusal_7, refusal_8, refusal_9}
use Rattle.steps.specs.Steps.{start, lead, bare, quoted, shut, tail, cr, step_of}
use Rattle.steps.specs.Model.{cell, refused, change, putting, dropping, run}
use Rattle.steps.proofs.Complete.{Stops, at_CR, at_LF, at_forbidden, set, start-lead, blanks-lead, blanks-tail, bare-refused, inside, opens, quotes, fields}

module _ (d : Dialect) where
  -- a refusal that is met behind the leading blanks
  behind-blanks : {n : ℕ} {f g a q : Bytes} → Blanks d f g → run d g lead [] ≡ refused n a q → run d f start [] ≡ refused n a q
  behind-blanks {n} {f} {a} {q} x h = start-lead d f ∙ blanks-lead d x [] 0 (refused n a q) h

  inside-refused :
      {n : ℕ} {f g a q : Bytes} {c : Content} → Open d f c g → run d g quoted f ≡ refused n a q → run d f lead [] ≡ refused n a q
  inside-refused {n} {a} {q} (opened {b} {f} e k) h = opens d b f e ∙ inside d (b ∷ f) 0 (refused n a q) k h

  tail-refused : {n : ℕ} {f g a q : Bytes} → Blanks d f g → run d g tail [] ≡ refused n a q → run d f tail [] ≡ refused n a q
  tail-refused {n} {a} {q} x h = blanks-tail d x (refused n a q) h

  at-forbidden-byte : (b : ℕ) (g p : Bytes) → class_of d b ≡ forbidden → (run d (b ∷ g) tail [] ≡ refused 3 (b ∷ g) (b ∷ g)) × (run d (b ∷ g) quoted p ≡ refused 3 (b ∷ g) (b ∷ g))
  unfolding run step_of
  at-forbidden-byte b g p e = (rw e, rw e)

  bare-quote : (b : ℕ) (g : Bytes) → class_of d b ≡ quote → run d (b ∷ g) bare [] ≡ refused 4 (b ∷ g) (b ∷ g)
  unfolding run step_of
  bare-quote b g e = rw e

  lead-text : {n : ℕ} {a q : Bytes} (b : ℕ) (g : Bytes) → class_of d b ≡ text → run d g bare [] ≡ refused n a q → run d (b ∷ g) lead [] ≡ refused n a q
  unfolding run step_of
  lead-text b g e h = rw e (ap (change (putting b)) h)

  tail-text : (b : ℕ) (g : Bytes) → class_of d b ≡ text → run d (b ∷ g) tail [] ≡ refused 5 (b ∷ g) (b ∷ g)
  unfolding run step_of
  tail-text b g e = rw e

  tail-quote : (b : ℕ) (g : Bytes) → class_of d b ≡ quote → run d (b ∷ g) tail [] ≡ refused 5 (b ∷ g) (b ∷ g)
  unfolding run step_of
  tail-quote b g e = rw e

  shut-blank : {n : ℕ} {a q : Bytes} (b : ℕ) (g p : Bytes) → class_of d b ≡ blank → run d g tail [] ≡ refused n a q → run d (b ∷ g) shut p ≡ refused n a q
  unfolding run step_of
  shut-blank b g p e h = rw e (ap (change dropping) h)

  shut-text : {b : ℕ} {f g : Bytes} (p : Bytes) → Blanks d f (b ∷ g) → class_of d b ≡ text → run d f shut p ≡ refused 5 (b ∷ g) (b ∷ g)
  unfolding run step_of
  shut-text p Blanks.none t = rw t
  shut-text {b} {g} p (Blanks.more {b = a} {f} e x) t = shut-blank a f p e (tail-refused x (tail-text b g t))

  open-at-end : (p : Bytes) → run d [] quoted p ≡ refused 8 [] p
  unfolding run
  open-at-end p = refl

  lone-CR : (b : ℕ) (g : Bytes) → class_of d b ≡ CR → NoLf d g → run d (b ∷ g) tail [] ≡ refused 6 (b ∷ g) (b ∷ g)
  unfolding run step_of
  lone-CR b [] e l = rw e
  lone-CR b (a ∷ g) e l = rw e (go (class_of d a) refl)
    where
      go : (x : Class) → class_of d a ≡ x → run d (a ∷ g) cr (b ∷ a ∷ g) ≡ refused 6 (b ∷ a ∷ g) (b ∷ a ∷ g)
      go text u = rw u
      go blank u = rw u
      go delimiter u = rw u
      go quote u = rw u
      go CR u = rw u
      go LF u = absurd (l u)
      go forbidden u = rw u

  bare-LF : (b : ℕ) (g : Bytes) → class_of d b ≡ LF → d.allows lf ≡ false → run d (b ∷ g) tail [] ≡ refused 7 (b ∷ g) (b ∷ g)
  unfolding run step_of
  bare-LF b g e l = rw (e, l)

  -- a refusal that is met where a field is over
  over-refused :
      {n : ℕ} {f g a q : Bytes} {c : Content} → Field d f c g → Stops d g → run d g tail [] ≡ refused n a q → run d f start [] ≡ refused n a q
  over-refused {f} {g} {c} p s h = fields d p s ∙ ap (set (cell c (dropped f c g p))) h

  -- what follows from the run of every field with a fault but 9, follows from the fault
  pub field-refused :
      (P : ℕ → Bytes → Bytes → Bytes → Type 0)
      → ((n : ℕ) (f a q : Bytes) → run d f start [] ≡ refused n a q → P n f a q)
      → ((f g : Bytes) (c : Content) → Field d f c g → FieldEnd d g → content_limit < length c → P 9 f g f)
      → {n : ℕ} {f a q : Bytes} → FieldRefusal d n f a q → P n f a q
  field-refused P run-says long (refusal_3 {b} {g} p e) = run-says _ _ _ _ (over-refused p (at_forbidden e) (at-forbidden-byte b g [] e).0)
  field-refused P run-says long (refusal_3_inside {b} {q} {g} x o e) = run-says _ _ _ _ (behind-blanks x (inside-refused o (at-forbidden-byte b g q e).1))
  field-refused P run-says long (refusal_4 {a} {b} {g} {h} x t k e) = run-says _ _ _ _ (behind-blanks x (lead-text a g t (bare-refused d k (bare-quote b h e))))
  field-refused P run-says long (refusal_5 {b} {g} {i} x k y t) =
      run-says _ _ _ _ (behind-blanks x (quotes d 0 (refused 5 (b ∷ i) (b ∷ i)) k (shut-text g y t)))
  field-refused P run-says long (refusal_5_quote {a} {b} {g} {h} {i} x k v y e) =
      run-says _ _ _ _ (behind-blanks x (quotes d 0 (refused 5 (b ∷ i) (b ∷ i)) k (shut-blank a h g v (tail-refused y (tail-quote b i e)))))
  field-refused P run-says long (refusal_6 {b} {g} p e l) = run-says _ _ _ _ (over-refused p (at_CR e) (lone-CR b g e l))
  field-refused P run-says long (refusal_7 {b} {g} p e l) = run-says _ _ _ _ (over-refused p (at_LF e) (bare-LF b g e l))
  field-refused P run-says long (refusal_8 {q} x o) = run-says _ _ _ _ (behind-blanks x (inside-refused o (open-at-end q)))
  field-refused P run-says long (refusal_9 p e l) = long _ _ _ p e l
