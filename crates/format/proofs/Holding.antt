-- A table that a dialect can hold, said of its memory: no byte of its text is forbidden, no field is over the limit, no record differs from the first.
use Prim.Native.Nat.{ℕ, ◌≤◌, ◌<◌}
use native.Mathlib.Omega.{arith}
use mathlib.Core.Path.{◌≡◌, refl}
use mathlib.Core.Bool.{Bool, true, false, not, ◌||◌, true≢false, or-true}
use mathlib.Core.List.{[], ◌∷◌, flatten}
use lib.Dec.{T, eqb}
use lib.ListN.{length}
use borrow.Author.Tests.{eqb-true, eqb-false}
use Rattle.format.specs.Table.{Content, Table, Every, None}
use Rattle.format.specs.Dialect.{Dialect, ragged, forbidden, class_of}
use Rattle.format.specs.House.{width_of, differs, EqualRows, content_limit, Fits}
use Rattle.format.specs.Memory.{text_of}
use Rattle.format.specs.WrittenForms.{CanHold}
use Rattle.format.proofs.Every.{every-each, each-every, every-so}

none-differs : (n : ℕ) (t : Table) → None (λ cs. length cs ≡ n → ⊥) t → differs n t ≡ false
none-differs n [] h = refl
none-differs n (cs ∷ t) h = rw (go (eqb (length cs) n) refl, none-differs n t h.1)
  where
    go : (x : Bool) → eqb (length cs) n ≡ x → x ≡ true
    go true e = refl
    go false e = absurd (h.0 (eqb-false (length cs) n e))

differs_none : (n : ℕ) (t : Table) → differs n t ≡ false → None (λ cs. length cs ≡ n → ⊥) t
differs_none n [] e = tt
differs_none n (cs ∷ t) e = go (eqb (length cs) n) refl e (differs_none n t)
  where
    go : (x : Bool) → eqb (length cs) n ≡ x → (not x || differs n t) ≡ false
        → (differs n t ≡ false → None (λ cs. length cs ≡ n → ⊥) t) → None (λ cs. length cs ≡ n → ⊥) (cs ∷ t)
    go true q e r = (λ z. z (eqb-true (length cs) n q), r e)
    go false q e r = absurd (true≢false e)

module _ (d : Dialect) where
  abbrev Allowing : ℕ → Type 0
  Allowing b = class_of d b ≡ forbidden → ⊥

  abbrev Short : Content → Type 0
  Short c = content_limit < length c → ⊥

  equal-rows : (t : Table) → None (λ cs. length cs ≡ width_of t → ⊥) t → EqualRows d t
  unfolding EqualRows
  equal-rows [] h = rw (or-true (d.allows ragged)) tt
  equal-rows (cs ∷ t) h = rw (none-differs (length cs) t h.1, or-true (d.allows ragged)) tt

  rows-equal : d.allows ragged ≡ false → (t : Table) → EqualRows d t → None (λ cs. length cs ≡ width_of t → ⊥) t
  unfolding EqualRows
  rows-equal n [] h = tt
  rows-equal n (cs ∷ t) h = (λ z. z refl, differs_none (length cs) t (go (d.allows ragged) (differs (length cs) t) n h))
    where
      go : (x y : Bool) → x ≡ false → T (x || not y) → y ≡ false
      go true y n h = absurd (true≢false n)
      go false true n h = absurd h
      go false false n h = refl

  pub holds :
      (t : Table) → Every (λ cs. 1 ≤ length cs) t → None (λ b. class_of d b ≡ forbidden) (text_of t) → None (λ c. content_limit < length c) (flatten t)
      → None (λ cs. length cs ≡ width_of t → ⊥) t → CanHold d t
  holds t fields bytes contents rows =
      record {
        some_field = fields;
        none_forbidden = every-each (Every Allowing) t (every-each Allowing (flatten t) bytes);
        rules = record {
          rows = equal-rows t rows;
          contents = every-each Fits t (every-so Short Fits (λ c h. omega (arith, h)) (flatten t) contents);
        };
      }

  pub holds-bytes : {t : Table} → CanHold d t → None (λ b. class_of d b ≡ forbidden) (text_of t)
  holds-bytes {t} h = each-every Allowing (flatten t) (each-every (Every Allowing) t h.none_forbidden)

  pub holds-contents : {t : Table} → CanHold d t → None (λ c. content_limit < length c) (flatten t)
  holds-contents {t} h = every-so Fits Short (λ c i k. omega (arith, i)) (flatten t) (each-every Fits t h.rules.contents)

  pub holds_rows : {t : Table} → d.allows ragged ≡ false → CanHold d t → None (λ cs. length cs ≡ width_of t → ⊥) t
  holds_rows {t} n h = rows-equal n t h.rules.rows
