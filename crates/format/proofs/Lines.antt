-- Tables written field by field: what is still to write behind k fields is the table of the fields from k on, cut at the rows that are left.
use Prim.Native.Nat.{ℕ, suc, ◌+◌, ◌*◌, ◌≤◌, ◌<◌}
use native.Mathlib.Omega.{arith}
use native.Mathlib.Numerals.{add-one}
use mathlib.Core.Path.{◌≡◌, refl}
use mathlib.Core.Bool.{Bool, true, false, cond}
use mathlib.Core.List.{List, [], ◌∷◌, ◌++◌, append_assoc}
use lib.Dec.{eqb}
use lib.ListN.{length, get_or}
use lib.Seq.{slice, slice-cons, slice_empty, length-slice}
use borrow.Author.Tests.{ne_eqb}
use Rattle.format.specs.Table.{Bytes, Content}
use Rattle.format.specs.Dialect.{Dialect}
use Rattle.format.specs.Memory.{parts}
use Rattle.format.specs.WrittenForms.{is_special, holds_special, needs_quotes, doubled, quoted_form, plain_form, record_by, table_by}

module _ (form : Content → Bytes) (d : Dialect) (fields : List Content) where
  record-more : (c : Content) (cs : List Content) → 1 ≤ length cs → record_by form d (c ∷ cs) ≡ form c ++ (d.delimiter_byte ∷ record_by form d cs)
  unfolding record_by
  record-more c [] h = absurd (omega arith)
  record-more c (e ∷ cs) h = refl

  -- field k is the last of its record, or another follows it there
  pub line-ends :
      (k : ℕ) (rows : List ℕ)
      → k < length fields
      → table_by form d (parts k fields ((k + 1) ∷ rows)) ≡ form (get_or fields k []) ++ (0x0D ∷ 0x0A ∷ table_by form d (parts (k + 1) fields rows))
  unfolding parts table_by record_by
  line-ends k rows h =
      let e : slice k (suc k) fields ≡ get_or fields k [] ∷ slice (suc k) (suc k) fields = slice-cons k (suc k) fields [] (omega arith) (omega arith) in
      rw (add-one, e, slice_empty)

  pub line-goes-on :
      (k next : ℕ) (rows : List ℕ)
      → k + 1 < next → next ≤ length fields
      → table_by form d (parts k fields (next ∷ rows)) ≡ form (get_or fields k []) ++ (d.delimiter_byte ∷ table_by form d (parts (k + 1) fields (next ∷ rows)))
  unfolding parts table_by
  line-goes-on k next rows h i =
      let more : 1 ≤ length (slice (suc k) next fields) = rw length-slice (omega arith) in
      let e : slice k next fields ≡ get_or fields k [] ∷ slice (suc k) next fields = slice-cons k next fields [] (omega arith) i in
      rw (add-one, e, record-more (get_or fields k []) (slice (suc k) next fields) more, append_assoc)

  pub lines_end : (k : ℕ) → table_by form d (parts k fields []) ≡ []
  unfolding parts table_by
  lines_end k = refl

-- whether a content holds a special byte, found byte by byte
module _ (d : Dialect) where
  pub special-holds : (b : ℕ) (c : Content) → is_special d b ≡ true → holds_special d (b ∷ c) ≡ true
  unfolding holds_special
  special-holds b c e = rw e

  pub ordinary-holds : (b : ℕ) (c : Content) → is_special d b ≡ false → holds_special d (b ∷ c) ≡ holds_special d c
  unfolding holds_special
  ordinary-holds b c e = rw e

  pub nothing-holds : holds_special d [] ≡ false
  unfolding holds_special
  nothing-holds = refl

-- the content of a field, written byte by byte
pub doubled-quote : (c : Content) → doubled (0x22 ∷ c) ≡ 0x22 ∷ 0x22 ∷ doubled c
unfolding doubled
doubled-quote c = refl

pub doubled-other : (b : ℕ) (c : Content) → (b ≡ 0x22 → ⊥) → doubled (b ∷ c) ≡ b ∷ doubled c
unfolding doubled
doubled-other b c n = rw (ne_eqb b 0x22 n)

pub quoted-content : (c : Content) → quoted_form c ≡ 0x22 ∷ (doubled c ++ (0x22 ∷ []))
unfolding quoted_form
quoted-content c = refl

pub plain-content : (d : Dialect) (c : Content) → plain_form d c ≡ cond (needs_quotes d c) (quoted_form c) c
unfolding plain_form
plain-content d c = refl

pub doubled-none : doubled [] ≡ []
unfolding doubled
doubled-none = refl

pub doubled-length : (c : Content) → length (doubled c) ≤ 2 * length c
unfolding doubled
doubled-length [] = omega arith
doubled-length (b ∷ c) = go (eqb b 0x22) (doubled-length c)
  where
    go : (x : Bool) → length (doubled c) ≤ 2 * length c → length (cond x (0x22 ∷ 0x22 ∷ doubled c) (b ∷ doubled c)) ≤ 2 * length (b ∷ c)
    go true h = omega (arith, h)
    go false h = omega (arith, h)

pub doubled-least : (c : Content) → length c ≤ length (doubled c)
unfolding doubled
doubled-least [] = omega arith
doubled-least (b ∷ c) = go (eqb b 0x22) (doubled-least c)
  where
    go : (x : Bool) → length c ≤ length (doubled c) → length (b ∷ c) ≤ length (cond x (0x22 ∷ 0x22 ∷ doubled c) (b ∷ doubled c))
    go true h = omega (arith, h)
    go false h = omega (arith, h)
