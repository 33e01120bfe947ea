-- The column search: what the walks over the header say, and the law that any two outcomes coincide.
use Prim.Native.Nat.{ℕ, ◌<◌}
use native.Mathlib.Omega.{arith}
use mathlib.Core.Path.{◌≡◌, refl, sym, ap, subst, ◌∙◌}
use mathlib.Core.List.{List, []}
use lib.ListN.{length, get_or}
use Rattle.std.specs.Prelude.{Option, Some, None, Result, MatchOption, slice_get}
use Rattle.std.specs.List.{AllWithin, HoldsAt, enumerate_from}
use Rattle.std.proofs.lemmas.List.FromFn.{length-enumerate_from, get_or-enumerate_from}
use Rattle.std.proofs.lemmas.Option.{slice_get_within, get_or_from_slice_get}
use Rattle.format.specs.Table.{Bytes, Content}
use Rattle.format.specs.Memory.{WellFormed, table_of}
use Rattle.format.specs.Answer.{search_numbers}
use Rattle.format.specs.declared.FieldNumber.{FieldNumber}
use Rattle.format.specs.declared.SearchError.{SearchError}
use Rattle.format.proofs.Numbers.{one-search-numbers}
use Rattle.tables.proofs.Cutting.{past}
use Rattle.tables.specs.Search.{answered, Repeats, Named, NoneBelow, InHeader, twice, at, nowhere, Searched, malformed, no_records, in_header, Least}

-- a column with its number, and an earlier one that has its name
abbrev pub Earlier : List Content → ℕ × Content → Type 0
Earlier h p = (i : ℕ) × (i < p.0) × (i < length h) × Named h p.1 i

module _ (h : List Content) where
  repeats_at : (k : ℕ) → k < length h → Repeats h k → Earlier h (get_or (enumerate_from 0 h) k (0, []))
  repeats_at k l (i, m, e) = rw get_or-enumerate_from (i, omega arith, omega arith, e)

  at_repeats : (k : ℕ) → k < length h → Earlier h (get_or (enumerate_from 0 h) k (0, [])) → Repeats h k
  at_repeats k l x = let (i, m, n, e) = rw get_or-enumerate_from at x in (i, omega arith, e)

  pub least-repeated :
      (r : Option ℕ)
      → MatchOption r (AllWithin (λ p. Earlier h p → ⊥) (enumerate_from 0 h) 0 (length (enumerate_from 0 h)))
      (λ k. (k < length (enumerate_from 0 h)) × HoldsAt (Earlier h) (enumerate_from 0 h) k × AllWithin (λ p. Earlier h p → ⊥) (enumerate_from 0 h) 0 k)
      → Least (Repeats h) (length h) r
  least-repeated None n = λ k l x. n k (0, []) (omega arith) (rw length-enumerate_from l) (repeats_at k l x)
  least-repeated (Some k) (l, x, n) =
      let m : k < length h = rw length-enumerate_from at l in
      record { below = m; none_before = λ i j y. n i (0, []) (omega arith) j (repeats_at i (omega arith) y); here = at_repeats k m (x (0, [])) }

module _ {text : Bytes} {ends rows : List ℕ} (w : WellFormed text ends rows) {name : Bytes} where
  pub lacks-records : None ≡ slice_get (table_of text ends rows) 0 → Searched text ends rows name (answered 17 0)
  lacks-records e = no_records w (omega (arith, past (table_of text ends rows) 0 (sym e)))

  module _ {h : List Content} (e : Some h ≡ slice_get (table_of text ends rows) 0) where
    in-table : {found : List ℕ} → InHeader h name found → Searched text ends rows name found
    in-table {found} f =
        in_header w (slice_get_within _ 0 h (sym e)) (subst (λ (l : List Content). InHeader l name found) (sym (get_or_from_slice_get _ 0 h [] (sym e))) f)

    pub repeated : {j : ℕ} → Least (Repeats h) (length h) (Some j) → Searched text ends rows name (answered 16 j)
    repeated least = in-table (twice least.below least.here least.none_before)

    pub named : {k : ℕ} → Least (Repeats h) (length h) None → Least (Named h name) (length h) (Some k) → Searched text ends rows name (answered 0 k)
    named none least = in-table (at none least.below least.here)

    pub not_named : Least (Repeats h) (length h) None → Least (Named h name) (length h) None → Searched text ends rows name (answered 17 0)
    not_named none nothing = in-table (nowhere none nothing)

-- the lowest place with a property is one; and where no name repeats, so is the column of a name
one_place : {P : ℕ → Type 0} {j k : ℕ} → P j → NoneBelow P j → P k → NoneBelow P k → j ≡ k
one_place {P} {j} {k} p none q nothing =
    let a : j < k → ⊥ = λ l. nothing j l p in
    let b : k < j → ⊥ = λ l. none k l q in
    omega arith

one-named :
    (h : List Content) {name : Bytes} {j k : ℕ}
    → NoneBelow (Repeats h) (length h) → j < length h → k < length h → Named h name j → Named h name k → j ≡ k
one-named h {name} {j} {k} none l m p q =
    let a : j < k → ⊥ = λ n. none k m (j, n, p ∙ sym q) in
    let b : k < j → ⊥ = λ n. none j l (k, n, q ∙ sym p) in
    omega arith

one-in-header : {h : List Content} {name : Bytes} {m n : List ℕ} → InHeader h name m → InHeader h name n → m ≡ n
one-in-header (twice l r a) (twice m s b) = ap (answered 16) (one_place r a s b)
one-in-header (twice l r a) (at b m e) = absurd (b _ l r)
one-in-header (twice l r a) (nowhere b e) = absurd (b _ l r)
one-in-header (at b m e) (twice l r a) = absurd (b _ l r)
one-in-header {h} (at a l d) (at b m e) = ap (answered 0) (one-named h a l m d e)
one-in-header (at a l d) (nowhere b e) = absurd (e _ l d)
one-in-header (nowhere b e) (twice l r a) = absurd (b _ l r)
one-in-header (nowhere b e) (at a l d) = absurd (e _ l d)
one-in-header (nowhere a d) (nowhere b e) = refl

pub one_found :
    {text : Bytes} {ends rows : List ℕ} {name : Bytes} {m n : List ℕ}
    → Searched text ends rows name m → Searched text ends rows name n → m ≡ n
one_found (malformed h) (malformed i) = refl
one_found (malformed h) (no_records w i) = absurd (h w)
one_found (malformed h) (in_header w i f) = absurd (h w)
one_found (no_records v h) (malformed i) = absurd (i v)
one_found (no_records v h) (no_records w i) = refl
one_found (no_records v h) (in_header w i f) = absurd (omega arith)
one_found (in_header v h e) (malformed i) = absurd (i v)
one_found (in_header v h e) (no_records w i) = absurd (omega arith)
one_found (in_header v h e) (in_header w i f) = one-in-header e f

-- any two outcomes coincide
pub one-search :
    {text : Bytes} {ends rows : List ℕ} {name : Bytes} (x y : Result FieldNumber SearchError)
    → Searched text ends rows name (search_numbers x) → Searched text ends rows name (search_numbers y) → x ≡ y
one-search x y p q = one-search-numbers x y (one_found p q)
