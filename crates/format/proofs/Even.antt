-- Equal rows, one record more: they stay equal exactly if it is as wide as the first.
use Prim.Native.Nat.{ℕ, ◌≤◌}
use native.Mathlib.Omega.{arith}
use mathlib.Core.Path.{◌≡◌, refl, sym, ◌∙◌}
use mathlib.Core.Bool.{Bool, true, false, cond, not, ◌||◌, or-false, or-true, or_assoc, true≢false}
use mathlib.Core.List.{List, [], ◌∷◌, ◌++◌}
use lib.Dec.{T, eqb}
use lib.ListN.{length}
use borrow.Author.Tests.{eqb-true, eqb-false, eq-eqb, ne_eqb}
use Rattle.format.specs.Table.{Content, Table, Every}
use Rattle.format.specs.Dialect.{ragged, Dialect}
use Rattle.format.specs.House.{width_of, differs, EqualRows}

-- one record more: e, it has the width; f, another has not; r, that is allowed
split-last : (r e f : Bool) → T (r || not (f || not e)) → T (r || e)
split-last true e f t = tt
split-last false true f t = tt
split-last false false true t = absurd t
split-last false false false t = absurd t

join_last : (r e f : Bool) → T (r || e) → T (r || not f) → T (r || not (f || not e))
join_last true e f t u = tt
join_last false true false t u = tt
join_last false true true t u = absurd u
join_last false false f t u = absurd t

differs-last : (n : ℕ) (t : Table) (cs : List Content) → differs n (t ++ (cs ∷ [])) ≡ (differs n t || not (eqb (length cs) n))
differs-last n [] cs = or-false (not (eqb (length cs) n))
differs-last n (es ∷ t) cs = rw (differs-last n t cs) (sym (or_assoc (not (eqb (length es) n)) (differs n t) (not (eqb (length cs) n))))

module _ (d : Dialect) where
  pub even-none : EqualRows d []
  unfolding EqualRows
  even-none = rw (or-true (d.allows ragged)) tt

  pub even-one : (cs : List Content) → EqualRows d (cs ∷ [])
  unfolding EqualRows
  even-one cs = rw (or-true (d.allows ragged)) tt

  -- behind a first record
  module _ (es : List Content) (t : Table) (cs : List Content) where
    pub even-last : EqualRows d (es ∷ t) → T (d.allows ragged || eqb (length cs) (length es)) → EqualRows d (es ∷ (t ++ (cs ∷ [])))
    unfolding EqualRows
    even-last h u = rw (differs-last (length es) t cs) (join_last (d.allows ragged) (eqb (length cs) (length es)) (differs (length es) t) u h)

    pub last-even : EqualRows d (es ∷ (t ++ (cs ∷ []))) → T (d.allows ragged || eqb (length cs) (length es))
    unfolding EqualRows
    last-even h = split-last (d.allows ragged) (eqb (length cs) (length es)) (differs (length es) t) (rw (differs-last (length es) t cs) at h)

-- The same by the first record's width, where 0 stands for no record: no record is empty.
abbrev pub Wide : Table → Type 0
Wide t = Every (λ (cs : List Content). 1 ≤ length cs) t

pub eqb-turn : (a b : ℕ) → eqb a b ≡ eqb b a
eqb-turn a b = go (eqb b a) refl
  where
    go : (y : Bool) → eqb b a ≡ y → eqb a b ≡ y
    go true e = eq-eqb a b (sym (eqb-true b a e))
    go false e = ne_eqb a b (λ q. eqb-false b a e (sym q))

some-width : (cs : List Content) (t : Table) → Wide (cs ∷ t) → eqb (length cs) 0 ≡ false
some-width cs t w = ne_eqb (length cs) 0 (λ e. let v = w.0 in omega arith)

pub width-more : (t : Table) (row : List Content) → Wide t → cond (eqb (width_of t) 0) (length row) (width_of t) ≡ width_of (t ++ (row ∷ []))
width-more [] row w = refl
width-more (cs ∷ t) row w = rw (some-width cs t w)

module _ (d : Dialect) where
  -- the test of a record's width
  pub even-more :
      (t : Table) (row : List Content) → EqualRows d t → Wide t → (d.allows ragged || (eqb (width_of t) 0 || eqb (width_of t) (length row))) ≡ true
      → EqualRows d (t ++ (row ∷ []))
  even-more [] row e w h = even-one d row
  even-more (cs ∷ t) row e w h =
      even-last d cs t row e (rw (rw (some-width cs t w, eqb-turn (length cs) (length row)) at h) tt)

  pub uneven :
      (t : Table) (row : List Content) → (d.allows ragged || (eqb (width_of t) 0 || eqb (width_of t) (length row))) ≡ false
      → EqualRows d (t ++ (row ∷ [])) → ⊥
  uneven [] row h e = true≢false (sym (or-true (d.allows ragged)) ∙ h)
  uneven (cs ∷ t) row h e = by (d.allows ragged) (eqb (length cs) 0) (eqb (length row) (length cs)) (rw (eqb-turn (length cs) (length row)) at h) (last-even d cs t row e)
    where
      by : (a v y : Bool) → (a || (v || y)) ≡ false → T (a || y) → ⊥
      by true v y h e = true≢false h
      by false true y h e = true≢false h
      by false false true h e = true≢false h
      by false false false h e = e
