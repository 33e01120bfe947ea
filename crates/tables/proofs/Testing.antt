-- The tests on a table decide that it is well formed.
use Prim.Native.Nat.{ℕ, ◌+◌, ◌≤◌}
use native.Mathlib.Omega.{arith}
use mathlib.Core.Path.{◌≡◌, refl, sym, ◌∙◌}
use mathlib.Core.Bool.{true, false}
use mathlib.Core.List.{List, [], ◌∷◌}
use lib.Dec.{eqb}
use lib.ListN.{length, get_or}
use borrow.Author.Tests.{eq-eqb, eqb-true}
use Rattle.std.specs.Prelude.{Bool, true, false, Option, is_some}
use Rattle.format.specs.Table.{Bytes, last_of}
use Rattle.format.specs.Memory.{largest32, Ordered, WellFormed, start_of}
use Rattle.format.proofs.Memory.{last-nil, last-first, well_formed}
use Rattle.tables.specs.Formed.{Decides, CountsTo, Small}
use Rattle.tables.specs.Seek.{Sought, Strays, paired}
use Rattle.tables.proofs.Distances.{in_order, out_of_order}

-- an entry behind the last would begin at the last
last-start : (n : ℕ) (l : List ℕ) → get_or (n ∷ l) (length l) 0 ≡ last_of n l
last-start n [] = sym (last-nil n)
last-start n (m ∷ l) = last-start m l ∙ sym (last-first n m l)

-- what the two tests on a list decide
module _ (least most : ℕ) (l : List ℕ) (n : ℕ) (r : Option ℕ) (s : Sought (Strays least most) (paired 0 l) r) where
  pub counts_to : {m : ℕ} → is_some r ≡ false → m ≡ start_of l (length l) → Decides (eqb m n) (CountsTo least l n)
  counts_to {m} none e = (
    λ q. record { ordered = in_order least most 0 l r none s; last = sym (last-start 0 l) ∙ sym e ∙ eqb-true m n q },
    λ c. eq-eqb m n (e ∙ last-start 0 l ∙ c.last),
  )

  pub counts_otherwise : ((i : ℕ) → get_or l i 0 ≤ most) → is_some r ≡ true → CountsTo least l n → ⊥
  counts_otherwise f some c = out_of_order least most 0 l r f some s c.ordered

pub ordered-so : {R S : ℕ → ℕ → Type 0} → ((a b : ℕ) → R a b → S a b) → (n : ℕ) (l : List ℕ) → Ordered R n l → Ordered S n l
ordered-so f n [] o = tt
ordered-so f n (m ∷ l) o = (f n m o.0, ordered-so f m l o.1)

-- numbers that rise are no more than the last
pub rising-most : (n : ℕ) (l : List ℕ) → Ordered (λ a b. a + 1 ≤ b) n l → n + length l ≤ last_of n l
unfolding last_of
rising-most n [] o = omega arith
rising-most n (m ∷ l) o = omega (arith, rising-most m l o.1)

module _ {text : Bytes} {ends rows : List ℕ} where
  pub formed : CountsTo 1 rows (length ends) → CountsTo 0 ends (length text) → WellFormed text ends rows
  formed r e =
      well_formed (ordered-so (λ a b h. omega arith) 0 rows r.ordered) r.last (ordered-so (λ a b h. omega arith) 0 ends e.ordered) e.last

  pub formed_small : CountsTo 1 rows (length ends) → length ends ≤ largest32 → length text ≤ largest32 → Small text ends rows
  formed_small r e t = record { bytes = t; fields = e; records = omega (arith, r.last, rising-most 0 rows r.ordered) }

  pub rows_count : WellFormed text ends rows → CountsTo 1 rows (length ends)
  rows_count w = record { ordered = ordered-so (λ a b h. omega arith) 0 rows w.rows_rise; last = w.last_row }

  pub ends_count : WellFormed text ends rows → CountsTo 0 ends (length text)
  ends_count w = record { ordered = ordered-so (λ a b h. omega arith) 0 ends w.ends_never_fall; last = w.last_end }

-- any two answers that decide one claim coincide
pub one-decision : {A : Type 0} (r s : Bool) → Decides r A → Decides s A → r ≡ s
one-decision true true p q = refl
one-decision true false p q = sym (q.1 (p.0 refl))
one-decision false true p q = p.1 (q.0 refl)
one-decision false false p q = refl
