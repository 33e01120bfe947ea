-- A property of every element: of lists joined, of each of many lists, of one element more.
use mathlib.Core.List.{List, [], ◌∷◌, ◌++◌, flatten}
use Rattle.format.specs.Table.{Every}

module _ {A : Type 0} (P : A → Type 0) where
  pub every_append : (l m : List A) → Every P (l ++ m) → Every P l × Every P m
  every_append [] m h = (tt, h)
  every_append (a ∷ l) m h = let (x, y) = every_append l m h.1 in ((h.0, x), y)

  pub append-every : (l m : List A) → Every P l → Every P m → Every P (l ++ m)
  append-every [] m h i = i
  append-every (a ∷ l) m h i = (h.0, append-every l m h.1 i)

  -- of lists joined, and of each list
  pub every-each : (ls : List (List A)) → Every P (flatten ls) → Every (Every P) ls
  unfolding flatten
  every-each [] h = tt
  every-each (l ∷ ls) h = let (x, y) = every_append l (flatten ls) h in (x, every-each ls y)

  pub each-every : (ls : List (List A)) → Every (Every P) ls → Every P (flatten ls)
  unfolding flatten
  each-every [] h = tt
  each-every (l ∷ ls) h = append-every l (flatten ls) h.0 (each-every ls h.1)

  -- a property that follows from another
  pub every-so : (Q : A → Type 0) → ((a : A) → P a → Q a) → (l : List A) → Every P l → Every Q l
  every-so Q f [] h = tt
  every-so Q f (a ∷ l) h = (f a h.0, every-so Q f l h.1)

  -- one element more, at the end
  pub every_one : (l : List A) (a : A) → Every P l → P a → Every P (l ++ (a ∷ []))
  every_one l a h p = append-every l (a ∷ []) h (p, tt)

  pub every-last : (l : List A) (a : A) → Every P (l ++ (a ∷ [])) → P a
  every-last l a h = (every_append l (a ∷ []) h).1.0
