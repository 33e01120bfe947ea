-- What a search for the first fault answers; and the distances between the numbers of a list, which may fall.
use Rattle.std.specs.Prelude.{ℕ, ◌+◌, ◌<◌, ◌⊎◌, List, [], ◌∷◌, Option, MatchOption}
use Rattle.format.specs.Table.{None, First}

-- the first place that has the property P, or nothing where none has it
abbrev pub Sought : {A : Type 0} → (A → Type 0) → List A → Option ℕ → Type 0
Sought P l r = MatchOption r (None P l) (First P l)

-- each number behind the one before it, and the first behind n
unfoldable pub paired : ℕ → List ℕ → List (ℕ × ℕ)
paired n [] = []
paired n (m ∷ l) = (n, m) ∷ paired m l

-- the second of a pair is below the first and the least together, or above the first and the most
abbrev pub Strays : ℕ → ℕ → ℕ × ℕ → Type 0
Strays least most p = (p.1 < p.0 + least) ⊎ (p.0 + most < p.1)
