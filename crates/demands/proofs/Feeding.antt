-- A check fed with any pieces stands for their join.
use Prim.Native.Nat.{ℕ}
use mathlib.Core.Path.{sym, subst}
use mathlib.Core.List.{List, ◌++◌, append_assoc, append-nil, flatten}
use Rattle.format.specs.Table.{Bytes}
use Rattle.state.specs.declared.Check.{Check}
use Rattle.pieces.specs.Answers.{Stands}
use Rattle.demands.specs.Demands.{Feeds}

-- from a state that stands for the bytes f
pub feeds-stand :
    {b sum : ℕ} (f : Bytes) {pieces : List Bytes} {c e : Check} → Stands b sum f c → Feeds c pieces e → Stands b sum (f ++ flatten pieces) e
unfolding flatten
feeds-stand {b} {sum} f h (Feeds.none {c}) = subst (λ (g : Bytes). Stands b sum g c) (sym (append-nil f)) h
feeds-stand {b} {sum} f {e} h (Feeds.more {piece} {pieces} x xs) =
    subst (λ (g : Bytes). Stands b sum g e) (append_assoc f piece (flatten pieces)) (feeds-stand (f ++ piece) (x.stands b sum f h) xs)
