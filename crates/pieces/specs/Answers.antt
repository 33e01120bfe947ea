-- What a check's answers mean.
use Rattle.std.specs.Prelude.{ℕ, ◌≡◌, [], ◌++◌}
use Rattle.format.specs.declared.Place.{Place}
use Rattle.format.specs.declared.Answer.{Answer}
use Rattle.format.specs.Answer.{accepted_as, refused_by}
use Rattle.format.specs.Table.{Bytes, Table}
use Rattle.format.specs.Reading.{Accepted, Refused}
use Rattle.state.specs.declared.Check.{Check}
use Rattle.state.specs.Check.{started, fed_all}
use Rattle.pieces.specs.Asked.{asked}

-- the answer for the file f, over any two dialect bytes
pub data Answers (b sum : ℕ) (f : Bytes) : Answer → Type 0 where
  accepted : {t : Table} {r : ℕ} → Accepted b sum f t r → Answers b sum f (accepted_as t r)
  refused : {n : ℕ} {p : Place} → Refused b sum f n p → Answers b sum f (refused_by n p)

-- A state stands for a dialect and the bytes f: whatever comes next, asking then gives the answer for all of it as one whole file.
abbrev pub Stands : ℕ → ℕ → Bytes → Check → Type 0
Stands b sum f c = (g : Bytes) → Answers b sum (f ++ g) (asked (fed_all c g))

-- what start, feed and ask promise: the result, for every state; and what it means of a state that stands for a dialect and bytes
pub record Started (b sum : ℕ) (c : Check) : Type 0 where
  pub result : c ≡ started b sum
  pub stands : Stands b sum [] c

pub record Fed (c : Check) (piece : Bytes) (e : Check) : Type 0 where
  pub result : e ≡ fed_all c piece
  pub stands : (b sum : ℕ) (f : Bytes) → Stands b sum f c → Stands b sum (f ++ piece) e

pub record Asked (c : Check) (a : Answer) : Type 0 where
  pub result : a ≡ asked c
  pub answers : (b sum : ℕ) (f : Bytes) → Stands b sum f c → Answers b sum f a
