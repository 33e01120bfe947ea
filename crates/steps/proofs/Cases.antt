-- The rules' examples that are proved, each with its answer: one table of cases, and one claim over it.
use Prim.Native.Nat.{ℕ}
use mathlib.Core.Path.{◌≡◌, refl, subst}
use mathlib.Core.List.{List, [], ◌∷◌, map, flatten}
use lib.ListN.{length}
use Rattle.format.specs.Table.{Bytes, Table, Every}
use Rattle.format.specs.Dialect.{lf, blanks, ragged, bit_of, class_of}
use Rattle.format.specs.Count.{wides}
use Rattle.format.specs.Memory.{text_of}
use Rattle.format.specs.Place.{place, line_feeds, since_lf, behind, place_of}
use Rattle.format.specs.Reading.{Accepted, Refused}
use Rattle.steps.specs.Steps.{step_of}
use Rattle.steps.specs.Model.{run, agrees, fits, read, used, Verdict, accepts, refuses, verdict, is_valid, model}
use Rattle.steps.proofs.Verdicts.{Holds, model-holds}

-- accepted, with records, fields, text length and report; or a refusal, with line, column and byte
pub data Answered : Type 0 where
  counts : ℕ → ℕ → ℕ → ℕ → Answered
  refusal : ℕ → ℕ → ℕ → ℕ → Answered

-- a sum of leniencies, with comma; a file; its answer
pub record Case : Type 0 where
  pub sum : ℕ
  pub file : Bytes
  pub answer : Answered

abbrev case : ℕ → Bytes → Answered → Case
case s f a = record { sum = s; file = f; answer = a }

-- a is 97, b is 98, c is 99
abbrev pub cases : List Case
cases =
    case 0 [] (counts 0 0 0 0)
    ∷ case 0 (13 ∷ 10 ∷ []) (counts 1 1 0 0)
    ∷ case 0 (97 ∷ 13 ∷ 10 ∷ 13 ∷ 10 ∷ []) (counts 2 2 1 0)
    ∷ case 0 (97 ∷ 13 ∷ 10 ∷ 34 ∷ 34 ∷ []) (counts 2 2 1 0)
    ∷ case 0 (97 ∷ 44 ∷ []) (counts 1 2 1 0)
    ∷ case 0 (34 ∷ 97 ∷ 34 ∷ 34 ∷ 98 ∷ 34 ∷ []) (counts 1 1 3 0)
    ∷ case 0 (34 ∷ 97 ∷ 13 ∷ 10 ∷ 98 ∷ 34 ∷ 44 ∷ 99 ∷ 13 ∷ 10 ∷ []) (counts 1 2 5 0)
    ∷ case 0 (97 ∷ 34 ∷ 98 ∷ []) (refusal 4 1 2 1)
    ∷ case 0 (34 ∷ 97 ∷ 34 ∷ 98 ∷ []) (refusal 5 1 4 3)
    ∷ case 0 (97 ∷ 10 ∷ []) (refusal 7 1 2 1)
    ∷ case (bit_of lf) (97 ∷ 10 ∷ []) (counts 1 1 1 1)
    ∷ case 0 (97 ∷ 44 ∷ 98 ∷ 13 ∷ 10 ∷ 34 ∷ 99 ∷ []) (refusal 8 2 1 5)
    ∷ case (bit_of ragged) (97 ∷ 44 ∷ 98 ∷ 13 ∷ 10 ∷ 99 ∷ []) (counts 2 3 3 4)
    ∷ case 0 (32 ∷ 97 ∷ 32 ∷ 44 ∷ 32 ∷ 34 ∷ 98 ∷ 34 ∷ 32 ∷ []) (refusal 4 1 6 5)
    ∷ case (bit_of blanks) (32 ∷ 97 ∷ 32 ∷ 44 ∷ 32 ∷ 34 ∷ 98 ∷ 34 ∷ 32 ∷ []) (counts 1 2 2 2)
    ∷ []

-- what a case claims
abbrev pub ClaimOf : ℕ → Bytes → Answered → Type 0
ClaimOf s f (counts r k n u) = (t : Table) × Accepted 0x2C s f t u × (length t ≡ r) × (length (flatten t) ≡ k) × (length (text_of t) ≡ n)
ClaimOf s f (refusal n l c b) = Refused 0x2C s f n (place l c b)

abbrev pub Claim : Case → Type 0
Claim x = ClaimOf x.sum x.file x.answer

-- the model's verdict in the same numbers
abbrev answered : Verdict → Answered
answered (accepts t r) = counts (length t) (length (flatten t)) (length (text_of t)) r
answered (refuses n p) = refusal n p.line.0 p.column.0 p.byte.0

claim-of : (s : ℕ) (f : Bytes) → ClaimOf s f (answered (model 0x2C s f))
claim-of s f = go (model 0x2C s f) (model-holds 0x2C s f)
  where
    go : (a : Verdict) → Holds 0x2C s f a → ClaimOf s f (answered a)
    go (accepts t r) h = (t, h, refl, refl, refl)
    go (refuses n p) h = h

modelled : Case → Answered
modelled x = answered (model 0x2C x.sum x.file)

all : (xs : List Case) → map modelled xs ≡ map (λ x. x.answer) xs → Every Claim xs
unfolding modelled
all [] e = tt
all (x ∷ xs) e =
    let p : modelled x ≡ x.answer = cc in
    let q : map modelled xs ≡ map (λ x. x.answer) xs = cc in
    (subst (ClaimOf x.sum x.file) p (claim-of x.sum x.file), all xs q)

-- all of them hold
pub cases-hold : Every Claim cases
unfolding modelled model is_valid verdict used read run step_of class_of agrees fits wides flatten place_of behind line_feeds since_lf
cases-hold = all cases refl
