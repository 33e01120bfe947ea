-- The check fed in pieces answers for all bytes so far as one whole file, wherever the cuts fall; and what each call promises settles its answer.
use Prim.Native.Nat.{ℕ, ◌+◌, ◌≤◌, min}
use native.Mathlib.Omega.{arith}
use mathlib.Core.Path.{◌≡◌, refl, sym, ap, subst, ◌∙◌}
use mathlib.Core.Bool.{Bool, true, false, cond, not, or-false}
use mathlib.Core.List.{[], ◌++◌, append_assoc, append-nil}
use lib.Dec.{eqb, leb}
use lib.ListN.{length}
use borrow.Author.Tests.{eq-eqb, leb-true, leb-false, le-leb, lt-leb}
use Rattle.format.specs.declared.Answer.{Answer}
use Rattle.format.specs.Answer.{accepted_as, refused_by}
use Rattle.format.specs.Table.{Bytes, Table}
use Rattle.format.specs.Dialect.{dialect}
use Rattle.format.specs.House.{file_limit}
use Rattle.format.specs.Count.{wides, some}
use Rattle.format.specs.Place.{nowhere}
use Rattle.format.specs.Reading.{Accepted}
use Rattle.format.proofs.Numbers.{refused-number}
use Rattle.steps.specs.Model.{any, read, Verdict, accepts, refuses, verdict, is_valid, model}
use Rattle.steps.proofs.Theorems.{one-accepted, one-refused, never_both}
use Rattle.steps.proofs.Verdicts.{model-invalid, model-long, model-within, Holds, model-holds}
use Rattle.state.specs.declared.Check.{Check}
use Rattle.places.specs.Counters.{counter_limit}
use Rattle.state.specs.Check.{started, fed_all}
use Rattle.pieces.specs.Asked.{settled_answer, cut, asked}
use Rattle.pieces.specs.Answers.{Answers, accepted, refused, Stands, Started, Fed, Asked}
use Rattle.steps.proofs.Forward.{comes, answer, answer_of, comes-answer}
use Rattle.state.proofs.Jumps.{fed-join}
use Rattle.state.proofs.Moves.{fed-none, fed-all-keeps, start-bytes, started-byte}
use Rattle.state.proofs.Going.{Source, first, first-at, started-going}
use Rattle.pieces.proofs.Ahead.{inner, ahead}

-- what holds of the model's verdict is its answer
holds-answers : (b sum : ℕ) (f : Bytes) (a : Verdict) → Holds b sum f a → Answers b sum f (answer_of a)
holds-answers b sum f (accepts t r) h = accepted h
holds-answers b sum f (refuses n p) h = refused h

asked-inner :
    (c : Check) (x y : Bool) → is_valid c.delimiter c.leniencies ≡ x → leb c.here.byte.0 file_limit ≡ y
    → asked c ≡ cond x (cond y (inner c) (refused_by 2 nowhere)) (refused_by 1 nowhere)
unfolding asked inner
asked-inner c x y p q = rw (p, q)

-- asking a state of a dialect, within the limit and with no fault
pub asked-as :
    (c : Check) → is_valid c.delimiter c.leniencies ≡ true → leb c.here.byte.0 file_limit ≡ true → c.refusal ≡ 0
    → (y : Bool) → eqb c.begun 0 ≡ y → asked c ≡ cond (not y) (cut c) (settled_answer c)
unfolding asked
asked-as c v l r y e = rw (v, l, eq-eqb c.refusal 0 r, e)

module _ (b sum : ℕ) where
  -- within the limit
  inner-is : (f : Bytes) → length f ≤ file_limit → inner (fed_all (started b sum) f) ≡ answer_of (verdict (dialect b sum) f (read (dialect b sum) any f))
  inner-is f h =
      let z : Source = record { delimiter = b; leniencies = sum; file = f; small = h } in
      ap (λ (c : Check). inner (fed_all c f)) (started-going z)
      ∙ (ahead z f [] (first f) (first-at z)
      ∙ (ap (λ (y : Bool). answer f y (comes (dialect b sum) f (first f).point)) (or-false (some (wides (dialect b sum) f))) ∙ comes-answer (dialect b sum) f))

  short-is : (f : Bytes) → leb (fed_all (started b sum) f).here.byte.0 file_limit ≡ leb (length f) file_limit
  short-is f = rw (started-byte b sum f) (go (leb (length f) file_limit) refl)
    where
      go : (x : Bool) → leb (length f) file_limit ≡ x → leb (min (0 + length f) counter_limit) file_limit ≡ x
      go true e = le-leb (min (0 + length f) counter_limit) file_limit (omega (arith, leb-true (length f) file_limit e))
      go false e = lt-leb (min (0 + length f) counter_limit) file_limit (omega (arith, leb-false (length f) file_limit e))

  asked_is : (f : Bytes) → asked (fed_all (started b sum) f) ≡ answer_of (model b sum f)
  asked_is f =
      let c = fed_all (started b sum) f in
      let same = fed-all-keeps f (started b sum) in
      let valid : is_valid c.delimiter c.leniencies ≡ is_valid b sum = cc (same.delimiter, same.leniencies, (start-bytes b sum).0, (start-bytes b sum).1) in
      asked-inner c (is_valid b sum) (leb (length f) file_limit) valid (short-is f) ∙ by (is_valid b sum) (leb (length f) file_limit) refl refl
    where
      by :
          (x y : Bool) → is_valid b sum ≡ x → leb (length f) file_limit ≡ y
          → cond x (cond y (inner (fed_all (started b sum) f)) (refused_by 2 nowhere)) (refused_by 1 nowhere) ≡ answer_of (model b sum f)
      by true true v e = let h = leb-true (length f) file_limit e in rw (model-within b sum f v h) (inner-is f h)
      by true false v e = rw (model-long b sum f v (leb-false (length f) file_limit e))
      by false y v e = rw (model-invalid b sum f v)

  -- a check that has started stands for the dialect and no bytes
  pub started-stands : Stands b sum [] (started b sum)
  started-stands g = rw (asked_is g) (holds-answers b sum g (model b sum g) (model-holds b sum g))

pub fed-stands : (b sum : ℕ) (f piece : Bytes) (c : Check) → Stands b sum f c → Stands b sum (f ++ piece) (fed_all c piece)
fed-stands b sum f piece c h g = rw (append_assoc f piece g, ← fed-join c piece g) (h (piece ++ g))

pub stands-answers : (b sum : ℕ) (f : Bytes) (c : Check) → Stands b sum f c → Answers b sum f (asked c)
stands-answers b sum f c h = rw (append-nil f, fed-none c) at (h [])

-- any two answers for a file coincide, and so do any two outcomes that a promise allows
pub one_answer : {b sum : ℕ} {f : Bytes} {x y : Answer} → Answers b sum f x → Answers b sum f y → x ≡ y
one_answer (accepted h) (accepted i) = let e = one-accepted h i in λ j. accepted_as (e.0 j) (e.1 j)
one_answer (accepted h) (refused i) = absurd (never_both h i)
one_answer (refused h) (accepted i) = absurd (never_both i h)
one_answer (refused h) (refused i) = let e = one-refused h i in λ j. refused_by (e.0 j) (e.1 j)

pub start-one : (b sum : ℕ) (c e : Check) → Started b sum c → Started b sum e → c ≡ e
start-one b sum c e p q = p.result ∙ sym q.result

pub feed-one : (c : Check) (piece : Bytes) (e f : Check) → Fed c piece e → Fed c piece f → e ≡ f
feed-one c piece e f p q = p.result ∙ sym q.result

pub ask-one : (c : Check) (a e : Answer) → Asked c a → Asked c e → a ≡ e
ask-one c a e p q = p.result ∙ sym q.result

-- the result decides the rest of each promise
pub so-started : {b sum : ℕ} {c : Check} → c ≡ started b sum → Started b sum c
so-started {b} {sum} e = record { result = e; stands = subst (Stands b sum []) (sym e) (started-stands b sum) }

pub so-fed : {c e : Check} {piece : Bytes} → e ≡ fed_all c piece → Fed c piece e
so-fed {c} {piece} q =
    record { result = q; stands = λ b sum f h. subst (Stands b sum (f ++ piece)) (sym q) (fed-stands b sum f piece c h) }

pub so-asked : {c : Check} {a : Answer} → a ≡ asked c → Asked c a
so-asked {c} q = record { result = q; answers = λ b sum f h. subst (Answers b sum f) (sym q) (stands-answers b sum f c h) }

-- what the check accepts, with its answer
pub data Takes (b sum : ℕ) (f : Bytes) : Answer → Type 0 where
  takes : {t : Table} {r : ℕ} → Accepted b sum f t r → Takes b sum f (accepted_as t r)

pub accepts-it : {b sum : ℕ} {f : Bytes} {a : Answer} → Answers b sum f a → a.refusal ≡ 0 → Takes b sum f a
accepts-it (accepted h) e = takes h
accepts-it (refused h) e = absurd (omega (arith, refused-number h))
