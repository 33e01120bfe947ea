-- The state at a place of a file answers, once the rest is fed, what the model says of the rest: one byte after the other, as long as no counter stops.
use Prim.Native.Nat.{ℕ}
use native.Mathlib.Omega.{arith}
use mathlib.Core.Path.{◌≡◌, refl, sym, ap, ◌∙◌}
use mathlib.Core.Bool.{Bool, true, false, cond, not, ◌||◌}
use mathlib.Core.List.{[], ◌∷◌, ◌++◌}
use lib.Dec.{eqb, leb}
use Rattle.format.specs.declared.Place.{Place}
use Rattle.format.specs.declared.Answer.{Answer}
use Rattle.format.specs.Answer.{refused_by}
use Rattle.format.specs.Table.{Bytes}
use Rattle.format.specs.Dialect.{only_wide, lf, names, Dialect, class_of}
use Rattle.format.specs.Count.{wides, some}
use Rattle.format.specs.Place.{place_of}
use Rattle.format.proofs.Leniencies.{no-byte-wide, some-wide}
use Rattle.steps.specs.Steps.{Form, start, lead, bare, quoted, shut, tail, cr, Act, step_of}
use Rattle.steps.specs.Numbers.{form_number}
use Rattle.steps.proofs.Tallies.{Work, Ans, stop, gives, closed, record_on, record_up, record-up, or_swap}
use Rattle.steps.proofs.Forward.{Point, opening, ended, acting, comes, and_then, record-then, comes-byte, answer, lastly, comes-end, step_fits}
use Rattle.state.specs.declared.Check.{Check}
use Rattle.places.specs.Counters.{moved}
use Rattle.state.specs.Check.{placed, record_ended, fed, fed_all}
use Rattle.pieces.specs.Asked.{bit_if, totalled, settled_answer, is_open, cut}
use Rattle.state.proofs.Jumps.{fed-is}
use Rattle.state.proofs.Moves.{fed-none, fed-cons, Refuses, stopped-refuses, placed-refuses, fed-refuses}
use Rattle.places.proofs.Counting.{moved-is}
use Rattle.state.proofs.Going.{Source, dialect_of, Running, num, used_of, going, Anchored, At, before_limit, made, anew, record-ended, wide_on, adds, AtThen, acted, acted-at, noted-going, placed-going}

-- the answer of a state, where the dialect is valid and the file within the limit
unfoldable pub inner : Check → Answer
inner c = cond (is_open c) (cut c) (settled_answer c)

-- the state that stands before the rest g of a file answers, once g is fed, what is ahead of its point
abbrev pub Ahead : Source → Bytes → Type 0
Ahead z g =
    (s : Bytes) (r : Running) → At z s g r
    → inner (fed_all (going z g r) g) ≡ answer z.file (some (wides (dialect_of z) g) || r.wide) (comes (dialect_of z) g r.point)

-- a state with a refusal answers it
module _ (c : Check) (n : ℕ) (p : Place) (e : eqb n 0 ≡ false) (h : Refuses n p c) where
  settled-refuses : settled_answer c ≡ refused_by n p
  unfolding settled_answer
  settled-refuses = rw (h.refusal, h.anchor, e)

  inner-refuses : inner c ≡ refused_by n p
  unfolding inner settled_answer
  inner-refuses = rw (h.refusal, h.anchor, e)

-- a state without one, if the file ends before a field
bit-num : (x : Bool) (n : ℕ) → bit_if (num x) n ≡ cond x n 0
bit-num true n = refl
bit-num false n = refl

settled-going : (z : Source) (g : Bytes) (r : Running) → settled_answer (going z g r) ≡ answer z.file r.wide (closed r.point.work.account)
unfolding settled_answer totalled
settled-going z g r = let v = r.point.work.account.flags in rw (bit-num v.lf 1, bit-num v.blanks 2, bit-num v.ragged 4, bit-num r.wide 8)

-- at the file's length
module _ {z : Source} {s : Bytes} {r : Running} (at : At z s [] r) where
  abbrev p : Point
  p = r.point

  abbrev w : Work
  w = ended p.work

  abbrev cut_record : Answer
  cut_record = settled_answer (record_ended (used_of p.work.account.flags r.wide) (place_of z.file []) (place_of z.file []) false (going z [] r))

  -- a record that it ends
  abbrev Settles : Ans Point → Type 0
  Settles o = settled_answer (made z [] r (anew r.wide) o) ≡ answer z.file r.wide (and_then o (λ t. closed t.work.account))

  settled-end : cut_record ≡ answer z.file r.wide (record_up (dialect_of z) w [] (closed (record_on false [] w)))
  settled-end =
      let next = opening false (record_on false [] w) in
      ap settled_answer (record-ended at r.wide [] [] false)
      ∙ (record-up Settles (dialect_of z) w [] (gives next) (settled-going z [] (anew r.wide next)) (settled-refuses _ 10 _ refl (stopped-refuses 10 _ _)) (settled-refuses _ 9 _ refl (stopped-refuses 9 _ _))
      ∙ ap (answer z.file r.wide) (sym (record-then (dialect_of z) w [] (gives next) (λ t. closed t.work.account))))

  end_is : inner (going z [] r) ≡ answer z.file r.wide (cond p.begun (lastly (dialect_of z) p.form p) (closed p.work.account))
  unfolding inner
  end_is = by p.begun p.form at.anchored
    where
      by :
          (u : Bool) (k : Form) → Anchored z.file k p.anchor r.anchor
          → cond (not (eqb (num u) 0))
          (cond (eqb (form_number k) (form_number quoted)) (refused_by 8 r.anchor) (cond (leb (form_number cr) (form_number k)) (refused_by 6 r.anchor) cut_record))
          (settled_answer (going z [] r))
          ≡ answer z.file r.wide (cond u (lastly (dialect_of z) k p) (closed p.work.account))
      by false = λ k i. settled-going z [] r
      by true =
          elim [
            | start ↦ λ i. settled-end
            | lead ↦ λ i. settled-end
            | bare ↦ λ i. settled-end
            | quoted ↦ ap (refused_by 8)
            | shut ↦ λ i. settled-end
            | tail ↦ λ i. settled-end
            | cr ↦ ap (refused_by 6)
          ]

-- one byte more
module _ {z : Source} {s : Bytes} {b : ℕ} {f : Bytes} {r : Running} (at : At z s (b ∷ f) r) where
  abbrev d : Dialect
  d = dialect_of z

  abbrev act : Act
  act = step_of (names z.leniencies lf) r.point.form (class_of d b)

  fed-going : fed (going z (b ∷ f) r) b ≡ placed (place_of z.file f) (made z (b ∷ f) r (adds z b f r act) (acting d act b f r.point))
  fed-going =
      let moves : moved b (place_of z.file (b ∷ f)) ≡ place_of z.file f = rw at.split (moved-is s b f (omega (arith, before_limit at))) in
      fed-is (going z (b ∷ f) r) b r.point.form (class_of d b) refl refl refl ∙ rw (moves, noted-going at) (ap (placed (place_of z.file f)) (acted at act))

  bytes_on : (some (wides d f) || wide_on z b r) ≡ (some (wides d (b ∷ f)) || r.wide)
  bytes_on = or_swap (some (wides d f)) (only_wide z.delimiter b) r.wide ∙ ap (λ (y : Bool). y || r.wide) (sym (some-wide d b f))

  module _ (ih : Ahead z f) where
    on :
        (a : Act) (o : Ans Point) → AtThen z (s ++ (b ∷ [])) f (adds z b f r a) o
        → inner (fed_all (placed (place_of z.file f) (made z (b ∷ f) r (adds z b f r a) o)) f)
        ≡ answer z.file (some (wides d (b ∷ f)) || r.wide) (and_then o (comes d f))
    on a (stop n p) i = inner-refuses _ n _ i (fed-refuses f n _ _ i (placed-refuses n _ _ _ (stopped-refuses n _ _)))
    on a (gives t) i =
        ap (λ (c : Check). inner (fed_all c f)) (placed-going z (b ∷ f) f (adds z b f r a t))
        ∙ (ih (s ++ (b ∷ [])) (adds z b f r a t) i ∙ ap (λ (y : Bool). answer z.file y (comes d f t)) bytes_on)

    ahead-byte : inner (fed_all (going z (b ∷ f) r) (b ∷ f)) ≡ answer z.file (some (wides d (b ∷ f)) || r.wide) (comes d (b ∷ f) r.point)
    ahead-byte =
        ap inner (fed-cons (going z (b ∷ f) r) b f)
        ∙ (ap (λ (c : Check). inner (fed_all c f)) fed-going
        ∙ (on act (acting d act b f r.point) (acted-at at act (step_fits (names z.leniencies lf) r.point.form (class_of d b)))
        ∙ ap (answer z.file (some (wides d (b ∷ f)) || r.wide)) (sym (comes-byte d b f r.point))))

-- a state answers what the model says of what is fed
pub ahead : (z : Source) (g : Bytes) → Ahead z g
ahead z [] s r at = rw (fed-none, no-byte-wide, comes-end) (end_is at)
ahead z (b ∷ f) s r at = ahead-byte at (ahead z f)
