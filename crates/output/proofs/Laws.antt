-- The laws for a caller.
use Prim.Native.Nat.{ℕ}
use native.Mathlib.Omega.{arith}
use mathlib.Core.Path.{◌≡◌, refl, sym, ap, subst, ◌∙◌}
use mathlib.Core.Bool.{Bool, true, false, cond, or-true, true≢false}
use mathlib.Core.List.{[]}
use lib.Dec.{eqb}
use borrow.Author.Tests.{ne_eqb}
use Rattle.format.specs.declared.Answer.{Answer}
use Rattle.format.specs.Table.{Bytes, Table}
use Rattle.format.specs.Dialect.{dialect}
use Rattle.format.specs.Answer.{accepted_as, refused_by}
use Rattle.format.specs.Reading.{Accepted}
use Rattle.format.proofs.Classes.{decide}
use Rattle.steps.specs.Model.{is_valid}
use Rattle.steps.proofs.Verdicts.{valid-yes}
use Rattle.steps.proofs.Theorems.{one-accepted, never_both}
use Rattle.state.specs.declared.Check.{Check}
use Rattle.state.specs.Check.{started, fed_all}
use Rattle.pieces.specs.Asked.{asked}
use Rattle.pieces.proofs.Asking.{asks-refused}
use Rattle.format.proofs.Numbers.{refused-number}
use Rattle.pieces.specs.Answers.{Answers}
use Rattle.pieces.proofs.Stands.{started-stands, fed-stands, stands-answers, one_answer}
use Rattle.state.proofs.Moves.{fed-none}
use Rattle.state.proofs.Parts.{started-is}
use Rattle.output.specs.declared.Stream.{Stream}
use Rattle.output.specs.Out.{Out, nothing, then, CameOut}
use Rattle.output.specs.declared.Room.{Room}
use Rattle.output.specs.Stream.{shown, is_over, fits, Called, stream_started, close_due, closed, answer_of}
use Rattle.output.specs.Promises.{Awaits, nothing_early, whole_out, Stands, no_dialect, going, refused, declined, accepted}
use Rattle.output.proofs.Step.{Standing, not-shown, then-nothing}
use Rattle.output.proofs.Close.{closing-out}
use Rattle.output.proofs.Calls.{going-over, standing-out, started-standing, Inv, inv-going, inv-over, awaits-none}

-- what the check says of the bytes taken
pub check-answers : (b sum : ℕ) (f : Bytes) (c : Check) → c ≡ fed_all (started b sum) f → Answers b sum f (asked c)
check-answers b sum f c p =
    subst (λ (c : Check). Answers b sum f (asked c)) (sym p) (stands-answers b sum f (fed_all (started b sum) f) (fed-stands b sum [] f (started b sum) (started-stands b sum)))

-- a file that is refused has no last end
none-due : (c : Check) (a : Answer) → eqb a.refusal 0 ≡ false → close_due c a ≡ nothing
unfolding close_due
none-due c a e = rw e

-- the close
abbrev pub Left : ℕ → ℕ → Bytes → Out → Called → Type 0
Left b sum f o u = Inv b sum f [] (then o u.out) u.state

module _ (b sum : ℕ) (f : Bytes) (o : Out) (s : Stream) (p : s.check ≡ fed_all (started b sum) f) (q : shown s.check ≡ false) (c₀ : s.closed ≡ 0)
    (w : Standing b sum f s.check s.early o) (a : Awaits s.check s.early [])
  where
    abbrev done : Stream
    done = record { check = s.check; early = s.early; closed = 1 }

    none-early : Standing b sum f s.check 0 o
    none-early = subst (λ (m : ℕ). Standing b sum f s.check m o) (awaits-none a refl) w

    ended : is_over done ≡ true
    ended = or-true (shown s.check)

    room-or-not :
        (r : Room) (u : Out) (n : ℕ) → ((g : Bytes) → Stands b sum f g (then o u) done)
        → Left b sum f o (cond (fits u r) (record { taken = 0; out = u; short = 0; state = done }) (record { taken = 0; out = nothing; short = n; state = s }))
    room-or-not r u n h =
        decide (Left b sum f o) (fits u r) (λ i. inv-over ended h)
        (λ i. subst (λ (p : Out). Inv b sum f [] p s) (sym (then-nothing o)) (inv-going p q c₀ w a))

    answered : (x : Answer) → asked s.check ≡ x → Answers b sum f x → (g : Bytes) → Stands b sum f g (then o (close_due s.check x)) done
    answered x e (Answers.refused {n} {p = z} h) g =
        let m = refused-number h in
        let i : close_due s.check (refused_by n z) ≡ nothing = none-due s.check (refused_by n z) (ne_eqb n 0 (λ y. omega arith)) in
        declined p q refl h (subst (CameOut (dialect b sum) f 0) (sym (ap (then o) i ∙ then-nothing o)) (standing-out none-early))
    answered x e (Answers.accepted {t} {r} h) g = accepted p refl h (closing-out t r none-early q h.reading e)

pub close-inv : {b sum : ℕ} {f : Bytes} {o : Out} {s : Stream} (r : Room) → Inv b sum f [] o s → Left b sum f o (closed s r)
unfolding closed
close-inv {b} {sum} {f} {o} {s} r (inv-over h k) = rw h (subst (λ (p : Out). Inv b sum f [] p s) (sym (then-nothing o)) (inv-over h k))
close-inv {b} {sum} {f} {o} {s} r (inv-going p q c w a) =
    rw (going-over s q c) (room-or-not b sum f o s p q c w a r (close_due s.check (asked s.check)) _ (answered b sum f o s p q c w a (asked s.check) refl (check-answers b sum f s.check p)))

-- the start
shown-start : (b sum : ℕ) → is_valid b sum ≡ true → shown (started b sum) ≡ false
unfolding shown
shown-start b sum e = rw (started-is b sum, e)

pub over-start : (b sum : ℕ) → is_valid b sum ≡ false → is_over (stream_started b sum) ≡ true
unfolding shown stream_started
over-start b sum e = rw (started-is b sum, e)

pub start-inv : (b sum : ℕ) (g : Bytes) → Inv b sum [] g nothing (stream_started b sum)
unfolding stream_started
start-inv b sum g = by (is_valid b sum) refl
  where
    by : (x : Bool) → is_valid b sum ≡ x → Inv b sum [] g nothing (stream_started b sum)
    by true e = inv-going (sym (fed-none (started b sum))) (shown-start b sum e) refl (started-standing b sum) nothing_early
    by false e = inv-over (over-start b sum e) (λ g. no_dialect (λ v. true≢false (sym (valid-yes b sum v) ∙ e)) refl refl)

-- a refusal that is shown is the answer
pub shown-refused : (c : Check) → shown c ≡ true → (asked c).refusal ≡ 0 → ⊥
shown-refused c h = asks-refused c (λ p q r. true≢false (sym h ∙ not-shown c p q r))

-- the state's check is that of the bytes taken
pub stands-check : {b sum : ℕ} {f g : Bytes} {o : Out} {s : Stream} → Stands b sum f g o s → s.check ≡ fed_all (started b sum) f
stands-check {b} {sum} (no_dialect v p q) = p ∙ sym (fed-none (started b sum))
stands-check (going p q c o a) = p
stands-check (refused e x i j p q o) = p
stands-check (declined p q c h o) = p
stands-check (accepted p c h o) = p

-- the answer of a stream that is over
pub asked_is : (s : Stream) → is_over s ≡ true → asked s.check ≡ answer_of s
unfolding answer_of
asked_is s e = rw e

-- The answer, once there is one, is the check's for the bytes taken.
pub answer-is-check : {b sum : ℕ} {f g : Bytes} {o : Out} {s : Stream} → Stands b sum f g o s → is_over s ≡ true → Answers b sum f (answer_of s)
unfolding answer_of
answer-is-check {b} {sum} {f} {s} h e = rw e (check-answers b sum f s.check (stands-check h))

table-out :
    {b sum r : ℕ} {f g : Bytes} {o : Out} {s : Stream} {t : Table} → Stands b sum f g o s → Accepted b sum f t r → is_over s ≡ true → (answer_of s).refusal ≡ 0 → o ≡ whole_out t
table-out (no_dialect v p q) a u y = absurd (v a.valid)
table-out {s} (going p q c i w) a u y = absurd (true≢false (sym u ∙ going-over s q c))
table-out {s} (refused i j k l p q w) a u y = absurd (shown-refused s.check q (ap (λ (x : Answer). x.refusal) (asked_is s u) ∙ y))
table-out (declined p q c i w) a u y = absurd (never_both a i)
table-out (accepted p c i w) a u y = w ∙ ap whole_out (one-accepted i a).0

-- Accepted: what came out, joined, is the whole reader's table, and the answer is the reader's.
pub joined-is-table :
    {b sum r : ℕ} {f g : Bytes} {o : Out} {s : Stream} {t : Table} → Stands b sum f g o s → is_over s ≡ true → Accepted b sum f t r
    → (o ≡ whole_out t) × (answer_of s ≡ accepted_as t r)
joined-is-table h e a =
    let q = one_answer (answer-is-check h e) (Answers.accepted a) in
    (table-out h a e (ap (λ (x : Answer). x.refusal) q), q)
