-- What a caller meets over many calls, by what the state stands for.
use Prim.Native.Nat.{ℕ}
use native.Mathlib.Omega.{arith}
use mathlib.Core.Path.{◌≡◌, refl, sym, ap, subst, ◌∙◌}
use mathlib.Core.Bool.{Bool, true, false, cond, not, ◌||◌, or-true, true≢false}
use mathlib.Core.Logic.{◌⊎◌, inl, inr}
use mathlib.Core.List.{List, [], ◌∷◌, ◌++◌, append-nil, flatten}
use lib.Dec.{eqb}
use lib.ListN.{length, take, drop, replicate, length-take}
use lib.Seq.{take-append_seam}
use borrow.Author.Tests.{eqb-true, eqb-false, le-leb}
use Rattle.format.specs.declared.Answer.{Answer}
use Rattle.format.specs.Table.{Bytes, Content, Table, Every}
use Rattle.format.specs.Dialect.{Valid}
use Rattle.format.specs.House.{EndsInBreak, content_limit, Fits}
use Rattle.format.specs.Filling.{over}
use Rattle.format.specs.Reading.{Accepted, Refused}
use Rattle.format.specs.Answer.{accepted_as, refused_by}
use Rattle.format.specs.Place.{nowhere}
use Rattle.format.proofs.Memory.{lengths_none}
use Rattle.format.proofs.Numbers.{refused-number}
use Rattle.steps.specs.Model.{is_valid}
use Rattle.steps.proofs.Verdicts.{yes-valid}
use Rattle.state.specs.declared.Check.{Check}
use Rattle.state.specs.Check.{started, fed_all}
use Rattle.state.proofs.Moves.{fed-all-keeps, start-bytes}
use Rattle.pieces.specs.Asked.{asked}
use Rattle.pieces.specs.Answers.{Answers}
use Rattle.pieces.proofs.Stands.{one_answer}
use Rattle.output.specs.declared.Stream.{Stream}
use Rattle.output.specs.declared.Streamed.{Streamed}
use Rattle.output.specs.Out.{Out, nothing, out_of, Contents}
use Rattle.output.specs.declared.Room.{Room}
use Rattle.output.specs.Stream.{shown, is_over, fits, Called, close_due, closed, answer_of, closed_by}
use Rattle.output.specs.Promises.{Awaits, nothing_early, content_next, whole_out, Stands, no_dialect, going, refused, declined, accepted, Into}
use Rattle.output.proofs.Step.{Standing, standing, clear}
use Rattle.output.proofs.Calls.{Inv, inv-going, inv-over, going-over, awaits-none}
use Rattle.output.proofs.Close.{reading-fits, none_left}
use Rattle.output.proofs.Laws.{asked_is, shown-refused, check-answers, answer-is-check, joined-is-table}
use Rattle.output.proofs.Meaning.{came-standing, stands-inv, invalid-over, closed-over as ended-over}
use Rattle.output.proofs.Closing.{closed-over as is-over}

-- A stream is over exactly if its answer refuses or a close was accepted.
module _ (s : Stream) where
  pub refused_over : ((answer_of s).refusal ≡ 0 → ⊥) → is_over s ≡ true
  unfolding answer_of
  refused_over h = by (is_over s) (asked s.check) h
    where
      by : (y : Bool) (a : Answer) → ((cond y a (refused_by 0 nowhere)).refusal ≡ 0 → ⊥) → y ≡ true
      by true a h = refl
      by false a h = absurd (h refl)

  pub closed-over : closed_by s ≡ 1 → (is_over s ≡ true) × ((answer_of s).refusal ≡ 0)
  unfolding closed_by
  closed-over h = by (eqb s.closed 0) refl (eqb (asked s.check).refusal 0) refl h
    where
      by : (x : Bool) → eqb s.closed 0 ≡ x → (y : Bool) → eqb (asked s.check).refusal 0 ≡ y → ◌≡◌ {A = ℕ} (cond x 0 (cond y 1 0)) 1
          → (is_over s ≡ true) × ((answer_of s).refusal ≡ 0)
      by true e y i h = absurd (omega (arith, h))
      by false e false i h = absurd (omega (arith, h))
      by false e true i h =
          let o : is_over s ≡ true = rw e (or-true (shown s.check)) in
          (o, ap (λ (a : Answer). a.refusal) (sym (asked_is s o)) ∙ eqb-true (asked s.check).refusal 0 i)

  pub over-ended : is_over s ≡ true → ((answer_of s).refusal ≡ 0 → ⊥) ⊎ (closed_by s ≡ 1)
  unfolding closed_by
  over-ended o = by (eqb (asked s.check).refusal 0) refl (shown s.check) refl (eqb s.closed 0) refl o
    where
      by : (y : Bool) → eqb (asked s.check).refusal 0 ≡ y → (x : Bool) → shown s.check ≡ x → (z : Bool) → eqb s.closed 0 ≡ z → (x || not z) ≡ true
          → ((answer_of s).refusal ≡ 0 → ⊥) ⊎ (◌≡◌ {A = ℕ} (cond z 0 (cond y 1 0)) 1)
      by false e x i z j h = inl (λ q. eqb-false (asked s.check).refusal 0 e (ap (λ (a : Answer). a.refusal) (asked_is s o) ∙ q))
      by true e true i z j h = absurd (shown-refused s.check i (eqb-true (asked s.check).refusal 0 e))
      by true e false i true j h = absurd (true≢false (sym h))
      by true e false i false j h = inr refl

-- what a call put out stands over the front of each buffer
front : {A : Type 0} (new old : List A) {buf : List A} {n : ℕ} → n ≡ length new → buf ≡ over new old → take n buf ≡ new
front new old e q = rw (e, q) (take-append_seam new (drop (length new) old))

pub filled :
    {c : Called} {text text' : Bytes} {ends rows ends' rows' : List ℕ} {r : Streamed} → Into c text ends rows r text' ends' rows'
    → record { text = take r.text text'; ends = take r.ends ends'; rows = take r.rows rows' } ≡ c.out
filled {c} {text} {ends = ends} {rows} w =
    λ i. record {
      text = front c.out.text text w.text_count w.text_is i;
      ends = front c.out.ends ends w.ends_count w.ends_is i;
      rows = front c.out.rows rows w.rows_count w.rows_is i;
    }

-- an answer is the reader's for an accepted file, or refuses
pub answers-refused : {b sum : ℕ} {f : Bytes} {a : Answer} → Answers b sum f a → (a.refusal ≡ 0 → ⊥) → Refused b sum f a.refusal a.place
answers-refused (Answers.accepted h) n = absurd (n refl)
answers-refused (Answers.refused h) n = h

pub answers-accepted : {b sum : ℕ} {f : Bytes} {a : Answer} → Answers b sum f a → a.refusal ≡ 0 → (t : Table) × (r : ℕ) × Accepted b sum f t r
answers-accepted (Answers.accepted {t} {r} h) z = (t, r, h)
answers-accepted (Answers.refused h) z = let k = refused-number h in absurd (omega arith)

-- An accepted close: what is out is the table, and the answer is the reader's.
pub stands-closed :
    {b sum : ℕ} {f g : Bytes} {o : Out} {s : Stream} → Stands b sum f g o s → closed_by s ≡ 1
    → (t : Table) × (r : ℕ) × Accepted b sum f t r × (answer_of s ≡ accepted_as t r) × (o ≡ whole_out t)
stands-closed {s = s} h k =
    let e = closed-over s k in
    let (t, r, a) = answers-accepted (answer-is-check h e.0) e.1 in
    let j = joined-is-table h e.0 a in
    (t, r, a, j.1, j.0)

-- a state that shows no refusal is of a dialect
shown-valid : (b sum : ℕ) (f : Bytes) {c : Check} → c ≡ fed_all (started b sum) f → shown c ≡ false → Valid b sum
shown-valid b sum f {c} p q =
    let k = fed-all-keeps f (started b sum) in
    let z = start-bytes b sum in
    let x : c.delimiter ≡ b = ap (λ (e : Check). e.delimiter) p ∙ k.delimiter ∙ z.0 in
    let y : c.leniencies ≡ sum = ap (λ (e : Check). e.leniencies) p ∙ k.leniencies ∙ z.1 in
    yes-valid b sum (subst (λ (i : ℕ). is_valid i sum ≡ true) x (subst (λ (j : ℕ). is_valid c.delimiter j ≡ true) y (clear c q).valid))

pub stands-invalid : {b sum : ℕ} {f g : Bytes} {o : Out} {s : Stream} → Stands b sum f g o s → (Valid b sum → ⊥) → (f ≡ []) × (o ≡ nothing)
stands-invalid (no_dialect v p q) n = (refl, q)
stands-invalid {b} {sum} {f} (going p q c o a) n = absurd (n (shown-valid b sum f p q))
stands-invalid {b} {sum} (refused e x i j p q o) n = absurd (n (shown-valid b sum e refl j))
stands-invalid {b} {sum} {f} (declined p q c h o) n = absurd (n (shown-valid b sum f p q))
stands-invalid (accepted p c h o) n = absurd (n h.valid)

-- Whatever is out are contents within the limit.
out-contents : (t : Table) (cs : List Content) (c : Content) (m : ℕ) → Every Fits (flatten t ++ cs) → Contents (out_of t cs c m)
unfolding out_of
out-contents t cs c m f =
    record { whole = flatten t ++ cs; last = take content_limit (c ++ replicate m 0x20); text_is = refl; ends_are = refl; fit = f; cut = omega (arith, length-take content_limit (c ++ replicate m 0x20)) }

standing-contents : {x sum m : ℕ} {f : Bytes} {e : Check} {o : Out} → Standing x sum f e m o → Contents o
standing-contents {m = m} (standing {t = t} {cs} {c} w l q) = subst Contents (sym q) (out-contents t cs c m w.fits)

table-contents : (t : Table) → Every Fits (flatten t) → Contents (whole_out t)
table-contents t f =
    record { whole = flatten t; last = []; text_is = sym (append-nil (flatten (flatten t))); ends_are = refl; fit = f; cut = omega arith }

pub stands-contents : {b sum : ℕ} {f g : Bytes} {o : Out} {s : Stream} → Stands b sum f g o s → Contents o
unfolding flatten
stands-contents (no_dialect v p q) = subst Contents (sym q) (record { whole = []; last = []; text_is = refl; ends_are = sym (lengths_none ℕ 0); fit = tt; cut = omega arith })
stands-contents (going p q c o a) = standing-contents (came-standing p q o)
stands-contents (refused e x i j p q o) = standing-contents (came-standing refl j o)
stands-contents (declined p q c h o) = standing-contents (came-standing p q o)
stands-contents (accepted {t = t} p c h o) = subst Contents (sym o) (table-contents t (reading-fits h.reading))

-- Blanks that are out early await the byte that comes next, whatever comes behind it.
pub stands-awaits :
    {b sum x : ℕ} {f g h : Bytes} {o : Out} {s : Stream} → Stands b sum f (x ∷ g) o s → (is_over s ≡ true) ⊎ Awaits s.check s.early (x ∷ h)
stands-awaits {b} {sum} {s = s} (no_dialect v p q) = inl (invalid-over b sum s v p)
stands-awaits (going p q c o a) = inr (next a)
  where
    next : {c : Check} {m x : ℕ} {g h : Bytes} → Awaits c m (x ∷ g) → Awaits c m (x ∷ h)
    next nothing_early = nothing_early
    next (content_next i j) = content_next i j
stands-awaits {s = s} (refused e x i j p q o) = inl (rw q)
stands-awaits {s = s} (declined p q c h o) = inl (ended-over s c)
stands-awaits {s = s} (accepted p c h o) = inl (ended-over s c)

-- A file that is empty, or ends in a line break, needs no room at its close.
none-due : (s : Stream) (r : Room) (x : Answer) → asked s.check ≡ x → close_due s.check x ≡ nothing → is_over s ≡ false → ((closed s r).short ≡ 0) × ((closed s r).out ≡ nothing)
unfolding closed fits
none-due s r x i j k = rw (k, i, j, le-leb 0 r.text (omega arith), le-leb 0 r.ends (omega arith), le-leb 0 r.rows (omega arith)) (refl, refl)

pub close_needs_none :
    {b sum n : ℕ} {f : Bytes} {o : Out} {s : Stream} {t : Table} → Stands b sum f [] o s → Accepted b sum f t n → (f ≡ []) ⊎ EndsInBreak f → (r : Room)
    → ((closed s r).short ≡ 0) × ((closed s r).out ≡ nothing)
close_needs_none {b} {sum} {n} {f} {o} {s} {t} h a e r = by (stands-inv h)
  where
    by : Inv b sum f [] o s → ((closed s r).short ≡ 0) × ((closed s r).out ≡ nothing)
    by (inv-over i k) = rw (is-over s r i) (refl, refl)
    by (inv-going p q c w x) =
        let i = one_answer (check-answers b sum f s.check p) (Answers.accepted a) in
        let w₀ = subst (λ (m : ℕ). Standing b sum f s.check m o) (awaits-none x refl) w in
        none-due s r (accepted_as t n) i (none_left t n w₀ q a.valid a.reading i e) (going-over s q c)
