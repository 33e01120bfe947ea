-- A state that stands for a dialect, bytes taken and what is out goes to such a state; and any two outcomes of a call coincide.
use Prim.Native.Nat.{ℕ}
use native.Mathlib.Omega.{arith}
use mathlib.Core.Path.{◌≡◌, refl, sym, subst, ◌∙◌}
use mathlib.Core.Bool.{Bool, true, false, or-true}
use mathlib.Core.List.{List, [], ◌∷◌, ◌++◌, append_assoc, append-nil}
use lib.Dec.{eqb}
use borrow.Author.Tests.{eqb-true, eqb-false}
use Rattle.format.specs.Table.{Bytes}
use Rattle.format.specs.Dialect.{dialect, Valid}
use Rattle.steps.specs.Model.{is_valid}
use Rattle.state.specs.declared.Check.{Check}
use Rattle.places.specs.Counters.{moved}
use Rattle.state.specs.Check.{started, fed, fed_all}
use Rattle.state.proofs.Jumps.{refused-step}
use Rattle.state.proofs.Moves.{placed-refuses, fed-none, fed-cons, fed-byte, fed-keeps}
use Rattle.state.proofs.Parts.{started-is}
use Rattle.steps.proofs.Verdicts.{no-valid}
use Rattle.output.specs.declared.Stream.{Stream}
use Rattle.output.specs.Out.{Out, nothing, out_of, CameOut, came_out}
use Rattle.format.specs.SoFar.{so_far}
use Rattle.output.specs.Stream.{shown, is_over, Called, stream_started, streamed, closed}
use Rattle.output.specs.declared.Streamed.{Streamed}
use Rattle.output.specs.Promises.{Into, room_of, Stands, no_dialect, going, refused, declined, accepted, Started, Fed, Closed}
use Rattle.steps.proofs.Forms.{at-begun}
use Rattle.output.proofs.Step.{Standing, standing, clear, stand-byte, not-shown}
use Rattle.steps.proofs.One.{one-so-far}
use Rattle.output.proofs.Calls.{started-standing, Inv, inv-going, inv-over, inv-stands, feed-inv}
use Rattle.output.proofs.Laws.{start-inv, close-inv}

-- what is shown stays
fed-refusal : (c : Check) (b : ℕ) → (c.refusal ≡ 0 → ⊥) → (fed c b).refusal ≡ c.refusal
fed-refusal c b h = rw (refused-step c b h) (placed-refuses c.refusal c.anchor (moved b c.here) c (record { refusal = refl; anchor = refl })).refusal

pub shown-before : (c : Check) (b : ℕ) → shown (fed c b) ≡ false → shown c ≡ false
shown-before c b h =
    let w = clear (fed c b) h in
    let k = fed-keeps c b in
    let v : is_valid c.delimiter c.leniencies ≡ true = cc (w.valid, k.delimiter, k.leniencies) in
    let y = fed-byte c b in
    let z = w.short in
    not-shown c v (omega arith) (by (eqb c.refusal 0) refl w.refusal)
  where
    by : (y : Bool) → eqb c.refusal 0 ≡ y → (fed c b).refusal ≡ 0 → c.refusal ≡ 0
    by true e p = eqb-true c.refusal 0 e
    by false e p = sym (fed-refusal c b (eqb-false c.refusal 0 e)) ∙ p

pub shown-first : (f : Bytes) (c : Check) → shown (fed_all c f) ≡ false → shown c ≡ false
shown-first [] c h = rw (fed-none c) at h
shown-first (b ∷ f) c h = shown-before c b (shown-first f (fed c b) (rw (fed-cons c b f) at h))

-- whatever no refusal is shown for stands
stand-all : (x sum : ℕ) (f e : Bytes) (c : Check) (o : Out) → Standing x sum e c 0 o → shown (fed_all c f) ≡ false → (p : Out) × Standing x sum (e ++ f) (fed_all c f) 0 p
stand-all x sum [] e c o w h = (o, rw (fed-none c) (subst (λ (l : Bytes). Standing x sum l c 0 o) (sym (append-nil e)) w))
stand-all x sum (b ∷ f) e c o w h =
    let h' = rw (fed-cons c b f) at h in
    let z = stand-all x sum f (e ++ (b ∷ [])) (fed c b) _ (stand-byte b w (shown-first f (fed c b) h') (λ i. refl)) h' in
    rw (fed-cons c b f) (z.0, subst (λ (l : Bytes). Standing x sum l (fed_all (fed c b) f) 0 z.0) (append_assoc e (b ∷ []) f) z.1)

standing-is : {x sum m : ℕ} {f : Bytes} {c : Check} {o p : Out} → Standing x sum f c 0 o → CameOut (dialect x sum) f m p → Standing x sum f c m p
standing-is {x} {sum} {m} {p} (standing {k} {n} w l q) (came_out s i j) =
    let z = one-so-far (dialect x sum) s (so_far w.records w.fields (at-begun w.at)) in
    let y = z.3 in
    standing w (omega arith) (j ∙ λ i. out_of (z.0 i) (z.1 i) (z.2 i) m)

pub came-standing :
    {x sum m : ℕ} {f : Bytes} {c : Check} {o : Out} → c ≡ fed_all (started x sum) f → shown c ≡ false → CameOut (dialect x sum) f m o → Standing x sum f c m o
came-standing {x} {sum} {m} {f} {c} {o} p q h =
    let z = stand-all x sum f [] (started x sum) nothing (started-standing x sum) (subst (λ (c : Check). shown c ≡ false) p q) in
    subst (λ (c : Check). Standing x sum f c m o) (sym p) (standing-is z.1 h)

pub closed-over : (s : Stream) → s.closed ≡ 1 → is_over s ≡ true
closed-over s c = rw c (or-true (shown s.check))

shown-bad : (b sum : ℕ) (s : Stream) → is_valid b sum ≡ false → s.check ≡ started b sum → is_over s ≡ true
unfolding shown
shown-bad b sum s e p = rw (p, started-is b sum, e)

pub invalid-over : (b sum : ℕ) (s : Stream) → (Valid b sum → ⊥) → s.check ≡ started b sum → is_over s ≡ true
invalid-over b sum s v p = shown-bad b sum s (no-valid b sum v) p

pub stands-inv : {b sum : ℕ} {f g : Bytes} {o : Out} {s : Stream} → Stands b sum f g o s → Inv b sum f g o s
stands-inv {b} {sum} {s} (no_dialect v p q) = inv-over (invalid-over b sum s v p) (λ g. no_dialect v p q)
stands-inv (going p q c o a) = inv-going p q c (came-standing p q o) a
stands-inv {s} (refused e x i j p q o) = inv-over (let z : is_over s ≡ true = rw q in z) (λ g. refused e x i j p q o)
stands-inv {s} (declined p q c h o) = inv-over (closed-over s c) (λ g. declined p q c h o)
stands-inv {s} (accepted p c h o) = inv-over (closed-over s c) (λ g. accepted p c h o)

-- The result decides the rest of each promise.
pub so-started : {b sum : ℕ} {s : Stream} → s ≡ stream_started b sum → Started b sum s
so-started {b} {sum} q = record { result = q; stands = λ g. subst (Stands b sum [] g nothing) (sym q) (inv-stands (start-inv b sum g)) }

pub so-fed :
    {s : Stream} {piece text : Bytes} {ends rows : List ℕ} {r : Streamed} {text' : Bytes} {ends' rows' : List ℕ}
    → Into (streamed s piece (room_of text ends rows)) text ends rows r text' ends' rows' → Fed s piece text ends rows r text' ends' rows'
so-fed {s} {piece} {text} {ends} {rows} q =
    record {
      into = q;
      stands = λ b sum f g o h. rw (q.taken, q.state) (inv-stands (feed-inv piece g (room_of text ends rows) (stands-inv h)));
    }

pub so-closed :
    {s : Stream} {ends rows : List ℕ} {r : Streamed} {ends' rows' : List ℕ}
    → Into (closed s (room_of [] ends rows)) [] ends rows r [] ends' rows' → Closed s ends rows r ends' rows'
so-closed {s} {ends} {rows} q = record { into = q; stands = λ b sum f o h. rw q.state (inv-stands (close-inv (room_of [] ends rows) (stands-inv h))) }

-- Any two outcomes that a promise allows are equal.
pub start-one : (b sum : ℕ) (s u : Stream) → Started b sum s → Started b sum u → s ≡ u
start-one b sum s u p q = p.result ∙ sym q.result

into_one :
    {c : Called} {text text' text'' : Bytes} {ends rows ends' rows' ends'' rows'' : List ℕ} {r u : Streamed}
    → Into c text ends rows r text' ends' rows' → Into c text ends rows u text'' ends'' rows'' → (r ≡ u) × (text' ≡ text'') × (ends' ≡ ends'') × (rows' ≡ rows'')
into_one p q = (
  λ i. record {
    state = (p.state ∙ sym q.state) i;
    taken = (p.taken ∙ sym q.taken) i;
    text = (p.text_count ∙ sym q.text_count) i;
    ends = (p.ends_count ∙ sym q.ends_count) i;
    rows = (p.rows_count ∙ sym q.rows_count) i;
    short = (p.short ∙ sym q.short) i;
    closed = (p.closed ∙ sym q.closed) i;
    answer = (p.answer ∙ sym q.answer) i;
  },
  p.text_is ∙ sym q.text_is,
  p.ends_is ∙ sym q.ends_is,
  p.rows_is ∙ sym q.rows_is,
)

pub feed-one :
    {s : Stream} {piece text text' text'' : Bytes} {ends rows ends' rows' ends'' rows'' : List ℕ} {r u : Streamed}
    → Fed s piece text ends rows r text' ends' rows' → Fed s piece text ends rows u text'' ends'' rows'' → (r ≡ u) × (text' ≡ text'') × (ends' ≡ ends'') × (rows' ≡ rows'')
feed-one p q = into_one p.into q.into

pub close-one :
    {s : Stream} {ends rows ends' rows' ends'' rows'' : List ℕ} {r u : Streamed}
    → Closed s ends rows r ends' rows' → Closed s ends rows u ends'' rows'' → (r ≡ u) × (ends' ≡ ends'') × (rows' ≡ rows'')
close-one p q = let z = into_one p.into q.into in (z.0, z.2, z.3)
