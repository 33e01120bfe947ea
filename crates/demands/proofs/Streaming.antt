-- The first request holds: each statement of specs/Streaming by its laws.
use Prim.Native.Nat.{ℕ, ◌+◌, ◌≤◌, ◌<◌}
use native.Mathlib.Omega.{arith}
use mathlib.Core.Path.{◌≡◌, refl, sym, ap, subst, ◌∙◌}
use mathlib.Core.Bool.{true, false}
use mathlib.Core.Logic.{◌⊎◌, inl, inr}
use mathlib.Core.List.{List, [], ◌∷◌, ◌++◌}
use lib.ListN.{length, take, drop}
use Rattle.format.specs.declared.Answer.{Answer}
use Rattle.format.specs.Table.{Bytes}
use Rattle.format.specs.Place.{nowhere}
use Rattle.format.specs.Filling.{over}
use Rattle.format.specs.Answer.{refused_by}
use Rattle.pieces.specs.Answers.{Answers}
use Rattle.output.specs.declared.Stream.{Stream}
use Rattle.output.specs.declared.Streamed.{Streamed}
use Rattle.output.specs.Out.{Out, nothing, then}
use Rattle.output.specs.Stream.{is_over, streamed, closed, Called, idle, answer_of, closed_by, left_of}
use Rattle.output.specs.Promises.{Awaits, Stands, Into, Fed, room_of}
use Rattle.output.proofs.Bytewise.{streamed-over}
use Rattle.output.proofs.Closing.{closed-over}
use Rattle.output.proofs.Laws.{answer-is-check}
use Rattle.output.proofs.Before.{before_fault, before_limit}
use Rattle.output.proofs.Progress.{Stops, whole, ended, lacking, Within, goes_on, room-takes, stops-for, stays_within, short-stops, close-stays, close_ends, close_room}
use Rattle.output.proofs.Ending.{left-falls}
use Rattle.output.proofs.Sessions as laws
use Rattle.demands.specs.Streaming.{Session, begins, feeds, closes, Ended, Streaming}

-- what a session comes to: the state stands for what was taken and is out; and where it has ended, answer and closed are the state's
record Comes (b sum : ℕ) (f g : Bytes) (o : Out) (s : Stream) (a : Answer) (k : ℕ) : Type 0 where
  stands : Stands b sum f g o s
  over : Ended a k → (is_over s ≡ true) × (a ≡ answer_of s) × (k ≡ closed_by s)

state-over : (s : Stream) {a : Answer} {k : ℕ} → a ≡ answer_of s → k ≡ closed_by s → Ended a k → (is_over s ≡ true) × (a ≡ answer_of s) × (k ≡ closed_by s)
state-over s p q (inl n) = (laws.refused_over s (λ z. n (ap (λ (x : Answer). x.refusal) p ∙ z)), p, q)
state-over s p q (inr e) = ((laws.closed-over s (sym q ∙ e)).0, p, q)

not-ended : (s : Stream) → Ended (refused_by 0 nowhere) 0 → (is_over s ≡ true) × (refused_by 0 nowhere ≡ answer_of s) × (0 ≡ closed_by s)
not-ended s (inl n) = absurd (n refl)
not-ended s (inr e) = absurd (omega (arith, e))

comes : {b sum : ℕ} {f g : Bytes} {o : Out} {s : Stream} {a : Answer} {k : ℕ} → Session b sum f g o s a k → Comes b sum f g o s a k
comes (begins {s} g h) = record { stands = h.stands g; over = not-ended s }
comes {b} {sum} (feeds {f} {piece} {o = o} {r = r} g h w) =
    let i = w.into in
    record {
      stands = subst (λ (x : Out). Stands b sum (f ++ take r.taken piece) (drop r.taken piece ++ g) (then o x) r.state) (sym (laws.filled i)) (w.stands b sum f g o (comes h).stands);
      over = state-over r.state (i.answer ∙ ap answer_of (sym i.state)) (i.closed ∙ ap closed_by (sym i.state));
    }
comes {b} {sum} (closes {f} {o = o} {r = r} h w) =
    let i = w.into in
    record {
      stands = subst (λ (x : Out). Stands b sum f [] (then o x) r.state) (sym (laws.filled i)) (w.stands b sum f o (comes h).stands);
      over = state-over r.state (i.answer ∙ ap answer_of (sym i.state)) (i.closed ∙ ap closed_by (sym i.state));
    }

-- a call on a stream that is over
module _ {text text' : Bytes} {ends rows ends' rows' : List ℕ} {s : Stream} {r : Streamed} {c : Called} {a : Answer} {k : ℕ} where
  idles :
      Into c text ends rows r text' ends' rows' → c ≡ idle s → a ≡ answer_of s → k ≡ closed_by s
      → (r.taken ≡ 0) × (text' ≡ text) × (ends' ≡ ends) × (rows' ≡ rows) × (r.state ≡ s) × (r.answer ≡ a) × (r.closed ≡ k)
  idles w e p q = let i = subst (λ (x : Called). Into x text ends rows r text' ends' rows') e w in
      (i.taken, i.text_is, i.ends_is, i.rows_is, i.state, i.answer ∙ sym p, i.closed ∙ sym q)

-- a stream that is over has ended
ended-by : (s : Stream) {a : Answer} {k : ℕ} → a ≡ answer_of s → k ≡ closed_by s → is_over s ≡ true → Ended a k
ended-by s {a} {k} p q o = by (laws.over-ended s o)
  where
    by : ((answer_of s).refusal ≡ 0 → ⊥) ⊎ (closed_by s ≡ 1) → Ended a k
    by (inl n) = inl (λ z. n (ap (λ (x : Answer). x.refusal) (sym p) ∙ z))
    by (inr e) = inr (q ∙ e)

stopped :
    {piece text text' : Bytes} {ends rows ends' rows' : List ℕ} {s : Stream} {r : Streamed}
    → Fed s piece text ends rows r text' ends' rows' → r.taken < length piece → r.short ≡ 0 → Ended r.answer r.closed
stopped {piece} {text} {ends = ends} {rows} {s = s} {r} w l z = by (stops-for piece s (room_of text ends rows))
  where
    by : Stops piece (streamed s piece (room_of text ends rows)) → Ended r.answer r.closed
    by (whole e) = let i = w.into.taken in absurd (omega arith)
    by (ended o) = ended-by (streamed s piece (room_of text ends rows)).state w.into.answer w.into.closed o
    by (lacking e) = let i = w.into.short in absurd (omega arith)

falling :
    {b sum x : ℕ} {f piece text text' : Bytes} {ends rows ends' rows' : List ℕ} {o : Out} {s : Stream} {a : Answer} {k : ℕ} {r : Streamed} (g : Bytes)
    → Session b sum f ((x ∷ piece) ++ g) o s a k → Fed s (x ∷ piece) text ends rows r text' ends' rows' → 1 ≤ length text → 1 ≤ length ends → 1 ≤ length rows
    → Ended r.answer r.closed ⊎ (left_of r.state (drop r.taken (x ∷ piece)) < left_of s (x ∷ piece))
falling {x = x} {piece = piece} {text = text} {ends = ends} {rows} {s = s} {r = r} g h w p q u = by (laws.stands-awaits (comes h).stands)
  where
    by : (is_over s ≡ true) ⊎ Awaits s.check s.early (x ∷ piece) → Ended r.answer r.closed ⊎ (left_of r.state (drop r.taken (x ∷ piece)) < left_of s (x ∷ piece))
    by (inl o) =
        let e : (streamed s (x ∷ piece) (room_of text ends rows)).state ≡ s = ap (λ (y : Called). y.state) (streamed-over s (room_of text ends rows) (x ∷ piece) o) in
        inl (ended-by (streamed s (x ∷ piece) (room_of text ends rows)).state w.into.answer w.into.closed (subst (λ (y : Stream). is_over y ≡ true) (sym e) o))
    by (inr a) = then_by (left-falls x piece s (room_of text ends rows) a p q u)
      where
        then_by :
            (is_over (streamed s (x ∷ piece) (room_of text ends rows)).state ≡ true)
            ⊎ (left_of (streamed s (x ∷ piece) (room_of text ends rows)).state (drop (streamed s (x ∷ piece) (room_of text ends rows)).taken (x ∷ piece)) < left_of s (x ∷ piece))
            → Ended r.answer r.closed ⊎ (left_of r.state (drop r.taken (x ∷ piece)) < left_of s (x ∷ piece))
        then_by (inl o) = inl (ended-by (streamed s (x ∷ piece) (room_of text ends rows)).state w.into.answer w.into.closed o)
        then_by (inr l) = inr (rw (w.into.state, w.into.taken) l)

-- what a call puts out, in counts
counts :
    {c : Called} {text text' : Bytes} {ends rows ends' rows' : List ℕ} {r : Streamed} {piece : Bytes}
    → Into c text ends rows r text' ends' rows' → Within piece (room_of text ends rows) c
    → (r.taken ≤ length piece) × (r.text ≤ length text) × (r.ends ≤ length ends) × (r.rows ≤ length rows)
counts i w = rw (i.taken, i.text_count, i.ends_count, i.rows_count) (w.taken, w.text, w.ends, w.rows)

-- a call that puts nothing out leaves ends and rows
leaves :
    {c : Called} {ends rows ends' rows' : List ℕ} {r : Streamed} → Into c [] ends rows r [] ends' rows' → c.out ≡ nothing → (ends' ≡ ends) × (rows' ≡ rows)
leaves {ends = ends} {rows} i e =
    (i.ends_is ∙ ap (λ (o : Out). over o.ends ends) e, i.rows_is ∙ ap (λ (o : Out). over o.rows rows) e)

shorter :
    {piece text text' : Bytes} {ends rows ends' rows' : List ℕ} {s : Stream} {r : Streamed}
    → Fed s piece text ends rows r text' ends' rows' → (r.short ≡ 0 → ⊥) → r.taken < length piece
shorter {piece} {text} {ends = ends} {rows} {s = s} {r} w n = by (short-stops piece s (room_of text ends rows))
  where
    by : ((streamed s piece (room_of text ends rows)).short ≡ 0) ⊎ ((streamed s piece (room_of text ends rows)).taken < length piece) → r.taken < length piece
    by (inl e) = absurd (n (w.into.short ∙ e))
    by (inr l) = rw w.into.taken l

going :
    {x : ℕ} {piece text text' : Bytes} {ends rows ends' rows' : List ℕ} {s : Stream} {r : Streamed}
    → Fed s (x ∷ piece) text ends rows r text' ends' rows' → is_over s ≡ false → 1 ≤ length text → 1 ≤ length ends → 1 ≤ length rows
    → (1 ≤ r.taken) ⊎ ((1 ≤ r.text) × (r.state.early ≡ s.early + r.text))
going {x} {piece} {text} {ends = ends} {rows} {s = s} w o p q u = rw (w.into.taken, w.into.text_count, w.into.state) (goes_on s x piece (room_of text ends rows) o p q u)

pub streaming : Streaming
streaming =
    record {
      lent = λ {piece} {text} {ends = ends} {rows = rows} {s = s} w. counts w.into (stays_within piece s (room_of text ends rows));
      close_short = λ {ends} {rows} {s = s} w n.
          let (o, e) = close-stays s (room_of [] ends rows) (λ z. n (w.into.short ∙ z)) in
          let (x, y) = leaves w.into o in
          (x, y, w.into.state ∙ e);
      close_ends = λ {ends} {rows} {s = s} w z.
          ended-by (closed s (room_of [] ends rows)).state w.into.answer w.into.closed (close_ends s (room_of [] ends rows) (sym w.into.short ∙ z));
      close_room = λ {ends} {rows} {s = s} w p q. w.into.short ∙ close_room s (room_of [] ends rows) p q;
      close_needs_none = λ {ends = ends} {rows = rows} h a e w.
          let (z, o) = laws.close_needs_none (comes h).stands a e (room_of [] ends rows) in
          let (x, y) = leaves w.into o in
          (w.into.short ∙ z, x, y);
      joined = λ h e. let c = comes h in let v = c.over (inr e) in
          let (t, r, a, x, y) = laws.stands-closed c.stands (sym v.2 ∙ e) in
          (t, r, a, v.1 ∙ x, y);
      refusal = λ {b} {sum} {f} h n. let c = comes h in let v = c.over (inl n) in
          let a = subst (Answers b sum f) (sym v.1) (answer-is-check c.stands v.0) in
          (laws.answers-refused a n, a);
      after_feed = λ {piece = piece} {text = text} {ends = ends} {rows = rows} {s = s} h e w. let v = (comes h).over e in
          idles w.into (streamed-over s (room_of text ends rows) piece v.0) v.1 v.2;
      after_close = λ {ends = ends} {rows = rows} {s = s} h e w. let v = (comes h).over e in
          let i = idles w.into (closed-over s (room_of [] ends rows) v.0) v.1 v.2 in
          (i.2, i.3, i.4, i.5, i.6);
      before_fault = λ h n v l r e q. let c = comes h in before_fault c.stands (c.over (inl n)).0 v l r e q;
      before_limit = λ h n v l. let c = comes h in before_limit c.stands (c.over (inl n)).0 v l;
      no_dialect = λ h n. laws.stands-invalid (comes h).stands n;
      within_limit = λ h. laws.stands-contents (comes h).stands;
      takes = λ {x} {piece} {text} {ends = ends} {rows = rows} {s = s} w o f. subst (λ (n : ℕ). 1 ≤ n) (sym w.into.taken) (room-takes s x piece (room_of text ends rows) o f);
      stops = stopped;
      stops_short = shorter;
      goes_on = going;
      falls = falling;
    }
