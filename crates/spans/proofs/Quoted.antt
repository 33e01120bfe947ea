-- A walk between quotes: bytes, pairs of quotes and line feeds by words of marks.
use Prim.Native.Nat.{ℕ, ◌+◌, ◌-◌, ◌*◌, ◌/◌, ◌≤◌, ◌<◌, min}
use native.Mathlib.Omega.{arith}
use mathlib.Core.Path.{◌≡◌, sym, ap, ◌∙◌}
use mathlib.Core.Bool.{Bool}
use mathlib.Core.List.{List}
use lib.ListN.{length, get_or, take, drop, length-take, length-drop, take-append-drop}
use lib.Seq.{drop-drop, drop-append-le}
use lib.Count.{count_trailing_zeros}
use Rattle.format.specs.Table.{Bytes}
use Rattle.steps.specs.Steps.{quoted}
use Rattle.steps.specs.Numbers.{form_number}
use Rattle.runs.specs.Runs.{run, is_inner, pairs}
use Rattle.words.specs.Words.{word, Marks}
use Rattle.runs.proofs.Runs.{run-add, run-within, pairs-le}
use Rattle.words.proofs.Words.{Marked, marked-part, marked-none, marked-some}
use Rattle.state.specs.declared.Check.{Check}
use Rattle.places.specs.Counters.{spot}
use Rattle.state.specs.Check.{fed_all, jumped}
use Rattle.state.specs.Settled.{Settled}
use Rattle.state.proofs.Jumps.{fed-join}
use Rattle.state.proofs.Between.{Passage, inner_start, inner-line, inner-more, inner-pairs}
use Rattle.spans.specs.declared.Inside.{Inside}
use Rattle.spans.specs.Walk.{Between, BetweenFrom, run_on, Further}

-- a walk between quotes from at, whatever the state
pub between_start : (s : Bytes) (at : ℕ) → at ≤ length s → Between s at (record { end = at; content = 0; lines = 0; tail = 0 })
between_start s at h =
    record { on = omega arith; within = h; content = omega arith; lines = omega arith; tail = omega arith; flat = λ e. omega arith; same = λ c q. inner_start c s at q }

-- any two lead to the same
pub one_inside :
    (s : Bytes) (at : ℕ) (x y : Inside) → BetweenFrom s at x → BetweenFrom s at y → at ≤ length s → (c : Check) → Settled c
    → fed_all (jumped (form_number quoted) (spot x.lines x.tail (x.end - at) c.here) x.content c) (drop x.end s)
    ≡ fed_all (jumped (form_number quoted) (spot y.lines y.tail (y.end - at) c.here) y.content c) (drop y.end s)
one_inside s at x y g h i c q = (g.between i).same c q ∙ sym ((h.between i).same c q)

-- such bytes of a part are such bytes of the whole
module _ (s : Bytes) (n at : ℕ) (r : Inside) (g : Between (take n s) at r) where
  further-in : (c : Check) (i : ℕ) → i ≤ length (take n s) → fed_all c (drop i s) ≡ fed_all (fed_all c (drop i (take n s))) (drop n s)
  further-in c i h =
      ap (λ (f : Bytes). fed_all c (drop i f)) (sym (take-append-drop n s))
      ∙ ap (fed_all c) (drop-append-le i (take n s) (drop n s) h)
      ∙ fed-join c (drop i (take n s)) (drop n s)

  pub between-part : Between s at r
  between-part =
      record {
        on = g.on;
        within = omega (arith, g.within, length-take n s);
        content = g.content;
        lines = g.lines;
        tail = g.tail;
        flat = g.flat;
        same =
            λ c h.
            further-in (jumped (form_number quoted) (spot r.lines r.tail (r.end - at) c.here) r.content c) r.end g.within
            ∙ ap (λ (x : Check). fed_all x (drop n s)) (g.same c h)
            ∙ sym (further-in c at (omega (arith, g.on, g.within)));
      }

abbrev passage : ℕ → Inside → Passage
passage at x = record { from = at; end = x.end; lines = x.lines; tail = x.tail; content = x.content }

module _ (s : Bytes) (at : ℕ) (x : Inside) (g : Between s at x) where
  pub between_run : (k : ℕ) → k ≤ run is_inner (drop x.end s) → Between s at (run_on x k)
  between_run k h =
      record {
        on = omega (arith, g.on);
        within = run-within is_inner s x.end k g.within h;
        content = omega (arith, g.content);
        lines = omega (arith, g.lines);
        tail = omega (arith, g.tail);
        flat = λ z. omega (arith, g.flat z);
        same = λ c q. inner-more c s (passage at x) q g.on (g.same c q) k h;
      }

  pub between-line :
      x.end < length s → get_or s x.end 0 ≡ 0x0A → Between s at (record { end = x.end + 1; content = x.content + 1; lines = x.lines + 1; tail = 0 })
  between-line v e =
      record {
        on = omega (arith, g.on);
        within = omega arith;
        content = omega (arith, g.content);
        lines = omega (arith, g.lines);
        tail = omega (arith, g.on);
        flat = λ q. absurd (omega arith);
        same = λ c q. inner-line c s (passage at x) q g.on (g.same c q) v e;
      }

  pub between-pairs :
      (q : ℕ) → q ≡ pairs (drop x.end s)
      → Between s at (record { end = x.end + (q + q); content = x.content + q; lines = x.lines; tail = x.tail + (q + q) })
  between-pairs q e =
      record {
        on = omega (arith, g.on);
        within = omega (arith, pairs-le (drop x.end s), length-drop x.end s, g.within);
        content = omega (arith, g.content);
        lines = omega (arith, g.lines);
        tail = omega (arith, g.tail);
        flat = λ z. omega (arith, g.flat z);
        same = λ c u. inner-pairs c s (passage at x) u g.on (g.same c u) q (omega (arith, e));
      }

-- by a line feed or pairs, from any place before
pub further-line :
    (s : Bytes) (x : Inside) → x.end < length s → get_or s x.end 0 ≡ 0x0A
    → Further s x (record { end = x.end + 1; content = x.content + 1; lines = x.lines + 1; tail = 0 })
further-line s x v e = record { on = omega arith; more = λ at g. between-line s at x g v e }

pub further-pairs :
    (s : Bytes) (x : Inside) (q : ℕ) → q ≡ pairs (drop x.end s)
    → Further s x (record { end = x.end + (q + q); content = x.content + q; lines = x.lines; tail = x.tail + (q + q) })
further-pairs s x q e = record { on = omega arith; more = λ at g. between-pairs s at x g q e }

-- by a word of marks: the bytes before the first, or all that are left
module _ (t : List Bool) (marks : Marks t is_inner) (s : Bytes) (bytes : (j : ℕ) → get_or s j 0 < 256) (at : ℕ) (x : Inside) (g : Between s at x) (w : ℕ) (h : w ≡ word t (take 16 (drop x.end s))) where
  last : ℕ
  last = x.end + min 16 (length s - x.end)

  marked : Marked t s last x.end w
  unfolding last
  marked = marked-part t s 16 x.end w h

  last_within : last ≤ length s
  unfolding last
  last_within = let q = g.within in omega arith

  pub before-mark : (w ≡ 0 → ⊥) → (x.end + count_trailing_zeros 64 w < length s) × (count_trailing_zeros 64 w < 64) × (count_trailing_zeros 64 w ≤ run is_inner (drop x.end s))
  unfolding last
  before-mark z =
      let q = marked-some t is_inner marks s bytes last x.end w marked last_within (omega arith) z in
      let q₀ = q.0 in
      let within = g.within in
      (omega arith, omega arith, q.1)

  -- without a mark and with less than a block ahead, the bytes go on to the end
  pub without-mark : w ≡ 0 → run is_inner (drop x.end s) < 16 → length s - x.end ≤ run is_inner (drop x.end s)
  unfolding last
  without-mark z r = let q = marked-none t is_inner marks s bytes last x.end w marked last_within z in omega arith

-- behind whole blocks less than a block is ahead
pub blocks-on :
    (s : Bytes) (at : ℕ) (x : Inside) → Between s at x → (k : ℕ) → k ≡ run is_inner (drop x.end s) / 16 * 16 → (y : Inside) → y ≡ run_on x k
    → Between s at y × (run is_inner (drop y.end s) < 16)
blocks-on s at x g k e y q =
    let d : run is_inner (drop k (drop x.end s)) ≡ run is_inner (drop (x.end + k) s) = ap (run is_inner) (drop-drop k x.end s) in
    let all = run-add is_inner (drop x.end s) k (run is_inner (drop (x.end + k) s)) (omega (arith, e)) (omega (arith, d)) in
    rw q (between_run s at x g k (omega (arith, e)), omega (arith, all, e))

-- such bytes, and more of them on the same line, cannot carry a count over
pub run_fits : (s : Bytes) (at : ℕ) (x : Inside) (k : ℕ) → Between s at x → length s < 18446744073709551616 → k ≤ run is_inner (drop x.end s)
    → (x.end + k < 18446744073709551616) × (x.content ≤ x.end) × (x.tail ≤ x.end)
run_fits s at x k g short h =
    let u = run-within is_inner s x.end k g.within h in
    (omega arith, omega (arith, g.content), omega (arith, g.tail))

-- up to the first mark of a word behind whole blocks
module _
    (t : List Bool) (marks : Marks t is_inner) (s : Bytes) (bytes : (j : ℕ) → get_or s j 0 < 256) (at : ℕ) (x : Inside) (g : Between s at x)
    (k : ℕ) (e : k ≡ run is_inner (drop x.end s) / 16 * 16) (y : Inside) (f : y ≡ run_on x k) (w : ℕ) (v : w ≡ word t (take 16 (drop y.end s)))
  where
    pub to-end : w ≡ 0 → (z : Inside) → z ≡ run_on y (length s - y.end) → Between s at z
    to-end u z q =
        let b = blocks-on s at x g k e y f in
        rw q (between_run s at y b.0 (length s - y.end) (without-mark t marks s bytes at y b.0 w v u b.1))

    pub stop-fits : (w ≡ 0 → ⊥) → y.end + count_trailing_zeros 64 w < length s
    stop-fits u = (before-mark t marks s bytes at y (blocks-on s at x g k e y f).0 w v u).0

    pub to-stop : (w ≡ 0 → ⊥) → (z : Inside) → z ≡ run_on y (count_trailing_zeros 64 w) → Between s at z × (z.end < length s)
    to-stop u z q =
        let b = blocks-on s at x g k e y f in
        let m = before-mark t marks s bytes at y b.0 w v u in
        rw q (between_run s at y b.0 (count_trailing_zeros 64 w) m.2, m.0)
