-- A walk over fields and records goes on: over text, over the end of a bare or a quoted field, and over the end of a record.
use Prim.Native.Nat.{ℕ, ◌+◌, ◌-◌, ◌≤◌, ◌<◌, min}
use native.Mathlib.Omega.{arith}
use mathlib.Core.Path.{◌≡◌, refl, sym, ap, ap₂, ◌∙◌}
use mathlib.Core.Bool.{Bool, true, false, cond, not, ◌&&◌}
use lib.Dec.{eqb}
use lib.ListN.{length, get_or, drop}
use borrow.Author.Tests.{eqb-true, eqb-false, ne_eqb}
use Rattle.format.specs.Table.{Bytes}
use Rattle.format.specs.Dialect.{dialect}
use Rattle.format.specs.House.{content_limit}
use Rattle.runs.specs.Runs.{run, is_plain, is_break}
use Rattle.format.proofs.Tests.{and_both}
use Rattle.runs.proofs.Runs.{run_join, run-within, BreakAt, break-at}
use Rattle.format.specs.Memory.{largest32}
use Rattle.state.specs.declared.Check.{Check}
use Rattle.spans.specs.declared.Inside.{Inside}
use Rattle.spans.specs.declared.Walk.{Walk}
use Rattle.places.specs.Counters.{counter_limit, spot}
use Rattle.state.specs.Check.{new_field, opened, placed, noting, fed, fed_all}
use Rattle.std.specs.Prelude.{Some, None}
use Rattle.spans.specs.declared.End.{TheVariants.Delimiter, TheVariants.Break, TheVariants.LoneLf}
use Rattle.spans.specs.declared.Ends.{Ends}
use Rattle.spans.specs.Walk.{Between, last_line, Level, placed_at, field_on, row_on, start_of, tallied, lone_ends, opening, begun, texted, walked, Closed, end_at, ended_by, Fits, Sized, Walking, Goes, Leading}
use Rattle.places.proofs.Counting.{spot-flat, spot-lines}
use Rattle.state.proofs.Between.{fed-at}
use Rattle.spans.proofs.Fields.{Opened, Stop, stop_at, Ended, field_end, row-end, lone-end}
use Rattle.spans.proofs.Contents.{at_start, behind-quotes, closes, content-is, content-read, opens-quote, quotes-ended, text-ended, texted-leads, within-quotes, within-settled}

-- a state where the field in work ends, to which the bytes of the field lead
record Stopped (c : Check) (s : Bytes) (a : ℕ) (x : Walk) (g : Check) (z : Stop) : Type 0 where
  ended : Ended c a x g z
  leads : fed_all g (drop z.at s) ≡ fed_all (begun x a c) (drop x.start s)
  on : x.start ≤ z.at
  line : z.line ≤ z.at
  from : a ≤ z.line
  lines : z.lines ≤ z.at
  text : x.text + z.content ≤ z.at

further : {m n p : ℕ} → m ≤ n → n < p → m ≤ p
further h l = omega arith

-- nothing stands between a place and itself
none_between : (p n : ℕ) → p - p ≤ n
none_between p n = omega arith

-- a walk from a place to one further on
module _ (c : Check) (s : Bytes) (a : ℕ) (x : Walk) (w : Walking c s a x) where
  pub walking-text : (k : ℕ) → k ≤ run (is_plain (dialect c.delimiter c.leniencies)) (drop x.at s) → Walking c s a (placed_at x (x.at + k))
  unfolding opening
  walking-text k h =
      let from = w.from in
      record {
        level = w.level;
        within = run-within (is_plain (dialect c.delimiter c.leniencies)) s x.at k w.within h;
        from = omega arith;
        line = w.line;
        on = w.on;
        lines = w.lines;
        closed = w.closed;
        text = w.text;
        number = w.number;
        unmoved = λ e. let u = w.unmoved e in record { start = u.start; line = u.line; lines = u.lines; rows = u.rows; text = u.text; number = u.number };
        plain = run_join (is_plain (dialect c.delimiter c.leniencies)) s x.start x.at k from w.plain h;
        same = w.same;
      }

  -- the state at the end of the field
  module _ (g : Check) (z : Stop) (h : Stopped c s a x g z) where
    some : (n : ℕ) → eqb (n + 1) 0 ≡ false
    some n = ne_eqb (n + 1) 0 (λ e. omega arith)

    far : a ≤ z.at
    far = omega arith

    walking-field : z.at < length s → get_or s z.at 0 ≡ c.delimiter → Walking c s a (field_on x (z.at + 1) z.content z.line z.lines)
    walking-field v e =
        let closed = w.closed in
        let number = w.number in
        record {
          level = w.level;
          within = omega arith;
          from = omega arith;
          line = omega arith;
          on = h.from;
          lines = omega arith;
          closed = omega arith;
          text = omega arith;
          number = omega arith;
          unmoved = λ q. absurd (omega arith);
          plain = omega arith;
          same =
              ap (λ (y : Bool). fed_all (cond y c (opening (field_on x (z.at + 1) z.content z.line z.lines) a c)) (drop (z.at + 1) s)) (some x.fields)
              ∙ ap (λ (y : Check). fed_all y (drop (z.at + 1) s)) (sym (field_end c a x g z h.ended far w.level.no_lf (get_or s z.at 0) e))
              ∙ fed-at g s z.at v ∙ h.leads ∙ w.same;
        }

    -- behind what ends its record, one byte or two, where the next one begins
    walking-next :
        (p : ℕ) → z.at < p → p ≤ z.at + 2 → p ≤ length s → fed_all (opening (row_on x p z.content z.lines) a c) (drop p s) ≡ fed_all g (drop z.at s)
        → Walking c s a (row_on x p z.content z.lines)
    walking-next p on near v e =
        let closed = w.closed in
        record {
          level = w.level;
          within = v;
          from = omega arith;
          line = omega arith;
          on = omega arith;
          lines = omega arith;
          closed = omega arith;
          text = further h.text on;
          number = omega arith;
          unmoved = λ q. absurd (omega arith);
          plain = none_between p _;
          same = ap (λ (y : Bool). fed_all (cond y c (opening (row_on x p z.content z.lines) a c)) (drop p s)) (some x.fields) ∙ e ∙ h.leads ∙ w.same;
        }

    walking-row :
        z.at + 1 < length s → get_or s z.at 0 ≡ 0x0D → get_or s (z.at + 1) 0 ≡ 0x0A → c.counts.width ≡ x.number + 1 → Walking c s a (row_on x (z.at + 2) z.content z.lines)
    walking-row v e₁ e₂ q =
        let two : z.at + 1 + 1 ≡ z.at + 2 = omega arith in
        walking-next (z.at + 2) (omega arith) (omega arith) (omega arith)
        (ap (λ (y : Check). fed_all y (drop (z.at + 2) s)) (sym (row-end c a x g z h.ended far w.level.no_lf w.level.no_cr q w.level.width))
        ∙ ap (λ (i : ℕ). fed_all (fed (fed g 0x0D) 0x0A) (drop i s)) (sym two)
        ∙ ap (λ (b : ℕ). fed_all (fed (fed g 0x0D) b) (drop (z.at + 1 + 1) s)) (sym e₂)
        ∙ fed-at (fed g 0x0D) s (z.at + 1) v
        ∙ ap (λ (b : ℕ). fed_all (fed g b) (drop (z.at + 1) s)) (sym e₁)
        ∙ fed-at g s z.at (omega arith))

    walking-lone :
        z.at < length s → get_or s z.at 0 ≡ 0x0A → lone_ends c ≡ true → c.counts.width ≡ x.number + 1 → Walking c s a (row_on x (z.at + 1) z.content z.lines)
    walking-lone v e y q =
        walking-next (z.at + 1) (omega arith) (omega arith) (omega arith)
        (ap (λ (f : Check). fed_all f (drop (z.at + 1) s)) (sym (lone-end c a x g z h.ended far w.level.no_lf w.level.no_cr q w.level.width y))
        ∙ ap (λ (b : ℕ). fed_all (fed g b) (drop (z.at + 1) s)) (sym e)
        ∙ fed-at g s z.at v)

  -- a bare field ends where the walk stands
  module _ (l : x.at - x.start ≤ content_limit) where
    stands : x.start + (x.at - x.start) ≡ x.at
    stands = let from = w.from in omega arith

    ends-here : Check
    ends-here = texted (x.at - x.start) (begun x a c)

    bare-ended : Ended c a x ends-here (stop_at x.at (x.at - x.start) x.line x.lines)
    unfolding ends-here
    bare-ended = rw stands at (text-ended c a x (begun x a c) (at_start c s a x w) w.level.refusal (x.at - x.start) l)

    bare_leads : fed_all ends-here (drop x.at s) ≡ fed_all (begun x a c) (drop x.start s)
    unfolding ends-here
    bare_leads =
        let o = at_start c s a x w in
        let d : is_plain (dialect (begun x a c).delimiter (begun x a c).leniencies) ≡ is_plain (dialect c.delimiter c.leniencies) =
        ap₂ (λ (y z : ℕ). is_plain (dialect y z)) o.delimiter o.leniencies in
        ap (λ (i : ℕ). fed_all (texted (x.at - x.start) (begun x a c)) (drop i s)) (sym stands)
        ∙ texted-leads (begun x a c) s x.start (x.at - x.start) (o.refusal ∙ w.level.refusal) o.form (rw d w.plain)

    bare-stopped : Stopped c s a x ends-here (stop_at x.at (x.at - x.start) x.line x.lines)
    bare-stopped =
        record {
          ended = bare-ended;
          leads = bare_leads;
          on = w.from;
          line = omega (arith, w.line, w.from);
          from = w.on;
          lines = omega (arith, w.lines, w.from);
          text = omega (arith, w.text, w.from);
        }

    pub bare-field : x.at < length s → get_or s x.at 0 ≡ c.delimiter → Walking c s a (field_on x (x.at + 1) (x.at - x.start) x.line x.lines)
    bare-field v e = walking-field ends-here (stop_at x.at (x.at - x.start) x.line x.lines) bare-stopped v e

    pub bare-row :
        x.at + 1 < length s → get_or s x.at 0 ≡ 0x0D → get_or s (x.at + 1) 0 ≡ 0x0A → c.counts.width ≡ x.number + 1
        → Walking c s a (row_on x (x.at + 2) (x.at - x.start) x.lines)
    bare-row v e₁ e₂ q = walking-row ends-here (stop_at x.at (x.at - x.start) x.line x.lines) bare-stopped v e₁ e₂ q

    pub bare-lone :
        x.at < length s → get_or s x.at 0 ≡ 0x0A → lone_ends c ≡ true → c.counts.width ≡ x.number + 1 → Walking c s a (row_on x (x.at + 1) (x.at - x.start) x.lines)
    bare-lone v e y q = walking-lone ends-here (stop_at x.at (x.at - x.start) x.line x.lines) bare-stopped v e y q

  -- a quoted field begins where the walk stands, and its content ends at r
  module _ (here : x.at ≡ x.start) (v : x.at < length s) (e : get_or s x.at 0 ≡ 0x22) (r : Inside) (b : Between s (x.at + 1) r) (l : r.content ≤ content_limit) (u : r.end < length s) (q : get_or s r.end 0 ≡ 0x22) where
    o : Opened c a x (begun x a c)
    o = at_start c s a x w

    bytes-are : x.start + 1 + (r.end - (x.at + 1)) ≡ r.end
    bytes-are = let on = b.on in omega arith

    total : x.start + 1 - a + (r.end - (x.at + 1)) ≡ r.end - a
    total = let on = b.on in omega (arith, w.on, w.line)

    after-quotes : Check
    after-quotes = behind-quotes c a x (begun x a c) o w.level.refusal w.level.no_quote r.lines r.tail (r.end - (x.at + 1)) r.content

    line-from : (y : Bool) → eqb r.lines 0 ≡ y → (a ≤ cond y x.line (r.end - r.tail)) × (cond y x.line (r.end - r.tail) ≤ r.end)
    line-from true z = (w.on, omega (arith, w.line, w.from, b.on))
    line-from false z = (omega (arith, b.tail, w.on, w.line, w.from), omega arith)

    on_line :
        (y : Bool) → eqb r.lines 0 ≡ y
        → spot r.lines r.tail (r.end - (x.at + 1)) (spot x.lines (x.start + 1 - x.line) (x.start + 1 - a) c.here)
        ≡ spot (x.lines + r.lines) (r.end - cond y x.line (r.end - r.tail)) (r.end - a) c.here
    on_line true z =
        let z' = eqb-true r.lines 0 z in
        let t : x.start + 1 - x.line + r.tail ≡ r.end - x.line = omega (arith, b.flat z', w.line, here) in
        rw z' (spot-flat r.tail (r.end - (x.at + 1)) x.lines (x.start + 1 - x.line) (x.start + 1 - a) c.here ∙ ap₂ (λ (m n : ℕ). spot (x.lines + 0) m n c.here) t total)
    on_line false z =
        let t : r.tail ≡ r.end - (r.end - r.tail) = omega (arith, b.tail) in
        spot-lines r.lines r.tail (r.end - (x.at + 1)) x.lines (x.start + 1 - x.line) (x.start + 1 - a) c.here (eqb-false r.lines 0 z)
        ∙ ap₂ (λ (m n : ℕ). spot (x.lines + r.lines) m n c.here) t total

    far-on : a ≤ r.end
    far-on = omega (arith, w.on, w.line, w.from, b.on)

    quoted-ended : Ended c a x after-quotes (stop_at (r.end + 1) r.content (last_line x.line r) (x.lines + r.lines))
    unfolding after-quotes
    quoted-ended =
        quotes-ended c a x (begun x a c) o w.level.refusal w.level.no_quote r.lines r.tail (r.end - (x.at + 1)) r.content r.end bytes-are
        (cond (eqb r.lines 0) x.line (r.end - r.tail)) (on_line (eqb r.lines 0) refl) (line-from (eqb r.lines 0) refl).1 far-on l

    quoted-leads : fed_all after-quotes (drop (r.end + 1) s) ≡ fed_all (begun x a c) (drop x.start s)
    unfolding after-quotes
    quoted-leads =
        let f = begun x a c in
        let inner = within-quotes c a x f o w.level.refusal w.level.no_quote in
        let read = content-read c a x f o w.level.refusal w.level.no_quote r.lines r.tail (r.end - (x.at + 1)) r.content in
        ap (λ (y : Check). fed_all y (drop (r.end + 1) s)) (sym (closes c a x f o w.level.refusal w.level.no_quote r.lines r.tail (r.end - (x.at + 1)) r.content))
        ∙ ap (λ (d : ℕ). fed_all (fed read d) (drop (r.end + 1) s)) (sym q)
        ∙ fed-at read s r.end u
        ∙ ap (λ (y : Check). fed_all y (drop r.end s)) (sym (content-is c a x f o w.level.refusal w.level.no_quote r.lines r.tail (r.end - (x.at + 1)) r.content))
        ∙ b.same inner (within-settled c a x f o w.level.refusal w.level.no_quote)
        ∙ ap (λ (y : Check). fed_all y (drop (x.at + 1) s)) (sym (opens-quote c a x f o w.level.refusal w.level.no_quote))
        ∙ ap (λ (d : ℕ). fed_all (fed f d) (drop (x.at + 1) s)) (sym e)
        ∙ fed-at f s x.at v
        ∙ ap (λ (i : ℕ). fed_all f (drop i s)) here

    quoted-stopped : Stopped c s a x after-quotes (stop_at (r.end + 1) r.content (last_line x.line r) (x.lines + r.lines))
    quoted-stopped =
        let h = line-from (eqb r.lines 0) refl in
        record {
          ended = quoted-ended;
          leads = quoted-leads;
          on = omega (arith, here, b.on);
          line = omega (arith, h.1);
          from = h.0;
          lines = omega (arith, w.lines, here, b.lines);
          text = omega (arith, w.text, here, b.content);
        }

    pub quoted-field : r.end + 1 < length s → get_or s (r.end + 1) 0 ≡ c.delimiter → Walking c s a (field_on x (r.end + 1 + 1) r.content (last_line x.line r) (x.lines + r.lines))
    quoted-field n d = walking-field after-quotes (stop_at (r.end + 1) r.content (last_line x.line r) (x.lines + r.lines)) quoted-stopped n d

    pub quoted-row :
        r.end + 1 + 1 < length s → get_or s (r.end + 1) 0 ≡ 0x0D → get_or s (r.end + 1 + 1) 0 ≡ 0x0A → c.counts.width ≡ x.number + 1
        → Walking c s a (row_on x (r.end + 1 + 2) r.content (x.lines + r.lines))
    quoted-row n d₁ d₂ k = walking-row after-quotes (stop_at (r.end + 1) r.content (last_line x.line r) (x.lines + r.lines)) quoted-stopped n d₁ d₂ k

    pub quoted-lone :
        r.end + 1 < length s → get_or s (r.end + 1) 0 ≡ 0x0A → lone_ends c ≡ true → c.counts.width ≡ x.number + 1
        → Walking c s a (row_on x (r.end + 1 + 1) r.content (x.lines + r.lines))
    quoted-lone n d y k = walking-lone after-quotes (stop_at (r.end + 1) r.content (last_line x.line r) (x.lines + r.lines)) quoted-stopped n d y k

-- nothing passed yet
pub walking_start :
    (c : Check) (s : Bytes) (a : ℕ) → Level c s → c.field.number.0 ≤ largest32 → a ≤ length s
    → Walking c s a (record { at = a; line = a; lines = 0; start = a; rows = 0; fields = 0; number = c.field.number.0; text = 0 })
walking_start c s a l n h =
    record {
      level = l;
      within = h;
      from = omega arith;
      line = omega arith;
      on = omega arith;
      lines = omega arith;
      closed = omega arith;
      text = omega arith;
      number = omega arith;
      unmoved = λ e. record { start = refl; line = refl; lines = refl; rows = refl; text = refl; number = refl };
      plain = omega arith;
      same = refl;
    }

-- the state that a walk comes to, in parts
pub walked-is : (x : Walk) (a : ℕ) (c : Check) → walked x a c ≡ texted (x.at - x.start) (begun x a c)
unfolding walked
walked-is x a c = refl

pub opening-is :
    (x : Walk) (a : ℕ) (c : Check)
    → opening x a c
    ≡ placed (start_of x a c.here)
    (opened (noting (not (eqb x.number 0)) 0) c.used (new_field (start_of x a c.here) (min x.number counter_limit)) (tallied x c.counts) c)
unfolding opening
opening-is x a c = refl

-- what is reached by a walk
pub walked-leads : (c : Check) (s : Bytes) (a : ℕ) (x : Walk) → Walking c s a x → Leading c s a x
unfolding walked
walked-leads c s a x w =
    let o = at_start c s a x w in
    let from = w.from in
    let e : x.start + (x.at - x.start) ≡ x.at = omega arith in
    let d : is_plain (dialect (begun x a c).delimiter (begun x a c).leniencies) ≡ is_plain (dialect c.delimiter c.leniencies) =
    ap₂ (λ (y z : ℕ). is_plain (dialect y z)) o.delimiter o.leniencies in
    record {
      on = w.on;
      line = w.line;
      from = w.from;
      within = λ h. w.within;
      same =
          ap (λ (i : ℕ). fed_all (texted (x.at - x.start) (begun x a c)) (drop i s)) (sym e)
          ∙ texted-leads (begun x a c) s x.start (x.at - x.start) (o.refusal ∙ w.level.refusal) o.form (rw d w.plain)
          ∙ w.same;
    }

-- a walk that has passed nothing leads nowhere else, whatever the state
pub still-leads : (c : Check) (s : Bytes) (a n : ℕ) → Leading c s a (record { at = a; line = a; lines = 0; start = a; rows = 0; fields = 0; number = n; text = 0 })
unfolding walked
still-leads c s a n =
    let z : a - a ≡ 0 = omega arith in
    record { on = omega arith; line = omega arith; from = omega arith; within = λ h. h; same = rw z }

-- any two walks lead to the same
pub one-walk : (c : Check) (s : Bytes) (a : ℕ) (x y : Walk) → Leading c s a x → Leading c s a y → fed_all (walked x a c) (drop x.at s) ≡ fed_all (walked y a c) (drop y.at s)
one-walk c s a x y g h = g.same ∙ sym h.same

-- from a walk to itself, and to one behind the field that ends at p
pub stays : (o : Ends) (s : Bytes) (x : Walk) → Goes o s x x
stays o s x = record { on = omega arith; goes = λ c i a w. w }

module _ (o : Ends) (s : Bytes) (x : Walk) (h : Sized x s) where
  module _
      (p m j l : ℕ) (field : get_or s p 0 ≡ o.delimiter → Goes o s x (field_on x (p + 1) m j l))
      (row : BreakAt s p → x.number + 1 ≡ o.width → Goes o s x (row_on x (p + 2) m l))
      (lone : get_or s p 0 ≡ 0x0A → o.alone ≡ true → x.number + 1 ≡ o.width → Goes o s x (row_on x (p + 1) m l))
    where
      goes-ended : Goes o s x (ended_by x (end_at o x.number s p) p m j l)
      goes-ended = delimited (eqb (get_or s p 0) o.delimiter) refl
        where
          ended-alone : (z : Bool) → (o.alone && eqb (get_or s p 0) 0x0A) ≡ z → x.number + 1 ≡ o.width → Goes o s x (ended_by x (cond z (Some LoneLf) None) p m j l)
          ended-alone true e q = let (u, v) = and_both o.alone (eqb (get_or s p 0) 0x0A) e in lone (eqb-true (get_or s p 0) 0x0A v) u q
          ended-alone false e q = stays o s x

          broken : (z : Bool) → is_break (drop p s) ≡ z → x.number + 1 ≡ o.width → Goes o s x (ended_by x (cond z (Some Break) (cond (o.alone && eqb (get_or s p 0) 0x0A) (Some LoneLf) None)) p m j l)
          broken true e q = row (break-at s p e) q
          broken false e q = ended-alone (o.alone && eqb (get_or s p 0) 0x0A) refl q

          last : (z : Bool) → eqb (x.number + 1) o.width ≡ z → Goes o s x (ended_by x (cond z (cond (is_break (drop p s)) (Some Break) (cond (o.alone && eqb (get_or s p 0) 0x0A) (Some LoneLf) None)) None) p m j l)
          last true e = broken (is_break (drop p s)) refl (eqb-true (x.number + 1) o.width e)
          last false e = stays o s x

          delimited :
              (z : Bool) → eqb (get_or s p 0) o.delimiter ≡ z
              → Goes o s x (ended_by x (cond z (Some Delimiter) (cond (eqb (x.number + 1) o.width) (cond (is_break (drop p s)) (Some Break) (cond (o.alone && eqb (get_or s p 0) 0x0A) (Some LoneLf) None)) None)) p m j l)
          delimited true e = field (eqb-true (get_or s p 0) o.delimiter e)
          delimited false e = last (eqb (x.number + 1) o.width) refl

  fits : (p m l : ℕ) → x.start ≤ p → p < length s → x.text + m ≤ p → l ≤ p → Fits x p m l
  fits p m l on v t n =
      record {
        next = omega (arith, h.short);
        fields = omega (arith, h.closed, h.short);
        number = omega (arith, h.number, h.short);
        rows = omega (arith, h.closed, h.short);
        text = omega (arith, h.short);
        lines = omega (arith, h.short);
      }

  -- a bare field
  pub goes-bare :
      x.at - x.start ≤ content_limit → Goes o s x (ended_by x (end_at o x.number s x.at) x.at (x.at - x.start) x.line x.lines)
  goes-bare l =
      goes-ended x.at (x.at - x.start) x.line x.lines
      (λ e. record { on = omega arith; goes = λ c i a w. bare-field c s a x w l h.inside (e ∙ sym (ap (λ (q : Ends). q.delimiter) i)) })
      (λ e q. record { on = omega arith; goes = λ c i a w. bare-row c s a x w l e.inside e.first e.second (ap (λ (z : Ends). z.width) i ∙ sym q) })
      (λ e z q. record { on = omega arith; goes = λ c i a w. bare-lone c s a x w l h.inside e (ap (λ (v : Ends). v.alone) i ∙ z) (ap (λ (z : Ends). z.width) i ∙ sym q) })

  pub bare-fits : Fits x x.at (x.at - x.start) x.lines
  bare-fits = fits x.at (x.at - x.start) x.lines h.from h.inside (omega (arith, h.text, h.from)) (omega (arith, h.lines, h.from))

  -- a quoted field from the quote at the walk's place on, with the content r
  module _ (r : Inside) (b : Between s (x.at + 1) r) (g : Closed s r) where
    pub goes-quoted :
        x.at ≡ x.start → get_or s x.at 0 ≡ 0x22
        → Goes o s x (ended_by x (end_at o x.number s (r.end + 1)) (r.end + 1) r.content (last_line x.line r) (x.lines + r.lines))
    goes-quoted here opens =
        let inside : r.end < length s = omega (arith, g.behind) in
        goes-ended (r.end + 1) r.content (last_line x.line r) (x.lines + r.lines)
        (λ e. record { on = omega (arith, b.on); goes = λ c i a w. quoted-field c s a x w here h.inside opens r b g.limit inside g.quote g.behind (e ∙ sym (ap (λ (q : Ends). q.delimiter) i)) })
        (λ e q. record {
          on = omega (arith, b.on);
          goes = λ c i a w. quoted-row c s a x w here h.inside opens r b g.limit inside g.quote e.inside e.first e.second (ap (λ (z : Ends). z.width) i ∙ sym q);
        })
        (λ e z q. record {
          on = omega (arith, b.on);
          goes = λ c i a w. quoted-lone c s a x w here h.inside opens r b g.limit inside g.quote g.behind e (ap (λ (v : Ends). v.alone) i ∙ z) (ap (λ (z : Ends). z.width) i ∙ sym q);
        })

    pub quoted-fits : Fits x (r.end + 1) r.content (x.lines + r.lines)
    quoted-fits =
        fits (r.end + 1) r.content (x.lines + r.lines) (omega (arith, h.from, b.on)) g.behind (omega (arith, h.text, h.from, b.content)) (omega (arith, h.lines, h.from, b.lines))
