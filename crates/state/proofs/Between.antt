-- Content between quotes: bytes, pairs of quotes and line feeds come to one jump.
use Prim.Native.Nat.{ℕ, zero, suc, ◌+◌, ◌-◌, ◌≤◌, ◌<◌}
use native.Mathlib.Numerals.{add-one}
use native.Mathlib.Omega.{arith}
use mathlib.Core.Path.{◌≡◌, refl, sym, ap, ◌∙◌}
use lib.ListN.{length, get_or, drop}
use lib.Seq.{drop-cons}
use Rattle.format.specs.declared.Place.{Place}
use Rattle.format.specs.Table.{Bytes}
use Rattle.steps.specs.Steps.{quoted}
use Rattle.steps.specs.Numbers.{form_number}
use Rattle.runs.specs.Runs.{run, is_inner, pairs}
use Rattle.places.specs.Counters.{counter_limit, plus, moved, along, spot}
use Rattle.places.proofs.Counting.{spot-along, spot-line, spot-none}
use Rattle.state.specs.declared.Check.{Check}
use Rattle.state.specs.Check.{entered, placed, fed, fed_all, jumped}
use Rattle.state.specs.Settled.{Settled}
use Rattle.state.proofs.Jumps.{lf-step, jump-jump, inner-leap, pairs-leap}

-- nothing passed yet
settled-parts :
    (c : Check) (k b m h : ℕ) (p : Place) → 3 ≡ k → 1 ≡ b → m ≡ c.field.content → 0 ≡ h → p ≡ c.here
    → ◌≡◌ {A = Check} (record {
      delimiter = c.delimiter;
      leniencies = c.leniencies;
      refusal = c.refusal;
      form = form_number quoted;
      begun = 1;
      used = c.used;
      here = p;
      anchor = c.anchor;
      field = record { start = c.field.start; content = m; held = 0; number = c.field.number };
      counts = c.counts;
    })
    (record {
      delimiter = c.delimiter;
      leniencies = c.leniencies;
      refusal = c.refusal;
      form = k;
      begun = b;
      used = c.used;
      here = c.here;
      anchor = c.anchor;
      field = record { start = c.field.start; content = c.field.content; held = h; number = c.field.number };
      counts = c.counts;
    })
settled-parts c k b m h p e₁ e₂ e₃ e₄ e₅ = rw (e₁, e₂, e₃, e₄, e₅)

pub settled-none : (c : Check) → Settled c → jumped (form_number quoted) (spot 0 0 0 c.here) 0 c ≡ c
unfolding jumped entered placed
settled-none c h =
    let m : plus (plus c.field.content c.field.held) 0 ≡ c.field.content = kept c.field.content c.field.held h.content h.held in
    settled-parts c c.form c.begun (plus (plus c.field.content c.field.held) 0) c.field.held (spot 0 0 0 c.here) (sym h.form) (sym h.begun) m (sym h.held)
    (spot-none c.here h.line h.column h.byte)
  where
    kept : (a b : ℕ) → a ≤ counter_limit → b ≡ 0 → plus (plus a b) 0 ≡ a
    kept a b l e = omega arith

-- bytes from a place to another, the line feeds among them and the bytes behind the last, or all; and how much content they are
pub record Passage : Type 0 where
  pub from : ℕ
  pub end : ℕ
  pub lines : ℕ
  pub tail : ℕ
  pub content : ℕ

-- such bytes of f are one jump from the state c
abbrev pub Inner : Check → Bytes → Passage → Type 0
Inner c f u = fed_all (jumped (form_number quoted) (spot u.lines u.tail (u.end - u.from) c.here) u.content c) (drop u.end f) ≡ fed_all c (drop u.from f)

pub inner_start : (c : Check) (f : Bytes) (at : ℕ) → Settled c → Inner c f (record { from = at; end = at; lines = 0; tail = 0; content = 0 })
inner_start c f at h =
    let z : at - at ≡ 0 = omega arith in
    ap (λ (n : ℕ). fed_all (jumped (form_number quoted) (spot 0 0 n c.here) 0 c) (drop at f)) z ∙ ap (λ (e : Check). fed_all e (drop at f)) (settled-none c h)

here-is : (p : Place) (m : ℕ) (c : Check) → (jumped (form_number quoted) p m c).here ≡ p
unfolding jumped placed
here-is p m c = refl

calm : (p : Place) (m : ℕ) (c : Check) → c.refusal ≡ 0 → (jumped (form_number quoted) p m c).refusal ≡ 0
unfolding jumped placed entered
calm p m c e = e

inside-form : (p : Place) (m : ℕ) (c : Check) → (jumped (form_number quoted) p m c).form ≡ form_number quoted
unfolding jumped placed entered
inside-form p m c = refl

delimiter-is : (p : Place) (m : ℕ) (c : Check) → (jumped (form_number quoted) p m c).delimiter ≡ c.delimiter
unfolding jumped placed entered
delimiter-is p m c = refl

pub fed-at : (c : Check) (f : Bytes) (i : ℕ) → i < length f → fed_all (fed c (get_or f i 0)) (drop (i + 1) f) ≡ fed_all c (drop i f)
unfolding fed_all
fed-at c f i h = rw (add-one, drop-cons f i 0)

module _ (c : Check) (f : Bytes) (u : Passage) (h : Settled c) (on : u.from ≤ u.end) (g : Inner c f u) where
  abbrev at : ℕ
  at = u.from

  abbrev i : ℕ
  i = u.end

  abbrev l : ℕ
  l = u.lines

  abbrev t : ℕ
  t = u.tail

  abbrev m : ℕ
  m = u.content

  now : Check
  now = jumped (form_number quoted) (spot l t (i - at) c.here) m c

  -- a jump from there
  onward :
      (j l' t' x : ℕ) (p : Place) → p ≡ spot l' t' (j - at) c.here → fed_all (jumped (form_number quoted) p x now) (drop j f) ≡ fed_all now (drop i f)
      → Inner c f (record { from = at; end = j; lines = l'; tail = t'; content = m + x })
  unfolding now
  onward j l' t' x p e q =
      ap (λ (p : Place). fed_all (jumped (form_number quoted) p (m + x) c) (drop j f)) (sym e)
      ∙ ap (λ (e : Check). fed_all e (drop j f)) (sym (jump-jump 3 3 p (spot l t (i - at) c.here) x m c))
      ∙ q ∙ g

  pub inner-line : u.end < length f → get_or f u.end 0 ≡ 0x0A → Inner c f (record { from = u.from; end = u.end + 1; lines = u.lines + 1; tail = 0; content = u.content + 1 })
  unfolding now
  inner-line v e =
      let p = spot l t (i - at) c.here in
      let z : i - at + 1 ≡ i + 1 - at = omega arith in
      onward (i + 1) (l + 1) 0 1 (moved 0x0A p) (spot-line l t (i - at) c.here ∙ ap (λ (n : ℕ). spot (l + 1) 0 n c.here) z)
      (ap (λ (q : Place). fed_all (jumped (form_number quoted) (moved 0x0A q) 1 now) (drop (i + 1) f)) (sym (here-is p m c))
      ∙ ap (λ (x : Check). fed_all x (drop (i + 1) f)) (sym (lf-step now (calm p m c h.refusal) (inside-form p m c)))
      ∙ ap (λ (b : ℕ). fed_all (fed now b) (drop (i + 1) f)) (sym e)
      ∙ fed-at now f i v)

  pub inner-more :
      (k : ℕ) → k ≤ run is_inner (drop u.end f)
      → Inner c f (record { from = u.from; end = u.end + k; lines = u.lines; tail = u.tail + k; content = u.content + k })
  unfolding now
  inner-more zero q =
      let x : i + 0 ≡ i = omega arith in
      let y : t + 0 ≡ t = omega arith in
      let z : m + 0 ≡ m = omega arith in
      rw (x, y, z) g
  inner-more (suc k) q =
      let p = spot l t (i - at) c.here in
      let z : i - at + suc k ≡ i + suc k - at = omega arith in
      onward (i + suc k) l (t + suc k) (suc k) (along (suc k) p) (spot-along (suc k) l t (i - at) c.here ∙ ap (λ (n : ℕ). spot l (t + suc k) n c.here) z)
      (ap (λ (q : Place). fed_all (jumped (form_number quoted) (along (suc k) q) (suc k) now) (drop (i + suc k) f)) (sym (here-is p m c))
      ∙ inner-leap f i (suc k) now (omega arith) (calm p m c h.refusal) (inside-form p m c) q)

  pub inner-pairs :
      (k : ℕ) → k ≤ pairs (drop u.end f)
      → Inner c f (record { from = u.from; end = u.end + (k + k); lines = u.lines; tail = u.tail + (k + k); content = u.content + k })
  unfolding now
  inner-pairs zero q =
      let x : i + (0 + 0) ≡ i = omega arith in
      let y : t + (0 + 0) ≡ t = omega arith in
      let z : m + 0 ≡ m = omega arith in
      rw (x, y, z) g
  inner-pairs (suc k) q =
      let p = spot l t (i - at) c.here in
      let n = suc k + suc k in
      let z : i - at + (suc k + suc k) ≡ i + (suc k + suc k) - at = omega arith in
      onward (i + n) l (t + n) (suc k) (along n p) (spot-along n l t (i - at) c.here ∙ ap (λ (x : ℕ). spot l (t + n) x c.here) z)
      (ap (λ (q : Place). fed_all (jumped (form_number quoted) (along n q) (suc k) now) (drop (i + n) f)) (sym (here-is p m c))
      ∙ pairs-leap f i (suc k) now (omega arith) (calm p m c h.refusal) (inside-form p m c) (λ e. h.other (sym (delimiter-is p m c) ∙ e)) q)
