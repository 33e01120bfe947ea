-- What each pass reaches leads where the bytes led.
use Prim.Native.Nat.{ℕ, ◌+◌, ◌-◌, ◌≤◌, ◌<◌}
use native.Mathlib.Omega.{arith}
use mathlib.Core.Path.{◌≡◌, refl, sym, ◌∙◌}
use mathlib.Core.Bool.{Bool}
use lib.ListN.{length, drop, length-drop}
use Rattle.format.specs.Table.{Bytes}
use Rattle.format.specs.Dialect.{dialect}
use Rattle.format.specs.Place.{line_feeds, since_lf}
use Rattle.steps.specs.Steps.{bare, quoted}
use Rattle.steps.specs.Numbers.{form_number}
use Rattle.runs.specs.Runs.{run, is_plain}
use Rattle.runs.proofs.Runs.{run-le}
use Rattle.places.specs.Counters.{counter_limit, along, spot}
use Rattle.state.specs.declared.Check.{Check}
use Rattle.state.specs.Check.{placed, fed_all, jumped}
use Rattle.state.specs.Settled.{Settled}
use Rattle.state.proofs.Jumps.{fed-end, text-leap}
use Rattle.state.proofs.Refused.{refused_all}
use Rattle.spans.specs.declared.Inside.{Inside}
use Rattle.spans.specs.declared.Walk.{Walk}
use Rattle.spans.specs.Walk.{BetweenFrom, Leading, walked}
use Rattle.passes.specs.declared.Reached.{Reached}
use Rattle.passes.specs.Passes.{Leads}

-- nothing passed
pub stays-leads : (c : Check) (s : Bytes) (i : ℕ) → Leads c s i (record { at = i; check = c })
stays-leads c s i = record { on = omega arith; within = λ h. h; same = refl }

-- any two outcomes lead to the same
pub one_end : (c : Check) (s : Bytes) (i : ℕ) (r q : Reached) → Leads c s i r → Leads c s i q → fed_all r.check (drop r.at s) ≡ fed_all q.check (drop q.at s)
one_end c s i r q g h = g.same ∙ sym h.same

pub walked-leads : (c : Check) (s : Bytes) (i : ℕ) (x : Walk) → Leading c s i x → Leads c s i (record { at = x.at; check = walked x i c })
walked-leads c s i x h = record { on = omega (arith, h.on, h.line, h.from); within = h.within; same = h.same }

module _ (c : Check) (s : Bytes) (i : ℕ) (inside : i ≤ length s) where
  -- content between quotes
  pub inside-leads : (r : Inside) → BetweenFrom s i r → Settled c → Leads c s i (record { at = r.end; check = jumped (form_number quoted) (spot r.lines r.tail (r.end - i) c.here) r.content c })
  inside-leads r w q = let b = w.between inside in record { on = b.on; within = λ h. b.within; same = b.same c q }

  -- plain text
  pub text-within : (P : ℕ → Bool) (k : ℕ) → k ≡ run P (drop i s) → i + k ≤ length s
  text-within P k e = omega (arith, run-le P (drop i s), length-drop i s)

  pub text-leads :
      (k : ℕ) → (k ≡ 0 → ⊥) → c.refusal ≡ 0 → c.form ≤ form_number bare → k ≡ run (is_plain (dialect c.delimiter c.leniencies)) (drop i s)
      → Leads c s i (record { at = i + k; check = jumped (form_number bare) (along k c.here) k c })
  text-leads k some r f e =
      let more : 0 < k = omega arith in
      record { on = omega arith; within = λ h. text-within _ k e; same = text-leap s i k c more r f (omega arith) }

  -- all behind a refusal
  pub refused-leads :
      (c.refusal ≡ 0 → ⊥) → c.here.line.0 ≤ counter_limit → c.here.column.0 ≤ counter_limit → c.here.byte.0 ≤ counter_limit → (l t : ℕ)
      → l ≡ line_feeds (drop i s) → t ≡ length (since_lf (drop i s)) → Leads c s i (record { at = length s; check = placed (spot l t (length s - i) c.here) c })
  refused-leads r a b d l t e₁ e₂ =
      record {
        on = inside;
        within = λ h. omega arith;
        same = fed-end (placed (spot l t (length s - i) c.here) c) s (length s) (omega arith) ∙ rw (e₁, e₂, ← length-drop i s) (sym (refused_all c r a b d (drop i s)));
      }
