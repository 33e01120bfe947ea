-- A caller comes to the end: what is left falls with every call.
use Prim.Native.Nat.{ℕ, ◌+◌, ◌-◌, ◌*◌, ◌≤◌, ◌<◌}
use native.Mathlib.Omega.{arith}
use mathlib.Core.Path.{◌≡◌, refl, sym, ap, ◌∙◌}
use mathlib.Core.Bool.{true, false, not, true≢false}
use mathlib.Core.Logic.{◌⊎◌, inl, inr}
use mathlib.Core.List.{[], ◌∷◌}
use lib.Dec.{eqb}
use lib.ListN.{length, drop}
use borrow.Author.Tests.{le-leb, eqb-false}
use Rattle.format.specs.Table.{Bytes}
use Rattle.format.proofs.Classes.{decide}
use Rattle.steps.specs.Steps.{nothing, put, hold, drop as dropped, field_end, record_end, Act, refuse, go}
use Rattle.steps.proofs.Acts.{Proper, step-proper}
use Rattle.state.specs.declared.Check.{Check}
use Rattle.state.specs.Check.{fed}
use Rattle.state.proofs.Byte.{FieldEnds, RecordEnds, Does, act_of, fed-does}
use Rattle.output.specs.declared.Stream.{Stream}
use Rattle.output.specs.Out.{Out}
use Rattle.output.specs.declared.Room.{Room}
use Rattle.output.specs.Stream.{shown, is_over, puts_text, due, fits, left, Called, onward, streamed, left_of}
use Rattle.output.specs.Promises.{Awaits, nothing_early, content_next}
use Rattle.output.proofs.Step.{clear}
use Rattle.output.proofs.Meaning.{shown-before}
use Rattle.output.proofs.Bytewise.{shown-over}
use Rattle.output.proofs.Progress.{stuck-some}

-- what a byte does to the blanks held: at most one more, and none behind content
record Held (c r : Check) : Type 0 where
  most : r.field.held ≤ c.field.held + 1
  none : puts_text c r ≡ true → r.field.held ≡ 0

held-fed : (c : Check) (b : ℕ) → shown (fed c b) ≡ false → Held c (fed c b)
held-fed c b s = by (act_of c b) (step-proper _ _ _) (fed-does c b (clear c (shown-before c b s)).refusal)
  where
    -- where content stays as it was, or grows smaller, the byte is no content
    no-puts : {A : Type 0} → (fed c b).field.content ≤ c.field.content → puts_text c (fed c b) ≡ true → A
    no-puts l p = absurd (true≢false (sym p ∙ ap not (le-leb (fed c b).field.content c.field.content l)))

    refused : {A : Type 0} (n : ℕ) → eqb n 0 ≡ false → (fed c b).refusal ≡ n → A
    refused n p q = absurd (eqb-false n 0 p (sym q ∙ (clear (fed c b) s).refusal))

    by : (a : Act) → Proper a → Does c a (fed c b) → Held c (fed c b)
    by (refuse n) p v = refused n p v
    by (go j nothing) p v = record { most = omega (arith, v.held); none = no-puts (omega (arith, v.content)) }
    by (go j put) p v = record { most = omega (arith, v.held); none = λ q. v.held }
    by (go j hold) p v = record { most = omega (arith, v.held); none = no-puts (omega (arith, v.content)) }
    by (go j dropped) p v = record { most = omega (arith, v.held); none = no-puts (omega (arith, v.content)) }
    by (go j field_end) p (FieldEnds.ends v) = record { most = omega (arith, v.over.held); none = λ q. v.over.held }
    by (go j field_end) p (FieldEnds.long l v) = refused 9 refl v
    by (go j record_end) p (RecordEnds.ends v) = record { most = omega (arith, v.over.held); none = λ q. v.over.held }
    by (go j record_end) p (RecordEnds.long l v) = refused 9 refl v
    by (go j record_end) p (RecordEnds.uneven l y v) = refused 10 refl v

abbrev Rests : ℕ → Bytes → Called → Type 0
Rests n f c = (is_over c.state ≡ true) ⊎ (left_of c.state (drop c.taken f) ≤ n)

rests : (f : Bytes) (s : Stream) (r : Room) → s.early ≡ 0 → Rests (2 * length f + s.check.field.held) f (streamed s f r)
unfolding streamed
rests [] s r z = inr (omega arith)
rests (b ∷ f) s r z =
    decide (Rests (2 * length (b ∷ f) + s.check.field.held) (b ∷ f)) (is_over s) (λ h. inl h)
    (λ h. decide (Rests (2 * length (b ∷ f) + s.check.field.held) (b ∷ f)) (shown (fed s.check b)) (λ i. inl (shown-over (fed s.check b) i))
    (λ i.
    let o : Out = due s.early s.check b (fed s.check b) in
    decide (Rests (2 * length (b ∷ f) + s.check.field.held) (b ∷ f)) (fits o r)
    (λ j. more i (streamed (onward (fed s.check b)) f (left o r)) (rests f (onward (fed s.check b)) (left o r) refl))
    (λ j. inr (omega arith))))
  where
    more : shown (fed s.check b) ≡ false → (c : Called) → Rests (2 * length f + (fed s.check b).field.held) f c → (is_over c.state ≡ true) ⊎ (left_of c.state (drop c.taken f) ≤ 2 * length (b ∷ f) + s.check.field.held)
    more i c (inl h) = inl h
    more i c (inr h) = let y = (held-fed s.check b i).most in inr (omega arith)

-- With every such call that is not over, what is left falls.
abbrev Falls : ℕ → Bytes → Called → Type 0
Falls n f c = (is_over c.state ≡ true) ⊎ (left_of c.state (drop c.taken f) < n)

awaits-held : (c : Check) (m b : ℕ) (f : Bytes) → shown (fed c b) ≡ false → Awaits c m (b ∷ f) → (fed c b).field.held + 1 ≤ 2 + (c.field.held - m)
awaits-held c m b f i nothing_early = let y = (held-fed c b i).most in omega arith
awaits-held c m b f i (content_next s q) = let y = (held-fed c b i).none q in omega arith

pub left-falls :
    (b : ℕ) (f : Bytes) (s : Stream) (r : Room) → Awaits s.check s.early (b ∷ f) → 1 ≤ r.text → 1 ≤ r.ends → 1 ≤ r.rows
    → Falls (left_of s (b ∷ f)) (b ∷ f) (streamed s (b ∷ f) r)
unfolding streamed
left-falls b f s r a x y z =
    decide (Falls (left_of s (b ∷ f)) (b ∷ f)) (is_over s) (λ h. inl h)
    (λ h. decide (Falls (left_of s (b ∷ f)) (b ∷ f)) (shown (fed s.check b)) (λ i. inl (shown-over (fed s.check b) i))
    (λ i.
    let o : Out = due s.early s.check b (fed s.check b) in
    decide (Falls (left_of s (b ∷ f)) (b ∷ f)) (fits o r)
    (λ j. more i (streamed (onward (fed s.check b)) f (left o r)) (rests f (onward (fed s.check b)) (left o r) refl))
    (λ j.
    let k = stuck-some s.early s.check b (fed s.check b) r j x y z in
    let k₀ = k.0 in
    let k₁ = k.1 in
    inr (omega arith))))
  where
    more : shown (fed s.check b) ≡ false → (c : Called) → Rests (2 * length f + (fed s.check b).field.held) f c → (is_over c.state ≡ true) ⊎ (left_of c.state (drop c.taken f) < left_of s (b ∷ f))
    more i c (inl h) = inl h
    more i c (inr h) = let y = awaits-held s.check s.early b f i a in inr (omega arith)
