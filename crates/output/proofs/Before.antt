-- What came out before a refusal.
use Prim.Native.Nat.{ℕ, ◌≤◌, ◌<◌}
use native.Mathlib.Omega.{arith}
use mathlib.Core.Path.{◌≡◌, refl, sym, ap, subst, ◌∙◌}
use mathlib.Core.Bool.{true, false, true≢false}
use mathlib.Core.List.{[], ◌∷◌, ◌++◌}
use lib.ListN.{length, length-append}
use Rattle.format.specs.declared.Answer.{Answer}
use Rattle.format.specs.Table.{Bytes}
use Rattle.format.specs.Dialect.{dialect, Valid}
use Rattle.format.specs.House.{file_limit}
use Rattle.format.specs.Refusal.{Refusal}
use Rattle.format.specs.Reading.{in_file}
use Rattle.steps.proofs.Theorems.{never_both}
use Rattle.state.specs.declared.Check.{Check}
use Rattle.state.specs.Check.{started, fed, fed_all}
use Rattle.pieces.specs.Asked.{asked}
use Rattle.pieces.specs.Answers.{Answers}
use Rattle.pieces.proofs.Stands.{one_answer}
use Rattle.state.proofs.Moves.{started-byte}
use Rattle.format.proofs.Numbers.{refused-number}
use Rattle.output.specs.declared.Stream.{Stream}
use Rattle.output.specs.Out.{Out, CameOut}
use Rattle.output.specs.Stream.{shown, is_over}
use Rattle.output.specs.Promises.{Stands, no_dialect, going, refused, declined, accepted}
use Rattle.output.proofs.Step.{Standing, standing, clear}
use Rattle.output.proofs.Calls.{fed-one, going-over}
use Rattle.output.proofs.Laws.{check-answers}
use Rattle.output.proofs.Meaning.{came-standing}
use Rattle.output.proofs.Refuse.{FoundAt, found-out, fault-byte, fault-close}

module _ {b sum : ℕ} where
  byte-found :
      (e : Bytes) (x : ℕ) {o : Out} → Standing b sum e (fed_all (started b sum) e) 0 o → shown (fed_all (started b sum) e) ≡ false
      → shown (fed (fed_all (started b sum) e) x) ≡ true → length (e ++ (x ∷ [])) ≤ file_limit → FoundAt (dialect b sum) (e ++ (x ∷ [])) o
  byte-found e x (standing {k} {t} {cs} {c} {n} {g} {h} w l q) s i j =
      subst (FoundAt (dialect b sum) (e ++ (x ∷ []))) (sym q) (fault-byte b sum e (fed_all (started b sum) e) x k t cs c n g h w (clear (fed_all (started b sum) e) s) j i)

  close-found : {f : Bytes} {c : Check} {o : Out} → Standing b sum f c 0 o → shown c ≡ false → ((asked c).refusal ≡ 0 → ⊥) → FoundAt (dialect b sum) f o
  close-found {f} {c = e} (standing {k} {t} {cs} {c} {n} {g} {h} w l q) s a =
      subst (FoundAt (dialect b sum) f) (sym q) (fault-close b sum f e t cs c n g h a k w (clear e s))

  -- Before a refusal, 3 to 10, what came out is the contents, ends and row ends of the bytes before the place where the fault is found: held blanks and
  -- the end of a field that ends there are left out.
  pub before_fault :
      {f g found named : Bytes} {o : Out} {s : Stream} {n : ℕ} → Stands b sum f g o s → is_over s ≡ true → Valid b sum → length f ≤ file_limit
      → Refusal (dialect b sum) n f found named → (e : Bytes) → f ≡ e ++ found → CameOut (dialect b sum) e 0 o
  before_fault (no_dialect v p q) a u l r e i = absurd (v u)
  before_fault {s} (going p q c o w) a u l r e i = absurd (true≢false (sym a ∙ going-over s q c))
  before_fault {f} {o} {s} (refused e₀ y j k p q w) a u l r e i =
      let z : shown (fed (fed_all (started b sum) e₀) y) ≡ true =
      subst (λ (c : Check). shown c ≡ true) (p ∙ (ap (fed_all (started b sum)) j ∙ fed-one b sum e₀ y)) q in
      let w₀ = came-standing refl k w in
      let v = byte-found e₀ y w₀ k z (subst (λ (m : Bytes). length m ≤ file_limit) j l) in
      found-out e (subst (λ (m : Bytes). FoundAt (dialect b sum) m o) (sym j) v) r i
  before_fault {f} {s} (declined {n = m} p q c h w) a u l r e i =
      let k = refused-number h in
      let v = ap (λ (x : Answer). x.refusal) (one_answer (check-answers b sum f s.check p) (Answers.refused h)) in
      found-out e (close-found (came-standing p q w) q (λ y. omega arith)) r i
  before_fault (accepted p c h w) a u l r e i = absurd (never_both h (in_file u l r refl))

  -- Refusal 2: what came out is that of the bytes within the limit.
  pub before_limit :
      {f g : Bytes} {o : Out} {s : Stream} → Stands b sum f g o s → is_over s ≡ true → Valid b sum → file_limit < length f
      → (e : Bytes) × (y : ℕ) × (f ≡ e ++ (y ∷ [])) × (length e ≡ file_limit) × CameOut (dialect b sum) e 0 o
  before_limit (no_dialect v p q) a u l = absurd (v u)
  before_limit {s} (going p q c o w) a u l = absurd (true≢false (sym a ∙ going-over s q c))
  before_limit {f} {o} {s} (refused e y j k p q w) a u l =
      let z = started-byte b sum e in
      let v = (clear (fed_all (started b sum) e) k).short in
      let i = ap length j ∙ length-append e (y ∷ []) in
      (e, y, j, omega arith, w)
  before_limit {f} {s} (declined p q c h w) a u l = let z = started-byte b sum f in let v = (clear s.check q).short in let i = ap (λ (c : Check). c.here.byte.0) p in absurd (omega arith)
  before_limit {f} {s} (accepted p c h w) a u l = let v = h.short in absurd (omega arith)
