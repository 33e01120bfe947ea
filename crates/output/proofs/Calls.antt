-- Calls one after the other: what came out, joined, is what the grammar says of the bytes taken.
use Prim.Native.Nat.{ℕ, ◌+◌, ◌≤◌, min}
use native.Mathlib.Omega.{arith}
use mathlib.Core.Path.{◌≡◌, refl, sym, ap, subst, ◌∙◌}
use mathlib.Core.Bool.{Bool, true, false, true≢false}
use mathlib.Core.List.{[], ◌∷◌, ◌++◌, append_assoc, append-nil, flatten}
use lib.ListN.{take, drop, replicate}
use Rattle.format.specs.Table.{Bytes, Content}
use Rattle.format.specs.Dialect.{dialect}
use Rattle.format.specs.Refusal.{Fields, Records}
use Rattle.format.proofs.Memory.{lengths_none}
use Rattle.steps.specs.Steps.{start}
use Rattle.format.proofs.Classes.{decide}
use Rattle.state.specs.declared.Check.{Check}
use Rattle.state.specs.Check.{started, fed, fed_all}
use Rattle.state.proofs.Jumps.{fed-join}
use Rattle.state.proofs.Moves.{fed-none, fed-cons}
use Rattle.state.proofs.Parts.{started-is}
use Rattle.output.specs.declared.Stream.{Stream}
use Rattle.output.specs.Out.{Out, nothing, then, out_of, CameOut, came_out}
use Rattle.format.specs.SoFar.{so_far}
use Rattle.output.specs.declared.Room.{Room}
use Rattle.output.specs.Stream.{shown, is_over, puts_text, blanks_due, due, fits, left, Called, idle, onward, stuck, taking, streamed}
use Rattle.output.specs.Promises.{Awaits, nothing_early, content_next, Stands, going, refused}
use Rattle.format.proofs.Even.{even-none}
use Rattle.steps.proofs.Forms.{at_start, at-begun}
use Rattle.output.proofs.Step.{Fresh, Standing, standing, then-nothing, stand-byte, stand-blanks}

-- what stands is out
pub standing-out : {x sum m : ℕ} {f : Bytes} {e : Check} {o : Out} → Standing x sum f e m o → CameOut (dialect x sum) f m o
standing-out (standing w l q) = came_out (so_far w.records w.fields (at-begun w.at)) l q

pub started-standing : (x sum : ℕ) → Standing x sum [] (started x sum) 0 nothing
unfolding out_of flatten
started-standing x sum =
    rw (started-is x sum)
    (standing {k = start} {t = []} {cs = []} {c = []} {n = 0} {g = []} {h = []}
    (record {
      delimiter = refl;
      leniencies = refl;
      refusal = refl;
      bytes = refl;
      limit = omega arith;
      form = refl;
      begun = Fresh.none;
      records = Records.none;
      fields = Fields.none;
      at = at_start;
      content = refl;
      held = refl;
      text = refl;
      count = refl;
      size = omega arith;
      ends = omega arith;
      fits = tt;
      number = refl;
      width = refl;
      even = even-none (dialect x sum);
      wide = tt;
    })
    (omega arith) (λ i. record { text = []; ends = sym (lengths_none ℕ 0) i; rows = sym (lengths_none Content 0) i }))

-- joining
pub then-then : (o p q : Out) → then (then o p) q ≡ then o (then p q)
then-then o p q =
    λ i. record { text = append_assoc o.text p.text q.text i; ends = append_assoc o.ends p.ends q.ends i; rows = append_assoc o.rows p.rows q.rows i }

one_more : (f : Bytes) (b : ℕ) (g : Bytes) → (f ++ (b ∷ [])) ++ g ≡ f ++ (b ∷ g)
one_more f b g = append_assoc f (b ∷ []) g

pub fed-one : (b sum : ℕ) (f : Bytes) (x : ℕ) → fed_all (started b sum) (f ++ (x ∷ [])) ≡ fed (fed_all (started b sum) f) x
fed-one b sum f x = fed-join (started b sum) f (x ∷ []) ∙ (fed-cons (fed_all (started b sum) f) x [] ∙ fed-none (fed (fed_all (started b sum) f) x))

-- a state inside a session, before the bytes g
pub data Inv (b sum : ℕ) : Bytes → Bytes → Out → Stream → Type 0 where
  inv-going : {f g : Bytes} {o : Out} {s : Stream}
      → s.check ≡ fed_all (started b sum) f → shown s.check ≡ false → s.closed ≡ 0 → Standing b sum f s.check s.early o → Awaits s.check s.early g
      → Inv b sum f g o s
  inv-over : {f g : Bytes} {o : Out} {s : Stream} → is_over s ≡ true → ((g : Bytes) → Stands b sum f g o s) → Inv b sum f g o s

pub inv-stands : {b sum : ℕ} {f g : Bytes} {o : Out} {s : Stream} → Inv b sum f g o s → Stands b sum f g o s
inv-stands (inv-going p q r w a) = going p q r (standing-out w) a
inv-stands {g} (inv-over p h) = h g

pub going-over : (s : Stream) → shown s.check ≡ false → s.closed ≡ 0 → is_over s ≡ false
going-over s p q = rw (p, q)

-- what a call leaves behind it
abbrev After : ℕ → ℕ → Bytes → Bytes → Out → Bytes → Called → Type 0
After b sum f g o piece c = Inv b sum (f ++ take c.taken piece) (drop c.taken piece ++ g) (then o c.out) c.state

idle-after : {b sum : ℕ} {f : Bytes} {o : Out} {s : Stream} (piece g : Bytes) → Inv b sum f (piece ++ g) o s → After b sum f g o piece (idle s)
idle-after {b} {sum} {f} {o} {s} piece g h = subst (λ (p : Out). Inv b sum (f ++ []) (piece ++ g) p s) (sym (then-nothing o)) (subst (λ (l : Bytes). Inv b sum l (piece ++ g) o s) (sym (append-nil f)) h)

-- nothing is early, or the next byte is content
awaits-zero : {c : Check} {m x : ℕ} {g : Bytes} → Awaits c m (x ∷ g) → puts_text c (fed c x) ≡ false → m ≡ 0
awaits-zero nothing_early p = refl
awaits-zero (content_next s q) p = absurd (true≢false (sym q ∙ p))

awaits-shown : {c : Check} {m x : ℕ} {g : Bytes} → Awaits c m (x ∷ g) → shown (fed c x) ≡ true → m ≡ 0
awaits-shown nothing_early p = refl
awaits-shown (content_next s q) p = absurd (true≢false (sym p ∙ s))

pub awaits-none : {c : Check} {m : ℕ} {g : Bytes} → Awaits c m g → g ≡ [] → m ≡ 0
awaits-none nothing_early p = refl
awaits-none (content_next s q) p = let z : ◌≡◌ {A = ℕ} 0 1 = cc in absurd (omega arith)

-- a byte that shows a refusal; one that is taken; one whose output does not fit
module _ (b sum : ℕ) (f g : Bytes) (o : Out) (s : Stream) (x : ℕ) (p : s.check ≡ fed_all (started b sum) f) (w : Standing b sum f s.check s.early o)
    (a : Awaits s.check s.early (x ∷ g)) (c₀ : s.closed ≡ 0) (q₀ : shown s.check ≡ false)
  where
    e : Check
    e = fed s.check x

    fed-behind : fed s.check x ≡ fed_all (started b sum) (f ++ (x ∷ []))
    fed-behind = ap (λ (c : Check). fed c x) p ∙ sym (fed-one b sum f x)

    shows : shown (fed s.check x) ≡ true → Inv b sum (f ++ (x ∷ [])) g o (onward (fed s.check x))
    shows h =
        let v : is_over (onward (fed s.check x)) ≡ true = rw h in
        inv-over v
        (λ g. refused f x refl (subst (λ (c : Check). shown c ≡ false) p q₀) fed-behind h (standing-out (subst (λ (m : ℕ). Standing b sum f s.check m o) (awaits-shown a h) w)))

    takes : shown (fed s.check x) ≡ false → Inv b sum (f ++ (x ∷ [])) g (then o (due s.early s.check x (fed s.check x))) (onward (fed s.check x))
    takes h = inv-going fed-behind h refl (stand-byte x w h (awaits-zero a)) nothing_early

    sticks :
        shown s.check ≡ false → shown (fed s.check x) ≡ false → (j : ℕ) → j ≤ blanks_due s.early s.check (fed s.check x)
        → Inv b sum f (x ∷ g) (then o (record { text = replicate j 0x20; ends = []; rows = [] })) (record { check = s.check; early = s.early + j; closed = s.closed })
    unfolding blanks_due
    sticks h₀ h j l = by (puts_text s.check (fed s.check x)) refl
      where
        by :
            (y : Bool) → puts_text s.check (fed s.check x) ≡ y
            → Inv b sum f (x ∷ g) (then o (record { text = replicate j 0x20; ends = []; rows = [] })) (record { check = s.check; early = s.early + j; closed = s.closed })
        by true q = inv-going p h₀ c₀ (stand-blanks x j w h q l) (content_next h q)
        by false q =
            let z : j ≤ 0 = rw q at l in
            let j₀ : 0 ≡ j = omega arith in
            let m₀ : s.early ≡ s.early + j = omega arith in
            let y : s.early ≡ 0 = awaits-zero a q in
            let n₀ : 0 ≡ s.early + j = omega arith in
            let o₀ : o ≡ then o (record { text = replicate j 0x20; ends = []; rows = [] }) =
            sym (then-nothing o) ∙ ap (λ (i : ℕ). then o (record { text = replicate i 0x20; ends = []; rows = [] })) j₀ in
            inv-going p h₀ c₀
            (subst (λ (i : ℕ). Standing b sum f s.check i (then o (record { text = replicate j 0x20; ends = []; rows = [] }))) m₀ (subst (Standing b sum f s.check s.early) o₀ w))
            (subst (λ (i : ℕ). Awaits s.check i (x ∷ g)) n₀ nothing_early)

-- a byte taken before the rest
taken-after :
    {b sum : ℕ} (f : Bytes) (o : Out) (x : ℕ) (piece g : Bytes) (u : Out) (c : Called) → After b sum (f ++ (x ∷ [])) g (then o u) piece c
    → After b sum f g o (x ∷ piece) (taking u c)
taken-after {b} {sum} f o x piece g u c h =
    subst (λ (z : Out). Inv b sum (f ++ (x ∷ take c.taken piece)) (drop c.taken piece ++ g) z c.state) (then-then o u c.out)
    (subst (λ (l : Bytes). Inv b sum l (drop c.taken piece ++ g) (then (then o u) c.out) c.state) (one_more f x (take c.taken piece)) h)

-- feeding a piece
pub feed-inv :
    {b sum : ℕ} {f : Bytes} {o : Out} {s : Stream} (piece g : Bytes) (r : Room) → Inv b sum f (piece ++ g) o s → After b sum f g o piece (streamed s piece r)
unfolding streamed
feed-inv {f = f} [] g r h = idle-after [] g h
feed-inv {b} {sum} {f = f} {o} {s} (x ∷ piece) g r (inv-over h k) = rw h (idle-after (x ∷ piece) g (inv-over h k))
feed-inv {b} {sum} {f = f} {o} {s} (x ∷ piece) g r (inv-going p q c w a) =
    rw (going-over s q c)
    (decide (After b sum f g o (x ∷ piece)) (shown (fed s.check x))
    (λ h. subst (λ (z : Out). Inv b sum (f ++ (x ∷ [])) (piece ++ g) z (onward (fed s.check x))) (sym (then-nothing o)) (shows b sum f (piece ++ g) o s x p w a c q h))
    (λ h.
    let e : Check = fed s.check x in
    let u : Out = due s.early s.check x e in
    decide (After b sum f g o (x ∷ piece)) (fits u r)
    (λ i. taken-after f o x piece g u (streamed (onward e) piece (left u r)) (feed-inv {f = f ++ (x ∷ [])} piece g (left u r) (takes b sum f (piece ++ g) o s x p w a c q h)))
    (λ i.
    subst (λ (l : Bytes). Inv b sum l (x ∷ (piece ++ g)) (then o (stuck s u r (min (blanks_due s.early s.check e) r.text)).out) (stuck s u r (min (blanks_due s.early s.check e) r.text)).state) (sym (append-nil f))
    (sticks b sum f (piece ++ g) o s x p w a c q q h (min (blanks_due s.early s.check e) r.text) (omega arith)))))
