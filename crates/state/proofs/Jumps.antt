-- Many bytes at once: what feeding a run of plain text, of bytes between quotes or of pairs of quotes comes to is one jump.
use Prim.Native.Nat.{ℕ, zero, suc, ◌+◌, ◌≤◌, ◌<◌}
use native.Mathlib.Omega.{arith}
use mathlib.Core.Path.{◌≡◌, refl, sym, ap, ◌∙◌}
use mathlib.Core.Bool.{Bool, true, false}
use mathlib.Core.List.{[], ◌∷◌, ◌++◌}
use lib.Seq.{drop-drop}
use lib.Dec.{leb}
use lib.ListN.{length, drop, drop_of_length-le}
use borrow.Author.Tests.{eq-eqb, ne_eqb, le-leb}
use Rattle.format.specs.declared.Place.{Place}
use Rattle.format.specs.Table.{Bytes}
use Rattle.format.specs.Dialect.{lf, names, dialect, is_wide, Class, text, quote, class_of}
use Rattle.format.proofs.Classes.{quoted_class, quote-beside, LF-inside}
use Rattle.steps.specs.Steps.{Form, bare, quoted, shut, step_of}
use Rattle.steps.specs.Numbers.{form_number, form_of, coded}
use Rattle.steps.proofs.Acts.{text-puts, inside-puts, quote-shuts, quote-pairs}
use Rattle.steps.proofs.Numbers.{form-number}
use Rattle.steps.proofs.Rules.{form-back}
use Rattle.runs.specs.Runs.{run, is_plain, is_inner, pairs}
use Rattle.runs.proofs.Runs.{run-le, run-first, pairs-le, pairs_first}
use Rattle.runs.proofs.Bytes.{plain-class, plain-narrow, plain-no-lf, inner-inside, inner-narrow, inner-no-lf}
use Rattle.places.specs.Counters.{plus, moved, along}
use Rattle.places.proofs.Counting.{plus-plus, along-along, moved-along}
use Rattle.state.specs.declared.Check.{Check}
use Rattle.state.specs.Check.{entered, placed, noted, stepped, fed, fed_all, jumped}

-- feeding two pieces is feeding their join, wherever the cut falls
pub fed-join : (c : Check) (f g : Bytes) → fed_all c (f ++ g) ≡ fed_all (fed_all c f) g
unfolding fed_all
fed-join c [] g = refl
fed-join c (b ∷ f) g = fed-join (fed c b) f g

pub noted-none : (b : ℕ) (c : Check) → is_wide b ≡ false → noted b c ≡ c.used
unfolding noted
noted-none b c e = rw e

-- nothing is left behind the end
pub fed-end : (c : Check) (f : Bytes) (i : ℕ) → length f ≤ i → fed_all c (drop i f) ≡ c
unfolding fed_all
fed-end c f i h = rw (drop_of_length-le f h)

-- what a byte of a class does in a form
pub fed-is :
    (c : Check) (b : ℕ) (k : Form) (x : Class) → c.refusal ≡ 0 → c.form ≡ form_number k → class_of (dialect c.delimiter c.leniencies) b ≡ x
    → fed c b ≡ placed (moved b c.here) (stepped (coded (step_of (names c.leniencies lf) k x)) (noted b c) (moved b c.here) c)
unfolding fed
fed-is c b k x r f e = rw (eq-eqb _ _ r, e, f, form-back)

-- a byte of plain text outside quotes
text-step :
    (c : Check) (b : ℕ) (k : Form) → c.refusal ≡ 0 → c.form ≡ form_number k → leb (form_number k) (form_number bare) ≡ true
    → is_plain (dialect c.delimiter c.leniencies) b ≡ true → fed c b ≡ jumped (form_number bare) (moved b c.here) 1 c
unfolding stepped jumped
text-step c b k r f l e =
    let d = dialect c.delimiter c.leniencies in
    rw (fed-is c b k text r f (plain-class d b e), text-puts (names c.leniencies lf) k l, noted-none b c (plain-narrow d b e))

-- a byte of content between quotes, whichever leniency allows it
inside-step :
    (c : Check) (b : ℕ) → c.refusal ≡ 0 → c.form ≡ form_number quoted → quoted_class (class_of (dialect c.delimiter c.leniencies) b) ≡ true → is_wide b ≡ false
    → fed c b ≡ jumped (form_number quoted) (moved b c.here) 1 c
unfolding stepped jumped
inside-step c b r f i n =
    let x = class_of (dialect c.delimiter c.leniencies) b in
    rw (fed-is c b quoted x r f refl, inside-puts (names c.leniencies lf) x i, noted-none b c n)

inner-step : (c : Check) (b : ℕ) → c.refusal ≡ 0 → c.form ≡ form_number quoted → is_inner b ≡ true → fed c b ≡ jumped (form_number quoted) (moved b c.here) 1 c
inner-step c b r f e = inside-step c b r f (inner-inside (dialect c.delimiter c.leniencies) b e) (inner-narrow b e)

pub lf-step : (c : Check) → c.refusal ≡ 0 → c.form ≡ form_number quoted → fed c 0x0A ≡ jumped (form_number quoted) (moved 0x0A c.here) 1 c
lf-step c r f = inside-step c 0x0A r f (LF-inside (dialect c.delimiter c.leniencies)) refl

-- two jumps are one
pub jump-jump : (j k : ℕ) (p q : Place) (m n : ℕ) (c : Check) → jumped k p m (jumped j q n c) ≡ jumped k p (n + m) c
unfolding jumped entered placed
jump-jump j k p q m n c =
    let a = plus c.field.content c.field.held in
    let z : n + 0 ≡ n = omega arith in
    let e : plus (plus (plus a n) 0) m ≡ plus a (n + m) = ap (λ (x : ℕ). plus x m) (plus-plus a n 0) ∙ plus-plus a (n + 0) m ∙ ap (λ (x : ℕ). plus a (x + m)) z in
    rw e

-- a quote that may be the first of a pair, and the second behind it
pub shut-step : (c : Check) → c.refusal ≡ 0 → c.form ≡ form_number quoted → (c.delimiter ≡ 0x22 → ⊥) → fed c 0x22 ≡ placed (along 1 c.here) (entered (form_number shut) c.anchor c.used c.field c)
unfolding stepped
shut-step c r f d =
    rw (fed-is c 0x22 quoted quote r f (quote-beside (dialect c.delimiter c.leniencies) d), quote-shuts (names c.leniencies lf), noted-none 0x22 c refl, moved-along 0x22 c.here refl)

second-step : (c : Check) → c.refusal ≡ 0 → c.form ≡ form_number shut → (c.delimiter ≡ 0x22 → ⊥) → fed c 0x22 ≡ jumped (form_number quoted) (along 1 c.here) 1 c
unfolding stepped jumped
second-step c r f d =
    rw (fed-is c 0x22 shut quote r f (quote-beside (dialect c.delimiter c.leniencies) d), quote-pairs (names c.leniencies lf), noted-none 0x22 c refl, moved-along 0x22 c.here refl)

pair_step : (c : Check) → c.refusal ≡ 0 → c.form ≡ form_number quoted → (c.delimiter ≡ 0x22 → ⊥) → fed (fed c 0x22) 0x22 ≡ jumped (form_number quoted) (along 2 c.here) 1 c
unfolding jumped entered placed
pair_step c r f d =
    let e = placed (along 1 c.here) (entered (form_number shut) c.anchor c.used c.field c) in
    let p : plus (plus c.here.column.0 1) 1 ≡ plus c.here.column.0 2 = omega arith in
    let q : plus (plus c.here.byte.0 1) 1 ≡ plus c.here.byte.0 2 = omega arith in
    rw (shut-step c r f d, second-step e r refl d, p, q)

-- a run of bytes of which each is one jump is one jump
module _
    (j : ℕ) (P : ℕ → Bool) (Ok : Check → Type 0)
    (step : (c : Check) → Ok c → (b : ℕ) → P b ≡ true → fed c b ≡ jumped j (along 1 c.here) 1 c)
    (keep : (c : Check) (p : Place) (m : ℕ) → Ok c → Ok (jumped j p m c))
  where
    here-is : (p : Place) (m : ℕ) (c : Check) → (jumped j p m c).here ≡ p
    unfolding jumped placed
    here-is p m c = refl

    abbrev Leaps : Bytes → Type 0
    Leaps g = (k : ℕ) (c : Check) → Ok c → suc k ≤ run P g → fed_all c g ≡ fed_all (jumped j (along (suc k) c.here) (suc k) c) (drop (suc k) g)

    module _ (b : ℕ) (f : Bytes) (ih : Leaps f) (c : Check) (i : Ok c) where
      more : (k : ℕ) → P b ≡ true → k ≤ run P f → fed_all (fed c b) f ≡ fed_all (jumped j (along (suc k) c.here) (suc k) c) (drop k f)
      more zero e l = ap (λ (c : Check). fed_all c f) (step c i b e)
      more (suc n) e l =
          let c' = jumped j (along 1 c.here) 1 c in
          let z : 1 + suc n ≡ suc (suc n) = omega arith in
          ap (λ (c : Check). fed_all c f) (step c i b e)
          ∙ ih n c' (keep c (along 1 c.here) 1 i) l
          ∙ ap (λ (p : Place). fed_all (jumped j (along (suc n) p) (suc n) c') (drop (suc n) f)) (here-is (along 1 c.here) 1 c)
          ∙ ap (λ (c : Check). fed_all c (drop (suc n) f)) (jump-jump j j (along (suc n) (along 1 c.here)) (along 1 c.here) (suc n) 1 c)
          ∙ ap (λ (p : Place). fed_all (jumped j p (1 + suc n) c) (drop (suc n) f)) (along-along 1 (suc n) c.here)
          ∙ ap (λ (x : ℕ). fed_all (jumped j (along x c.here) x c) (drop (suc n) f)) z

    leap : (g : Bytes) → Leaps g
    unfolding fed_all
    leap [] k c i h = absurd (omega (arith, run-le P []))
    leap (b ∷ f) k c i h = let q = run-first P b k f h in more b f (leap f) c i k q.0 q.1

-- text outside quotes
record Outside (x sum : ℕ) (c : Check) : Type 0 where
  refusal : c.refusal ≡ 0
  form : c.form ≤ form_number bare
  delimiter : c.delimiter ≡ x
  leniencies : c.leniencies ≡ sum

module _ (x sum : ℕ) where
  outside-step :
      (c : Check) → Outside x sum c → (b : ℕ) → is_plain (dialect x sum) b ≡ true → fed c b ≡ jumped (form_number bare) (along 1 c.here) 1 c
  outside-step c o b e =
      let e' : is_plain (dialect c.delimiter c.leniencies) b ≡ true = rw (o.delimiter, o.leniencies) e in
      let l = o.form in
      let f = form-number c.form (omega arith) in
      text-step c b (form_of c.form) o.refusal (sym f) (le-leb (form_number (form_of c.form)) 2 (omega (arith, f))) e'
      ∙ ap (λ (p : Place). jumped (form_number bare) p 1 c) (moved-along b c.here (plain-no-lf (dialect x sum) b e))

  outside-keep : (c : Check) (p : Place) (m : ℕ) → Outside x sum c → Outside x sum (jumped (form_number bare) p m c)
  unfolding jumped placed entered
  outside-keep c p m o = record { refusal = o.refusal; form = omega arith; delimiter = o.delimiter; leniencies = o.leniencies }

pub one-text :
    (c : Check) (b : ℕ) → c.refusal ≡ 0 → c.form ≤ form_number bare → is_plain (dialect c.delimiter c.leniencies) b ≡ true → fed c b ≡ jumped (form_number bare) (along 1 c.here) 1 c
one-text c b r f e = outside-step c.delimiter c.leniencies c (record { refusal = r; form = f; delimiter = refl; leniencies = refl }) b e

-- between quotes
record Between (c : Check) : Type 0 where
  refusal : c.refusal ≡ 0
  form : c.form ≡ form_number quoted

between_step : (c : Check) → Between c → (b : ℕ) → is_inner b ≡ true → fed c b ≡ jumped (form_number quoted) (along 1 c.here) 1 c
between_step c o b e = inner-step c b o.refusal o.form e ∙ ap (λ (p : Place). jumped (form_number quoted) p 1 c) (moved-along b c.here (inner-no-lf b e))

pub one-inner : (c : Check) (b : ℕ) → c.refusal ≡ 0 → c.form ≡ form_number quoted → is_inner b ≡ true → fed c b ≡ jumped (form_number quoted) (along 1 c.here) 1 c
one-inner c b r f e = between_step c (record { refusal = r; form = f }) b e

between-keep : (c : Check) (p : Place) (m : ℕ) → Between c → Between (jumped (form_number quoted) p m c)
unfolding jumped placed entered
between-keep c p m o = record { refusal = o.refusal; form = refl }

-- a quote that may close the field, and the second of a pair, whatever number stands for it
pub one-shut :
    (c : Check) (b : ℕ) → c.refusal ≡ 0 → c.form ≡ form_number quoted → b ≡ 0x22 → (c.delimiter ≡ 0x22 → ⊥)
    → fed c b ≡ placed (along 1 c.here) (entered (form_number shut) c.anchor c.used c.field c)
one-shut c b r f e d = rw e (shut-step c r f d)

pub one-second : (c : Check) (b : ℕ) → c.refusal ≡ 0 → c.form ≡ form_number shut → b ≡ 0x22 → (c.delimiter ≡ 0x22 → ⊥) → fed c b ≡ jumped (form_number quoted) (along 1 c.here) 1 c
one-second c b r f e d = rw e (second-step c r f d)

-- behind a refusal a byte only moves the place
pub refused-step : (c : Check) (b : ℕ) → (c.refusal ≡ 0 → ⊥) → fed c b ≡ placed (moved b c.here) c
unfolding fed
refused-step c b r = rw (ne_eqb _ _ r)

-- the same from a place in a piece
module _ (s : Bytes) (i k : ℕ) (c : Check) (some : 0 < k) where
  pub text-leap :
      c.refusal ≡ 0 → c.form ≤ form_number bare → k ≤ run (is_plain (dialect c.delimiter c.leniencies)) (drop i s)
      → fed_all (jumped (form_number bare) (along k c.here) k c) (drop (i + k) s) ≡ fed_all c (drop i s)
  text-leap r f h = go k some h
    where
      go :
          (k : ℕ) → 0 < k → k ≤ run (is_plain (dialect c.delimiter c.leniencies)) (drop i s)
          → fed_all (jumped (form_number bare) (along k c.here) k c) (drop (i + k) s) ≡ fed_all c (drop i s)
      go zero l h = absurd (omega arith)
      go (suc k) l h =
          rw (← drop-drop (suc k) i s)
          (sym
          (leap 2 (is_plain (dialect c.delimiter c.leniencies)) (Outside c.delimiter c.leniencies)
          (outside-step c.delimiter c.leniencies) (outside-keep c.delimiter c.leniencies) (drop i s) k c
          (record { refusal = r; form = f; delimiter = refl; leniencies = refl }) h))

  pub inner-leap :
      c.refusal ≡ 0 → c.form ≡ form_number quoted → k ≤ run is_inner (drop i s)
      → fed_all (jumped (form_number quoted) (along k c.here) k c) (drop (i + k) s) ≡ fed_all c (drop i s)
  inner-leap r f h = go k some h
    where
      go : (k : ℕ) → 0 < k → k ≤ run is_inner (drop i s) → fed_all (jumped (form_number quoted) (along k c.here) k c) (drop (i + k) s) ≡ fed_all c (drop i s)
      go zero l h = absurd (omega arith)
      go (suc k) l h =
          rw (← drop-drop (suc k) i s) (sym (leap 3 is_inner Between between_step between-keep (drop i s) k c (record { refusal = r; form = f }) h))

-- pairs of quotes
record Paired (x : ℕ) (c : Check) : Type 0 where
  refusal : c.refusal ≡ 0
  form : c.form ≡ form_number quoted
  delimiter : c.delimiter ≡ x

paired-keep : (x : ℕ) (c : Check) (p : Place) (m : ℕ) → Paired x c → Paired x (jumped (form_number quoted) p m c)
unfolding jumped placed entered
paired-keep x c p m o = record { refusal = o.refusal; form = refl; delimiter = o.delimiter }

jumped-here : (k : ℕ) (p : Place) (m : ℕ) (c : Check) → (jumped k p m c).here ≡ p
unfolding jumped placed
jumped-here k p m c = refl

module _ (x : ℕ) (other : x ≡ 0x22 → ⊥) where
  abbrev LeapsPairs : Bytes → Type 0
  LeapsPairs g = (k : ℕ) (c : Check) → Paired x c → suc k ≤ pairs g → fed_all c g ≡ fed_all (jumped (form_number quoted) (along (suc k + suc k) c.here) (suc k) c) (drop (suc k + suc k) g)

  module _ (f : Bytes) (ih : LeapsPairs f) (c : Check) (o : Paired x c) where
    first-pair : fed (fed c 0x22) 0x22 ≡ jumped (form_number quoted) (along 2 c.here) 1 c
    first-pair = pair_step c o.refusal o.form (λ e. other (sym o.delimiter ∙ e))

    more-pairs : (k : ℕ) → k ≤ pairs f → fed_all (fed (fed c 0x22) 0x22) f ≡ fed_all (jumped (form_number quoted) (along (suc k + suc k) c.here) (suc k) c) (drop (k + k) f)
    more-pairs zero l =
        ap (λ (c : Check). fed_all c f) first-pair
    more-pairs (suc n) l =
        let c' = jumped (form_number quoted) (along 2 c.here) 1 c in
        let z : 1 + suc n ≡ suc (suc n) = omega arith in
        let y : 2 + (suc n + suc n) ≡ suc (suc n) + suc (suc n) = omega arith in
        ap (λ (c : Check). fed_all c f) first-pair
        ∙ ih n c' (paired-keep x c (along 2 c.here) 1 o) l
        ∙ ap (λ (p : Place). fed_all (jumped (form_number quoted) (along (suc n + suc n) p) (suc n) c') (drop (suc n + suc n) f)) (jumped-here (form_number quoted) (along 2 c.here) 1 c)
        ∙ ap (λ (c : Check). fed_all c (drop (suc n + suc n) f)) (jump-jump 3 3 (along (suc n + suc n) (along 2 c.here)) (along 2 c.here) (suc n) 1 c)
        ∙ ap (λ (p : Place). fed_all (jumped (form_number quoted) p (1 + suc n) c) (drop (suc n + suc n) f)) (along-along 2 (suc n + suc n) c.here)
        ∙ ap (λ (m : ℕ). fed_all (jumped (form_number quoted) (along m c.here) (1 + suc n) c) (drop (suc n + suc n) f)) y
        ∙ ap (λ (m : ℕ). fed_all (jumped (form_number quoted) (along (suc (suc n) + suc (suc n)) c.here) m c) (drop (suc n + suc n) f)) z

  module _ (a b : ℕ) (f : Bytes) (ih : LeapsPairs f) (k : ℕ) (c : Check) (o : Paired x c) where
    two : suc k + suc k ≡ suc (suc (k + k))
    two = omega arith

    one-pair : (a ≡ 0x22) × (b ≡ 0x22) × (k ≤ pairs f) → fed_all (fed (fed c a) b) f ≡ fed_all (jumped (form_number quoted) (along (suc k + suc k) c.here) (suc k) c) (drop (suc k + suc k) (a ∷ (b ∷ f)))
    one-pair q =
        rw (q.0, q.1)
        (more-pairs f ih c o k q.2
        ∙ ap (λ (n : ℕ). fed_all (jumped (form_number quoted) (along (suc k + suc k) c.here) (suc k) c) (drop n (0x22 ∷ (0x22 ∷ f)))) (sym two))

  leap-pairs : (g : Bytes) → LeapsPairs g
  unfolding fed_all
  leap-pairs [] k c o h = absurd (omega (arith, pairs-le []))
  leap-pairs (a ∷ []) k c o h = absurd (omega (arith, pairs-le (a ∷ [])))
  leap-pairs (a ∷ (b ∷ f)) k c o h = one-pair a b f (leap-pairs f) k c o (pairs_first a b k f h)

pub pairs-leap :
    (s : Bytes) (i k : ℕ) (c : Check) → 0 < k → c.refusal ≡ 0 → c.form ≡ form_number quoted → (c.delimiter ≡ 0x22 → ⊥) → k ≤ pairs (drop i s)
    → fed_all (jumped (form_number quoted) (along (k + k) c.here) k c) (drop (i + (k + k)) s) ≡ fed_all c (drop i s)
pairs-leap s i zero c l r f d h = absurd (omega arith)
pairs-leap s i (suc k) c l r f d h =
    rw (← drop-drop (suc k + suc k) i s) (sym (leap-pairs c.delimiter d (drop i s) k c (record { refusal = r; form = f; delimiter = refl }) h))
