-- What a byte does to any state: its dialect bytes stay, its place moves, and a refusal stays.
use Prim.Native.Nat.{ℕ, ◌+◌, ◌≤◌, min}
use native.Mathlib.Omega.{arith}
use mathlib.Core.Path.{◌≡◌, refl, sym, ◌∙◌}
use mathlib.Core.Bool.{false, ◌||◌}
use mathlib.Core.List.{[], ◌∷◌}
use lib.Dec.{eqb, leb}
use lib.ListN.{length}
use borrow.Author.Tests.{eqb-false}
use Rattle.format.specs.declared.Place.{Place}
use Rattle.format.specs.Table.{Bytes}
use Rattle.format.specs.Dialect.{ragged, names}
use Rattle.format.specs.House.{content_limit}
use Rattle.format.proofs.Classes.{decide}
use Rattle.steps.specs.declared.Stepped.{Stepped, TheVariants.Refuse, TheVariants.Quiet, TheVariants.Put, TheVariants.Hold, TheVariants.Drop, TheVariants.EndField, TheVariants.EndRecord}
use Rattle.places.specs.Counters.{counter_limit, plus, moved}
use Rattle.places.proofs.Counting.{moved-byte}
use Rattle.state.specs.declared.Used.{Used}
use Rattle.state.specs.declared.Current.{Current}
use Rattle.state.specs.declared.Counts.{Counts}
use Rattle.state.specs.declared.Check.{Check}
use Rattle.state.specs.Check.{started, stopped, entered, opened, placed, field_ended, evenly, record_ended, stepped, fed, fed_all}
use Rattle.state.proofs.Jumps.{refused-step}

-- a piece, one byte after the other
pub fed-none : (c : Check) → fed_all c [] ≡ c
unfolding fed_all
fed-none c = refl

pub fed-cons : (c : Check) (b : ℕ) (g : Bytes) → fed_all c (b ∷ g) ≡ fed_all (fed c b) g
unfolding fed_all
fed-cons c b g = refl

-- a refusal stays
pub record Refuses (n : ℕ) (p : Place) (c : Check) : Type 0 where
  pub refusal : c.refusal ≡ n
  pub anchor : c.anchor ≡ p

pub stopped-refuses : (n : ℕ) (p : Place) (c : Check) → Refuses n p (stopped n p c)
unfolding stopped
stopped-refuses n p c = record { refusal = refl; anchor = refl }

pub placed-refuses : (n : ℕ) (p q : Place) (c : Check) → Refuses n p c → Refuses n p (placed q c)
unfolding placed
placed-refuses n p q c r = record { refusal = r.refusal; anchor = r.anchor }

pub fed-refuses : (g : Bytes) (n : ℕ) (p : Place) (c : Check) → eqb n 0 ≡ false → Refuses n p c → Refuses n p (fed_all c g)
fed-refuses [] n p c e r = rw (fed-none c) r
fed-refuses (b ∷ g) n p c e r =
    rw (fed-cons c b g, refused-step c b (λ q. eqb-false n 0 e (sym r.refusal ∙ q))) (fed-refuses g n p (placed (moved b c.here) c) e (placed-refuses n p (moved b c.here) c r))

-- the dialect bytes stay
pub record Keeps (c e : Check) : Type 0 where
  pub delimiter : e.delimiter ≡ c.delimiter
  pub leniencies : e.leniencies ≡ c.leniencies

stopped-keeps : (n : ℕ) (p : Place) (c : Check) → Keeps c (stopped n p c)
unfolding stopped
stopped-keeps n p c = record { delimiter = refl; leniencies = refl }

entered-keeps : (k : ℕ) (p : Place) (v : Used) (x : Current) (c : Check) → Keeps c (entered k p v x c)
unfolding entered
entered-keeps k p v x c = record { delimiter = refl; leniencies = refl }

opened-keeps : (u : ℕ) (v : Used) (x : Current) (s : Counts) (c : Check) → Keeps c (opened u v x s c)
unfolding opened
opened-keeps u v x s c = record { delimiter = refl; leniencies = refl }

stepped-keeps : (a : Stepped) (v : Used) (p : Place) (c : Check) → Keeps c (stepped a v p c)
unfolding stepped field_ended record_ended
stepped-keeps (Refuse n) v p c = stopped-keeps n _ c
stepped-keeps (Quiet k) v p c = entered-keeps k _ v _ c
stepped-keeps (Put k) v p c = entered-keeps k _ v _ c
stepped-keeps (Hold k) v p c = entered-keeps k _ v _ c
stepped-keeps (Drop k) v p c = entered-keeps k _ _ _ c
stepped-keeps EndField v p c = decide (Keeps c) (leb c.field.content content_limit) (λ e. opened-keeps 1 _ _ _ c) (λ e. stopped-keeps 9 _ c)
stepped-keeps EndRecord v p c =
    decide (Keeps c) (leb c.field.content content_limit)
    (λ e. decide (Keeps c) (names c.leniencies ragged || evenly c) (λ e. opened-keeps 0 _ _ _ c) (λ e. stopped-keeps 10 _ c))
    (λ e. stopped-keeps 9 _ c)

placed-keeps : (p : Place) (c e : Check) → Keeps c e → Keeps c (placed p e)
unfolding placed
placed-keeps p c e s = record { delimiter = s.delimiter; leniencies = s.leniencies }

pub fed-keeps : (c : Check) (b : ℕ) → Keeps c (fed c b)
unfolding fed
fed-keeps c b =
    placed-keeps (moved b c.here) c _
    (decide (Keeps c) (eqb c.refusal 0) (λ e. stepped-keeps _ _ _ c) (λ e. record { delimiter = refl; leniencies = refl }))

pub fed-all-keeps : (g : Bytes) (c : Check) → Keeps c (fed_all c g)
unfolding fed_all
fed-all-keeps [] c = record { delimiter = refl; leniencies = refl }
fed-all-keeps (b ∷ g) c =
    let p = fed-keeps c b in
    let q = fed-all-keeps g (fed c b) in
    record { delimiter = q.delimiter ∙ p.delimiter; leniencies = q.leniencies ∙ p.leniencies }

pub start-bytes : (b sum : ℕ) → ((started b sum).delimiter ≡ b) × ((started b sum).leniencies ≡ sum)
unfolding started
start-bytes b sum = (refl, refl)

-- the bytes are counted, up to the limit and one
pub fed-byte : (c : Check) (b : ℕ) → (fed c b).here.byte.0 ≡ plus c.here.byte.0 1
unfolding fed placed
fed-byte c b = moved-byte b c.here

pub fed-bytes : (g : Bytes) (c : Check) → c.here.byte.0 ≤ counter_limit → (fed_all c g).here.byte.0 ≡ min (c.here.byte.0 + length g) counter_limit
unfolding fed_all
fed-bytes [] c h = omega arith
fed-bytes (b ∷ g) c h = let e = fed-byte c b in fed-bytes g (fed c b) (omega arith) ∙ omega arith

pub started-byte : (b sum : ℕ) (f : Bytes) → (fed_all (started b sum) f).here.byte.0 ≡ min (0 + length f) counter_limit
unfolding started
started-byte b sum f = fed-bytes f (started b sum) (omega arith)
