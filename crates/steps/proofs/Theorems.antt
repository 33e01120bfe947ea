-- The theorems of the machine. What they say, they say in the words of `format`: the model on the left is the step table run over a file, and nothing in
-- it is believed. Over any two dialect bytes and any file; b is the delimiter byte.
use Prim.Native.Nat.{ℕ, ◌≤◌}
use native.Mathlib.Omega.{arith}
use mathlib.Core.Path.{◌≡◌, refl}
use mathlib.Core.Logic.{◌⊎◌, inl, inr, ◌↔◌}
use Rattle.format.specs.declared.Place.{Place}
use Rattle.format.specs.Table.{Bytes, Table}
use Rattle.format.specs.Dialect.{Dialect, dialect, strict}
use Rattle.format.specs.WrittenForms.{plain}
use Rattle.format.specs.Refusal.{Refusal}
use Rattle.format.specs.Reading.{Reading, Accepted, Refused}
use Rattle.format.proofs.Demand3.{same-plain-same-table}
use Rattle.format.proofs.Dialects.{NoLarger}
use Rattle.format.proofs.Leniencies.{report-0-strict, strict-lenient}
use Rattle.steps.specs.Model.{Verdict, accepts, refuses, model}
use Rattle.steps.proofs.Verdicts.{reading-verdict, refusal-read, accepted-model, refused-model, Holds, model-holds}

-- The model accepts with a table and a report exactly when the file is accepted with them; it refuses with a number and a place exactly when the file
-- is refused with them.
pub accepted-is : (b sum : ℕ) (f : Bytes) (t : Table) (r : ℕ) → Accepted b sum f t r ↔ (model b sum f ≡ accepts t r)
accepted-is b sum f t r = (accepted-model b sum, λ e. rw e at (model-holds b sum f))

pub refused-is : (b sum : ℕ) (f : Bytes) (n : ℕ) (p : Place) → Refused b sum f n p ↔ (model b sum f ≡ refuses n p)
refused-is b sum f n p = (refused-model b sum, λ e. rw e at (model-holds b sum f))

-- Each file has one reading, table and report, in every dialect, the file limit set aside.
pub one_reading : (d : Dialect) (f : Bytes) (t u : Table) (r s : ℕ) → Reading d f t r → Reading d f u s → (t ≡ u) × (r ≡ s)
one_reading d f t u r s p q = (cc (reading-verdict d p, reading-verdict d q), cc (reading-verdict d p, reading-verdict d q))

-- Each file is accepted or refused, and never both; the refusal is one, its number, where it is found and the place that it names.
pub accepted-or-refused :
    (b sum : ℕ) (f : Bytes) → ((t : Table) × (r : ℕ) × Accepted b sum f t r) ⊎ ((n : ℕ) × (p : Place) × Refused b sum f n p)
accepted-or-refused b sum f = go (model b sum f) (model-holds b sum f)
  where
    go : (a : Verdict) → Holds b sum f a → ((t : Table) × (r : ℕ) × Accepted b sum f t r) ⊎ ((n : ℕ) × (p : Place) × Refused b sum f n p)
    go (accepts t r) h = inl (t, r, h)
    go (refuses n p) h = inr (n, p, h)

pub never_both : {b sum : ℕ} {f : Bytes} {t : Table} {r n : ℕ} {p : Place} → Accepted b sum f t r → Refused b sum f n p → ⊥
never_both {b} {sum} x y = let z : ◌≡◌ {A = ℕ} 0 1 = cc (accepted-model b sum x, refused-model b sum y) in omega arith

pub one-accepted :
    {b sum : ℕ} {f : Bytes} {t u : Table} {r s : ℕ} → Accepted b sum f t r → Accepted b sum f u s → (t ≡ u) × (r ≡ s)
one-accepted {b} {sum} x y = (cc (accepted-model b sum x, accepted-model b sum y), cc (accepted-model b sum x, accepted-model b sum y))

pub one-refused : {b sum : ℕ} {f : Bytes} {n m : ℕ} {p q : Place} → Refused b sum f n p → Refused b sum f m q → (n ≡ m) × (p ≡ q)
one-refused {b} {sum} x y = (cc (refused-model b sum x, refused-model b sum y), cc (refused-model b sum x, refused-model b sum y))

pub one-refusal :
    {d : Dialect} {n m : ℕ} {f found named found' named' : Bytes}
    → Refusal d n f found named → Refusal d m f found' named' → (n ≡ m) × (found ≡ found') × (named ≡ named')
one-refusal {d} x y = (cc (refusal-read d x, refusal-read d y), cc (refusal-read d x, refusal-read d y), cc (refusal-read d x, refusal-read d y))

-- Demand 3's last sentence: two strict files have the same plain form exactly when they hold the same table.
pub same_plain :
    {f g : Bytes} {t u : Table} {r s : ℕ} → Reading strict f t r → Reading strict g u s → (plain strict t ≡ plain strict u) ↔ (t ≡ u)
same_plain = same-plain-same-table (λ f t u r s p q. (one_reading strict f t u r s p q).0)

-- Office and auditor: what a comma dialect accepts with report 0, strict accepts with the same table;
pub office-auditor : {sum : ℕ} {f : Bytes} {t : Table} → Accepted 0x2C sum f t 0 → Accepted 0x2C 0 f t 0
office-auditor {sum} a =
    record { valid = (tt, omega arith); short = a.short; reading = report-0-strict (dialect 0x2C sum) refl a.reading }

-- and what strict accepts, every comma dialect accepts, reporting 0 or 2, with the same table where it reports 0, and with one that needs no more room.
pub auditor-office :
    {f : Bytes} {t : Table} {r : ℕ} (sum : ℕ) → sum ≤ 15 → Accepted 0x2C 0 f t r
    → (u : Table) × (n : ℕ) × Accepted 0x2C sum f u n × ((n ≡ 0) ⊎ (n ≡ 2)) × (n ≡ 0 → u ≡ t) × NoLarger u t
auditor-office {f} {t} sum h a =
    let (u, n, x, y, z) = strict-lenient (dialect 0x2C sum) refl a.reading in
    let same : n ≡ 0 → u ≡ t = λ e. (one_reading strict f u t 0 _ (report-0-strict (dialect 0x2C sum) refl (rw e at x)) a.reading).0 in
    (u, n, record { valid = (tt, h); short = a.short; reading = x }, y, same, z)
