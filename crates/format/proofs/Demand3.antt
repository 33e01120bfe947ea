-- Demand 3, for strict: the file size limit set aside, the content limit kept.
use Prim.Native.Nat.{ℕ, ◌+◌, ◌*◌, ◌<◌, ◌≤◌}
use native.Mathlib.Omega.{arith}
use mathlib.Core.Path.{◌≡◌, refl}
use mathlib.Core.Logic.{◌↔◌}
use mathlib.Core.List.{[], ◌∷◌}
use lib.ListN.{length}
use Rattle.format.specs.Table.{Bytes, Table}
use Rattle.format.specs.Dialect.{strict}
use Rattle.format.specs.House.{EmptyFile, EndsInBreak}
use Rattle.format.specs.WrittenForms.{plain_form, plain, CanHold}
use Rattle.format.specs.Count.{sum_in_file, needless, missing, Tally, tally}
use Rattle.format.specs.Reading.{Reading}
use Rattle.format.proofs.Ended.{missing-ended}
use Rattle.format.proofs.Forms.{lines-read, plain-form-reads, plain-reads}
use Rattle.format.proofs.CanHold.{OneTable, same_plain}
use Rattle.format.proofs.Leniencies.{strict-report, none-in-file, no-alones}
use Rattle.format.proofs.Tally.{length-law, tally-ended, tally-le, one_tally, plain-shortest-ended}

-- f is, among the strict files that end in a line break and read as t, shorter than all others
pub record ShortestEnded (t : Table) (f : Bytes) : Type 0 where
  pub reads : Reading strict f t 0
  pub ended : EndsInBreak f
  pub others : (g : Bytes) {r : ℕ} → Reading strict g t r → EndsInBreak g → (g ≡ f → ⊥) → length f < length g

-- a strict file of a table: n of its fields are quoted without need, and m of its last line breaks are missing
abbrev pub StrictTally : Bytes → Table → ℕ → ℕ → Type 0
StrictTally f t n m = Tally strict f t n 0 0 m

-- every strict file of one or more records has such a tally, and no other
pub strict-tally : {f : Bytes} {t : Table} {r : ℕ} → 1 ≤ length t → Reading strict f t r → (n : ℕ) × (m : ℕ) × StrictTally f t n m
strict-tally h (Reading.nothing EmptyFile.empty) = absurd (omega arith)
strict-tally h (Reading.something {e} p k a q) =
    (sum_in_file needless p, missing e, rw (none-in-file refl p, no-alones refl p) at (tally p k))

pub one-strict-tally : {f : Bytes} {t : Table} {n m n' m' : ℕ} → StrictTally f t n m → StrictTally f t n' m' → (n ≡ n') × (m ≡ m')
one-strict-tally x y = let u = one_tally strict tt x y in (u.0, u.3)

-- m is 0 if the file ends in a line break, and else 1
pub strict-ended : {f : Bytes} {t : Table} {n m : ℕ} → StrictTally f t n m → (m ≤ 1) × ((m ≡ 0) ↔ EndsInBreak f)
strict-ended x = (tally-le strict tt x, tally-ended strict tt x)

-- any strict file of a table has the plain form's length, plus two for each field quoted without need, minus two if its last line break is missing
pub strict-length : {f : Bytes} {t : Table} {n m : ℕ} → StrictTally f t n m → length f + 2 * m ≡ length (plain strict t) + 2 * n
strict-length x = omega (arith, length-law strict tt x)

plain-ended : (t : Table) → 1 ≤ length t → CanHold strict t → EndsInBreak (plain strict t)
plain-ended [] n h = absurd (omega arith)
plain-ended (cs ∷ t) n h =
    let p = lines-read strict tt (plain_form strict) (plain-form-reads strict tt) cs t h.some_field h.none_forbidden in
    (missing-ended strict tt tt p.0).0 refl

-- of any table of one or more records that strict can hold, the plain form is the one shortest strict file that ends in a line break
pub plain-is-shortest-ended : (t : Table) → 1 ≤ length t → CanHold strict t → ShortestEnded t (plain strict t)
plain-is-shortest-ended t n h =
    let p = plain-reads strict tt t h in
    record {
      reads = rw (strict-report p) at p;
      ended = plain-ended t n h;
      others = λ g q e other. plain-shortest-ended strict tt (strict-tally n q).2 refl e other;
    }

-- two strict files have the same plain form exactly when they hold the same table, where each file has one table
pub same-plain-same-table :
    OneTable strict → {f g : Bytes} {t u : Table} {r s : ℕ} → Reading strict f t r → Reading strict g u s → (plain strict t ≡ plain strict u) ↔ (t ≡ u)
same-plain-same-table = same_plain strict tt
