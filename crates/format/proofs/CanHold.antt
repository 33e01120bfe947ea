-- What a dialect reads, it can hold; and, where each file has one reading, tables are equal exactly if their plain forms are.
use Prim.Native.Nat.{ℕ, ◌≤◌}
use native.Mathlib.Omega.{arith}
use mathlib.Core.Path.{◌≡◌, ap}
use mathlib.Core.Bool.{or-true}
use mathlib.Core.Logic.{◌↔◌}
use mathlib.Core.List.{List, []}
use lib.Dec.{T}
use lib.ListN.{length}
use Rattle.format.specs.Table.{Bytes, Content, Table, Ending, Every}
use Rattle.format.specs.Dialect.{ragged, Dialect, delimits}
use Rattle.format.specs.Grammar.{Bare, Inside, opened, closed, Field, Record, File}
use Rattle.format.specs.House.{EmptyFile, EqualRows, Allowed}
use Rattle.format.specs.WrittenForms.{plain, CanHold}
use Rattle.format.specs.Reading.{Reading}
use Rattle.format.proofs.Forms.{Clean, plain-reads}

module _ {d : Dialect} where
  bare-clean : {f g : Bytes} {c : Content} → Bare d f c g → Clean d c
  bare-clean Bare.none = tt
  bare-clean (Bare.text_byte k r) = (λ e. let z : ◌≡◌ {A = ℕ} 0 1 = cc in omega arith, bare-clean r)
  bare-clean (Bare.blank_byte k r) = (λ e. let z : ◌≡◌ {A = ℕ} 0 1 = cc in omega arith, bare-clean r)

  inside-clean : {f g : Bytes} {c : Content} → Inside d f c g → Clean d c
  inside-clean Inside.none = tt
  inside-clean (Inside.byte n k r) = (k, inside-clean r)
  inside-clean (Inside.pair j k r) = (λ e. let z : ◌≡◌ {A = ℕ} 0 1 = cc in omega arith, inside-clean r)

  field-clean : {f g : Bytes} {c : Content} → Field d f c g → Clean d c
  field-clean (Field.bare x k n y) = bare-clean k
  field-clean (Field.quoted x (closed (opened j k) l) y) = inside-clean k

  pub record-clean : {f g : Bytes} {cs : List Content} → Record d f cs g → (1 ≤ length cs) × Every (Clean d) cs
  record-clean (Record.one p) = (omega arith, (field-clean p, tt))
  record-clean (Record.more p k r) = (omega arith, (field-clean p, (record-clean r).1))

  file-clean : {f : Bytes} {t : Table} {e : Ending} → File d f t e → Every (λ cs. 1 ≤ length cs) t × Every (Every (Clean d)) t
  file-clean (File.one r) = let (n, h) = record-clean r in ((n, tt), (h, tt))
  file-clean (File.ended r k) = let (n, h) = record-clean r in ((n, tt), (h, tt))
  file-clean (File.more r k p) =
      let (n, h) = record-clean r in
      let (m, i) = file-clean p in
      ((n, m), (h, i))

  empty-allowed : Allowed d []
  unfolding EqualRows
  empty-allowed = record { rows = rw (or-true (d.allows ragged)) tt; contents = tt }

  pub reading-can-hold : {f : Bytes} {t : Table} {r : ℕ} → Reading d f t r → CanHold d t
  reading-can-hold (Reading.nothing EmptyFile.empty) = record { some_field = tt; none_forbidden = tt; rules = empty-allowed }
  reading-can-hold (Reading.something p k h e) = let (n, b) = file-clean p in record { some_field = n; none_forbidden = b; rules = h }

-- each file has one table
abbrev pub OneTable : Dialect → Type 0
OneTable d = (f : Bytes) (t u : Table) (r s : ℕ) → Reading d f t r → Reading d f u s → t ≡ u

pub same_plain :
    (d : Dialect) → T (delimits d.delimiter_byte) → OneTable d → {f g : Bytes} {t u : Table} {r s : ℕ}
    → Reading d f t r → Reading d g u s → (plain d t ≡ plain d u) ↔ (t ≡ u)
same_plain d valid one {t} {u} p q = (there, λ e. ap (plain d) e)
  where
    there : plain d t ≡ plain d u → t ≡ u
    there e = one (plain d u) t u _ _ (rw e at (plain-reads d valid t (reading-can-hold p))) (plain-reads d valid u (reading-can-hold q))
