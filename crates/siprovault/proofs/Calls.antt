-- Any two outcomes of an export coincide: where its struct is its own, it is the one that has its numbers; and the promises are those of the functions called.
use Prim.Native.Nat.{ℕ}
use mathlib.Core.Path.{◌≡◌, ap}
use mathlib.Core.List.{List}
use Rattle.format.specs.Table.{Bytes}
use Rattle.tables.specs.Search.{Searched}
use Rattle.tables.specs.Shown.{Located}
use Rattle.tables.proofs.Searching.{one_found}
use Rattle.tables.proofs.Showing.{one_place}
use Rattle.writer.specs.Write.{WriteOutcome}
use Rattle.writer.proofs.Calls.{one-numbers}
use Rattle.face.specs.declared.SvWritten.{SvWritten}
use Rattle.face.specs.declared.SvColumn.{SvColumn}
use Rattle.face.specs.declared.SvPart.{SvPart}
use Rattle.face.specs.Face.{sv_written_numbers, sv_column_numbers, sv_part_numbers, written_from, column_from, part_from}

module _ {text : Bytes} {ends rows : List ℕ} where
  pub one-write :
      {mode : ℕ} {out x y : Bytes} {r s : SvWritten}
      → WriteOutcome text ends rows mode out (sv_written_numbers r) x → WriteOutcome text ends rows mode out (sv_written_numbers s) y → (r ≡ s) × (x ≡ y)
  one-write p q = let e = one-numbers p q in (ap written_from e.0, e.1)

  pub one-find :
      {name : Bytes} {r s : SvColumn} → Searched text ends rows name (sv_column_numbers r) → Searched text ends rows name (sv_column_numbers s) → r ≡ s
  one-find p q = ap column_from (one_found p q)

  pub one-show :
      {m n : ℕ} {r s : SvPart} → Located text ends rows m n (sv_part_numbers r) → Located text ends rows m n (sv_part_numbers s) → r ≡ s
  one-show p q = ap part_from (one_place p q)
