-- From what the searches and the two passes find to the outcome of a write.
use Prim.Native.Nat.{ℕ, ◌≤◌, ◌<◌}
use native.Mathlib.Omega.{arith}
use mathlib.Core.Path.{◌≡◌, refl, ap, ◌∙◌}
use mathlib.Core.Bool.{Bool, true, false}
use mathlib.Core.Logic.{inl, inr, ◌↔◌}
use mathlib.Core.List.{List, flatten}
use lib.Dec.{leb}
use lib.ListN.{length, get_or}
use borrow.Author.Tests.{leb-true, leb-false}
use Rattle.std.specs.Prelude.{Option, Some, None as Nothing}
use Rattle.format.specs.Table.{Bytes, Content, Table, None}
use Rattle.format.specs.Dialect.{strict}
use Rattle.format.specs.Filling.{over}
use Rattle.format.specs.House.{content_limit, file_limit, width_of}
use Rattle.format.specs.Memory.{WellFormed, table_of}
use Rattle.format.specs.WrittenForms.{table_by, CanHold}
use Rattle.format.proofs.First.{first-inside}
use Rattle.format.proofs.Holding.{holds}
use Rattle.format.proofs.Memory.{table-length, memory-back, memory-fields, fields-length, field-lengths, record-lengths, rising-never-falls, width-at}
use Rattle.tables.specs.Seek.{Sought, Strays, paired}
use Rattle.tables.proofs.Distances.{Outside, sought-gaps}
use Rattle.tables.proofs.Seeking.{sought-lengths}
use Rattle.writer.specs.declared.Mode.{Mode, TheVariants.Plain, TheVariants.Full}
use Rattle.writer.specs.Form.{mode_number, form_in}
use Rattle.writer.specs.Write.{file_in, Forbidden, TooLong, Differs, refused, accepted, FileOutcome, TableOutcome, WriteOutcome}
use Rattle.writer.proofs.Fields.{plain-form, full-form}

too_long : (c : Content) → Outside 0 content_limit (length c) ↔ TooLong c
too_long c = (there, inr)
  where
    there : Outside 0 content_limit (length c) → TooLong c
    there (inl h) = absurd (omega arith)
    there (inr h) = h

other_width : (w : ℕ) (cs : List Content) → Outside w w (length cs) ↔ (length cs ≡ w → ⊥)
other_width w cs = (there, back)
  where
    there : Outside w w (length cs) → length cs ≡ w → ⊥
    there (inl h) e = omega arith
    there (inr h) e = omega arith

    back : (length cs ≡ w → ⊥) → Outside w w (length cs)
    back n = go (leb (length cs) w) refl
      where
        go : (x : Bool) → leb (length cs) w ≡ x → Outside w w (length cs)
        go true e = let h = leb-true (length cs) w e in inl (omega (arith, h))
        go false e = inr (leb-false (length cs) w e)

module _ {text : Bytes} {ends rows : List ℕ} (w : WellFormed text ends rows) where
  -- what the search over the ends finds, and the one over the rows
  pub contents : (r : Option ℕ) → Sought (Strays 0 content_limit) (paired 0 ends) r → Sought TooLong (flatten (table_of text ends rows)) r
  contents r s =
      sought-lengths (Outside 0 content_limit) TooLong too_long (flatten (table_of text ends rows)) r
      (rw (field-lengths w) (sought-gaps 0 content_limit 0 ends r w.ends_never_fall s))

  pub records :
      (r : Option ℕ) → Sought (Strays (get_or rows 0 0) (get_or rows 0 0)) (paired 0 rows) r → Sought (Differs (table_of text ends rows)) (table_of text ends rows) r
  records r s =
      let t = table_of text ends rows in
      sought-lengths (Outside (width_of t) (width_of t)) (Differs t) (other_width (width_of t)) t r
      (rw (width-at w, record-lengths w) (sought-gaps (get_or rows 0 0) (get_or rows 0 0) 0 rows r (rising-never-falls 0 rows w.rows_rise) s))

  pub field-inside : {k : ℕ} → Sought (Strays 0 content_limit) (paired 0 ends) (Some k) → k < length ends
  field-inside {k} s = omega (arith, first-inside (contents (Some k) s), fields-length w)

  pub record-inside : {k : ℕ} → Sought (Strays (get_or rows 0 0) (get_or rows 0 0)) (paired 0 rows) (Some k) → k < length rows
  record-inside {k} s = omega (arith, first-inside (records (Some k) s), table-length text ends rows)

  pub holdable :
      None Forbidden text → Sought (Strays 0 content_limit) (paired 0 ends) Nothing
      → Sought (Strays (get_or rows 0 0) (get_or rows 0 0)) (paired 0 rows) Nothing → CanHold strict (table_of text ends rows)
  holdable bytes fields rows' =
      holds strict (table_of text ends rows) (memory-fields w) (rw (memory-back w).0 bytes) (contents Nothing fields) (records Nothing rows')

-- the file of a mode is the table by the form of its fields
file-by : (m : Mode) (t : Table) → table_by (form_in m) strict t ≡ file_in (mode_number m) t
file-by Plain t = rw plain-form
file-by Full t = rw full-form

mode-known : (m : Mode) → mode_number m ≤ 1
mode-known Plain = omega arith
mode-known Full = omega arith

-- a byte that names a mode, and a table that is well formed
known : (m : Mode) {mode : ℕ} → mode ≡ mode_number m → mode ≤ 1
known m k = rw k (mode-known m)

module _ (m : Mode) {text : Bytes} {ends rows : List ℕ} {mode : ℕ} (k : mode ≡ mode_number m) where
  pub by-14 : {out : Bytes} → (WellFormed text ends rows → ⊥) → WriteOutcome text ends rows mode out (refused 14 0) out
  by-14 n = WriteOutcome.refusal_14 (known m k) n

  module _ (w : WellFormed text ends rows) where
    pub by_judge :
        {a : List ℕ} {out : Bytes} → ((file out : Bytes) → TableOutcome text (table_of text ends rows) file out a out) → WriteOutcome text ends rows mode out a out
    by_judge {out = out} f = WriteOutcome.well_formed (known m k) w (f (file_in mode (table_of text ends rows)) out)

    -- one that strict can hold, with the length of its file
    module _ (h : CanHold strict (table_of text ends rows)) {n : ℕ} (e : n ≡ length (table_by (form_in m) strict (table_of text ends rows))) where
      file_is : table_by (form_in m) strict (table_of text ends rows) ≡ file_in mode (table_of text ends rows)
      file_is = rw k (file-by m (table_of text ends rows))

      size_is : n ≡ length (file_in mode (table_of text ends rows))
      size_is = e ∙ ap length file_is

      pub by_2 : {out : Bytes} → file_limit < n → WriteOutcome text ends rows mode out (refused 2 0) out
      by_2 l = WriteOutcome.well_formed (known m k) w (TableOutcome.holdable h (FileOutcome.refusal_2 (rw (← size_is) l)))

      pub by-15 : {out : Bytes} → n ≤ file_limit → length out < n → WriteOutcome text ends rows mode out (refused 15 0) out
      by-15 l r = WriteOutcome.well_formed (known m k) w (TableOutcome.holdable h (FileOutcome.refusal_15 (rw (← size_is) l) (rw (← size_is) r)))

      pub by_whole :
          {out out' : Bytes} → n ≤ file_limit → n ≤ length out → out' ≡ over (table_by (form_in m) strict (table_of text ends rows)) out
          → WriteOutcome text ends rows mode out (accepted n) out'
      by_whole l r q =
          rw (q, file_is, size_is)
          (WriteOutcome.well_formed (known m k) w (TableOutcome.holdable h (FileOutcome.whole (rw (← size_is) l) (rw (← size_is) r))))
