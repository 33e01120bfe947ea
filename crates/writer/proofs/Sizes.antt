-- How long a file is: its text with each quote doubled, two quotes about each field that is quoted, a byte behind each field and one more behind each record.
use Prim.Native.Nat.{ℕ, ◌+◌, ◌*◌, ◌≤◌}
use native.Mathlib.Omega.{arith}
use mathlib.Core.Path.{◌≡◌, refl, sym, ap}
use mathlib.Core.Bool.{Bool, true, false, cond}
use mathlib.Core.List.{List, [], ◌∷◌, flatten}
use lib.Dec.{eqb}
use lib.ListN.{length, length-append}
use Rattle.std.specs.Prelude.{count_by, sum_by}
use Rattle.std.proofs.lemmas.List.Sums.{sum_by-cons, sum_by-append}
use Rattle.format.specs.Table.{Bytes, Content, Table, Every}
use Rattle.format.specs.Dialect.{Dialect, strict}
use Rattle.format.specs.Memory.{text_of, WellFormed, table_of}
use Rattle.format.specs.WrittenForms.{needs_quotes, doubled, record_by, table_by}
use Rattle.format.proofs.Forms.{either-false}
use Rattle.format.proofs.Length.{ordinary-doubled}
use Rattle.format.proofs.Memory.{memory-back, memory-fields, fields-length, table-length}
use Rattle.writer.specs.declared.Mode.{Mode, TheVariants.Plain, TheVariants.Full}
use Rattle.writer.specs.Form.{quotes, form_in}
use Rattle.writer.proofs.Fields.{size-quoted, size-bare}

abbrev pub is_quote : ℕ → Bool
is_quote b = eqb b 0x22

-- each quote inside is one byte more
doubled-count : (c : Content) → length (doubled c) ≡ length c + count_by is_quote c
unfolding doubled
doubled-count [] = refl
doubled-count (b ∷ c) = omega (arith, go (is_quote b), sum_by-cons (λ a. cond (is_quote a) 1 0) b c, doubled-count c)
  where
    go : (x : Bool) → length (cond x (0x22 ∷ 0x22 ∷ doubled c) (b ∷ doubled c)) ≡ length (doubled c) + 1 + cond x 1 0
    go true = omega arith
    go false = omega arith

-- where no field needs quotes, none is doubled
none-doubled : (m : Mode) (c : Content) → quotes m c ≡ false → count_by is_quote c ≡ 0
unfolding quotes needs_quotes
none-doubled Plain c e =
    omega (arith, doubled-count c, ap length (ordinary-doubled strict c (either-false _ _ e).0))
none-doubled Full c e = cc

form-length : (m : Mode) (c : Content) → length (form_in m c) ≡ length c + count_by is_quote c + 2 * cond (quotes m c) 1 0
form-length m c = go (quotes m c) refl
  where
    go : (q : Bool) → q ≡ quotes m c → length (form_in m c) ≡ length c + count_by is_quote c + 2 * cond q 1 0
    go true e = omega (arith, size-quoted m c e refl, doubled-count c)
    go false e = omega (arith, size-bare m c e refl, none-doubled m c (sym e))

module _ (m : Mode) where
  contents-length :
      (cs : List Content)
      → sum_by (λ c. length (form_in m c)) cs ≡ length (flatten cs) + count_by is_quote (flatten cs) + 2 * count_by (quotes m) cs
  unfolding flatten
  contents-length [] = refl
  contents-length (c ∷ cs) =
      omega (
        arith,
        contents-length cs,
        form-length m c,
        sum_by-cons (λ e. length (form_in m e)) c cs,
        sum_by-cons (λ e. cond (quotes m e) 1 0) c cs,
        length-append c (flatten cs),
        sum_by-append (λ a. cond (is_quote a) 1 0) c (flatten cs),
      )

module _ (form : Content → Bytes) (d : Dialect) where
  record-length : (c : Content) (cs : List Content) → length (record_by form d (c ∷ cs)) + 1 ≡ sum_by (λ e. length (form e)) (c ∷ cs) + length (c ∷ cs)
  unfolding record_by
  record-length c [] = omega arith
  record-length c (e ∷ cs) =
      omega
      (arith, record-length e cs, sum_by-cons (λ e. length (form e)) c (e ∷ cs), length-append (form c) (d.delimiter_byte ∷ record_by form d (e ∷ cs)))

  lines-length :
      (t : Table) → Every (λ cs. 1 ≤ length cs) t
      → length (table_by form d t) ≡ sum_by (λ c. length (form c)) (flatten t) + length (flatten t) + length t
  unfolding table_by flatten
  lines-length [] h = refl
  lines-length ([] ∷ t) h = absurd (omega (arith, h.0))
  lines-length ((c ∷ cs) ∷ t) h =
      omega (
        arith,
        record-length c cs,
        lines-length t h.1,
        sum_by-append (λ e. length (form e)) (c ∷ cs) (flatten t),
        length-append (c ∷ cs) (flatten t),
        length-append (record_by form d (c ∷ cs)) (0x0D ∷ 0x0A ∷ table_by form d t),
      )

pub file-length :
    (m : Mode) (t : Table) → Every (λ cs. 1 ≤ length cs) t
    → length (table_by (form_in m) strict t)
    ≡ length (text_of t) + count_by is_quote (text_of t) + 2 * count_by (quotes m) (flatten t) + length (flatten t) + length t
file-length m t h = omega (arith, lines-length (form_in m) strict t h, contents-length m (flatten t))

-- the same, of the slices that a table is held by
pub size_is :
    {text : Bytes} {ends rows : List ℕ} (m : Mode) {doubled' quoted' : ℕ} → WellFormed text ends rows
    → doubled' ≡ count_by is_quote text → quoted' ≡ count_by (quotes m) (flatten (table_of text ends rows))
    → length text + doubled' + 2 * quoted' + length ends + length rows ≡ length (table_by (form_in m) strict (table_of text ends rows))
size_is {text} {ends} {rows} m w e q =
    let t = table_of text ends rows in
    let same : text_of t ≡ text = (memory-back w).0 in
    omega
    (arith, e, q, rw same at (file-length m t (memory-fields w)), fields-length w, table-length text ends rows)
