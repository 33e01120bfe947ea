-- Showing a field: the arithmetic of its place, and the laws that any two outcomes coincide.
use Prim.Native.Nat.{ℕ, ◌+◌, ◌-◌, ◌≤◌, ◌<◌, min}
use native.Mathlib.Omega.{arith}
use mathlib.Core.Path.{◌≡◌, refl, sym, ap, subst, ◌∙◌}
use mathlib.Core.Bool.{Bool, true, false}
use mathlib.Core.List.{List, [], ◌∷◌}
use lib.Dec.{ltb}
use borrow.Author.Tests.{ltb-true, ltb-false}
use lib.ListN.{length, get_or, take, drop}
use Rattle.std.specs.Prelude.{Option, Some, None}
use Rattle.std.specs.Bool.{then_some}
use Rattle.format.specs.declared.Part.{Part}
use Rattle.format.specs.Table.{Bytes}
use Rattle.format.specs.Memory.{WellFormed, table_of, start_of, part_of}
use Rattle.format.specs.Answer.{part_numbers}
use Rattle.format.proofs.Memory.{table-length, records-most, row_within, end-within, field_at, record-width, part-from, part_length}
use Rattle.format.proofs.Numbers.{one-part-numbers}
use Rattle.tables.specs.Formed.{Row}
use Rattle.tables.specs.Shown.{Has, Lacks, malformed, no_record, no_column, Shown, Numbered, numbered, Located, lies}

module _ {text : Bytes} {ends rows : List ℕ} {r c : ℕ} where
  -- a place is there or is not
  never_both : Has text ends rows r c → Lacks text ends rows r c → ⊥
  never_both h (malformed n) = n h.formed
  never_both h (no_record w l) = omega (arith, h.record_in)
  never_both h (no_column w l m) = omega (arith, h.column_in)

  module _ (w : WellFormed text ends rows) where
    pub lacks-record : length rows ≤ r → Numbered text ends rows r c None
    lacks-record h = Numbered.absent (no_record w (rw (table-length text ends rows) h))

    -- the number counted from the row's first field, if it is in the row
    pub counted : {first next : ℕ} → Row rows (length ends) r first next → Numbered text ends rows r c (then_some (ltb (first + c) next) (first + c))
    counted {first} {next} row = rw row.begins (go (ltb (start_of rows r + c) next) refl)
      where
        in-table : r < length (table_of text ends rows)
        in-table = rw (table-length text ends rows) row.exists

        go : (x : Bool) → ltb (start_of rows r + c) next ≡ x → Numbered text ends rows r c (then_some x (start_of rows r + c))
        go true e =
            numbered
            (record {
              formed = w;
              record_in = in-table;
              column_in = omega (arith, ltb-true (start_of rows r + c) next e, row.ends, record-width w r row.exists);
            })
        go false e =
            Numbered.absent
            (no_column w in-table (omega (arith, ltb-false (start_of rows r + c) next e, row.ends, record-width w r row.exists)))

  -- the field of a place that is there: its number is within the fields, and its content is that field's
  module _ (h : Has text ends rows r c) where
    row_in : r < length rows
    row_in = rw (table-length text ends rows) at h.record_in

    column-in-row : start_of rows r + c < get_or rows r 0
    column-in-row = omega (arith, record-width h.formed r row_in, h.column_in)

    pub number_in : start_of rows r + c < length ends
    number_in = omega (arith, column-in-row, (row_within h.formed r row_in).1)

    content-is : get_or (get_or (table_of text ends rows) r []) c [] ≡ part_of text ends (start_of rows r + c)
    content-is = field_at h.formed r c row_in column-in-row

    size_is : length (part_of text ends (start_of rows r + c)) ≡ get_or ends (start_of rows r + c) 0 - start_of ends (start_of rows r + c)
    size_is = part_length text ends (start_of rows r + c) (end-within h.formed (start_of rows r + c) number_in).1

    -- the part of text at the place where it lies is its content
    pub part-is :
        take (length (get_or (get_or (table_of text ends rows) r []) c [])) (drop (start_of ends (start_of rows r + c)) text)
        ≡ get_or (get_or (table_of text ends rows) r []) c []
    part-is = rw (content-is, size_is) (sym (part-from text ends (start_of rows r + c)))

  -- from the number of a field to where it lies, and to what is shown
  pub is-there : {k : ℕ} → Numbered text ends rows r c (Some k) → Has text ends rows r c × (k ≡ start_of rows r + c)
  is-there (numbered h) = (h, refl)

  pub is-absent : Numbered text ends rows r c None → Lacks text ends rows r c
  is-absent (Numbered.absent n) = n

  module _ {k : ℕ} (n : Numbered text ends rows r c (Some k)) where
    pub is-field : k < length ends
    is-field = let (h, q) = is-there n in rw q (number_in h)

    pub starts-below : start_of ends k ≤ get_or ends k 0
    starts-below = (end-within (is-there n).0.formed k is-field).0

    pub lies_at : {start : ℕ} → start ≡ start_of ends k → Located text ends rows r c (1 ∷ start ∷ (get_or ends k 0 - start) ∷ [])
    lies_at {start} e =
        let (h, q) = is-there n in
        let z : length (get_or (get_or (table_of text ends rows) r []) c []) ≡ get_or ends (start_of rows r + c) 0 - start_of ends (start_of rows r + c) =
        ap length (content-is h) ∙ size_is h in
        rw (e, q, ← z) (lies h)

  -- from where it lies to what is shown
  pub shows_part :
      {start n : ℕ} {stand-in : Bytes} → Located text ends rows r c (1 ∷ start ∷ n ∷ [])
      → (start + n ≤ length text) × Shown text ends rows r c stand-in (take (start + n - start) (drop start text))
  shows_part {start} {n} {stand-in} (lies h) = (
    omega (arith, ap length (content-is h), size_is h, (end-within h.formed (start_of rows r + c) (number_in h)).0, (end-within h.formed (start_of rows r + c) (number_in h)).1),
    let e : start + n - start ≡ n = omega arith in rw (e, part-is h) (Shown.field h),
  )

  pub shows_stand-in : {stand-in : Bytes} → Located text ends rows r c (0 ∷ 0 ∷ 0 ∷ []) → Shown text ends rows r c stand-in stand-in
  shows_stand-in (Located.absent l) = Shown.absent l

  -- any two outcomes coincide
  pub one-shown : {stand-in x y : Bytes} → Shown text ends rows r c stand-in x → Shown text ends rows r c stand-in y → x ≡ y
  one-shown (Shown.field h) (Shown.field i) = refl
  one-shown (Shown.field h) (Shown.absent l) = absurd (never_both h l)
  one-shown (Shown.absent l) (Shown.field h) = absurd (never_both h l)
  one-shown (Shown.absent l) (Shown.absent m) = refl

  pub one_place : {m n : List ℕ} → Located text ends rows r c m → Located text ends rows r c n → m ≡ n
  one_place (lies h) (lies i) = refl
  one_place (lies h) (Located.absent l) = absurd (never_both h l)
  one_place (Located.absent l) (lies h) = absurd (never_both h l)
  one_place (Located.absent l) (Located.absent m) = refl

  pub one-located : (x y : Option Part) → Located text ends rows r c (part_numbers x) → Located text ends rows r c (part_numbers y) → x ≡ y
  one-located x y p q = one-part-numbers x y (one_place p q)

-- where no row is above b, no record and no column has a number of b or more: greater numbers may be taken for b
module _ {text : Bytes} {ends rows : List ℕ} (b : ℕ) (most : (i : ℕ) → get_or rows i 0 ≤ b) where
  same-record : (r : ℕ) → WellFormed text ends rows → min r b < length (table_of text ends rows) → min r b ≡ r
  same-record r w h = omega (arith, h, records-most w b most, table-length text ends rows)

  same-column : (r c : ℕ) → Has text ends rows (min r b) (min c b) → min c b ≡ c
  same-column r c h = omega (arith, h.column_in, record-width h.formed (min r b) (row_in h), most (min r b))

  lacks-clamped : {r c : ℕ} → Lacks text ends rows (min r b) (min c b) → Lacks text ends rows r c
  lacks-clamped (malformed n) = malformed n
  lacks-clamped (no_record w l) = no_record w (omega (arith, l))
  lacks-clamped {r} {c} (no_column w l m) = subst (λ (x : ℕ). Lacks text ends rows x c) (same-record r w l) (no_column w l (omega (arith, m)))

  pub located-clamped : {r c : ℕ} {l : List ℕ} → Located text ends rows (min r b) (min c b) l → Located text ends rows r c l
  located-clamped {r} {c} (lies h) =
      let d = same-record r h.formed h.record_in in
      let e = same-column r c h in
      rw (d, e) (lies (rw (d, e) at h))
  located-clamped (Located.absent n) = Located.absent (lacks-clamped n)
