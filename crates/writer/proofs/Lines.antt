-- Records written field by field, each field with a comma behind it, and a table written record by record: what is still to come.
use Prim.Native.Nat.{ℕ, ◌+◌, ◌-◌, ◌≤◌, ◌<◌}
use native.Mathlib.Omega.{arith}
use mathlib.Core.Path.{◌≡◌, refl, ap, ◌∙◌}
use mathlib.Core.List.{List, [], ◌∷◌, ◌++◌, append_assoc}
use native.Mathlib.Nat.{zero-add}
use lib.ListN.{length, set, length-append}
use Rattle.std.proofs.lemmas.List.{set-set}
use lib.Seq.{sets}
use Rattle.format.specs.Table.{Bytes, Content, Table, Every}
use Rattle.format.specs.Dialect.{strict}
use Rattle.format.specs.Filling.{over, Filling}
use Rattle.format.specs.WrittenForms.{record_by, table_by}
use Rattle.format.proofs.Filling.{begin, move, push, pushes, room_for}
use Rattle.writer.specs.Form.{line_by}

-- each field with a comma behind it
unfoldable pub with_commas : (Content → Bytes) → List Content → Bytes
with_commas form [] = []
with_commas form (c ∷ cs) = form c ++ (0x2C ∷ with_commas form cs)

module _ (form : Content → Bytes) where
  -- a record that has a field is written so, and a comma behind it
  record-commas : (cs : List Content) → 1 ≤ length cs → with_commas form cs ≡ record_by form strict cs ++ (0x2C ∷ [])
  unfolding with_commas record_by
  record-commas [] h = absurd (omega arith)
  record-commas (c ∷ []) h = refl
  record-commas (c ∷ e ∷ cs) h = rw (record-commas (e ∷ cs) (omega arith), append_assoc)

-- fields are still to be written, each with its comma; the last ends at last
pub record Commas (form : Content → Bytes) (left : List Content) (out : Bytes) (at : ℕ) (all : Bytes) (last : ℕ) : Type 0 where
  pub ahead : Filling out at (with_commas form left) all
  pub reaches : at + length (with_commas form left) ≡ last

module _ (form : Content → Bytes) where
  module _ {left cs : List Content} {c : Content} {out : Bytes} {at : ℕ} {all : Bytes} {last : ℕ} (g : Commas form left out at all last) (e : left ≡ c ∷ cs) where
    next : with_commas form left ≡ form c ++ (0x2C ∷ with_commas form cs)
    unfolding with_commas
    next = rw e

    pub field_room : at + length (form c) < length out
    field_room = omega (arith, g.ahead.room, ap length next, length-append (form c) (0x2C ∷ with_commas form cs))

    pub field_on : {n : ℕ} {out' : Bytes} → n ≡ length (form c) → out' ≡ sets out at (form c) → Commas form cs (set out' (at + n) 0x2C) (at + n + 1) all last
    field_on p q =
        record {
          ahead = rw (q, p) (push all (pushes (form c) all (move next g.ahead)));
          reaches = omega (arith, g.reaches, p, ap length next, length-append (form c) (0x2C ∷ with_commas form cs));
        }

  module _ (cs : List Content) (out : Bytes) (some : 1 ≤ length cs) (h : length (line_by form strict cs) ≤ length out) where
    line-length : length (line_by form strict cs) ≡ length (record_by form strict cs) + 2
    line-length = length-append (record_by form strict cs) (0x0D ∷ 0x0A ∷ [])

    commas-length : length (with_commas form cs) ≡ length (record_by form strict cs) + 1
    commas-length = ap length (record-commas form cs some) ∙ length-append (record_by form strict cs) (0x2C ∷ [])

    commas-fit : length (with_commas form cs) ≤ length out
    commas-fit = omega (arith, h, line-length, commas-length)

    pub commas : Commas form cs out 0 (over (with_commas form cs) out) (length (record_by form strict cs) + 1)
    commas = record { ahead = begin (with_commas form cs) commas-fit; reaches = omega (arith, commas-length) }

    -- behind the last comma, whose place the line break takes
    pub broken :
        {out' : Bytes} {at : ℕ} → Commas form [] out' at (over (with_commas form cs) out) (length (record_by form strict cs) + 1)
        → (1 ≤ at) × (at + 1 ≡ length (line_by form strict cs)) × (set (set out' (at - 1) 0x0D) at 0x0A ≡ over (line_by form strict cs) out)
    unfolding with_commas
    broken {out'} {at} g =
        let r = record_by form strict cs in
        let behind : at ≡ length r + 1 = omega (arith, g.reaches) in
        let before : at - 1 ≡ length r = omega (arith, behind) in
        let comma : set (sets out 0 r) (length r) 0x2C ≡ over (with_commas form cs) out =
        rw zero-add at (push {rest = []} _ (pushes r _ (move (record-commas form cs some) (begin (with_commas form cs) commas-fit)))).fills in
        let line : set (set (sets out 0 r) (length r) 0x0D) (length r + 1) 0x0A ≡ over (line_by form strict cs) out =
        rw zero-add at (push {rest = []} _ (push _ (pushes r _ (begin (line_by form strict cs) h)))).fills in
        (omega arith, omega (arith, behind, line-length), rw (before, behind, g.ahead.fills, ← comma, set-set) line)

-- records are still to be written, each with a field
pub record Going (form : Content → Bytes) (left : Table) (out : Bytes) (at : ℕ) (all : Bytes) : Type 0 where
  pub ahead : Filling out at (table_by form strict left) all
  pub some_field : Every (λ cs. 1 ≤ length cs) left

module _ (form : Content → Bytes) where
  pub lines : (t : Table) (out : Bytes) → Every (λ cs. 1 ≤ length cs) t → length (table_by form strict t) ≤ length out → Going form t out 0 (over (table_by form strict t) out)
  lines t out some h = record { ahead = begin (table_by form strict t) h; some_field = some }

  module _ {left t : Table} {cs : List Content} {out : Bytes} {at : ℕ} {all : Bytes} (g : Going form left out at all) (e : left ≡ cs ∷ t) where
    next_line : table_by form strict left ≡ line_by form strict cs ++ table_by form strict t
    unfolding table_by
    next_line = rw (e, append_assoc)

    pub has_field : 1 ≤ length cs
    has_field = (rw e at g.some_field).0

    pub line-room : at + length (line_by form strict cs) ≤ length out
    line-room = room_for (line_by form strict cs) _ (move next_line g.ahead)

    pub line-on : {n : ℕ} {out' : Bytes} → n ≡ length (line_by form strict cs) → out' ≡ sets out at (line_by form strict cs) → Going form t out' (at + n) all
    line-on p q = record { ahead = rw (q, p) (pushes (line_by form strict cs) all (move next_line g.ahead)); some_field = (rw e at g.some_field).1 }

  pub all_lines : {left : Table} {out : Bytes} {at : ℕ} {all : Bytes} → Going form left out at all → left ≡ [] → out ≡ all
  unfolding table_by
  all_lines g e = (rw e at g.ahead).fills
