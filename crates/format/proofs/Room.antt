-- How much room a file can ask for: its contents come from its bytes, and each field and each record but one has a byte of its own. And how
-- much a written table can.
use Prim.Native.Nat.{ℕ, ◌+◌, ◌*◌, ◌≤◌}
use native.Mathlib.Omega.{arith}
use mathlib.Core.List.{List, [], ◌∷◌, flatten}
use lib.ListN.{length, length-append}
use Rattle.format.specs.Table.{Bytes, Content, Table, Every, Ending, without_break}
use Rattle.format.specs.Dialect.{Dialect}
use Rattle.format.specs.Grammar.{Blanks, Bare, Inside, opened, closed, Field, Record, Break, File}
use Rattle.format.specs.House.{LastBreak, EmptyFile}
use Rattle.format.specs.Memory.{text_of}
use Rattle.format.specs.WrittenForms.{record_by, table_by}
use Rattle.format.specs.Reading.{Reading}
use Rattle.format.proofs.CanHold.{record-clean}
use Rattle.format.proofs.Memory.{sizes-more}

-- a last record without its line break has a byte
last-room : (f : Bytes) → LastBreak (without_break f) → 1 ≤ length f
last-room [] l = absurd l
last-room (b ∷ f) l = omega arith

module _ {d : Dialect} where
  -- a piece, its content and the rest behind it
  blanks-room : {f g : Bytes} → Blanks d f g → length g ≤ length f
  blanks-room Blanks.none = omega arith
  blanks-room (Blanks.more k x) = omega (arith, blanks-room x)

  bare-room : {f g : Bytes} {c : Content} → Bare d f c g → length c + length g ≤ length f
  bare-room Bare.none = omega arith
  bare-room (Bare.text_byte k r) = omega (arith, bare-room r)
  bare-room (Bare.blank_byte k r) = omega (arith, bare-room r)

  inside-room : {f g : Bytes} {c : Content} → Inside d f c g → length c + length g ≤ length f
  inside-room Inside.none = omega arith
  inside-room (Inside.byte n k r) = omega (arith, inside-room r)
  inside-room (Inside.pair j k r) = omega (arith, inside-room r)

  field_room : {f g : Bytes} {c : Content} → Field d f c g → length c + length g ≤ length f
  field_room (Field.bare x k n y) = omega (arith, blanks-room x, bare-room k, blanks-room y)
  field_room (Field.quoted x (closed (opened j k) l) y) = omega (arith, blanks-room x, inside-room k, blanks-room y)

  -- every field but the last has a delimiter of its own
  record-room : {f g : Bytes} {cs : List Content} → Record d f cs g → length (flatten cs) + length cs + length g ≤ length f + 1
  unfolding flatten
  record-room (Record.one {c} p) = omega (arith, field_room p, length-append c [])
  record-room (Record.more {c} {cs} p k r) = omega (arith, field_room p, record-room r, length-append c (flatten cs))

  break-room : {f g : Bytes} → Break d f g → length g + 1 ≤ length f
  break-room (Break.crlf j k) = omega arith
  break-room (Break.lf_alone j k) = omega arith

  -- so text and fields together are at most one more than the file
  file_room : {f : Bytes} {t : Table} {e : Ending} → File d f t e → length (text_of t) + length (flatten t) ≤ length f + 1
  unfolding flatten
  file_room (File.one {cs} r) = omega (arith, record-room r, sizes-more cs [])
  file_room (File.ended {cs} r k) = omega (arith, record-room r, sizes-more cs [], break-room k)
  file_room (File.more {cs} {t} r k p) = omega (arith, record-room r, sizes-more cs t, break-room k, file_room p)

  file-some : {f : Bytes} {t : Table} {e : Ending} → File d f t e → 1 ≤ length (flatten t)
  unfolding flatten
  file-some (File.one {cs} r) = omega (arith, (record-clean r).0, length-append cs [])
  file-some (File.ended {cs} r k) = omega (arith, (record-clean r).0, length-append cs [])
  file-some (File.more {cs} {t} r k p) = omega (arith, (record-clean r).0, length-append cs (flatten t))

  -- every record but a last one without it has a line break of its own
  rows_room : {f : Bytes} {t : Table} {e : Ending} → File d f t e → LastBreak e → length t ≤ length f
  rows_room (File.one {f} r) l = last-room f l
  rows_room (File.ended r k) l = omega (arith, record-room r, (record-clean r).0, break-room k)
  rows_room (File.more r k p) l = omega (arith, record-room r, (record-clean r).0, break-room k, rows_room p l)

-- Text of the file's length, ends of one more and rows of the file's length are always enough.
pub record RoomEnough (f : Bytes) (t : Table) : Type 0 where
  pub text : length (text_of t) ≤ length f
  pub ends : length (flatten t) ≤ length f + 1
  pub rows : length t ≤ length f

pub room-enough : {d : Dialect} {f : Bytes} {t : Table} {r : ℕ} → Reading d f t r → RoomEnough f t
unfolding flatten
room-enough (Reading.nothing EmptyFile.empty) = record { text = omega arith; ends = omega arith; rows = omega arith }
room-enough (Reading.something p l a q) =
    record { text = omega (arith, file_room p, file-some p); ends = omega (arith, file_room p); rows = rows_room p l }

-- A written table has at most two bytes for each of its text, three for each field (its quotes, and what parts it from the next) and one more for each
-- record, whose line break has two.
module _ (form : Content → Bytes) (d : Dialect) (bound : (c : Content) → length (form c) ≤ 2 * length c + 2) where
  record-written : (c : Content) (cs : List Content) → length (record_by form d (c ∷ cs)) + 1 ≤ 2 * length (flatten (c ∷ cs)) + 3 * length (c ∷ cs)
  unfolding record_by flatten
  record-written c [] = omega (arith, bound c, length-append c [])
  record-written c (e ∷ cs) =
      omega (arith, bound c, record-written e cs, length-append c (flatten (e ∷ cs)), length-append (form c) (d.delimiter_byte ∷ record_by form d (e ∷ cs)))

  pub written-room : (t : Table) → Every (λ cs. 1 ≤ length cs) t → length (table_by form d t) ≤ 2 * length (text_of t) + 3 * length (flatten t) + length t
  unfolding table_by
  written-room [] h = omega arith
  written-room ([] ∷ t) h = absurd (omega (arith, h.0))
  written-room ((c ∷ cs) ∷ t) h =
      let (text, fields) = sizes-more (c ∷ cs) t in
      omega (arith, record-written c cs, written-room t h.1, text, fields, length-append (record_by form d (c ∷ cs)) (0x0D ∷ 0x0A ∷ table_by form d t))
