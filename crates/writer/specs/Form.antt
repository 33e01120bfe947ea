-- The modes, and the form of a field in either: quoted, or its content as it is.
use Rattle.std.specs.Prelude.{ℕ, ◌≤◌, ◌<◌, ◌≡◌, length, take, Bool, true, false, cond, List, [], ◌∷◌, ◌++◌, Result, Ok, Err}
use Rattle.format.specs.declared.WriteError.{WriteError, TheVariants.UnknownMode}
use Rattle.format.specs.Table.{Bytes, Content}
use Rattle.format.specs.Dialect.{Dialect, strict}
use Rattle.format.specs.Filling.{over}
use Rattle.format.specs.WrittenForms.{needs_quotes, quoted_form, record_by}
use Rattle.writer.specs.declared.Mode.{Mode, TheVariants.Plain, TheVariants.Full}

-- the number of a mode; a byte names the mode that has it, or is refused
abbrev pub mode_number : Mode → ℕ
mode_number Plain = 0
mode_number Full = 1

abbrev pub Names : ℕ → Result Mode WriteError → Type 0
Names mode (Ok m) = mode ≡ mode_number m
Names mode (Err e) = (1 < mode) × (e ≡ UnknownMode)

-- full quotes every field, plain one that needs it
unfoldable pub quotes : Mode → Content → Bool
quotes Plain c = needs_quotes strict c
quotes Full c = true

unfoldable pub form_in : Mode → Content → Bytes
form_in m c = cond (quotes m c) (quoted_form c) c

-- a record with its line break
abbrev pub line_by : (Content → Bytes) → Dialect → List Content → Bytes
line_by form d cs = record_by form d cs ++ (0x0D ∷ 0x0A ∷ [])

-- A content is written over the front of a buffer as it is, up to some place: all of it, where it is not quoted. Where it is, what is written then is longer.
pub data Begun (m : Mode) (c : Content) (out : Bytes) : Bool → Bytes → Type 0 where
  bare : {out' : Bytes} → quotes m c ≡ false → out' ≡ over c out → Begun m c out true out'
  quoted : {n : ℕ} {out' : Bytes} → quotes m c ≡ true → n ≤ length c → out' ≡ over (take n c) out → Begun m c out false out'
