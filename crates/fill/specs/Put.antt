-- What is written at once: all of it where it fits, and else nothing.
use Rattle.std.specs.Prelude.{ℕ, ◌+◌, ◌≤◌, ◌<◌, ◌≡◌, Bool, true, cond, not, List, Option, OnSome, IfNone, length, set}
use Rattle.std.specs.Option.{SomeIff}
use Rattle.std.proofs.lemmas.List.Edits.{sets}
use Rattle.format.specs.Table.{Bytes}
use Rattle.format.specs.Memory.{largest32}
use Rattle.steps.specs.Steps.{start}
use Rattle.steps.specs.Numbers.{form_number}
use Rattle.fill.specs.declared.Head.{Head}
use Rattle.fill.specs.Buffers.{Lists}

-- a list over a buffer, from a place on, and where it ends there
pub record Puts {A : Type 0} (old : List A) (at : ℕ) (new : List A) (r : Option ℕ) (now : List A) : Type 0 where
  pub place : SomeIff r (at + length new ≤ length old) (at + length new)
  pub written : OnSome r (now ≡ sets old at new)
  pub unchanged : IfNone r (now ≡ old)

-- the end n of a field and, where it ends a record, the row fit, as numbers of 32 bits
pub record EndFits (p : Head) (row : Bool) (n : ℕ) (old : Lists) : Type 0 where
  pub end_room : p.ends < length old.ends
  pub row_room : row ≡ true → p.rows < length old.rows
  pub small : n ≤ largest32
  pub few : p.ends < largest32

-- the walk behind a field that ends at n: at the start of the next
abbrev pub behind : Head → ℕ → Bool → ℕ → Head
behind p next row n =
    record { at = next; form = form_number start; held = 0; text = n; ends = p.ends + 1; rows = p.rows + cond row 1 0; begun = not row }

-- the rows with that of the record that ends there
abbrev pub rows_with : Head → Bool → List ℕ → List ℕ
rows_with p row rows = cond row (set rows p.rows (p.ends + 1)) rows

-- the end n of a field, whose content is written, and its row
pub record PutsEnd (p : Head) (next : ℕ) (row : Bool) (n : ℕ) (old : Lists) (r : Option Head) (new : Lists) : Type 0 where
  pub head : SomeIff r (EndFits p row n old) (behind p next row n)
  pub written : OnSome r (new ≡ record old { ends = set old.ends p.ends n; rows = rows_with p row old.rows })
  pub unchanged : IfNone r (new ≡ old)

-- a field fits: its content and its end
pub record FieldFits (p : Head) (content : Bytes) (row : Bool) (old : Lists) : Type 0 where
  pub text_room : p.text + length content ≤ length old.text
  pub end_fits : EndFits p row (p.text + length content) old

-- a field: its content, its end and its row
pub record PutsField (p : Head) (content : Bytes) (next : ℕ) (row : Bool) (old : Lists) (r : Option Head) (new : Lists) : Type 0 where
  pub head : SomeIff r (FieldFits p content row old) (behind p next row (p.text + length content))
  pub written :
      OnSome r (new ≡ record { text = sets old.text p.text content; ends = set old.ends p.ends (p.text + length content); rows = rows_with p row old.rows })
  pub unchanged : IfNone r (new ≡ old)
