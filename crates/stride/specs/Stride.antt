-- What a stride of the second walk asks and promises.
use Rattle.std.specs.Prelude.{ℕ, ◌+◌, ◌-◌, ◌≤◌, ◌<◌, ◌≡◌, Bool, true, false, cond, [], ◌∷◌, ◌++◌, Option, IfSome, length, get_or, drop}
use Rattle.format.specs.Table.{Bytes}
use Rattle.format.specs.Dialect.{Dialect}
use Rattle.steps.specs.Steps.{start}
use Rattle.steps.specs.Numbers.{form_number}
use Rattle.runs.specs.Runs.{run, is_plain, is_break}
use Rattle.format.specs.Memory.{largest32}
use Rattle.fill.specs.declared.Head.{Head}
use Rattle.fill.specs.declared.Field.{Field}
use Rattle.fill.specs.Buffers.{Lists}
use Rattle.fill.specs.Put.{behind}
use Rattle.fill.specs.Walk.{text_ahead, ends_ahead, rows_ahead}
use Rattle.stride.specs.declared.Ending.{Ending, TheVariants.Delimiter, TheVariants.Break}

-- room for all that is ahead, as numbers of 32 bits; and 64 bits can number the blanks held, whatever bytes are ahead
pub record Ample (w : Bool) (d : Dialect) (f : Bytes) (p : Head) (b : Lists) : Type 0 where
  pub text_room : p.text + length (text_ahead d f p) ≤ length b.text
  pub ends_room : p.ends + length (ends_ahead w d f p) ≤ length b.ends
  pub rows_room : p.rows + length (rows_ahead w d f p) ≤ length b.rows
  pub text_small : p.text + length (text_ahead d f p) ≤ largest32
  pub ends_small : p.ends + length (ends_ahead w d f p) ≤ largest32
  pub held : p.held + length f ≤ p.at + 18446744073709551615

-- the field in work ends, whether or not the file ends with f: behind its last c bytes of content its end is n, and the next field begins at a place
pub record Ends (d : Dialect) (f : Bytes) (p : Head) (c : Bytes) (next : ℕ) (row : Bool) (n : ℕ) : Type 0 where
  pub further : p.at < next
  pub inside : next ≤ length f
  pub text_is : text_ahead d f p ≡ c ++ text_ahead d f (behind p next row n)
  pub ends_are : (w : Bool) → ends_ahead w d f p ≡ n ∷ ends_ahead w d f (behind p next row n)
  pub rows_are : (w : Bool) → rows_ahead w d f p ≡ cond row ((p.ends + 1) ∷ []) [] ++ rows_ahead w d f (behind p next row n)

-- at the start of a field that is plain text up to q, where a byte stands
pub record Plain (d : Dialect) (f : Bytes) (p : Head) (q : ℕ) : Type 0 where
  pub form : p.form ≡ form_number start
  pub held : p.held ≡ 0
  pub no_lf : d.delimiter_byte ≡ 0x0A → ⊥
  pub from : p.at ≤ q
  pub inside : q < length f
  pub so_far : q - p.at ≤ run (is_plain d) (drop p.at f)

-- how long what ends a field is, and whether it ends the record too
abbrev pub length_of : Ending → ℕ
length_of Delimiter = 1
length_of Break = 2

abbrev pub is_record_end : Ending → Bool
is_record_end Delimiter = false
is_record_end Break = true

-- a field ends at a place: by a delimiter, or by a line break of which no byte is the delimiter
pub data EndAt (f : Bytes) (b at : ℕ) : Ending → Type 0 where
  delimits : at < length f → get_or f at 0 ≡ b → EndAt f b at Delimiter
  breaks : is_break (drop at f) ≡ true → (get_or f at 0 ≡ b → ⊥) → EndAt f b at Break

-- what is found at a mark is the field in work, if that is plain text up to the mark
pub record Found (d : Dialect) (f : Bytes) (p : Head) (q : ℕ) (r : Option Field) : Type 0 where
  pub further : Plain d f p q → IfSome r (λ x. q < x.next)
  pub ends : Plain d f p q → IfSome r (λ x. Ends d f p x.content.now x.next x.row (p.text + length x.content.now))
