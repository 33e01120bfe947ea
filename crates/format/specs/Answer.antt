-- The rules' numbers for each answer, in the rules' order.
use Rattle.std.specs.Prelude.{ℕ, length, Option, Some, None, Result, Ok, Err}
use mathlib.Core.List.{List, [], ◌∷◌, flatten}
use Rattle.format.specs.declared.Place.{Place}
use Rattle.format.specs.declared.Totals.{Totals}
use Rattle.format.specs.declared.ReadError.{ReadError}
use Rattle.format.specs.declared.Answer.{Answer}
use Rattle.format.specs.declared.Indexed.{Indexed}
use Rattle.format.specs.declared.Jumped.{Jumped}
use Rattle.format.specs.declared.FieldNumber.{FieldNumber}
use Rattle.format.specs.declared.WriteError.{WriteError, TheVariants.UnknownMode, TheVariants.Malformed, TheVariants.Forbidden, TheVariants.LongContent, TheVariants.Uneven, TheVariants.LongFile, TheVariants.NoRoom}
use Rattle.format.specs.declared.SearchError.{SearchError, TheVariants.Malformed as Unfit, TheVariants.Twice, TheVariants.Missing}
use Rattle.format.specs.declared.Part.{Part}
use Rattle.format.specs.Table.{Table}
use Rattle.format.specs.Memory.{text_of}
use Rattle.format.specs.Place.{nowhere}

-- what a table comes to, with its report
abbrev pub totals_of : Table → ℕ → Totals
totals_of t r = record { records = length t; fields = record { 0 = length (flatten t) }; text = length (text_of t); report = r }

-- The answer to a file has: refusal, line, column, byte, records, fields, text length, report. Accepted, the first four are 0.
abbrev pub accepted_with : Totals → Answer
accepted_with s = record { refusal = 0; place = nowhere; totals = s }

abbrev pub accepted_as : Table → ℕ → Answer
accepted_as t r = accepted_with (totals_of t r)

-- on any refusal the last four are 0
abbrev pub refused_by : ℕ → Place → Answer
refused_by n p = record { refusal = n; place = p; totals = record { records = 0; fields = record { 0 = 0 }; text = 0; report = 0 } }

-- what is read of a file, or why it is not, as such an answer
abbrev pub answer_from : Result Totals ReadError → Answer
answer_from (Ok s) = accepted_with s
answer_from (Err r) = refused_by r.number r.place

-- refusal, line, column, byte, written length; byte is the index of the text byte, the field or the record
abbrev pub writer_numbers : Result ℕ WriteError → List ℕ
writer_numbers (Ok n) = 0 ∷ 0 ∷ 0 ∷ 0 ∷ n ∷ []
writer_numbers (Err UnknownMode) = 1 ∷ 0 ∷ 0 ∷ 0 ∷ 0 ∷ []
writer_numbers (Err Malformed) = 14 ∷ 0 ∷ 0 ∷ 0 ∷ 0 ∷ []
writer_numbers (Err (Forbidden b)) = 3 ∷ 0 ∷ 0 ∷ b.0 ∷ 0 ∷ []
writer_numbers (Err (LongContent k)) = 9 ∷ 0 ∷ 0 ∷ k.0 ∷ 0 ∷ []
writer_numbers (Err (Uneven r)) = 10 ∷ 0 ∷ 0 ∷ r.0 ∷ 0 ∷ []
writer_numbers (Err LongFile) = 2 ∷ 0 ∷ 0 ∷ 0 ∷ 0 ∷ []
writer_numbers (Err NoRoom) = 15 ∷ 0 ∷ 0 ∷ 0 ∷ 0 ∷ []

-- refusal, and the place 0, 0 and a column of the table: the one found, or for 16 the later of the two
abbrev pub search_numbers : Result FieldNumber SearchError → List ℕ
search_numbers (Ok k) = 0 ∷ 0 ∷ 0 ∷ k.0 ∷ []
search_numbers (Err Unfit) = 14 ∷ 0 ∷ 0 ∷ 0 ∷ []
search_numbers (Err (Twice k)) = 16 ∷ 0 ∷ 0 ∷ k.0 ∷ []
search_numbers (Err Missing) = 17 ∷ 0 ∷ 0 ∷ 0 ∷ []

-- found (1, or 0 for the stand-in), start, length
abbrev pub part_numbers : Option Part → List ℕ
part_numbers (Some p) = 1 ∷ p.start.0 ∷ p.length ∷ []
part_numbers None = 0 ∷ 0 ∷ 0 ∷ []

-- The answer to an index has: refusal, line, column, byte, entries. Accepted, the first four are 0; refused, the last is.
abbrev pub indexed_by : ℕ → Indexed
indexed_by n = record { refusal = 0; place = nowhere; entries = n }

abbrev pub unindexed : ℕ → Place → Indexed
unindexed n p = record { refusal = n; place = p; entries = 0 }

-- Where a record lies: refusal, line, column, byte, start, length. Accepted, the first four are 0; refused, all but the first.
abbrev pub lies_at : ℕ → ℕ → Jumped
lies_at start n = record { refusal = 0; place = nowhere; start = record { 0 = start }; length = n }

abbrev pub lies_nowhere : ℕ → Jumped
lies_nowhere n = record { refusal = n; place = nowhere; start = record { 0 = 0 }; length = 0 }
