-- The numbers of the C structs, in the rules' order, a search's with the 0, 0 that its struct leaves out.
use Rattle.std.specs.Prelude.{ℕ, List, [], ◌∷◌, get_or}
use Rattle.face.specs.declared.SvWritten.{SvWritten}
use Rattle.face.specs.declared.SvColumn.{SvColumn}
use Rattle.face.specs.declared.SvPart.{SvPart}

abbrev pub sv_written_numbers : SvWritten → List ℕ
sv_written_numbers r = r.refusal ∷ r.line.0 ∷ r.column.0 ∷ r.byte.0 ∷ r.length ∷ []

abbrev pub sv_column_numbers : SvColumn → List ℕ
sv_column_numbers r = r.refusal ∷ 0 ∷ 0 ∷ r.column.0 ∷ []

abbrev pub sv_part_numbers : SvPart → List ℕ
sv_part_numbers r = r.found ∷ r.start.0 ∷ r.length ∷ []

-- and back: the struct that has the numbers of a list
abbrev pub written_from : List ℕ → SvWritten
written_from l =
    record { refusal = get_or l 0 0; line = record { 0 = get_or l 1 0 }; column = record { 0 = get_or l 2 0 }; byte = record { 0 = get_or l 3 0 }; length = get_or l 4 0 }

abbrev pub column_from : List ℕ → SvColumn
column_from l = record { refusal = get_or l 0 0; column = record { 0 = get_or l 3 0 } }

abbrev pub part_from : List ℕ → SvPart
part_from l = record { found = get_or l 0 0; start = record { 0 = get_or l 1 0 }; length = get_or l 2 0 }
