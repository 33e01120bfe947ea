-- What a state answers, for every state. `Answers` says what that means.
use Rattle.std.specs.Prelude.{ℕ, ◌+◌, Bool, false, cond, not, ◌&&◌, eqb, leb}
use Rattle.format.specs.declared.Totals.{Totals}
use Rattle.format.specs.declared.Answer.{Answer}
use Rattle.format.specs.Answer.{accepted_with, refused_by}
use Rattle.format.specs.Dialect.{lf, blanks, ragged, bytes, bit_of}
use Rattle.format.specs.House.{file_limit}
use Rattle.format.specs.Place.{nowhere}
use Rattle.steps.specs.Model.{is_valid}
use Rattle.steps.specs.Steps.{quoted, cr}
use Rattle.steps.specs.Numbers.{form_number}
use Rattle.state.specs.declared.Check.{Check}
use Rattle.state.specs.Check.{record_ended}

-- the bit n of a leniency, if it was used
abbrev pub bit_if : ℕ → ℕ → ℕ
bit_if u n = cond (eqb u 0) 0 n

-- the totals, with the report: the bits of the leniencies used
unfoldable pub totalled : Check → Totals
totalled c =
    record {
      records = c.counts.records;
      fields = c.counts.fields;
      text = c.counts.text;
      report = bit_if c.used.lf (bit_of lf) + (bit_if c.used.blanks (bit_of blanks) + (bit_if c.used.ragged (bit_of ragged) + bit_if c.used.bytes (bit_of bytes)));
    }

-- the answer of a state that no open field leaves
unfoldable pub settled_answer : Check → Answer
settled_answer c = cond (eqb c.refusal 0) (accepted_with (totalled c)) (refused_by c.refusal c.anchor)

-- bytes came since the last record's end, and no fault
abbrev pub is_open : Check → Bool
is_open c = eqb c.refusal 0 && not (eqb c.begun 0)

-- the answer if the file ends in an open record
abbrev pub cut : Check → Answer
cut c =
    cond (eqb c.form (form_number quoted)) (refused_by 8 c.anchor)
    (cond (leb (form_number cr) c.form) (refused_by 6 c.anchor) (settled_answer (record_ended c.used c.here c.here false c)))

-- the answer as if the file ended here
unfoldable pub asked : Check → Answer
asked c =
    cond (is_valid c.delimiter c.leniencies)
    (cond (leb c.here.byte.0 file_limit) (cond (is_open c) (cut c) (settled_answer c)) (refused_by 2 nowhere))
    (refused_by 1 nowhere)
