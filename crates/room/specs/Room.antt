-- How many bytes of a piece can be taken at once, and what bytes put out.
use Rattle.std.specs.Prelude.{ℕ, ◌+◌, ◌-◌, ◌≤◌, min, ◌≡◌, true, false, cond, not, ◌||◌, eqb, ltb}
use Rattle.format.specs.Table.{Bytes}
use Rattle.format.specs.House.{content_limit, file_limit}
use Rattle.format.specs.Dialect.{Dialect, dialect}
use Rattle.steps.specs.Numbers.{form_of}
use Rattle.places.specs.Counters.{counter_limit}
use Rattle.fill.specs.Fill.{text_left, ends_left, rows_left}
use Rattle.state.specs.declared.Check.{Check}
use Rattle.output.specs.Out.{Out}
use Rattle.output.specs.Stream.{onward}
use Rattle.taking.specs.declared.Flow.{Flow}
use Rattle.output.specs.declared.Room.{Room}
use Rattle.taking.specs.declared.Lengths.{Lengths}
use Rattle.taking.specs.Walk.{room_left, Inside, inside_by}

abbrev pub dialect_of : Check → Dialect
dialect_of c = dialect c.delimiter c.leniencies

-- what the bytes g put out behind c
abbrev pub put_out : Check → Bytes → Out
put_out c g =
    record {
      text = text_left (dialect_of c) g (form_of c.form) c.field.held;
      ends = ends_left false (dialect_of c) g (form_of c.form) c.field.held (c.counts.text + c.field.content) true;
      rows = rows_left false (dialect_of c) g (form_of c.form) c.counts.fields.0 true;
    }

-- the text that the check has counted, with the content of the field in work; and the fields
abbrev pub counted : Flow → ℕ
counted p = p.state.check.counts.text + p.state.check.field.content

abbrev pub fields_counted : Flow → ℕ
fields_counted p = p.state.check.counts.fields.0

-- how many bytes have room for whatever they put out, with such room left, and let no counter stop: none where more has come out of the call than the check has counted
unfoldable pub room_for : Flow → Room → ℕ
room_for p r =
    cond (ltb (counted p) p.text || ltb (fields_counted p) p.ends) 0
    (min (min (min (min (r.text - p.state.check.field.held) (file_limit - (counted p + p.state.check.field.held))) r.ends) r.rows) (file_limit - fields_counted p))

-- how many bytes can be taken at once, no more than so many: none from outside, with blanks out early, or behind a close; content over the limit needs no room
unfoldable pub part_of : Flow → ℕ → Lengths → ℕ
part_of p most l =
    cond (inside_by p l)
    (cond (not (eqb p.state.early 0) || not (eqb p.state.closed 0)) 0
    (cond (ltb content_limit p.state.check.field.content) (min most (l.piece - p.taken)) (min (min most (l.piece - p.taken)) (room_for p (room_left p l)))))
    0

-- between two bytes of a stream that is not over, with no blank out early
abbrev pub Plain : Flow → Type 0
Plain p = p.state ≡ onward p.state.check

-- the piece holds n bytes more, which have room and let no counter stop, and no more has come out than was counted
pub record Ample (p : Flow) (n : ℕ) (l : Lengths) : Type 0 where
  pub taken_room : p.taken + n ≤ l.piece
  pub text_room : p.text + p.state.check.field.held + n ≤ l.text
  pub ends_room : p.ends + n ≤ l.ends
  pub rows_room : p.rows + n ≤ l.rows
  pub text_count : p.text ≤ counted p
  pub field_count : p.ends ≤ fields_counted p
  pub small : counted p + p.state.check.field.held + n ≤ counter_limit
  pub few : fields_counted p + n ≤ counter_limit

-- n bytes more can be taken at once; they have room for what they put out, unless content is over the limit
pub record Passable (p : Flow) (n : ℕ) (l : Lengths) : Type 0 where
  pub plain : Plain p
  pub inside : Inside p l
  pub taken_room : p.taken + n ≤ l.piece
  pub ample : p.state.check.field.content ≤ content_limit → Ample p n l
