-- What a call does to any state: how much it takes, what it puts out, the state behind it.
use Rattle.std.specs.Prelude.{ℕ, suc, Option, None, Some, ◌+◌, ◌-◌, ◌*◌, min, Bool, cond, not, ◌&&◌, ◌||◌, List, [], ◌∷◌, ◌++◌, eqb, leb, length, replicate}
use Rattle.std.specs.Option.{option_to_list}
use Rattle.format.specs.declared.Answer.{Answer}
use Rattle.format.specs.Answer.{refused_by}
use Rattle.format.specs.Place.{nowhere}
use Rattle.format.specs.Table.{Bytes}
use Rattle.format.specs.House.{content_limit, file_limit}
use Rattle.steps.specs.Model.{is_valid}
use Rattle.state.specs.declared.Check.{Check}
use Rattle.state.specs.Check.{started, fed}
use Rattle.pieces.specs.Asked.{asked}
use Rattle.output.specs.declared.Stream.{Stream}
use Rattle.output.specs.declared.Due.{Due}
use Rattle.output.specs.declared.Room.{Room}
use Rattle.output.specs.declared.Buffer.{Buffer, TheVariants.Text, TheVariants.Ends, TheVariants.Rows}
use Rattle.output.specs.Out.{Out, nothing, then}

-- a refusal is shown: by the dialect bytes, by the length, or by a byte
unfoldable pub shown : Check → Bool
shown c = not (is_valid c.delimiter c.leniencies) || (not (leb c.here.byte.0 file_limit) || not (eqb c.refusal 0))

-- a stream before any byte
unfoldable pub stream_started : ℕ → ℕ → Stream
stream_started b sum = record { check = started b sum; early = 0; closed = 0 }

-- nothing more is taken or put out
abbrev pub is_over : Stream → Bool
is_over s = shown s.check || not (eqb s.closed 0)

-- By the check before a byte, c, and behind it, e: the byte is content; it ended a field; it ended a record.
abbrev pub puts_text : Check → Check → Bool
puts_text c e = not (leb e.field.content c.field.content)

abbrev pub ends_field : Check → Bool
ends_field e = eqb e.form 0

abbrev pub ends_record : Check → Bool
ends_record e = eqb e.form 0 && eqb e.begun 0

-- the held blanks that come out before a byte of content, where m are out already, and whether that byte does: up to the content limit
abbrev pub blanks_left : ℕ → Check → ℕ
blanks_left m c = min (c.field.held - m) (content_limit - (c.field.content + m))

abbrev pub byte_left : Check → Bool
byte_left c = leb (c.field.content + c.field.held + 1) content_limit

-- one entry, or none
abbrev pub when : Bool → ℕ → List ℕ
when x n = cond x (n ∷ []) []

-- what the byte b puts out, all of it; and the held blanks among that
unfoldable pub blanks_due : ℕ → Check → Check → ℕ
blanks_due m c e = cond (puts_text c e) (blanks_left m c) 0

unfoldable pub due : ℕ → Check → ℕ → Check → Out
due m c b e =
    record {
      text = replicate (blanks_due m c e) 0x20 ++ when (puts_text c e && byte_left c) b;
      ends = when (ends_field e) e.counts.text;
      rows = when (ends_record e) e.counts.fields.0;
    }

-- what the code makes of that
abbrev pub due_out : Due → Out
due_out d =
    record {
      text = replicate d.blanks 0x20 ++ option_to_list d.byte;
      ends = option_to_list d.end;
      rows = option_to_list d.row;
    }

unfoldable pub fits : Out → Room → Bool
fits o r = leb (length o.text) r.text && (leb (length o.ends) r.ends && leb (length o.rows) r.rows)

abbrev pub left : Out → Room → Room
left o r = record { text = r.text - length o.text; ends = r.ends - length o.ends; rows = r.rows - length o.rows }

-- the buffer that is too small, the lowest number first
unfoldable pub short_of : Out → Room → ℕ
short_of o r = cond (leb (length o.text) r.text) (cond (leb (length o.ends) r.ends) (cond (leb (length o.rows) r.rows) 0 13) 12) 11

-- the code's name for it, by its number; no buffer is 0
abbrev pub buffer_number : Buffer → ℕ
buffer_number Text = 11
buffer_number Ends = 12
buffer_number Rows = 13

abbrev pub short_number : Option Buffer → ℕ
short_number None = 0
short_number (Some b) = buffer_number b

-- what a call gives: bytes taken, what it put out, the buffer that was short or 0, and the state for the next call
pub record Called : Type 0 where
  pub taken : ℕ
  pub out : Out
  pub short : ℕ
  pub state : Stream

abbrev pub idle : Stream → Called
idle s = record { taken = 0; out = nothing; short = 0; state = s }

-- the state behind a byte, by the check's
abbrev pub onward : Check → Stream
onward e = record { check = e; early = 0; closed = 0 }

-- the byte that shows a refusal is taken, and puts nothing out
abbrev pub showing : Check → Called
showing e = record { taken = 1; out = nothing; short = 0; state = onward e }

-- stopped before a byte whose output does not all fit: of that only held blanks come out, k of them
abbrev pub stuck : Stream → Out → Room → ℕ → Called
stuck s o r k =
    record {
      taken = 0;
      out = record { text = replicate k 0x20; ends = []; rows = [] };
      short = short_of o r;
      state = record { check = s.check; early = s.early + k; closed = s.closed };
    }

-- a byte taken before the rest
abbrev pub taking : Out → Called → Called
taking o r = record { taken = suc r.taken; out = then o r.out; short = r.short; state = r.state }

-- a piece
unfoldable pub streamed : Stream → Bytes → Room → Called
streamed s [] r = idle s
streamed s (b ∷ f) r =
    let e : Check = fed s.check b in
    let o : Out = due s.early s.check b e in
    cond (is_over s) (idle s)
    (cond (shown e) (showing e)
    (cond (fits o r) (taking o (streamed (onward e) f (left o r)))
    (stuck s o r (min (blanks_due s.early s.check e) r.text))))

-- the last end and row end, where a record is open and the check accepts the file: both at once
unfoldable pub close_due : Check → Answer → Out
close_due c a =
    let x : Bool = eqb a.refusal 0 && not (eqb c.begun 0) in
    record { text = []; ends = when x a.totals.text; rows = when x a.totals.fields.0 }

-- the close: short of room it changes nothing
unfoldable pub closed : Stream → Room → Called
closed s r =
    let o : Out = close_due s.check (asked s.check) in
    cond (is_over s) (idle s)
    (cond (fits o r) (record { taken = 0; out = o; short = 0; state = record { check = s.check; early = s.early; closed = 1 } })
    (record { taken = 0; out = nothing; short = short_of o r; state = s }))

-- the answer of a state: 0 throughout while it is open, and then the check's
unfoldable pub answer_of : Stream → Answer
answer_of s = cond (is_over s) (asked s.check) (refused_by 0 nowhere)

-- 1 from an accepted close on
unfoldable pub closed_by : Stream → ℕ
closed_by s = cond (eqb s.closed 0) 0 (cond (eqb (asked s.check).refusal 0) 1 0)

-- what is left to a caller with the bytes f: twice the bytes, and the blanks held that are not out
abbrev pub left_of : Stream → Bytes → ℕ
left_of s f = 2 * length f + (s.check.field.held - s.early)
