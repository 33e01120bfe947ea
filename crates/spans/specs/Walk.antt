-- What a walk stands for: content between quotes, or fields and records, gone over in plain numbers.
use Rattle.std.specs.Prelude.{ℕ, ◌+◌, ◌-◌, ◌≤◌, ◌<◌, min, ◌≡◌, Bool, cond, not, ◌&&◌, eqb, length, get_or, drop, Option, Some, None}
use Rattle.format.specs.declared.Place.{Place}
use Rattle.format.specs.Table.{Bytes}
use Rattle.format.specs.Dialect.{lf, names, dialect}
use Rattle.format.specs.House.{content_limit}
use Rattle.steps.specs.Steps.{start, bare, quoted}
use Rattle.steps.specs.Numbers.{form_number}
use Rattle.runs.specs.Runs.{run, is_plain, is_break}
use Rattle.format.specs.Memory.{largest32}
use Rattle.places.specs.Counters.{counter_limit, plus, along, spot}
use Rattle.state.specs.declared.Check.{Check}
use Rattle.state.specs.declared.Counts.{Counts}
use Rattle.state.specs.Check.{new_field, opened, placed, noting, fed_all, jumped}
use Rattle.state.specs.Settled.{Settled}
use Rattle.spans.specs.declared.Inside.{Inside}
use Rattle.spans.specs.declared.Walk.{Walk}
use Rattle.spans.specs.declared.End.{End, TheVariants.Delimiter, TheVariants.Break, TheVariants.LoneLf}
use Rattle.spans.specs.declared.Ends.{Ends}

-- the bytes of s from a place on that are one jump between quotes, from any such state
pub record Between (s : Bytes) (at : ℕ) (r : Inside) : Type 0 where
  pub on : at ≤ r.end
  pub within : r.end ≤ length s
  pub content : at + r.content ≤ r.end
  pub lines : at + r.lines ≤ r.end
  pub tail : at + r.tail ≤ r.end
  pub flat : r.lines ≡ 0 → at + r.tail ≡ r.end
  pub same : (c : Check) → Settled c → fed_all (jumped (form_number quoted) (spot r.lines r.tail (r.end - at) c.here) r.content c) (drop r.end s) ≡ fed_all c (drop at s)

-- such bytes from any place on: behind the end none
pub record BetweenFrom (s : Bytes) (at : ℕ) (r : Inside) : Type 0 where
  pub between : at ≤ length s → Between s at r
  pub none : length s < at → r ≡ record { end = at; content = 0; lines = 0; tail = 0 }

-- k bytes more on the same line, and to such bytes as far or further on
abbrev pub run_on : Inside → ℕ → Inside
run_on x k = record { end = x.end + k; content = x.content + k; lines = x.lines; tail = x.tail + k }

pub record Further (s : Bytes) (x r : Inside) : Type 0 where
  pub on : x.end ≤ r.end
  pub more : (at : ℕ) → Between s at x → Between s at r

-- where the line begins on which they end, if that on which they begin does so at j
abbrev pub last_line : ℕ → Inside → ℕ
last_line j r = cond (eqb r.lines 0) j (r.end - r.tail)

-- such bytes are the content of a field: a quote closes it, with a byte behind
pub record Closed (s : Bytes) (r : Inside) : Type 0 where
  pub limit : r.content ≤ content_limit
  pub behind : r.end + 1 < length s
  pub quote : get_or s r.end 0 ≡ 0x22

-- at the start of a field, with the counters that a walk may leave alone before their stop, in a piece whose length cannot carry a count over
pub record Level (c : Check) (s : Bytes) : Type 0 where
  pub short : length s ≤ largest32
  pub refusal : c.refusal ≡ 0
  pub form : c.form ≡ form_number start
  pub content : c.field.content ≡ 0
  pub held : c.field.held ≡ 0
  pub no_cr : c.delimiter ≡ 0x0D → ⊥
  pub no_lf : c.delimiter ≡ 0x0A → ⊥
  pub no_quote : c.delimiter ≡ 0x22 → ⊥
  pub line : c.here.line.0 ≤ counter_limit
  pub records : c.counts.records ≤ counter_limit
  pub width : c.counts.width ≤ counter_limit

-- a walk at another place of the field in work, behind a field, and behind a record
abbrev pub placed_at : Walk → ℕ → Walk
placed_at x p = record { at = p; line = x.line; lines = x.lines; start = x.start; rows = x.rows; fields = x.fields; number = x.number; text = x.text }

abbrev pub field_on : Walk → ℕ → ℕ → ℕ → ℕ → Walk
field_on x next m line l = record { at = next; line = line; lines = l; start = next; rows = x.rows; fields = x.fields + 1; number = x.number + 1; text = x.text + m }

abbrev pub row_on : Walk → ℕ → ℕ → ℕ → Walk
row_on x next m l = record { at = next; line = next; lines = l + 1; start = next; rows = x.rows + 1; fields = x.fields + 1; number = 0; text = x.text + m }

-- an LF alone ends a record, and one did before, so that nothing is left to note of it
abbrev pub lone_ends : Check → Bool
lone_ends c = names c.leniencies lf && eqb c.used.lf 1

-- what ends fields and records from a state on
abbrev pub ends_of : Check → Ends
ends_of c = record { delimiter = c.delimiter; width = c.counts.width; alone = lone_ends c }

-- what ends a field at p, the number of which is n: a delimiter; behind as many fields as the records have a line break, or an LF alone, where one may; or nothing
-- such
abbrev pub end_at : Ends → ℕ → Bytes → ℕ → Option End
end_at e n s p =
    cond (eqb (get_or s p 0) e.delimiter) (Some Delimiter)
    (cond (eqb (n + 1) e.width) (cond (is_break (drop p s)) (Some Break) (cond (e.alone && eqb (get_or s p 0) 0x0A) (Some LoneLf) None)) None)

-- a walk behind what ends the field in work so at p, with m bytes of content, on a line that begins at j, behind l line feeds; or where it stands
abbrev pub ended_by : Walk → Option End → ℕ → ℕ → ℕ → ℕ → Walk
ended_by x None p m j l = x
ended_by x (Some Delimiter) p m j l = field_on x (p + 1) m j l
ended_by x (Some Break) p m j l = row_on x (p + 2) m l
ended_by x (Some LoneLf) p m j l = row_on x (p + 1) m l

-- no count of it carries over
pub record Fits (x : Walk) (p m l : ℕ) : Type 0 where
  pub next : p + 2 < 18446744073709551616
  pub fields : x.fields < 18446744073709551615
  pub number : x.number < 18446744073709551615
  pub rows : x.rows < 18446744073709551615
  pub text : x.text + m < 18446744073709551616
  pub lines : l < 18446744073709551615

-- the start of the field in work, behind a walk from a over whole fields
abbrev pub start_of : Walk → ℕ → Place → Place
start_of x a p = spot x.lines (x.start - x.line) (x.start - a) p

abbrev pub tallied : Walk → Counts → Counts
tallied x s =
    record {
      records = plus s.records x.rows;
      fields = record { 0 = plus s.fields.0 x.fields };
      text = plus s.text x.text;
      width = s.width;
    }

unfoldable pub opening : Walk → ℕ → Check → Check
opening x a c =
    placed (start_of x a c.here)
    (opened (noting (not (eqb x.number 0)) 0) c.used (new_field (start_of x a c.here) (min x.number counter_limit)) (tallied x c.counts) c)

-- where the field in work begins: where the walk does, while no field is closed
abbrev pub begun : Walk → ℕ → Check → Check
begun x a c = cond (eqb x.fields 0) c (opening x a c)

-- m bytes of text further on
abbrev pub texted : ℕ → Check → Check
texted m c = cond (eqb m 0) c (jumped (form_number bare) (along m c.here) m c)

unfoldable pub walked : Walk → ℕ → Check → Check
walked x a c = texted (x.at - x.start) (begun x a c)

-- a walk at a byte of s, with counts that the byte's place bounds
pub record Sized (x : Walk) (s : Bytes) : Type 0 where
  pub inside : x.at < length s
  pub short : length s ≤ largest32
  pub from : x.start ≤ x.at
  pub line : x.line ≤ x.start
  pub lines : x.lines ≤ x.start
  pub closed : x.fields + x.rows ≤ x.start + x.start
  pub text : x.text ≤ x.start
  pub number : x.number ≤ largest32 + x.start

-- nothing closed yet
pub record Unmoved (c : Check) (a : ℕ) (x : Walk) : Type 0 where
  pub start : x.start ≡ a
  pub line : x.line ≡ a
  pub lines : x.lines ≡ 0
  pub rows : x.rows ≡ 0
  pub text : x.text ≡ 0
  pub number : x.number ≡ c.field.number.0

-- a walk over s from the state c at a on: the bytes before the field in work lead to its start, and those of the field are plain text so far
pub record Walking (c : Check) (s : Bytes) (a : ℕ) (x : Walk) : Type 0 where
  pub level : Level c s
  pub within : x.at ≤ length s
  pub from : x.start ≤ x.at
  pub line : x.line ≤ x.start
  pub on : a ≤ x.line
  pub lines : x.lines ≤ x.start
  pub closed : x.fields + x.rows ≤ x.start + x.start
  pub text : x.text ≤ x.start
  pub number : x.number ≤ largest32 + x.start
  pub unmoved : x.fields ≡ 0 → Unmoved c a x
  pub plain : x.at - x.start ≤ run (is_plain (dialect c.delimiter c.leniencies)) (drop x.start s)
  pub same : fed_all (begun x a c) (drop x.start s) ≡ fed_all c (drop a s)

-- from a walk to one as far or further on, for every state from which such ends fields and records
pub record Goes (e : Ends) (s : Bytes) (x r : Walk) : Type 0 where
  pub on : x.at ≤ r.at
  pub goes : (c : Check) → ends_of c ≡ e → (a : ℕ) → Walking c s a x → Walking c s a r

-- a walk from a place on leads from the state that it comes to where the state c led, for every state and place
pub record Leading (c : Check) (s : Bytes) (a : ℕ) (x : Walk) : Type 0 where
  pub on : a ≤ x.line
  pub line : x.line ≤ x.start
  pub from : x.start ≤ x.at
  pub within : a ≤ length s → x.at ≤ length s
  pub same : fed_all (walked x a c) (drop x.at s) ≡ fed_all c (drop a s)
