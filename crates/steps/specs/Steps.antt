-- The rules' step table, and what one byte does by it. Nothing here is believed: the theorems hold it against the grammar.
use Rattle.std.specs.Prelude.{ℕ, Bool, true, false, cond, ◌||◌}
use Rattle.format.specs.Dialect.{Class, text, blank, delimiter, quote, CR, LF, forbidden}

-- the rows of the table
pub data Form : Type 0 where
  start lead bare quoted shut tail cr : Form

-- its entries: a form, the end of a record, or a refusal
pub data Move : Type 0 where
  to : Form → Move
  end : Move
  wrong : ℕ → Move

-- a row, by its columns
abbrev pub row : Move → Move → Move → Move → Move → Move → Move → Class → Move
row t b d q c l f text = t
row t b d q c l f blank = b
row t b d q c l f delimiter = d
row t b d q c l f quote = q
row t b d q c l f CR = c
row t b d q c l f LF = l
row t b d q c l f forbidden = f

abbrev pub next : Form → Class → Move
--                   text        blank       delimiter   quote       CR          LF          forbidden
next start x = row (to bare) (to lead) (to start) (to quoted) (to cr) end (wrong 3) x
next lead x = row (to bare) (to lead) (to start) (to quoted) (to cr) end (wrong 3) x
next bare x = row (to bare) (to bare) (to start) (wrong 4) (to cr) end (wrong 3) x
next quoted x = row (to quoted) (to quoted) (to quoted) (to shut) (to quoted) (to quoted) (wrong 3) x
next shut x = row (wrong 5) (to tail) (to start) (to quoted) (to cr) end (wrong 3) x
next tail x = row (wrong 5) (to tail) (to start) (wrong 5) (to cr) end (wrong 3) x
next cr x = row (wrong 6) (wrong 6) (wrong 6) (wrong 6) (wrong 6) end (wrong 6) x

-- what a byte puts out: nothing; itself, as content behind the blanks held; a blank that is held, or dropped; the end of a field, or of field and record
pub data Out : Type 0 where
  nothing put hold drop field_end record_end : Out

pub data Act : Type 0 where
  refuse : ℕ → Act
  go : Form → Out → Act

-- inside quotes
abbrev pub is_in_quotes : Form → Bool
is_in_quotes start = false
is_in_quotes lead = false
is_in_quotes bare = false
is_in_quotes quoted = true
is_in_quotes shut = true
is_in_quotes tail = false
is_in_quotes cr = false

-- behind a CR
abbrev pub is_behind_cr : Form → Bool
is_behind_cr start = false
is_behind_cr lead = false
is_behind_cr bare = false
is_behind_cr quoted = false
is_behind_cr shut = false
is_behind_cr tail = false
is_behind_cr cr = true

abbrev pub is_blank : Class → Bool
is_blank text = false
is_blank blank = true
is_blank delimiter = false
is_blank quote = false
is_blank CR = false
is_blank LF = false
is_blank forbidden = false

-- an entry carried out in the form k at a byte of class x: a quote that closes a pair is content, one that opens is not; an end without CR needs "lf"
abbrev pub carry : Bool → Form → Class → Move → Act
carry lf k x (wrong n) = refuse n
carry lf k x end = cond (is_behind_cr k || lf) (go start record_end) (refuse 7)
carry lf k x (to start) = go start field_end
carry lf k x (to lead) = go lead drop
carry lf k x (to bare) = go bare (cond (is_blank x) hold put)
carry lf k x (to quoted) = go quoted (cond (is_in_quotes k) put nothing)
carry lf k x (to shut) = go shut nothing
carry lf k x (to tail) = go tail drop
carry lf k x (to cr) = go cr nothing

unfoldable pub step_of : Bool → Form → Class → Act
step_of lf k x = carry lf k x (next k x)
