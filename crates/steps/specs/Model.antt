-- The step table run over a source. What the bytes ahead give is computed first, and then what one byte does to it; a place is the rest of the source
-- that begins there. Nothing here is believed: the theorems hold it against the grammar.
use Rattle.std.specs.Prelude.{ℕ, suc, ◌+◌, Bool, true, cond, ◌&&◌, ◌||◌, List, [], ◌∷◌, eqb, leb, length}
use Rattle.format.specs.Table.{Bytes, Content, Table}
use Rattle.format.specs.declared.Place.{Place}
use Rattle.format.specs.Dialect.{Leniency, lf, blanks, ragged, bytes, Dialect, dialect, delimits, class_of}
use Rattle.format.specs.House.{is_ragged, content_limit, file_limit}
use Rattle.format.specs.Count.{wides, some, sum_of}
use Rattle.format.specs.Place.{place_of, nowhere}
use Rattle.steps.specs.Steps.{Form, start, lead, bare, quoted, shut, tail, cr, nothing, put, hold, drop, field_end, record_end, Act, refuse, go, is_in_quotes, is_behind_cr, step_of}

-- the rest of a field's content, and how many blanks are dropped from there on
pub record Cell : Type 0 where
  pub content : Content
  pub drops : ℕ

abbrev pub cell : Content → ℕ → Cell
cell c n = record { content = c; drops = n }

-- What a source gives, from inside a field: a refusal, with the place where it is found and the one that it names; or the rest of the field, the place
-- where the field ends, the place behind that end, and what comes there. Where a record ends, 1 counts an LF alone.
pub data Trace : Type 0 where
  refused : ℕ → Bytes → Bytes → Trace
  last : Cell → ℕ → Bytes → Trace
  field : Cell → Bytes → Bytes → Trace → Trace
  line : Cell → ℕ → Bytes → Bytes → Trace → Trace

abbrev pub change : (Cell → Cell) → Trace → Trace
change φ (refused n a p) = refused n a p
change φ (last x l a) = last (φ x) l a
change φ (field x a g r) = field (φ x) a g r
change φ (line x l a g r) = line (φ x) l a g r

-- one more byte of content; a blank that is dropped; a blank of a bare field, which is content if content follows
abbrev pub putting : ℕ → Cell → Cell
putting b x = cell (b ∷ x.content) x.drops

abbrev pub dropping : Cell → Cell
dropping x = cell x.content (suc x.drops)

abbrev pub kept_in : ℕ → Content → ℕ → Cell
kept_in b [] n = cell [] (suc n)
kept_in b (y ∷ c) n = cell (b ∷ y ∷ c) n

abbrev pub holding : ℕ → Cell → Cell
holding b x = kept_in b x.content x.drops

-- the end of a record, and what follows it: no record, if nothing does
abbrev pub ending : ℕ → Bytes → Bytes → Trace → Trace
ending l a [] r = last (cell [] 0) l a
ending l a (b ∷ f) r = line (cell [] 0) l a (b ∷ f) r

-- The anchor is the place of the opening quote inside quotes, and that of the CR behind one; elsewhere it is [].
abbrev pub anchor : Form → Form → Bytes → Bytes → Bytes
anchor k start here p = []
anchor k lead here p = []
anchor k bare here p = []
anchor k quoted here p = cond (is_in_quotes k) p here
anchor k shut here p = cond (is_in_quotes k) p here
anchor k tail here p = []
anchor k cr here p = here

-- the place of a break or a fault that is seen here: behind a CR it is that of the CR
abbrev pub seen : Form → Bytes → Bytes → Bytes
seen k here p = cond (is_behind_cr k) p here

-- what an act in the form k with the anchor p does, at the byte b before f; r is what f gives
abbrev pub doing : Act → Form → ℕ → Bytes → Bytes → (Form → Bytes → Trace) → Trace
doing (refuse n) k b f p r = refused n (seen k (b ∷ f) p) (seen k (b ∷ f) p)
doing (go j nothing) k b f p r = r j (anchor k j (b ∷ f) p)
doing (go j put) k b f p r = change (putting b) (r j (anchor k j (b ∷ f) p))
doing (go j hold) k b f p r = change (holding b) (r j (anchor k j (b ∷ f) p))
doing (go j drop) k b f p r = change dropping (r j (anchor k j (b ∷ f) p))
doing (go j field_end) k b f p r = field (cell [] 0) (b ∷ f) f (r start [])
doing (go j record_end) k b f p r = ending (cond (is_behind_cr k) 0 1) (seen k (b ∷ f) p) f (r start [])

-- at the file's length
abbrev pub closing : Form → Bytes → Trace
closing start p = last (cell [] 0) 0 []
closing lead p = last (cell [] 0) 0 []
closing bare p = last (cell [] 0) 0 []
closing quoted p = refused 8 [] p
closing shut p = last (cell [] 0) 0 []
closing tail p = last (cell [] 0) 0 []
closing cr p = refused 6 p p

unfoldable pub run : Dialect → Bytes → Form → Bytes → Trace
run d [] k p = closing k p
run d (b ∷ f) k p = doing (step_of (d.allows lf) k (class_of d b)) k b f p (λ j q. run d f j q)

-- The limits, judged over a trace: a refusal; or a table, the blanks dropped and the records that an LF alone ends.
pub data Judged : Type 0 where
  declined : ℕ → Bytes → Bytes → Judged
  taken : Table → ℕ → ℕ → Judged

-- the number of fields that a record must have: any, before the first record
pub data Width : Type 0 where
  any : Width
  just : ℕ → Width

abbrev pub settled : Width → ℕ → Width
settled any n = just n
settled (just m) n = just m

unfoldable pub agrees : Dialect → Width → ℕ → Bool
agrees d any n = true
agrees d (just m) n = d.allows ragged || eqb n m

-- a field before the first record of a table; a record before a table, with the blanks that it drops and 1 if an LF alone ends it
abbrev pub beside : Cell → Judged → Judged
beside x (declined n a p) = declined n a p
beside x (taken [] m l) = taken [] m l
beside x (taken (cs ∷ t) m l) = taken ((x.content ∷ cs) ∷ t) (x.drops + m) l

abbrev pub above : List Content → ℕ → ℕ → Judged → Judged
above cs m l (declined n a p) = declined n a p
above cs m l (taken t i k) = taken (cs ∷ t) (m + i) (l + k)

unfoldable pub fits : Content → Bool
fits c = leb (length c) content_limit

-- a field that ends its record at a: j fields stand before it in the record, and it began at p
abbrev pub line_ends : Dialect → Width → ℕ → Bytes → Cell → ℕ → Bytes → Judged → Judged
line_ends d w j p x l a r = cond (fits x.content) (cond (agrees d w (suc j)) (above (x.content ∷ []) x.drops l r) (declined 10 a a)) (declined 9 a p)

abbrev pub judge : Dialect → Width → ℕ → Bytes → Trace → Judged
judge d w j p (refused n a q) = declined n a q
judge d w j p (last x l a) = line_ends d w j p x l a (taken [] 0 0)
judge d w j p (field x a g r) = cond (fits x.content) (beside x (judge d w (suc j) g r)) (declined 9 a p)
judge d w j p (line x l a g r) = line_ends d w j p x l a (judge d (settled w (suc j)) 0 g r)

unfoldable pub read : Dialect → Width → Bytes → Judged
read d w [] = taken [] 0 0
read d w (b ∷ f) = judge d w 0 (b ∷ f) (run d (b ∷ f) start [])

-- which leniencies a reading used, by the counts of what it dropped and ended
unfoldable pub used : Dialect → Bytes → Table → ℕ → ℕ → Leniency → Bool
used d f t m l lf = some l
used d f t m l blanks = some m
used d f t m l ragged = is_ragged t
used d f t m l bytes = some (wides d f)

-- the model's answer for a file: a table with its report, or a refusal with the place that it names
pub data Verdict : Type 0 where
  accepts : Table → ℕ → Verdict
  refuses : ℕ → Place → Verdict

unfoldable pub verdict : Dialect → Bytes → Judged → Verdict
verdict d f (declined n a p) = refuses n (place_of f p)
verdict d f (taken t m l) = accepts t (sum_of (used d f t m l))

-- over any two dialect bytes
unfoldable pub is_valid : ℕ → ℕ → Bool
is_valid b sum = delimits b && leb sum 15

unfoldable pub model : ℕ → ℕ → Bytes → Verdict
model b sum f =
    cond (is_valid b sum)
    (cond (leb (length f) file_limit) (verdict (dialect b sum) f (read (dialect b sum) any f)) (refuses 2 nowhere))
    (refuses 1 nowhere)
