-- What a reading uses beyond the plain form, counted; and the report, which is the sum of the bits of the leniencies used.
use Rattle.std.specs.Prelude.{ℕ, suc, ◌+◌, Bool, cond, not, List, [], ◌∷◌, eqb}
use Rattle.format.specs.Table.{Bytes, Content, Table, Ending, with_break, without_break}
use Rattle.format.specs.Dialect.{Leniency, lf, blanks, ragged, bytes, bit_of, Dialect, only_wide}
use Rattle.format.specs.Grammar.{Blanks, Field, Record, Break, File}
use Rattle.format.specs.House.{LastBreak, is_ragged}
use Rattle.format.specs.WrittenForms.{needs_quotes}

-- a number for each field, summed over a record and over a file
abbrev pub Measure : Dialect → Type 0
Measure d = (f : Bytes) (c : Content) (g : Bytes) → Field d f c g → ℕ

unfoldable pub sum_in_record : {d : Dialect} {f g : Bytes} {cs : List Content} → Measure d → Record d f cs g → ℕ
sum_in_record m (Record.one {f} {g} {c} p) = m f c g p
sum_in_record m (Record.more {b} {f} {g} {c} p k r) = m f c (b ∷ g) p + sum_in_record m r

unfoldable pub sum_in_file : {d : Dialect} {f : Bytes} {t : Table} {e : Ending} → Measure d → File d f t e → ℕ
sum_in_file m (File.one r) = sum_in_record m r
sum_in_file m (File.ended r k) = sum_in_record m r
sum_in_file m (File.more r k p) = sum_in_record m r + sum_in_file m p

-- blanks dropped
unfoldable pub blank_count : {d : Dialect} {f g : Bytes} → Blanks d f g → ℕ
blank_count Blanks.none = 0
blank_count (Blanks.more k x) = suc (blank_count x)

unfoldable pub dropped : {d : Dialect} → Measure d
dropped f c g (Field.bare x k n y) = blank_count x + blank_count y
dropped f c g (Field.quoted x k y) = blank_count x + blank_count y

-- fields quoted without need
unfoldable pub needless : {d : Dialect} → Measure d
needless f c g (Field.bare x k n y) = 0
needless {d} f c g (Field.quoted x k y) = cond (needs_quotes d c) 0 1

-- records that an LF alone ends
unfoldable pub alone : {d : Dialect} {g h : Bytes} → Break d g h → ℕ
alone (Break.crlf j k) = 0
alone (Break.lf_alone j k) = 1

unfoldable pub alones : {d : Dialect} {f : Bytes} {t : Table} {e : Ending} → File d f t e → ℕ
alones (File.one r) = 0
alones (File.ended r k) = alone k
alones (File.more r k p) = alone k + alones p

-- last line breaks that are missing
abbrev pub missing : Ending → ℕ
missing with_break = 0
missing (without_break f) = 1

-- what a reading of f as t has beyond the plain form: fields quoted without need, blanks dropped, records that an LF alone ends, last breaks missing
pub data Tally (d : Dialect) (f : Bytes) (t : Table) : ℕ → ℕ → ℕ → ℕ → Type 0 where
  tally : {e : Ending} (p : File d f t e) → LastBreak e → Tally d f t (sum_in_file needless p) (sum_in_file dropped p) (alones p) (missing e)

-- bytes that only "bytes" allows
unfoldable pub wides : Dialect → Bytes → ℕ
wides d [] = 0
wides d (b ∷ f) = cond (only_wide d.delimiter_byte b) 1 0 + wides d f

-- which leniencies a reading used: those of which it has some use
abbrev pub some : ℕ → Bool
some n = not (eqb n 0)

unfoldable pub uses : {d : Dialect} {f : Bytes} {t : Table} {e : Ending} → File d f t e → Leniency → Bool
uses p lf = some (alones p)
uses p blanks = some (sum_in_file dropped p)
uses {t} p ragged = is_ragged t
uses {d} {f} p bytes = some (wides d f)

-- the sum of the bits of some leniencies; the report is that of those used
abbrev pub sum_of : (Leniency → Bool) → ℕ
sum_of used = let bit : Leniency → ℕ = λ l. cond (used l) (bit_of l) 0 in bit lf + (bit blanks + (bit ragged + bit bytes))

abbrev pub report_of : {d : Dialect} {f : Bytes} {t : Table} {e : Ending} → File d f t e → ℕ
report_of p = sum_of (uses p)
