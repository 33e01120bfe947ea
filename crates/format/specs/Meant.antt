-- What the code's names mean: a refusal, a leniency, and the dialect of two bytes.
use Rattle.std.specs.Prelude.{ℕ}
use Rattle.format.specs.declared.Refusal.{Refusal, TheVariants.UnknownDialectOrMode, TheVariants.LongFile, TheVariants.ForbiddenByte, TheVariants.QuoteInBareField, TheVariants.ByteAfterClosingQuote, TheVariants.CrWithoutLf, TheVariants.LfWithoutCr, TheVariants.QuotedFieldOpen, TheVariants.LongContent, TheVariants.UnequalRecord, TheVariants.NoRoomInText, TheVariants.NoRoomInEnds, TheVariants.NoRoomInRows, TheVariants.MalformedTable, TheVariants.NoRoomInOut, TheVariants.EqualNames, TheVariants.NoSuchName, TheVariants.NoSuchRecord, TheVariants.NoRoomInIndex, TheVariants.WrongIndex}
use Rattle.format.specs.declared.Leniency.{Leniency as Named, TheVariants.Lf, TheVariants.Blanks, TheVariants.Ragged, TheVariants.Bytes}
use Rattle.format.specs.declared.Dialect.{Dialect as Pair}
use Rattle.format.specs.Dialect.{Leniency, lf, blanks, ragged, bytes, Dialect, dialect}

-- the rules' numbers
abbrev pub number_of : Refusal → ℕ
number_of UnknownDialectOrMode = 1
number_of LongFile = 2
number_of ForbiddenByte = 3
number_of QuoteInBareField = 4
number_of ByteAfterClosingQuote = 5
number_of CrWithoutLf = 6
number_of LfWithoutCr = 7
number_of QuotedFieldOpen = 8
number_of LongContent = 9
number_of UnequalRecord = 10
number_of NoRoomInText = 11
number_of NoRoomInEnds = 12
number_of NoRoomInRows = 13
number_of MalformedTable = 14
number_of NoRoomInOut = 15
number_of EqualNames = 16
number_of NoSuchName = 17
number_of NoSuchRecord = 18
number_of NoRoomInIndex = 19
number_of WrongIndex = 20

abbrev pub meant : Named → Leniency
meant Lf = lf
meant Blanks = blanks
meant Ragged = ragged
meant Bytes = bytes

-- any two bytes are a dialect
abbrev pub dialect_of : Pair → Dialect
dialect_of d = dialect d.delimiter d.leniencies
