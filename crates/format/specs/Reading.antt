-- What a file is read as, and what becomes of it.
use Rattle.std.specs.Prelude.{ℕ, ◌≤◌, ◌<◌, ◌≡◌, ◌⊎◌, length}
use Rattle.format.specs.declared.Place.{Place}
use Rattle.format.specs.Table.{Bytes, Table, Ending}
use Rattle.format.specs.Dialect.{Dialect, dialect, strict, Valid}
use Rattle.format.specs.Rfc4180
use Rattle.format.specs.Grammar.{File}
use Rattle.format.specs.House.{LastBreak, EmptyFile, file_limit, Allowed}
use Rattle.format.specs.Count.{report_of}
use Rattle.format.specs.Place.{place_of, nowhere}
use Rattle.format.specs.Refusal.{Refusal}

-- `Reading d f t r`: in the dialect d the file f holds the table t, and r reports the leniencies used. The file limit is set aside, as demand 3 does.
pub data Reading (d : Dialect) (f : Bytes) (t : Table) : ℕ → Type 0 where
  nothing : EmptyFile f t → Reading d f t 0
  something : {e : Ending} {r : ℕ} (p : File d f t e) → LastBreak e → Allowed d t → report_of p ≡ r → Reading d f t r

-- what RFC 4180 and the house rules say of a file, with no leniency: it is empty, or it is a file of the RFC
abbrev pub RfcReading : Bytes → Table → Type 0
RfcReading f t = EmptyFile f t ⊎ ((e : Ending) × Rfc4180.File f t e × LastBreak e × Allowed strict t)

-- over any two dialect bytes: a valid dialect, a file within the limit, and its reading
pub record Accepted (delimiter sum : ℕ) (f : Bytes) (t : Table) (r : ℕ) : Type 0 where
  pub valid : Valid delimiter sum
  pub short : length f ≤ file_limit
  pub reading : Reading (dialect delimiter sum) f t r

-- 1, else 2, which name the place 0, 0, 0; else 3 to 10
pub data Refused (delimiter sum : ℕ) (f : Bytes) : ℕ → Place → Type 0 where
  refusal_1 : (Valid delimiter sum → ⊥) → Refused delimiter sum f 1 nowhere
  refusal_2 : Valid delimiter sum → file_limit < length f → Refused delimiter sum f 2 nowhere
  in_file : {n : ℕ} {found named : Bytes} {p : Place}
      → Valid delimiter sum → length f ≤ file_limit → Refusal (dialect delimiter sum) n f found named → place_of f named ≡ p → Refused delimiter sum f n p
