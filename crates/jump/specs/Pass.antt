-- What passing records of a file promises, one and many; a place is an offset.
use Rattle.std.specs.Prelude.{ℕ, ◌+◌, ◌*◌, ◌-◌, ◌≤◌, ◌<◌, ◌≡◌, Bool, cond, Option, None, Some, List, eqb, length, get_or, drop}
use Rattle.format.specs.Table.{Bytes, Content, Table}
use Rattle.format.specs.Dialect.{Dialect}
use Rattle.format.specs.Grammar.{Record}
use Rattle.format.specs.Refusal.{LineEnd, Fields, Records}
use Rattle.format.specs.Walk.{Holds, FieldFault, FaultBefore}
use Rattle.runs.specs.Runs.{run, is_inner, pairs}
use Rattle.words.specs.Words.{Marks, is_row}
use Rattle.steps.specs.Steps.{start, bare, quoted}
use Rattle.steps.specs.Numbers.{form_number}
use Rattle.jump.specs.declared.Spot.{Spot}
use Rattle.jump.specs.declared.RecordEnd.{RecordEnd}

-- where bytes that are not marked end, from a place on: at another, or further
pub record RowEnd (t : List Bool) (f : Bytes) (from to : ℕ) : Type 0 where
  pub begun : from ≤ to
  pub within : to ≤ length f
  pub unmarked : (p : ℕ → Bool) → Marks t p → to - from ≤ run p (drop from f)

-- where pairs of quotes end, from a place on, where m delimits
pub data PairsEnd (f : Bytes) (m from : ℕ) : ℕ → Type 0 where
  no_pairs : PairsEnd f m from from
  pairs_end : (m ≡ 0x22 → ⊥) → PairsEnd f m from (from + 2 * pairs (drop from f))

-- the form behind a byte of a row of bare fields, where m delimits
abbrev pub row_form : ℕ → ℕ → ℕ
row_form m b = cond (eqb b m) (form_number start) (form_number bare)

-- bytes passed at once from a place and a form: none; of rows of bare fields, some, from where no quote has come; or content between quotes, and pairs of
-- quotes behind it
pub data Skips (d : Dialect) (f : Bytes) (form at : ℕ) : Spot → Type 0 where
  stays : Skips d f form at (record { at = at; form = form })
  in_row : {to : ℕ} → form ≤ form_number bare → at < to → to - at ≤ run (is_row d) (drop at f)
      → Skips d f form at (record { at = to; form = row_form d.delimiter_byte (get_or f (to - 1) 0) })
  in_quotes : {to : ℕ} → form ≡ form_number quoted → PairsEnd f d.delimiter_byte (at + run is_inner (drop at f)) to → Skips d f form at (record { at = to; form = form })

-- the record that begins at a place: it has a fault; or it ends at a place, and behind its line break is another
pub data Ending (d : Dialect) (f : Bytes) (from : ℕ) : Option RecordEnd → Type 0 where
  in_fault : {n : ℕ} {g found named : Bytes} {cs : List Content} → Fields d (drop from f) cs g → FieldFault d n g found named → Ending d f from None
  ending : {end next : ℕ} {cs : List Content}
      → Record d (drop from f) cs (drop end f) → LineEnd d (drop end f) (drop next f) → from ≤ end → end ≤ next → next ≤ length f
      → Ending d f from (Some (record { at = end; next = next }))

-- n records passed from a place on: there is a fault before the next has ended; or the next begins at a place; or the file has ended
pub data Passing (d : Dialect) (f : Bytes) (from n : ℕ) : Option ℕ → Type 0 where
  in_fault : FaultBefore d (drop from f) n → Passing d f from n None
  through : {to : ℕ} {t : Table} → Records d (drop from f) t (drop to f) → length t ≡ n → to < length f → Passing d f from n (Some to)
  out : {to : ℕ} {t : Table} → Holds d (drop from f) t → length t ≤ n → to ≡ length f → Passing d f from n (Some to)
