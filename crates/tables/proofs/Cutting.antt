-- Fields of a text, one after the other.
use Rattle.std.proofs.Common.{◌≡◌, ℕ, zero, suc, ◌+◌, ◌-◌, ◌≤◌, ◌<◌, List, [], ◌∷◌, length, length-take, get_or, take, drop, refl, sym, ap, ◌∙◌, arith, add-one, drop_of_length-le, Option, Some, None, option_map, MatchOption, slice_get}
use Rattle.std.proofs.Math.Seq.{slice, drop-cons, take-nil}
use Rattle.std.proofs.lemmas.Option.{slice_get-get_or, slice_get_past, slice_get_within, get_or_from_slice_get}
use Rattle.std.proofs.lemmas.Slice.{between_is}
use Rattle.format.specs.Table.{Bytes, Content, Table, last_of}
use Rattle.format.specs.Memory.{largest32, Ordered, WellFormed, parts, table_of, start_of}
use Rattle.format.proofs.Memory.{rising-never-falls, last-first, last-above, table-length, table-parts, length-parts, part_at, well_formed}
use Rattle.tables.specs.Formed.{Cuts, Divides, Rest, Row, Small}
use Rattle.tables.proofs.Testing.{ordered-so, rising-most}

-- the first end is in the text, and the others cut what is behind it
pub first_cut : {from end : ℕ} {text : Bytes} {ends : List ℕ} → Cuts from text (end ∷ ends) → (from ≤ end) × (end ≤ length text) × Cuts end text ends
first_cut {from} {end} {text} {ends} c = (
  c.ends_never_fall.0,
  omega (arith, c.last_end, last-first from end ends, last-above end ends c.ends_never_fall.1),
  record { ends_never_fall = c.ends_never_fall.1; last_end = omega (arith, c.last_end, last-first from end ends); few = omega (arith, c.few) },
)

-- the first part runs up to the first number
pub first_part : {A : Type 0} (from end : ℕ) (l : List A) (ends : List ℕ) → parts from l (end ∷ ends) ≡ take (end - from) (drop from l) ∷ parts end l ends
unfolding parts
first_part {A} from end l ends = ap (λ (m : List A). m ∷ parts end l ends) (sym (between_is l from end))

-- a range of the fields is cut by a range of the ends
drop-parts : (n : ℕ) (l : Bytes) (ms : List ℕ) (a : ℕ) → a ≤ length ms → drop a (parts n l ms) ≡ parts (get_or (n ∷ ms) a 0) l (drop a ms)
unfolding parts
drop-parts n l ms zero h = refl
drop-parts n l [] (suc a) h = absurd (omega arith)
drop-parts n l (m ∷ ms) (suc a) h = drop-parts m l ms a (omega arith)

take-parts : (n : ℕ) (l : Bytes) (ms : List ℕ) (b : ℕ) → take b (parts n l ms) ≡ parts n l (take b ms)
unfolding parts
take-parts n l ms zero = refl
take-parts n l [] (suc b) = refl
take-parts n l (m ∷ ms) (suc b) = ap (λ (r : List Bytes). slice n m l ∷ r) (take-parts m l ms b)

ordered-drop : (R : ℕ → ℕ → Type 0) (n : ℕ) (ms : List ℕ) (a : ℕ) → a ≤ length ms → Ordered R n ms → Ordered R (get_or (n ∷ ms) a 0) (drop a ms)
ordered-drop R n ms zero h o = o
ordered-drop R n [] (suc a) h o = absurd (omega arith)
ordered-drop R n (m ∷ ms) (suc a) h o = ordered-drop R m ms a (omega arith) o.1

ordered-take : (R : ℕ → ℕ → Type 0) (n : ℕ) (ms : List ℕ) (b : ℕ) → Ordered R n ms → Ordered R n (take b ms)
ordered-take R n ms zero o = tt
ordered-take R n [] (suc b) o = tt
ordered-take R n (m ∷ ms) (suc b) o = (o.0, ordered-take R m ms b o.1)

last-drop : (n : ℕ) (ms : List ℕ) (a : ℕ) → a ≤ length ms → last_of (get_or (n ∷ ms) a 0) (drop a ms) ≡ last_of n ms
unfolding last_of
last-drop n ms zero h = refl
last-drop n [] (suc a) h = absurd (omega arith)
last-drop n (m ∷ ms) (suc a) h = last-drop m ms a (omega arith)

last-take : (n : ℕ) (ms : List ℕ) (b : ℕ) → Ordered ◌≤◌ n ms → last_of n (take b ms) ≤ last_of n ms
unfolding last_of
last-take n ms zero o = last-above n ms o
last-take n [] (suc b) o = omega arith
last-take n (m ∷ ms) (suc b) o = last-take m ms b o.1

-- the fields from one number to another
module _
    (text : Bytes) (ends : List ℕ) (never-fall : Ordered ◌≤◌ 0 ends) (last : last_of 0 ends ≤ length text) {first next from : ℕ}
    (in_order : first ≤ next) (within : next ≤ length ends) (e : from ≡ start_of ends first)
  where
    pub range_cut : next ≤ largest32 → Cuts from text (take (next - first) (drop first ends))
    range_cut few =
        let h : first ≤ length ends = omega arith in
        let o = ordered-drop ◌≤◌ 0 ends first h never-fall in
        rw e
        (record {
          ends_never_fall = ordered-take ◌≤◌ (start_of ends first) (drop first ends) (next - first) o;
          last_end = omega (arith, last-take (start_of ends first) (drop first ends) (next - first) o, last-drop 0 ends first h, last);
          few = omega (arith, length-take (next - first) (drop first ends));
        })

    pub range_parts : take (next - first) (drop first (parts 0 text ends)) ≡ parts from text (take (next - first) (drop first ends))
    range_parts =
        let h : first ≤ length ends = omega arith in
        rw (e, drop-parts 0 text ends first h) (take-parts (start_of ends first) text (drop first ends) (next - first))

-- the first of the records that rows divide fields into, and the others
module _ {text : Bytes} {ends : List ℕ} {first from next : ℕ} {rows : List ℕ} (d : Divides text ends first from (next ∷ rows)) where
  pub first_within : (first ≤ next) × (next ≤ length ends)
  first_within = (d.rows_never_fall.0, omega (arith, d.last_row, last-first first next rows, last-above next rows d.rows_never_fall.1))

  pub others : {then' : ℕ} → then' ≡ start_of ends next → Divides text ends next then' rows
  others e =
      record {
        ends_never_fall = d.ends_never_fall;
        last_end = d.last_end;
        begins = e;
        rows_never_fall = d.rows_never_fall.1;
        last_row = omega (arith, d.last_row, last-first first next rows);
      }

  pub first_cuts : next ≤ largest32 → Cuts from text (take (next - first) (drop first ends))
  first_cuts = range_cut text ends d.ends_never_fall d.last_end first_within.0 first_within.1 d.begins

  pub first_record :
      parts first (parts 0 text ends) (next ∷ rows) ≡ parts from text (take (next - first) (drop first ends)) ∷ parts next (parts 0 text ends) rows
  first_record =
      first_part first next (parts 0 text ends) rows
      ∙ ap (λ (cs : List Content). cs ∷ parts next (parts 0 text ends) rows) (range_parts text ends d.ends_never_fall d.last_end first_within.0 first_within.1 d.begins)

-- a well formed table's rows divide all its fields
pub all_divided : {text : Bytes} {ends rows : List ℕ} → WellFormed text ends rows → Divides text ends 0 0 rows
all_divided {text} {ends} {rows} w =
    record {
      ends_never_fall = w.ends_never_fall;
      last_end = omega (arith, w.last_end);
      begins = refl;
      rows_never_fall = rising-never-falls 0 rows w.rows_rise;
      last_row = omega (arith, w.last_row);
    }

-- all of a well formed table is left, and then what is behind the first record
pub all_left : {text : Bytes} {ends rows : List ℕ} → WellFormed text ends rows → Rest text ends 0 rows
all_left w = record { rows_rise = w.rows_rise; last_row = omega (arith, w.last_row); last_end = omega (arith, w.last_end) }

pub others_left : {text : Bytes} {ends rows : List ℕ} {first next : ℕ} → Rest text ends first (next ∷ rows) → Rest text ends next rows
others_left {rows = rows} {first} {next} left =
    record { rows_rise = left.rows_rise.1; last_row = omega (arith, left.last_row, last-first first next rows); last_end = left.last_end }

-- no more records are left than fields
pub few_left : {text : Bytes} {ends rows : List ℕ} {first : ℕ} → Rest text ends first rows → first + length rows ≤ length ends
few_left {rows = rows} {first} left = omega (arith, left.last_row, rising-most first rows (ordered-so (λ a b h. omega arith) first rows left.rows_rise))

-- what is left is what a well formed table has from some record on
pub of_table :
    {text : Bytes} {ends rows : List ℕ} {first from : ℕ} → Divides text ends first from rows → Rest text ends first rows → Small text ends rows
    → (all : List ℕ) × (n : ℕ) × WellFormed text ends all × Small text ends all × (parts first (parts 0 text ends) rows ≡ drop n (table_of text ends all))
of_table {text} {ends} {rows} {first = zero} d left small =
    (rows, 0, well_formed left.rows_rise (omega (arith, left.last_row)) d.ends_never_fall (omega (arith, left.last_end)), small, sym (table-parts text ends rows))
of_table {text} {ends} {rows} {first = suc k} d left small = (
  suc k ∷ rows,
  1,
  well_formed (omega arith, left.rows_rise) (omega (arith, last-first 0 (suc k) rows, left.last_row)) d.ends_never_fall (omega (arith, left.last_end)),
  record { bytes = small.bytes; fields = small.fields; records = omega (arith, small.fields, few_left left) },
  sym (ap (drop 1) (table-parts text ends (suc k ∷ rows) ∙ first_part 0 (suc k) (parts 0 text ends) rows)),
)

module _ {text : Bytes} {ends rows : List ℕ} (w : WellFormed text ends rows) {r first next from : ℕ} (row : Row rows (length ends) r first next) (e : from ≡ start_of ends first) where
  pub record_cut : next ≤ largest32 → Cuts from text (take (next - first) (drop first ends))
  record_cut = range_cut text ends w.ends_never_fall (omega (arith, w.last_end)) row.in_order row.within e

  pub record_parts : Some (parts from text (take (next - first) (drop first ends))) ≡ slice_get (table_of text ends rows) r
  record_parts =
      let there : r < length (table_of text ends rows) = rw (table-length text ends rows) row.exists in
      let part : get_or (table_of text ends rows) r [] ≡ take (next - first) (drop first (parts 0 text ends)) =
      rw (table-parts text ends rows, part_at 0 (parts 0 text ends) rows r, row.begins, row.ends) (sym (between_is (parts 0 text ends) (start_of rows r) (get_or rows r 0))) in
      let cut = range_parts text ends w.ends_never_fall (omega (arith, w.last_end)) row.in_order row.within e in
      sym (slice_get-get_or (table_of text ends rows) r [] there ∙ ap (λ (cs : List Content). Some cs) (part ∙ cut))

pub no_record : (text : Bytes) (ends rows : List ℕ) (r : ℕ) → length rows ≤ r → slice_get (table_of text ends rows) r ≡ None
no_record text ends rows r h = slice_get_past (table_of text ends rows) r (rw (table-length text ends rows) h)

-- a place that is not there is behind the last
pub past : {A : Type 0} (l : List A) (n : ℕ) → slice_get l n ≡ None → length l ≤ n
past [] n e = omega arith
past (x ∷ l) zero e = cc
past (x ∷ l) (suc n) e = omega (arith, past l n e)

-- what a walk over the records from n to next takes, if it asks for record n
pub steps :
    {A : Type 0} (shows : A → List Content) (t : Table) (n next : ℕ) (r : Option A) → n < next → option_map shows r ≡ slice_get t n
    → MatchOption r ((take (next - n) (drop n t) ≡ []) × (take (next - (n + 1)) (drop (n + 1) t) ≡ []))
    (λ x. take (next - n) (drop n t) ≡ shows x ∷ take (next - (n + 1)) (drop (n + 1) t))
steps shows t n next None h e =
    let p = past t n (sym e) in
    let q : length t ≤ n + 1 = omega (arith, p) in
    (rw (drop_of_length-le t p) (take-nil (next - n)), rw (drop_of_length-le t q) (take-nil (next - (n + 1))))
steps shows t n next (Some x) h e =
    let there = slice_get_within t n (shows x) (sym e) in
    let m : next - n ≡ suc (next - suc n) = omega arith in
    rw (drop-cons t n (shows x) there, get_or_from_slice_get t n (shows x) (shows x) (sym e), m, add-one)

-- no more fields than 32 bits count
pub count_of : {from : ℕ} {text : Bytes} {ends : List ℕ} → Cuts from text ends → length (parts from text ends) ≤ largest32
count_of {from} {text} {ends} c = omega (arith, length-parts from text ends, c.few)
