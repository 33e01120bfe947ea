-- Tables in memory: a table comes back from its memory, a well-formed memory from its table, and where records and fields stand.
-- Fields of text by ends and records of fields by rows are both lists cut into parts: each law of parts is stated once.
use Prim.Native.Nat.{ℕ, zero, suc, ◌+◌, ◌-◌, ◌≤◌, ◌<◌}
use native.Mathlib.Numerals.{add-one}
use native.Mathlib.Omega.{arith}
use mathlib.Core.Path.{◌≡◌, refl, sym, ap, ◌∙◌}
use mathlib.Core.List.{List, [], ◌∷◌, ◌++◌, append_assoc, append-nil, flatten, map}
use lib.ListN.{length, take, drop, get_or, length-append, take-append-drop, drop_of_length-le}
use lib.Seq.{slice, drop-cons, length-slice, length-take-le, take-nil, take_all, take_at, drop_at, drop-nil, drop-length, drop-append-le, get_or-take, get_or-drop}
use Rattle.format.specs.Table.{Bytes, Content, Table, Every, last_of}
use Rattle.format.specs.House.{width_of}
use Rattle.format.specs.Memory.{lengths, text_of, ends_of, rows_of, Ordered, WellFormed, parts, gaps, table_of, start_of, part_of}

pub rising-never-falls : (n : ℕ) (ms : List ℕ) → Ordered ◌<◌ n ms → Ordered ◌≤◌ n ms
rising-never-falls n [] r = tt
rising-never-falls n (m ∷ ms) r = (omega arith, rising-never-falls m ms r.1)

-- the last number, one after the other
pub last-nil : (n : ℕ) → last_of n [] ≡ n
unfolding last_of
last-nil n = refl

pub last-first : (n m : ℕ) (ms : List ℕ) → last_of n (m ∷ ms) ≡ last_of m ms
unfolding last_of
last-first n m ms = refl

pub last-above : (n : ℕ) (ms : List ℕ) → Ordered ◌≤◌ n ms → n ≤ last_of n ms
unfolding last_of
last-above n [] u = omega arith
last-above n (m ∷ ms) u = omega (arith, last-above m ms u.1)

-- the last number is at most what all are
last-most : (b n : ℕ) (ms : List ℕ) → n ≤ b → ((i : ℕ) → get_or ms i 0 ≤ b) → last_of n ms ≤ b
unfolding last_of
last-most b n [] h f = h
last-most b n (m ∷ ms) h f = last-most b m ms (f 0) (λ i. f (suc i))

-- an entry is at least the one before it, and at most the last
pub entry-within :
    (n : ℕ) (ms : List ℕ) (k : ℕ) → Ordered ◌≤◌ n ms → k < length ms → (get_or (n ∷ ms) k 0 ≤ get_or ms k 0) × (get_or ms k 0 ≤ last_of n ms)
unfolding last_of
entry-within n [] k u h = absurd (omega arith)
entry-within n (m ∷ ms) zero u h = (u.0, last-above m ms u.1)
entry-within n (m ∷ ms) (suc k) u h = entry-within m ms k u.1 (omega arith)

pub lengths_none : (A : Type 0) (n : ℕ) → lengths {A = A} n [] ≡ []
unfolding lengths
lengths_none A n = refl

module _ {A : Type 0} where
  pub lengths-more : (n : ℕ) (l : List A) (ls : List (List A)) → lengths n (l ∷ ls) ≡ (n + length l) ∷ lengths (n + length l) ls
  unfolding lengths
  lengths-more n l ls = refl

  -- what is joined grows at its end, and one list more has one length more
  pub flatten-join : (p q : List (List A)) → flatten (p ++ q) ≡ flatten p ++ flatten q
  unfolding flatten
  flatten-join [] q = refl
  flatten-join (l ∷ p) q = rw (flatten-join p q) (sym (append_assoc l (flatten p) (flatten q)))

  pub flatten-one : (p : List (List A)) (l : List A) → flatten (p ++ (l ∷ [])) ≡ flatten p ++ l
  unfolding flatten
  flatten-one p l = flatten-join p (l ∷ []) ∙ ap (λ (r : List A). flatten p ++ r) (append-nil l)

  pub lengths-one : (n : ℕ) (p : List (List A)) (l : List A) → lengths n (p ++ (l ∷ [])) ≡ lengths n p ++ ((n + length (flatten p) + length l) ∷ [])
  unfolding lengths flatten
  lengths-one n [] l = ap (λ (m : ℕ). m ∷ []) (omega arith)
  lengths-one n (k ∷ p) l =
      let z : n + length k + length (flatten p) ≡ n + (length k + length (flatten p)) = omega arith in
      rw (lengths-one (n + length k) p l, length-append k (flatten p), z)

  pub length-lengths : (n : ℕ) (ls : List (List A)) → length (lengths n ls) ≡ length ls
  unfolding lengths
  length-lengths n [] = refl
  length-lengths n (l ∷ ls) = ap suc (length-lengths (n + length l) ls)

  lengths-last : (n : ℕ) (ls : List (List A)) → last_of n (lengths n ls) ≡ n + length (flatten ls)
  unfolding lengths last_of flatten
  lengths-last n [] = omega arith
  lengths-last n (l ∷ ls) = rw (lengths-last (n + length l) ls, length-append l (flatten ls)) (omega arith)

  lengths-never-fall : (n : ℕ) (ls : List (List A)) → Ordered ◌≤◌ n (lengths n ls)
  unfolding lengths
  lengths-never-fall n [] = tt
  lengths-never-fall n (l ∷ ls) = (omega arith, lengths-never-fall (n + length l) ls)

  -- lengths so far rise where no list is empty, and only there
  lengths-rise : (n : ℕ) (ls : List (List A)) → Every (λ l. 1 ≤ length l) ls → Ordered ◌<◌ n (lengths n ls)
  unfolding lengths
  lengths-rise n [] some = tt
  lengths-rise n (l ∷ ls) some = (omega arith, lengths-rise (n + length l) ls some.1)

  lengths-rise-back : (n : ℕ) (ls : List (List A)) → Ordered ◌<◌ n (lengths n ls) → Every (λ l. 1 ≤ length l) ls
  unfolding lengths
  lengths-rise-back n [] r = tt
  lengths-rise-back n (l ∷ ls) r = (omega arith, lengths-rise-back (n + length l) ls r.1)

  -- a list is as long as the step of the lengths so far
  lengths-at :
      (n : ℕ) (ls : List (List A)) (k : ℕ)
      → k < length ls → get_or (n ∷ lengths n ls) k 0 + length (get_or ls k []) ≡ get_or (lengths n ls) k 0
  unfolding lengths
  lengths-at n [] k h = absurd (omega arith)
  lengths-at n (l ∷ ls) zero h = refl
  lengths-at n (l ∷ ls) (suc k) h = lengths-at (n + length l) ls k (omega arith)

  -- what is joined behind s is cut into what it was
  pub parts-joined : (n : ℕ) (s : List A) (ls : List (List A)) → length s ≡ n → parts n (s ++ flatten ls) (lengths n ls) ≡ ls
  unfolding parts lengths flatten
  parts-joined n s [] e = refl
  parts-joined n s (l ∷ ls) e =
      let e₂ : length (s ++ l) ≡ n + length l = rw (length-append, e) in
      rw (← append_assoc s l (flatten ls), take_at (s ++ l) (flatten ls) (n + length l) e₂, drop_at s l n e, parts-joined (n + length l) (s ++ l) ls e₂)

  pub joined-parts :
      (n : ℕ) (l : List A) (ms : List ℕ) → Ordered ◌≤◌ n ms → last_of n ms ≡ length l → flatten (parts n l ms) ≡ drop n l
  unfolding parts flatten last_of
  joined-parts n l [] u e = rw (e, drop-length)
  joined-parts n l (m ∷ ms) u e =
      let fits : m ≤ length l = omega (arith, last-above m ms u.1) in
      let before : n ≤ length (take m l) = rw length-take-le (omega arith) in
      rw (joined-parts m l ms u.1 e, ← drop-append-le n (take m l) (drop m l) before, take-append-drop)

  pub lengths-parts :
      (n : ℕ) (l : List A) (ms : List ℕ) → Ordered ◌≤◌ n ms → last_of n ms ≤ length l → lengths n (parts n l ms) ≡ ms
  unfolding parts lengths last_of
  lengths-parts n l [] u h = refl
  lengths-parts n l (m ∷ ms) u h =
      let fits : m ≤ length l = omega (arith, last-above m ms u.1) in
      let reached : n + length (slice n m l) ≡ m = rw length-slice (omega arith) in
      rw (reached, lengths-parts m l ms u.1 h)

  pub length-parts : (n : ℕ) (l : List A) (ms : List ℕ) → length (parts n l ms) ≡ length ms
  unfolding parts
  length-parts n l [] = refl
  length-parts n l (m ∷ ms) = ap suc (length-parts m l ms)

  pub part-lengths :
      (n : ℕ) (l : List A) (ms : List ℕ) → Ordered ◌≤◌ n ms → last_of n ms ≤ length l → map length (parts n l ms) ≡ gaps n ms
  unfolding parts gaps last_of
  part-lengths n l [] u h = refl
  part-lengths n l (m ∷ ms) u h =
      let fits : m ≤ length l = omega (arith, last-above m ms u.1) in
      rw (length-slice n m l fits, part-lengths m l ms u.1 h)

  pub part_at :
      (n : ℕ) (l : List A) (ms : List ℕ) (k : ℕ) → get_or (parts n l ms) k [] ≡ slice (get_or (n ∷ ms) k 0) (get_or ms k 0) l
  unfolding parts
  part_at n l [] k = sym (drop-nil (get_or (n ∷ []) k 0))
  part_at n l (m ∷ ms) zero = refl
  part_at n l (m ∷ ms) (suc k) = part_at m l ms k

  -- the two ways to say a part in the middle
  take-from : (f t : ℕ) (l : List A) → take (t - f) (drop f l) ≡ slice f t l
  take-from zero t l = let e : t - 0 ≡ t = omega arith in ap (λ (n : ℕ). take n l) e
  take-from (suc f) t [] = take-nil (t - suc f) ∙ ap (λ (m : List A). drop (suc f) m) (sym (take-nil t))
  take-from (suc f) zero (x ∷ l) = let e : 0 - suc f ≡ 0 = omega arith in ap (λ (n : ℕ). take n (drop f l)) e
  take-from (suc f) (suc t) (x ∷ l) = let e : suc t - suc f ≡ t - f = omega arith in ap (λ (n : ℕ). take n (drop f l)) e ∙ take-from f t l

-- the sizes of a table, one record after the other
pub sizes-more :
    (cs : List Content) (t : Table)
    → (length (text_of (cs ∷ t)) ≡ length (flatten cs) + length (text_of t)) × (length (flatten (cs ∷ t)) ≡ length cs + length (flatten t))
unfolding flatten
sizes-more cs t = (ap length (flatten-join cs (flatten t)) ∙ length-append (flatten cs) (text_of t), length-append cs (flatten t))

-- the gaps, one after the other
pub gaps-more : (n i : ℕ) (ms : List ℕ) → i < length ms → gaps n (drop i ms) ≡ (get_or ms i 0 - n) ∷ gaps (get_or ms i 0) (drop (i + 1) ms)
unfolding gaps
gaps-more n i ms h = rw (add-one, drop-cons ms i 0 h)

pub gaps-none : (n i : ℕ) (ms : List ℕ) → length ms ≤ i → gaps n (drop i ms) ≡ []
unfolding gaps
gaps-none n i ms h = rw (drop_of_length-le ms h)

pub ordered-more :
    (R : ℕ → ℕ → Type 0) (n i : ℕ) (ms : List ℕ) → i < length ms → Ordered R n (drop i ms) → R n (get_or ms i 0) × Ordered R (get_or ms i 0) (drop (i + 1) ms)
ordered-more R n i ms h o = rw add-one (rw (drop-cons ms i 0 h) at o)

pub last_more : (n i : ℕ) (ms : List ℕ) → i < length ms → last_of n (drop i ms) ≡ last_of (get_or ms i 0) (drop (i + 1) ms)
unfolding last_of
last_more n i ms h = rw (add-one, drop-cons ms i 0 h)

pub last_none : (n i : ℕ) (ms : List ℕ) → length ms ≤ i → last_of n (drop i ms) ≡ n
unfolding last_of
last_none n i ms h = rw (drop_of_length-le ms h)

-- strictly rising numbers are no more than the last
rising-count : (n : ℕ) (ms : List ℕ) → Ordered ◌<◌ n ms → n + length ms ≤ last_of n ms
unfolding last_of
rising-count n [] r = omega arith
rising-count n (m ∷ ms) r = omega (arith, rising-count m ms r.1)

-- the demand on no rows follows from the others
pub well_formed :
    {text : Bytes} {ends rows : List ℕ}
    → Ordered ◌<◌ 0 rows → last_of 0 rows ≡ length ends → Ordered ◌≤◌ 0 ends → last_of 0 ends ≡ length text → WellFormed text ends rows
unfolding last_of
well_formed {text} {ends} rise last_row never-fall last_end =
    record {
      rows_rise = rise;
      last_row = last_row;
      ends_never_fall = never-fall;
      last_end = last_end;
      no_rows = λ e.
          let no_ends : ends ≡ [] = sym (take_all 0 ends (omega (arith, rw e at last_row))) in
          (no_ends, sym (take_all 0 text (omega (arith, rw no_ends at last_end))));
    }

pub table-well-formed : (t : Table) → Every (λ cs. 1 ≤ length cs) t → WellFormed (text_of t) (ends_of t) (rows_of t)
table-well-formed t some =
    well_formed (lengths-rise 0 t some) (rw (lengths-last, length-lengths) (omega arith))
    (lengths-never-fall 0 (flatten t)) (rw lengths-last (omega arith))

pub table-back : (t : Table) → table_of (text_of t) (ends_of t) (rows_of t) ≡ t
unfolding table_of
table-back t = rw (parts-joined 0 [] (flatten t) refl, parts-joined 0 [] t refl)

-- field k of the text that the ends cut is its part, and the part runs from where it begins to its end
module _ (text : Bytes) (ends : List ℕ) (k : ℕ) where
  pub field-part : get_or (parts 0 text ends) k [] ≡ part_of text ends k
  unfolding part_of
  field-part = part_at 0 text ends k

  pub part-from : part_of text ends k ≡ take (get_or ends k 0 - start_of ends k) (drop (start_of ends k) text)
  unfolding part_of
  part-from = sym (take-from (start_of ends k) (get_or ends k 0) text)

pub part_length :
    (text : Bytes) (ends : List ℕ) (k : ℕ) → get_or ends k 0 ≤ length text → length (part_of text ends k) ≡ get_or ends k 0 - start_of ends k
unfolding part_of
part_length text ends k h = length-slice (start_of ends k) (get_or ends k 0) text h

pub table-parts : (text : Bytes) (ends rows : List ℕ) → table_of text ends rows ≡ parts 0 (parts 0 text ends) rows
unfolding table_of
table-parts text ends rows = refl

pub table-length : (text : Bytes) (ends rows : List ℕ) → length (table_of text ends rows) ≡ length rows
unfolding table_of
table-length text ends rows = length-parts 0 (parts 0 text ends) rows

module _ {text : Bytes} {ends rows : List ℕ} (w : WellFormed text ends rows) where
  rows-never-fall : Ordered ◌≤◌ 0 rows
  rows-never-fall = rising-never-falls 0 rows w.rows_rise

  rows_fit : last_of 0 rows ≡ length (parts 0 text ends)
  rows_fit = rw length-parts w.last_row

  pub fields_back : flatten (table_of text ends rows) ≡ parts 0 text ends
  unfolding table_of
  fields_back = joined-parts 0 (parts 0 text ends) rows rows-never-fall rows_fit

  pub memory-back :
      (text_of (table_of text ends rows) ≡ text) × (ends_of (table_of text ends rows) ≡ ends) × (rows_of (table_of text ends rows) ≡ rows)
  unfolding table_of
  memory-back = (
    rw (fields_back, joined-parts 0 text ends w.ends_never_fall w.last_end),
    rw (fields_back, lengths-parts 0 text ends w.ends_never_fall (omega arith)),
    lengths-parts 0 (parts 0 text ends) rows rows-never-fall (omega (arith, rows_fit)),
  )

  pub memory-fields : Every (λ cs. 1 ≤ length cs) (table_of text ends rows)
  memory-fields = lengths-rise-back 0 (table_of text ends rows) (rw memory-back.2 w.rows_rise)

  -- where no entry is above b, there are no more bytes, fields and records than b
  pub bytes_most : (b : ℕ) → ((i : ℕ) → get_or ends i 0 ≤ b) → length text ≤ b
  bytes_most b f = rw (← w.last_end) (last-most b 0 ends (omega arith) f)

  pub fields-most : (b : ℕ) → ((i : ℕ) → get_or rows i 0 ≤ b) → length ends ≤ b
  fields-most b f = rw (← w.last_row) (last-most b 0 rows (omega arith) f)

  pub records-most : (b : ℕ) → ((i : ℕ) → get_or rows i 0 ≤ b) → length rows ≤ b
  records-most b f = omega (arith, fields-most b f, w.last_row, rising-count 0 rows w.rows_rise)

  -- a record's fields are among the ends, and a field's part is in the text
  pub row_within : (r : ℕ) → r < length rows → (start_of rows r ≤ get_or rows r 0) × (get_or rows r 0 ≤ length ends)
  row_within r h = rw w.last_row at (entry-within 0 rows r rows-never-fall h)

  pub end-within : (k : ℕ) → k < length ends → (start_of ends k ≤ get_or ends k 0) × (get_or ends k 0 ≤ length text)
  end-within k h = rw w.last_end at (entry-within 0 ends k w.ends_never_fall h)

  pub field_at :
      (r k : ℕ)
      → r < length rows → start_of rows r + k < get_or rows r 0
      → get_or (get_or (table_of text ends rows) r []) k [] ≡ part_of text ends (start_of rows r + k)
  unfolding table_of part_of
  field_at r k h within = rw (part_at, get_or-drop, get_or-take, part_at)

  -- how many fields there are, and how long fields and records are
  pub fields-length : length (flatten (table_of text ends rows)) ≡ length ends
  fields-length = rw (fields_back, length-parts)

  pub field-lengths : map length (flatten (table_of text ends rows)) ≡ gaps 0 ends
  field-lengths = rw (fields_back, part-lengths 0 text ends w.ends_never_fall (omega (arith, w.last_end)))

  pub record-lengths : map length (table_of text ends rows) ≡ gaps 0 rows
  unfolding table_of
  record-lengths = part-lengths 0 (parts 0 text ends) rows rows-never-fall (omega (arith, rows_fit))

  -- the first record's fields
  pub width-at : width_of (table_of text ends rows) ≡ get_or rows 0 0
  unfolding table_of parts last_of
  width-at = go rows w.rows_rise w.last_row
    where
      go : (ms : List ℕ) → Ordered ◌<◌ 0 ms → last_of 0 ms ≡ length ends → width_of (parts 0 (parts 0 text ends) ms) ≡ get_or ms 0 0
      go [] o e = refl
      go (m ∷ ms) o e = length-take-le m (parts 0 text ends) (rw length-parts (omega (arith, e, last-above m ms (rising-never-falls m ms o.1))))

  pub record-width : (r : ℕ) → r < length rows → start_of rows r + length (get_or (table_of text ends rows) r []) ≡ get_or rows r 0
  record-width r h = rw memory-back.2 at (lengths-at 0 (table_of text ends rows) r (rw table-length h))
