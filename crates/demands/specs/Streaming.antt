-- The customer's first request over the calls, in his own words; what stands in brackets is ours. proofs/Streaming shows all of it.
use Rattle.std.specs.Prelude.{ℕ, ◌+◌, ◌≤◌, ◌<◌, ◌≡◌, true, false, List, [], ◌∷◌, ◌++◌, ◌⊎◌, length, take, drop}
use Rattle.format.specs.declared.Answer.{Answer}
use Rattle.format.specs.Table.{Bytes, Table}
use Rattle.format.specs.Dialect.{dialect, Valid}
use Rattle.format.specs.House.{EndsInBreak, file_limit}
use Rattle.format.specs.Memory.{text_of, ends_of, rows_of}
use Rattle.format.specs.Place.{nowhere}
use Rattle.format.specs.Refusal.{Refusal}
use Rattle.format.specs.Reading.{Accepted, Refused}
use Rattle.format.specs.Answer.{accepted_as, refused_by}
use Rattle.state.specs.Check.{fed}
use Rattle.pieces.specs.Answers.{Answers}
use Rattle.output.specs.declared.Stream.{Stream}
use Rattle.output.specs.declared.Streamed.{Streamed}
use Rattle.output.specs.Out.{Out, nothing, then, CameOut, Contents}
use Rattle.output.specs.Stream.{is_over, due, fits, left_of}
use Rattle.output.specs.Promises.{Started, Fed, Closed, room_of}

-- what a call put out: the front of each buffer, as far as it was filled
abbrev pub filled_of : Streamed → Bytes → List ℕ → List ℕ → Out
filled_of r text ends rows = record { text = take r.text text; ends = take r.ends ends; rows = take r.rows rows }

-- Calls on one stream, one after the other, if untaken bytes always open the next piece and none is left at the close. (Each piece is a beginning of the
-- bytes not yet taken. `Session b sum f g o s a k`: of the file f ++ g the bytes f are taken; o is what came out, joined; the last call left the state s and
-- gave the answer a and closed k.)
pub data Session (b sum : ℕ) : Bytes → Bytes → Out → Stream → Answer → ℕ → Type 0 where
  begins : {s : Stream} (f : Bytes) → Started b sum s → Session b sum [] f nothing s (refused_by 0 nowhere) 0
  feeds : {f piece text text' : Bytes} {ends rows ends' rows' : List ℕ} {o : Out} {s : Stream} {a : Answer} {k : ℕ} {r : Streamed} (g : Bytes)
      → Session b sum f (piece ++ g) o s a k → Fed s piece text ends rows r text' ends' rows'
      → Session b sum (f ++ take r.taken piece) (drop r.taken piece ++ g) (then o (filled_of r text' ends' rows')) r.state r.answer r.closed
  closes : {f : Bytes} {ends rows ends' rows' : List ℕ} {o : Out} {s : Stream} {a : Answer} {k : ℕ} {r : Streamed}
      → Session b sum f [] o s a k → Closed s ends rows r ends' rows'
      → Session b sum f [] (then o (filled_of r [] ends' rows')) r.state r.answer r.closed

-- the answer refuses, or a close was accepted: the stream has ended
abbrev pub Ended : Answer → ℕ → Type 0
Ended a k = (a.refusal ≡ 0 → ⊥) ⊎ (k ≡ 1)

pub record Streaming : Type 0 where
  -- Each call gets a piece and lent room, and says how much was taken of the one and filled of the others (within what was lent).
  pub lent :
      {piece text text' : Bytes} {ends rows ends' rows' : List ℕ} {s : Stream} {r : Streamed}
      → Fed s piece text ends rows r text' ends' rows' → (r.taken ≤ length piece) × (r.text ≤ length text) × (r.ends ≤ length ends) × (r.rows ≤ length rows)
  -- A last call closes the file, both last ends at once; short of room it writes nothing, says so and may be repeated. (With room for one end and one row
  -- it ends the stream; an empty file, or one that ends in a line break, needs none.)
  pub close_short :
      {ends rows ends' rows' : List ℕ} {s : Stream} {r : Streamed}
      → Closed s ends rows r ends' rows' → (r.short ≡ 0 → ⊥) → (ends' ≡ ends) × (rows' ≡ rows) × (r.state ≡ s)
  pub close_ends : {ends rows ends' rows' : List ℕ} {s : Stream} {r : Streamed} → Closed s ends rows r ends' rows' → r.short ≡ 0 → Ended r.answer r.closed
  pub close_room :
      {ends rows ends' rows' : List ℕ} {s : Stream} {r : Streamed} → Closed s ends rows r ends' rows' → 1 ≤ length ends → 1 ≤ length rows → r.short ≡ 0
  pub close_needs_none :
      {b sum n k : ℕ} {f : Bytes} {t : Table} {ends rows ends' rows' : List ℕ} {o : Out} {s : Stream} {a : Answer} {r : Streamed}
      → Session b sum f [] o s a k → Accepted b sum f t n → (f ≡ []) ⊎ EndsInBreak f → Closed s ends rows r ends' rows'
      → (r.short ≡ 0) × (ends' ≡ ends) × (rows' ≡ rows)
  -- A call stops early only at a refusal or before a byte whose output does not all fit. (So one with room for the whole output of the next byte takes it.)
  pub takes :
      {x : ℕ} {piece text text' : Bytes} {ends rows ends' rows' : List ℕ} {s : Stream} {r : Streamed}
      → Fed s (x ∷ piece) text ends rows r text' ends' rows' → is_over s ≡ false
      → fits (due s.early s.check x (fed s.check x)) (room_of text ends rows) ≡ true → 1 ≤ r.taken
  pub stops :
      {piece text text' : Bytes} {ends rows ends' rows' : List ℕ} {s : Stream} {r : Streamed}
      → Fed s piece text ends rows r text' ends' rows' → r.taken < length piece → r.short ≡ 0 → Ended r.answer r.closed
  pub stops_short :
      {piece text text' : Bytes} {ends rows ends' rows' : List ℕ} {s : Stream} {r : Streamed}
      → Fed s piece text ends rows r text' ends' rows' → (r.short ≡ 0 → ⊥) → r.taken < length piece
  -- Joined output equals the whole reader's table, however piece and room were cut, (and the answer is the check's).
  pub joined :
      {b sum : ℕ} {f g : Bytes} {o : Out} {s : Stream} {a : Answer} {k : ℕ} → Session b sum f g o s a k → k ≡ 1
      → (t : Table) × (r : ℕ) × Accepted b sum f t r × (a ≡ accepted_as t r) × (o ≡ record { text = text_of t; ends = ends_of t; rows = rows_of t })
  -- A refusal is given on taking the byte that shows it, or on closing; it is the check's for the bytes taken.
  pub refusal :
      {b sum : ℕ} {f g : Bytes} {o : Out} {s : Stream} {a : Answer} {k : ℕ} → Session b sum f g o s a k → (a.refusal ≡ 0 → ⊥)
      → Refused b sum f a.refusal a.place × Answers b sum f a
  -- After it, or an accepted close, calls take and write nothing, (and repeat the answer).
  pub after_feed :
      {b sum : ℕ} {f g piece text text' : Bytes} {ends rows ends' rows' : List ℕ} {o : Out} {s : Stream} {a : Answer} {k : ℕ} {r : Streamed}
      → Session b sum f g o s a k → Ended a k → Fed s piece text ends rows r text' ends' rows'
      → (r.taken ≡ 0) × (text' ≡ text) × (ends' ≡ ends) × (rows' ≡ rows) × (r.state ≡ s) × (r.answer ≡ a) × (r.closed ≡ k)
  pub after_close :
      {b sum : ℕ} {f g : Bytes} {ends rows ends' rows' : List ℕ} {o : Out} {s : Stream} {a : Answer} {k : ℕ} {r : Streamed}
      → Session b sum f g o s a k → Ended a k → Closed s ends rows r ends' rows'
      → (ends' ≡ ends) × (rows' ≡ rows) × (r.state ≡ s) × (r.answer ≡ a) × (r.closed ≡ k)
  -- This amends "writes nothing": before a refusal what came out is the contents, ends and row ends before the byte where the fault is found, held blanks
  -- and the end of a field ending there left out;
  pub before_fault :
      {b sum n : ℕ} {f g found named : Bytes} {o : Out} {s : Stream} {a : Answer} {k : ℕ} → Session b sum f g o s a k → (a.refusal ≡ 0 → ⊥) → Valid b sum
      → length f ≤ file_limit → Refusal (dialect b sum) n f found named → (e : Bytes) → f ≡ e ++ found → CameOut (dialect b sum) e 0 o
  -- for refusal 2 that is the first byte past the limit. (For 1 nothing is taken, and nothing comes out.)
  pub before_limit :
      {b sum : ℕ} {f g : Bytes} {o : Out} {s : Stream} {a : Answer} {k : ℕ} → Session b sum f g o s a k → (a.refusal ≡ 0 → ⊥) → Valid b sum → file_limit < length f
      → (e : Bytes) × (x : ℕ) × (f ≡ e ++ (x ∷ [])) × (length e ≡ file_limit) × CameOut (dialect b sum) e 0 o
  pub no_dialect :
      {b sum : ℕ} {f g : Bytes} {o : Out} {s : Stream} {a : Answer} {k : ℕ} → Session b sum f g o s a k → (Valid b sum → ⊥) → (f ≡ []) × (o ≡ nothing)
  -- Bytes of one field past the content limit never come out.
  pub within_limit : {b sum : ℕ} {f g : Bytes} {o : Out} {s : Stream} {a : Answer} {k : ℕ} → Session b sum f g o s a k → Contents o
  -- (With room for one byte of text, one end and one row every call on a piece that is not empty takes a byte or puts out a held blank, so that what is left
  -- falls: such a caller always comes to the end.)
  pub goes_on :
      {x : ℕ} {piece text text' : Bytes} {ends rows ends' rows' : List ℕ} {s : Stream} {r : Streamed}
      → Fed s (x ∷ piece) text ends rows r text' ends' rows' → is_over s ≡ false → 1 ≤ length text → 1 ≤ length ends → 1 ≤ length rows
      → (1 ≤ r.taken) ⊎ ((1 ≤ r.text) × (r.state.early ≡ s.early + r.text))
  pub falls :
      {b sum x : ℕ} {f piece text text' : Bytes} {ends rows ends' rows' : List ℕ} {o : Out} {s : Stream} {a : Answer} {k : ℕ} {r : Streamed} (g : Bytes)
      → Session b sum f ((x ∷ piece) ++ g) o s a k → Fed s (x ∷ piece) text ends rows r text' ends' rows' → 1 ≤ length text → 1 ≤ length ends → 1 ≤ length rows
      → Ended r.answer r.closed ⊎ (left_of r.state (drop r.taken (x ∷ piece)) < left_of s (x ∷ piece))
