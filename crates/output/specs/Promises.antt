-- What a state of a stream stands for, and what its calls promise.
use Rattle.std.specs.Prelude.{ℕ, ◌≡◌, true, false, List, [], ◌∷◌, ◌++◌, length, take, drop}
use Rattle.format.specs.declared.Place.{Place}
use Rattle.format.specs.Table.{Bytes, Table}
use Rattle.format.specs.Dialect.{dialect, Valid}
use Rattle.format.specs.Memory.{text_of, ends_of, rows_of}
use Rattle.format.specs.Reading.{Accepted, Refused}
use Rattle.state.specs.declared.Check.{Check}
use Rattle.state.specs.Check.{started, fed, fed_all}
use Rattle.format.specs.Filling.{over}
use Rattle.output.specs.declared.Stream.{Stream}
use Rattle.output.specs.declared.Streamed.{Streamed}
use Rattle.output.specs.declared.Room.{Room}
use Rattle.output.specs.Out.{Out, nothing, then, CameOut}
use Rattle.output.specs.Stream.{shown, puts_text, stream_started, Called, streamed, closed, answer_of, closed_by}

-- Blanks are out before it is known that they stay only where the byte that shows it comes next: it is content, and shows no refusal.
pub data Awaits (c : Check) : ℕ → Bytes → Type 0 where
  nothing_early : {g : Bytes} → Awaits c 0 g
  content_next : {m b : ℕ} {g : Bytes} → shown (fed c b) ≡ false → puts_text c (fed c b) ≡ true → Awaits c m (b ∷ g)

-- what is out of a table that was accepted: all of it
abbrev pub whole_out : Table → Out
whole_out t = record { text = text_of t; ends = ends_of t; rows = rows_of t }

-- `Stands b sum f g o s`: in the dialect of two bytes the state s has taken f and is to be handed g next; o is out
pub data Stands (b sum : ℕ) : Bytes → Bytes → Out → Stream → Type 0 where
  -- two bytes that are no dialect: nothing is ever taken
  no_dialect : {g : Bytes} {o : Out} {s : Stream} → (Valid b sum → ⊥) → s.check ≡ started b sum → o ≡ nothing → Stands b sum [] g o s
  -- no refusal is shown so far
  going : {f g : Bytes} {o : Out} {s : Stream}
      → s.check ≡ fed_all (started b sum) f → shown s.check ≡ false → s.closed ≡ 0 → CameOut (dialect b sum) f s.early o → Awaits s.check s.early g
      → Stands b sum f g o s
  -- the last byte taken showed one: what is out is what was out before it, and no blank that was held
  refused : {f g : Bytes} {o : Out} {s : Stream} (e : Bytes) (x : ℕ)
      → f ≡ e ++ (x ∷ []) → shown (fed_all (started b sum) e) ≡ false → s.check ≡ fed_all (started b sum) f → shown s.check ≡ true
      → CameOut (dialect b sum) e 0 o → Stands b sum f g o s
  -- the close gave one
  declined : {n : ℕ} {p : Place} {f g : Bytes} {o : Out} {s : Stream}
      → s.check ≡ fed_all (started b sum) f → shown s.check ≡ false → s.closed ≡ 1 → Refused b sum f n p → CameOut (dialect b sum) f 0 o → Stands b sum f g o s
  -- the close accepted the file
  accepted : {r : ℕ} {t : Table} {f g : Bytes} {o : Out} {s : Stream}
      → s.check ≡ fed_all (started b sum) f → s.closed ≡ 1 → Accepted b sum f t r → o ≡ whole_out t → Stands b sum f g o s

-- A call as the code gives it: what is filled is counted, and what came out stands over the front of each buffer, the rest of which stays.
pub record Into (c : Called) (text : Bytes) (ends rows : List ℕ) (r : Streamed) (text' : Bytes) (ends' rows' : List ℕ) : Type 0 where
  pub state : r.state ≡ c.state
  pub taken : r.taken ≡ c.taken
  pub short : r.short ≡ c.short
  pub closed : r.closed ≡ closed_by c.state
  pub answer : r.answer ≡ answer_of c.state
  pub text_count : r.text ≡ length c.out.text
  pub ends_count : r.ends ≡ length c.out.ends
  pub rows_count : r.rows ≡ length c.out.rows
  pub text_is : text' ≡ over c.out.text text
  pub ends_is : ends' ≡ over c.out.ends ends
  pub rows_is : rows' ≡ over c.out.rows rows

-- room is what the buffers have; the close has none for text, and needs none
abbrev pub room_of : Bytes → List ℕ → List ℕ → Room
room_of text ends rows = record { text = length text; ends = length ends; rows = length rows }

-- What start, feed and close promise: the result, for every state; and what it means of a state that stands for a dialect, bytes taken, bytes ahead and
-- what is out.
pub record Started (b sum : ℕ) (s : Stream) : Type 0 where
  pub result : s ≡ stream_started b sum
  pub stands : (g : Bytes) → Stands b sum [] g nothing s

pub record Fed (s : Stream) (piece text : Bytes) (ends rows : List ℕ) (r : Streamed) (text' : Bytes) (ends' rows' : List ℕ) : Type 0 where
  pub into : Into (streamed s piece (room_of text ends rows)) text ends rows r text' ends' rows'
  pub stands : (b sum : ℕ) (f g : Bytes) (o : Out) → Stands b sum f (piece ++ g) o s
      → Stands b sum (f ++ take r.taken piece) (drop r.taken piece ++ g) (then o (streamed s piece (room_of text ends rows)).out) r.state

pub record Closed (s : Stream) (ends rows : List ℕ) (r : Streamed) (ends' rows' : List ℕ) : Type 0 where
  pub into : Into (closed s (room_of [] ends rows)) [] ends rows r [] ends' rows'
  pub stands : (b sum : ℕ) (f : Bytes) (o : Out) → Stands b sum f [] o s → Stands b sum f [] (then o (closed s (room_of [] ends rows)).out) r.state
