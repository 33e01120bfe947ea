-- What the functions of the walk over a piece promise one another, by how far the call has come.
use Rattle.std.specs.Prelude.{ℕ, ◌+◌, ◌-◌, ◌≤◌, ◌<◌, ◌≡◌, Bool, ◌&&◌, None, List, leb, length, drop}
use Rattle.std.proofs.lemmas.List.Edits.{sets}
use Rattle.format.specs.Table.{Bytes}
use Rattle.fill.specs.Buffers.{Lists}
use Rattle.output.specs.Out.{Out, nothing, then}
use Rattle.output.specs.declared.Room.{Room}
use Rattle.output.specs.declared.Stream.{Stream}
use Rattle.output.specs.Stream.{short_number, Called, streamed}
use Rattle.taking.specs.declared.Flow.{Flow}
use Rattle.taking.specs.declared.Lengths.{Lengths}

-- a call that has taken nothing
abbrev pub begun : Stream → Flow
begun s = record { state = s; taken = 0; text = 0; ends = 0; rows = 0; short = None }

-- how long the piece and the buffers are
abbrev pub lengths : Bytes → Lists → Lengths
lengths piece b = record { piece = length piece; text = length b.text; ends = length b.ends; rows = length b.rows }

-- the room that is left
abbrev pub room_left : Flow → Lengths → Room
room_left p l = record { text = l.text - p.text; ends = l.ends - p.ends; rows = l.rows - p.rows }

abbrev pub room_at : Flow → Lists → Room
room_at p b = record { text = length b.text - p.text; ends = length b.ends - p.ends; rows = length b.rows - p.rows }

-- what the rest of the piece gives; and nothing more
abbrev pub rest_of : Flow → Bytes → Lists → Called
rest_of p piece b = streamed p.state (drop p.taken piece) (room_at p b)

abbrev pub stop_at : Flow → Called
stop_at p = record { taken = 0; out = nothing; short = short_number p.short; state = p.state }

-- k bytes taken, and o put out, before the rest of a call
abbrev pub adding : ℕ → Out → Called → Called
adding k o r = record { taken = k + r.taken; out = then o r.out; short = r.short; state = r.state }

-- how far the call has come is in the piece and in each buffer
pub record Inside (p : Flow) (l : Lengths) : Type 0 where
  pub taken_in : p.taken ≤ l.piece
  pub text_in : p.text ≤ l.text
  pub ends_in : p.ends ≤ l.ends
  pub rows_in : p.rows ≤ l.rows

-- the same by the lengths alone
abbrev pub inside_by : Flow → Lengths → Bool
inside_by p l = ((leb p.taken l.piece && leb p.text l.text) && leb p.ends l.ends) && leb p.rows l.rows

-- new was written at a place of a buffer
pub record Put {A : Type 0} (buf : List A) (at : ℕ) (new buf' : List A) (at' : ℕ) : Type 0 where
  pub room : at + length new ≤ length buf
  pub buf_is : buf' ≡ sets buf at new
  pub at_is : at' ≡ at + length new

-- The call has come from p to q, and has written what lies between; what was to come from p on is that, and then x.
pub record Grew (piece : Bytes) (p : Flow) (b : Lists) (q : Flow) (b' : Lists) (x : Called) : Type 0 where
  pub new : Out
  pub on : p.taken ≤ q.taken
  pub inside : q.taken ≤ length piece
  pub model : rest_of p piece b ≡ adding (q.taken - p.taken) new x
  pub text_on : Put b.text p.text new.text b'.text q.text
  pub ends_on : Put b.ends p.ends new.ends b'.ends q.ends
  pub rows_on : Put b.rows p.rows new.rows b'.rows q.rows

-- by one byte, or the call ends here
pub record Took (piece : Bytes) (p : Flow) (b : Lists) (q : Flow) (b' : Lists) : Type 0 where
  pub on : p.taken ≤ q.taken
  pub took : p.taken < q.taken → Grew piece p b q b' (rest_of q piece b')
  pub ended : q.taken ≡ p.taken → Grew piece p b q b' (stop_at q)

-- the call stays where it is, and nothing is written
pub record Unmoved (p : Flow) (b : Lists) (q : Flow) (b' : Lists) : Type 0 where
  pub flow : q ≡ p
  pub stays : b' ≡ b
