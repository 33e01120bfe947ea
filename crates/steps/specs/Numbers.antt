-- What the code has for forms, classes and entries: a form is a number, from 0 in the table's order; a class and an entry have names of their own.
use Rattle.std.specs.Prelude.{ℕ, min, Bool, List, [], ◌∷◌, map, get_or}
use Rattle.steps.specs.declared.Class.{Class as Named, TheVariants.Text, TheVariants.Blank, TheVariants.Delimiter, TheVariants.Quote, TheVariants.Cr, TheVariants.Lf, TheVariants.Forbidden}
use Rattle.steps.specs.declared.Move.{Move as Entry, TheVariants.Start, TheVariants.Lead, TheVariants.Bare, TheVariants.Quoted, TheVariants.Shut, TheVariants.Tail, TheVariants.AfterCr, TheVariants.End, TheVariants.Wrong}
use Rattle.steps.specs.declared.Stepped.{Stepped, TheVariants.Refuse, TheVariants.Quiet, TheVariants.Put, TheVariants.Hold, TheVariants.Drop, TheVariants.EndField, TheVariants.EndRecord}
use Rattle.format.specs.Dialect.{Class, text, blank, delimiter, quote, CR, LF, forbidden}
use Rattle.steps.specs.Steps.{Form, start, lead, bare, quoted, shut, tail, cr, Move, to, end, wrong, next, nothing, put, hold, drop, field_end, record_end, Act, refuse, go, carry}

abbrev pub form_number : Form → ℕ
form_number start = 0
form_number lead = 1
form_number bare = 2
form_number quoted = 3
form_number shut = 4
form_number tail = 5
form_number cr = 6

-- and back; any number from 6 on is the last form
unfoldable pub form_of : ℕ → Form
form_of n = get_or (start ∷ lead ∷ bare ∷ quoted ∷ shut ∷ tail ∷ []) n cr

-- and a class as a column of the table
abbrev pub class_number : Class → ℕ
class_number text = 0
class_number blank = 1
class_number delimiter = 2
class_number quote = 3
class_number CR = 4
class_number LF = 5
class_number forbidden = 6

-- the name of a class, and what it means
abbrev pub class_named : Class → Named
class_named text = Text
class_named blank = Blank
class_named delimiter = Delimiter
class_named quote = Quote
class_named CR = Cr
class_named LF = Lf
class_named forbidden = Forbidden

abbrev pub class_meant : Named → Class
class_meant Text = text
class_meant Blank = blank
class_meant Delimiter = delimiter
class_meant Quote = quote
class_meant Cr = CR
class_meant Lf = LF
class_meant Forbidden = forbidden

-- an entry, and what it means
abbrev pub move_named : Move → Entry
move_named (to start) = Start
move_named (to lead) = Lead
move_named (to bare) = Bare
move_named (to quoted) = Quoted
move_named (to shut) = Shut
move_named (to tail) = Tail
move_named (to cr) = AfterCr
move_named end = End
move_named (wrong n) = Wrong n

abbrev pub move_meant : Entry → Move
move_meant Start = to start
move_meant Lead = to lead
move_meant Bare = to bare
move_meant Quoted = to quoted
move_meant Shut = to shut
move_meant Tail = to tail
move_meant AfterCr = to cr
move_meant End = end
move_meant (Wrong n) = wrong n

-- the code's answer for an act
abbrev pub coded : Act → Stepped
coded (refuse n) = Refuse n
coded (go k nothing) = Quiet (form_number k)
coded (go k put) = Put (form_number k)
coded (go k hold) = Hold (form_number k)
coded (go k drop) = Drop (form_number k)
coded (go k field_end) = EndField
coded (go k record_end) = EndRecord

-- and the act of an answer of the code
abbrev pub act_of : Stepped → Act
act_of (Refuse n) = refuse n
act_of (Quiet k) = go (form_of k) nothing
act_of (Put k) = go (form_of k) put
act_of (Hold k) = go (form_of k) hold
act_of (Drop k) = go (form_of k) drop
act_of EndField = go start field_end
act_of EndRecord = go start record_end

-- all forms and all classes, in the order of their numbers
abbrev pub forms : List Form
forms = start ∷ lead ∷ bare ∷ quoted ∷ shut ∷ tail ∷ cr ∷ []

abbrev pub classes : List Class
classes = text ∷ blank ∷ delimiter ∷ quote ∷ CR ∷ LF ∷ forbidden ∷ []

-- the table, in the code's entries
unfoldable pub step_table : List (List Entry)
step_table = map (λ k. map (λ x. move_named (next k x)) classes) forms

-- a step by any table: its entry, carried out
unfoldable pub step_by : List (List Entry) → Bool → ℕ → Class → Stepped
step_by t lf form x = coded (carry lf (form_of form) x (move_meant (get_or (get_or t (min form 6) []) (class_number x) Start)))
