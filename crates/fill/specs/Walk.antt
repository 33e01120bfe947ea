-- What the functions of the second walk promise one another, by the place that the walk has reached.
use Rattle.std.specs.Prelude.{ℕ, ◌+◌, ◌-◌, ◌≤◌, ◌≡◌, Bool, true, List, [], ◌∷◌, ◌++◌, length, drop}
use Rattle.std.proofs.lemmas.List.Edits.{sets}
use Rattle.format.specs.Table.{Bytes}
use Rattle.format.specs.Dialect.{Dialect}
use Rattle.steps.specs.Steps.{quoted}
use Rattle.steps.specs.Numbers.{form_of}
use Rattle.fill.specs.declared.Head.{Head}
use Rattle.fill.specs.Buffers.{Lists}
use Rattle.fill.specs.Fill.{text_left, ends_left, rows_left}

-- what is to be written from a place of the file on; w says whether the file ends with f
abbrev pub text_ahead : Dialect → Bytes → Head → Bytes
text_ahead d f p = text_left d (drop p.at f) (form_of p.form) p.held

abbrev pub ends_ahead : Bool → Dialect → Bytes → Head → List ℕ
ends_ahead w d f p = ends_left w d (drop p.at f) (form_of p.form) p.held p.text p.begun

abbrev pub rows_ahead : Bool → Dialect → Bytes → Head → List ℕ
rows_ahead w d f p = rows_left w d (drop p.at f) (form_of p.form) p.ends p.begun

-- a buffer that was written on, from one place to another: what was to come is what is new in it and what is still to come
pub record Grown {A : Type 0} (buf : List A) (at : ℕ) (rest buf' : List A) (at' : ℕ) (rest' : List A) : Type 0 where
  pub new : List A
  pub rest_is : rest ≡ new ++ rest'
  pub room : length new ≤ length buf - at
  pub buf_is : buf' ≡ sets buf at new
  pub at_is : at' ≡ at + length new

-- the walk has gone from p to q, as far or further on, and has written what lies between: into each buffer, and nothing else. How far it goes is not
-- said.
pub record Wrote (w : Bool) (d : Dialect) (f : Bytes) (p : Head) (old : Lists) (q : Head) (new : Lists) : Type 0 where
  pub on : p.at ≤ q.at
  pub inside : p.at ≤ length f → q.at ≤ length f
  pub held : q.held + p.at ≤ p.held + q.at
  pub text_on : Grown old.text p.text (text_ahead d f p) new.text q.text (text_ahead d f q)
  pub ends_on : Grown old.ends p.ends (ends_ahead w d f p) new.ends q.ends (ends_ahead w d f q)
  pub rows_on : Grown old.rows p.rows (rows_ahead w d f p) new.rows q.rows (rows_ahead w d f q)

-- a delimiter that is no quote: pairs of quotes are then pairs
abbrev pub NoQuote : Dialect → Type 0
NoQuote d = d.delimiter_byte ≡ 0x22 → ⊥

-- between quotes, in every such dialect: from one place of the file and of the text to one as far or further on, the text has grown, and the ends and
-- the rows ahead are the same
pub record Inside (f : Bytes) (at₀ n₀ : ℕ) (text₀ : Bytes) (at n : ℕ) (text : Bytes) : Type 0 where
  pub on : at₀ ≤ at
  pub within : at ≤ length f
  pub text_on : (d : Dialect) → NoQuote d → Grown text₀ n₀ (text_left d (drop at₀ f) quoted 0) text n (text_left d (drop at f) quoted 0)
  pub ends_on : (w : Bool) (d : Dialect) → NoQuote d → ends_left w d (drop at₀ f) quoted 0 n₀ true ≡ ends_left w d (drop at f) quoted 0 n true
  pub rows_on : (w : Bool) (d : Dialect) → NoQuote d → (m : ℕ) → rows_left w d (drop at₀ f) quoted m true ≡ rows_left w d (drop at f) quoted m true

-- each entry of a list greater by m
abbrev pub raised : ℕ → List ℕ → List ℕ
raised m [] = []
raised m (x ∷ l) = (x + m) ∷ raised m l
