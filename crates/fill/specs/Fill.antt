-- What the second walk over an accepted file still has to write, as functions of the bytes ahead: in the form k, with h blanks held. A step that
-- refuses ends the walk; in an accepted file there is none. The bytes ahead may be a part of the file: w says whether the file ends behind them, and
-- then a record that has begun ends there.
use Rattle.std.specs.Prelude.{ℕ, ◌+◌, Bool, true, false, cond, List, [], ◌∷◌, ◌++◌, replicate}
use Rattle.format.specs.Table.{Bytes}
use Rattle.format.specs.Dialect.{lf, Dialect, class_of}
use Rattle.steps.specs.Steps.{Form, start, nothing, put, hold, drop, field_end, record_end, Act, refuse, go, step_of}

-- what a byte does to each of the three; r is what comes behind it
abbrev pub text_by : Act → ℕ → ℕ → (Form → ℕ → Bytes) → Bytes
text_by (refuse n) h b r = []
text_by (go j nothing) h b r = r j h
text_by (go j put) h b r = replicate h 0x20 ++ (b ∷ r j 0)
text_by (go j hold) h b r = r j (h + 1)
text_by (go j drop) h b r = r j h
text_by (go j field_end) h b r = r start 0
text_by (go j record_end) h b r = r start 0

-- n is the text so far, u whether a byte came since the last record's end
abbrev pub ends_by : Act → ℕ → ℕ → (Form → ℕ → ℕ → Bool → List ℕ) → List ℕ
ends_by (refuse i) h n r = []
ends_by (go j nothing) h n r = r j h n true
ends_by (go j put) h n r = r j 0 (n + h + 1) true
ends_by (go j hold) h n r = r j (h + 1) n true
ends_by (go j drop) h n r = r j h n true
ends_by (go j field_end) h n r = n ∷ r start 0 n true
ends_by (go j record_end) h n r = n ∷ r start 0 n false

-- n is the fields so far
abbrev pub rows_by : Act → ℕ → (Form → ℕ → Bool → List ℕ) → List ℕ
rows_by (refuse i) n r = []
rows_by (go j nothing) n r = r j n true
rows_by (go j put) n r = r j n true
rows_by (go j hold) n r = r j n true
rows_by (go j drop) n r = r j n true
rows_by (go j field_end) n r = r start (n + 1) true
rows_by (go j record_end) n r = (n + 1) ∷ r start (n + 1) false

unfoldable pub text_left : Dialect → Bytes → Form → ℕ → Bytes
text_left d [] k h = []
text_left d (b ∷ f) k h = text_by (step_of (d.allows lf) k (class_of d b)) h b (λ j i. text_left d f j i)

unfoldable pub ends_left : Bool → Dialect → Bytes → Form → ℕ → ℕ → Bool → List ℕ
ends_left w d [] k h n u = cond u (cond w (n ∷ []) []) []
ends_left w d (b ∷ f) k h n u = ends_by (step_of (d.allows lf) k (class_of d b)) h n (λ j i m v. ends_left w d f j i m v)

unfoldable pub rows_left : Bool → Dialect → Bytes → Form → ℕ → Bool → List ℕ
rows_left w d [] k n u = cond u (cond w ((n + 1) ∷ []) []) []
rows_left w d (b ∷ f) k n u = rows_by (step_of (d.allows lf) k (class_of d b)) n (λ j m v. rows_left w d f j m v)

-- what the walk over a whole file has to write: the text, where each field ends in it, and how many fields there are at the end of each record
abbrev pub text_read : Dialect → Bytes → Bytes
text_read d f = text_left d f start 0

abbrev pub ends_read : Dialect → Bytes → List ℕ
ends_read d f = ends_left true d f start 0 0 false

abbrev pub rows_read : Dialect → Bytes → List ℕ
rows_read d f = rows_left true d f start 0 false
