-- What a part of a file puts out, behind which more may come: how much at most, and what changes where the counts are others.
use Prim.Native.Nat.{ℕ, ◌+◌, ◌≤◌}
use native.Mathlib.Omega.{arith}
use mathlib.Core.Path.{◌≡◌, refl, sym, ap, ◌∙◌}
use mathlib.Core.Bool.{Bool, true, false}
use mathlib.Core.List.{List, [], ◌∷◌}
use lib.ListN.{length, replicate, length-append, length-replicate}
use Rattle.format.specs.Table.{Bytes, Every}
use Rattle.format.specs.Dialect.{lf, Dialect, class_of}
use Rattle.steps.specs.Steps.{Form, start, nothing, put, hold, drop, field_end, record_end, Act, refuse, go, step_of}
use Rattle.fill.specs.Fill.{text_by, ends_by, rows_by, text_left, ends_left, rows_left}
use Rattle.fill.specs.Walk.{raised}
use Rattle.fill.proofs.Left.{text-none, text_byte, ends-none, ends-byte, rows_none, rows-byte}

pub raised-length : (m : ℕ) (l : List ℕ) → length (raised m l) ≡ length l
raised-length m [] = refl
raised-length m (x ∷ l) = rw (raised-length m l)

module _ (d : Dialect) where
  abbrev act : ℕ → Form → Act
  act b k = step_of (d.allows lf) k (class_of d b)

  -- whether a byte came since the last record's end is asked only at the end of a whole file
  pub ends-any : (f : Bytes) (k : Form) (h n : ℕ) (u v : Bool) → ends_left false d f k h n u ≡ ends_left false d f k h n v
  ends-any [] k h n u v = none u ∙ sym (none v)
    where
      none : (u : Bool) → ends_left false d [] k h n u ≡ []
      none true = ends-none false d k h n true
      none false = ends-none false d k h n false
  ends-any (b ∷ f) k h n u v = ends-byte false d b f k h n u ∙ sym (ends-byte false d b f k h n v)

  pub rows-any : (f : Bytes) (k : Form) (n : ℕ) (u v : Bool) → rows_left false d f k n u ≡ rows_left false d f k n v
  rows-any [] k n u v = none u ∙ sym (none v)
    where
      none : (u : Bool) → rows_left false d [] k n u ≡ []
      none true = rows_none false d k n true
      none false = rows_none false d k n false
  rows-any (b ∷ f) k n u v = rows-byte false d b f k n u ∙ sym (rows-byte false d b f k n v)

  -- at most a byte of text for each byte and each blank held
  pub text-most : (f : Bytes) (k : Form) (h : ℕ) → length (text_left d f k h) ≤ h + length f
  text-most [] k h = rw (text-none d k h) (omega arith)
  text-most (b ∷ f) k h = rw (text_byte d b f k h) (by (λ j i. text-most f j i) (act b k))
    where
      by : ((j : Form) (i : ℕ) → length (text_left d f j i) ≤ i + length f) → (a : Act) → length (text_by a h b (λ j i. text_left d f j i)) ≤ h + length (b ∷ f)
      by more (refuse n) = omega arith
      by more (go j nothing) = omega (arith, more j h)
      by more (go j put) = omega (arith, more j 0, length-append (replicate h 0x20) (b ∷ text_left d f j 0), length-replicate {A = ℕ} h 0x20)
      by more (go j hold) = omega (arith, more j (h + 1))
      by more (go j drop) = omega (arith, more j h)
      by more (go j field_end) = omega (arith, more start 0)
      by more (go j record_end) = omega (arith, more start 0)

  -- at most an end and a row for each byte, none past the text or the fields that there can be, and from a count on that is greater by m each greater by m
  pub record Entries (n m most : ℕ) (l from : List ℕ) : Type 0 where
    pub few : length l ≤ m
    pub small : Every (λ (x : ℕ). x ≤ most) l
    pub greater : from ≡ raised n l

  every-most : (m n : ℕ) (l : List ℕ) → m ≤ n → Every (λ (x : ℕ). x ≤ m) l → Every (λ (x : ℕ). x ≤ n) l
  every-most m n [] h e = tt
  every-most m n (x ∷ l) h e = let y = e.0 in (omega arith, every-most m n l h e.1)

  on : {n m m' most most' : ℕ} {l from : List ℕ} → Entries n m most l from → m ≤ m' → most ≤ most' → Entries n m' most' l from
  on {most} {most'} {l} w p q = record { few = omega (arith, w.few); small = every-most most most' l q w.small; greater = w.greater }

  one : {n m m' most most' x : ℕ} {l from : List ℕ} → Entries n m most l from → m + 1 ≤ m' → most ≤ most' → x ≤ most' → Entries n m' most' (x ∷ l) ((x + n) ∷ from)
  one {n} {most} {most'} {x} {l} w o q p =
      record { few = omega (arith, w.few); small = (p, every-most most most' l q w.small); greater = ap (λ (r : List ℕ). (x + n) ∷ r) w.greater }

  at : {n m most : ℕ} {l from l' from' : List ℕ} → l ≡ l' → from ≡ from' → Entries n m most l' from' → Entries n m most l from
  at p q w = rw (p, q) w

  pub ends-part : (m : ℕ) (f : Bytes) (k : Form) (h n : ℕ) (u : Bool) → Entries m (length f) (n + h + length f) (ends_left false d f k h n u) (ends_left false d f k h (n + m) u)
  ends-part m [] k h n u =
      at (ends-any [] k h n u false ∙ ends-none false d k h n false) (ends-any [] k h (n + m) u false ∙ ends-none false d k h (n + m) false)
      (record { few = omega arith; small = tt; greater = refl })
  ends-part m (b ∷ f) k h n u = at (ends-byte false d b f k h n u) (ends-byte false d b f k h (n + m) u) (by (λ j i n v. ends-part m f j i n v) (act b k))
    where
      by :
          ((j : Form) (i n : ℕ) (v : Bool) → Entries m (length f) (n + i + length f) (ends_left false d f j i n v) (ends_left false d f j i (n + m) v)) → (a : Act)
          → Entries m (length (b ∷ f)) (n + h + length (b ∷ f)) (ends_by a h n (λ j i n v. ends_left false d f j i n v)) (ends_by a h (n + m) (λ j i n v. ends_left false d f j i n v))
      by more (refuse i) = record { few = omega arith; small = tt; greater = refl }
      by more (go j nothing) = on (more j h n true) (omega arith) (omega arith)
      by more (go j put) =
          let z : n + m + h + 1 ≡ n + h + 1 + m = omega arith in
          rw z (on (more j 0 (n + h + 1) true) (omega arith) (omega arith))
      by more (go j hold) = on (more j (h + 1) n true) (omega arith) (omega arith)
      by more (go j drop) = on (more j h n true) (omega arith) (omega arith)
      by more (go j field_end) = one (more start 0 n true) (omega arith) (omega arith) (omega arith)
      by more (go j record_end) = one (more start 0 n false) (omega arith) (omega arith) (omega arith)

  pub rows-part : (m : ℕ) (f : Bytes) (k : Form) (n : ℕ) (u : Bool) → Entries m (length f) (n + length f) (rows_left false d f k n u) (rows_left false d f k (n + m) u)
  rows-part m [] k n u =
      at (rows-any [] k n u false ∙ rows_none false d k n false) (rows-any [] k (n + m) u false ∙ rows_none false d k (n + m) false)
      (record { few = omega arith; small = tt; greater = refl })
  rows-part m (b ∷ f) k n u = at (rows-byte false d b f k n u) (rows-byte false d b f k (n + m) u) (by (λ j n v. rows-part m f j n v) (act b k))
    where
      by :
          ((j : Form) (n : ℕ) (v : Bool) → Entries m (length f) (n + length f) (rows_left false d f j n v) (rows_left false d f j (n + m) v)) → (a : Act)
          → Entries m (length (b ∷ f)) (n + length (b ∷ f)) (rows_by a n (λ j n v. rows_left false d f j n v)) (rows_by a (n + m) (λ j n v. rows_left false d f j n v))
      by more (refuse i) = record { few = omega arith; small = tt; greater = refl }
      by more (go j nothing) = on (more j n true) (omega arith) (omega arith)
      by more (go j put) = on (more j n true) (omega arith) (omega arith)
      by more (go j hold) = on (more j n true) (omega arith) (omega arith)
      by more (go j drop) = on (more j n true) (omega arith) (omega arith)
      by more (go j field_end) =
          let z : n + m + 1 ≡ n + 1 + m = omega arith in
          rw z (on (more start (n + 1) true) (omega arith) (omega arith))
      by more (go j record_end) =
          let z : n + m + 1 ≡ n + 1 + m = omega arith in
          rw z (one (more start (n + 1) false) (omega arith) (omega arith) (omega arith))
