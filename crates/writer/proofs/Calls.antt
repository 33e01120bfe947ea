-- Laws of the call: any two outcomes coincide, whatever is written reads back, and how much room is always enough.
use Prim.Native.Nat.{ℕ, ◌+◌, ◌*◌, ◌≤◌}
use native.Mathlib.Omega.{arith}
use mathlib.Core.Path.{◌≡◌, refl, sym, ap}
use mathlib.Core.Bool.{Bool, true, false, cond}
use mathlib.Core.List.{List, flatten}
use mathlib.Core.Logic.{◌⊎◌, inl, inr}
use lib.Dec.{eqb}
use lib.ListN.{length, take, get_or}
use lib.Seq.{take-append_seam}
use Rattle.std.specs.Prelude.{Result, Ok}
use Rattle.format.specs.declared.WriteError.{WriteError}
use Rattle.format.specs.Table.{Bytes, Table, First}
use Rattle.format.specs.Dialect.{strict}
use Rattle.format.specs.House.{file_limit}
use Rattle.format.specs.Memory.{text_of, WellFormed, table_of}
use Rattle.format.specs.WrittenForms.{table_by, plain, full, CanHold}
use Rattle.format.specs.Filling.{over}
use Rattle.format.specs.Answer.{writer_numbers}
use Rattle.format.specs.Reading.{Reading, Accepted}
use Rattle.format.proofs.First.{one-first, none_first}
use Rattle.format.proofs.Forms.{plain-reads, full-reads}
use Rattle.format.proofs.Holding.{holds-bytes, holds-contents, holds_rows}
use Rattle.format.proofs.Leniencies.{strict-report}
use Rattle.format.proofs.Memory.{table-length, memory-back, fields-length}
use Rattle.format.proofs.Numbers.{one-write-numbers}
use Rattle.format.proofs.Room.{written-room}
use Rattle.writer.specs.declared.Mode.{Mode, TheVariants.Plain, TheVariants.Full}
use Rattle.writer.specs.Form.{form_in}
use Rattle.writer.specs.Write.{file_in, Forbidden, refused, accepted, FileOutcome, TableOutcome, WriteOutcome}
use Rattle.writer.proofs.Fields.{form-bound, plain-form, full-form}

one-file :
    {file out x y : Bytes} {a b : List ℕ} → FileOutcome file out a x → FileOutcome file out b y → (a ≡ b) × (x ≡ y)
one-file (FileOutcome.refusal_2 h) (FileOutcome.refusal_2 i) = (refl, refl)
one-file (FileOutcome.refusal_2 h) (FileOutcome.refusal_15 i j) = absurd (omega arith)
one-file (FileOutcome.refusal_2 h) (FileOutcome.whole i j) = absurd (omega arith)
one-file (FileOutcome.refusal_15 h k) (FileOutcome.refusal_2 i) = absurd (omega arith)
one-file (FileOutcome.refusal_15 h k) (FileOutcome.refusal_15 i j) = (refl, refl)
one-file (FileOutcome.refusal_15 h k) (FileOutcome.whole i j) = absurd (omega arith)
one-file (FileOutcome.whole h k) (FileOutcome.refusal_2 i) = absurd (omega arith)
one-file (FileOutcome.whole h k) (FileOutcome.refusal_15 i j) = absurd (omega arith)
one-file (FileOutcome.whole h k) (FileOutcome.whole i j) = (refl, refl)

-- what strict can hold has none of the faults
module _ {text : Bytes} {t : Table} (same : text_of t ≡ text) where
  none_forbidden : CanHold strict t → {k : ℕ} → First Forbidden text k → ⊥
  none_forbidden h x = none_first (rw same at (holds-bytes strict h)) x

  one_table :
      {file out x y : Bytes} {a b : List ℕ} → TableOutcome text t file out a x → TableOutcome text t file out b y → (a ≡ b) × (x ≡ y)
  one_table (TableOutcome.refusal_3 h) (TableOutcome.refusal_3 i) = (ap (refused 3) (one-first h i), refl)
  one_table (TableOutcome.refusal_3 h) (TableOutcome.refusal_9 n i) = absurd (none_first n h)
  one_table (TableOutcome.refusal_3 h) (TableOutcome.refusal_10 n m i) = absurd (none_first n h)
  one_table (TableOutcome.refusal_3 h) (TableOutcome.holdable i o) = absurd (none_forbidden i h)
  one_table (TableOutcome.refusal_9 n h) (TableOutcome.refusal_3 i) = absurd (none_first n i)
  one_table (TableOutcome.refusal_9 n h) (TableOutcome.refusal_9 m i) = (ap (refused 9) (one-first h i), refl)
  one_table (TableOutcome.refusal_9 n h) (TableOutcome.refusal_10 l m i) = absurd (none_first m h)
  one_table (TableOutcome.refusal_9 n h) (TableOutcome.holdable i o) = absurd (none_first (holds-contents strict i) h)
  one_table (TableOutcome.refusal_10 n m h) (TableOutcome.refusal_3 i) = absurd (none_first n i)
  one_table (TableOutcome.refusal_10 n m h) (TableOutcome.refusal_9 l i) = absurd (none_first m i)
  one_table (TableOutcome.refusal_10 n m h) (TableOutcome.refusal_10 k l i) = (ap (refused 10) (one-first h i), refl)
  one_table (TableOutcome.refusal_10 n m h) (TableOutcome.holdable i o) = absurd (none_first (holds_rows strict refl i) h)
  one_table (TableOutcome.holdable h o) (TableOutcome.refusal_3 i) = absurd (none_forbidden h i)
  one_table (TableOutcome.holdable h o) (TableOutcome.refusal_9 n i) = absurd (none_first (holds-contents strict h) i)
  one_table (TableOutcome.holdable h o) (TableOutcome.refusal_10 n m i) = absurd (none_first (holds_rows strict refl h) i)
  one_table (TableOutcome.holdable h o) (TableOutcome.holdable i p) = one-file o p

module _ {text : Bytes} {ends rows : List ℕ} {mode : ℕ} {out : Bytes} where
  pub one-numbers : {a b : List ℕ} {x y : Bytes} → WriteOutcome text ends rows mode out a x → WriteOutcome text ends rows mode out b y → (a ≡ b) × (x ≡ y)
  one-numbers (WriteOutcome.refusal_1 h) (WriteOutcome.refusal_1 i) = (refl, refl)
  one-numbers (WriteOutcome.refusal_1 h) (WriteOutcome.refusal_14 i n) = absurd (omega arith)
  one-numbers (WriteOutcome.refusal_1 h) (WriteOutcome.well_formed i w o) = absurd (omega arith)
  one-numbers (WriteOutcome.refusal_14 h n) (WriteOutcome.refusal_1 i) = absurd (omega arith)
  one-numbers (WriteOutcome.refusal_14 h n) (WriteOutcome.refusal_14 i m) = (refl, refl)
  one-numbers (WriteOutcome.refusal_14 h n) (WriteOutcome.well_formed i w o) = absurd (n w)
  one-numbers (WriteOutcome.well_formed h v o) (WriteOutcome.refusal_1 i) = absurd (omega arith)
  one-numbers (WriteOutcome.well_formed h v o) (WriteOutcome.refusal_14 i n) = absurd (n v)
  one-numbers (WriteOutcome.well_formed h v o) (WriteOutcome.well_formed i w p) = one_table (memory-back v).0 o p

  -- any two outcomes that the promise allows are equal, the buffer included
  pub one-outcome :
      {a b : Result ℕ WriteError} {x y : Bytes}
      → WriteOutcome text ends rows mode out (writer_numbers a) x → WriteOutcome text ends rows mode out (writer_numbers b) y → (a ≡ b) × (x ≡ y)
  one-outcome {a} {b} o p = let (e, q) = one-numbers o p in (one-write-numbers a b e, q)

-- a refusal, the first of the numbers, leaves the buffer as it was
module _ {text : Bytes} {ends rows : List ℕ} {mode : ℕ} {out : Bytes} where
  pub refused-same : {a : List ℕ} {out' : Bytes} → WriteOutcome text ends rows mode out a out' → (get_or a 0 0 ≡ 0 → ⊥) → out' ≡ out
  refused-same (WriteOutcome.refusal_1 h) n = refl
  refused-same (WriteOutcome.refusal_14 h m) n = refl
  refused-same (WriteOutcome.well_formed h w (TableOutcome.refusal_3 x)) n = refl
  refused-same (WriteOutcome.well_formed h w (TableOutcome.refusal_9 m x)) n = refl
  refused-same (WriteOutcome.well_formed h w (TableOutcome.refusal_10 m l x)) n = refl
  refused-same (WriteOutcome.well_formed h w (TableOutcome.holdable i (FileOutcome.refusal_2 k))) n = refl
  refused-same (WriteOutcome.well_formed h w (TableOutcome.holdable i (FileOutcome.refusal_15 k l))) n = refl
  refused-same (WriteOutcome.well_formed h w (TableOutcome.holdable i (FileOutcome.whole k l))) n = absurd (n refl)

-- what an accepted write says
pub record Wrote (text : Bytes) (ends rows : List ℕ) (mode : ℕ) (out : Bytes) (n : ℕ) (out' : Bytes) : Type 0 where
  pub formed : WellFormed text ends rows
  pub holds : CanHold strict (table_of text ends rows)
  pub size : n ≡ length (file_in mode (table_of text ends rows))
  pub short : n ≤ file_limit
  pub out_is : out' ≡ over (file_in mode (table_of text ends rows)) out

-- a refusal's first number is not 0
module _ {A : Type 0} {n m index : ℕ} where
  not-accepted : 1 ≤ n → refused n index ≡ accepted m → A
  not-accepted h e = let z : n ≡ 0 = ap (λ (l : List ℕ). get_or l 0 0) e in absurd (omega arith)

module _ {text : Bytes} {ends rows : List ℕ} {mode : ℕ} {out : Bytes} {n : ℕ} where
  pub wrote : {a : List ℕ} {out' : Bytes} → WriteOutcome text ends rows mode out a out' → a ≡ accepted n → Wrote text ends rows mode out n out'
  wrote (WriteOutcome.refusal_1 h) e = not-accepted (omega arith) e
  wrote (WriteOutcome.refusal_14 h m) e = not-accepted (omega arith) e
  wrote (WriteOutcome.well_formed h w (TableOutcome.refusal_3 x)) e = not-accepted (omega arith) e
  wrote (WriteOutcome.well_formed h w (TableOutcome.refusal_9 m x)) e = not-accepted (omega arith) e
  wrote (WriteOutcome.well_formed h w (TableOutcome.refusal_10 m l x)) e = not-accepted (omega arith) e
  wrote (WriteOutcome.well_formed h w (TableOutcome.holdable i (FileOutcome.refusal_2 k))) e = not-accepted (omega arith) e
  wrote (WriteOutcome.well_formed h w (TableOutcome.holdable i (FileOutcome.refusal_15 k l))) e = not-accepted (omega arith) e
  wrote (WriteOutcome.well_formed h w (TableOutcome.holdable i (FileOutcome.whole k l))) e =
      let z : length (file_in mode (table_of text ends rows)) ≡ n = ap (λ (l : List ℕ). get_or l 4 0) e in
      record { formed = w; holds = i; size = sym z; short = rw z at k; out_is = refl }

file-reads : (mode : ℕ) (t : Table) → CanHold strict t → Reading strict (file_in mode t) t 0
file-reads mode t h = go (eqb mode 0)
  where
    go : (x : Bool) → Reading strict (cond x (plain strict t) (full strict t)) t 0
    go true = let p = plain-reads strict tt t h in rw (strict-report p) at p
    go false = let p = full-reads strict tt t h in rw (strict-report p) at p

module _ {text : Bytes} {ends rows : List ℕ} {mode n : ℕ} {out out' : Bytes} (o : WriteOutcome text ends rows mode out (writer_numbers (Ok n)) out') where
  -- whatever the writer accepts reads back, strict, as the same table with nothing reported
  pub reads_back : Accepted 0x2C 0 (take n out') (table_of text ends rows) 0
  reads_back =
      let w = wrote o refl in
      let t = table_of text ends rows in
      let f : take n out' ≡ file_in mode t = rw (w.out_is, w.size) (take-append_seam (file_in mode t) _) in
      record {
        valid = (tt, omega arith);
        short = rw f (rw w.size at w.short);
        reading = rw f (file-reads mode t w.holds);
      }

file_room : (mode : ℕ) (t : Table) → CanHold strict t → length (file_in mode t) ≤ 2 * length (text_of t) + 3 * length (flatten t) + length t
file_room mode t h = go (eqb mode 0)
  where
    by : (m : Mode) → length (table_by (form_in m) strict t) ≤ 2 * length (text_of t) + 3 * length (flatten t) + length t
    by m = written-room (form_in m) strict (form-bound m) t h.some_field

    go : (x : Bool) → length (cond x (plain strict t) (full strict t)) ≤ 2 * length (text_of t) + 3 * length (flatten t) + length t
    go true = rw plain-form at (by Plain)
    go false = rw full-form at (by Full)

-- two bytes for each of the text, three for each field and one for each record are always room enough, and so is the file limit
module _ {text : Bytes} {ends rows : List ℕ} {mode : ℕ} {out : Bytes} where
  pub room-enough :
      {a : List ℕ} {out' : Bytes} → WriteOutcome text ends rows mode out a out'
      → (2 * length text + 3 * length ends + length rows ≤ length out) ⊎ (file_limit ≤ length out) → get_or a 0 0 ≡ 15 → ⊥
  room-enough (WriteOutcome.refusal_1 h) r e = omega arith
  room-enough (WriteOutcome.refusal_14 h m) r e = omega arith
  room-enough (WriteOutcome.well_formed h w (TableOutcome.refusal_3 x)) r e = omega arith
  room-enough (WriteOutcome.well_formed h w (TableOutcome.refusal_9 m x)) r e = omega arith
  room-enough (WriteOutcome.well_formed h w (TableOutcome.refusal_10 m l x)) r e = omega arith
  room-enough (WriteOutcome.well_formed h w (TableOutcome.holdable i (FileOutcome.refusal_2 k))) r e = omega arith
  room-enough (WriteOutcome.well_formed h w (TableOutcome.holdable i (FileOutcome.whole k l))) r e = omega arith
  room-enough (WriteOutcome.well_formed h w (TableOutcome.holdable i (FileOutcome.refusal_15 k l))) (inl r) e =
      let t = table_of text ends rows in
      let x : length (text_of t) ≡ length text = ap length (memory-back w).0 in
      omega (arith, file_room mode t i, x, fields-length w, table-length text ends rows)
  room-enough (WriteOutcome.well_formed h w (TableOutcome.holdable i (FileOutcome.refusal_15 k l))) (inr r) e = omega arith
