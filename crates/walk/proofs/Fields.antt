-- The second walk over fields of plain text, found by words of marks: where it stands, and what a mark changes.
use Rattle.std.specs.Prelude.{Some}
use Prim.Native.Nat.{ℕ, ◌+◌, ◌-◌, ◌/◌, ◌^◌, ◌≤◌, ◌<◌}
use native.Mathlib.Omega.{arith}
use mathlib.Core.Path.{◌≡◌, ap}
use mathlib.Core.Bool.{Bool}
use mathlib.Core.List.{List}
use lib.ListN.{length, get_or, take, drop}
use lib.Count.{count_trailing_zeros}
use Rattle.format.specs.Table.{Bytes}
use Rattle.format.specs.Dialect.{Dialect}
use Rattle.steps.specs.Steps.{start}
use Rattle.steps.specs.Numbers.{form_number}
use Rattle.runs.specs.Runs.{run, is_plain}
use Rattle.words.specs.Words.{word, block_end, Stops}
use Rattle.runs.proofs.Runs.{run_join, run-within}
use Rattle.words.proofs.Words.{Marked, marked-on, marked-none, marked-some, block}
use Rattle.fill.specs.declared.Head.{Head}
use Rattle.fill.specs.Buffers.{Lists}
use Rattle.fill.specs.Walk.{Wrote}
use Rattle.fill.proofs.Grown.{wrote_then}
use Rattle.fill.specs.declared.Field.{Field}
use Rattle.fill.specs.Put.{PutsField}
use Rattle.stride.specs.Stride.{Plain, Found}
use Rattle.stride.proofs.Walk.{field-wrote}

-- what stays as it is
pub record Base (d : Dialect) (t : List Bool) (f : Bytes) : Type 0 where
  pub stops : Stops t d
  pub bytes : (j : ℕ) → get_or f j 0 < 256
  pub no_lf : d.delimiter_byte ≡ 0x0A → ⊥

-- at i, in a field that begins at h; up to i it is plain text
pub record Fields (d : Dialect) (f : Bytes) (p : Head) (b₀ : Lists) (i : ℕ) (h : Head) (b : Lists) : Type 0 where
  pub form : h.form ≡ form_number start
  pub held : h.held ≡ 0
  pub within : i ≤ length f
  pub from : h.at ≤ i
  pub so_far : i - h.at ≤ run (is_plain d) (drop h.at f)
  pub wrote : (w : Bool) → Wrote w d f p b₀ h b

-- the block from i on ends at e
pub block_at :
    (t : List Bool) (f : Bytes) (i e w : ℕ) → e ≡ block_end (length f) i → i < length f → w ≡ word t (take 64 (drop i f))
    → (i < e) × Marked t f e i w × (e ≤ length f) × (e - i ≤ 64)
block_at t f i e w q l h = let b = block t f i w l h in rw q (b.on, b.marked, b.within, b.small)

module _
    {d : Dialect} {t : List Bool} {f : Bytes} (base : Base d t f) {p : Head} {b₀ : Lists} {i : ℕ} {h : Head} {b : Lists}
    (g : Fields d f p b₀ i h b)
  where
    fields-text : (k : ℕ) → k ≤ run (is_plain d) (drop i f) → Fields d f p b₀ (i + k) h b
    fields-text k l =
        let from = g.from in
        record {
          form = g.form;
          held = g.held;
          within = run-within (is_plain d) f i k g.within l;
          from = omega arith;
          so_far = run_join (is_plain d) f h.at i k from g.so_far l;
          wrote = g.wrote;
        }

    -- words
    module _ (e w : ℕ) (k : Marked t f e i w) (l : e ≤ length f) where
      pub first-stop : e - i ≤ 64 → (w ≡ 0 → ⊥) → (count_trailing_zeros 64 w < 64) × Plain d f h (i + count_trailing_zeros 64 w)
      first-stop m z =
          let q = marked-some t (is_plain d) base.stops f base.bytes e i w k l m z in
          let q₀ = q.0 in
          let on = fields-text (count_trailing_zeros 64 w) q.1 in
          (omega arith, record { form = g.form; held = g.held; no_lf = base.no_lf; from = on.from; inside = omega arith; so_far = on.so_far })

      pub no_stop : w ≡ 0 → Fields d f p b₀ (i + (e - i)) h b
      no_stop z = fields-text (e - i) (marked-none t (is_plain d) base.stops f base.bytes e i w k l z)

      -- the word from a place behind the mark on
      pub stop-on : (j x : ℕ) → i + j ≤ x → Marked t f e x (w / 2 ^ j / 2 ^ (x - (i + j)))
      stop-on j x o =
          let q : i + j + (x - (i + j)) ≡ x = omega arith in
          let at = marked-on t (is_plain d) base.stops f base.bytes e i w k j in
          rw q at (marked-on t (is_plain d) base.stops f base.bytes e (i + j) (w / 2 ^ j) at (x - (i + j)))

-- a field found at a mark and written: the walk is behind it, at the start of the next
module _
    {d : Dialect} {f : Bytes} {p h next : Head} {b₀ b b' : Lists} {i q : ℕ} {x : Field}
    (g : Fields d f p b₀ i h b) (plain : Plain d f h q) (found : Found d f h q (Some x)) (put : PutsField h x.content.now x.next x.row b (Some next) b')
  where
    place : next.at ≡ x.next
    place = ap (λ (r : Head). r.at) put.head.1

    pub field-after : q < next.at
    field-after = omega (arith, place, found.further plain)

    pub field-within : next.at ≤ length f
    field-within = let ends = found.ends plain in omega (arith, place, ends.inside)

    pub fields-next : Fields d f p b₀ next.at next b'
    fields-next =
        let ends = found.ends plain in
        record {
          form = ap (λ (r : Head). r.form) put.head.1;
          held = ap (λ (r : Head). r.held) put.head.1;
          within = field-within;
          from = omega arith;
          so_far = omega arith;
          wrote = λ w. wrote_then (g.wrote w) (field-wrote ends put);
        }
