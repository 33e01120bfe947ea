-- The second walk from a file's start to its end: each buffer is then its old self with all that the file gives over its front, the last record's end
-- and row apart.
use Rattle.std.specs.Prelude.{Option, Some, None}
use Prim.Native.Nat.{◌+◌, ◌≤◌}
use native.Mathlib.Omega.{arith}
use mathlib.Core.Path.{◌≡◌, ap}
use mathlib.Core.Bool.{Bool, true, false, cond}
use mathlib.Core.List.{[], ◌∷◌}
use lib.ListN.{length, drop_of_length-le}
use Rattle.format.specs.Table.{Bytes}
use Rattle.format.specs.Dialect.{Dialect}
use Rattle.format.specs.Filling.{over, Filling}
use Rattle.format.specs.Memory.{largest32}
use Rattle.format.proofs.Filling.{begin, move, push}
use Rattle.steps.specs.Steps.{start}
use Rattle.steps.proofs.Rules.{form-back}
use Rattle.fill.specs.declared.Head.{Head}
use Rattle.fill.specs.Fill.{text_read, ends_read, rows_read}
use Rattle.fill.specs.Buffers.{Lists}
use Rattle.fill.specs.Put.{EndFits, PutsEnd}
use Rattle.fill.specs.Walk.{text_ahead, ends_ahead, rows_ahead, Wrote}
use Rattle.fill.proofs.Left.{text-none, ends-none, rows_none}
use Rattle.fill.proofs.Grown.{grown-onward}
use Rattle.stride.specs.Stride.{Ample}
use Rattle.reader.specs.Read.{first, WrittenOver}
use Rattle.stride.proofs.Walk.{ample-on}

-- what is ahead there
first-text : (d : Dialect) (f : Bytes) → text_ahead d f first ≡ text_read d f
first-text d f = rw (form-back start)

first_ends : (d : Dialect) (f : Bytes) → ends_ahead true d f first ≡ ends_read d f
first_ends d f = rw (form-back start)

first_rows : (d : Dialect) (f : Bytes) → rows_ahead true d f first ≡ rows_read d f
first_rows d f = rw (form-back start)

pub ample-first :
    {d : Dialect} {f : Bytes} {b : Lists} → length f ≤ 18446744073709551615
    → length (text_read d f) ≤ largest32 → length (ends_read d f) ≤ largest32
    → length (text_read d f) ≤ length b.text → length (ends_read d f) ≤ length b.ends → length (rows_read d f) ≤ length b.rows → Ample true d f first b
ample-first {d} {f} s a b t u v =
    let e₁ = ap length (first-text d f) in
    let e₂ = ap length (first_ends d f) in
    let e₃ = ap length (first_rows d f) in
    record { text_room = omega arith; ends_room = omega arith; rows_room = omega arith; text_small = omega arith; ends_small = omega arith; held = omega arith }

-- at the file's end
module _
    {d : Dialect} {f : Bytes} {q : Head} {b₀ b : Lists} (m : Ample true d f first b₀) (g : Wrote true d f first b₀ q b) (h : length f ≤ q.at) {u : Bool} (e : q.begun ≡ u)
  where
    ends-left : ends_ahead true d f q ≡ cond u (q.text ∷ []) []
    ends-left = rw (drop_of_length-le f h, ends-none true d, e)

    rows-left : rows_ahead true d f q ≡ cond u ((q.ends + 1) ∷ []) []
    rows-left = rw (drop_of_length-le f h, rows_none true d, e)

    pub last-text : Filling b.text q.text [] (over (text_read d f) b₀.text)
    last-text =
        let room : length (text_read d f) ≤ length b₀.text = omega (arith, m.text_room, ap length (first-text d f)) in
        move (rw (drop_of_length-le f h, text-none d)) (grown-onward g.text_on _ (rw (first-text d f) (begin (text_read d f) room)))

    pub last-ends : Filling b.ends q.ends (cond u (q.text ∷ []) []) (over (ends_read d f) b₀.ends)
    last-ends =
        let room : length (ends_read d f) ≤ length b₀.ends = omega (arith, m.ends_room, ap length (first_ends d f)) in
        move ends-left (grown-onward g.ends_on _ (rw (first_ends d f) (begin (ends_read d f) room)))

    pub last-rows : Filling b.rows q.rows (cond u ((q.ends + 1) ∷ []) []) (over (rows_read d f) b₀.rows)
    last-rows =
        let room : length (rows_read d f) ≤ length b₀.rows = omega (arith, m.rows_room, ap length (first_rows d f)) in
        move rows-left (grown-onward g.rows_on _ (rw (first_rows d f) (begin (rows_read d f) room)))

-- the last record's end and row fit
pub last_fits :
    {d : Dialect} {f : Bytes} {q : Head} {b₀ b : Lists} → Ample true d f first b₀ → Wrote true d f first b₀ q b → length f ≤ q.at → q.begun ≡ true
    → EndFits q true q.text b
last_fits m g h e =
    let a = ample-on g m in
    let x = ap length (ends-left m g h e) in
    let y = ap length (rows-left m g h e) in
    let small = a.text_small in
    record { end_room = omega (arith, x, a.ends_room); row_room = λ z. omega (arith, y, a.rows_room); small = omega arith; few = omega (arith, x, a.ends_small) }

-- so all is written, with the last record's end and row, or without them where no record has begun
module _
    {d : Dialect} {f : Bytes} {q : Head} {b₀ b b' : Lists} (m : Ample true d f first b₀) (g : Wrote true d f first b₀ q b) (h : length f ≤ q.at)
  where
    pub with-last : (r : Option Head) → q.begun ≡ true → PutsEnd q q.at true q.text b r b' → WrittenOver d f b₀ b'
    with-last None e k = absurd (k.head (last_fits m g h e))
    with-last (Some s) e k =
        rw k.written
        (record {
          text_is = (last-text m g h e).fills;
          ends_is = (push _ (last-ends m g h e)).fills;
          rows_is = (push _ (last-rows m g h e)).fills;
        })

pub without-last :
    {d : Dialect} {f : Bytes} {q : Head} {b₀ b : Lists} → Ample true d f first b₀ → Wrote true d f first b₀ q b → length f ≤ q.at → q.begun ≡ false → WrittenOver d f b₀ b
without-last m g h e =
    record { text_is = (last-text m g h e).fills; ends_is = (last-ends m g h e).fills; rows_is = (last-rows m g h e).fills }
