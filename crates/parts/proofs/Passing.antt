-- Many bytes at once: the part of a piece that is taken, what the second walk writes for it, and its entries made greater by what came before.
use Prim.Native.Nat.{ℕ, ◌+◌, ◌-◌, ◌^◌, ◌≤◌, ◌<◌}
use native.Mathlib.Omega.{arith}
use mathlib.Core.Path.{◌≡◌, sym, ap, subst, ◌∙◌}
use mathlib.Core.Bool.{Bool, true, false}
use mathlib.Core.List.{List, [], ◌++◌, map, append_assoc, append-nil}
use lib.ListN.{length, take, drop, length-append, length-drop, take-append-drop, drop_of_length-le}
use lib.Seq.{sets, drop-drop, take_at, drop_at, length-take-le}
use borrow.Rule.Slice.PartMut.{put_mid}
use Rattle.std.proofs.Common.{None, All}
use Rattle.format.specs.Table.{Bytes}
use Rattle.format.specs.declared.Dialect.{Dialect as Pair}
use Rattle.format.specs.Meant.{dialect_of as meant_by}
use Rattle.format.specs.House.{content_limit}
use Rattle.steps.specs.Numbers.{form_of}
use Rattle.state.specs.declared.Check.{Check}
use Rattle.state.specs.Check.{fed_all}
use Rattle.fill.specs.Buffers.{Lists}
use Rattle.fill.specs.declared.Head.{Head}
use Rattle.fill.specs.Fill.{text_left, ends_left, rows_left}
use Rattle.fill.specs.Walk.{text_ahead, ends_ahead, rows_ahead, Grown, Wrote, raised}
use Rattle.fill.proofs.Left.{text-none, ends-none, rows_none}
use Rattle.fill.proofs.Part.{ends-any, rows-any, text-most, Entries, ends-part, rows-part}
use Rattle.stride.specs.Stride.{Ample as Enough}
use Rattle.output.specs.Out.{nothing}
use Rattle.output.specs.declared.Room.{Room}
use Rattle.output.specs.Stream.{shown, left, onward, streamed}
use Rattle.taking.specs.declared.Flow.{Flow}
use Rattle.taking.specs.Walk.{lengths, room_at, rest_of, adding, Inside, Put, Grew}
use Rattle.room.specs.Room.{Plain, dialect_of, put_out, Ample}
use Rattle.room.proofs.Window.{Small, Holds, windowed, beyond}
use Rattle.taking.proofs.Growing.{put-none, put-size}
use Rattle.parts.proofs.Raised.{put-raised, put-small}

-- a part of a list from one place to another
module _ {A : Type 0} (l : List A) (from to : ℕ) (o : from ≤ to) (v : to ≤ length l) where
  abbrev between : List A
  between = take (to - from) (drop from l)

  pub between-length : length between ≡ to - from
  between-length = length-take-le (to - from) (drop from l) (omega (arith, length-drop from l))

  pub between-then : drop from l ≡ between ++ drop to l
  between-then =
      let e : from + (to - from) ≡ to = omega arith in
      sym (take-append-drop (to - from) (drop from l)) ∙ ap (λ (r : List A). between ++ r) (drop-drop (to - from) from l ∙ ap (λ (j : ℕ). drop j l) e)

  -- it is what stands from the one on in the list up to the other
  pub between-front : drop from (take to l) ≡ between
  between-front =
      let p : List A = take from l in
      let n : length p ≡ from = length-take-le from l (omega arith) in
      let e : l ≡ (p ++ between) ++ drop to l = sym (take-append-drop from l) ∙ (ap (λ (r : List A). p ++ r) between-then ∙ sym (append_assoc p between (drop to l))) in
      let m : length (p ++ between) ≡ to = length-append p between ∙ omega (arith, n, between-length) in
      let f : take to l ≡ p ++ between = ap (take to) e ∙ take_at (p ++ between) (drop to l) to m in
      ap (drop from) f ∙ drop_at p between from n

-- over the limit
module _ (piece : Bytes) (B : Lists) (p : Flow) (w : Inside p (lengths piece B)) (plain : Plain p) (to : ℕ) (on : p.taken ≤ to) (v : to ≤ length piece) where
  abbrev c : Check
  c = p.state.check

  abbrev g : Bytes
  g = take (to - p.taken) (drop p.taken piece)

  rest_is : (r : Room) → streamed p.state (drop p.taken piece) r ≡ streamed (onward c) (g ++ drop to piece) r
  rest_is r = (λ i. streamed (plain i) (between-then piece p.taken to on v i) r)

  pub beyond-grew :
      content_limit < c.field.content → {e : Check} → e ≡ fed_all c g → shown e ≡ false
      → {q : Flow} → q ≡ record { state = onward e; taken = to; text = p.text; ends = p.ends; rows = p.rows; short = None }
      → Grew piece p B q B (rest_of q piece B)
  beyond-grew l {e} i s u =
      let n = between-length piece p.taken to on v in
      let r = room_at p B in
      rw u
      (record {
        new = nothing;
        on = on;
        inside = v;
        model = rest_is r
            ∙ (beyond g (drop to piece) c r l (rw i at s)
            ∙ λ j. adding (n j) nothing (streamed (onward (sym i j)) (drop to piece) r));
        text_on = put-none w.text_in;
        ends_on = put-none w.ends_in;
        rows_on = put-none w.rows_in;
      })

-- within it
module _ (piece : Bytes) (B : Lists) {p : Flow} {n : ℕ} (m : Ample p n (lengths piece B)) (plain : Plain p) where
  abbrev goal : ℕ
  goal = p.taken + n

  abbrev part : Bytes
  part = take (goal - p.taken) (drop p.taken piece)

  on : p.taken ≤ goal
  on = omega arith

  part_length : length part ≡ goal - p.taken
  part_length = between-length piece p.taken goal on m.taken_room

  -- what the rest of that part of the piece puts out
  pub part-grew :
      {e : Check} → e ≡ fed_all p.state.check part → shown e ≡ false → e.field.content ≤ content_limit → {B' : Lists} {k₁ k₂ k₃ : ℕ} {q : Flow}
      → q ≡ record { state = onward e; taken = goal; text = k₁; ends = k₂; rows = k₃; short = None }
      → Put B.text p.text (put_out p.state.check (drop p.taken (take goal piece))).text B'.text k₁
      → Put B.ends p.ends (put_out p.state.check (drop p.taken (take goal piece))).ends B'.ends k₂
      → Put B.rows p.rows (put_out p.state.check (drop p.taken (take goal piece))).rows B'.rows k₃
      → Grew piece p B q B' (rest_of q piece B')
  part-grew {e} i s l {B'} {k₁} {k₂} {k₃} u v₁ v₂ v₃ =
      let c : Check = p.state.check in
      let o = put_out c part in
      let r = room_at p B in
      let k = part_length in
      let z = between-front piece p.taken goal on m.taken_room in
      let w₁ : Put B.text p.text o.text B'.text k₁ = rw z at v₁ in
      let w₂ : Put B.ends p.ends o.ends B'.ends k₂ = rw z at v₂ in
      let w₃ : Put B.rows p.rows o.rows B'.rows k₃ = rw z at v₃ in
      let q₀ : Flow = record { state = onward e; taken = goal; text = k₁; ends = k₂; rows = k₃; short = None } in
      let small : Small c (length part) = record { text = omega (arith, m.small); fields = omega (arith, m.few) } in
      let h : Holds o r = record { text = omega (arith, w₁.room); ends = omega (arith, w₂.room); rows = omega (arith, w₃.room) } in
      let x : length B.text - p.text - length o.text ≡ length B'.text - k₁ = omega (arith, put-size w₁, w₁.at_is) in
      let y : length B.ends - p.ends - length o.ends ≡ length B'.ends - k₂ = omega (arith, put-size w₂, w₂.at_is) in
      let z : length B.rows - p.rows - length o.rows ≡ length B'.rows - k₃ = omega (arith, put-size w₃, w₃.at_is) in
      let r' : left o r ≡ room_at q₀ B' = λ j. record { text = x j; ends = y j; rows = z j } in
      rw u
      (record {
        new = o;
        on = omega arith;
        inside = m.taken_room;
        model = (λ j. streamed (plain j) (between-then piece p.taken goal on m.taken_room j) r)
            ∙ (windowed part (drop goal piece) c r small (rw i at s) (rw i at l) h
            ∙ λ j. adding (part_length j) o (streamed (onward (sym i j)) (drop goal piece) (r' j)));
        text_on = w₁;
        ends_on = w₂;
        rows_on = w₃;
      })

-- the part by itself
pub ample-part :
    {p : Flow} {n : ℕ} (piece : Bytes) (B : Lists) → Ample p n (lengths piece B)
    → let part = take (p.taken + n) piece in Ample p (length part - p.taken) (lengths part B)
ample-part {p} {n} piece B m =
    let l : length (take (p.taken + n) piece) ≡ p.taken + n = length-take-le (p.taken + n) piece m.taken_room in
    let e : length (take (p.taken + n) piece) - p.taken ≡ n = omega (arith, l) in
    record {
      taken_room = omega (arith, l);
      text_room = omega (arith, e, m.text_room);
      ends_room = omega (arith, e, m.ends_room);
      rows_room = omega (arith, e, m.rows_room);
      text_count = m.text_count;
      field_count = m.field_count;
      small = omega (arith, e, m.small);
      few = omega (arith, e, m.few);
    }

grown-put : {buf rest buf' rest' : List ℕ} {at at' : ℕ} → Grown buf at rest buf' at' rest' → rest' ≡ [] → at ≤ length buf → Put buf at rest buf' at'
grown-put {buf} {at = at} g e l =
    let n = g.rest_is ∙ (ap (λ (r : List ℕ). g.new ++ r) e ∙ append-nil g.new) in
    let k = ap length n in
    record {
      room = omega (arith, g.room);
      buf_is = g.buf_is ∙ ap (sets buf at) (sym n);
      at_is = omega (arith, g.at_is);
    }

-- what the second walk writes for the rest of a piece, whose ends and rows it counts from the front of each buffer
module _ (piece : Bytes) (B : Lists) {p : Flow} (o : p.taken ≤ length piece) (m : Ample p (length piece - p.taken) (lengths piece B)) (u : Bool) where
  abbrev check : Check
  check = p.state.check

  abbrev first : Head
  first = record { at = p.taken; form = check.form; held = check.field.held; text = p.text; ends = p.ends; rows = p.rows; begun = u }

  abbrev ahead : Bytes
  ahead = drop p.taken piece

  ahead-length : length ahead ≡ length piece - p.taken
  ahead-length = length-drop p.taken piece

  abbrev ends_from : ℕ → List ℕ
  ends_from n = ends_left false (dialect_of check) ahead (form_of check.form) check.field.held n u

  abbrev rows_from : ℕ → List ℕ
  rows_from n = rows_left false (dialect_of check) ahead (form_of check.form) n u

  -- greater by what came before this call
  abbrev text_before : ℕ
  text_before = check.counts.text + check.field.content - p.text

  abbrev fields_before : ℕ
  fields_before = check.counts.fields.0 - p.ends

  ends-entries : Entries (dialect_of check) text_before (length ahead) (p.text + check.field.held + length ahead) (ends_from p.text) (ends_from (p.text + text_before))
  ends-entries = ends-part (dialect_of check) text_before ahead (form_of check.form) check.field.held p.text u

  rows-entries : Entries (dialect_of check) fields_before (length ahead) (p.ends + length ahead) (rows_from p.ends) (rows_from (p.ends + fields_before))
  rows-entries = rows-part (dialect_of check) fields_before ahead (form_of check.form) p.ends u

  ends-out : raised text_before (ends_from p.text) ≡ (put_out check ahead).ends
  ends-out =
      let e : p.text + text_before ≡ check.counts.text + check.field.content = omega (arith, m.text_count) in
      sym ends-entries.greater ∙ (ap ends_from e ∙ ends-any (dialect_of check) ahead (form_of check.form) check.field.held (check.counts.text + check.field.content) u true)

  rows_out : raised fields_before (rows_from p.ends) ≡ (put_out check ahead).rows
  rows_out =
      let e : p.ends + fields_before ≡ check.counts.fields.0 = omega (arith, m.field_count) in
      sym rows-entries.greater ∙ (ap rows_from e ∙ rows-any (dialect_of check) ahead (form_of check.form) check.counts.fields.0 u true)

  -- there is room for all of it
  enough : Enough false (dialect_of check) piece first B
  enough =
      let t = text-most (dialect_of check) ahead (form_of check.form) check.field.held in
      let a = ahead-length in
      record {
        text_room = omega (arith, m.text_room);
        ends_room = omega (arith, ends-entries.few, m.ends_room);
        rows_room = omega (arith, rows-entries.few, m.rows_room);
        text_small = omega (arith, m.text_count, m.small);
        ends_small = omega (arith, ends-entries.few, m.field_count, m.few);
        held = omega (arith, m.small);
      }

  module _
      {t : Pair} (e : t ≡ record { delimiter = check.delimiter; leniencies = check.leniencies }) {q : Head} {B' : Lists} (wrote : (w : Bool) → Wrote w (meant_by t) piece first B q B')
      (to_the_end : (w : Bool) → Enough w (meant_by t) piece first B → length piece ≤ q.at)
    where
      written : Wrote false (dialect_of check) piece first B q B'
      written = rw e at (wrote false)

      at_end : length piece ≤ q.at
      at_end = to_the_end false (rw e enough)

      none : drop q.at piece ≡ []
      none = drop_of_length-le piece at_end

      pub text-put : Put B.text p.text (put_out check ahead).text B'.text q.text
      text-put =
          let e : text_ahead (dialect_of check) piece q ≡ [] = ap (λ (f : Bytes). text_left (dialect_of check) f (form_of q.form) q.held) none ∙ text-none (dialect_of check) (form_of q.form) q.held in
          grown-put written.text_on e (omega (arith, m.text_room))

      ends-put : Put B.ends p.ends (ends_from p.text) B'.ends q.ends
      ends-put =
          let e : ends_ahead false (dialect_of check) piece q ≡ [] =
          ap (λ (f : Bytes). ends_left false (dialect_of check) f (form_of q.form) q.held q.text q.begun) none
          ∙ (ends-any (dialect_of check) [] (form_of q.form) q.held q.text q.begun false ∙ ends-none false (dialect_of check) (form_of q.form) q.held q.text false) in
          grown-put written.ends_on e (omega (arith, m.ends_room))

      rows-put : Put B.rows p.rows (rows_from p.ends) B'.rows q.rows
      rows-put =
          let e : rows_ahead false (dialect_of check) piece q ≡ [] =
          ap (λ (f : Bytes). rows_left false (dialect_of check) f (form_of q.form) q.ends q.begun) none
          ∙ (rows-any (dialect_of check) [] (form_of q.form) q.ends q.begun false ∙ rows_none false (dialect_of check) (form_of q.form) q.ends false) in
          grown-put written.rows_on e (omega (arith, m.rows_room))

      pub ends-within : (p.ends ≤ q.ends) × (q.ends ≤ length B'.ends)
      ends-within = let w = ends-put in (omega (arith, w.at_is), omega (arith, w.at_is, w.room, put-size w))

      pub rows-within : (p.rows ≤ q.rows) × (q.rows ≤ length B'.rows)
      rows-within = let w = rows-put in (omega (arith, w.at_is), omega (arith, w.at_is, w.room, put-size w))

      pub ends-small : All (λ (x : ℕ). x + text_before < 2 ^ 32) (take (q.ends - p.ends) (drop p.ends B'.ends))
      ends-small = put-small ends-put text_before (p.text + check.field.held + length ahead) ends-entries.small (omega (arith, ahead-length, m.text_count, m.small))

      pub rows-small : All (λ (x : ℕ). x + fields_before < 2 ^ 32) (take (q.rows - p.rows) (drop p.rows B'.rows))
      rows-small = put-small rows-put fields_before (p.ends + length ahead) rows-entries.small (omega (arith, ahead-length, m.field_count, m.few))

      pub ends-raised :
          {l : List ℕ} → l ≡ map (λ (x : ℕ). x + text_before) (take (q.ends - p.ends) (drop p.ends B'.ends))
          → Put B.ends p.ends (put_out check ahead).ends (put_mid p.ends (q.ends - p.ends) B'.ends l) q.ends
      ends-raised {l} e = subst (λ (r : List ℕ). Put B.ends p.ends r (put_mid p.ends (q.ends - p.ends) B'.ends l) q.ends) ends-out (put-raised ends-put text_before e)

      pub rows-raised :
          {l : List ℕ} → l ≡ map (λ (x : ℕ). x + fields_before) (take (q.rows - p.rows) (drop p.rows B'.rows))
          → Put B.rows p.rows (put_out check ahead).rows (put_mid p.rows (q.rows - p.rows) B'.rows l) q.rows
      rows-raised {l} e = subst (λ (r : List ℕ). Put B.rows p.rows r (put_mid p.rows (q.rows - p.rows) B'.rows l) q.rows) rows_out (put-raised rows-put fields_before e)
