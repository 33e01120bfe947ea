-- How a call goes on: one stretch behind another, and by one byte.
use Prim.Native.Nat.{ℕ, suc, ◌+◌, ◌-◌, ◌≤◌, ◌<◌, min}
use native.Mathlib.Numerals.{add-one}
use native.Mathlib.Omega.{arith}
use mathlib.Core.Path.{◌≡◌, refl, sym, ap, ◌∙◌}
use mathlib.Core.Bool.{Bool, true, false, ◌&&◌}
use lib.Dec.{leb}
use Rattle.std.proofs.Common.{None, Some}
use mathlib.Core.List.{List, [], ◌∷◌, ◌++◌, append-nil}
use lib.ListN.{length, drop, get_or, replicate, length-append, length-replicate, drop_of_length-le}
use lib.Seq.{sets, drop-cons, length-sets, take-append_seam}
use borrow.Author.Tests.{leb-true, leb-false, le-leb}
use Rattle.format.specs.Table.{Bytes}
use Rattle.format.proofs.Filling.{sets-append}
use Rattle.format.proofs.Tests.{and_both}
use Rattle.fill.specs.Buffers.{Lists}
use Rattle.state.specs.declared.Check.{Check}
use Rattle.state.specs.Check.{fed}
use Rattle.output.specs.Out.{Out, nothing, then}
use Rattle.output.specs.declared.Buffer.{Buffer, TheVariants.Text, TheVariants.Ends, TheVariants.Rows}
use Rattle.output.specs.declared.Room.{Room}
use Rattle.output.specs.Stream.{shown, is_over, blanks_due, due, due_out, fits, left, short_of, buffer_number, Called, idle, onward, stuck, taking, streamed}
use Rattle.output.proofs.Calls.{then-then}
use Rattle.output.specs.declared.Due.{Due}
use Rattle.output.proofs.Bytewise.{short-fits, short-not, fits-parts, streamed-none, streamed-over, streamed-shown, streamed-taken, streamed-stuck}
use Rattle.taking.specs.declared.Flow.{Flow}
use Rattle.taking.specs.declared.Lengths.{Lengths}
use Rattle.taking.specs.Walk.{lengths, room_left, room_at, rest_of, adding, Inside, inside_by, Put, Grew, Took}

-- a buffer
module _ {A : Type 0} where
  pub put-none : {buf : List A} {at : ℕ} → at ≤ length buf → Put buf at [] buf at
  put-none l = record { room = omega arith; buf_is = refl; at_is = omega arith }

  pub put-size : {buf new buf' : List A} {at at' : ℕ} → Put buf at new buf' at' → length buf' ≡ length buf
  put-size {buf} {new} {at = at} w = ap length w.buf_is ∙ length-sets buf at new

  put_then : {buf new buf' new' buf'' : List A} {at at' at'' : ℕ} → Put buf at new buf' at' → Put buf' at' new' buf'' at'' → Put buf at (new ++ new') buf'' at''
  put_then {buf} {new} {new' = new'} {at = at} v w =
      let l = length-append new new' in
      record {
        room = omega (arith, w.room, v.at_is, put-size v);
        buf_is = w.buf_is ∙ rw (v.buf_is, v.at_is) (sym (sets-append new new' buf at));
        at_is = omega (arith, v.at_is, w.at_is);
      }

-- the rest of a call
pub adds_none : (x : Called) → x ≡ adding 0 nothing x
adds_none x = let z : x.taken ≡ 0 + x.taken = omega arith in λ i. record { taken = z i; out = x.out; short = x.short; state = x.state }

adds-adds : (j k : ℕ) (o p : Out) (x : Called) → adding j o (adding k p x) ≡ adding (j + k) (then o p) x
adds-adds j k o p x =
    let e = then-then o p x.out in
    let z : j + (k + x.taken) ≡ j + k + x.taken = omega arith in
    λ i. record { taken = z i; out = sym e i; short = x.short; state = x.state }

-- the call stays
pub grew_none : {piece : Bytes} {B : Lists} {p : Flow} → Inside p (lengths piece B) → Grew piece p B p B (rest_of p piece B)
grew_none {piece} {B} {p} w =
    let z : p.taken - p.taken ≡ 0 = omega arith in
    record {
      new = nothing;
      on = omega arith;
      inside = w.taken_in;
      model = adds_none (rest_of p piece B) ∙ ap (λ (k : ℕ). adding k nothing (rest_of p piece B)) (sym z);
      text_on = put-none w.text_in;
      ends_on = put-none w.ends_in;
      rows_on = put-none w.rows_in;
    }

-- it goes on
pub grew_then :
    {piece : Bytes} {B B' B'' : Lists} {p q s : Flow} {x : Called}
    → Grew piece p B q B' (rest_of q piece B') → Grew piece q B' s B'' x
    → Grew piece p B s B'' x
grew_then {p = p} {q} {s} {x} g h =
    let i = g.on in
    let j = h.on in
    let z : q.taken - p.taken + (s.taken - q.taken) ≡ s.taken - p.taken = omega arith in
    record {
      new = then g.new h.new;
      on = omega arith;
      inside = h.inside;
      model = g.model
          ∙ (ap (adding (q.taken - p.taken) g.new) h.model
          ∙ (adds-adds (q.taken - p.taken) (s.taken - q.taken) g.new h.new x ∙ ap (λ (k : ℕ). adding k (then g.new h.new) x) z));
      text_on = put_then g.text_on h.text_on;
      ends_on = put_then g.ends_on h.ends_on;
      rows_on = put_then g.rows_on h.rows_on;
    }

-- and stays in the piece and in each buffer, which keep their lengths
pub grew-inside :
    {piece : Bytes} {B B' : Lists} {p q : Flow} {x : Called} → Grew piece p B q B' x
    → Inside q (lengths piece B')
grew-inside g =
    record {
      taken_in = g.inside;
      text_in = omega (arith, g.text_on.room, g.text_on.at_is, put-size g.text_on);
      ends_in = omega (arith, g.ends_on.room, g.ends_on.at_is, put-size g.ends_on);
      rows_in = omega (arith, g.rows_on.room, g.rows_on.at_is, put-size g.rows_on);
    }

-- where no buffer is short there is room
pub fits-left :
    (p : Flow) (l : Lengths) (u : Out) → Inside p l → 0 ≡ short_of u (room_left p l)
    → (p.text + length u.text ≤ l.text) × (p.ends + length u.ends ≤ l.ends) × (p.rows + length u.rows ≤ l.rows)
fits-left p l u w z =
    let f = fits-parts u (room_left p l) (short-fits u (room_left p l) (sym z)) in (omega (arith, f.0, w.text_in), omega (arith, f.1, w.ends_in), omega (arith, f.2, w.rows_in))

-- where the call ends
abbrev pub stilled : Flow → Flow
stilled p = record { state = p.state; taken = p.taken; text = p.text; ends = p.ends; rows = p.rows; short = None }

module _ (piece : Bytes) (B : Lists) (p : Flow) (w : Inside p (lengths piece B)) where
  idle-took : rest_of p piece B ≡ idle p.state → Took piece p B (stilled p) B
  idle-took e =
      let z : p.taken - p.taken ≡ 0 = omega arith in
      record {
        on = omega arith;
        took = λ l. absurd (omega arith);
        ended = λ n. record {
          new = nothing;
          on = omega arith;
          inside = w.taken_in;
          model = e ∙ (adds_none (idle p.state) ∙ ap (λ (k : ℕ). adding k nothing (idle p.state)) (sym z));
          text_on = put-none w.text_in;
          ends_on = put-none w.ends_in;
          rows_on = put-none w.rows_in;
        };
      }

  -- at the end of the piece, or of the stream
  pub end-took : p.taken ≡ length piece → Took piece p B (stilled p) B
  end-took l = idle-took (ap (λ (f : Bytes). streamed p.state f (room_at p B)) (drop_of_length-le piece (omega (arith, l))) ∙ streamed-none p.state (room_at p B))

  pub over-took : is_over p.state ≡ true → Took piece p B (stilled p) B
  over-took h = idle-took (streamed-over p.state (room_at p B) (drop p.taken piece) h)

  -- one byte
  module _ (n : p.taken ≡ length piece → ⊥) (h : is_over p.state ≡ false) where
    l : p.taken < length piece
    l = omega (arith, n, w.taken_in)

    abbrev b : ℕ
    b = get_or piece p.taken 0

    abbrev c : Check
    c = p.state.check

    abbrev o : Out
    o = due p.state.early c b (fed c b)

    first : drop p.taken piece ≡ b ∷ drop (p.taken + 1) piece
    first = rw (add-one p.taken) (drop-cons piece p.taken 0 l)

    rest_is : rest_of p piece B ≡ streamed p.state (b ∷ drop (p.taken + 1) piece) (room_at p B)
    rest_is = ap (λ (f : Bytes). streamed p.state f (room_at p B)) first

    abbrev next : ℕ → ℕ → ℕ → Flow
    next n m k = record { state = onward (fed c b); taken = p.taken + 1; text = n; ends = m; rows = k; short = None }

    abbrev behind_byte : Check → Flow
    behind_byte d = record { state = onward d; taken = p.taken + 1; text = p.text; ends = p.ends; rows = p.rows; short = None }

    one_on : p.taken + 1 - p.taken ≡ 1
    one_on = omega arith

    -- that shows a refusal
    pub shown-took : {e : Check} → e ≡ fed c b → shown e ≡ true → {q : Flow} → q ≡ behind_byte e → Took piece p B q B
    shown-took x j u =
        let i : shown (fed c b) ≡ true = rw x at j in
        let v : is_over (onward (fed c b)) ≡ true = rw i in
        let q₀ = next p.text p.ends p.rows in
        let y : rest_of q₀ piece B ≡ idle (onward (fed c b)) = streamed-over (onward (fed c b)) (room_at q₀ B) (drop (p.taken + 1) piece) v in
        rw (u ∙ ap behind_byte x)
        (record {
          on = omega arith;
          ended = λ z. absurd (omega arith);
          took = λ z. record {
            new = nothing;
            on = omega arith;
            inside = omega arith;
            model = rest_is
                ∙ (streamed-shown p.state (room_at p B) b (drop (p.taken + 1) piece) h i
                ∙ λ j. adding (sym one_on j) nothing (sym y j));
            text_on = put-none w.text_in;
            ends_on = put-none w.ends_in;
            rows_on = put-none w.rows_in;
          };
        })

    module _ (i : shown (fed c b) ≡ false) where
      -- whose output fits
      due-took :
          fits o (room_at p B) ≡ true → {q : Flow} {B' : Lists}
          → q ≡ next (p.text + length o.text) (p.ends + length o.ends) (p.rows + length o.rows)
          → p.text + length o.text ≤ length B.text → p.ends + length o.ends ≤ length B.ends → p.rows + length o.rows ≤ length B.rows
          → B'.text ≡ sets B.text p.text o.text → B'.ends ≡ sets B.ends p.ends o.ends → B'.rows ≡ sets B.rows p.rows o.rows
          → Took piece p B q B'
      due-took j {B' = B'} e k₁ k₂ k₃ t₁ t₂ t₃ =
          let q₀ = next (p.text + length o.text) (p.ends + length o.ends) (p.rows + length o.rows) in
          let w₁ : Put B.text p.text o.text B'.text (p.text + length o.text) = record { room = k₁; buf_is = t₁; at_is = refl } in
          let w₂ : Put B.ends p.ends o.ends B'.ends (p.ends + length o.ends) = record { room = k₂; buf_is = t₂; at_is = refl } in
          let w₃ : Put B.rows p.rows o.rows B'.rows (p.rows + length o.rows) = record { room = k₃; buf_is = t₃; at_is = refl } in
          let x : length B.text - p.text - length o.text ≡ length B'.text - (p.text + length o.text) = omega (arith, put-size w₁) in
          let y : length B.ends - p.ends - length o.ends ≡ length B'.ends - (p.ends + length o.ends) = omega (arith, put-size w₂) in
          let z : length B.rows - p.rows - length o.rows ≡ length B'.rows - (p.rows + length o.rows) = omega (arith, put-size w₃) in
          let r : left o (room_at p B) ≡ room_at q₀ B' = λ n. record { text = x n; ends = y n; rows = z n } in
          let a : suc (rest_of q₀ piece B').taken ≡ p.taken + 1 - p.taken + (rest_of q₀ piece B').taken = omega arith in
          rw e
          (record {
            on = omega arith;
            ended = λ z. absurd (omega arith);
            took = λ z. record {
              new = o;
              on = omega arith;
              inside = omega arith;
              model = rest_is
                  ∙ (streamed-taken p.state (room_at p B) b (drop (p.taken + 1) piece) h i j
                  ∙ (ap (λ (m : Room). taking o (streamed (onward (fed c b)) (drop (p.taken + 1) piece) m)) r
                  ∙ λ n. record { taken = a n; out = then o (rest_of q₀ piece B').out; short = (rest_of q₀ piece B').short; state = (rest_of q₀ piece B').state }));
              text_on = w₁;
              ends_on = w₂;
              rows_on = w₃;
            };
          })

      -- whose output does not
      stuck-took :
          fits o (room_at p B) ≡ false → (k : ℕ) → k ≡ min (blanks_due p.state.early c (fed c b)) (length B.text - p.text) → {short : Buffer}
          → buffer_number short ≡ short_of o (room_at p B) → {q : Flow} {text' : List ℕ}
          → q ≡ record { state = record { check = c; early = p.state.early + k; closed = p.state.closed }; taken = p.taken; text = p.text + k; ends = p.ends; rows = p.rows; short = Some short }
          → text' ≡ sets B.text p.text (replicate k 0x20) → Took piece p B q (record { text = text'; ends = B.ends; rows = B.rows })
      stuck-took j k a {short} v e t =
          let m = w.text_in in
          let n : length {A = ℕ} (replicate k 0x20) ≡ k = length-replicate k 0x20 in
          let y : 0 ≡ p.taken - p.taken + 0 = omega arith in
          let sp : ℕ = 0x20 in
          let u : replicate k sp ≡ replicate k sp ++ [] = sym (append-nil (replicate k sp)) in
          rw e
          (record {
            on = omega arith;
            took = λ z. absurd (omega arith);
            ended = λ z. record {
              new = record { text = replicate k 0x20; ends = []; rows = [] };
              on = omega arith;
              inside = w.taken_in;
              model = rest_is
                  ∙ (streamed-stuck p.state (room_at p B) b (drop (p.taken + 1) piece) h i j
                  ∙ (ap (stuck p.state o (room_at p B)) (sym a)
                  ∙ λ m. record {
                    taken = y m;
                    out = record { text = u m; ends = []; rows = [] };
                    short = sym v m;
                    state = record { check = c; early = p.state.early + k; closed = p.state.closed };
                  }));
              text_on = record { room = omega arith; buf_is = t; at_is = omega arith };
              ends_on = put-none w.ends_in;
              rows_on = put-none w.rows_in;
            };
          })

      -- by what the code has computed of it, and of the buffer that is short
      module _ {e : Check} (x : e ≡ fed c b) (d : Due) (y : due_out d ≡ due p.state.early c b e) where
        is-due : due_out d ≡ o
        is-due = y ∙ ap (due p.state.early c b) x

        module _ (z : 0 ≡ short_of (due_out d) (room_at p B)) where
          z' : 0 ≡ short_of o (room_at p B)
          z' = z ∙ ap (λ (u : Out). short_of u (room_at p B)) is-due

          pub put-took :
              {q : Flow} {B' : Lists}
              → q ≡ record { state = onward e; taken = p.taken + 1; text = p.text + length (due_out d).text; ends = p.ends + length (due_out d).ends; rows = p.rows + length (due_out d).rows; short = None }
              → B'.text ≡ sets B.text p.text (due_out d).text → B'.ends ≡ sets B.ends p.ends (due_out d).ends → B'.rows ≡ sets B.rows p.rows (due_out d).rows
              → Took piece p B q B'
          put-took u t₁ t₂ t₃ =
              let (f₁, f₂, f₃) = fits-left p (lengths piece B) o w z' in
              due-took (short-fits o (room_at p B) (sym z')) (u ∙ λ j. record { state = onward (x j); taken = p.taken + 1; text = p.text + length (is-due j).text; ends = p.ends + length (is-due j).ends; rows = p.rows + length (is-due j).rows; short = None })
              f₁ f₂ f₃ (t₁ ∙ ap (λ (u : Out). sets B.text p.text u.text) is-due) (t₂ ∙ ap (λ (u : Out). sets B.ends p.ends u.ends) is-due) (t₃ ∙ ap (λ (u : Out). sets B.rows p.rows u.rows) is-due)

        pub stick-took :
            {short : Buffer} → buffer_number short ≡ short_of (due_out d) (room_at p B) → d.blanks ≡ blanks_due p.state.early c e → (k : ℕ)
            → k ≡ min d.blanks (length B.text - p.text) → {q : Flow} {text' : List ℕ}
            → q ≡ record { state = record { check = c; early = p.state.early + k; closed = p.state.closed }; taken = p.taken; text = p.text + k; ends = p.ends; rows = p.rows; short = Some short }
            → text' ≡ sets B.text p.text (replicate k 0x20) → Took piece p B q (record { text = text'; ends = B.ends; rows = B.rows })
        stick-took {short} z a k v u t =
            let s : buffer_number short ≡ short_of o (room_at p B) = z ∙ ap (λ (u : Out). short_of u (room_at p B)) is-due in
            stuck-took (short-not o (room_at p B) (λ e. some-short short (s ∙ e))) k (v ∙ (λ j. min ((a ∙ ap (blanks_due p.state.early c) x) j) (length B.text - p.text))) s u t
          where
            some-short : (b : Buffer) → buffer_number b ≡ 0 → ⊥
            some-short Text e = omega (arith, e)
            some-short Ends e = omega (arith, e)
            some-short Rows e = omega (arith, e)

-- inside by the lengths
pub by-inside : (p : Flow) (l : Lengths) → inside_by p l ≡ true → Inside p l
by-inside p l h =
    let x = and_both ((leb p.taken l.piece && leb p.text l.text) && leb p.ends l.ends) (leb p.rows l.rows) h in
    let y = and_both (leb p.taken l.piece && leb p.text l.text) (leb p.ends l.ends) x.0 in
    let z = and_both (leb p.taken l.piece) (leb p.text l.text) y.0 in
    record {
      taken_in = leb-true p.taken l.piece z.0;
      text_in = leb-true p.text l.text z.1;
      ends_in = leb-true p.ends l.ends y.1;
      rows_in = leb-true p.rows l.rows x.1;
    }

pub inside-by : (p : Flow) (l : Lengths) → Inside p l → inside_by p l ≡ true
inside-by p l w = rw (le-leb p.taken l.piece w.taken_in, le-leb p.text l.text w.text_in, le-leb p.ends l.ends w.ends_in, le-leb p.rows l.rows w.rows_in)

-- Two calls that have come as far have written the same.
same-front : {A : Type 0} (xs ys r s : List A) → xs ++ r ≡ ys ++ s → length xs ≡ length ys → xs ≡ ys
same-front xs ys r s e l = sym (take-append_seam xs r) ∙ rw (e, l) (take-append_seam ys s)

pub one-grew :
    {piece : Bytes} {B C D : Lists} {p q r : Flow} {x y : Called} → Grew piece p B q C x → Grew piece p B r D y → q.text ≡ r.text → q.ends ≡ r.ends → q.rows ≡ r.rows → C ≡ D
one-grew {B = B} {p = p} {x = x} {y} g h a b c =
    let m = sym g.model ∙ h.model in
    let t = same-front g.new.text h.new.text x.out.text y.out.text (ap (λ (z : Called). z.out.text) m) (omega (arith, g.text_on.at_is, h.text_on.at_is)) in
    let e = same-front g.new.ends h.new.ends x.out.ends y.out.ends (ap (λ (z : Called). z.out.ends) m) (omega (arith, g.ends_on.at_is, h.ends_on.at_is)) in
    let r = same-front g.new.rows h.new.rows x.out.rows y.out.rows (ap (λ (z : Called). z.out.rows) m) (omega (arith, g.rows_on.at_is, h.rows_on.at_is)) in
    λ i. record {
      text = (g.text_on.buf_is ∙ ap (sets B.text p.text) t ∙ sym h.text_on.buf_is) i;
      ends = (g.ends_on.buf_is ∙ ap (sets B.ends p.ends) e ∙ sym h.ends_on.buf_is) i;
      rows = (g.rows_on.buf_is ∙ ap (sets B.rows p.rows) r ∙ sym h.rows_on.buf_is) i;
    }

-- where the piece ends the call does
pub took-end :
    {piece : Bytes} {B B' : Lists} {p q : Flow} → Took piece p B q B' → length piece ≤ p.taken → q.taken ≡ p.taken
took-end {p = p} {q} w l = by (leb q.taken p.taken) refl
  where
    by : (y : Bool) → leb q.taken p.taken ≡ y → q.taken ≡ p.taken
    by true e = omega (arith, leb-true q.taken p.taken e, w.on)
    by false e = let m = leb-false q.taken p.taken e in absurd (omega (arith, (w.took m).inside))
