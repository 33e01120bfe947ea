-- The laws of a buffer that was written on, over any type of element, and of a walk that wrote.
use Prim.Native.Nat.{ℕ, ◌+◌, ◌≤◌, ◌<◌}
use native.Mathlib.Omega.{arith}
use mathlib.Core.Path.{◌≡◌, refl, sym, ap, ◌∙◌}
use mathlib.Core.Bool.{Bool}
use mathlib.Core.List.{List, [], ◌∷◌, ◌++◌, append_assoc}
use lib.ListN.{length, set, length-append}
use lib.Seq.{sets, length-sets}
use Rattle.format.specs.Table.{Bytes}
use Rattle.format.specs.Dialect.{Dialect}
use Rattle.format.specs.Filling.{Onward}
use Rattle.format.proofs.Filling.{move, pushes, sets-append}
use Rattle.fill.specs.declared.Head.{Head}
use Rattle.fill.specs.declared.Buffers.{Buffers}
use Rattle.fill.specs.Buffers.{Lists, SameBuffers}
use Rattle.fill.specs.Walk.{Grown, Wrote}

module _ {A : Type 0} where
  -- nothing is new; an element is; a list is
  pub grown-none : {buf rest rest' : List A} {at : ℕ} → rest ≡ rest' → Grown buf at rest buf at rest'
  grown-none e = record { new = []; rest_is = e; room = omega arith; buf_is = refl; at_is = omega arith }

  pub grown-one : {buf rest rest' : List A} {at : ℕ} {x : A} → at < length buf → rest ≡ x ∷ rest' → Grown buf at rest (set buf at x) (at + 1) rest'
  grown-one {x = x} l e = record { new = x ∷ []; rest_is = e; room = omega arith; buf_is = refl; at_is = omega arith }

  pub grown-list :
      (xs : List A) {buf rest rest' : List A} {at n : ℕ} → length xs ≡ n → at + n ≤ length buf → rest ≡ xs ++ rest'
      → Grown buf at rest (sets buf at xs) (at + n) rest'
  grown-list xs e l h = record { new = xs; rest_is = h; room = omega arith; buf_is = refl; at_is = omega arith }

  -- the buffer keeps its length
  pub grown-size : {buf rest buf' rest' : List A} {at at' : ℕ} → Grown buf at rest buf' at' rest' → length buf' ≡ length buf
  grown-size {buf} {at = at} g = ap length g.buf_is ∙ length-sets buf at g.new

  -- what is written and still to come stays as long
  pub grown-all : {buf rest buf' rest' : List A} {at at' : ℕ} → Grown buf at rest buf' at' rest' → at' + length rest' ≡ at + length rest
  grown-all {rest' = rest'} g = omega (arith, g.at_is, ap length g.rest_is, length-append g.new rest')

  -- one behind another
  pub grown-then :
      {buf rest buf' rest' buf'' rest'' : List A} {at at' at'' : ℕ}
      → Grown buf at rest buf' at' rest' → Grown buf' at' rest' buf'' at'' rest'' → Grown buf at rest buf'' at'' rest''
  grown-then {buf} {rest'' = rest''} {at = at} g h =
      let both = length-append g.new h.new in
      record {
        new = g.new ++ h.new;
        rest_is = g.rest_is ∙ ap (λ (r : List A). g.new ++ r) h.rest_is ∙ sym (append_assoc g.new h.new rest'');
        room = omega (arith, both, g.room, h.room, g.at_is, grown-size g);
        buf_is = h.buf_is ∙ rw (g.buf_is, g.at_is) (sym (sets-append g.new h.new buf at));
        at_is = omega (arith, both, g.at_is, h.at_is);
      }

  -- so whatever the buffer was to become, it is still to become
  pub grown-onward : {buf rest buf' rest' : List A} {at at' : ℕ} → Grown buf at rest buf' at' rest' → Onward buf at rest buf' at' rest'
  grown-onward g target w = rw (g.buf_is, g.at_is) (pushes g.new target (move g.rest_is w))

-- the walk stays; it goes on
pub wrote_none : {w : Bool} {d : Dialect} {f : Bytes} {p : Head} {b : Lists} → Wrote w d f p b p b
wrote_none =
    record {
      on = omega arith;
      inside = λ l. l;
      held = omega arith;
      text_on = grown-none refl;
      ends_on = grown-none refl;
      rows_on = grown-none refl;
    }

pub wrote_then : {w : Bool} {d : Dialect} {f : Bytes} {p q r : Head} {b b' b'' : Lists} → Wrote w d f p b q b' → Wrote w d f q b' r b'' → Wrote w d f p b r b''
wrote_then g h =
    record {
      on = omega (arith, g.on, h.on);
      inside = λ l. h.inside (g.inside l);
      held = omega (arith, g.held, h.held);
      text_on = grown-then g.text_on h.text_on;
      ends_on = grown-then g.ends_on h.ends_on;
      rows_on = grown-then g.rows_on h.rows_on;
    }

-- the buffers are those that they were, from one call to the next
pub same-then : {b b' b'' : Buffers} → SameBuffers b b' → SameBuffers b' b'' → SameBuffers b b''
same-then g h = record { same_text = h.same_text ∙ g.same_text; same_ends = h.same_ends ∙ g.same_ends; same_rows = h.same_rows ∙ g.same_rows }
