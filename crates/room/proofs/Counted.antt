-- What follows for bytes that have room, and for those that can be taken at once.
use Prim.Native.Nat.{ℕ, ◌+◌, ◌-◌, ◌≤◌, ◌<◌, min}
use native.Mathlib.Omega.{arith}
use mathlib.Core.Path.{◌≡◌, refl}
use mathlib.Core.Bool.{Bool, true, false, not, ◌||◌}
use lib.Dec.{eqb, ltb}
use borrow.Author.Tests.{ltb-true, ltb-false, eqb-true, not-false}
use Rattle.format.specs.House.{content_limit, file_limit}
use Rattle.taking.specs.declared.Flow.{Flow}
use Rattle.taking.specs.declared.Lengths.{Lengths}
use Rattle.taking.specs.Walk.{room_left, inside_by}
use Rattle.format.proofs.Tests.{neither}
use Rattle.taking.proofs.Growing.{by-inside}
use Rattle.room.specs.Room.{counted, fields_counted, room_for, part_of, Ample, Passable}

-- bytes for which there is room
pub ample : (p : Flow) (n : ℕ) (l : Lengths) → 0 < n → p.taken + n ≤ l.piece → n ≤ room_for p (room_left p l) → Ample p n l
unfolding room_for
ample p n l some k h = by (ltb (counted p) p.text || ltb (fields_counted p) p.ends) refl
  where
    by : (x : Bool) → (ltb (counted p) p.text || ltb (fields_counted p) p.ends) ≡ x → Ample p n l
    by true e = let m : n ≤ 0 = rw e at h in absurd (omega arith)
    by false e =
        let w = neither _ _ e in
        let d = p.state.check.field.held in
        let m : n ≤ min (min (min (min (l.text - p.text - d) (file_limit - (counted p + d))) (l.ends - p.ends)) (l.rows - p.rows)) (file_limit - fields_counted p) = rw e at h in
        record {
          taken_room = k;
          text_room = omega arith;
          ends_room = omega arith;
          rows_room = omega arith;
          text_count = ltb-false _ _ w.0;
          field_count = ltb-false _ _ w.1;
          small = omega arith;
          few = omega arith;
        }

-- bytes that can be taken at once
pub passable : (p : Flow) (most : ℕ) {n : ℕ} (l : Lengths) → n ≡ part_of p most l → 1 ≤ n → Passable p n l
unfolding part_of
passable p most {n} l q some = by (inside_by p l) (not (eqb p.state.early 0) || not (eqb p.state.closed 0)) (ltb content_limit p.state.check.field.content) refl refl refl
  where
    -- with room unless content is over the limit
    able :
        inside_by p l ≡ true → (not (eqb p.state.early 0) || not (eqb p.state.closed 0)) ≡ false → n ≤ l.piece - p.taken
        → (p.state.check.field.content ≤ content_limit → n ≤ room_for p (room_left p l)) → Passable p n l
    able u v m r =
        let w = neither (not (eqb p.state.early 0)) (not (eqb p.state.closed 0)) v in
        let early : p.state.early ≡ 0 = eqb-true p.state.early 0 (not-false (eqb p.state.early 0) w.0) in
        let closed : p.state.closed ≡ 0 = eqb-true p.state.closed 0 (not-false (eqb p.state.closed 0) w.1) in
        let inside = by-inside p l u in
        let k : p.taken + n ≤ l.piece = omega (arith, m, inside.taken_in) in
        record {
          plain = λ j. record { check = p.state.check; early = early j; closed = closed j };
          inside = inside;
          taken_room = k;
          ample = λ h. ample p n l some k (r h);
        }

    by :
        (x y z : Bool) → inside_by p l ≡ x → (not (eqb p.state.early 0) || not (eqb p.state.closed 0)) ≡ y → ltb content_limit p.state.check.field.content ≡ z
        → Passable p n l
    by false y z u v w = let m : n ≡ 0 = rw u at q in absurd (omega arith)
    by true true z u v w = let m : n ≡ 0 = rw (u, v) at q in absurd (omega arith)
    by true false true u v w =
        let m : n ≡ min most (l.piece - p.taken) = rw (u, v, w) at q in able u v (omega arith) (λ h. absurd (omega (arith, h, ltb-true content_limit p.state.check.field.content w)))
    by true false false u v w =
        let m : n ≡ min (min most (l.piece - p.taken)) (room_for p (room_left p l)) = rw (u, v, w) at q in able u v (omega arith) (λ h. omega arith)
