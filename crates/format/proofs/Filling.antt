-- The laws of a buffer that is filled from the front, over any type of element.
use Prim.Native.Nat.{ℕ, suc, ◌+◌, ◌≤◌, ◌<◌}
use mathlib.Core.Path.{◌≡◌, refl, sym, ◌∙◌, ap, subst}
use mathlib.Core.List.{List, [], ◌∷◌, ◌++◌}
use native.Mathlib.Nat.{zero-add, add-zero, add-suc, suc-add}
use native.Mathlib.Numerals.{add-one}
use native.Mathlib.Omega.{arith}
use lib.ListN.{length, set, replicate, length-set, length-append, length-replicate}
use lib.Seq.{sets, sets-eq, length-sets}
use Rattle.format.specs.Filling.{over, Filling, Onward}

module _ {A : Type 0} where
  -- what a buffer with room is to become, from a place on and from the front
  pub meant : (buf : List A) (at : ℕ) (rest : List A) → at + length rest ≤ length buf → Filling buf at rest (sets buf at rest)
  meant buf at rest h = record { room = h; fills = refl }

  pub begin : (all : List A) {buf : List A} → length all ≤ length buf → Filling buf 0 all (over all buf)
  begin all {buf} h =
      let h' : 0 + length all ≤ length buf = omega arith in
      record { room = h'; fills = rw (sets-eq all buf 0 h', zero-add) }

  pub move : {buf rest rest' target : List A} {at : ℕ} → rest ≡ rest' → Filling buf at rest target → Filling buf at rest' target
  move {buf} {target = target} {at = at} e f = subst (λ (l : List A). Filling buf at l target) e f

  pub room_at : {buf rest target : List A} {at : ℕ} {x : A} → Filling buf at (x ∷ rest) target → at < length buf
  room_at f = omega (arith, f.room)

  -- two buffers that are to become the same are as long as each other
  pub same_size :
      {buf buf' rest rest' target : List A} {at at' : ℕ} → Filling buf at rest target → Filling buf' at' rest' target → length buf ≡ length buf'
  same_size {buf} {buf'} {rest} {rest'} {at = at} {at' = at'} f g =
      sym (length-sets buf at rest) ∙ ap length (f.fills ∙ sym g.fills) ∙ length-sets buf' at' rest'

  -- nothing is written; an element is; a list is; n equal elements are
  pub stay : {buf rest : List A} {at : ℕ} → Onward buf at rest buf at rest
  stay target f = f

  pub push : {buf rest : List A} {at : ℕ} {x : A} → Onward buf at (x ∷ rest) (set buf at x) (at + 1) rest
  push target f = record { room = simp length-set (omega (arith, f.room)); fills = rw add-one f.fills }

  pub sets-append : (xs rest buf : List A) (at : ℕ) → sets buf at (xs ++ rest) ≡ sets (sets buf at xs) (at + length xs) rest
  sets-append [] rest buf at = rw add-zero
  sets-append (x ∷ xs) rest buf at = rw (add-suc, ← suc-add) (sets-append xs rest (set buf at x) (suc at))

  pub pushes : (xs : List A) {buf rest : List A} {at : ℕ} → Onward buf at (xs ++ rest) (sets buf at xs) (at + length xs) rest
  pushes xs {buf} {rest} {at} target f =
      record {
        room = simp length-sets (omega (arith, f.room, length-append xs rest));
        fills = sym (sets-append xs rest buf at) ∙ f.fills;
      }

  pub push-equal : (n : ℕ) (x : A) {buf rest : List A} {at : ℕ} → Onward buf at (replicate n x ++ rest) (sets buf at (replicate n x)) (at + n) rest
  push-equal n x {buf} {rest} {at} target f =
      subst (λ (m : ℕ). Filling (sets buf at (replicate n x)) (at + m) rest target) (length-replicate n x) (pushes (replicate n x) target f)

  -- room for a list with which the rest begins
  pub room_for : (xs rest : List A) {buf target : List A} {at : ℕ} → Filling buf at (xs ++ rest) target → at + length xs ≤ length buf
  room_for xs rest f = omega (arith, f.room, length-append xs rest)
