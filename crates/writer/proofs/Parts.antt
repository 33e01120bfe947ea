-- A buffer written through the part behind a place: what is written over the part's front is written at that place.
use Prim.Native.Nat.{ℕ, ◌+◌, ◌-◌, ◌≤◌}
use native.Mathlib.Omega.{arith}
use mathlib.Core.Path.{◌≡◌, sym, ap, ◌∙◌}
use mathlib.Core.List.{[], append_assoc, append-nil}
use lib.ListN.{length, take, drop, length-drop, drop_of_length-le}
use lib.Seq.{sets, sets-eq, take_all, length-sets}
use borrow.Rule.Slice.PartMut.{put_mid}
use Rattle.std.proofs.lemmas.List.{drop-drop}
use Rattle.format.specs.Table.{Bytes}
use Rattle.format.specs.Filling.{over}

module _ (buf : Bytes) (at : ℕ) where
  -- the part has the rest of the buffer
  part_is : take (length buf - at) (drop at buf) ≡ drop at buf
  part_is = take_all (length buf - at) (drop at buf) (omega (arith, length-drop at buf))

  pub part_length : length (take (length buf - at) (drop at buf)) ≡ length buf - at
  part_length = ap length part_is ∙ length-drop at buf

  pub part_written :
      (xs : Bytes) {part : Bytes} → at + length xs ≤ length buf → part ≡ over xs (take (length buf - at) (drop at buf))
      → put_mid at (length buf - at) buf part ≡ sets buf at xs
  part_written xs {part} h e =
      let short : length (drop at buf) ≤ length buf - at = omega (arith, length-drop at buf) in
      let none : drop (length buf - at) (drop at buf) ≡ [] = drop_of_length-le (drop at buf) short in
      rw (none, append-nil, e, part_is, drop-drop (length xs) at buf) (sym (sets-eq xs buf at h ∙ append_assoc (take at buf) xs (drop (at + length xs) buf)))

  pub written_length :
      (xs : Bytes) {part : Bytes} → at + length xs ≤ length buf → part ≡ over xs (take (length buf - at) (drop at buf))
      → length (put_mid at (length buf - at) buf part) ≡ length buf
  written_length xs h e = ap length (part_written xs h e) ∙ length-sets buf at xs
