-- The content of a field, byte by byte.
use Prim.Native.Nat.{ℕ, ◌+◌, ◌≤◌, ◌<◌}
use native.Mathlib.Numerals.{add-one}
use native.Mathlib.Omega.{arith}
use mathlib.Core.Path.{◌≡◌, ap}
use mathlib.Core.List.{[], ◌∷◌}
use lib.ListN.{length, drop, get_or, set, drop_of_length-le}
use lib.Seq.{drop-cons}
use Rattle.format.specs.Table.{Bytes}
use Rattle.format.specs.WrittenForms.{doubled}
use Rattle.format.specs.Filling.{over, Filling}
use Rattle.format.proofs.Filling.{begin, move, push}
use Rattle.format.proofs.Lines.{doubled-quote, doubled-other, doubled-none, doubled-least}

-- the content from place i on is still to be written, at place o; it ends at last
pub record Going (content : Bytes) (i : ℕ) (out : Bytes) (o : ℕ) (all : Bytes) (last : ℕ) : Type 0 where
  pub ahead : Filling out o (doubled (drop i content)) all
  pub reaches : o + length (doubled (drop i content)) ≡ last

module _ (content : Bytes) (i : ℕ) (out : Bytes) (o : ℕ) (all : Bytes) (last : ℕ) (g : Going content i out o all last) where
  byte_at : i < length content → drop i content ≡ get_or content i 0 ∷ drop (i + 1) content
  byte_at h = rw add-one (drop-cons content i 0 h)

  quote-next : i < length content → get_or content i 0 ≡ 0x22 → doubled (drop i content) ≡ get_or content i 0 ∷ 0x22 ∷ doubled (drop (i + 1) content)
  quote-next h e = rw (byte_at h, e) (doubled-quote (drop (i + 1) content))

  other-next : i < length content → (get_or content i 0 ≡ 0x22 → ⊥) → doubled (drop i content) ≡ get_or content i 0 ∷ doubled (drop (i + 1) content)
  other-next h e = rw (byte_at h) (doubled-other (get_or content i 0) (drop (i + 1) content) e)

  pub room : i < length content → o < length out
  room h = omega (arith, g.ahead.room, doubled-least (drop i content), ap length (byte_at h))

  pub pair-room : i < length content → get_or content i 0 ≡ 0x22 → o + 1 < length out
  pair-room h e = omega (arith, g.ahead.room, ap length (quote-next h e))

  pub by-quote : i < length content → get_or content i 0 ≡ 0x22 → Going content (i + 1) (set (set out o (get_or content i 0)) (o + 1) 0x22) (o + 1 + 1) all last
  by-quote h e =
      record {
        ahead = push all (push all (move (quote-next h e) g.ahead));
        reaches = omega (arith, g.reaches, ap length (quote-next h e));
      }

  pub by-other : i < length content → (get_or content i 0 ≡ 0x22 → ⊥) → Going content (i + 1) (set out o (get_or content i 0)) (o + 1) all last
  by-other h e =
      record { ahead = push all (move (other-next h e) g.ahead); reaches = omega (arith, g.reaches, ap length (other-next h e)) }

  pub in_all : length content ≤ i → (o ≡ last) × (out ≡ all)
  in_all h =
      let none : doubled (drop i content) ≡ [] = rw (drop_of_length-le content h) doubled-none in
      (omega (arith, g.reaches, ap length none), (move none g.ahead).fills)

pub going : (content out : Bytes) → length (doubled content) ≤ length out
    → Going content 0 out 0 (over (doubled content) out) (length (doubled content))
going content out h = record { ahead = begin (doubled content) h; reaches = omega arith }
