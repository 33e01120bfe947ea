-- A whole call.
use Prim.Native.Nat.{ℕ, ◌+◌, ◌-◌, ◌≤◌, ◌<◌}
use native.Mathlib.Omega.{arith}
use mathlib.Core.Path.{◌≡◌, refl, sym, subst, ◌∙◌}
use Rattle.std.proofs.Common.{Option, None, Some, IfSome, IfNone, unwrap_or}
use mathlib.Core.List.{List}
use lib.ListN.{length}
use Rattle.format.specs.Table.{Bytes}
use Rattle.fill.specs.Buffers.{Lists}
use Rattle.format.specs.Filling.{over}
use Rattle.format.proofs.Filling.{begin}
use Rattle.output.specs.declared.Stream.{Stream}
use Rattle.output.specs.Stream.{Called, streamed, closed_by, answer_of, short_number}
use Rattle.output.specs.Promises.{Into, room_of}
use Rattle.output.specs.declared.Streamed.{Streamed}
use Rattle.output.proofs.Step.{then-nothing}
use Rattle.taking.specs.declared.Flow.{Flow}
use Rattle.taking.specs.Walk.{begun, lengths, rest_of, stop_at, Inside, Put, Grew, Took}
use Rattle.taking.proofs.Growing.{grew_none, grew_then, grew-inside, took-end}

filled : {A : Type 0} {buf new buf' : List A} {at : ℕ} → Put buf 0 new buf' at → (at ≡ length new) × (buf' ≡ over new buf)
filled {new = new} w = (w.at_is ∙ omega arith, w.buf_is ∙ (begin new (omega (arith, w.room))).fills)

module _ {piece : Bytes} {B : Lists} {s : Stream} {q : Flow} {B' : Lists} where
  -- it took what it has come over, and put out what it has written
  whole_is :
      (g : Grew piece (begun s) B q B' (stop_at q))
      → streamed s piece (room_of B.text B.ends B.rows) ≡ record { taken = q.taken; out = g.new; short = short_number q.short; state = q.state }
  whole_is g =
      let x : length B.text ≡ length B.text - 0 = omega arith in
      let y : length B.ends ≡ length B.ends - 0 = omega arith in
      let z : length B.rows ≡ length B.rows - 0 = omega arith in
      let t : q.taken - 0 + 0 ≡ q.taken = omega arith in
      (λ i. streamed s piece (record { text = x i; ends = y i; rows = z i }))
      ∙ (g.model ∙ λ i. record { taken = t i; out = then-nothing g.new i; short = short_number q.short; state = q.state })

  pub grew-into :
      Grew piece (begun s) B q B' (stop_at q) → {r : Streamed}
      → r ≡ record { state = q.state; taken = q.taken; text = q.text; ends = q.ends; rows = q.rows; short = short_number q.short; closed = closed_by q.state; answer = answer_of q.state }
      → Into (streamed s piece (room_of B.text B.ends B.rows)) B.text B.ends B.rows r B'.text B'.ends B'.rows
  grew-into g {r} e =
      let t = filled g.text_on in
      let u = filled g.ends_on in
      let v = filled g.rows_on in
      subst (λ (c : Called). Into c B.text B.ends B.rows r B'.text B'.ends B'.rows) (sym (whole_is g))
      (rw e
      (record {
        state = refl;
        taken = refl;
        short = refl;
        closed = refl;
        answer = refl;
        text_count = t.0;
        ends_count = u.0;
        rows_count = v.0;
        text_is = t.1;
        ends_is = u.1;
        rows_is = v.1;
      }))

-- A turn of the walk: behind what has come, a part of the piece, if one is taken, and then a byte, or the call ends there.
module _
    {piece : Bytes} {B₀ B₁ B₂ B₃ : Lists} {h₀ h p q : Flow} (l : Grew piece h₀ B₀ h B₁ (rest_of h piece B₁)) (m : Option Flow)
    (s : IfSome m (λ p. Grew piece h B₁ p B₂ (rest_of p piece B₂))) (n : IfNone m (B₂ ≡ B₁)) (u : p ≡ unwrap_or m h)
    (g : Inside p (lengths piece B₂) → Took piece p B₂ q B₃)
  where
    part : Grew piece h B₁ p B₂ (rest_of p piece B₂)
    part = rw u (by m s n)
      where
        by :
            (m : Option Flow) → IfSome m (λ p. Grew piece h B₁ p B₂ (rest_of p piece B₂)) → IfNone m (B₂ ≡ B₁)
            → let p = unwrap_or m h in Grew piece h B₁ p B₂ (rest_of p piece B₂)
        by None s n = rw n (grew_none (grew-inside l))
        by (Some p) s n = s

    byte : Took piece p B₂ q B₃
    byte = g (grew-inside part)

    further : (q.taken ≡ p.taken → ⊥) → p.taken < q.taken
    further n = omega (arith, n, byte.on)

    pub turn-ended : q.taken ≡ p.taken → Grew piece h₀ B₀ q B₃ (stop_at q)
    turn-ended e = grew_then (grew_then l part) (byte.ended e)

    pub turn-taken : (q.taken ≡ p.taken → ⊥) → Grew piece h₀ B₀ q B₃ (rest_of q piece B₃)
    turn-taken n = grew_then (grew_then l part) (byte.took (further n))

-- at the end of the piece no byte is taken
pub turn_last :
    {piece : Bytes} {B₀ B₁ B₂ : Lists} {h₀ h q : Flow} → Grew piece h₀ B₀ h B₁ (rest_of h piece B₁)
    → (Inside h (lengths piece B₁) → Took piece h B₁ q B₂) → length piece ≤ h.taken → Grew piece h₀ B₀ q B₂ (stop_at q)
turn_last l g k = let w = g (grew-inside l) in grew_then l (w.ended (took-end w k))
