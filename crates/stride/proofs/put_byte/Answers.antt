-- `stride::put_byte` meets its contract.
use Prim.Native.Nat.{ℕ, ◌+◌, ◌-◌, ◌≤◌}
use native.Mathlib.Omega.{arith}
use mathlib.Core.Path.{◌≡◌, ◌∙◌}
use mathlib.Core.List.{List, [], ◌∷◌}
use lib.ListN.{length, replicate, take, drop, length-append, length-replicate, length-drop}
use lib.Seq.{length-take-le}
use Rattle.fill.proofs.Put.{set-put_mid}
use Rattle.stride.proofs.put_byte.Goals as goal

-- the blanks that were written
blanks :
    (text new : List ℕ) (at last held : ℕ) → last ≤ length text → last ≡ at + held → new ≡ replicate (length (take (last - at) (drop at text))) 0x20 → new ≡ replicate held 0x20
blanks text new at last held l e h =
    let size : length (take (last - at) (drop at text)) ≡ held = length-take-le (last - at) (drop at text) (omega (arith, length-drop at text)) ∙ omega arith in
    rw size at h

pub returns : goal.returns
returns c =
    let a = c.args in
    let last = c.in_ok-last.ensures.1 in
    let held = length-replicate {A = ℕ} a.p.held 0x20 in
    let size = length-append {A = ℕ} (replicate a.p.held 0x20) (a.b ∷ []) in
    let new = blanks a.text.now c.fill.new.self a.p.text c.in_ok-last.last a.p.held (omega arith) last (c.fill.ensures.after (λ y h. h)) in
    record {
      place = (omega (arith, size, held), omega (arith, size, held));
      written = rw new (set-put_mid a.p.text (c.in_ok-last.last - a.p.text) a.text.now (replicate a.p.held 0x20) c.in_ok-last.last a.b (omega (arith, held)) (omega arith) (omega arith));
      unchanged = tt;
    }
