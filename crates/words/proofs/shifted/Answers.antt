-- `words::shifted` meets its contract.
use Prim.Native.Nat.{◌^◌, ◌≤◌, ◌<◌}
use native.Mathlib.Nat.{lt_of_lt_of_le, div-eq_of_lt}
use native.Mathlib.Omega.{arith}
use mathlib.Core.Path.{sym}
use lib.Pow.{pow_mono}
use Rattle.words.proofs.shifted.Goals as goal

-- a word has at most 64 marks
pub returns-else-n-lt64 : goal.returns-else-n-lt64
returns-else-n-lt64 c =
    let a = c.args in
    let word : a.w < 2 ^ 64 = omega arith in
    let far : 64 ≤ a.n = omega (arith, c.if-n-lt64.false) in
    sym (div-eq_of_lt (lt_of_lt_of_le word (pow_mono far)))
