-- `stream::feed` meets its contract.
use Prim.Native.Nat.{ℕ}
use mathlib.Core.Path.{◌≡◌, refl}
use Rattle.std.proofs.Common.{Option, None, Some, MatchOption}
use Rattle.output.specs.declared.Buffer.{Buffer}
use Rattle.output.specs.Stream.{buffer_number, short_number}
use Rattle.output.proofs.Meaning.{so-fed}
use Rattle.stream.proofs.Whole.{grew-into}
use Rattle.stream.proofs.feed.Goals as goal

numbered : (o : Option Buffer) (n : ℕ) → MatchOption o (n ≡ 0) (λ b. n ≡ buffer_number b) → n ≡ short_number o
numbered None n h = h
numbered (Some b) n h = h

pub returns-clause-fed : goal.returns-clause-fed
returns-clause-fed c = so-fed (grew-into c.flowed-flow.ensures.grew (rw (c.told.ensures, numbered c.flowed-flow.result.short c.map_or.result c.map_or.ensures) refl))
