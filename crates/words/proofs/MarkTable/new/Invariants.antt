-- `words::MarkTable::new`: all entries but those from b to 0x7E are right.
use Rattle.std.proofs.Common.{ℕ, ◌≡◌, ◌≤◌, ◌<◌, length, get_or, not, false}
use Rattle.words.proofs.MarkTable.new.Given as goal

abbrev pub invariant-loop-b : goal.invariant-loop-b
invariant-loop-b g l = record {
  long : length l.marks ≡ 256;
  right : (k : ℕ) → k < 256 → (l.b ≤ k → k ≤ 0x7E → ⊥) → get_or l.marks k false ≡ not (g.K.Kind.content l.kind k);
}
