-- `words::MarkTable::new`: before the loop, no byte outside 0x20 to 0x7E is content but the one beyond.
use Rattle.std.proofs.Common.{ℕ, ◌≡◌, ◌∙◌, ◌<◌, Bool, true, false, not, eqb, length, get_or, set, refl, sym, ap, length-set, get_or-set_other, get_or-set_same}
use native.Mathlib.Omega.{arith}
use lib.ListN.{replicate, get_or-replicate}
use borrow.Author.Tests.{eqb-true, eqb-false}
use Rattle.words.proofs.MarkTable.new.Goals as goal
use Rattle.words.proofs.MarkTable.new.Goals.{in-Some, in_default}

all_marked : (p : ℕ → Bool) (k : ℕ) → k < 256 → p k ≡ false → get_or (replicate 256 true) k false ≡ not (p k)
all_marked p k h e = get_or-replicate 256 k true false h ∙ sym (ap not e)

one_judged : (p : ℕ → Bool) (o : ℕ) (v : Bool) → v ≡ p o → (k : ℕ) → k < 256 → ((o ≡ k → ⊥) → p k ≡ false) → get_or (set (replicate 256 true) o (not v)) k false ≡ not (p k)
one_judged p o v e k h none = go (eqb k o) refl
  where
    go : (x : Bool) → eqb k o ≡ x → get_or (set (replicate 256 true) o (not v)) k false ≡ not (p k)
    go true q =
        let at : o < length (replicate 256 true) = omega (arith, eqb-true k o q) in
        rw (eqb-true k o q, get_or-set_same) (ap not e)
    go false q =
        let ne = eqb-false k o q in
        rw get_or-set_other (all_marked p k h (none (λ r. ne (sym r))))

pub loop-b-init : goal.loop-b-init
loop-b-init g c =
    let kind = c.args.kind in
    elim c.match-beyond.branch [
      | in-Some w ↦
          rw w.marks-is
          record {
            long = length-set (replicate 256 true) w.from.result (not w.is_content.result);
            right = λ k h out.
                rw w.from.ensures
                (one_judged (g.K.Kind.content kind) w.in-Some.b w.is_content.result w.is_content.ensures k h (λ other. g.met.K.Kind.no_more kind k out (λ e. other (cc))));
          }
      | in_default w ↦
          rw w.marks-is
          record { long = refl; right = λ k h out. all_marked (g.K.Kind.content kind) k h (g.met.K.Kind.no_more kind k out (λ e. cc)) }
    ]
