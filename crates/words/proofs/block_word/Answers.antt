-- `words::block_word`: the word of each four is shifted behind those before it, and that of the last bytes behind all.
use Rattle.std.proofs.Common.{ℕ, ◌≡◌, ◌∙◌, ◌+◌, ◌*◌, ◌/◌, ◌%◌, ◌≤◌, ◌<◌, List, [], refl, sym, ap, length, take, drop, get_or, length-drop}
use native.Mathlib.Omega.{arith}
use lib.Seq.{take_all}
use Rattle.words.specs.Words.{word}
use Rattle.words.proofs.Words.{chunk-at, word-more, word-fits}
use Rattle.words.proofs.block_word.Goals as goal

pub loop-k-init : goal.loop-k-init
unfolding word
loop-k-init c = refl

module _ (c : goal.After-short_word) where
  inside : c.loop-k.k < length c.args.block.now / 8
  inside = omega (arith, c.as_chunks.ensures.front_len)

  four : c.short_word.result ≡ word c.args.marks.now (take 8 (drop (8 * c.loop-k.k) c.args.block.now))
  four =
      c.short_word.ensures
      ∙ ap (λ (l : List (List ℕ)). word c.args.marks.now (get_or l c.loop-k.k [])) c.as_chunks.ensures.front
      ∙ ap (word c.args.marks.now) (chunk-at 8 (length c.args.block.now / 8) c.loop-k.k c.args.block.now inside)

pub overflow_add-w : goal.overflow_add-w
overflow_add-w c =
    let k = inside c in
    omega (arith, word-fits c.args.marks.now c.args.block.now (8 * c.loop-k.k) 8 c.loop-k.w c.short_word.result (omega arith) (omega arith) c.loop-k.invariant (four c))

pub loop-k-preserved : goal.loop-k-preserved
loop-k-preserved c =
    let k = inside c in
    let next : 8 * c.loop-k.k + 8 ≡ 8 * (c.loop-k.k + 1) = omega arith in
    word-more c.args.marks.now c.args.block.now (8 * c.loop-k.k) 8 _ _ (omega arith) (omega arith) c.loop-k.invariant (four c)
    ∙ ap (λ (n : ℕ). word c.args.marks.now (take n c.args.block.now)) next

module _ (c : goal.After-short_word-2) where
  passed : 8 * length c.as_chunks.result.0.now ≡ length c.args.block.now / 8 * 8
  passed = omega (arith, c.as_chunks.ensures.front_len)

  before : c.loop-k.w ≡ word c.args.marks.now (take (8 * length c.as_chunks.result.0.now) c.args.block.now)
  before =
      let e : c.loop-k.k ≡ length c.as_chunks.result.0.now = omega arith in
      c.loop-k.invariant ∙ ap (λ (k : ℕ). word c.args.marks.now (take (8 * k) c.args.block.now)) e

  last_word :
      c.short_word-2.result ≡ word c.args.marks.now (take (length c.args.block.now % 8) (drop (8 * length c.as_chunks.result.0.now) c.args.block.now))
  last_word =
      let few : length (drop (8 * length c.as_chunks.result.0.now) c.args.block.now) ≤ length c.args.block.now % 8 = simp length-drop (omega (arith, passed)) in
      c.short_word-2.ensures
      ∙ ap (word c.args.marks.now) (c.as_chunks.ensures.back ∙ ap (λ (n : ℕ). drop n c.args.block.now) (sym passed) ∙ sym (take_all (length c.args.block.now % 8) (drop (8 * length c.as_chunks.result.0.now) c.args.block.now) few))

pub overflow_add-result : goal.overflow_add-result
overflow_add-result c =
    omega (
      arith,
      word-fits c.args.marks.now c.args.block.now (8 * length c.as_chunks.result.0.now) (length c.args.block.now % 8) c.loop-k.w c.short_word-2.result (omega (arith, passed c)) (omega (arith, passed c)) (before c) (last_word c),
    )

pub returns : goal.returns
returns c =
    let all : length c.args.block.now ≤ 8 * length c.as_chunks.result.0.now + length c.args.block.now % 8 = omega (arith, passed c) in
    word-more c.args.marks.now c.args.block.now (8 * length c.as_chunks.result.0.now) (length c.args.block.now % 8) _ _ (omega (arith, passed c)) (omega (arith, passed c)) (before c) (last_word c)
    ∙ ap (word c.args.marks.now) (take_all (8 * length c.as_chunks.result.0.now + length c.args.block.now % 8) c.args.block.now all)
