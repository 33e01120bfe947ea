-- The second walk between quotes: bytes of content, pairs of quotes, and what they come to.
use Prim.Native.Nat.{ℕ, zero, suc, ◌+◌, ◌*◌, ◌≤◌, ◌<◌}
use Rattle.std.specs.Prelude.{Some}
use native.Mathlib.Numerals.{add-one}
use native.Mathlib.Omega.{arith}
use mathlib.Core.Path.{◌≡◌, sym, refl, ap, ◌∙◌}
use mathlib.Core.Bool.{Bool, true}
use mathlib.Core.List.{◌∷◌}
use lib.ListN.{length, get_or, set, take, drop, replicate, length-drop, length-set, length-replicate}
use lib.Seq.{sets, drop-cons, length-take-le}
use Rattle.format.specs.Table.{Bytes}
use Rattle.format.specs.Dialect.{lf, Dialect, class_of}
use Rattle.steps.specs.Steps.{quoted, put, go, step_of}
use Rattle.runs.specs.Runs.{run, is_inner, pairs}
use Rattle.runs.proofs.Runs.{run-le, run-first, run-within, pairs-le, pairs_first}
use Rattle.runs.proofs.Bytes.{inner-inside}
use Rattle.fill.specs.declared.Head.{Head}
use Rattle.fill.specs.Fill.{text_left, ends_left, rows_left}
use Rattle.fill.specs.Walk.{ends_ahead, rows_ahead, Wrote, NoQuote, Inside}
use Rattle.fill.specs.Buffers.{Lists}
use Rattle.fill.specs.Put.{Puts as Written}
use Rattle.fill.proofs.Grown.{grown-none, grown-one, grown-then}
use Rattle.fill.proofs.Left.{text_byte, ends-byte, rows-byte}
use Rattle.fill.proofs.Copy.{two_at}
use Rattle.format.proofs.Classes.{quote-beside, LF-inside}
use Rattle.steps.proofs.Rules.{form-back}
use Rattle.steps.proofs.Acts.{inside-puts, quote-shuts, quote-pairs}
use Rattle.steps.specs.Numbers.{form_number}

-- a byte that is content between quotes in every dialect
abbrev pub Puts : ℕ → Type 0
Puts b = (d : Dialect) → step_of (d.allows lf) quoted (class_of d b) ≡ go quoted put

pub puts-inner : (b : ℕ) → is_inner b ≡ true → Puts b
puts-inner b e d = inside-puts (d.allows lf) (class_of d b) (inner-inside d b e)

pub puts-LF : (b : ℕ) → b ≡ 0x0A → Puts b
puts-LF b e d = rw e (inside-puts (d.allows lf) (class_of d 0x0A) (LF-inside d))

-- one such byte at i
module _ (d : Dialect) (f : Bytes) (i : ℕ) (v : i < length f) (e : Puts (get_or f i 0)) where
  byte-text : text_left d (drop i f) quoted 0 ≡ get_or f i 0 ∷ text_left d (drop (i + 1) f) quoted 0
  byte-text = rw (add-one, drop-cons f i 0 v, text_byte d, e d)

  byte-ends : (w : Bool) (n : ℕ) → ends_left w d (drop i f) quoted 0 n true ≡ ends_left w d (drop (i + 1) f) quoted 0 (n + 1) true
  byte-ends w n = let z : n + 0 + 1 ≡ n + 1 = omega arith in rw (add-one i, drop-cons f i 0 v, ends-byte w d, e d) (ap (λ (k : ℕ). ends_left w d (drop (suc i) f) quoted 0 k true) z)

  byte-rows : (w : Bool) (m : ℕ) → rows_left w d (drop i f) quoted m true ≡ rows_left w d (drop (i + 1) f) quoted m true
  byte-rows w m = rw (add-one i, drop-cons f i 0 v, rows-byte w d, e d)

-- a pair of quotes at i
module _ (d : Dialect) (o : NoQuote d) (f : Bytes) (i : ℕ) (v : i + 1 < length f) (e₁ : get_or f i 0 ≡ 0x22) (e₂ : get_or f (i + 1) 0 ≡ 0x22) where
  pair-text : text_left d (drop i f) quoted 0 ≡ 0x22 ∷ text_left d (drop (i + 2) f) quoted 0
  pair-text = rw (two_at f i v e₁ e₂, text_byte d, quote-beside d o, quote-shuts (d.allows lf), text_byte d, quote-beside d o, quote-pairs (d.allows lf))

  pair_ends : (w : Bool) (n : ℕ) → ends_left w d (drop i f) quoted 0 n true ≡ ends_left w d (drop (i + 2) f) quoted 0 (n + 1) true
  pair_ends w n = let z : n + 0 + 1 ≡ n + 1 = omega arith in rw (two_at f i v e₁ e₂, ends-byte w d, quote-beside d o, quote-shuts (d.allows lf), ends-byte w d, quote-beside d o, quote-pairs (d.allows lf)) (ap (λ (k : ℕ). ends_left w d (drop (i + 2) f) quoted 0 k true) z)

  pair-rows : (w : Bool) (m : ℕ) → rows_left w d (drop i f) quoted m true ≡ rows_left w d (drop (i + 2) f) quoted m true
  pair-rows w m = rw (two_at f i v e₁ e₂, rows-byte w d, quote-beside d o, quote-shuts (d.allows lf), rows-byte w d, quote-beside d o, quote-pairs (d.allows lf))

-- the start
pub inside-start : (f : Bytes) (i n : ℕ) (t : Bytes) → i ≤ length f → Inside f i n t i n t
inside-start f i n t h =
    record {
      on = omega arith;
      within = h;
      text_on = λ d o. grown-none refl;
      ends_on = λ w d o. refl;
      rows_on = λ w d o m. refl;
    }

module _ {f : Bytes} {a n₀ : ℕ} {t₀ : Bytes} where
  inside-at : {i j n m : ℕ} {t u : Bytes} → i ≡ j → n ≡ m → t ≡ u → Inside f a n₀ t₀ i n t → Inside f a n₀ t₀ j m u
  inside-at e₁ e₂ e₃ h = rw (← e₁, ← e₂, ← e₃) h

  inside-byte :
      {i n : ℕ} {t : Bytes} → Inside f a n₀ t₀ i n t → n < length t → i < length f → Puts (get_or f i 0) → Inside f a n₀ t₀ (i + 1) (n + 1) (set t n (get_or f i 0))
  inside-byte {i} {n} h l v e =
      record {
        on = omega (arith, h.on);
        within = omega arith;
        text_on = λ d o. grown-then (h.text_on d o) (grown-one l (byte-text d f i v e));
        ends_on = λ w d o. h.ends_on w d o ∙ byte-ends d f i v e w n;
        rows_on = λ w d o m. h.rows_on w d o m ∙ byte-rows d f i v e w m;
      }

  inside-pair :
      {i n : ℕ} {t : Bytes} → Inside f a n₀ t₀ i n t → n < length t → i + 1 < length f → get_or f i 0 ≡ 0x22 → get_or f (i + 1) 0 ≡ 0x22
      → Inside f a n₀ t₀ (i + 2) (n + 1) (set t n 0x22)
  inside-pair {i} {n} h l v e₁ e₂ =
      record {
        on = omega (arith, h.on);
        within = omega arith;
        text_on = λ d o. grown-then (h.text_on d o) (grown-one l (pair-text d o f i v e₁ e₂));
        ends_on = λ w d o. h.ends_on w d o ∙ pair_ends d o f i v e₁ e₂ w n;
        rows_on = λ w d o m. h.rows_on w d o m ∙ pair-rows d o f i v e₁ e₂ w m;
      }

  pub inside-LF :
      {i n : ℕ} {t : Bytes} → Inside f a n₀ t₀ i n t → n < length t → i < length f → get_or f i 0 ≡ 0x0A → Inside f a n₀ t₀ (i + 1) (n + 1) (set t n 0x0A)
  inside-LF {i} h l v e = rw e at (inside-byte h l v (puts-LF (get_or f i 0) e))

  -- a run of bytes
  pub inside-run :
      (k : ℕ) {i n : ℕ} {t : Bytes} → Inside f a n₀ t₀ i n t → n + k ≤ length t → k ≤ run is_inner (drop i f)
      → Inside f a n₀ t₀ (i + k) (n + k) (sets t n (take k (drop i f)))
  inside-run zero {i} {n} h r l =
      let z₁ : i ≡ i + 0 = omega arith in
      let z₂ : n ≡ n + 0 = omega arith in
      inside-at z₁ z₂ refl h
  inside-run (suc k) {i} {n} {t} h r l =
      let v : i < length f = omega (arith, run-le is_inner (drop i f), length-drop i f) in
      let q = run-first is_inner (get_or f i 0) k (drop (suc i) f) (rw (drop-cons f i 0 v) at l) in
      let z₁ : i + 1 + k ≡ i + suc k = omega arith in
      let z₂ : n + 1 + k ≡ n + suc k = omega arith in
      let s : sets (set t n (get_or f i 0)) (n + 1) (take k (drop (i + 1) f)) ≡ sets t n (take (suc k) (drop i f)) =
      rw (add-one n, add-one i, drop-cons f i 0 v) in
      let more = inside-byte h (omega arith) v (puts-inner (get_or f i 0) q.0) in
      inside-at z₁ z₂ s (inside-run k more (omega (arith, length-set t n (get_or f i 0))) (rw (← add-one i) at q.1))

  -- a run of pairs
  pub inside-pairs :
      (k : ℕ) {i n : ℕ} {t : Bytes} → Inside f a n₀ t₀ i n t → n + k ≤ length t → k ≤ pairs (drop i f)
      → Inside f a n₀ t₀ (i + (k + k)) (n + k) (sets t n (replicate k 0x22))
  inside-pairs zero {i} {n} h r l =
      let z₁ : i ≡ i + 0 = omega arith in
      let z₂ : n ≡ n + 0 = omega arith in
      inside-at z₁ z₂ refl h
  inside-pairs (suc k) {i} {n} {t} h r l =
      let v : i + 1 < length f = omega (arith, pairs-le (drop i f), length-drop i f) in
      let q = pairs_first (get_or f i 0) (get_or f (i + 1) 0) k (drop (i + 2) f) (rw (two_at f i v refl refl) at l) in
      let z₁ : i + 2 + (k + k) ≡ i + (suc k + suc k) = omega arith in
      let z₂ : n + 1 + k ≡ n + suc k = omega arith in
      let s : sets (set t n 0x22) (n + 1) (replicate k 0x22) ≡ sets t n (replicate (suc k) 0x22) = rw (add-one n) in
      let more = inside-pair h (omega arith) v q.0 q.1 in
      inside-at z₁ z₂ s (inside-pairs k more (omega (arith, length-set t n 0x22)) q.2)

-- one behind another
pub inside-then :
    {f : Bytes} {a b c k n m : ℕ} {t u v : Bytes} → Inside f a k t b n u → Inside f b n u c m v → Inside f a k t c m v
inside-then g h =
    record {
      on = omega (arith, g.on, h.on);
      within = h.within;
      text_on = λ d o. grown-then (g.text_on d o) (h.text_on d o);
      ends_on = λ w d o. g.ends_on w d o ∙ h.ends_on w d o;
      rows_on = λ w d o j. g.rows_on w d o j ∙ h.rows_on w d o j;
    }

-- k pairs of quotes lie in the file, and so do k bytes
pub pairs-within : (f : Bytes) (i k : ℕ) → i < length f → k ≡ pairs (drop i f) → i + 2 * k ≤ length f
pairs-within f i k v e = omega (arith, pairs-le (drop i f), length-drop i f)

pub bytes-within : (f : Bytes) (i k : ℕ) → i < length f → k ≡ run is_inner (drop i f) → i + k ≤ length f
bytes-within f i k v e = run-within is_inner f i k (omega arith) (omega (arith, e))

-- what stands at a place, written there
module _ {f t u : Bytes} {i n m : ℕ} (v : i < length f) where
  pub inside-quotes : {k : ℕ} → k ≡ pairs (drop i f) → Written t n (replicate k 0x22) (Some m) u → Inside f i n t (i + 2 * k) m u
  inside-quotes {k} e h =
      let size = length-replicate {A = ℕ} k 0x22 in
      let at : i + (k + k) ≡ i + 2 * k = omega arith in
      let to : n + k ≡ m = omega (arith, size, h.place.1) in
      inside-at at to (sym h.written) (inside-pairs k (inside-start f i n t (omega arith)) (omega (arith, size, h.place.0)) (omega (arith, e)))

  pub inside-feed : get_or f i 0 ≡ 0x0A → Written t n (replicate 1 0x0A) (Some m) u → Inside f i n t (i + 1) m u
  inside-feed q h = inside-at refl (sym h.place.1) (sym h.written) (inside-LF (inside-start f i n t (omega arith)) (omega (arith, h.place.0)) v q)

  pub inside-copied : {k j : ℕ} → k ≡ run is_inner (drop i f) → j ≡ k → Written t n (take j (drop i f)) (Some m) u → Inside f i n t (i + k) m u
  inside-copied {k} e z h =
      let h' = rw z at h in
      let within = bytes-within f i k v e in
      let size = length-take-le k (drop i f) (omega (arith, length-drop i f)) in
      let to : n + k ≡ m = omega (arith, size, h'.place.1) in
      inside-at refl to (sym h'.written) (inside-run k (inside-start f i n t (omega arith)) (omega (arith, size, h'.place.0)) (omega (arith, e)))

pub ruleset written = (pairs-within, bytes-within, inside-quotes, inside-feed, inside-copied)

-- from a head between quotes
module _ (w : Bool) (d : Dialect) (f : Bytes) (p : Head) (b : Lists) (v : p.at < length f) (e₁ : p.form ≡ form_number quoted) (e₂ : p.held ≡ 0) (o : NoQuote d) where
  ends-any : (u : Bool) (n : ℕ) → ends_left w d (drop p.at f) quoted 0 n u ≡ ends_left w d (drop p.at f) quoted 0 n true
  ends-any u n = rw (drop-cons f p.at 0 v) (ends-byte w d (get_or f p.at 0) _ quoted 0 n u ∙ sym (ends-byte w d (get_or f p.at 0) _ quoted 0 n true))

  rows-any : (u : Bool) (n : ℕ) → rows_left w d (drop p.at f) quoted n u ≡ rows_left w d (drop p.at f) quoted n true
  rows-any u n = rw (drop-cons f p.at 0 v) (rows-byte w d (get_or f p.at 0) _ quoted n u ∙ sym (rows-byte w d (get_or f p.at 0) _ quoted n true))

  -- the head at a place of the file and of the text
  abbrev there : ℕ → ℕ → Head
  there i n = record p { at = i; text = n; begun = true }

  module _ {i n : ℕ} {text' : Bytes} (g : Inside f p.at p.text b.text i n text') where
    ends_are : ends_ahead w d f p ≡ ends_ahead w d f (there i n)
    ends_are = rw (e₁, e₂, form-back quoted) (ends-any p.begun p.text ∙ g.ends_on w d o)

    rows_are : rows_ahead w d f p ≡ rows_ahead w d f (there i n)
    rows_are = rw (e₁, form-back quoted) (rows-any p.begun p.ends ∙ g.rows_on w d o p.ends)

    pub inside-wrote : Wrote w d f p b (there i n) (record b { text = text' })
    inside-wrote =
        record {
          on = g.on;
          inside = λ l. g.within;
          held = omega (arith, g.on);
          text_on = rw (e₁, e₂, form-back quoted) (g.text_on d o);
          ends_on = grown-none ends_are;
          rows_on = grown-none rows_are;
        }
