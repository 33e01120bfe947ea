-- The model's verdict on a file, against readings and refusals.
use Prim.Native.Nat.{ℕ, ◌+◌, ◌≤◌, ◌<◌}
use native.Mathlib.Omega.{arith}
use mathlib.Core.Path.{◌≡◌, refl, sym, ap, subst, ◌∙◌}
use mathlib.Core.Bool.{Bool, true, false, cond, true≢false}
use lib.Dec.{T, leb}
use lib.ListN.{length}
use borrow.Author.Tests.{le-leb, lt-leb, leb-true, leb-false}
use Rattle.format.specs.declared.Place.{Place}
use Rattle.format.specs.Table.{Bytes, Table}
use Rattle.format.specs.Dialect.{lf, blanks, ragged, bytes, bit_of, Dialect, dialect, delimits, Valid}
use Rattle.format.specs.House.{EmptyFile, is_ragged, file_limit}
use Rattle.format.specs.Count.{wides, some, uses, sum_of}
use Rattle.format.specs.Place.{place_of, nowhere}
use Rattle.format.specs.Refusal.{Refusal}
use Rattle.format.specs.Reading.{Reading, Accepted, Refused, refusal_1, refusal_2, in_file}
use Rattle.steps.specs.Model.{Judged, declined, taken, any, read, used, Verdict, accepts, refuses, verdict, is_valid, model}
use Rattle.steps.proofs.Limits.{read-complete, refusal-complete, Reads, reads_none, reads_some, Says, read-sound}
use Rattle.steps.proofs.Widths.{allowed-fine, fine-allowed, refusal-refuses, refuses-refusal}

module _ (d : Dialect) where
  -- a refusal names its place; what is taken is accepted, with the bits of the leniencies used
  pub verdict-declined : (f : Bytes) (n : ℕ) (found named : Bytes) → verdict d f (declined n found named) ≡ refuses n (place_of f named)
  unfolding verdict
  verdict-declined f n found named = refl

  pub verdict-taken :
      (f : Bytes) (t : Table) (m l : ℕ)
      → verdict d f (taken t m l)
      ≡ accepts t (cond (some l) (bit_of lf) 0 + (cond (some m) (bit_of blanks) 0 + (cond (is_ragged t) (bit_of ragged) 0 + cond (some (wides d f)) (bit_of bytes) 0)))
  unfolding verdict used
  verdict-taken f t m l = refl

  reads-reading : {f : Bytes} {t : Table} {m l : ℕ} → Reads d any f t m l → Reading d f t (sum_of (used d f t m l))
  unfolding used uses wides
  reads-reading reads_none = Reading.nothing EmptyFile.empty
  reads-reading {f} {t} {m} {l} (reads_some p k h i j) =
      Reading.something {r = sum_of (used d f t m l)} p k (fine-allowed d t h) (rw (i, j))

  pub reading-verdict : {f : Bytes} {t : Table} {r : ℕ} → Reading d f t r → verdict d f (read d any f) ≡ accepts t r
  unfolding verdict used uses wides read
  reading-verdict (Reading.nothing EmptyFile.empty) = refl
  reading-verdict {t} (Reading.something p k a q) = rw (read-complete any p k (allowed-fine d t a)) (ap (accepts t) q)

  same-reading : {f : Bytes} {t u : Table} {r s : ℕ} → accepts t r ≡ accepts u s → Reading d f t r → Reading d f u s
  same-reading {f} {t} {u} {r} {s} e p =
      let x : t ≡ u = cc in
      let y : r ≡ s = cc in
      subst (λ (v : Table). Reading d f v s) x (subst (λ (n : ℕ). Reading d f t n) y p)

  pub verdict-reading : {t : Table} {r : ℕ} (f : Bytes) → verdict d f (read d any f) ≡ accepts t r → Reading d f t r
  unfolding verdict
  verdict-reading {t} {r} f e = go (read d any f) (read-sound d any f) e
    where
      go : (a : Judged) → Says d any f a → verdict d f a ≡ accepts t r → Reading d f t r
      go (declined n i j) s e = let z : ◌≡◌ {A = ℕ} 0 1 = cc in absurd (omega arith)
      go (taken u m l) s e = same-reading e (reads-reading s)

  -- what is read is what the model takes, with that table
  pub reading-taken : {f : Bytes} {t : Table} {r : ℕ} → Reading d f t r → (m : ℕ) × (l : ℕ) × (read d any f ≡ taken t m l)
  unfolding verdict
  reading-taken {f} {t} {r} p = go (read d any f) (reading-verdict p)
    where
      go : (a : Judged) → verdict d f a ≡ accepts t r → (m : ℕ) × (l : ℕ) × (a ≡ taken t m l)
      go (declined n i j) e = let z : ◌≡◌ {A = ℕ} 0 1 = cc in absurd (omega arith)
      go (taken u m l) e = let same : u ≡ t = cc in (m, l, ap (λ (v : Table). taken v m l) same)

  pub refusal-read : {n : ℕ} {f found named : Bytes} → Refusal d n f found named → read d any f ≡ declined n found named
  refusal-read x = refusal-complete (refusal-refuses d x)

  pub read-refusal : {n : ℕ} {found named : Bytes} (f : Bytes) → read d any f ≡ declined n found named → Refusal d n f found named
  read-refusal f e = refuses-refusal d (rw e at (read-sound d any f))

  -- a verdict that refuses has a refusal behind it
  pub verdict-refusal :
      {n : ℕ} {p : Place} (f : Bytes) → verdict d f (read d any f) ≡ refuses n p → (found named : Bytes) × Refusal d n f found named × (place_of f named ≡ p)
  unfolding verdict
  verdict-refusal {n} {p} f e = go (read d any f) refl e
    where
      go :
          (a : Judged) → read d any f ≡ a → verdict d f a ≡ refuses n p
          → (found named : Bytes) × Refusal d n f found named × (place_of f named ≡ p)
      go (declined m i j) q e =
          let x : m ≡ n = cc in
          let y : place_of f j ≡ p = cc in
          (i, j, subst (λ (k : ℕ). Refusal d k f i j) x (read-refusal f q), y)
      go (taken u m l) q e = let z : ◌≡◌ {A = ℕ} 0 1 = cc in absurd (omega arith)

-- over any two dialect bytes; first the test for a valid dialect
module _ (b sum : ℕ) where
  pub valid-sum : delimits b ≡ true → is_valid b sum ≡ leb sum 15
  unfolding is_valid
  valid-sum e = rw e

  pub valid-other : delimits b ≡ false → is_valid b sum ≡ false
  unfolding is_valid
  valid-other e = rw e

  pub valid-yes : Valid b sum → is_valid b sum ≡ true
  valid-yes v = go (delimits b) refl v.0
    where
      go : (x : Bool) → delimits b ≡ x → T x → is_valid b sum ≡ true
      go true e t = valid-sum e ∙ le-leb sum 15 v.1
      go false e t = absurd t

  pub yes-valid : is_valid b sum ≡ true → Valid b sum
  yes-valid e = go (delimits b) refl
    where
      go : (x : Bool) → delimits b ≡ x → T x × (sum ≤ 15)
      go true q = (tt, leb-true sum 15 (sym (valid-sum q) ∙ e))
      go false q = absurd (true≢false (sym e ∙ valid-other q))

  pub no-valid : (Valid b sum → ⊥) → is_valid b sum ≡ false
  no-valid h = go (is_valid b sum) refl
    where
      go : (x : Bool) → is_valid b sum ≡ x → x ≡ false
      go true e = absurd (h (yes-valid e))
      go false e = refl

  -- the model, by its tests: the dialect, the file limit, and then its verdict
  pub model-invalid : (f : Bytes) → is_valid b sum ≡ false → model b sum f ≡ refuses 1 nowhere
  unfolding model
  model-invalid f e = rw e

  pub model-long : (f : Bytes) → is_valid b sum ≡ true → file_limit < length f → model b sum f ≡ refuses 2 nowhere
  unfolding model
  model-long f e l = rw (e, lt-leb (length f) file_limit l)

  pub model-within :
      (f : Bytes) → is_valid b sum ≡ true → length f ≤ file_limit → model b sum f ≡ verdict (dialect b sum) f (read (dialect b sum) any f)
  unfolding model
  model-within f e l = rw (e, le-leb (length f) file_limit l)

  pub accepted-model : {f : Bytes} {t : Table} {r : ℕ} → Accepted b sum f t r → model b sum f ≡ accepts t r
  accepted-model {f} a = model-within f (valid-yes a.valid) a.short ∙ reading-verdict (dialect b sum) a.reading

  pub refused-model : {f : Bytes} {n : ℕ} {p : Place} → Refused b sum f n p → model b sum f ≡ refuses n p
  refused-model {f} (refusal_1 v) = model-invalid f (no-valid v)
  refused-model {f} (refusal_2 v l) = model-long f (valid-yes v) l
  refused-model {f} (in_file {n} {found} {named} v l x q) =
      model-within f (valid-yes v) l
      ∙ (ap (verdict (dialect b sum) f) (refusal-read (dialect b sum) x) ∙ (verdict-declined (dialect b sum) f n found named ∙ ap (refuses n) q))

  -- what a verdict says of a file
  abbrev pub Holds : Bytes → Verdict → Type 0
  Holds f (accepts t r) = Accepted b sum f t r
  Holds f (refuses n p) = Refused b sum f n p

  in-file-holds : (f : Bytes) → Valid b sum → length f ≤ file_limit → Holds f (verdict (dialect b sum) f (read (dialect b sum) any f))
  in-file-holds f v l = go (verdict (dialect b sum) f (read (dialect b sum) any f)) refl
    where
      go : (a : Verdict) → verdict (dialect b sum) f (read (dialect b sum) any f) ≡ a → Holds f a
      go (accepts t r) e = record { valid = v; short = l; reading = verdict-reading (dialect b sum) f e }
      go (refuses n p) e = let (i, j, x, q) = verdict-refusal (dialect b sum) f e in in_file v l x q

  pub model-holds : (f : Bytes) → Holds f (model b sum f)
  model-holds f = go (is_valid b sum) (leb (length f) file_limit) refl refl
    where
      go : (x y : Bool) → is_valid b sum ≡ x → leb (length f) file_limit ≡ y → Holds f (model b sum f)
      go true true v l =
          let h = leb-true (length f) file_limit l in
          rw (model-within f v h) (in-file-holds f (yes-valid v) h)
      go true false v l =
          let h = leb-false (length f) file_limit l in
          rw (model-long f v h) (refusal_2 (yes-valid v) h)
      go false y v l = rw (model-invalid f v) (refusal_1 (λ h. true≢false (sym (valid-yes h) ∙ v)))
