-- A file in two dialects of one delimiter: the pieces of the one are pieces of the other, where that allows the leniencies used.
use Prim.Native.Nat.{ℕ, suc, ◌+◌, ◌≤◌, ◌<◌}
use mathlib.Core.Path.{◌≡◌, refl, sym, ap, ap₂, subst, ◌∙◌}
use mathlib.Core.Bool.{Bool, true, false, not, ◌&&◌, ◌||◌, true≢false}
use mathlib.Core.List.{List, [], ◌∷◌, flatten}
use mathlib.Core.Logic.{◌⊎◌, inl, inr}
use native.Mathlib.Nat.{le_trans}
use native.Mathlib.Omega.{arith}
use lib.Dec.{T, eqb}
use lib.ListN.{length, length-append}
use borrow.Author.Tests.{ne_eqb}
use Rattle.format.specs.Table.{Bytes, Content, Table, Ending, Every, last_of}
use Rattle.format.specs.Dialect.{Leniency, lf, blanks, ragged, bytes, Dialect, Class, text, blank, delimiter, quote, CR, LF, forbidden, class_of}
use Rattle.format.specs.Grammar.{Blanks, Bare, Inside, padded, Open, Quoted, Field, Record, Break, File}
use Rattle.format.specs.House.{differs, is_ragged, EqualRows, Fits, Allowed}
use Rattle.format.specs.Memory.{text_of}
use Rattle.format.specs.Count.{sum_in_record, sum_in_file, blank_count, dropped, alone, alones, wides, some, uses}
use Rattle.format.proofs.Classes.{Beside, same, as_text, as_blank, any, beside, quoted_class, quoted-class, inside-byte}
use Rattle.format.proofs.Memory.{sizes-more}
use Rattle.format.proofs.Trim.{fitted}

-- delimiter, quote, CR and LF
abbrev pub solid : Class → Bool
solid text = false
solid blank = false
solid delimiter = true
solid quote = true
solid CR = true
solid LF = true
solid forbidden = false

solid-too : {drops : Bool} {x y z : Class} → T (solid z) → x ≡ z → Beside drops x y → y ≡ z
solid-too t e same = e
solid-too t e (as_text n) = absurd (rw (← e) at t)
solid-too t e as_blank = absurd (rw (← e) at t)
solid-too t e any = absurd (rw (← e) at t)

quoted-too : {drops : Bool} {x y : Class} → T (quoted_class x) → Beside drops x y → T (quoted_class y)
quoted-too t same = t
quoted-too t (as_text n) = tt
quoted-too t as_blank = tt
quoted-too t any = absurd t

not-forbidden : {x : Class} → T (quoted_class x) → forbidden ≡ x → ⊥
not-forbidden t e = rw (← e) at t

blank-too : {drops : Bool} {x y : Class} → drops ≡ true → x ≡ blank → Beside drops x y → y ≡ blank
blank-too k e same = e
blank-too k e (as_text n) = absurd (true≢false (sym k ∙ n))
blank-too k e as_blank = refl
blank-too k e any = absurd (not-forbidden tt e)

bare-too : {drops : Bool} {x y : Class} → (x ≡ text) ⊎ (x ≡ blank) → Beside drops x y → (y ≡ text) ⊎ (y ≡ blank)
bare-too e same = e
bare-too e (as_text n) = inl refl
bare-too e as_blank = inr refl
bare-too (inl e) any = absurd (not-forbidden tt e)
bare-too (inr e) any = absurd (not-forbidden tt e)

bare-more :
    {d : Dialect} {b : ℕ} {f g : Bytes} {c : Content}
    → (class_of d b ≡ text) ⊎ (class_of d b ≡ blank) → Bare d f c g → Bare d (b ∷ f) (b ∷ c) g
bare-more (inl k) p = Bare.text_byte k p
bare-more (inr k) p = Bare.blank_byte k p

-- every byte of f has such classes in d and d'
abbrev Alike : Dialect → Dialect → Bytes → Type 0
Alike d d' f = Every (λ b. Beside (d'.allows blanks) (class_of d b) (class_of d' b)) f

-- d allows the leniency, if it has n uses and n is not 0
abbrev Allows : Dialect → Leniency → ℕ → Type 0
Allows d l n = 0 < n → d.allows l ≡ true

-- d' drops blanks only if d does
abbrev pub NoMoreBlanks : Dialect → Dialect → Type 0
NoMoreBlanks d d' = d'.allows blanks ≡ true → d.allows blanks ≡ true

unpadded-too : (d d' : Dialect) (c : Content) → padded d c ≡ false → NoMoreBlanks d d' → padded d' c ≡ false
unfolding padded
unpadded-too d d' [] n k = refl
unpadded-too d d' (b ∷ c) n k = go (d'.allows blanks) refl
  where
    go : (x : Bool) → d'.allows blanks ≡ x → (d'.allows blanks && (eqb b 0x20 || eqb (last_of b c) 0x20)) ≡ false
    go true e = rw e (rw (k e) at n)
    go false e = rw e

-- the fields es are as many as cs, their contents are together no longer, and fit where those do
record Slimmer (cs es : List Content) : Type 0 where
  pub many : length es ≡ length cs
  pub shorter : length (flatten es) ≤ length (flatten cs)
  pub fit : Every Fits cs → Every Fits es

-- each record of u is so beside that of t
data Shaped : Table → Table → Type 0 where
  none : Shaped [] []
  more : {cs es : List Content} {t u : Table} → Slimmer cs es → Shaped t u → Shaped (cs ∷ t) (es ∷ u)

same_differs : {t u : Table} → Shaped t u → (n : ℕ) → differs n u ≡ differs n t
same_differs Shaped.none n = refl
same_differs (Shaped.more m s) n = rw (m.many, same_differs s n)

same-ragged : {t u : Table} → Shaped t u → is_ragged u ≡ is_ragged t
same-ragged Shaped.none = refl
same-ragged (Shaped.more m s) = rw m.many (same_differs s _)

fits-too : {t u : Table} → Shaped t u → Every (Every Fits) t → Every (Every Fits) u
fits-too Shaped.none z = z
fits-too (Shaped.more m s) z = (m.fit z.0, fits-too s z.1)

-- u needs no more room than t: its text is no longer, and its fields and records are as many
pub record NoLarger (u t : Table) : Type 0 where
  pub text : length (text_of u) ≤ length (text_of t)
  pub fields : length (flatten u) ≡ length (flatten t)
  pub records : length u ≡ length t

pub as-large : (t : Table) → NoLarger t t
as-large t = record { text = omega arith; fields = refl; records = refl }

no-larger : {t u : Table} → Shaped t u → NoLarger u t
no-larger Shaped.none = as-large []
no-larger (Shaped.more {cs} {es} {t} {u} m s) =
    let (a, b) = sizes-more cs t in
    let (c, e) = sizes-more es u in
    let n = no-larger s in
    record {
      text = omega (arith, a, c, m.shorter, n.text);
      fields = omega (arith, b, e, m.many, n.fields);
      records = ap suc n.records;
    }

module _ (d d' : Dialect) where
  blanks-alike :
      {f g : Bytes} (x : Blanks d f g)
      → Allows d' blanks (blank_count x) → Alike d d' f → (y : Blanks d' f g) × (blank_count y ≡ blank_count x) × Alike d d' g
  unfolding blank_count
  blanks-alike Blanks.none n h = (Blanks.none, refl, h)
  blanks-alike (Blanks.more k x) n h =
      let (y, e, i) = blanks-alike x (λ z. n (omega arith)) h.1 in
      (Blanks.more (blank-too (n (omega arith)) k h.0) y, ap suc e, i)

  bare_alike : {f g : Bytes} {c : Content} → Bare d f c g → Alike d d' f → Bare d' f c g × Alike d d' g
  bare_alike Bare.none h = (Bare.none, h)
  bare_alike (Bare.text_byte k p) h = let (q, i) = bare_alike p h.1 in (bare-more (bare-too (inl k) h.0) q, i)
  bare_alike (Bare.blank_byte k p) h = let (q, i) = bare_alike p h.1 in (bare-more (bare-too (inr k) h.0) q, i)

  inside-alike : {f g : Bytes} {c : Content} → Inside d f c g → Alike d d' f → Inside d' f c g × Alike d d' g
  inside-alike Inside.none h = (Inside.none, h)
  inside-alike (Inside.byte {b} n m p) h =
      let (q, i) = inside-alike p h.1 in
      (inside-byte (class_of d' b) (quoted-too (quoted-class (class_of d b) n m) h.0) refl q, i)
  inside-alike (Inside.pair j k p) h =
      let (q, i) = inside-alike p h.1.1 in
      (Inside.pair (solid-too tt j h.0) (solid-too tt k h.1.0) q, i)

  quoted-alike : {f g : Bytes} {c : Content} → Quoted d f c g → Alike d d' f → Quoted d' f c g × Alike d d' g
  quoted-alike (Quoted.closed (Open.opened j p) k) h =
      let (q, i) = inside-alike p h.1 in
      (Quoted.closed (Open.opened (solid-too tt j h.0) q) (solid-too tt k i.0), i.1)

  field_alike :
      {f g : Bytes} {c : Content} (p : Field d f c g)
      → Allows d' blanks (dropped f c g p) → Alike d d' f
      → (e : Content)
      × (q : Field d' f e g)
      × (length e ≤ length c)
      × (NoMoreBlanks d d' → (e ≡ c) × (dropped f e g q ≡ dropped f c g p))
      × Alike d d' g
  unfolding dropped
  field_alike (Field.bare {c} x k u y) n h =
      let (x', m, h₁) = blanks-alike x (λ z. n (omega arith)) h in
      let (k', h₂) = bare_alike k h₁ in
      let (y', o, h₃) = blanks-alike y (λ z. n (omega arith)) h₂ in
      let (e, q, l, s) = fitted {A = NoMoreBlanks d d'} x' k' y' (unpadded-too d d' c u) in
      (e, q, l, λ z. ((s z).0, (s z).1 ∙ ap₂ ◌+◌ m o), h₃)
  field_alike (Field.quoted {c} x k y) n h =
      let (x', m, h₁) = blanks-alike x (λ z. n (omega arith)) h in
      let (k', h₂) = quoted-alike k h₁ in
      let (y', o, h₃) = blanks-alike y (λ z. n (omega arith)) h₂ in
      (c, Field.quoted x' k' y', omega arith, λ z. (refl, ap₂ ◌+◌ m o), h₃)

  record-alike :
      {f g : Bytes} {cs : List Content} (r : Record d f cs g)
      → Allows d' blanks (sum_in_record dropped r) → Alike d d' f
      → (es : List Content)
      × (s : Record d' f es g)
      × Slimmer cs es
      × (NoMoreBlanks d d' → (es ≡ cs) × (sum_in_record dropped s ≡ sum_in_record dropped r))
      × Alike d d' g
  unfolding sum_in_record flatten
  record-alike (Record.one {c} p) n h =
      let (e, q, l, s, i) = field_alike p n h in (
        e ∷ [],
        Record.one q,
        record { many = refl; shorter = omega (arith, l, length-append e [], length-append c []); fit = λ z. (le_trans l z.0, tt) },
        λ z. (λ i. (s z).0 i ∷ [], (s z).1),
        i,
      )
  record-alike (Record.more {c} {cs} p k r) n h =
      let (e, q, l, s, i) = field_alike p (λ z. n (omega arith)) h in
      let (es, t, m, w, j) = record-alike r (λ z. n (omega arith)) i.1 in (
        e ∷ es,
        Record.more q (solid-too tt k i.0) t,
        record {
          many = ap suc m.many;
          shorter = omega (arith, l, m.shorter, length-append e (flatten es), length-append c (flatten cs));
          fit = λ z. (le_trans l z.0, m.fit z.1);
        },
        λ z. (λ i. (s z).0 i ∷ (w z).0 i, λ i. (s z).1 i + (w z).1 i),
        j,
      )

  break-alike : {f g : Bytes} (k : Break d f g) → Allows d' lf (alone k) → Alike d d' f → (j : Break d' f g) × (alone j ≡ alone k) × Alike d d' g
  unfolding alone
  break-alike (Break.crlf j k) n h = (Break.crlf (solid-too tt j h.0) (solid-too tt k h.1.0), refl, h.1.1)
  break-alike (Break.lf_alone k t) n h = (Break.lf_alone (solid-too tt k h.0) (rw (n (omega arith)) tt), refl, h.1)

  file-alike :
      {f : Bytes} {t : Table} {e : Ending} (p : File d f t e)
      → Allows d' lf (alones p) → Allows d' blanks (sum_in_file dropped p) → Alike d d' f
      → (u : Table)
      × (q : File d' f u e)
      × Shaped t u
      × (alones q ≡ alones p)
      × (NoMoreBlanks d d' → (u ≡ t) × (sum_in_file dropped q ≡ sum_in_file dropped p))
  unfolding alones sum_in_file
  file-alike (File.one r) o n h =
      let (es, s, m, w, i) = record-alike r n h in
      (es ∷ [], File.one s, Shaped.more m Shaped.none, refl, λ z. (λ i. (w z).0 i ∷ [], (w z).1))
  file-alike (File.ended r b) o n h =
      let (es, s, m, w, i) = record-alike r n h in
      let (b', a, j) = break-alike b o i in
      (es ∷ [], File.ended s b', Shaped.more m Shaped.none, a, λ z. (λ i. (w z).0 i ∷ [], (w z).1))
  file-alike (File.more r b p) o n h =
      let (es, s, m, w, i) = record-alike r (λ z. n (omega arith)) h in
      let (b', a, j) = break-alike b (λ z. o (omega arith)) i in
      let (u, q, g, c, x) = file-alike p (λ z. o (omega arith)) (λ z. n (omega arith)) j in (
        es ∷ u,
        File.more {t = u} s b' q,
        Shaped.more {u = u} m g,
        λ i. a i + c i,
        λ z. (λ i. (w z).0 i ∷ (x z).0 i, λ i. (w z).1 i + (x z).1 i),
      )

module _ (d d' : Dialect) (v : d'.delimiter_byte ≡ d.delimiter_byte) where
  same-wides : (f : Bytes) → wides d' f ≡ wides d f
  unfolding wides
  same-wides [] = refl
  same-wides (b ∷ f) = rw (same-wides f, v)

  alike : (f : Bytes) → Allows d' bytes (wides d f) → Alike d d' f
  unfolding wides
  alike [] n = tt
  alike (b ∷ f) n = (beside d d' b v (λ w. n (rw w (omega arith))), alike f (λ z. n (omega arith)))

  equal-rows-too : {t u : Table} → Shaped t u → (is_ragged t ≡ true → d'.allows ragged ≡ true) → EqualRows d' u
  unfolding EqualRows
  equal-rows-too {t} s k = rw (same-ragged s) (go (d'.allows ragged) (is_ragged t) k)
    where
      go : (x y : Bool) → (y ≡ true → x ≡ true) → T (x || not y)
      go true y k = tt
      go false true k = absurd (true≢false (sym (k refl)))
      go false false k = tt

  -- a dialect that allows what a derivation uses derives the file too; the table stays where it drops no more blanks
  pub file-too :
      {f : Bytes} {t : Table} {e : Ending} (p : File d f t e)
      → ((l : Leniency) → uses p l ≡ true → d'.allows l ≡ true)
      → (u : Table)
      × (q : File d' f u e)
      × (Allowed d t → Allowed d' u)
      × NoLarger u t
      × (uses q lf ≡ uses p lf)
      × (uses q ragged ≡ uses p ragged)
      × (uses q bytes ≡ uses p bytes)
      × (NoMoreBlanks d d' → (u ≡ t) × (uses q blanks ≡ uses p blanks))
  unfolding uses
  file-too {f} p k =
      let some-true : (n : ℕ) → 0 < n → some n ≡ true = λ n h. ap not (ne_eqb n 0 (omega arith)) in
      let (u, q, s, a, w) = file-alike d d' p (λ z. k lf (some-true _ z)) (λ z. k blanks (some-true _ z)) (alike f (λ z. k bytes (some-true _ z))) in (
        u,
        q,
        λ h. record { rows = equal-rows-too s (k ragged); contents = fits-too s h.contents },
        no-larger s,
        ap some a,
        same-ragged s,
        ap some (same-wides f),
        λ z. ((w z).0, ap some (w z).1),
      )

-- the same table, with the same uses
pub same-file :
    {d d' : Dialect} {f : Bytes} {t : Table} {e : Ending} (p : File d f t e)
    → d'.delimiter_byte ≡ d.delimiter_byte → ((l : Leniency) → uses p l ≡ true → d'.allows l ≡ true) → NoMoreBlanks d d'
    → (q : File d' f t e) × (Allowed d t → Allowed d' t) × ((l : Leniency) → uses q l ≡ uses p l)
same-file {d} {d'} {f} {t} {e} p v k o =
    let (u, q, h, n, a, b, c, w) = file-too d d' v p k in
    let same-uses : (l : Leniency) → uses q l ≡ uses p l = elim [ lf ↦ a | blanks ↦ (w o).1 | ragged ↦ b | bytes ↦ c ] in
    subst (λ (s : Table). (q : File d' f s e) × (Allowed d t → Allowed d' s) × ((l : Leniency) → uses q l ≡ uses p l)) (w o).0 (q, h, same-uses)
