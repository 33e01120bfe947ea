-- The dialect grammar adds exactly what its leniencies name: one that is off is not used, and only those that are used matter.
use Prim.Native.Nat.{ℕ, ◌+◌, ◌*◌, ◌/◌, ◌%◌, ◌≤◌}
use mathlib.Core.Path.{◌≡◌, refl, sym, ap, ap₂, subst, fun_ext, ◌∙◌}
use mathlib.Core.Bool.{Bool, true, false, cond, not, ◌||◌, true≢false}
use mathlib.Core.List.{List, [], ◌∷◌}
use mathlib.Core.Logic.{◌⊎◌, inl, inr}
use native.Mathlib.Nat.{zero-add}
use native.Mathlib.Omega.{arith}
use lib.Dec.{T, eqb}
use borrow.Author.Tests.{ne_eqb}
use Rattle.format.specs.Table.{Bytes, Content, Table, Ending}
use Rattle.format.specs.Dialect.{Leniency, lf, blanks, ragged, bytes, Dialect, names, dialect, strict, only_wide, Class, forbidden, class_of}
use Rattle.format.specs.Grammar.{Blanks, Bare, Inside, Open, Quoted, Field, Record, Break, File}
use Rattle.format.specs.House.{is_ragged, EqualRows, Allowed}
use Rattle.format.specs.Count.{sum_in_record, sum_in_file, blank_count, dropped, alone, alones, wides, some, uses, sum_of, report_of}
use Rattle.format.specs.Reading.{Reading}
use Rattle.format.proofs.Classes.{blank-is, quoted_class, not_wide}
use Rattle.format.proofs.Dialects.{solid, NoMoreBlanks, NoLarger, as-large, file-too, same-file}

-- what holds of no bytes, and stays so with each byte before them that is not forbidden, holds of a file
module _ (d : Dialect) (P : Bytes → Type 0) (step : (b : ℕ) (f : Bytes) → (class_of d b ≡ forbidden → ⊥) → P f → P (b ∷ f)) where
  of-class : {b : ℕ} {x : Class} {f : Bytes} → T (quoted_class x || solid x) → class_of d b ≡ x → P f → P (b ∷ f)
  of-class {b} {f} t k = step b f (λ e. rw (sym k ∙ e) at t)

  of-blanks : {f g : Bytes} → Blanks d f g → P g → P f
  of-blanks Blanks.none h = h
  of-blanks (Blanks.more k x) h = of-class tt k (of-blanks x h)

  of_bare : {f g : Bytes} {c : Content} → Bare d f c g → P g → P f
  of_bare Bare.none h = h
  of_bare (Bare.text_byte k p) h = of-class tt k (of_bare p h)
  of_bare (Bare.blank_byte k p) h = of-class tt k (of_bare p h)

  of-inside : {f g : Bytes} {c : Content} → Inside d f c g → P g → P f
  of-inside Inside.none h = h
  of-inside (Inside.byte n m p) h = step _ _ m (of-inside p h)
  of-inside (Inside.pair j k p) h = of-class tt j (of-class tt k (of-inside p h))

  of_field : {f g : Bytes} {c : Content} → Field d f c g → P g → P f
  of_field (Field.bare x k e y) h = of-blanks x (of_bare k (of-blanks y h))
  of_field (Field.quoted x (Quoted.closed (Open.opened j p) k) y) h = of-blanks x (of-class tt j (of-inside p (of-class tt k (of-blanks y h))))

  of-record : {f g : Bytes} {cs : List Content} → Record d f cs g → P g → P f
  of-record (Record.one p) h = of_field p h
  of-record (Record.more p k r) h = of_field p (of-class tt k (of-record r h))

  of-break : {f g : Bytes} → Break d f g → P g → P f
  of-break (Break.crlf j k) h = of-class tt j (of-class tt k h)
  of-break (Break.lf_alone k t) h = of-class tt k h

  of-file : {f : Bytes} {t : Table} {e : Ending} → File d f t e → P [] → P f
  of-file (File.one r) h = of-record r h
  of-file (File.ended r k) h = of-record r (of-break k h)
  of-file (File.more r k p) h = of-record r (of-break k (of-file p h))

-- where "bytes" is off, a file holds no wide byte
no-wides : {d : Dialect} {f : Bytes} {t : Table} {e : Ending} → d.allows bytes ≡ false → File d f t e → wides d f ≡ 0
unfolding wides
no-wides {d} off p = of-file d (λ f. wides d f ≡ 0) (λ b f h n. rw (not_wide d b off h, n)) p refl

-- whether some byte needs "bytes", one byte after the other
pub no-byte-wide : (d : Dialect) → some (wides d []) ≡ false
unfolding wides
no-byte-wide d = refl

pub some-wide : (d : Dialect) (b : ℕ) (f : Bytes) → some (wides d (b ∷ f)) ≡ ((only_wide d.delimiter_byte b) || some (wides d f))
unfolding wides
some-wide d b f = go (only_wide d.delimiter_byte b)
  where
    go : (x : Bool) → some (cond x 1 0 + wides d f) ≡ (x || some (wides d f))
    go true = rw (ne_eqb (1 + wides d f) 0 (λ e. omega arith))
    go false = rw (zero-add (wides d f))

-- where "lf" is off, no LF alone ends a record
module _ {d : Dialect} (off : d.allows lf ≡ false) where
  no-alone : {f g : Bytes} (k : Break d f g) → alone k ≡ 0
  unfolding alone
  no-alone (Break.crlf j k) = refl
  no-alone (Break.lf_alone k t) = absurd (rw off at t)

  pub no-alones : {f : Bytes} {t : Table} {e : Ending} (p : File d f t e) → alones p ≡ 0
  unfolding alones
  no-alones (File.one r) = refl
  no-alones (File.ended r k) = no-alone k
  no-alones (File.more r k p) = ap₂ ◌+◌ (no-alone k) (no-alones p)

-- where "blanks" is off, no blank is dropped
module _ {d : Dialect} (off : d.allows blanks ≡ false) where
  no-blank : {f g : Bytes} (x : Blanks d f g) → blank_count x ≡ 0
  unfolding blank_count
  no-blank Blanks.none = refl
  no-blank (Blanks.more {b} k x) = absurd (rw off at (blank-is d b k).1)

  none_dropped : {f g : Bytes} {c : Content} (p : Field d f c g) → dropped f c g p ≡ 0
  unfolding dropped
  none_dropped (Field.bare x k e y) = ap₂ ◌+◌ (no-blank x) (no-blank y)
  none_dropped (Field.quoted x k y) = ap₂ ◌+◌ (no-blank x) (no-blank y)

  none-in-record : {f g : Bytes} {cs : List Content} (r : Record d f cs g) → sum_in_record dropped r ≡ 0
  unfolding sum_in_record
  none-in-record (Record.one p) = none_dropped p
  none-in-record (Record.more p k r) = ap₂ ◌+◌ (none_dropped p) (none-in-record r)

  pub none-in-file : {f : Bytes} {t : Table} {e : Ending} (p : File d f t e) → sum_in_file dropped p ≡ 0
  unfolding sum_in_file
  none-in-file (File.one r) = none-in-record r
  none-in-file (File.ended r k) = none-in-record r
  none-in-file (File.more r k p) = ap₂ ◌+◌ (none-in-record r) (none-in-file p)

equal-rows : (d : Dialect) (t : Table) → d.allows ragged ≡ false → EqualRows d t → is_ragged t ≡ false
unfolding EqualRows
equal-rows d t off h = go (is_ragged t) (rw off at h)
  where
    go : (x : Bool) → T (not x) → x ≡ false
    go true z = absurd z
    go false z = refl

-- a leniency that is off is not used
pub off-unused :
    {d : Dialect} {f : Bytes} {t : Table} {e : Ending} (p : File d f t e)
    → Allowed d t → (l : Leniency) → d.allows l ≡ false → uses p l ≡ false
unfolding uses
off-unused p a lf off = rw (no-alones off p)
off-unused p a blanks off = rw (none-in-file off p)
off-unused {d} {t} p a ragged off = equal-rows d t off a.rows
off-unused p a bytes off = rw (no-wides off p)

strict-off : (l : Leniency) → strict.allows l ≡ false
strict-off lf = refl
strict-off blanks = refl
strict-off ragged = refl
strict-off bytes = refl

-- strict reports 0
pub strict-report : {f : Bytes} {t : Table} {r : ℕ} → Reading strict f t r → r ≡ 0
strict-report (Reading.nothing h) = refl
strict-report (Reading.something p b a q) = sym q ∙ ap sum_of (fun_ext (λ l. off-unused p a l (strict-off l)))

digit : (x : Bool) → (n : ℕ) × (eqb n 1 ≡ x) × (n ≤ 1) × ((k : ℕ) → cond x k 0 ≡ k * n)
digit true = (1, refl, omega arith, λ k. omega arith)
digit false = (0, refl, omega arith, λ k. omega arith)

digits :
    (w x y z s : ℕ)
    → w ≤ 1 → x ≤ 1 → y ≤ 1 → z ≤ 1 → s ≡ w + (2 * x + (4 * y + 8 * z)) → (s / 1 % 2 ≡ w) × (s / 2 % 2 ≡ x) × (s / 4 % 2 ≡ y) × (s / 8 % 2 ≡ z)
digits w x y z s h₁ h₂ h₃ h₄ e = (omega arith, omega arith, omega arith, omega arith)

-- the sum of the bits of some leniencies names these
pub sum-names : (used : Leniency → Bool) (l : Leniency) → names (sum_of used) l ≡ used l
sum-names used =
    let (w, e₁, h₁, s₁) = digit (used lf) in
    let (x, e₂, h₂, s₂) = digit (used blanks) in
    let (y, e₃, h₃, s₃) = digit (used ragged) in
    let (z, e₄, h₄, s₄) = digit (used bytes) in
    let (a, b, c, e) = digits w x y z (sum_of used) h₁ h₂ h₃ h₄ (omega (arith, s₁ 1, s₂ 2, s₃ 4, s₄ 8)) in
    let is_one : ℕ → Bool = λ n. eqb n 1 in
    elim [ lf ↦ ap is_one a ∙ e₁ | blanks ↦ ap is_one b ∙ e₂ | ragged ↦ ap is_one c ∙ e₃ | bytes ↦ ap is_one e ∙ e₄ ]

-- and is at most 15, as a report is
sum-most : (used : Leniency → Bool) → sum_of used ≤ 15
sum-most used =
    let (w, e₁, h₁, s₁) = digit (used lf) in
    let (x, e₂, h₂, s₂) = digit (used blanks) in
    let (y, e₃, h₃, s₃) = digit (used ragged) in
    let (z, e₄, h₄, s₄) = digit (used bytes) in
    omega (arith, s₁ 1, s₂ 2, s₃ 4, s₄ 8, h₁, h₂, h₃, h₄)

pub report-most : {d : Dialect} {f : Bytes} {t : Table} {r : ℕ} → Reading d f t r → r ≤ 15
report-most (Reading.nothing h) = omega arith
report-most (Reading.something p b a q) = rw (← q) (sum-most (uses p))

-- what the report names is what was used
report-names :
    {d : Dialect} {f : Bytes} {t : Table} {e : Ending} {r : ℕ} (p : File d f t e) → report_of p ≡ r → (l : Leniency) → names r l ≡ uses p l
report-names p q l = rw (← q) (sum-names (uses p) l)

none_named : (l : Leniency) → names 0 l ≡ true → ⊥
none_named l e = true≢false (sym e ∙ strict-off l)

-- what the report names, the dialect allows
pub report-allowed : {d : Dialect} {f : Bytes} {t : Table} {r : ℕ} → Reading d f t r → (l : Leniency) → names r l ≡ true → d.allows l ≡ true
report-allowed (Reading.nothing h) l n = absurd (none_named l n)
report-allowed {d} (Reading.something p b a q) l n = go (d.allows l) refl
  where
    go : (x : Bool) → d.allows l ≡ x → x ≡ true
    go true e = refl
    go false e = sym (off-unused p a l e) ∙ (sym (report-names p q l) ∙ n)

-- only what the report names matters: another dialect that allows it, and drops no more blanks, reads the same
pub same-reading :
    {d d' : Dialect} {f : Bytes} {t : Table} {r : ℕ} → Reading d f t r
    → d'.delimiter_byte ≡ d.delimiter_byte → ((l : Leniency) → names r l ≡ true → d'.allows l ≡ true) → NoMoreBlanks d d' → Reading d' f t r
same-reading (Reading.nothing h) v k o = Reading.nothing h
same-reading (Reading.something p b a q) v k o =
    let (p', h, s) = same-file p v (λ l e. k l (report-names p q l ∙ e)) o in
    Reading.something p' b (h a) (ap sum_of (fun_ext s) ∙ q)

-- so the dialect whose sum is the report reads the same
pub by-report : {d : Dialect} {f : Bytes} {t : Table} {r : ℕ} → Reading d f t r → Reading (dialect d.delimiter_byte r) f t r
by-report g = same-reading g refl (λ l e. e) (report-allowed g blanks)

-- accepted with comma and report 0 means that strict accepts it with the same table
pub report-0-strict : (d : Dialect) → d.delimiter_byte ≡ 0x2C → {f : Bytes} {t : Table} → Reading d f t 0 → Reading strict f t 0
report-0-strict d v {f} {t} g = subst (λ (b : ℕ). Reading (dialect b 0) f t 0) v (by-report g)

blanks-or-not :
    (x y : Leniency → Bool) {r : ℕ}
    → x lf ≡ y lf → x ragged ≡ y ragged → x bytes ≡ y bytes → (x blanks ≡ y blanks) ⊎ (y blanks ≡ false) → sum_of y ≡ r
    → (sum_of x ≡ r) ⊎ (sum_of x ≡ r + 2)
blanks-or-not x y a b c (inl e) q = inl (rw (a, b, c, e) q)
blanks-or-not x y a b c (inr e) q = rw (← q, a, b, c, e) (go (x blanks) _ _)
  where
    go : (z : Bool) (m n : ℕ) → (m + (cond z 2 0 + n) ≡ m + (0 + n)) ⊎ (m + (cond z 2 0 + n) ≡ m + (0 + n) + 2)
    go true m n = inr (omega arith)
    go false m n = inl refl

-- a dialect that allows what the report names reads the file even if it drops more blanks; it reports the same, or "blanks" besides, and its table needs no
-- more room
pub more-lenient :
    (d d' : Dialect) → d'.delimiter_byte ≡ d.delimiter_byte
    → {f : Bytes} {t : Table} {r : ℕ} → Reading d f t r → ((l : Leniency) → names r l ≡ true → d'.allows l ≡ true)
    → (u : Table) × (n : ℕ) × Reading d' f u n × ((n ≡ r) ⊎ (n ≡ r + 2)) × NoLarger u t
more-lenient d d' v {t} (Reading.nothing h) k = (t, 0, Reading.nothing h, inl refl, as-large t)
more-lenient d d' v {r} (Reading.something p b a q) k =
    let (u, p', h, m, x, y, z, w) = file-too d d' v p (λ l e. k l (report-names p q l ∙ e)) in
    (u, report_of p', Reading.something p' b (h a) refl, blanks-or-not (uses p') (uses p) x y z (go (d.allows blanks) refl (λ o. (w o).1)) q, m)
  where
    go : (x : Bool) {A : Type 0} → d.allows blanks ≡ x → (NoMoreBlanks d d' → A) → A ⊎ (uses p blanks ≡ false)
    go true e w = inl (w (λ i. e))
    go false e w = inr (off-unused p a blanks e)

-- what strict reads, every comma dialect reads, and reports 0, or 2 where it drops a blank; it needs no more room
pub strict-lenient :
    (d : Dialect) → d.delimiter_byte ≡ 0x2C
    → {f : Bytes} {t : Table} {r : ℕ} → Reading strict f t r → (u : Table) × (n : ℕ) × Reading d f u n × ((n ≡ 0) ⊎ (n ≡ 2)) × NoLarger u t
strict-lenient d v g = more-lenient strict d v (rw (strict-report g) at g) (λ l n. absurd (none_named l n))
