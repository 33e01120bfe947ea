-- How long a file is beside the plain form of its table, and which file is the plain form.
use Prim.Native.Nat.{ℕ, ◌+◌, ◌*◌}
use native.Mathlib.Nat.{add-mul, suc-mul}
use native.Mathlib.Omega.{arith}
use mathlib.Core.Path.{◌≡◌, refl, ap, ◌∙◌}
use mathlib.Core.Bool.{Bool, true, false, cond, ◌||◌}
use mathlib.Core.List.{List, [], ◌∷◌, ◌++◌, append_assoc}
use lib.Dec.{T, eqb}
use borrow.Author.Tests.{ne_eqb}
use Rattle.format.specs.Table.{Bytes, Content, Table, Ending}
use Rattle.format.specs.Dialect.{Dialect, delimits}
use Rattle.format.specs.Grammar.{padded, Blanks, Bare, Inside, opened, Quoted, closed, Field, Record, Break, File}
use Rattle.format.specs.WrittenForms.{is_special, holds_special, needs_quotes, doubled, quoted_form, plain_form, record_by, table_by, plain}
use Rattle.format.specs.Count.{Measure, sum_in_record, sum_in_file, blank_count, dropped, needless, alone, alones, missing}
use Rattle.format.proofs.Classes.{quote-is, CR-is, LF-is, delimiter-is, blank-is, class-quote, text-ordinary, blank-ordinary}
use Rattle.format.proofs.Forms.{either-false}

-- what a field's source is, byte for byte
pub bare-source : {d : Dialect} {f g : Bytes} {c : Content} → Bare d f c g → f ≡ c ++ g
bare-source Bare.none = refl
bare-source (Bare.text_byte {b} k r) = ap (λ (l : Bytes). b ∷ l) (bare-source r)
bare-source (Bare.blank_byte {b} k r) = ap (λ (l : Bytes). b ∷ l) (bare-source r)

bare-ordinary : {d : Dialect} {f g : Bytes} {c : Content} → Bare d f c g → holds_special d c ≡ false
unfolding holds_special
bare-ordinary Bare.none = refl
bare-ordinary {d} (Bare.text_byte {b} k r) = rw ((text-ordinary d b k).0, bare-ordinary r)
bare-ordinary {d} (Bare.blank_byte {b} k r) = rw ((blank-ordinary d b k).0, bare-ordinary r)

-- a bare field needs no quotes
pub bare-needs : {d : Dialect} {f g : Bytes} {c : Content} → Bare d f c g → padded d c ≡ false → needs_quotes d c ≡ false
unfolding needs_quotes
bare-needs k n = rw (bare-ordinary k, n)

-- where no byte is special, none is doubled
pub ordinary-doubled : (d : Dialect) (c : Content) → holds_special d c ≡ false → doubled c ≡ c
unfolding holds_special doubled
ordinary-doubled d [] e = refl
ordinary-doubled d (b ∷ c) e = rw (quote.1.0, ordinary-doubled d c both.1)
  where
    both : (is_special d b ≡ false) × (holds_special d c ≡ false)
    both = either-false (is_special d b) (holds_special d c) e

    quote : (eqb b d.delimiter_byte ≡ false) × ((eqb b 0x22 ≡ false) × ((eqb b 0x0D || eqb b 0x0A) ≡ false))
    quote = let x = either-false (eqb b d.delimiter_byte) _ both.0 in (x.0, either-false (eqb b 0x22) _ x.1)

module _ (d : Dialect) (valid : T (delimits d.delimiter_byte)) where
  pub inside-source : {f g : Bytes} {c : Content} → Inside d f c g → f ≡ doubled c ++ g
  unfolding doubled
  inside-source Inside.none = refl
  inside-source (Inside.byte {b} n k r) =
      rw (ne_eqb b 0x22 (λ e. n (rw e (class-quote d valid)))) (ap (λ (l : Bytes). b ∷ l) (inside-source r))
  inside-source (Inside.pair {a} {b} j k r) = rw (quote-is d a j, quote-is d b k) (ap (λ (l : Bytes). 0x22 ∷ 0x22 ∷ l) (inside-source r))

  pub quoted-source : {f g : Bytes} {c : Content} → Quoted d f c g → f ≡ quoted_form c ++ g
  unfolding quoted_form
  quoted-source {g} {c} (closed {b} (opened {b = a} j k) e) =
      rw (quote-is d a j) (ap (λ (l : Bytes). 0x22 ∷ l) (inside-source k ∙ rw (quote-is d b e, append_assoc)))

-- A weight for each byte, added up: with 1 for every byte it is the length, with 1 for one byte alone it counts that byte. One law serves them all.
unfoldable pub weigh : (ℕ → ℕ) → Bytes → ℕ
weigh w [] = 0
weigh w (b ∷ f) = w b + weigh w f

-- what a field weighs beyond its plain form
abbrev pub extra : {d : Dialect} → (ℕ → ℕ) → Measure d
extra w f c g p = needless f c g p * (w 0x22 + w 0x22) + dropped f c g p * w 0x20

-- measures add up, and so do their multiples
record-sum :
    {d : Dialect} {f g : Bytes} {cs : List Content} (m n : Measure d) (x y : ℕ) (r : Record d f cs g)
    → sum_in_record (λ f c g p. m f c g p * x + n f c g p * y) r ≡ sum_in_record m r * x + sum_in_record n r * y
unfolding sum_in_record
record-sum m n x y (Record.one p) = refl
record-sum m n x y (Record.more {b} {f} {g} {c} p k r) =
    omega
    (arith, record-sum m n x y r, add-mul (m f c (b ∷ g) p) (sum_in_record m r) x, add-mul (n f c (b ∷ g) p) (sum_in_record n r) y)

pub file-sum :
    {d : Dialect} {f : Bytes} {t : Table} {e : Ending} (m n : Measure d) (x y : ℕ) (p : File d f t e)
    → sum_in_file (λ f c g p. m f c g p * x + n f c g p * y) p ≡ sum_in_file m p * x + sum_in_file n p * y
unfolding sum_in_file
file-sum m n x y (File.one r) = record-sum m n x y r
file-sum m n x y (File.ended r k) = record-sum m n x y r
file-sum m n x y (File.more r k p) =
    omega (arith, record-sum m n x y r, file-sum m n x y p, add-mul (sum_in_record m r) (sum_in_file m p) x, add-mul (sum_in_record n r) (sum_in_file n p) y)

pub line-one : (form : Content → Bytes) (d : Dialect) (c : Content) → record_by form d (c ∷ []) ≡ form c
unfolding record_by
line-one form d c = refl

pub line-more :
    {d : Dialect} {f g : Bytes} {cs : List Content} (form : Content → Bytes) (c : Content) → Record d f cs g
    → record_by form d (c ∷ cs) ≡ form c ++ (d.delimiter_byte ∷ record_by form d cs)
unfolding record_by
line-more form c (Record.one p) = refl
line-more form c (Record.more p k r) = refl

module _ (w : ℕ → ℕ) where
  weigh-append : (f g : Bytes) → weigh w (f ++ g) ≡ weigh w f + weigh w g
  unfolding weigh
  weigh-append [] g = omega arith
  weigh-append (b ∷ f) g = omega (arith, weigh-append f g)

  module _ (d : Dialect) (valid : T (delimits d.delimiter_byte)) where
    blanks-weight : {f g : Bytes} (x : Blanks d f g) → weigh w f ≡ blank_count x * w 0x20 + weigh w g
    unfolding weigh blank_count
    blanks-weight Blanks.none = omega arith
    blanks-weight (Blanks.more {b} k x) = rw (blank-is d b k).0 (omega (arith, blanks-weight x, suc-mul (blank_count x) (w 0x20)))

    quotes-weight : (c : Content) → needs_quotes d c ≡ false → weigh w (quoted_form c) ≡ weigh w c + (w 0x22 + w 0x22)
    unfolding needs_quotes quoted_form weigh
    quotes-weight c e =
        rw (ordinary-doubled d c (either-false (holds_special d c) (padded d c) e).0, weigh-append c (0x22 ∷ [])) (omega arith)

    field-weight : {f g : Bytes} {c : Content} (p : Field d f c g) → weigh w f ≡ weigh w (plain_form d c) + (extra w f c g p + weigh w g)
    unfolding needless dropped plain_form
    field-weight {f} {g} {c} (Field.bare {g = f'} {h} x k n y) =
        let s : weigh w f' ≡ weigh w c + weigh w h = ap (weigh w) (bare-source k) ∙ weigh-append c h in
        rw (bare-needs k n) (omega (arith, blanks-weight x, blanks-weight y, add-mul (blank_count x) (blank_count y) (w 0x20)))
    field-weight {f} {g} {c} (Field.quoted {g = f'} {h} x k y) = go (needs_quotes d c) refl
      where
        s : weigh w f' ≡ weigh w (quoted_form c) + weigh w h
        s = ap (weigh w) (quoted-source d valid k) ∙ weigh-append (quoted_form c) h

        go : (u : Bool) → needs_quotes d c ≡ u
            → weigh w f ≡ weigh w (cond u (quoted_form c) c) + (cond u 0 1 * (w 0x22 + w 0x22) + (blank_count x + blank_count y) * w 0x20 + weigh w g)
        go true e = omega (arith, s, blanks-weight x, blanks-weight y, add-mul (blank_count x) (blank_count y) (w 0x20))
        go false e = omega (arith, s, quotes-weight c e, blanks-weight x, blanks-weight y, add-mul (blank_count x) (blank_count y) (w 0x20))

    line-weight :
        {f g : Bytes} {cs : List Content} (c : Content) → Record d f cs g
        → weigh w (record_by (plain_form d) d (c ∷ cs)) ≡ weigh w (plain_form d c) + (w d.delimiter_byte + weigh w (record_by (plain_form d) d cs))
    unfolding weigh
    line-weight {cs} c r = ap (weigh w) (line-more (plain_form d) c r) ∙ weigh-append (plain_form d c) (d.delimiter_byte ∷ record_by (plain_form d) d cs)

    record-weight :
        {f g : Bytes} {cs : List Content} (r : Record d f cs g)
        → weigh w f ≡ weigh w (record_by (plain_form d) d cs) + (sum_in_record (extra w) r + weigh w g)
    unfolding sum_in_record weigh
    record-weight (Record.one {c} p) = rw (line-one (plain_form d) d c) (field-weight p)
    record-weight (Record.more {b} {g} {c} p k r) =
        omega (arith, field-weight p, record-weight r, line-weight c r, ap w (delimiter-is d b k))

    lines-weight :
        (cs : List Content) (t : Table)
        → weigh w (plain d (cs ∷ t)) ≡ weigh w (record_by (plain_form d) d cs) + (w 0x0D + (w 0x0A + weigh w (plain d t)))
    unfolding table_by weigh
    lines-weight cs t = weigh-append (record_by (plain_form d) d cs) (0x0D ∷ 0x0A ∷ plain d t)

    break-weight : {g h : Bytes} (k : Break d g h) → weigh w g + alone k * w 0x0D ≡ w 0x0D + (w 0x0A + weigh w h)
    unfolding alone weigh
    break-weight (Break.crlf {a} {b} j k) = rw (CR-is d a j, LF-is d b k) (omega arith)
    break-weight (Break.lf_alone {b} j k) = rw (LF-is d b j) (omega arith)

    pub file-weight :
        {f : Bytes} {t : Table} {e : Ending} (p : File d f t e)
        → weigh w f + (missing e * (w 0x0D + w 0x0A) + alones p * w 0x0D) ≡ weigh w (plain d t) + sum_in_file (extra w) p
    unfolding sum_in_file alones weigh table_by
    file-weight (File.one {cs} r) = omega (arith, record-weight r, lines-weight cs [])
    file-weight (File.ended {cs} r k) = omega (arith, record-weight r, break-weight k, lines-weight cs [])
    file-weight (File.more {cs} {t} r k p) =
        omega (arith, record-weight r, break-weight k, lines-weight cs t, file-weight p, add-mul (alone k) (alones p) (w 0x0D))
