-- The written forms are files of their table: plain and full, in every dialect that can hold the table.
use Prim.Native.Nat.{ℕ, ◌≤◌}
use native.Mathlib.Omega.{arith}
use mathlib.Core.Path.{◌≡◌, refl}
use mathlib.Core.Bool.{Bool, true, false, cond, ◌||◌, true≢false}
use mathlib.Core.Logic.{◌⊎◌, inl, inr}
use mathlib.Core.List.{List, [], ◌∷◌, ◌++◌, append_assoc}
use lib.Dec.{T, eqb}
use lib.ListN.{length}
use borrow.Author.Tests.{eqb-true, eqb-false}
use Rattle.format.specs.Table.{Bytes, Content, Table, Every, with_break}
use Rattle.format.specs.Dialect.{Leniency, lf, blanks, ragged, bytes, Dialect, text, blank, delimiter, forbidden, class_of, delimits}
use Rattle.format.specs.Grammar.{padded, Blanks, Bare, Inside, opened, closed, Field, Record, Break, File}
use Rattle.format.specs.House.{EmptyFile, Allowed, is_ragged}
use Rattle.format.specs.WrittenForms.{is_special, holds_special, needs_quotes, doubled, quoted_form, plain_form, record_by, table_by, plain, full, CanHold}
use Rattle.format.specs.Count.{sum_in_record, sum_in_file, blank_count, dropped, alone, alones, wides, some, uses, sum_of}
use Rattle.format.specs.Reading.{Reading}
use Rattle.format.proofs.Classes.{class-quote, class-CR, class-LF, class-delimiter, quote-is, bare-byte}

pub either-false : (a b : Bool) → (a || b) ≡ false → (a ≡ false) × (b ≡ false)
either-false true b e = absurd (true≢false e)
either-false false b e = (refl, e)

-- a content that holds no forbidden byte
abbrev pub Clean : Dialect → Content → Type 0
Clean d c = Every (λ b. class_of d b ≡ forbidden → ⊥) c

bare_of : (d : Dialect) (c g : Bytes) → Clean d c → holds_special d c ≡ false → Bare d (c ++ g) c g
unfolding holds_special
bare_of d [] g h m = Bare.none
bare_of d (b ∷ c) g h m = go (bare-byte d b h.0 m'.0) (bare_of d c g h.1 m'.1)
  where
    m' : (is_special d b ≡ false) × (holds_special d c ≡ false)
    m' = either-false (is_special d b) (holds_special d c) m

    go : (class_of d b ≡ text) ⊎ (class_of d b ≡ blank) → Bare d (c ++ g) c g → Bare d (b ∷ (c ++ g)) (b ∷ c) g
    go (inl e) r = Bare.text_byte e r
    go (inr e) r = Bare.blank_byte e r

-- a form in which fields are written: each reads back, and drops no blank
abbrev pub ReadsBack : Dialect → (Content → Bytes) → Type 0
ReadsBack d form = (c : Content) → Clean d c → (g : Bytes) → (p : Field d (form c ++ g) c g) × (dropped (form c ++ g) c g p ≡ 0)

module _ (d : Dialect) (valid : T (delimits d.delimiter_byte)) where
  inside_of : (c g : Bytes) → Clean d c → Inside d (doubled c ++ g) c g
  unfolding doubled
  inside_of [] g h = Inside.none
  inside_of (b ∷ c) g h = go (eqb b 0x22) refl (inside_of c g h.1)
    where
      go : (x : Bool) → eqb b 0x22 ≡ x → Inside d (doubled c ++ g) c g
          → Inside d (cond x (0x22 ∷ 0x22 ∷ doubled c) (b ∷ doubled c) ++ g) (b ∷ c) g
      go true e r = rw (eqb-true b 0x22 e) (Inside.pair (class-quote d valid) (class-quote d valid) r)
      go false e r = Inside.byte (λ k. eqb-false b 0x22 e (quote-is d b k)) h.0 r

  pub quoted-form-reads : ReadsBack d quoted_form
  unfolding quoted_form dropped blank_count
  quoted-form-reads c h g =
      let k : Inside d ((doubled c ++ (0x22 ∷ [])) ++ g) c (0x22 ∷ g) = rw append_assoc (inside_of c (0x22 ∷ g) h) in
      (Field.quoted Blanks.none (closed (opened (class-quote d valid) k) (class-quote d valid)) Blanks.none, refl)

  pub plain-form-reads : ReadsBack d (plain_form d)
  unfolding plain_form dropped blank_count needs_quotes
  plain-form-reads c h g = go (needs_quotes d c) refl
    where
      go : (x : Bool) → needs_quotes d c ≡ x → (p : Field d (cond x (quoted_form c) c ++ g) c g) × (dropped (cond x (quoted_form c) c ++ g) c g p ≡ 0)
      go true e = quoted-form-reads c h g
      go false e =
          let m : (holds_special d c ≡ false) × (padded d c ≡ false) = either-false (holds_special d c) (padded d c) e in
          (Field.bare Blanks.none (bare_of d c g h m.0) m.1 Blanks.none, refl)

-- a record, and a file, that drops no blank and ends no record by LF alone
abbrev pub CleanRecord : Dialect → Bytes → List Content → Bytes → Type 0
CleanRecord d f cs g = (r : Record d f cs g) × (sum_in_record dropped r ≡ 0)

abbrev pub CleanFile : Dialect → Bytes → Table → Type 0
CleanFile d f t = (p : File d f t with_break) × (sum_in_file dropped p ≡ 0) × (alones p ≡ 0)

module _ {d : Dialect} where
  clean-more :
      {b : ℕ} {f g h i : Bytes} {c : Content} {cs : List Content}
      → f ≡ g → (p : Field d g c (b ∷ h)) → dropped g c (b ∷ h) p ≡ 0 → class_of d b ≡ delimiter → CleanRecord d h cs i → CleanRecord d f (c ∷ cs) i
  unfolding sum_in_record
  clean-more e p m k (r, n) = rw e (Record.more p k r, omega arith)

  clean-ended : {f g : Bytes} {cs : List Content} → CleanRecord d f cs g → (k : Break d g []) → alone k ≡ 0 → CleanFile d f (cs ∷ [])
  unfolding sum_in_file alones
  clean-ended (r, n) k a = (File.ended r k, n, a)

  clean-next :
      {f g h : Bytes} {cs : List Content} {t : Table}
      → CleanRecord d f cs g → (k : Break d g h) → alone k ≡ 0 → CleanFile d h t → CleanFile d f (cs ∷ t)
  unfolding sum_in_file alones
  clean-next (r, n) k a (p, m, o) = (File.more r k p, omega arith, omega arith)

-- a form for fields gives one for records and tables
module _ (d : Dialect) (valid : T (delimits d.delimiter_byte)) (form : Content → Bytes) (reads : ReadsBack d form) where
  line_reads : (c : Content) (cs : List Content) (g : Bytes) → Every (Clean d) (c ∷ cs) → CleanRecord d (record_by form d (c ∷ cs) ++ g) (c ∷ cs) g
  unfolding record_by sum_in_record
  line_reads c [] g h = let (p, n) = reads c h.0 g in (Record.one p, n)
  line_reads c (e ∷ cs) g h =
      let (p, m) = reads c h.0 (d.delimiter_byte ∷ (record_by form d (e ∷ cs) ++ g)) in
      clean-more (append_assoc (form c) (d.delimiter_byte ∷ record_by form d (e ∷ cs)) g) p m (class-delimiter d) (line_reads e cs g h.1)

  record-reads : (cs : List Content) (g : Bytes) → 1 ≤ length cs → Every (Clean d) cs → CleanRecord d (record_by form d cs ++ g) cs g
  record-reads [] g n h = absurd (omega arith)
  record-reads (c ∷ cs) g n h = line_reads c cs g h

  crlf : (g : Bytes) → (k : Break d (0x0D ∷ 0x0A ∷ g) g) × (alone k ≡ 0)
  unfolding alone
  crlf g = (Break.crlf (class-CR d valid) (class-LF d valid), refl)

  pub lines-read :
      (cs : List Content) (t : Table) → Every (λ cs. 1 ≤ length cs) (cs ∷ t) → Every (Every (Clean d)) (cs ∷ t)
      → CleanFile d (table_by form d (cs ∷ t)) (cs ∷ t)
  unfolding table_by
  lines-read cs [] n h = let (k, a) = crlf [] in clean-ended (record-reads cs (0x0D ∷ 0x0A ∷ []) n.0 h.0) k a
  lines-read cs (es ∷ t) n h =
      let f = table_by form d (es ∷ t) in
      let (k, a) = crlf f in
      clean-next (record-reads cs (0x0D ∷ 0x0A ∷ f) n.0 h.0) k a (lines-read es t n.1 h.1)

-- what a written file uses: never "lf" or "blanks"
unfoldable pub written_uses : Dialect → Bytes → Table → Leniency → Bool
written_uses d f t lf = false
written_uses d f t blanks = false
written_uses d f t ragged = is_ragged t
written_uses d f t bytes = some (wides d f)

module _ (d : Dialect) (valid : T (delimits d.delimiter_byte)) where
  clean-reading : {f : Bytes} {t : Table} → Allowed d t → CleanFile d f t → Reading d f t (sum_of (written_uses d f t))
  unfolding uses written_uses
  clean-reading {f} {t} h (p, m, n) = Reading.something {r = sum_of (written_uses d f t)} p tt h (rw (m, n))

  lines-reading :
      (form : Content → Bytes) → ReadsBack d form → (t : Table) → CanHold d t
      → Reading d (table_by form d t) t (sum_of (written_uses d (table_by form d t) t))
  unfolding table_by written_uses wides
  lines-reading form reads [] h = Reading.nothing EmptyFile.empty
  lines-reading form reads (cs ∷ t) h = clean-reading h.rules (lines-read d valid form reads cs t h.some_field h.none_forbidden)

  -- the plain form and the full form read as their table
  pub plain-reads : (t : Table) → CanHold d t → Reading d (plain d t) t (sum_of (written_uses d (plain d t) t))
  plain-reads = lines-reading (plain_form d) (plain-form-reads d valid)

  pub full-reads : (t : Table) → CanHold d t → Reading d (full d t) t (sum_of (written_uses d (full d t) t))
  full-reads = lines-reading quoted_form (quoted-form-reads d valid)
