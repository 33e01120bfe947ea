-- A file's last byte tells whether its last line break is there.
use Prim.Native.Nat.{ℕ, ◌≤◌}
use native.Mathlib.Omega.{arith}
use mathlib.Core.Path.{◌≡◌, refl, sym, subst, ◌∙◌}
use mathlib.Core.Logic.{◌↔◌}
use mathlib.Core.List.{List, [], ◌∷◌}
use lib.Dec.{T}
use Rattle.format.specs.Table.{Bytes, Content, Table, Ending, with_break, without_break, last_of}
use Rattle.format.specs.Dialect.{Dialect, text, blank, delimiter, quote, LF, class_of, delimits}
use Rattle.format.specs.Grammar.{Blanks, Bare, Inside, opened, Quoted, closed, Field, Record, Break, File}
use Rattle.format.specs.House.{LastBreak, EndsInBreak}
use Rattle.format.specs.Count.{missing}
use Rattle.format.proofs.Classes.{quote-is, LF-is, delimiter-is, blank-is, class-LF}

-- a byte other than LF
abbrev Other : ℕ → Type 0
Other b = b ≡ 0x0A → ⊥

-- Behind a byte x stands f, whose last byte is the last of g behind some y; and y is no LF if x is none.
record Last (x : ℕ) (f g : Bytes) : Type 0 where
  y : ℕ
  other : Other x → Other y
  same : last_of x f ≡ last_of y g

last_then : {x : ℕ} {f g h : Bytes} → Last x f g → ((y : ℕ) → Last y g h) → Last x f h
last_then l m = let k = m l.y in record { y = k.y; other = λ o. k.other (l.other o); same = l.same ∙ k.same }

-- a piece that begins with a byte other than LF
begun : {b : ℕ} {f g : Bytes} (x : ℕ) → Other b → Last b f g → Last x (b ∷ f) g
unfolding last_of
begun x o l = record { y = l.y; other = λ _. l.other o; same = l.same }

none_last : (x : ℕ) (g : Bytes) → Last x g g
none_last x g = record { y = x; other = λ o. o; same = refl }

break-last : {d : Dialect} {g h : Bytes} (x : ℕ) → Break d g h → last_of x g ≡ last_of 0x0A h
unfolding last_of
break-last {d} x (Break.crlf {b} j k) = rw (LF-is d b k)
break-last {d} x (Break.lf_alone {b} j k) = rw (LF-is d b j)

module _ (d : Dialect) (valid : T (delimits d.delimiter_byte)) where
  text-other : (b : ℕ) → class_of d b ≡ text → Other b
  text-other b k e =
      let u : class_of d b ≡ LF = rw e (class-LF d valid) in
      let z : ◌≡◌ {A = ℕ} 0 1 = cc in
      omega arith

  blank-other : (b : ℕ) → class_of d b ≡ blank → Other b
  blank-other b k e = omega (arith, (blank-is d b k).0)

  quote-other : (b : ℕ) → class_of d b ≡ quote → Other b
  quote-other b k e = omega (arith, quote-is d b k)

  delimiter-other : (b : ℕ) → class_of d b ≡ delimiter → Other b
  delimiter-other b k e = subst (λ (n : ℕ). T (delimits n)) (sym (delimiter-is d b k) ∙ e) valid

  blanks-last : {f g : Bytes} (x : ℕ) → Blanks d f g → Last x f g
  blanks-last {g} x Blanks.none = none_last x g
  blanks-last x (Blanks.more {b} k r) = begun x (blank-other b k) (blanks-last b r)

  bare-last : {f g : Bytes} {c : Content} (x : ℕ) → Bare d f c g → Last x f g
  bare-last {g} x Bare.none = none_last x g
  bare-last x (Bare.text_byte {b} k r) = begun x (text-other b k) (bare-last b r)
  bare-last x (Bare.blank_byte {b} k r) = begun x (blank-other b k) (bare-last b r)

  -- an LF may stand inside quotes, and the closing quote comes behind it
  inside-last : {f g : Bytes} {c : Content} (x : ℕ) → Inside d f c g → (y : ℕ) × (last_of x f ≡ last_of y g)
  unfolding last_of
  inside-last x Inside.none = (x, refl)
  inside-last x (Inside.byte {b} n k r) = inside-last b r
  inside-last x (Inside.pair {b} j k r) = inside-last b r

  quoted-last : {f g : Bytes} {c : Content} (x : ℕ) → Quoted d f c g → Last x f g
  unfolding last_of
  quoted-last x (closed {b} (opened {b = a} j r) k) = record { y = b; other = λ _. quote-other b k; same = (inside-last a r).1 }

  field-last : {f g : Bytes} {c : Content} (x : ℕ) → Field d f c g → Last x f g
  field-last x (Field.bare l k n m) = last_then (blanks-last x l) λ y. last_then (bare-last y k) λ z. blanks-last z m
  field-last x (Field.quoted l k m) = last_then (blanks-last x l) λ y. last_then (quoted-last y k) λ z. blanks-last z m

  record-last : {f g : Bytes} {cs : List Content} (x : ℕ) → Record d f cs g → Last x f g
  record-last x (Record.one p) = field-last x p
  record-last x (Record.more {b} p k r) = last_then (field-last x p) λ y. begun y (delimiter-other b k) (record-last b r)

  -- a record that no line break ends
  open-last : {cs : List Content} (x : ℕ) (f : Bytes) → LastBreak (without_break f) → Record d f cs [] → Other (last_of x f)
  unfolding last_of
  open-last {cs} x [] n r = elim n [ ]
  open-last x (b ∷ f) n r = let l = record-last 0 r in λ z. l.other (λ u. omega arith) (sym l.same ∙ z)

  -- and one that a line break ends
  broken-last : {f g h : Bytes} {cs : List Content} (x : ℕ) → Record d f cs g → Break d g h → last_of x f ≡ last_of 0x0A h
  broken-last x r k = let l = record-last x r in l.same ∙ break-last l.y k

-- what an ending says of the last byte
abbrev LastByte : Ending → ℕ → Type 0
LastByte with_break n = n ≡ 0x0A
LastByte (without_break f) n = Other n

module _ (d : Dialect) (valid : T (delimits d.delimiter_byte)) where
  file-last : {f : Bytes} {t : Table} {e : Ending} (x : ℕ) → LastBreak e → File d f t e → LastByte e (last_of x f)
  unfolding last_of
  file-last x l (File.one {f} r) = open-last d valid x f l r
  file-last x l (File.ended r k) = broken-last d valid x r k
  file-last {e} x l (File.more {h} r k p) = subst (LastByte e) (sym (broken-last d valid x r k)) (file-last 0x0A l p)

  -- a file has its last line break exactly if its last byte is LF
  pub missing-ended : {f : Bytes} {t : Table} {e : Ending} → LastBreak e → File d f t e → (missing e ≡ 0) ↔ EndsInBreak f
  missing-ended {f} {e} l p = go e (file-last 0 l p)
    where
      go : (e : Ending) → LastByte e (last_of 0 f) → (missing e ≡ 0) ↔ EndsInBreak f
      go with_break s = (λ _. s, λ _. refl)
      go (without_break g) s = (λ n. absurd (omega arith), λ n. absurd (s n))

pub missing-le : (e : Ending) → missing e ≤ 1
missing-le with_break = omega arith
missing-le (without_break f) = omega arith
