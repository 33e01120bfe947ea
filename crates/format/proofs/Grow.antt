-- The grammar looks at nothing behind what it reads: bytes may be added there. And runs of one kind join.
use Prim.Native.Nat.{ℕ, suc, ◌+◌}
use native.Mathlib.Omega.{arith}
use mathlib.Core.Path.{◌≡◌, refl, ap, subst, ◌∙◌}
use mathlib.Core.List.{List, [], ◌∷◌, ◌++◌}
use lib.ListN.{replicate}
use Rattle.format.specs.Table.{Bytes, Content, Table}
use Rattle.format.specs.Dialect.{Dialect, blank, class_of}
use Rattle.format.specs.Grammar.{Blanks, Bare, Inside, Open, opened, Quoted, closed, Field, Record, Break}
use Rattle.format.specs.Count.{blank_count}
use Rattle.format.specs.Refusal.{Fields, Records}
use Rattle.format.proofs.Classes.{blank-is}

module _ (d : Dialect) (s : Bytes) where
  pub blanks-grow : {f g : Bytes} → Blanks d f g → Blanks d (f ++ s) (g ++ s)
  blanks-grow Blanks.none = Blanks.none
  blanks-grow (Blanks.more e x) = Blanks.more e (blanks-grow x)

  pub grow-count : {f g : Bytes} (y : Blanks d f g) → blank_count (blanks-grow y) ≡ blank_count y
  unfolding blank_count blanks-grow
  grow-count Blanks.none = refl
  grow-count (Blanks.more e y) = ap suc (grow-count y)

  pub bare-grow : {f g : Bytes} {c : Content} → Bare d f c g → Bare d (f ++ s) c (g ++ s)
  bare-grow Bare.none = Bare.none
  bare-grow (Bare.text_byte e x) = Bare.text_byte e (bare-grow x)
  bare-grow (Bare.blank_byte e x) = Bare.blank_byte e (bare-grow x)

  pub inside-grow : {f g : Bytes} {c : Content} → Inside d f c g → Inside d (f ++ s) c (g ++ s)
  inside-grow Inside.none = Inside.none
  inside-grow (Inside.byte u v x) = Inside.byte u v (inside-grow x)
  inside-grow (Inside.pair u v x) = Inside.pair u v (inside-grow x)

  pub open-grow : {f g : Bytes} {c : Content} → Open d f c g → Open d (f ++ s) c (g ++ s)
  open-grow (opened e x) = opened e (inside-grow x)

  pub quoted-grow : {f g : Bytes} {c : Content} → Quoted d f c g → Quoted d (f ++ s) c (g ++ s)
  quoted-grow (closed x e) = closed (open-grow x) e

  pub field-grow : {f g : Bytes} {c : Content} → Field d f c g → Field d (f ++ s) c (g ++ s)
  field-grow (Field.bare x k n y) = Field.bare (blanks-grow x) (bare-grow k) n (blanks-grow y)
  field-grow (Field.quoted x k y) = Field.quoted (blanks-grow x) (quoted-grow k) (blanks-grow y)

  pub record-grow : {f g : Bytes} {cs : List Content} → Record d f cs g → Record d (f ++ s) cs (g ++ s)
  record-grow (Record.one p) = Record.one (field-grow p)
  record-grow (Record.more p e r) = Record.more (field-grow p) e (record-grow r)

  pub break-grow : {f g : Bytes} → Break d f g → Break d (f ++ s) (g ++ s)
  break-grow (Break.crlf e i) = Break.crlf e i
  break-grow (Break.lf_alone e i) = Break.lf_alone e i

  pub fields-grow : {f g : Bytes} {cs : List Content} → Fields d f cs g → Fields d (f ++ s) cs (g ++ s)
  fields-grow Fields.none = Fields.none
  fields-grow (Fields.more p e r) = Fields.more (field-grow p) e (fields-grow r)

  pub records-grow : {f g : Bytes} {t : Table} → Records d f t g → Records d (f ++ s) t (g ++ s)
  records-grow Records.none = Records.none
  records-grow (Records.more p e r) = Records.more (record-grow p) (break-grow e) (records-grow r)

module _ (d : Dialect) where
  pub blanks-join : {f g h : Bytes} → Blanks d f g → Blanks d g h → Blanks d f h
  blanks-join Blanks.none y = y
  blanks-join (Blanks.more e x) y = Blanks.more e (blanks-join x y)

  pub bare-join : {f g h : Bytes} {c e : Content} → Bare d f c g → Bare d g e h → Bare d f (c ++ e) h
  bare-join Bare.none y = y
  bare-join (Bare.text_byte e x) y = Bare.text_byte e (bare-join x y)
  bare-join (Bare.blank_byte e x) y = Bare.blank_byte e (bare-join x y)

  pub inside-join : {f g h : Bytes} {c e : Content} → Inside d f c g → Inside d g e h → Inside d f (c ++ e) h
  inside-join Inside.none y = y
  inside-join (Inside.byte u v x) y = Inside.byte u v (inside-join x y)
  inside-join (Inside.pair u v x) y = Inside.pair u v (inside-join x y)

  -- blanks before more of a bare field
  pub blanks-bare : {f g h : Bytes} {e : Content} (y : Blanks d f g) → Bare d g e h → Bare d f (replicate (blank_count y) 0x20 ++ e) h
  unfolding blank_count
  blanks-bare Blanks.none k = k
  blanks-bare {h} {e = c} (Blanks.more {b} {f} e y) k =
      subst (λ (a : ℕ). Bare d (b ∷ f) (a ∷ (replicate (blank_count y) 0x20 ++ c)) h) (blank-is d b e).0 (Bare.blank_byte e (blanks-bare y k))

  -- one blank more is counted
  pub blanks-count : {f : Bytes} (b : ℕ) (y : Blanks d f []) (e : class_of d b ≡ blank) → blank_count (blanks-join (blanks-grow d (b ∷ []) y) (Blanks.more e Blanks.none)) ≡ blank_count y + 1
  unfolding blank_count blanks-join blanks-grow
  blanks-count b Blanks.none e = refl
  blanks-count b (Blanks.more i y) e = ap suc (blanks-count b y e) ∙ omega arith

  -- fields and records one more
  pub fields-more : {f g h : Bytes} {cs es : List Content} → Fields d f cs g → Fields d g es h → Fields d f (cs ++ es) h
  fields-more Fields.none y = y
  fields-more (Fields.more p e x) y = Fields.more p e (fields-more x y)

  pub records-more : {f g h : Bytes} {t u : Table} → Records d f t g → Records d g u h → Records d f (t ++ u) h
  records-more Records.none y = y
  records-more (Records.more p e x) y = Records.more p e (records-more x y)

  pub fields-record : {f g h : Bytes} {cs : List Content} {c : Content} → Fields d f cs g → Field d g c h → Record d f (cs ++ (c ∷ [])) h
  fields-record Fields.none p = Record.one p
  fields-record (Fields.more q e x) p = Record.more q e (fields-record x p)

-- The other way: what stands behind all that is read may be cut off, up to any place of the rest.
abbrev pub Cut : (Bytes → Bytes → Type 0) → Bytes → Bytes → Bytes → Type 0
Cut X u f g = (f₀ : Bytes) × (f ≡ f₀ ++ u) × X f₀ g

module _ (d : Dialect) (u : Bytes) where
  pub blanks-cut : {f g : Bytes} (g₀ : Bytes) → Blanks d f g → g ≡ g₀ ++ u → Cut (Blanks d) u f g₀
  blanks-cut g₀ Blanks.none q = (g₀, q, Blanks.none)
  blanks-cut g₀ (Blanks.more {b} e x) q = let (f₀, i, y) = blanks-cut g₀ x q in (b ∷ f₀, ap (λ (l : Bytes). b ∷ l) i, Blanks.more e y)

  pub bare-cut : {f g : Bytes} {c : Content} (g₀ : Bytes) → Bare d f c g → g ≡ g₀ ++ u → Cut (λ f g. Bare d f c g) u f g₀
  bare-cut g₀ Bare.none q = (g₀, q, Bare.none)
  bare-cut g₀ (Bare.text_byte {b} e x) q = let (f₀, i, y) = bare-cut g₀ x q in (b ∷ f₀, ap (λ (l : Bytes). b ∷ l) i, Bare.text_byte e y)
  bare-cut g₀ (Bare.blank_byte {b} e x) q = let (f₀, i, y) = bare-cut g₀ x q in (b ∷ f₀, ap (λ (l : Bytes). b ∷ l) i, Bare.blank_byte e y)

  pub inside-cut : {f g : Bytes} {c : Content} (g₀ : Bytes) → Inside d f c g → g ≡ g₀ ++ u → Cut (λ f g. Inside d f c g) u f g₀
  inside-cut g₀ Inside.none q = (g₀, q, Inside.none)
  inside-cut g₀ (Inside.byte {b} e j x) q = let (f₀, i, y) = inside-cut g₀ x q in (b ∷ f₀, ap (λ (l : Bytes). b ∷ l) i, Inside.byte e j y)
  inside-cut g₀ (Inside.pair {a} {b} e j x) q = let (f₀, i, y) = inside-cut g₀ x q in (a ∷ b ∷ f₀, ap (λ (l : Bytes). a ∷ b ∷ l) i, Inside.pair e j y)

  pub open-cut : {f g : Bytes} {c : Content} (g₀ : Bytes) → Open d f c g → g ≡ g₀ ++ u → Cut (λ f g. Open d f c g) u f g₀
  open-cut g₀ (opened {b} e x) q = let (f₀, i, y) = inside-cut g₀ x q in (b ∷ f₀, ap (λ (l : Bytes). b ∷ l) i, opened e y)

  pub quoted-cut : {f g : Bytes} {c : Content} (g₀ : Bytes) → Quoted d f c g → g ≡ g₀ ++ u → Cut (λ f g. Quoted d f c g) u f g₀
  quoted-cut g₀ (closed {b} x e) q = let (f₀, i, y) = open-cut (b ∷ g₀) x (ap (λ (l : Bytes). b ∷ l) q) in (f₀, i, closed y e)

  pub field_cut : {f g : Bytes} {c : Content} (g₀ : Bytes) → Field d f c g → g ≡ g₀ ++ u → Cut (λ f g. Field d f c g) u f g₀
  field_cut g₀ (Field.bare x k n y) q =
      let (f₁, i, y') = blanks-cut g₀ y q in
      let (f₂, j, k') = bare-cut f₁ k i in
      let (f₃, l, x') = blanks-cut f₂ x j in
      (f₃, l, Field.bare x' k' n y')
  field_cut g₀ (Field.quoted x k y) q =
      let (f₁, i, y') = blanks-cut g₀ y q in
      let (f₂, j, k') = quoted-cut f₁ k i in
      let (f₃, l, x') = blanks-cut f₂ x j in
      (f₃, l, Field.quoted x' k' y')

  pub record-cut : {f g : Bytes} {cs : List Content} (g₀ : Bytes) → Record d f cs g → g ≡ g₀ ++ u → Cut (λ f g. Record d f cs g) u f g₀
  record-cut g₀ (Record.one p) q = let (f₀, i, y) = field_cut g₀ p q in (f₀, i, Record.one y)
  record-cut g₀ (Record.more {b} p e r) q =
      let (f₁, i, y) = record-cut g₀ r q in
      let (f₂, j, z) = field_cut (b ∷ f₁) p (ap (λ (l : Bytes). b ∷ l) i) in
      (f₂, j, Record.more z e y)

  pub break-cut : {f g : Bytes} (g₀ : Bytes) → Break d f g → g ≡ g₀ ++ u → Cut (Break d) u f g₀
  break-cut g₀ (Break.crlf {a} {b} e i) q = (a ∷ b ∷ g₀, ap (λ (l : Bytes). a ∷ b ∷ l) q, Break.crlf e i)
  break-cut g₀ (Break.lf_alone {b} e i) q = (b ∷ g₀, ap (λ (l : Bytes). b ∷ l) q, Break.lf_alone e i)

  pub fields-cut : {f g : Bytes} {cs : List Content} (g₀ : Bytes) → Fields d f cs g → g ≡ g₀ ++ u → Cut (λ f g. Fields d f cs g) u f g₀
  fields-cut g₀ Fields.none q = (g₀, q, Fields.none)
  fields-cut g₀ (Fields.more {b} p e r) q =
      let (f₁, i, y) = fields-cut g₀ r q in
      let (f₂, j, z) = field_cut (b ∷ f₁) p (ap (λ (l : Bytes). b ∷ l) i) in
      (f₂, j, Fields.more z e y)

  pub records-cut : {f g : Bytes} {t : Table} (g₀ : Bytes) → Records d f t g → g ≡ g₀ ++ u → Cut (λ f g. Records d f t g) u f g₀
  records-cut g₀ Records.none q = (g₀, q, Records.none)
  records-cut g₀ (Records.more r k x) q =
      let (f₁, i, y) = records-cut g₀ x q in
      let (f₂, j, z) = break-cut f₁ k i in
      let (f₃, l, w) = record-cut f₂ r j in
      (f₃, l, Records.more w z y)
