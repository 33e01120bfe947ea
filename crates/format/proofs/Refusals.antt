-- Refusals 3 to 10 by the rules' table of places: what stands where a refusal is found and at the place that it names. All that a refusal says of what
-- came before is left out. And the other way: where a field or a record ends in a fault, there is its refusal.
use Prim.Native.Nat.{ℕ, ◌≤◌}
use native.Mathlib.Omega.{arith}
use mathlib.Core.Path.{◌≡◌, refl, sym, ap, subst, ◌∙◌}
use mathlib.Core.Bool.{Bool, true, false, not, ◌||◌}
use mathlib.Core.Logic.{◌⊎◌, inl, inr}
use mathlib.Core.List.{List, [], ◌∷◌, ◌++◌, append_assoc}
use lib.Dec.{T, leb, eqb}
use lib.ListN.{length}
use borrow.Author.Tests.{leb-true, leb-false, eqb-true, eqb-false, eq-eqb}
use Rattle.format.specs.Table.{Bytes, Content, Table, Every}
use Rattle.format.specs.Dialect.{lf, ragged, Dialect, text, CR, LF, forbidden, class_of, delimits}
use Rattle.format.specs.Grammar.{Blanks, Bare, Open, opened, Quoted, Field, Record, Break}
use Rattle.format.specs.House.{is_ragged, EqualRows, content_limit, Fits, Allowed}
use Rattle.format.specs.Refusal.{NoLf, LineEnd, FieldEnd, FieldRefusal, refusal_3, refusal_3_inside, refusal_4, refusal_5, refusal_5_quote, refusal_6, refusal_7, refusal_8, refusal_9, Fields, Records, Refusal, in_field, refusal_10}
use Rattle.format.proofs.Classes.{class-LF, quote-is, CR-is, LF-is, delimiter-is}
use Rattle.format.proofs.Even.{even-one, even-last}
use Rattle.format.proofs.Grow.{blanks-cut, bare-cut, open-cut, quoted-cut, field_cut, record-cut}

-- the byte b stands at the place p
abbrev pub At : ℕ → Bytes → Type 0
At b p = (g : Bytes) × (p ≡ b ∷ g)

stands : {a b : ℕ} {g : Bytes} → a ≡ b → At b (a ∷ g)
stands {g} e = (g, ap (λ (n : ℕ). n ∷ g) e)

-- the place p of the file f begins a field: it is the first, or a delimiter or an LF stands before it
pub data Begins (d : Dialect) (f : Bytes) : Bytes → Type 0 where
  first : Begins d f f
  behind : {b : ℕ} {p : Bytes} (s : Bytes) → (b ≡ d.delimiter_byte) ⊎ (b ≡ 0x0A) → f ≡ s ++ (b ∷ p) → Begins d f p

-- The table's rows for the field that begins at f: the number, the place where it is found and the place named. Beside each stand the table's words:
-- meaning: found at; place named.
pub data FieldRow (d : Dialect) (f : Bytes) : ℕ → Bytes → Bytes → Type 0 where
  -- forbidden byte: that byte; same
  row_3 : {b : ℕ} {p : Bytes} → At b p → class_of d b ≡ forbidden → FieldRow d f 3 p p
  -- quote in a bare field: that quote; same
  row_4 : {p : Bytes} → At 0x22 p → FieldRow d f 4 p p
  -- wrong byte after a closing quote: that byte, text or a quote; same
  row_5 : {b : ℕ} {p : Bytes} → At b p → (class_of d b ≡ text) ⊎ (b ≡ 0x22) → FieldRow d f 5 p p
  -- CR outside quotes without LF next: the CR; same
  row_6 : {p g : Bytes} → p ≡ 0x0D ∷ g → (At 0x0A g → ⊥) → FieldRow d f 6 p p
  -- bare LF, not allowed: that LF; same
  row_7 : {p : Bytes} → At 0x0A p → d.allows lf ≡ false → FieldRow d f 7 p p
  -- quoted field still open at the end: file length; its opening quote
  row_8 : {p : Bytes} → At 0x22 p → FieldRow d f 8 [] p
  -- content over the limit: where the field ends; its first source byte
  row_9 : {p : Bytes} {c : Content} → Field d f c p → FieldEnd d p → (Fits c → ⊥) → FieldRow d f 9 p f

-- and the rows for the file f
pub data Row (d : Dialect) (f : Bytes) : ℕ → Bytes → Bytes → Type 0 where
  row_3_9 : {n : ℕ} {h found named : Bytes} → Begins d f h → FieldRow d h n found named → Row d f n found named
  -- wrong number of fields, other than the first record's: the record's line break, or file length; same
  row_10 : {p g h : Bytes} {t : Table} {es cs : List Content}
      → Records d f (es ∷ t) g → Record d g cs p → LineEnd d p h → d.allows ragged ≡ false → (length cs ≡ length es → ⊥) → Row d f 10 p p

module _ {d : Dialect} where
  -- a place where a field begins, behind another
  later : {b : ℕ} {f g p : Bytes} (s : Bytes) → (b ≡ d.delimiter_byte) ⊎ (b ≡ 0x0A) → f ≡ s ++ (b ∷ g) → Begins d g p → Begins d f p
  later s w q first = behind s w q
  later {b} s w q (behind {b = a} {p} z v e) = behind (s ++ (b ∷ z)) v (q ∙ (ap (λ (l : Bytes). s ++ (b ∷ l)) e ∙ sym (append_assoc s (b ∷ z) (a ∷ p))))

  fields-begin : {f g : Bytes} {cs : List Content} → Fields d f cs g → Begins d f g
  fields-begin Fields.none = first
  fields-begin (Fields.more {b} {g} p e x) = let (s, q, _) = field_cut d (b ∷ g) [] p refl in later s (inl (delimiter-is d b e)) q (fields-begin x)

  records-begin : {f g h : Bytes} {t : Table} {cs : List Content} → Records d f t g → Fields d g cs h → Begins d f h
  records-begin Records.none y = fields-begin y
  records-begin (Records.more r (Break.crlf {a} {b} {g} j k) x) y =
      let (s, q, _) = record-cut d (a ∷ b ∷ g) [] r refl in
      later (s ++ (a ∷ [])) (inr (LF-is d b k)) (q ∙ sym (append_assoc s (a ∷ []) (b ∷ g))) (records-begin x y)
  records-begin (Records.more r (Break.lf_alone {b} {g} j k) x) y =
      let (s, q, _) = record-cut d (b ∷ g) [] r refl in later s (inr (LF-is d b j)) q (records-begin x y)

-- the record that equal rows do not admit differs from the first, and "ragged" is off
uneven-last :
    {d : Dialect} {f g : Bytes} (t : Table) (cs : List Content) → Records d f t g → EqualRows d t → (EqualRows d (t ++ (cs ∷ [])) → ⊥)
    → (es : List Content) × (u : Table) × Records d f (es ∷ u) g × (d.allows ragged ≡ false) × (length cs ≡ length es → ⊥)
uneven-last {d} [] cs x h n = absurd (n (even-one d cs))
uneven-last {d} (es ∷ u) cs x h n =
    let (e, o) = off (d.allows ragged) (λ a. n (even-last d es u cs h a)) in
    (es, u, x, e, o)
  where
    off : (x : Bool) → (T (x || eqb (length cs) (length es)) → ⊥) → (x ≡ false) × (length cs ≡ length es → ⊥)
    off true n = absurd (n tt)
    off false n = (refl, λ e. n (rw (eq-eqb (length cs) (length es) e) tt))

module _ (d : Dialect) (valid : T (delimits d.delimiter_byte)) where
  no_lf : (g : Bytes) → NoLf d g → At 0x0A g → ⊥
  no_lf [] n (h, e) = let z : ◌≡◌ {A = ℕ} 0 1 = cc in omega arith
  no_lf (b ∷ g) n (h, e) = let q : b ≡ 0x0A = cc in n (rw q (class-LF d valid))

  -- every refusal is as its row says
  pub field_row : {n : ℕ} {f found named : Bytes} → FieldRefusal d n f found named → FieldRow d f n found named
  field_row (refusal_3 p e) = row_3 (stands refl) e
  field_row (refusal_3_inside x o e) = row_3 (stands refl) e
  field_row (refusal_4 {b} x k y e) = row_4 (stands (quote-is d b e))
  field_row (refusal_5 x k y e) = row_5 (stands refl) (inl e)
  field_row (refusal_5_quote {b} x k j y e) = row_5 (stands refl) (inr (quote-is d b e))
  field_row (refusal_6 {b} {g} p e n) = row_6 {g = g} (ap (λ (x : ℕ). x ∷ g) (CR-is d b e)) (no_lf g n)
  field_row (refusal_7 {b} p e o) = row_7 (stands (LF-is d b e)) o
  field_row (refusal_8 x (opened {b} e k)) = row_8 (stands (quote-is d b e))
  field_row (refusal_9 p k l) = row_9 p k (λ h. omega arith)

  pub refusal-row : {n : ℕ} {f found named : Bytes} → Refusal d n f found named → Row d f n found named
  refusal-row (in_field x a y k r) = row_3_9 (records-begin x y) (field_row r)
  refusal-row (refusal_10 {t} {cs} x a r k i n) = let (es, u, y, o, w) = uneven-last t cs x a.rows n in row_10 y r k o w

  -- No fault is missed. A CR and an LF behind a field begin a line break, or are refused;
  pub line-or-6 :
      {b : ℕ} {f : Bytes} {c : Content} (g : Bytes)
      → Field d f c (b ∷ g) → class_of d b ≡ CR → ((h : Bytes) × Break d (b ∷ g) h) ⊎ FieldRefusal d 6 f (b ∷ g) (b ∷ g)
  line-or-6 [] p k = inr (refusal_6 p k tt)
  line-or-6 {b} {f} (a ∷ g) p k = go (eqb a 0x0A) refl
    where
      go : (x : Bool) → eqb a 0x0A ≡ x → ((h : Bytes) × Break d (b ∷ a ∷ g) h) ⊎ FieldRefusal d 6 f (b ∷ a ∷ g) (b ∷ a ∷ g)
      go true e = let l : class_of d a ≡ LF = rw (eqb-true a 0x0A e) (class-LF d valid) in inl (g, Break.crlf k l)
      go false e = inr (refusal_6 p k (λ l. eqb-false a 0x0A e (LF-is d a l)))

pub line-or-7 :
    {d : Dialect} {b : ℕ} {f g : Bytes} {c : Content}
    → Field d f c (b ∷ g) → class_of d b ≡ LF → Break d (b ∷ g) g ⊎ FieldRefusal d 7 f (b ∷ g) (b ∷ g)
line-or-7 {d} {b} {f} {g} p k = go (d.allows lf) refl
  where
    go : (x : Bool) → d.allows lf ≡ x → Break d (b ∷ g) g ⊎ FieldRefusal d 7 f (b ∷ g) (b ∷ g)
    go true e = inl (Break.lf_alone k (rw e tt))
    go false e = inr (refusal_7 p k e)

-- a field that ends is within the content limit, or is refused where it ends
pub fits-or-9 : {d : Dialect} {f g : Bytes} {c : Content} → Field d f c g → FieldEnd d g → Fits c ⊎ FieldRefusal d 9 f g f
fits-or-9 {d} {f} {g} {c} p k = go (leb (length c) content_limit) refl
  where
    go : (x : Bool) → leb (length c) content_limit ≡ x → Fits c ⊎ FieldRefusal d 9 f g f
    go true e = inl (leb-true (length c) content_limit e)
    go false e = inr (refusal_9 p k (omega (arith, leb-false (length c) content_limit e)))

-- and a record that ends keeps the rows equal, or is refused where it ends
pub equal-or-10 :
    {d : Dialect} {b : ℕ} {f g h i : Bytes} {t : Table} {cs : List Content}
    → Records d f t (b ∷ g) → Allowed d t → Record d (b ∷ g) cs h → LineEnd d h i → Every Fits cs → EqualRows d (t ++ (cs ∷ [])) ⊎ Refusal d 10 f h h
unfolding EqualRows
equal-or-10 {d} {f} {h} {t} {cs} x a r k l = go (d.allows ragged || not (is_ragged (t ++ (cs ∷ [])))) refl
  where
    go : (y : Bool) → (d.allows ragged || not (is_ragged (t ++ (cs ∷ [])))) ≡ y → EqualRows d (t ++ (cs ∷ [])) ⊎ Refusal d 10 f h h
    go true e = inl (rw e tt)
    go false e = inr (refusal_10 x a r k l (λ m. subst T e m))

-- the numbers are 3 to 10
pub row_number : {d : Dialect} {n : ℕ} {f found named : Bytes} → Row d f n found named → (3 ≤ n) × (n ≤ 10)
row_number (row_3_9 x (row_3 a e)) = omega arith
row_number (row_3_9 x (row_4 a)) = omega arith
row_number (row_3_9 x (row_5 a e)) = omega arith
row_number (row_3_9 x (row_6 a e)) = omega arith
row_number (row_3_9 x (row_7 a e)) = omega arith
row_number (row_3_9 x (row_8 a)) = omega arith
row_number (row_3_9 x (row_9 p k l)) = omega arith
row_number (row_10 x r k o n) = omega arith

-- g is a rest of f: a place of f, or its end
abbrev pub RestOf : Bytes → Bytes → Type 0
RestOf f g = (s : Bytes) × (f ≡ s ++ g)

-- the place that is found is not before the one that is named, and that one is in f
abbrev pub Rests : Bytes → Bytes → Bytes → Type 0
Rests f found named = RestOf named found × RestOf f named

same : {f g : Bytes} → RestOf f g → Rests f g g
same r = (([], refl), r)

rest_then : {f g h : Bytes} → RestOf f g → RestOf g h → RestOf f h
rest_then {h} (s, q) (z, e) = (s ++ z, q ∙ (ap (λ (l : Bytes). s ++ l) e ∙ sym (append_assoc s z h)))

module _ {d : Dialect} where
  blanks-rest : {f g : Bytes} → Blanks d f g → RestOf f g
  blanks-rest {g} x = let (s, q, _) = blanks-cut d g [] x refl in (s, q)

  open-rest : {f g : Bytes} {c : Content} → Open d f c g → RestOf f g
  open-rest {g} x = let (s, q, _) = open-cut d g [] x refl in (s, q)

  field-rest : {f g : Bytes} {c : Content} → Field d f c g → RestOf f g
  field-rest {g} x = let (s, q, _) = field_cut d g [] x refl in (s, q)

  bare-rest : {a : ℕ} {f g : Bytes} {c : Content} → Bare d f c g → RestOf (a ∷ f) g
  bare-rest {a} {g} x = let (s, q, _) = bare-cut d g [] x refl in (a ∷ s, ap (λ (l : Bytes). a ∷ l) q)

  quoted-rest : {f g : Bytes} {c : Content} → Quoted d f c g → RestOf f g
  quoted-rest {g} x = let (s, q, _) = quoted-cut d g [] x refl in (s, q)

  pub field-rests : {n : ℕ} {f found named : Bytes} → FieldRefusal d n f found named → Rests f found named
  field-rests (refusal_3 p e) = same (field-rest p)
  field-rests (refusal_3_inside x o e) = same (rest_then (blanks-rest x) (open-rest o))
  field-rests (refusal_4 x k y e) = same (rest_then (blanks-rest x) (bare-rest y))
  field-rests (refusal_5 x k y e) = same (rest_then (blanks-rest x) (rest_then (quoted-rest k) (blanks-rest y)))
  field-rests (refusal_5_quote {a} x k j y e) = same (rest_then (blanks-rest x) (rest_then (quoted-rest k) (blanks-rest (Blanks.more j y))))
  field-rests (refusal_6 p e n) = same (field-rest p)
  field-rests (refusal_7 p e o) = same (field-rest p)
  field-rests (refusal_8 x o) = (open-rest o, blanks-rest x)
  field-rests (refusal_9 p k l) = (field-rest p, ([], refl))

  begins-rest : {f p : Bytes} → Begins d f p → RestOf f p
  begins-rest first = ([], refl)
  begins-rest (behind {b} {p} s w q) = (s ++ (b ∷ []), q ∙ sym (append_assoc s (b ∷ []) p))

  pub refusal-rests : {n : ℕ} {f found named : Bytes} → Refusal d n f found named → Rests f found named
  refusal-rests (in_field x a y k r) = let (i, j) = field-rests r in (i, rest_then (begins-rest (records-begin x y)) j)
  refusal-rests (refusal_10 {h} x a r k l n) =
      let (s, q, _) = record-cut d h [] r refl in same (rest_then (begins-rest (records-begin x Fields.none)) (s, q))
