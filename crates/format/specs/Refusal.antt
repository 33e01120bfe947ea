-- Refusals 3 to 10: `.. n f found named` says that in the source f the refusal n is found at one place and names another. A place is the rest of the
-- file that begins there. All before it is whole and within the house rules: so it is the fault found earliest, at one byte of the smallest number.
use Rattle.std.specs.Prelude.{ℕ, ◌<◌, ◌≡◌, false, List, [], ◌∷◌, ◌++◌, length}
use Rattle.format.specs.Table.{Bytes, Content, Table, Every}
use Rattle.format.specs.Dialect.{lf, Dialect, text, blank, delimiter, quote, CR, LF, forbidden, class_of}
use Rattle.format.specs.Grammar.{Blanks, Bare, Open, Quoted, Field, Record, Break}
use Rattle.format.specs.House.{EqualRows, content_limit, Fits, Allowed}

-- no LF comes next
abbrev pub NoLf : Dialect → Bytes → Type 0
NoLf d [] = Unit {0}
NoLf d (b ∷ f) = class_of d b ≡ LF → ⊥

-- where a record ends: at the file's length or at its line break; h is left behind it. Where a field ends: there, or at its delimiter
pub data LineEnd (d : Dialect) : Bytes → Bytes → Type 0 where
  end : LineEnd d [] []
  broken : {g h : Bytes} → Break d g h → LineEnd d g h

pub data FieldEnd (d : Dialect) : Bytes → Type 0 where
  delimited : {b : ℕ} {g : Bytes} → class_of d b ≡ delimiter → FieldEnd d (b ∷ g)
  lined : {g h : Bytes} → LineEnd d g h → FieldEnd d g

-- a fault in the field that begins at f
pub data FieldRefusal (d : Dialect) : ℕ → Bytes → Bytes → Bytes → Type 0 where
  -- 3, a forbidden byte: behind a field, or inside an open one
  refusal_3 : {b : ℕ} {f g : Bytes} {c : Content} → Field d f c (b ∷ g) → class_of d b ≡ forbidden → FieldRefusal d 3 f (b ∷ g) (b ∷ g)
  refusal_3_inside : {b : ℕ} {f q g : Bytes} {c : Content} → Blanks d f q → Open d q c (b ∷ g) → class_of d b ≡ forbidden → FieldRefusal d 3 f (b ∷ g) (b ∷ g)
  -- 4, a quote in a bare field: text has come before it
  refusal_4 : {a b : ℕ} {f g h : Bytes} {c : Content}
      → Blanks d f (a ∷ g) → class_of d a ≡ text → Bare d g c (b ∷ h) → class_of d b ≡ quote → FieldRefusal d 4 f (b ∷ h) (b ∷ h)
  -- 5, a wrong byte after a closing quote: text, or a quote that blanks part from it
  refusal_5 : {b : ℕ} {f g h i : Bytes} {c : Content}
      → Blanks d f g → Quoted d g c h → Blanks d h (b ∷ i) → class_of d b ≡ text → FieldRefusal d 5 f (b ∷ i) (b ∷ i)
  refusal_5_quote : {a b : ℕ} {f g h i : Bytes} {c : Content}
      → Blanks d f g → Quoted d g c (a ∷ h) → class_of d a ≡ blank → Blanks d h (b ∷ i) → class_of d b ≡ quote → FieldRefusal d 5 f (b ∷ i) (b ∷ i)
  -- 6, a CR outside quotes without LF next
  refusal_6 : {b : ℕ} {f g : Bytes} {c : Content} → Field d f c (b ∷ g) → class_of d b ≡ CR → NoLf d g → FieldRefusal d 6 f (b ∷ g) (b ∷ g)
  -- 7, a bare LF that is not allowed
  refusal_7 : {b : ℕ} {f g : Bytes} {c : Content} → Field d f c (b ∷ g) → class_of d b ≡ LF → d.allows lf ≡ false → FieldRefusal d 7 f (b ∷ g) (b ∷ g)
  -- 8, a quoted field still open at the end: it names the opening quote
  refusal_8 : {f q : Bytes} {c : Content} → Blanks d f q → Open d q c [] → FieldRefusal d 8 f [] q
  -- 9, a content over the limit, found where the field ends: it names the field's first byte
  refusal_9 : {f g : Bytes} {c : Content} → Field d f c g → FieldEnd d g → content_limit < length c → FieldRefusal d 9 f g f

-- whole fields, each with its delimiter; whole records, each with its line break
pub data Fields (d : Dialect) : Bytes → List Content → Bytes → Type 0 where
  none : {g : Bytes} → Fields d g [] g
  more : {b : ℕ} {f g h : Bytes} {c : Content} {cs : List Content} → Field d f c (b ∷ g) → class_of d b ≡ delimiter → Fields d g cs h → Fields d f (c ∷ cs) h

pub data Records (d : Dialect) : Bytes → Table → Bytes → Type 0 where
  none : {g : Bytes} → Records d g [] g
  more : {f g h i : Bytes} {cs : List Content} {t : Table} → Record d f cs g → Break d g h → Records d h t i → Records d f (cs ∷ t) i

-- the refusal of the file f
pub data Refusal (d : Dialect) : ℕ → Bytes → Bytes → Bytes → Type 0 where
  -- 3 to 9
  in_field : {n : ℕ} {f g h found named : Bytes} {t : Table} {cs : List Content}
      → Records d f t g → Allowed d t → Fields d g cs h → Every Fits cs → FieldRefusal d n h found named → Refusal d n f found named
  -- 10, a wrong number of fields, found at the record's end; where no byte is left, there is no record
  refusal_10 : {b : ℕ} {f g h i : Bytes} {t : Table} {cs : List Content}
      → Records d f t (b ∷ g) → Allowed d t → Record d (b ∷ g) cs h → LineEnd d h i → Every Fits cs
      → (EqualRows d (t ++ (cs ∷ [])) → ⊥) → Refusal d 10 f h h
