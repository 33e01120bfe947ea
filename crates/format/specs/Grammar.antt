-- RFC 4180's grammar with the leniencies of a dialect. Each piece stands at the front of a source and leaves a rest: `Field d f c g` says that f begins
-- with a field of content c, and that g is left behind it.
use Rattle.std.specs.Prelude.{ℕ, ◌≡◌, Bool, false, ◌&&◌, ◌||◌, List, [], ◌∷◌, T, eqb}
use Rattle.format.specs.Table.{Bytes, Content, Table, Ending, with_break, without_break, last_of}
use Rattle.format.specs.Dialect.{lf, blanks, Dialect, text, blank, delimiter, quote, CR, LF, forbidden, class_of}

-- blanks that are dropped
pub data Blanks (d : Dialect) : Bytes → Bytes → Type 0 where
  none : {g : Bytes} → Blanks d g g
  more : {b : ℕ} {f g : Bytes} → class_of d b ≡ blank → Blanks d f g → Blanks d (b ∷ f) g

-- bytes of a bare field: text and blanks
pub data Bare (d : Dialect) : Bytes → Content → Bytes → Type 0 where
  none : {g : Bytes} → Bare d g [] g
  text_byte : {b : ℕ} {f g : Bytes} {c : Content} → class_of d b ≡ text → Bare d f c g → Bare d (b ∷ f) (b ∷ c) g
  blank_byte : {b : ℕ} {f g : Bytes} {c : Content} → class_of d b ≡ blank → Bare d f c g → Bare d (b ∷ f) (b ∷ c) g

-- bytes of a quoted field, behind its opening quote: all but quotes and forbidden ones; and pairs of quotes, which stand for one
pub data Inside (d : Dialect) : Bytes → Content → Bytes → Type 0 where
  none : {g : Bytes} → Inside d g [] g
  byte : {b : ℕ} {f g : Bytes} {c : Content}
      → (class_of d b ≡ quote → ⊥) → (class_of d b ≡ forbidden → ⊥) → Inside d f c g → Inside d (b ∷ f) (b ∷ c) g
  pair : {a b : ℕ} {f g : Bytes} {c : Content} → class_of d a ≡ quote → class_of d b ≡ quote → Inside d f c g → Inside d (a ∷ b ∷ f) (b ∷ c) g

-- a content with 0x20 at either end, which the leniency "blanks" would drop
unfoldable pub padded : Dialect → Content → Bool
padded d [] = false
padded d (b ∷ c) = d.allows blanks && (eqb b 0x20 || eqb (last_of b c) 0x20)

-- a quoted field so far, from its opening quote on; and with its closing quote
pub data Open (d : Dialect) : Bytes → Content → Bytes → Type 0 where
  opened : {b : ℕ} {f g : Bytes} {c : Content} → class_of d b ≡ quote → Inside d f c g → Open d (b ∷ f) c g

pub data Quoted (d : Dialect) : Bytes → Content → Bytes → Type 0 where
  closed : {b : ℕ} {f g : Bytes} {c : Content} → Open d f c (b ∷ g) → class_of d b ≡ quote → Quoted d f c g

-- a field, bare or quoted, with the blanks around it that are dropped
pub data Field (d : Dialect) : Bytes → Content → Bytes → Type 0 where
  bare : {f g h i : Bytes} {c : Content} → Blanks d f g → Bare d g c h → padded d c ≡ false → Blanks d h i → Field d f c i
  quoted : {f g h i : Bytes} {c : Content} → Blanks d f g → Quoted d g c h → Blanks d h i → Field d f c i

-- one field, or a field, a delimiter and a record
pub data Record (d : Dialect) : Bytes → List Content → Bytes → Type 0 where
  one : {f g : Bytes} {c : Content} → Field d f c g → Record d f (c ∷ []) g
  more : {b : ℕ} {f g h : Bytes} {c : Content} {cs : List Content} → Field d f c (b ∷ g) → class_of d b ≡ delimiter → Record d g cs h → Record d f (c ∷ cs) h

-- a line break: CRLF, or LF alone where "lf" is on
pub data Break (d : Dialect) : Bytes → Bytes → Type 0 where
  crlf : {a b : ℕ} {g : Bytes} → class_of d a ≡ CR → class_of d b ≡ LF → Break d (a ∷ b ∷ g) g
  lf_alone : {b : ℕ} {g : Bytes} → class_of d b ≡ LF → T (d.allows lf) → Break d (b ∷ g) g

-- as in the RFC: records with line breaks between them, and possibly one at the end
pub data File (d : Dialect) : Bytes → Table → Ending → Type 0 where
  one : {f : Bytes} {cs : List Content} → Record d f cs [] → File d f (cs ∷ []) (without_break f)
  ended : {f g : Bytes} {cs : List Content} → Record d f cs g → Break d g [] → File d f (cs ∷ []) with_break
  more : {f g h : Bytes} {cs : List Content} {t : Table} {e : Ending} → Record d f cs g → Break d g h → File d h t e → File d f (cs ∷ t) e
