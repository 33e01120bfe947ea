-- RFC 4180, section 2: each rule of its ABNF, with the content that it stands for. The optional header has a record's form and is the first record.
use Rattle.std.specs.Prelude.{ℕ, ◌≤◌, ◌≡◌, List, [], ◌∷◌, ◌++◌}
use Rattle.format.specs.Table.{Bytes, Content, Table, Ending, with_break, without_break}

-- TEXTDATA = %x20-21 / %x23-2B / %x2D-7E
pub data Textdata : ℕ → Type 0 where
  x20_21 : {b : ℕ} → 0x20 ≤ b → b ≤ 0x21 → Textdata b
  x23_2B : {b : ℕ} → 0x23 ≤ b → b ≤ 0x2B → Textdata b
  x2D_7E : {b : ℕ} → 0x2D ≤ b → b ≤ 0x7E → Textdata b

-- non-escaped = *TEXTDATA
pub data NonEscaped : Bytes → Type 0 where
  none : NonEscaped []
  more : {b : ℕ} {f : Bytes} → Textdata b → NonEscaped f → NonEscaped (b ∷ f)

-- *(TEXTDATA / COMMA / CR / LF / 2DQUOTE), which stands between the quotes of a field; 2DQUOTE is one quote of the content
pub data InEscaped : Bytes → Content → Type 0 where
  none : InEscaped [] []
  TEXTDATA : {b : ℕ} {f : Bytes} {c : Content} → Textdata b → InEscaped f c → InEscaped (b ∷ f) (b ∷ c)
  COMMA : {f : Bytes} {c : Content} → InEscaped f c → InEscaped (0x2C ∷ f) (0x2C ∷ c)
  CR : {f : Bytes} {c : Content} → InEscaped f c → InEscaped (0x0D ∷ f) (0x0D ∷ c)
  LF : {f : Bytes} {c : Content} → InEscaped f c → InEscaped (0x0A ∷ f) (0x0A ∷ c)
  DQUOTE_DQUOTE : {f : Bytes} {c : Content} → InEscaped f c → InEscaped (0x22 ∷ 0x22 ∷ f) (0x22 ∷ c)

-- field = escaped / non-escaped; escaped = DQUOTE *(..) DQUOTE
pub data Field : Bytes → Content → Type 0 where
  escaped : {f g : Bytes} {c : Content} → InEscaped g c → f ≡ 0x22 ∷ (g ++ (0x22 ∷ [])) → Field f c
  non_escaped : {f : Bytes} → NonEscaped f → Field f f

-- record = field *(COMMA field)
pub data Record : Bytes → List Content → Type 0 where
  one : {f : Bytes} {c : Content} → Field f c → Record f (c ∷ [])
  more : {f g h : Bytes} {c : Content} {cs : List Content} → Field g c → Record h cs → f ≡ g ++ (0x2C ∷ h) → Record f (c ∷ cs)

-- file = record *(CRLF record) [CRLF]; the ending says whether the last CRLF is there
pub data File : Bytes → Table → Ending → Type 0 where
  one : {f : Bytes} {cs : List Content} → Record f cs → File f (cs ∷ []) (without_break f)
  ended : {f g : Bytes} {cs : List Content} → Record g cs → f ≡ g ++ (0x0D ∷ 0x0A ∷ []) → File f (cs ∷ []) with_break
  more : {f g h : Bytes} {cs : List Content} {t : Table} {e : Ending} → Record g cs → File h t e → f ≡ g ++ (0x0D ∷ 0x0A ∷ h) → File f (cs ∷ t) e
