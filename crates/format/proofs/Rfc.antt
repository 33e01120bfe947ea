-- At strict the dialect grammar is RFC 4180's own, both ways, and so are its readings under the house rules; and strict holds and quotes what the rules say.
use Prim.Native.Nat.{ℕ, ◌≤◌}
use mathlib.Core.Path.{◌≡◌, refl, sym, subst, ◌∙◌}
use mathlib.Core.Bool.{Bool, true, false, ◌||◌}
use mathlib.Core.List.{List, [], ◌∷◌, ◌++◌, append_assoc, append-nil}
use mathlib.Core.Logic.{◌⊎◌, inl, inr, ◌↔◌}
use native.Mathlib.Omega.{arith}
use lib.Dec.{eqb}
use Rattle.format.specs.Table.{Bytes, Content, Table, Ending}
use Rattle.format.specs.Dialect.{Class, text, blank, delimiter, quote, CR, LF, forbidden, strict, class_of}
use Rattle.format.specs.Grammar.{padded, Blanks, Bare, Inside, Open, Quoted, Field, Record, Break, File}
use Rattle.format.specs.Rfc4180
use Rattle.format.specs.Rfc4180.{Textdata, NonEscaped, InEscaped}
use Rattle.format.specs.Reading.{Reading, RfcReading}
use Rattle.format.specs.WrittenForms.{is_special, holds_special, needs_quotes}
use Rattle.format.proofs.Leniencies.{strict-report}
use Rattle.format.proofs.Classes.{Strict, strict_text, strict_comma, strict_quote, strict_CR, strict_LF, strict_other, strict-class, TextRange, textdata-range, quote-is, CR-is, LF-is, delimiter-is, blank-is, class-quote, class-CR, class-LF, class-delimiter, inside-byte}

-- a byte that strict can hold, in the rules' words: 0x20-0x7E, CR or LF
abbrev pub StrictByte : ℕ → Type 0
StrictByte b = ((0x20 ≤ b) × (b ≤ 0x7E)) ⊎ ((b ≡ 0x0D) ⊎ (b ≡ 0x0A))

-- text at strict is TEXTDATA
module _ (b : ℕ) where
  pub text-textdata : class_of strict b ≡ text → Textdata b
  text-textdata e = go (rw e at (strict-class b))
    where
      go : Strict b text → Textdata b
      go (strict_text k) = k

  pub textdata-text : Textdata b → class_of strict b ≡ text
  textdata-text k = go (class_of strict b) (textdata-range k) (strict-class b)
    where
      go : (x : Class) → TextRange b → Strict b x → x ≡ text
      go text p v = refl
      go blank p v = elim v [ ]
      go delimiter p (strict_comma q) = absurd (omega arith)
      go quote p (strict_quote q) = absurd (omega arith)
      go CR p (strict_CR q) = absurd (omega arith)
      go LF p (strict_LF q) = absurd (omega arith)
      go forbidden p (strict_other n c l) = absurd (n p.low p.high)

  -- strict forbids all other bytes, and no more
  pub strict-holds : (class_of strict b ≡ forbidden → ⊥) ↔ StrictByte b
  strict-holds = (λ free. go (class_of strict b) free (strict-class b), λ w e. none w (rw e at (strict-class b)))
    where
      go : (x : Class) → (x ≡ forbidden → ⊥) → Strict b x → StrictByte b
      go text free (strict_text k) = let p = textdata-range k in inl (p.low, p.high)
      go blank free v = elim v [ ]
      go delimiter free (strict_comma q) = inl (omega arith)
      go quote free (strict_quote q) = inl (omega arith)
      go CR free (strict_CR q) = inr (inl q)
      go LF free (strict_LF q) = inr (inr q)
      go forbidden free v = absurd (free refl)

      none : StrictByte b → Strict b forbidden → ⊥
      none (inl r) (strict_other n c l) = n r.0 r.1
      none (inr (inl q)) (strict_other n c l) = c q
      none (inr (inr q)) (strict_other n c l) = l q

-- At strict a field needs quotes exactly where it holds a special byte. That is, by computation, a comma, quote, CR or LF: the rule for the plain form.
pub strict-special : (b : ℕ) → is_special strict b ≡ (eqb b 0x2C || (eqb b 0x22 || (eqb b 0x0D || eqb b 0x0A)))
strict-special b = refl

strict-padded : (c : Content) → padded strict c ≡ false
unfolding padded
strict-padded [] = refl
strict-padded (b ∷ c) = refl

pub strict-needs : (c : Content) → needs_quotes strict c ≡ holds_special strict c
unfolding needs_quotes
strict-needs c = rw (strict-padded c) (go (holds_special strict c))
  where
    go : (x : Bool) → (x || false) ≡ x
    go true = refl
    go false = refl

-- the source f begins with a piece for which P holds, and g is left behind it
abbrev Front : (Bytes → Type 0) → Bytes → Bytes → Type 0
Front P f g = (s : Bytes) × P s × (f ≡ s ++ g)

no-blanks : {f g : Bytes} → Blanks strict f g → f ≡ g
no-blanks Blanks.none = refl
no-blanks (Blanks.more {b} k x) = absurd (blank-is strict b k).1

bare-rfc : {f g : Bytes} {c : Content} → Bare strict f c g → NonEscaped c × (f ≡ c ++ g)
bare-rfc Bare.none = (NonEscaped.none, refl)
bare-rfc (Bare.text_byte {b} k x) = let (q, e) = bare-rfc x in (NonEscaped.more (text-textdata b k) q, cc)
bare-rfc (Bare.blank_byte {b} k x) = absurd (blank-is strict b k).1

byte-escaped :
    {f : Bytes} {c : Content} (b : ℕ)
    → (class_of strict b ≡ quote → ⊥) → (class_of strict b ≡ forbidden → ⊥) → InEscaped f c → InEscaped (b ∷ f) (b ∷ c)
byte-escaped {f} {c} b n m q = go (class_of strict b) n m (strict-class b)
  where
    go : (x : Class) → (x ≡ quote → ⊥) → (x ≡ forbidden → ⊥) → Strict b x → InEscaped (b ∷ f) (b ∷ c)
    go text n m (strict_text k) = InEscaped.TEXTDATA k q
    go blank n m v = elim v [ ]
    go delimiter n m (strict_comma e) = rw e (InEscaped.COMMA q)
    go quote n m v = absurd (n refl)
    go CR n m (strict_CR e) = rw e (InEscaped.CR q)
    go LF n m (strict_LF e) = rw e (InEscaped.LF q)
    go forbidden n m v = absurd (m refl)

inside-rfc : {f g : Bytes} {c : Content} → Inside strict f c g → Front (λ s. InEscaped s c) f g
inside-rfc Inside.none = ([], InEscaped.none, refl)
inside-rfc (Inside.byte {b} n m x) = let (s, q, e) = inside-rfc x in (b ∷ s, byte-escaped b n m q, cc)
inside-rfc (Inside.pair {a} {b} k n x) =
    let (s, q, e) = inside-rfc x in
    (0x22 ∷ 0x22 ∷ s, rw (quote-is strict b n) (InEscaped.DQUOTE_DQUOTE q), cc (quote-is strict a k, quote-is strict b n))

quoted-rfc : {f g : Bytes} {c : Content} → Quoted strict f c g → Front (λ s. Rfc4180.Field s c) f g
quoted-rfc {g} (Quoted.closed {b} (Open.opened {b = a} k x) n) =
    let (s, q, e) = inside-rfc x in
    (0x22 ∷ (s ++ (0x22 ∷ [])), Rfc4180.Field.escaped q refl, cc (append_assoc s (0x22 ∷ []) g, quote-is strict a k, quote-is strict b n))

field-rfc : {f g : Bytes} {c : Content} → Field strict f c g → Front (λ s. Rfc4180.Field s c) f g
field-rfc (Field.bare {c} x k n y) = let (q, e) = bare-rfc k in (c, Rfc4180.Field.non_escaped q, cc (no-blanks x, no-blanks y))
field-rfc (Field.quoted x k y) = let (s, q, e) = quoted-rfc k in (s, q, cc (no-blanks x, no-blanks y))

record-rfc : {f g : Bytes} {cs : List Content} → Record strict f cs g → Front (λ s. Rfc4180.Record s cs) f g
record-rfc (Record.one x) = let (s, q, e) = field-rfc x in (s, Rfc4180.Record.one q, e)
record-rfc {g} (Record.more {b} x k r) =
    let (s, q, e) = field-rfc x in
    let (z, u, h) = record-rfc r in
    (s ++ (0x2C ∷ z), Rfc4180.Record.more q u refl, cc (append_assoc s (0x2C ∷ z) g, delimiter-is strict b k))

line-rfc : {f g h : Bytes} {cs : List Content} → Record strict f cs g → Break strict g h → Front (λ s. Rfc4180.Record s cs) f (0x0D ∷ 0x0A ∷ h)
line-rfc r (Break.crlf {a} {b} k n) = rw (CR-is strict a k, LF-is strict b n) at (record-rfc r)
line-rfc r (Break.lf_alone k t) = absurd t

pub grammar-rfc : {f : Bytes} {t : Table} {e : Ending} → File strict f t e → Rfc4180.File f t e
grammar-rfc (File.one {cs} r) =
    let (s, q, e) = record-rfc r in
    Rfc4180.File.one (subst (λ (l : Bytes). Rfc4180.Record l cs) (sym (e ∙ append-nil s)) q)
grammar-rfc (File.ended r k) = let (s, q, e) = line-rfc r k in Rfc4180.File.ended q e
grammar-rfc (File.more r k p) = let (s, q, e) = line-rfc r k in Rfc4180.File.more q (grammar-rfc p) e

-- and back, with any rest g behind the piece
rfc-bare : {c : Content} (g : Bytes) → NonEscaped c → Bare strict (c ++ g) c g
rfc-bare g NonEscaped.none = Bare.none
rfc-bare g (NonEscaped.more {b} k x) = Bare.text_byte (textdata-text b k) (rfc-bare g x)

rfc-inside : {s : Bytes} {c : Content} (g : Bytes) → InEscaped s c → Inside strict (s ++ g) c g
rfc-inside g InEscaped.none = Inside.none
rfc-inside g (InEscaped.TEXTDATA {b} k x) = inside-byte text tt (textdata-text b k) (rfc-inside g x)
rfc-inside g (InEscaped.COMMA x) = inside-byte delimiter tt (class-delimiter strict) (rfc-inside g x)
rfc-inside g (InEscaped.CR x) = inside-byte CR tt (class-CR strict tt) (rfc-inside g x)
rfc-inside g (InEscaped.LF x) = inside-byte LF tt (class-LF strict tt) (rfc-inside g x)
rfc-inside g (InEscaped.DQUOTE_DQUOTE x) = Inside.pair (class-quote strict tt) (class-quote strict tt) (rfc-inside g x)

rfc-field : {f : Bytes} {c : Content} (g : Bytes) → Rfc4180.Field f c → Field strict (f ++ g) c g
rfc-field g (Rfc4180.Field.escaped q e) =
    let q' = Open.opened (class-quote strict tt) (rfc-inside (0x22 ∷ g) q) in
    rw e (simp append_assoc (Field.quoted Blanks.none (Quoted.closed q' (class-quote strict tt)) Blanks.none))
rfc-field {c} g (Rfc4180.Field.non_escaped q) = Field.bare Blanks.none (rfc-bare g q) (strict-padded c) Blanks.none

rfc-record : {f : Bytes} {cs : List Content} (g : Bytes) → Rfc4180.Record f cs → Record strict (f ++ g) cs g
rfc-record g (Rfc4180.Record.one x) = Record.one (rfc-field g x)
rfc-record g (Rfc4180.Record.more {h} x r e) =
    rw e (simp append_assoc (Record.more (rfc-field (0x2C ∷ (h ++ g)) x) (class-delimiter strict) (rfc-record g r)))

rfc-break : (g : Bytes) → Break strict (0x0D ∷ 0x0A ∷ g) g
rfc-break g = Break.crlf (class-CR strict tt) (class-LF strict tt)

pub rfc-grammar : {f : Bytes} {t : Table} {e : Ending} → Rfc4180.File f t e → File strict f t e
rfc-grammar (Rfc4180.File.one {f} r) = File.one (rw (append-nil f) at (rfc-record [] r))
rfc-grammar (Rfc4180.File.ended r e) = rw e (File.ended (rfc-record (0x0D ∷ 0x0A ∷ []) r) (rfc-break []))
rfc-grammar (Rfc4180.File.more {h} r p e) = rw e (File.more (rfc-record (0x0D ∷ 0x0A ∷ h) r) (rfc-break h) (rfc-grammar p))

-- what strict reads is what RFC 4180 says under the house rules, with the same table
pub strict-is-rfc : (f : Bytes) (t : Table) → Reading strict f t 0 ↔ RfcReading f t
strict-is-rfc f t = (there, back)
  where
    there : Reading strict f t 0 → RfcReading f t
    there (Reading.nothing x) = inl x
    there (Reading.something {e} p l a q) = inr (e, grammar-rfc p, l, a)

    back : RfcReading f t → Reading strict f t 0
    back (inl x) = Reading.nothing x
    back (inr (e, p, l, a)) = Reading.something (rfc-grammar p) l a (strict-report (Reading.something (rfc-grammar p) l a refl))
