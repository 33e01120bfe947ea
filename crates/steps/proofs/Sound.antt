-- Whatever the model gives, the grammar says: field by field, a right end or a fault.
use Prim.Native.Nat.{ℕ, suc}
use native.Mathlib.Omega.{arith}
use mathlib.Core.Path.{◌≡◌, refl, sym, ap, ◌∙◌}
use mathlib.Core.Bool.{Bool, true, false, cond}
use mathlib.Core.List.{[], ◌∷◌}
use lib.Dec.{T}
use Rattle.format.specs.Table.{Bytes, Content, last_of}
use Rattle.format.specs.Dialect.{lf, Dialect, Class, text, blank, delimiter, quote, CR, LF, forbidden, class_of}
use Rattle.format.specs.Grammar.{padded, Blanks, Bare, Inside, opened, closed, Field, Break}
use Rattle.format.specs.Refusal.{NoLf, FieldRefusal, refusal_3, refusal_3_inside, refusal_4, refusal_5, refusal_5_quote, refusal_6, refusal_7, refusal_8}
use Rattle.format.specs.Count.{blank_count, dropped, alone}
use Rattle.format.proofs.Classes.{droppable, text-ordinary, unpadded, quoted_class, inside-byte}
use Rattle.steps.specs.Steps.{Form, start, bare, quoted, shut, tail, cr, step_of}
use Rattle.steps.specs.Numbers.{class_number}
use Rattle.steps.specs.Model.{Cell, cell, Trace, refused, last, field, line, change, putting, dropping, holding, ending, doing, run}
use Rattle.steps.proofs.Complete.{EndsWell, start-lead}

-- from a form, the rest of a field: its cell, and what it leaves
pub data Goes (d : Dialect) : Form → Bytes → Cell → Bytes → Type 0 where
  from_start : {f g : Bytes} {c : Content} {n : ℕ} (p : Field d f c g) → dropped f c g p ≡ n → Goes d start f (cell c n) g
  in_bare : {f g h : Bytes} {c : Content} {n : ℕ} → Bare d f c g → EndsWell d c → (y : Blanks d g h) → blank_count y ≡ n → Goes d bare f (cell c n) h
  in_quotes :
      {b : ℕ} {f g h : Bytes} {c : Content} {n : ℕ}
      → Inside d f c (b ∷ g) → class_of d b ≡ quote → (y : Blanks d g h) → blank_count y ≡ n → Goes d quoted f (cell c n) h
  shut_done : {f g : Bytes} {n : ℕ} (y : Blanks d f g) → blank_count y ≡ n → Goes d shut f (cell [] n) g
  shut_more :
      {a b : ℕ} {f g h : Bytes} {c : Content} {n : ℕ}
      → class_of d a ≡ quote → Inside d f c (b ∷ g) → class_of d b ≡ quote → (y : Blanks d g h) → blank_count y ≡ n
      → Goes d shut (a ∷ f) (cell (a ∷ c) n) h
  tail_done : {f g : Bytes} {n : ℕ} (y : Blanks d f g) → blank_count y ≡ n → Goes d tail f (cell [] n) g

-- from a form, a fault inside the rest of a field; p is the anchor
pub data Wrong (d : Dialect) : Form → Bytes → ℕ → Bytes → Bytes → Bytes → Type 0 where
  bare_4 : {b : ℕ} {f g p : Bytes} {c : Content} → Bare d f c (b ∷ g) → class_of d b ≡ quote → Wrong d bare p 4 f (b ∷ g) (b ∷ g)
  in_3 : {b : ℕ} {f g p : Bytes} {c : Content} → Inside d f c (b ∷ g) → class_of d b ≡ forbidden → Wrong d quoted p 3 f (b ∷ g) (b ∷ g)
  in_8 : {f p : Bytes} {c : Content} → Inside d f c [] → Wrong d quoted p 8 f [] p
  in_5 :
      {a b : ℕ} {f g h p : Bytes} {c : Content}
      → Inside d f c (a ∷ g) → class_of d a ≡ quote → Blanks d g (b ∷ h) → class_of d b ≡ text → Wrong d quoted p 5 f (b ∷ h) (b ∷ h)
  in_5_quote :
      {a b e : ℕ} {f g h p : Bytes} {c : Content}
      → Inside d f c (a ∷ e ∷ g) → class_of d a ≡ quote → class_of d e ≡ blank → Blanks d g (b ∷ h) → class_of d b ≡ quote
      → Wrong d quoted p 5 f (b ∷ h) (b ∷ h)
  shut_5 : {b : ℕ} {f h p : Bytes} → Blanks d f (b ∷ h) → class_of d b ≡ text → Wrong d shut p 5 f (b ∷ h) (b ∷ h)
  shut_5_quote :
      {b e : ℕ} {f h p : Bytes} → class_of d e ≡ blank → Blanks d f (b ∷ h) → class_of d b ≡ quote → Wrong d shut p 5 (e ∷ f) (b ∷ h) (b ∷ h)
  shut_again : {a n : ℕ} {f p found named : Bytes} → class_of d a ≡ quote → Wrong d quoted p n f found named → Wrong d shut p n (a ∷ f) found named
  tail_5 : {b : ℕ} {f h p : Bytes} → Blanks d f (b ∷ h) → class_of d b ≡ text → Wrong d tail p 5 f (b ∷ h) (b ∷ h)
  tail_5_quote : {b : ℕ} {f h p : Bytes} → Blanks d f (b ∷ h) → class_of d b ≡ quote → Wrong d tail p 5 f (b ∷ h) (b ∷ h)
  start_4 :
      {a b : ℕ} {f g h p : Bytes} {c : Content}
      → Blanks d f (a ∷ g) → class_of d a ≡ text → Bare d g c (b ∷ h) → class_of d b ≡ quote → Wrong d start p 4 f (b ∷ h) (b ∷ h)
  start_open :
      {a n : ℕ} {f g p found named : Bytes}
      → Blanks d f (a ∷ g) → class_of d a ≡ quote → Wrong d quoted (a ∷ g) n g found named → Wrong d start p n f found named

-- what cannot follow a field that is over
pub data Bad (d : Dialect) : ℕ → Bytes → Type 0 where
  bad_3 : {b : ℕ} {g : Bytes} → class_of d b ≡ forbidden → Bad d 3 (b ∷ g)
  bad_6 : {b : ℕ} {g : Bytes} → class_of d b ≡ CR → NoLf d g → Bad d 6 (b ∷ g)
  bad_7 : {b : ℕ} {g : Bytes} → class_of d b ≡ LF → d.allows lf ≡ false → Bad d 7 (b ∷ g)

-- from a form, what a source means
pub data Means (d : Dialect) : Form → Bytes → Bytes → Trace → Type 0 where
  is_wrong : {k : Form} {n : ℕ} {p f found named : Bytes} → Wrong d k p n f found named → Means d k p f (refused n found named)
  is_bad : {k : Form} {n : ℕ} {p f a : Bytes} {x : Cell} → Goes d k f x a → Bad d n a → Means d k p f (refused n a a)
  is_last : {k : Form} {p f : Bytes} {x : Cell} → Goes d k f x [] → Means d k p f (last x 0 [])
  is_ended : {k : Form} {l : ℕ} {p f a : Bytes} {x : Cell} → Goes d k f x a → (e : Break d a []) → alone e ≡ l → Means d k p f (last x l a)
  is_field :
      {k : Form} {b : ℕ} {p f g : Bytes} {x : Cell} {r : Trace}
      → Goes d k f x (b ∷ g) → class_of d b ≡ delimiter → Means d start [] g r → Means d k p f (field x (b ∷ g) g r)
  is_line :
      {k : Form} {b l : ℕ} {p f h a : Bytes} {x : Cell} {r : Trace}
      → Goes d k f x a → (e : Break d a (b ∷ h)) → alone e ≡ l → Means d start [] (b ∷ h) r → Means d k p f (line x l a (b ∷ h) r)

-- one byte before what is right, or wrong
abbrev Right : Dialect → Form → Form → ℕ → Bytes → (Cell → Cell) → Type 0
Right d j k b f φ = (x : Cell) (g : Bytes) → Goes d j f x g → Goes d k (b ∷ f) (φ x) g

abbrev Worse : Dialect → Form → Form → ℕ → Bytes → Bytes → Bytes → Type 0
Worse d j k b f p q = (n : ℕ) (found named : Bytes) → Wrong d j q n f found named → Wrong d k p n (b ∷ f) found named

change-same : (r : Trace) → change (λ x. x) r ≡ r
change-same (refused n a p) = refl
change-same (last x l a) = refl
change-same (field x a g r) = refl
change-same (line x l a g r) = refl

module _ (d : Dialect) where
  means-change :
      {j k : Form} {b : ℕ} {p q f : Bytes} {r : Trace} (φ : Cell → Cell)
      → Right d j k b f φ → Worse d j k b f p q → Means d j q f r → Means d k p (b ∷ f) (change φ r)
  means-change φ u v (is_wrong w) = is_wrong (v _ _ _ w)
  means-change φ u v (is_bad s w) = is_bad (u _ _ s) w
  means-change φ u v (is_last s) = is_last (u _ _ s)
  means-change φ u v (is_ended s e q) = is_ended (u _ _ s) e q
  means-change φ u v (is_field s e m) = is_field (u _ _ s) e m
  means-change φ u v (is_line s e q m) = is_line (u _ _ s) e q m

  means-same :
      {j k : Form} {b : ℕ} {p q f : Bytes} {r : Trace}
      → Right d j k b f (λ x. x) → Worse d j k b f p q → Means d j q f r → Means d k p (b ∷ f) r
  means-same {r} u v m = rw (change-same r) at (means-change (λ x. x) u v m)

  ends-text : (b : ℕ) (c : Content) → droppable d b ≡ false → EndsWell d c → droppable d (last_of b c) ≡ false
  unfolding last_of
  ends-text b [] t w = t
  ends-text b (y ∷ c) t w = w

  module _ (b : ℕ) where
    -- at the start of a field
    blank-right : (f : Bytes) → class_of d b ≡ blank → Right d start start b f dropping
    unfolding dropped blank_count
    blank-right f e x g (from_start {n} (Field.bare w k u y) q) = from_start {n = suc n} (Field.bare (Blanks.more e w) k u y) (omega arith)
    blank-right f e x g (from_start {n} (Field.quoted w k y) q) = from_start {n = suc n} (Field.quoted (Blanks.more e w) k y) (omega arith)

    blank-worse : (f : Bytes) → class_of d b ≡ blank → Worse d start start b f [] []
    blank-worse f e n i j (start_4 w t k q) = start_4 (Blanks.more e w) t k q
    blank-worse f e n i j (start_open w q z) = start_open (Blanks.more e w) q z

    text-right : (f : Bytes) → class_of d b ≡ text → Right d bare start b f (putting b)
    unfolding dropped blank_count
    text-right f e x g (in_bare {c} {n} k w y q) =
        let t = (text-ordinary d b e).1 in
        from_start {n = n} (Field.bare Blanks.none (Bare.text_byte e k) (unpadded d b c t (ends-text b c t w)) y) (omega arith)

    text-worse : (f : Bytes) → class_of d b ≡ text → Worse d bare start b f [] []
    text-worse f e n i j (bare_4 k q) = start_4 Blanks.none e k q

    quote-right : (f : Bytes) → class_of d b ≡ quote → Right d quoted start b f (λ x. x)
    unfolding dropped blank_count
    quote-right f e x g (in_quotes {n} k q y z) = from_start {n = n} (Field.quoted Blanks.none (closed (opened e k) q) y) (omega arith)

    quote-worse : (f : Bytes) → class_of d b ≡ quote → Worse d quoted start b f [] (b ∷ f)
    quote-worse f e n i j w = start_open Blanks.none e w

    -- in a bare field
    bare-text-right : (f : Bytes) → class_of d b ≡ text → Right d bare bare b f (putting b)
    bare-text-right f e x g (in_bare {c} k w y q) = in_bare (Bare.text_byte e k) (ends-text b c (text-ordinary d b e).1 w) y q

    bare-text-worse : (f : Bytes) → class_of d b ≡ text → Worse d bare bare b f [] []
    bare-text-worse f e n i j (bare_4 k q) = bare_4 (Bare.text_byte e k) q

    bare-blank-right : (f : Bytes) → class_of d b ≡ blank → Right d bare bare b f (holding b)
    unfolding blank_count last_of
    bare-blank-right f e x g (in_bare Bare.none w y q) = in_bare Bare.none tt (Blanks.more e y) (ap suc q)
    bare-blank-right f e x g (in_bare (Bare.text_byte t k) w y q) = in_bare (Bare.blank_byte e (Bare.text_byte t k)) w y q
    bare-blank-right f e x g (in_bare (Bare.blank_byte t k) w y q) = in_bare (Bare.blank_byte e (Bare.blank_byte t k)) w y q

    bare-blank-worse : (f : Bytes) → class_of d b ≡ blank → Worse d bare bare b f [] []
    bare-blank-worse f e n i j (bare_4 k q) = bare_4 (Bare.blank_byte e k) q

    -- between quotes
    byte-right : (f : Bytes) (x : Class) → T (quoted_class x) → class_of d b ≡ x → Right d quoted quoted b f (putting b)
    byte-right f x t e u g (in_quotes k q y z) = in_quotes (inside-byte x t e k) q y z

    byte-worse : (f p : Bytes) (x : Class) → T (quoted_class x) → class_of d b ≡ x → Worse d quoted quoted b f p p
    byte-worse f p x t e n i j (in_3 k q) = in_3 (inside-byte x t e k) q
    byte-worse f p x t e n i j (in_8 k) = in_8 (inside-byte x t e k)
    byte-worse f p x t e n i j (in_5 k q w u) = in_5 (inside-byte x t e k) q w u
    byte-worse f p x t e n i j (in_5_quote k q v w u) = in_5_quote (inside-byte x t e k) q v w u

    shut-right : (f : Bytes) → class_of d b ≡ quote → Right d shut quoted b f (λ x. x)
    shut-right f e x g (shut_done y q) = in_quotes Inside.none e y q
    shut-right f e x g (shut_more q k u y z) = in_quotes (Inside.pair e q k) u y z

    shut-worse : (f p : Bytes) → class_of d b ≡ quote → Worse d shut quoted b f p p
    shut-worse f p e n i j (shut_5 w t) = in_5 Inside.none e w t
    shut-worse f p e n i j (shut_5_quote v w q) = in_5_quote Inside.none e v w q
    shut-worse f p e n i j (shut_again q (in_3 k t)) = in_3 (Inside.pair e q k) t
    shut-worse f p e n i j (shut_again q (in_8 k)) = in_8 (Inside.pair e q k)
    shut-worse f p e n i j (shut_again q (in_5 k u w t)) = in_5 (Inside.pair e q k) u w t
    shut-worse f p e n i j (shut_again q (in_5_quote k u v w t)) = in_5_quote (Inside.pair e q k) u v w t

    -- behind a closing quote
    tail-right : (f : Bytes) → class_of d b ≡ blank → Right d tail shut b f dropping
    unfolding blank_count
    tail-right f e x g (tail_done y q) = shut_done (Blanks.more e y) (ap suc q)

    tail-worse : (f p : Bytes) → class_of d b ≡ blank → Worse d tail shut b f p []
    tail-worse f p e n i j (tail_5 w t) = shut_5 (Blanks.more e w) t
    tail-worse f p e n i j (tail_5_quote w q) = shut_5_quote e w q

    again-right : (f : Bytes) → class_of d b ≡ quote → Right d quoted shut b f (putting b)
    again-right f e x g (in_quotes k q y z) = shut_more e k q y z

    again-worse : (f p : Bytes) → class_of d b ≡ quote → Worse d quoted shut b f p p
    again-worse f p e n i j w = shut_again e w

    tails-right : (f : Bytes) → class_of d b ≡ blank → Right d tail tail b f dropping
    unfolding blank_count
    tails-right f e x g (tail_done y q) = tail_done (Blanks.more e y) (ap suc q)

    tails-worse : (f : Bytes) → class_of d b ≡ blank → Worse d tail tail b f [] []
    tails-worse f e n i j (tail_5 w t) = tail_5 (Blanks.more e w) t
    tails-worse f e n i j (tail_5_quote w q) = tail_5_quote (Blanks.more e w) q

  -- where a field is over
  start-here : (g : Bytes) → Goes d start g (cell [] 0) g
  unfolding dropped blank_count padded
  start-here g = from_start (Field.bare Blanks.none Bare.none refl Blanks.none) refl

  bare-here : (g : Bytes) → Goes d bare g (cell [] 0) g
  unfolding blank_count
  bare-here g = in_bare Bare.none tt Blanks.none refl

  shut-here : (g : Bytes) → Goes d shut g (cell [] 0) g
  unfolding blank_count
  shut-here g = shut_done Blanks.none refl

  tail-here : (g : Bytes) → Goes d tail g (cell [] 0) g
  unfolding blank_count
  tail-here g = tail_done Blanks.none refl

  ending-means :
      {k : Form} {l : ℕ} {p g a : Bytes} {r : Trace} (f : Bytes)
      → Goes d k g (cell [] 0) a → (e : Break d a f) → alone e ≡ l → Means d start [] f r → Means d k p g (ending l a f r)
  ending-means [] s e q m = is_ended s e q
  ending-means (b ∷ f) s e q m = is_line s e q m

  LF-means :
      {k : Form} {p : Bytes} (b : ℕ) (f : Bytes) {r : Trace} (y : Bool) → d.allows lf ≡ y → Goes d k (b ∷ f) (cell [] 0) (b ∷ f) → class_of d b ≡ LF
      → Means d start [] f r → Means d k p (b ∷ f) (cond y (ending 1 (b ∷ f) f r) (refused 7 (b ∷ f) (b ∷ f)))
  unfolding alone
  LF-means b f true q s e m = ending-means f s (Break.lf_alone e (rw q tt)) refl m
  LF-means b f false q s e m = is_bad s (bad_7 e q)

-- the model is right in every form
pub record Sound (d : Dialect) (f : Bytes) : Type 0 where
  pub at_start : Means d start [] f (run d f start [])
  at_bare : Means d bare [] f (run d f bare [])
  at_quoted : (p : Bytes) → Means d quoted p f (run d f quoted p)
  at_shut : (p : Bytes) → Means d shut p f (run d f shut p)
  at_tail : Means d tail [] f (run d f tail [])
  at_cr :
      (k : Form) (b : ℕ) (p : Bytes)
      → Goes d k (b ∷ f) (cell [] 0) (b ∷ f) → class_of d b ≡ CR → Means d k p (b ∷ f) (run d f cr (b ∷ f))

-- the table, row by row
module _ (d : Dialect) (b : ℕ) (f : Bytes) (s : Sound d f) where
  does : Form → Bytes → Bool → Class → Trace
  does k p y x = doing (step_of y k x) k b f p (λ j q. run d f j q)

  row-start : (y : Bool) → d.allows lf ≡ y → (x : Class) → class_of d b ≡ x → Means d start [] (b ∷ f) (does start [] y x)
  unfolding does step_of
  row-start y q text e = means-change d (putting b) (text-right d b f e) (text-worse d b f e) s.at_bare
  row-start y q blank e = rw (start-lead d f) at (means-change d dropping (blank-right d b f e) (blank-worse d b f e) s.at_start)
  row-start y q delimiter e = is_field (start-here d (b ∷ f)) e s.at_start
  row-start y q quote e = means-same d (quote-right d b f e) (quote-worse d b f e) (s.at_quoted (b ∷ f))
  row-start y q CR e = s.at_cr start b [] (start-here d (b ∷ f)) e
  row-start true q LF e = LF-means d b f true q (start-here d (b ∷ f)) e s.at_start
  row-start false q LF e = LF-means d b f false q (start-here d (b ∷ f)) e s.at_start
  row-start y q forbidden e = is_bad (start-here d (b ∷ f)) (bad_3 e)

  row-bare : (y : Bool) → d.allows lf ≡ y → (x : Class) → class_of d b ≡ x → Means d bare [] (b ∷ f) (does bare [] y x)
  unfolding does step_of
  row-bare y q text e = means-change d (putting b) (bare-text-right d b f e) (bare-text-worse d b f e) s.at_bare
  row-bare y q blank e = means-change d (holding b) (bare-blank-right d b f e) (bare-blank-worse d b f e) s.at_bare
  row-bare y q delimiter e = is_field (bare-here d (b ∷ f)) e s.at_start
  row-bare y q quote e = is_wrong (bare_4 Bare.none e)
  row-bare y q CR e = s.at_cr bare b [] (bare-here d (b ∷ f)) e
  row-bare true q LF e = LF-means d b f true q (bare-here d (b ∷ f)) e s.at_start
  row-bare false q LF e = LF-means d b f false q (bare-here d (b ∷ f)) e s.at_start
  row-bare y q forbidden e = is_bad (bare-here d (b ∷ f)) (bad_3 e)

  row-byte : (p : Bytes) (x : Class) → T (quoted_class x) → class_of d b ≡ x → Means d quoted p (b ∷ f) (change (putting b) (run d f quoted p))
  row-byte p x t e = means-change d (putting b) (byte-right d b f x t e) (byte-worse d b f p x t e) (s.at_quoted p)

  row-quoted : (y : Bool) (p : Bytes) (x : Class) → class_of d b ≡ x → Means d quoted p (b ∷ f) (does quoted p y x)
  unfolding does step_of
  row-quoted y p text e = row-byte p text tt e
  row-quoted y p blank e = row-byte p blank tt e
  row-quoted y p delimiter e = row-byte p delimiter tt e
  row-quoted y p quote e = means-same d (shut-right d b f e) (shut-worse d b f p e) (s.at_shut p)
  row-quoted y p CR e = row-byte p CR tt e
  row-quoted y p LF e = row-byte p LF tt e
  row-quoted y p forbidden e = is_wrong (in_3 Inside.none e)

  row-shut : (y : Bool) → d.allows lf ≡ y → (p : Bytes) (x : Class) → class_of d b ≡ x → Means d shut p (b ∷ f) (does shut p y x)
  unfolding does step_of
  row-shut y q p text e = is_wrong (shut_5 Blanks.none e)
  row-shut y q p blank e = means-change d dropping (tail-right d b f e) (tail-worse d b f p e) s.at_tail
  row-shut y q p delimiter e = is_field (shut-here d (b ∷ f)) e s.at_start
  row-shut y q p quote e = means-change d (putting b) (again-right d b f e) (again-worse d b f p e) (s.at_quoted p)
  row-shut y q p CR e = s.at_cr shut b p (shut-here d (b ∷ f)) e
  row-shut true q p LF e = LF-means d b f true q (shut-here d (b ∷ f)) e s.at_start
  row-shut false q p LF e = LF-means d b f false q (shut-here d (b ∷ f)) e s.at_start
  row-shut y q p forbidden e = is_bad (shut-here d (b ∷ f)) (bad_3 e)

  row-tail : (y : Bool) → d.allows lf ≡ y → (x : Class) → class_of d b ≡ x → Means d tail [] (b ∷ f) (does tail [] y x)
  unfolding does step_of
  row-tail y q text e = is_wrong (tail_5 Blanks.none e)
  row-tail y q blank e = means-change d dropping (tails-right d b f e) (tails-worse d b f e) s.at_tail
  row-tail y q delimiter e = is_field (tail-here d (b ∷ f)) e s.at_start
  row-tail y q quote e = is_wrong (tail_5_quote Blanks.none e)
  row-tail y q CR e = s.at_cr tail b [] (tail-here d (b ∷ f)) e
  row-tail true q LF e = LF-means d b f true q (tail-here d (b ∷ f)) e s.at_start
  row-tail false q LF e = LF-means d b f false q (tail-here d (b ∷ f)) e s.at_start
  row-tail y q forbidden e = is_bad (tail-here d (b ∷ f)) (bad_3 e)

  lone :
      {k : Form} {a : ℕ} {p : Bytes} (x : Class)
      → class_of d b ≡ x → (class_number x ≡ class_number LF → ⊥) → Goes d k (a ∷ b ∷ f) (cell [] 0) (a ∷ b ∷ f) → class_of d a ≡ CR
      → Means d k p (a ∷ b ∷ f) (refused 6 (a ∷ b ∷ f) (a ∷ b ∷ f))
  lone x e t g q = is_bad g (bad_6 {g = b ∷ f} q (λ u. t (ap class_number (sym e ∙ u))))

  row-cr :
      (y : Bool) (k : Form) (a : ℕ) (p : Bytes) (x : Class)
      → class_of d b ≡ x → Goes d k (a ∷ b ∷ f) (cell [] 0) (a ∷ b ∷ f) → class_of d a ≡ CR
      → Means d k p (a ∷ b ∷ f) (does cr (a ∷ b ∷ f) y x)
  unfolding does step_of alone
  row-cr y k a p text e g q = lone text e (λ z. omega arith) g q
  row-cr y k a p blank e g q = lone blank e (λ z. omega arith) g q
  row-cr y k a p delimiter e g q = lone delimiter e (λ z. omega arith) g q
  row-cr y k a p quote e g q = lone quote e (λ z. omega arith) g q
  row-cr y k a p CR e g q = lone CR e (λ z. omega arith) g q
  row-cr y k a p LF e g q = ending-means d f g (Break.crlf q e) refl s.at_start
  row-cr y k a p forbidden e g q = lone forbidden e (λ z. omega arith) g q

pub sound : (d : Dialect) (f : Bytes) → Sound d f
unfolding run does
sound d [] =
    record {
      at_start = is_last (start-here d []);
      at_bare = is_last (bare-here d []);
      at_quoted = λ p. is_wrong (in_8 Inside.none);
      at_shut = λ p. is_last (shut-here d []);
      at_tail = is_last (tail-here d []);
      at_cr = λ k b p g e. is_bad g (bad_6 e tt);
    }
sound d (b ∷ f) =
    let s : Sound d f = sound d f in
    let y = d.allows lf in
    record {
      at_start = row-start d b f s y refl (class_of d b) refl;
      at_bare = row-bare d b f s y refl (class_of d b) refl;
      at_quoted = λ p. row-quoted d b f s y p (class_of d b) refl;
      at_shut = λ p. row-shut d b f s y refl p (class_of d b) refl;
      at_tail = row-tail d b f s y refl (class_of d b) refl;
      at_cr = λ k a p g e. row-cr d b f s y k a p (class_of d b) refl g e;
    }

-- a fault inside a field is a refusal of that field
open-refusal :
    {d : Dialect} {a n : ℕ} {f g found named : Bytes}
    → Blanks d f (a ∷ g) → class_of d a ≡ quote → Wrong d quoted (a ∷ g) n g found named → FieldRefusal d n f found named
open-refusal w e (in_3 k q) = refusal_3_inside w (opened e k) q
open-refusal w e (in_8 k) = refusal_8 w (opened e k)
open-refusal w e (in_5 k q x t) = refusal_5 w (closed (opened e k) q) x t
open-refusal w e (in_5_quote k q v x t) = refusal_5_quote w (closed (opened e k) q) v x t

pub wrong-refusal : {d : Dialect} {n : ℕ} {p f found named : Bytes} → Wrong d start p n f found named → FieldRefusal d n f found named
wrong-refusal (start_4 w t k q) = refusal_4 w t k q
wrong-refusal (start_open w e z) = open-refusal w e z

pub bad-refusal : {d : Dialect} {n : ℕ} {f a : Bytes} {c : Content} → Field d f c a → Bad d n a → FieldRefusal d n f a a
bad-refusal p (bad_3 e) = refusal_3 p e
bad-refusal p (bad_6 e l) = refusal_6 p e l
bad-refusal p (bad_7 e l) = refusal_7 p e l
