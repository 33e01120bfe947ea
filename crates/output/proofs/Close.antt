-- The close: both last ends at once, and then all of the table is out.
use Prim.Native.Nat.{ℕ, ◌+◌, ◌≤◌}
use native.Mathlib.Omega.{arith}
use mathlib.Core.Path.{◌≡◌, refl, sym, ap, subst, ◌∙◌}
use mathlib.Core.Bool.{Bool, true, false, cond, not, true≢false}
use mathlib.Core.Logic.{◌⊎◌, inl, inr}
use mathlib.Core.List.{List, [], ◌∷◌, ◌++◌, append_assoc, append-nil, append_cancel_left, flatten}
use lib.Dec.{T, eqb}
use lib.ListN.{length, take, length-append}
use lib.Seq.{take_all}
use borrow.Author.Tests.{eqb-false}
use Rattle.format.specs.declared.Answer.{Answer}
use Rattle.format.specs.Table.{Bytes, Content, Table, Ending, Every}
use Rattle.format.specs.Dialect.{Dialect, dialect, delimits, Valid}
use Rattle.format.specs.Grammar.{Blanks, Bare, Field, Record, Break, File}
use Rattle.format.specs.House.{empty, EndsInBreak, content_limit, Fits}
use Rattle.format.specs.Count.{missing}
use Rattle.format.specs.Refusal.{Fields, Records}
use Rattle.format.specs.Memory.{lengths, text_of, ends_of, rows_of}
use Rattle.format.specs.Reading.{Reading, nothing, something}
use Rattle.state.specs.declared.Check.{Check}
use Rattle.places.specs.Counters.{plus}
use Rattle.pieces.specs.Asked.{asked}
use Rattle.pieces.proofs.Asking.{LastEnds, Asks, asks}
use Rattle.format.specs.Answer.{accepted_as}
use Rattle.output.specs.Out.{Out, nothing as none, then, out_of}
use Rattle.format.specs.SoFar.{Begun, SoFar, so_far}
use Rattle.output.specs.Stream.{shown, close_due}
use Rattle.output.specs.Promises.{whole_out}
use Rattle.format.proofs.Ended.{missing-ended}
use Rattle.format.proofs.Every.{each-every, every-last}
use Rattle.format.proofs.Grow.{blanks-join}
use Rattle.format.proofs.Memory.{flatten-one, lengths-one}
use Rattle.steps.proofs.Forms.{at-begun, held_in}
use Rattle.steps.proofs.Limits.{file-nil}
use Rattle.steps.proofs.One.{one-so-far}
use Rattle.output.proofs.Step.{Standing, standing, Clear, clear, then-nothing}

-- a whole record without its line break, as far as it has come
record Last (d : Dialect) (f : Bytes) (cs : List Content) : Type 0 where
  es : List Content
  e : Content
  m : ℕ
  h : Bytes
  is : cs ≡ es ++ (e ∷ [])
  fields : Fields d f es h
  begun : Begun d h e m

-- a file as far as it has come: up to a line break, or inside a record
data Ends (d : Dialect) (f : Bytes) (t : Table) : Type 0 where
  at-break : SoFar d f t [] [] 0 → Ends d f t
  in_record : (u : Table) (es : List Content) (e : Content) (m : ℕ) → t ≡ u ++ ((es ++ (e ∷ [])) ∷ []) → SoFar d f u es e m → Ends d f t

module _ (d : Dialect) where
  pub field-begun : {f : Bytes} {c : Content} → Field d f c [] → (m : ℕ) × Begun d f c m
  field-begun (Field.bare {c = []} x Bare.none p y) = (0, Begun.empty (blanks-join d x y))
  field-begun (Field.bare {c = a ∷ c} x k p y) = (_, Begun.bare x k p y refl)
  field-begun (Field.quoted x k y) = (0, Begun.shut x k y)

  record-last : {f : Bytes} {cs : List Content} → Record d f cs [] → Last d f cs
  record-last {f} (Record.one {c} p) = let z = field-begun p in record { es = []; e = c; m = z.0; h = f; is = refl; fields = Fields.none; begun = z.1 }
  record-last (Record.more {c} p k r) =
      let z = record-last r in
      record { es = c ∷ z.es; e = z.e; m = z.m; h = z.h; is = ap (λ (l : List Content). c ∷ l) z.is; fields = Fields.more p k z.fields; begun = z.begun }

  -- a record more before the rest
  far-more :
      {f g h : Bytes} {cs es : List Content} {t : Table} {e : Content} {m : ℕ} → Record d f cs g → Break d g h → SoFar d h t es e m → SoFar d f (cs ∷ t) es e m
  far-more r k (so_far x y z) = so_far (Records.more r k x) y z

  ends_more : {f g h : Bytes} {cs : List Content} {t : Table} → Record d f cs g → Break d g h → Ends d h t → Ends d f (cs ∷ t)
  ends_more r k (at-break v) = at-break (far-more r k v)
  ends_more {cs} r k (in_record u es e m q v) = in_record (cs ∷ u) es e m (ap (λ (l : Table). cs ∷ l) q) (far-more r k v)

  file-ends : {f : Bytes} {t : Table} {e : Ending} → File d f t e → Ends d f t
  file-ends (File.one r) = let z = record-last r in in_record [] z.es z.e z.m (ap (λ (l : List Content). l ∷ []) z.is) (so_far Records.none z.fields z.begun)
  file-ends (File.ended r k) = at-break (so_far (Records.more r k Records.none) Fields.none (Begun.empty Blanks.none))
  file-ends (File.more r k p) = ends_more r k (file-ends p)

  reading-ends : {f : Bytes} {t : Table} {r : ℕ} → Reading d f t r → Ends d f t
  reading-ends (nothing empty) = at-break (so_far Records.none Fields.none (Begun.empty Blanks.none))
  reading-ends (something p l a q) = file-ends p

-- how many fields an answer counts that accepts: with that of an open record
module _ (c : Check) (w : Clear c) (z : (asked c).refusal ≡ 0) where
  not-zero : {A : Type 0} (n : ℕ) → eqb n 0 ≡ false → (asked c).refusal ≡ n → A
  not-zero n u q = absurd (eqb-false n 0 u (sym q ∙ z))

  pub counted : (y : Bool) → eqb c.begun 0 ≡ y → (asked c).totals.fields.0 ≡ cond y c.counts.fields.0 (plus c.counts.fields.0 1)
  counted y e = by y e (asks c w.valid w.short w.refusal)
    where
      by : (y : Bool) → eqb c.begun 0 ≡ y → Asks c (asked c) → (asked c).totals.fields.0 ≡ cond y c.counts.fields.0 (plus c.counts.fields.0 1)
      by true e (Asks.between i v) = v.fields
      by true e (Asks.in_quotes i p q) = not-zero 8 refl q
      by true e (Asks.behind_cr i p q) = not-zero 6 refl q
      by true e (Asks.in_record i p q v) = absurd (true≢false (sym e ∙ i))
      by false e (Asks.between i v) = absurd (true≢false (sym i ∙ e))
      by false e (Asks.in_quotes i p q) = not-zero 8 refl q
      by false e (Asks.behind_cr i p q) = not-zero 6 refl q
      by false e (Asks.in_record i p q (LastEnds.ends l y v)) = v.fields
      by false e (Asks.in_record i p q (LastEnds.long l v)) = not-zero 9 refl v
      by false e (Asks.in_record i p q (LastEnds.uneven l y v)) = not-zero 10 refl v

-- contents of a table that is read fit
pub reading-fits : {d : Dialect} {f : Bytes} {t : Table} {r : ℕ} → Reading d f t r → Every Fits (flatten t)
unfolding flatten
reading-fits (nothing empty) = tt
reading-fits {t = t} (something p l a q) = each-every Fits t a.contents

-- a table by its last field
flatten-last : (t u : Table) (cs : List Content) (c : Content) → t ≡ u ++ ((cs ++ (c ∷ [])) ∷ []) → flatten t ≡ (flatten u ++ cs) ++ (c ∷ [])
flatten-last t u cs c e = ap flatten e ∙ (flatten-one u (cs ++ (c ∷ [])) ∙ sym (append_assoc (flatten u) cs (c ∷ [])))

fields-of : (t u : Table) (cs : List Content) (c : Content) → t ≡ u ++ ((cs ++ (c ∷ [])) ∷ []) → length (flatten t) ≡ length (flatten u ++ cs) + 1
fields-of t u cs c e = ap length (flatten-last t u cs c e) ∙ length-append (flatten u ++ cs) (c ∷ [])

last_fits :
    {d : Dialect} {f : Bytes} {t : Table} {r : ℕ} (u : Table) (cs : List Content) (c : Content) → Reading d f t r → t ≡ u ++ ((cs ++ (c ∷ [])) ∷ []) → Fits c
last_fits {t = t} u cs c p e = every-last Fits (flatten u ++ cs) c (subst (Every Fits) (flatten-last t u cs c e) (reading-fits p))

-- all of a table is out: up to its last line break, or with its last record closed
out-whole : (t : Table) → out_of t [] [] 0 ≡ whole_out t
unfolding out_of flatten
out-whole t =
    let q : flatten (flatten t ++ []) ++ [] ≡ flatten (flatten t) = append-nil (flatten (flatten t ++ [])) ∙ ap flatten (append-nil (flatten t)) in
    let e : lengths 0 (flatten t ++ []) ≡ lengths 0 (flatten t) = ap (lengths 0) (append-nil (flatten t)) in
    λ i. record { text = q i; ends = e i; rows = lengths 0 t }

out-last :
    (t u : Table) (cs : List Content) (c : Content) → t ≡ u ++ ((cs ++ (c ∷ [])) ∷ []) → length c ≤ content_limit
    → then (out_of u cs c 0) (record { text = []; ends = length (text_of t) ∷ []; rows = length (flatten t) ∷ [] }) ≡ whole_out t
unfolding out_of
out-last t u cs c e l =
    let y = flatten u ++ cs in
    let row = cs ++ (c ∷ []) in
    let a : flatten t ≡ y ++ (c ∷ []) = flatten-last t u cs c e in
    let p : take content_limit (c ++ []) ≡ c = ap (take content_limit) (append-nil c) ∙ take_all content_limit c l in
    let v : text_of t ≡ flatten y ++ c = ap flatten a ∙ flatten-one y c in
    let q : (flatten y ++ take content_limit (c ++ [])) ++ [] ≡ text_of t =
    append-nil (flatten y ++ take content_limit (c ++ [])) ∙ (ap (λ (l : List ℕ). flatten y ++ l) p ∙ sym v) in
    let n : length (text_of t) ≡ 0 + length (flatten y) + length c = ap length v ∙ (length-append (flatten y) c ∙ omega arith) in
    let o : lengths 0 y ++ (length (text_of t) ∷ []) ≡ ends_of t =
    ap (λ (n : ℕ). lengths 0 y ++ (n ∷ [])) n ∙ (sym (lengths-one 0 y c) ∙ ap (lengths 0) (sym a)) in
    let m : length (flatten t) ≡ 0 + length (flatten u) + length row = ap length (ap flatten e ∙ flatten-one u row) ∙ (length-append (flatten u) row ∙ omega arith) in
    let w : lengths 0 u ++ (length (flatten t) ∷ []) ≡ rows_of t =
    ap (λ (n : ℕ). lengths 0 u ++ (n ∷ [])) m ∙ (sym (lengths-one 0 u row) ∙ ap (lengths 0) (sym e)) in
    λ i. record { text = q i; ends = o i; rows = w i }

pub closing-out :
    {b sum : ℕ} {f : Bytes} {c : Check} {o : Out} (t : Table) (r : ℕ) → Standing b sum f c 0 o → shown c ≡ false → Reading (dialect b sum) f t r
    → asked c ≡ accepted_as t r → then o (close_due c (accepted_as t r)) ≡ whole_out t
unfolding close_due
closing-out {b} {sum} {f} {c} {o} t r (standing {k} {t = u} {cs} {c = e} {n} {g} {h} w l q) s p a = by (eqb c.begun 0) refl (reading-ends (dialect b sum) p)
  where
    fields : (y : Bool) → eqb c.begun 0 ≡ y → length (flatten t) ≡ cond y c.counts.fields.0 (plus c.counts.fields.0 1)
    fields y i = rw a at (counted c (clear c s) (ap (λ (x : Answer). x.refusal) a) y i)

    ours : SoFar (dialect b sum) f u cs e (held_in k n)
    ours = so_far w.records w.fields (at-begun w.at)

    by : (y : Bool) → eqb c.begun 0 ≡ y → Ends (dialect b sum) f t
        → then o (record { text = []; ends = cond (not y) (length (text_of t) ∷ []) []; rows = cond (not y) (length (flatten t) ∷ []) [] }) ≡ whole_out t
    by true i (at-break v) =
        let z = one-so-far (dialect b sum) ours v in
        then-nothing o ∙ (q ∙ ((λ j. out_of (z.0 j) (z.1 j) (z.2 j) 0) ∙ out-whole t))
    by true i (in_record u' es e' m j v) =
        let z = one-so-far (dialect b sum) ours v in
        let y = fields true i in
        let v₁ = w.count in
        let v₂ = fields-of t u' es e' j in
        let v₃ : length (flatten u ++ cs) ≡ length (flatten u' ++ es) = λ j. length (flatten (z.0 j) ++ z.1 j) in
        absurd (omega arith)
    by false i (at-break v) =
        let z = one-so-far (dialect b sum) ours v in
        let y = fields false i in
        let v₁ = w.count in
        let v₂ = w.ends in
        let v₄ = w.limit in
        let v₃ : length (flatten u ++ cs) ≡ length (flatten t) = (λ j. length (flatten (z.0 j) ++ z.1 j)) ∙ ap length (append-nil (flatten t)) in
        absurd (omega arith)
    by false i (in_record u' es e' m j v) =
        let z = one-so-far (dialect b sum) ours v in
        ap (λ (p : Out). then p (record { text = []; ends = length (text_of t) ∷ []; rows = length (flatten t) ∷ [] })) (q ∙ λ j. out_of (z.0 j) (z.1 j) (z.2 j) 0)
        ∙ out-last t u' es e' j (last_fits u' es e' p j)

-- A file that is empty, or ends in a line break: all of its table is out before the close, which has nothing to put out.
module _ (d : Dialect) (valid : T (delimits d.delimiter_byte)) where
  broken-far : {f : Bytes} {t : Table} {e : Ending} → missing e ≡ 0 → File d f t e → SoFar d f t [] [] 0
  broken-far z (File.one r) = absurd (omega (arith, z))
  broken-far z (File.ended r k) = so_far (Records.more r k Records.none) Fields.none (Begun.empty Blanks.none)
  broken-far z (File.more r k p) = far-more d r k (broken-far z p)

  reading-far : {f : Bytes} {t : Table} {r : ℕ} → (f ≡ []) ⊎ EndsInBreak f → Reading d f t r → SoFar d f t [] [] 0
  reading-far h (nothing empty) = so_far Records.none Fields.none (Begun.empty Blanks.none)
  reading-far {t = t} (inl e) (something {e = i} p l a q) = absurd (file-nil (subst (λ (f : Bytes). File d f t i) e p) l)
  reading-far (inr e) (something p l a q) = broken-far ((missing-ended d valid l p).1 e) p

-- what is behind something that is whole already
then_same : (o p : Out) → then o p ≡ o → p ≡ none
then_same o p e =
    λ i. record {
      text = append_cancel_left o.text p.text [] (ap (λ (x : Out). x.text) e ∙ sym (append-nil o.text)) i;
      ends = append_cancel_left o.ends p.ends [] (ap (λ (x : Out). x.ends) e ∙ sym (append-nil o.ends)) i;
      rows = append_cancel_left o.rows p.rows [] (ap (λ (x : Out). x.rows) e ∙ sym (append-nil o.rows)) i;
    }

pub none_left :
    {b sum : ℕ} {f : Bytes} {c : Check} {o : Out} (t : Table) (r : ℕ) → Standing b sum f c 0 o → shown c ≡ false → Valid b sum → Reading (dialect b sum) f t r
    → asked c ≡ accepted_as t r → (f ≡ []) ⊎ EndsInBreak f → close_due c (accepted_as t r) ≡ none
none_left {b} {sum} {f} {c} {o} t r w s v p a h = then_same o (close_due c (accepted_as t r)) (closing-out t r w s p a ∙ sym (whole w))
  where
    whole : Standing b sum f c 0 o → o ≡ whole_out t
    whole (standing w l q) =
        let z = one-so-far (dialect b sum) (so_far w.records w.fields (at-begun w.at)) (reading-far (dialect b sum) v.0 h p) in
        q ∙ ((λ j. out_of (z.0 j) (z.1 j) (z.2 j) 0) ∙ out-whole t)
