-- The check without its limits on counters: what a trace comes to, from inside a field, in counts and flags; and that this is what the model reads.
use Prim.Native.Nat.{ℕ, zero, suc, ◌+◌}
use native.Mathlib.Nat.{zero-add, add-zero, suc-add}
use native.Mathlib.Numerals.{add-one}
use native.Mathlib.Omega.{arith}
use mathlib.Core.Path.{◌≡◌, refl, sym, ap, subst, ◌∙◌}
use mathlib.Core.Bool.{Bool, true, false, cond, not, ◌||◌, or-true, or-false}
use mathlib.Core.List.{List, [], ◌∷◌, ◌++◌, flatten}
use lib.Dec.{eqb, leb, eqb-suc-zero}
use lib.ListN.{length, length-append}
use Rattle.format.specs.Table.{Bytes, Content, Table}
use Rattle.format.specs.Dialect.{ragged, Dialect}
use Rattle.format.specs.House.{differs, content_limit}
use Rattle.format.specs.Count.{some}
use Rattle.format.proofs.Classes.{decide}
use Rattle.steps.specs.Model.{Cell, Trace, refused, last, field, line, Judged, declined, taken, Width, any, just, settled, agrees, beside, above, fits, judge}

-- what has been closed so far; and which leniencies were used, but "bytes", which the bytes alone tell
pub record Sums : Type 0 where
  pub records : ℕ
  pub fields : ℕ
  pub text : ℕ

pub record Flags : Type 0 where
  pub lf : Bool
  pub blanks : Bool
  pub ragged : Bool

-- the account where a field begins: the width of the first record, 0 before its end; the fields before in the record; the field's place; sums and flags
pub record Account : Type 0 where
  pub width : ℕ
  pub number : ℕ
  pub start : Bytes
  pub sums : Sums
  pub flags : Flags

-- a field in work: its account, the bytes of its content so far, and the blanks held behind them
pub record Work : Type 0 where
  pub account : Account
  pub content : ℕ
  pub held : ℕ

abbrev pub fresh : Account → Work
fresh a = record { account = a; content = 0; held = 0 }

-- the width of the first record, 0 before its end
abbrev pub width_from : ℕ → Width
width_from zero = any
width_from (suc n) = just (suc n)

-- a record of n fields is as wide as the first, or is the first
abbrev pub even : ℕ → ℕ → Bool
even z n = eqb z 0 || eqb n z

-- a refusal with its place, or what there is without one
pub data Ans (A : Type 0) : Type 0 where
  stop : ℕ → Bytes → Ans A
  gives : A → Ans A

-- what an account comes to at the end of a file
pub record Total : Type 0 where
  pub sums : Sums
  pub flags : Flags

abbrev pub closed : Account → Ans Total
closed a = gives (record { sums = a.sums; flags = a.flags })

-- a field of m bytes and h blanks held, whose rest is the cell x: how long its content is, whether it drops a blank
abbrev pub content_with : ℕ → ℕ → Content → ℕ
content_with m h [] = m
content_with m h (y ∷ c) = m + (h + length (y ∷ c))

abbrev pub lost : ℕ → Content → Bool
lost h [] = some h
lost h (y ∷ c) = false

abbrev pub drops_in : ℕ → Cell → Bool
drops_in h x = some x.drops || lost h x.content

abbrev pub add_field : Sums → ℕ → Sums
add_field s n = record { records = s.records; fields = s.fields + 1; text = s.text + n }

abbrev pub add_record : Sums → ℕ → Sums
add_record s n = record { records = s.records + 1; fields = s.fields + 1; text = s.text + n }

abbrev pub flag_record : Bool → Bool → Bool → Flags → Flags
flag_record l x u v = record { lf = l || v.lf; blanks = x || v.blanks; ragged = u || v.ragged }

-- the account with another flag for blanks
abbrev pub with_blanks : Bool → Account → Account
with_blanks x a =
    let v : Flags = record { lf = a.flags.lf; blanks = x; ragged = a.flags.ragged } in
    record { width = a.width; number = a.number; start = a.start; sums = a.sums; flags = v }

-- the whole field, whose rest is the cell x
abbrev pub whole : Work → Cell → Work
whole w x =
    record {
      account = with_blanks (drops_in w.held x || w.account.flags.blanks) w.account;
      content = content_with w.content w.held x.content;
      held = 0;
    }

-- a whole field ends, and the next one begins at g, in its record or, with l for an LF alone, in the next
abbrev pub field_on : Bytes → Work → Account
field_on g w =
    let a = w.account in
    record { width = a.width; number = suc a.number; start = g; sums = add_field a.sums w.content; flags = a.flags }

abbrev pub record_on : Bool → Bytes → Work → Account
record_on l g w =
    let a = w.account in
    record {
      width = cond (eqb a.width 0) (suc a.number) a.width;
      number = 0;
      start = g;
      sums = add_record a.sums w.content;
      flags = flag_record l false (not (even a.width (suc a.number))) a.flags;
    }

-- the limits, where a whole field ends, and where it ends its record at p: k is what follows
abbrev pub field_up : {A : Type 0} → Work → Ans A → Ans A
field_up w k = cond (leb w.content content_limit) k (stop 9 w.account.start)

abbrev pub record_up : {A : Type 0} → Dialect → Work → Bytes → Ans A → Ans A
record_up d w p k = field_up w (cond (agrees d (width_from w.account.width) (suc w.account.number)) k (stop 10 p))

-- what holds of a refusal by them and of what follows
pub field-up : {A : Type 0} (P : Ans A → Type 0) (w : Work) (k : Ans A) → P k → P (stop 9 w.account.start) → P (field_up w k)
field-up P w k x y = decide P (leb w.content content_limit) (λ e. x) (λ e. y)

pub record-up : {A : Type 0} (P : Ans A → Type 0) (d : Dialect) (w : Work) (p : Bytes) (k : Ans A) → P k → P (stop 10 p) → P (stop 9 w.account.start) → P (record_up d w p k)
record-up P d w p k x y z = field-up P w _ (decide P (agrees d (width_from w.account.width) (suc w.account.number)) (λ e. x) (λ e. y)) z

-- a width agrees where it is even or need not be
pub agrees-even : (d : Dialect) (z j : ℕ) → (d.allows ragged || even z (suc j)) ≡ agrees d (width_from z) (suc j)
unfolding agrees
agrees-even d zero j = or-true (d.allows ragged)
agrees-even d (suc z) j = rw (eqb-suc-zero z)

-- what a trace comes to, from inside a field
abbrev pub goes : Dialect → Work → Trace → Ans Total
goes d w (refused n a p) = stop n p
goes d w (last x l a) = record_up d (whole w x) a (closed (record_on (some l) [] (whole w x)))
goes d w (field x a g r) = field_up (whole w x) (goes d (fresh (field_on g (whole w x))) r)
goes d w (line x l a g r) = record_up d (whole w x) a (goes d (fresh (record_on (some l) g (whole w x))) r)

-- the sums and flags of what the model reads: the first record has the account's number of fields more
abbrev pub tallied : Account → Judged → Ans Total
tallied a (declined n q p) = stop n p
tallied a (taken [] m l) = closed a
tallied a (taken (cs ∷ t) m l) =
    let s = a.sums in
    let n = a.number + length cs in
    gives
    (record {
      sums = record { records = s.records + suc (length t); fields = s.fields + length (flatten (cs ∷ t)); text = s.text + length (flatten (flatten (cs ∷ t))) };
      flags = flag_record (some l) (some m) (not (even a.width n) || differs (cond (eqb a.width 0) n a.width) t) a.flags;
    })

-- the model judges of a trace that a record is there
abbrev pub Some : Judged → Type 0
Some (declined n a p) = Unit {0}
Some (taken [] m l) = ⊥
Some (taken (cs ∷ t) m l) = Unit {0}

some-cond : (y : Bool) (a : Judged) (n : ℕ) (p q : Bytes) → Some a → Some (cond y a (declined n p q))
some-cond true a n p q x = x
some-cond false a n p q x = tt

some-above : (cs : List Content) (m l : ℕ) (a : Judged) → Some (above cs m l a)
some-above cs m l (declined n p q) = tt
some-above cs m l (taken t i k) = tt

some-beside : (x : Cell) (a : Judged) → Some a → Some (beside x a)
some-beside x (declined n p q) s = tt
some-beside x (taken (cs ∷ t) m l) s = tt
some-beside x (taken [] m l) s = elim s [ ]

pub some-judge : (d : Dialect) (w : Width) (j : ℕ) (p : Bytes) (r : Trace) → Some (judge d w j p r)
some-judge d w j p (refused n a q) = tt
some-judge d w j p (last x l a) =
    some-cond (fits x.content) _ 9 a p (some-cond (agrees d w (suc j)) _ 10 a a (some-above (x.content ∷ []) x.drops l (taken [] 0 0)))
some-judge d w j p (field x a g r) =
    some-cond (fits x.content) _ 9 a p (some-beside x (judge d w (suc j) g r) (some-judge d w (suc j) g r))
some-judge d w j p (line x l a g r) =
    some-cond (fits x.content) _ 9 a p
    (some-cond (agrees d w (suc j)) _ 10 a a (some-above (x.content ∷ []) x.drops l (judge d (settled w (suc j)) 0 g r)))

-- arithmetic of counts and flags
pub some-plus : (a b : ℕ) → some (a + b) ≡ (some a || some b)
some-plus zero b = ap some (zero-add b)
some-plus (suc a) b = rw (suc-add a b, eqb-suc-zero a, eqb-suc-zero (a + b))

content-with-none : (c : Content) → content_with 0 0 c ≡ length c
content-with-none [] = refl
content-with-none (y ∷ c) = omega arith

drops-none : (x : Cell) → drops_in 0 x ≡ some x.drops
drops-none x = go x.content
  where
    go : (c : Content) → (some x.drops || lost 0 c) ≡ some x.drops
    go [] = or-false (some x.drops)
    go (y ∷ c) = or-false (some x.drops)

settled-width : (z j : ℕ) → settled (width_from z) (suc j) ≡ width_from (cond (eqb z 0) (suc j) z)
settled-width zero j = refl
settled-width (suc z) j = rw (eqb-suc-zero z)

same_total :
    {a b c a' b' c' : ℕ} {l x u l' x' u' : Bool} → a ≡ a' → b ≡ b' → c ≡ c' → l ≡ l' → x ≡ x' → u ≡ u'
    → ◌≡◌ {A = Ans Total} (gives (record { sums = record { records = a; fields = b; text = c }; flags = record { lf = l; blanks = x; ragged = u } }))
    (gives (record { sums = record { records = a'; fields = b'; text = c' }; flags = record { lf = l'; blanks = x'; ragged = u' } }))
same_total p q r e f g = λ i. gives (record { sums = record { records = p i; fields = q i; text = r i }; flags = record { lf = e i; blanks = f i; ragged = g i } })

-- sizes
text-cons : (c : Content) (cs : List Content) (t : Table) → length (flatten (flatten ((c ∷ cs) ∷ t))) ≡ length c + length (flatten (flatten (cs ∷ t)))
unfolding flatten
text-cons c cs t = length-append c (flatten (cs ++ flatten t))

fields-cons : (c : Content) (cs : List Content) (t : Table) → length (flatten ((c ∷ cs) ∷ t)) ≡ suc (length (flatten (cs ∷ t)))
unfolding flatten
fields-cons c cs t = refl

one-text : (c : Content) (t : Table) → length (flatten (flatten ((c ∷ []) ∷ t))) ≡ length c + length (flatten (flatten t))
unfolding flatten
one-text c t = length-append c (flatten (flatten t))

one-field : (c : Content) (t : Table) → length (flatten ((c ∷ []) ∷ t)) ≡ suc (length (flatten t))
unfolding flatten
one-field c t = refl

pub or_swap : (x y v : Bool) → (x || (y || v)) ≡ ((y || x) || v)
or_swap true true v = refl
or_swap true false v = refl
or_swap false true v = refl
or_swap false false v = refl

flag-twice : (k l : ℕ) (v : Bool) → (some k || (some l || v)) ≡ (some (l + k) || v)
flag-twice k l v = or_swap (some k) (some l) v ∙ ap (λ (b : Bool). b || v) (sym (some-plus l k))

-- the whole field, if x is all of it
abbrev counted : Account → Cell → Work
counted a x = record { account = with_blanks (some x.drops || a.flags.blanks) a; content = length x.content; held = 0 }

pub same_whole :
    (a : Account) {x y : Bool} {m n : ℕ} → x ≡ y → m ≡ n
    → ◌≡◌ {A = Work} (record { account = with_blanks x a; content = m; held = 0 }) (record { account = with_blanks y a; content = n; held = 0 })
same_whole a p q = λ i. record { account = with_blanks (p i) a; content = q i; held = 0 }

whole_fresh : (a : Account) (x : Cell) → whole (fresh a) x ≡ counted a x
whole_fresh a x = same_whole a (ap (λ (b : Bool). b || a.flags.blanks) (drops-none x)) (content-with-none x.content)

-- a field before a record
tallied-beside : (a : Account) (g : Bytes) (x : Cell) (r : Judged) → Some r → tallied (field_on g (counted a x)) r ≡ tallied a (beside x r)
tallied-beside a g x (declined n p q) o = refl
tallied-beside a g x (taken (cs ∷ t) m l) o =
    let z = a.width in
    let e : suc a.number + length cs ≡ a.number + suc (length cs) = omega arith in
    same_total refl (omega (arith, fields-cons x.content cs t)) (omega (arith, text-cons x.content cs t)) refl
    (flag-twice m x.drops a.flags.blanks)
    (ap (λ (n : ℕ). (not (even z n) || differs (cond (eqb z 0) n z) t) || a.flags.ragged) e)
tallied-beside a g x (taken [] m l) o = elim o [ ]

-- a record before others, whose width is then set: e, it is as wide as the first; f, the next is; g, a later one is not
ragged-line : (e f g v : Bool) → ((not f || g) || (not e || v)) ≡ ((not e || (not f || g)) || v)
ragged-line true true g v = refl
ragged-line true false g v = refl
ragged-line false true true v = refl
ragged-line false true false v = refl
ragged-line false false g v = refl

-- the width is set behind the first record
width-set : (z j : ℕ) → (y : ℕ) × (cond (eqb z 0) (suc j) z ≡ suc y)
width-set zero j = (j, refl)
width-set (suc z) j = (z, rw (eqb-suc-zero z))

-- the same, with the width that is set there
line-above :
    (z j n : ℕ) (t : Table) (v : Bool) (y : ℕ) → cond (eqb z 0) (suc j) z ≡ suc y
    → let w = cond (eqb z 0) (suc j) z in
    let u = cond (eqb z 0) (j + 1) z in
    (not (even w n) || differs (cond (eqb w 0) n w) t || (not (even z (suc j)) || v)) ≡ (not (even z (j + 1)) || (not (eqb n u) || differs u t) || v)
line-above z j n t v y e =
    let P : ℕ → Type 0 =
    λ k. (not (even (suc y) n) || differs (cond (eqb (suc y) 0) n (suc y)) t || (not (even z (suc j)) || v))
    ≡ (not (even z k) || (not (eqb n (cond (eqb z 0) k z)) || differs (cond (eqb z 0) k z) t) || v) in
    let q : P (suc j) = rw (e, eqb-suc-zero y) (ragged-line (even z (suc j)) (eqb n (suc y)) (differs (suc y) t) v) in
    rw e (subst P (sym (add-one j)) q)

module _ (a : Account) (x : Cell) (l : ℕ) where
  -- a record of one field before others, and as the last
  tallied-above : (g : Bytes) (r : Judged) → Some r → tallied (record_on (some l) g (counted a x)) r ≡ tallied a (above (x.content ∷ []) x.drops l r)
  tallied-above g (declined i p q) o = refl
  tallied-above g (taken (es ∷ t) m k) o =
      let (y, e) = width-set a.width a.number in
      same_total (omega arith) (omega (arith, one-field x.content (es ∷ t))) (omega (arith, one-text x.content (es ∷ t)))
      (flag-twice k l a.flags.lf) (flag-twice m x.drops a.flags.blanks)
      (rw (zero-add (length es)) (line-above a.width a.number (length es) t a.flags.ragged y e))
  tallied-above g (taken [] m k) o = elim o [ ]

  tallied-last : closed (record_on (some l) [] (counted a x)) ≡ tallied a (above (x.content ∷ []) x.drops l (taken [] 0 0))
  unfolding flatten
  tallied-last =
      same_total refl (omega (arith, one-field x.content [])) (omega (arith, one-text x.content []))
      (rw (add-zero l)) (rw (add-zero x.drops))
      (rw (add-one a.number) (ap (λ (b : Bool). b || a.flags.ragged) (sym (or-false (not (even a.width (suc a.number)))))))

-- tests are passed on
tallied-cond :
    (x : Bool) (n : ℕ) (p q : Bytes) (a : Account) (k : Ans Total) (r : Judged) → k ≡ tallied a r
    → cond x k (stop n p) ≡ tallied a (cond x r (declined n q p))
tallied-cond true n p q a k r e = e
tallied-cond false n p q a k r e = refl

-- what a trace comes to is what the model judges of it
pub tallies : (d : Dialect) (a : Account) (r : Trace) → goes d (fresh a) r ≡ tallied a (judge d (width_from a.width) a.number a.start r)
unfolding fits
tallies d a (refused n p q) = refl
tallies d a (last x l p) =
    ap (λ (w : Work). record_up d w p (closed (record_on (some l) [] w))) (whole_fresh a x)
    ∙ tallied-cond (fits x.content) 9 a.start p a _ _
    (tallied-cond (agrees d (width_from a.width) (suc a.number)) 10 p p a _ _ (tallied-last a x l))
tallies d a (field x p g r) =
    let j = suc a.number in
    ap (λ (w : Work). field_up w (goes d (fresh (field_on g w)) r)) (whole_fresh a x)
    ∙ tallied-cond (fits x.content) 9 a.start p a _ _
    (tallies d (field_on g (counted a x)) r ∙ tallied-beside a g x (judge d (width_from a.width) j g r) (some-judge d (width_from a.width) j g r))
tallies d a (line x l p g r) =
    let next = record_on (some l) g (counted a x) in
    let w = settled (width_from a.width) (suc a.number) in
    ap (λ (w : Work). record_up d w p (goes d (fresh (record_on (some l) g w)) r)) (whole_fresh a x)
    ∙ tallied-cond (fits x.content) 9 a.start p a _ _
    (tallied-cond (agrees d (width_from a.width) (suc a.number)) 10 p p a _ _
    (tallies d next r
    ∙ (ap (λ (v : Width). tallied next (judge d v 0 g r)) (sym (settled-width a.width a.number)) ∙ tallied-above a x l g (judge d w 0 g r) (some-judge d w 0 g r))))
