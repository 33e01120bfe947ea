-- A state with no refusal, in the model's words, and what each act makes of it: the state of the point that the model has then, as long as no counter stops.
use Prim.Native.Nat.{ℕ, suc, ◌+◌, ◌≤◌}
use native.Mathlib.Omega.{arith}
use mathlib.Core.Path.{◌≡◌, refl, sym, ap, ◌∙◌}
use mathlib.Core.Bool.{Bool, true, false, cond, not, ◌||◌}
use mathlib.Core.List.{[], ◌∷◌, ◌++◌, append_assoc}
use lib.Dec.{eqb, leb}
use lib.ListN.{length, length-append}
use borrow.Author.Tests.{eqb-true, eqb-false, eq-eqb, ne_eqb}
use Rattle.format.specs.declared.Place.{Place}
use Rattle.format.specs.Table.{Bytes}
use Rattle.format.specs.Dialect.{only_wide, ragged, names, Dialect, dialect}
use Rattle.format.specs.House.{content_limit, file_limit}
use Rattle.format.specs.Count.{some}
use Rattle.format.specs.Place.{place_of, nowhere}
use Rattle.format.proofs.Places.{place-first}
use Rattle.steps.specs.Steps.{Form, start, lead, bare, quoted, shut, tail, cr, Out, nothing, put, hold, drop, field_end, record_end, Act, refuse, go, is_in_quotes, is_behind_cr}
use Rattle.steps.specs.Model.{anchor, seen, agrees}
use Rattle.steps.specs.Numbers.{form_number, coded}
use Rattle.steps.proofs.Numbers.{behind-number}
use Rattle.steps.proofs.Tallies.{Flags, Account, Work, width_from, even, Ans, stop, gives, field_on, record_on, field_up, record_up, field-up, record-up, agrees-even}
use Rattle.steps.proofs.Forward.{Point, inside, opening, none, put_on, hold_on, drop_on, ended, acting, keeps, Fits}
use Rattle.state.specs.declared.Used.{Used}
use Rattle.state.specs.declared.Check.{Check}
use Rattle.places.specs.Counters.{plus}
use Rattle.state.specs.Check.{started, stopped, entered, opened, placed, noting, noted, field_ended, record_ended, stepped}

-- the dialect bytes, and a file within its limit
pub record Source : Type 0 where
  pub delimiter : ℕ
  pub leniencies : ℕ
  pub file : Bytes
  pub small : length file ≤ file_limit

abbrev pub dialect_of : Source → Dialect
dialect_of z = dialect z.delimiter z.leniencies

-- a point of the model, whether "bytes" was used, and the anchor's place
pub record Running : Type 0 where
  pub point : Point
  pub wide : Bool
  pub anchor : Place

-- a flag's number
abbrev pub num : Bool → ℕ
num true = 1
num false = 0

noting-num : (x w : Bool) → noting x (num w) ≡ num (x || w)
noting-num true w = refl
noting-num false w = refl

abbrev pub used_of : Flags → Bool → Used
used_of v y = record { lf = num v.lf; blanks = num v.blanks; ragged = num v.ragged; bytes = num y }

-- its state, before the rest g of the file
abbrev pub going : Source → Bytes → Running → Check
going z g r =
    let w = r.point.work in
    let a = w.account in
    record {
      delimiter = z.delimiter;
      leniencies = z.leniencies;
      refusal = 0;
      form = form_number r.point.form;
      begun = num r.point.begun;
      used = used_of a.flags r.wide;
      here = place_of z.file g;
      anchor = r.anchor;
      field = record { start = place_of z.file a.start; content = w.content; held = w.held; number = record { 0 = a.number } };
      counts = record { records = a.sums.records; fields = record { 0 = a.sums.fields }; text = a.sums.text; width = a.width };
    }

-- the anchor's place, in the forms that have one
abbrev pub Anchored : Bytes → Form → Bytes → Place → Type 0
Anchored F start p q = Unit {0}
Anchored F lead p q = Unit {0}
Anchored F bare p q = Unit {0}
Anchored F quoted p q = q ≡ place_of F p
Anchored F shut p q = q ≡ place_of F p
Anchored F tail p q = Unit {0}
Anchored F cr p q = q ≡ place_of F p

-- n bytes have come: the counters are within them, so that they do not stop
abbrev CountersWithin : ℕ → Work → Type 0
CountersWithin n w =
    let s = w.account.sums in
    (s.text + (w.content + w.held) ≤ n) × (w.account.number ≤ n) × (s.records ≤ n) × (s.fields ≤ n)

-- it may stand behind s and before g
pub record At (z : Source) (s g : Bytes) (r : Running) : Type 0 where
  pub split : z.file ≡ s ++ g
  pub anchored : Anchored z.file r.point.form r.point.anchor r.anchor
  pub within : CountersWithin (length s) r.point.work

pub before_limit : {z : Source} {s g : Bytes} {r : Running} → At z s g r → length s + length g ≤ file_limit
before_limit {z} {s} {g} at = omega (arith, ap length at.split ∙ length-append s g, z.small)

-- the code's test of a width is the model's
eqb-turn : (a b : ℕ) → eqb a b ≡ eqb b a
eqb-turn a b = go (eqb b a) refl
  where
    go : (y : Bool) → eqb b a ≡ y → eqb a b ≡ y
    go true e = eq-eqb a b (sym (eqb-true b a e))
    go false e = ne_eqb a b (λ q. eqb-false b a e (sym q))

-- what is made of the state r before g: a refusal, or the state of a point with what k adds
module _ (z : Source) (g : Bytes) (r : Running) where
  abbrev pub made : (Point → Running) → Ans Point → Check
  made k (stop n p) = stopped n (place_of z.file p) (going z g r)
  made k (gives t) = going z g (k t)

  made-cond :
      (k : Point → Running) (x y : Bool) (c : Check) (o : Ans Point) (n : ℕ) (p : Bytes) → x ≡ y → c ≡ made k o
      → cond x c (stopped n (place_of z.file p) (going z g r)) ≡ made k (cond y o (stop n p))
  made-cond k x true c o n p e i = rw (e, i)
  made-cond k x false c o n p e i = rw e

-- where a field begins, the anchor names nothing
abbrev pub anew : Bool → Point → Running
anew y t = record { point = t; wide = y; anchor = nowhere }

-- the end of a field and of a record at p, both before f
module _ {z : Source} {s g : Bytes} {r : Running} (at : At z s g r) (y : Bool) (f : Bytes) where
  abbrev w : Work
  w = r.point.work

  abbrev a : Account
  a = w.account

  one_more : plus a.number 1 ≡ suc a.number
  one_more = omega (arith, at.within, before_limit at)

  more-fields : plus a.sums.fields 1 ≡ a.sums.fields + 1
  more-fields = omega (arith, at.within, before_limit at)

  more-text : plus a.sums.text w.content ≡ a.sums.text + w.content
  more-text = omega (arith, at.within, before_limit at)

  field-ended : field_ended (used_of a.flags y) (place_of z.file f) (going z g r) ≡ made z g r (anew y) (field_up (ended w) (gives (opening true (field_on f (ended w)))))
  unfolding field_ended opened
  field-ended =
      made-cond z g r (anew y) _ (leb w.content content_limit) _ (gives (opening true (field_on f (ended w)))) 9 a.start refl
      (rw (noting-num (some w.held) a.flags.blanks, one_more, more-fields, more-text))

  even_is : (eqb a.width 0 || eqb a.width (plus a.number 1)) ≡ even a.width (suc a.number)
  even_is = rw one_more (ap (λ (b : Bool). eqb a.width 0 || b) (eqb-turn a.width (suc a.number)))

  pub record-ended :
      (p : Bytes) (l : Bool)
      → record_ended (used_of a.flags y) (place_of z.file p) (place_of z.file f) l (going z g r)
      ≡ made z g r (anew y) (record_up (dialect_of z) (ended w) p (gives (opening false (record_on l f (ended w)))))
  unfolding record_ended opened
  record-ended p l =
      let n : plus a.sums.records 1 ≡ a.sums.records + 1 = omega (arith, at.within, before_limit at) in
      let next : Ans Point = gives (opening false (record_on l f (ended w))) in
      let wide = agrees (dialect_of z) (width_from a.width) (suc a.number) in
      made-cond z g r (anew y) _ (leb w.content content_limit) _ (cond wide next (stop 10 p)) 9 a.start refl
      (made-cond z g r (anew y) _ wide _ next 10 p
      (ap (λ (e : Bool). names z.leniencies ragged || e) even_is ∙ agrees-even (dialect_of z) a.width a.number)
      (rw (even_is, noting-num l a.flags.lf, noting-num (some w.held) a.flags.blanks, noting-num (not (even a.width (suc a.number))) a.flags.ragged, one_more, n, more-fields, more-text)))

-- forms, by the code and by the model: the place of a break or a fault, and the anchor behind an act
module _ (F here p : Bytes) (q : Place) where
  seen-is : (k : Form) → Anchored F k p q → cond (leb (form_number cr) (form_number k)) q (place_of F here) ≡ place_of F (seen k here p)
  seen-is = elim [ start ↦ λ i. refl | lead ↦ λ i. refl | bare ↦ λ i. refl | quoted ↦ λ i. refl | shut ↦ λ i. refl | tail ↦ λ i. refl | cr ↦ λ i. i ]

  quotes : (k : Form) → Anchored F k p q → cond (is_in_quotes k) q (place_of F here) ≡ place_of F (cond (is_in_quotes k) p here)
  quotes = elim [ start ↦ λ i. refl | lead ↦ λ i. refl | bare ↦ λ i. refl | quoted ↦ λ i. i | shut ↦ λ i. i | tail ↦ λ i. refl | cr ↦ λ i. refl ]

  anchor-on : (k j : Form) (o : Out) → Fits k (go j o) → Anchored F k p q → Anchored F j (anchor k j here p) (cond (keeps j o) q (place_of F here))
  anchor-on k start o e i = tt
  anchor-on k lead o e i = tt
  anchor-on k bare o e i = tt
  anchor-on k quoted o e i = rw e (quotes k i)
  anchor-on k shut o e i = rw e (quotes k i)
  anchor-on k tail o e i = tt
  anchor-on k cr o e i = rw e

-- what an act adds to its point, at the byte b before f
abbrev pub wide_on : Source → ℕ → Running → Bool
wide_on z b r = only_wide z.delimiter b || r.wide

abbrev anchor_of : Act → Place → Place → Place
anchor_of (refuse n) here q = q
anchor_of (go j nothing) here q = cond (keeps j nothing) q here
anchor_of (go j put) here q = q
anchor_of (go j hold) here q = q
anchor_of (go j drop) here q = q
anchor_of (go j field_end) here q = nowhere
anchor_of (go j record_end) here q = nowhere

abbrev pub adds : Source → ℕ → Bytes → Running → Act → Point → Running
adds z b f r a t = record { point = t; wide = wide_on z b r; anchor = anchor_of a (place_of z.file (b ∷ f)) r.anchor }

-- the states that it may make stand behind the byte
abbrev pub AtThen : Source → Bytes → Bytes → (Point → Running) → Ans Point → Type 0
AtThen z s f k (stop n p) = eqb n 0 ≡ false
AtThen z s f k (gives t) = At z s f (k t)

module _ {z : Source} {s : Bytes} {b : ℕ} {f : Bytes} {r : Running} (at : At z s (b ∷ f) r) where
  abbrev t : Point
  t = r.point

  seen_here : cond (leb (form_number cr) (form_number t.form)) r.anchor (place_of z.file (b ∷ f)) ≡ place_of z.file (seen t.form (b ∷ f) t.anchor)
  seen_here = seen-is z.file (b ∷ f) t.anchor r.anchor t.form at.anchored

  pub acted :
      (a : Act)
      → stepped (coded a) (used_of t.work.account.flags (wide_on z b r)) (place_of z.file f) (going z (b ∷ f) r)
      ≡ made z (b ∷ f) r (adds z b f r a) (acting (dialect_of z) a b f t)
  unfolding stepped entered
  acted (refuse n) = ap (λ (q : Place). stopped n q (going z (b ∷ f) r)) seen_here
  acted (go j nothing) = refl
  acted (go j put) =
      let e : plus (plus t.work.content t.work.held) 1 ≡ t.work.content + t.work.held + 1 = omega (arith, at.within, before_limit at) in
      rw e
  acted (go j hold) =
      let e : plus t.work.held 1 ≡ t.work.held + 1 = omega (arith, at.within, before_limit at) in
      rw e
  acted (go j drop) = refl
  acted (go j field_end) = field-ended at (wide_on z b r) f
  acted (go j record_end) = rw (seen_here, behind-number t.form) (record-ended at (wide_on z b r) f (seen t.form (b ∷ f) t.anchor) (not (is_behind_cr t.form)))

  next-at : (r' : Running) → Anchored z.file r'.point.form r'.point.anchor r'.anchor → CountersWithin (length s + 1) r'.point.work → At z (s ++ (b ∷ [])) f r'
  next-at r' i k = record { split = at.split ∙ sym (append_assoc s (b ∷ []) f); anchored = i; within = rw (length-append s (b ∷ [])) k }

  inside-at :
      (j : Form) (o : Out) (w : Work) → Fits t.form (go j o) → CountersWithin (length s + 1) w
      → At z (s ++ (b ∷ [])) f
      (record { point = inside j (anchor t.form j (b ∷ f) t.anchor) w; wide = wide_on z b r; anchor = cond (keeps j o) r.anchor (place_of z.file (b ∷ f)) })
  inside-at j o w i k = next-at _ (anchor-on z.file (b ∷ f) t.anchor r.anchor t.form j o i at.anchored) k

  pub acted-at : (a : Act) → Fits t.form a → AtThen z (s ++ (b ∷ [])) f (adds z b f r a) (acting (dialect_of z) a b f t)
  acted-at (refuse n) i = i
  acted-at (go j nothing) i = inside-at j nothing t.work i (omega (arith, at.within))
  acted-at (go j put) i = inside-at j put (put_on t.work) i (omega (arith, at.within))
  acted-at (go j hold) i = inside-at j hold (hold_on t.work) i (omega (arith, at.within))
  acted-at (go j drop) i = inside-at j drop (drop_on t.work) i (omega (arith, at.within))
  acted-at (go j field_end) i =
      let w = ended t.work in
      let k = anew (wide_on z b r) in
      let next = opening true (field_on f w) in
      field-up (AtThen z (s ++ (b ∷ [])) f k) w (gives next) (next-at (k next) tt (omega (arith, at.within))) refl
  acted-at (go j record_end) i =
      let w = ended t.work in
      let k = anew (wide_on z b r) in
      let next = opening false (record_on (not (is_behind_cr t.form)) f w) in
      record-up (AtThen z (s ++ (b ∷ [])) f k) (dialect_of z) w _ (gives next) (next-at (k next) tt (omega (arith, at.within))) refl refl

  pub noted-going : noted b (going z (b ∷ f) r) ≡ used_of t.work.account.flags (wide_on z b r)
  unfolding noted
  noted-going = rw (noting-num (only_wide z.delimiter b) r.wide)

pub placed-going : (z : Source) (g f : Bytes) (r : Running) → placed (place_of z.file f) (going z g r) ≡ going z f r
unfolding placed
placed-going z g f r = refl

-- the first state of a file
abbrev pub first : Bytes → Running
first f = anew false (opening false (none f))

pub first-at : (z : Source) → At z [] z.file (first z.file)
first-at z = record { split = refl; anchored = tt; within = omega arith }

pub started-going : (z : Source) → started z.delimiter z.leniencies ≡ going z z.file (first z.file)
unfolding started
started-going z = rw (place-first z.file)
