-- One byte taken: what is out by the check before and behind it is what the grammar says of the bytes so far.
use Prim.Native.Nat.{ℕ, ◌+◌, ◌-◌, ◌≤◌, min}
use native.Mathlib.Omega.{arith}
use mathlib.Core.Path.{◌≡◌, refl, sym, ap, subst, ◌∙◌}
use mathlib.Core.Bool.{Bool, true, false, cond, not, ◌||◌}
use mathlib.Core.List.{List, [], ◌∷◌, ◌++◌, append_assoc, append-nil, flatten}
use lib.Dec.{eqb, leb}
use lib.ListN.{length, take, replicate, length-append, length-replicate}
use lib.Seq.{take_all}
use borrow.Author.Tests.{leb-true, le-leb, lt-leb, eqb-true, eqb-false}
use Rattle.format.specs.Table.{Bytes, Content, Table, Every}
use Rattle.format.specs.Dialect.{lf, ragged, names, Dialect, dialect, Class, text, blank, delimiter, quote, CR, LF, forbidden, class_of}
use Rattle.format.specs.Grammar.{Field, Break}
use Rattle.format.specs.House.{width_of, EqualRows, content_limit, file_limit, Fits}
use Rattle.format.specs.Refusal.{Fields, Records}
use Rattle.format.specs.Memory.{lengths}
use Rattle.steps.specs.Steps.{Form, start, lead, bare, quoted, shut, tail, cr, nothing, put, hold, drop, field_end, record_end, Act, refuse, go, next, carry, step_of}
use Rattle.steps.specs.Model.{is_valid}
use Rattle.steps.specs.Numbers.{form_number}
use Rattle.steps.proofs.Rules.{form-back}
use Rattle.steps.proofs.Acts.{step-entry}
use Rattle.state.specs.declared.Check.{Check}
use Rattle.places.specs.Counters.{plus}
use Rattle.state.specs.Check.{evenly, fed}
use Rattle.state.proofs.Moves.{fed-keeps, fed-byte}
use Rattle.state.proofs.Byte.{Within, Over, FieldEnds, RecordEnds, Does, act_of, fed-does}
use Rattle.output.specs.Out.{Out, then, out_of}
use Rattle.output.specs.Stream.{shown, puts_text, ends_field, byte_left, when, blanks_due, due}
use Rattle.steps.proofs.Forms.{At, at_start, at_lead, at_bare, at_quoted, at_shut, at_tail, at_cr, held_in, Makes, makes, fault-number}
use Rattle.format.proofs.Even.{width-more, even-more}
use Rattle.format.proofs.Every.{every_one}
use Rattle.format.proofs.Grow.{fields-grow, records-grow, fields-more, records-more, fields-record}
use Rattle.format.proofs.Memory.{flatten-one, lengths-one}
use Rattle.output.proofs.Lists.{text-left, blanks-left}

-- no byte came since the last record's end, or some did
pub data Fresh : ℕ → Bytes → Type 0 where
  none : Fresh 0 []
  some : {b : ℕ} {g : Bytes} → Fresh 1 (b ∷ g)

-- the check behind the bytes f, of which g are behind the last record and h behind the last field
pub record Known (x sum : ℕ) (f : Bytes) (e : Check) (k : Form) (t : Table) (cs : List Content) (c : Content) (n : ℕ) (g h : Bytes) : Type 0 where
  pub delimiter : e.delimiter ≡ x
  pub leniencies : e.leniencies ≡ sum
  pub refusal : e.refusal ≡ 0
  pub bytes : e.here.byte.0 ≡ length f
  pub limit : length f ≤ file_limit
  pub form : e.form ≡ form_number k
  pub begun : Fresh e.begun g
  pub records : Records (dialect x sum) f t g
  pub fields : Fields (dialect x sum) g cs h
  pub at : At (dialect x sum) k h c n
  pub content : e.field.content ≡ length c
  pub held : e.field.held ≡ n
  pub text : e.counts.text ≡ length (flatten (flatten t ++ cs))
  pub count : e.counts.fields.0 ≡ length (flatten t ++ cs)
  pub size : length (flatten (flatten t ++ cs)) + (length c + n) ≤ length f
  pub ends : length (flatten t ++ cs) ≤ length f
  pub fits : Every Fits (flatten t ++ cs)
  pub number : e.field.number.0 ≡ length cs
  pub width : e.counts.width ≡ width_of t
  pub even : EqualRows (dialect x sum) t
  pub wide : Every (λ (cs : List Content). 1 ≤ length cs) t

-- and what is out by then
pub data Standing (x sum : ℕ) (f : Bytes) (e : Check) (m : ℕ) (o : Out) : Type 0 where
  standing : {k : Form} {t : Table} {cs : List Content} {c : Content} {n : ℕ} {g h : Bytes}
      → Known x sum f e k t cs c n g h → m ≤ held_in k n → o ≡ out_of t cs c m → Standing x sum f e m o

-- no refusal is shown
pub record Clear (e : Check) : Type 0 where
  pub valid : is_valid e.delimiter e.leniencies ≡ true
  pub short : e.here.byte.0 ≤ file_limit
  pub refusal : e.refusal ≡ 0

pub clear : (e : Check) → shown e ≡ false → Clear e
unfolding shown
clear e = go (is_valid e.delimiter e.leniencies) refl (leb e.here.byte.0 file_limit) refl (eqb e.refusal 0) refl
  where
    go :
        (x : Bool) → is_valid e.delimiter e.leniencies ≡ x → (y : Bool) → leb e.here.byte.0 file_limit ≡ y → (z : Bool) → eqb e.refusal 0 ≡ z
        → (not x || (not y || not z)) ≡ false → Clear e
    go true p true q true r h = record { valid = p; short = leb-true e.here.byte.0 file_limit q; refusal = eqb-true e.refusal 0 r }
    go true p true q false r h = let z : ◌≡◌ {A = Bool} true false = h in let i : ◌≡◌ {A = ℕ} 0 1 = cc in absurd (omega arith)
    go true p false q z r h = let i : ◌≡◌ {A = ℕ} 0 1 = cc in absurd (omega arith)
    go false p y q z r h = let i : ◌≡◌ {A = ℕ} 0 1 = cc in absurd (omega arith)

pub not-shown : (c : Check) → is_valid c.delimiter c.leniencies ≡ true → c.here.byte.0 ≤ file_limit → c.refusal ≡ 0 → shown c ≡ false
unfolding shown
not-shown c p q r = let q' = le-leb c.here.byte.0 file_limit q in rw (p, q', r)

snoc-length : (s : Bytes) (b : ℕ) → length (s ++ (b ∷ [])) ≡ length s + 1
snoc-length s b = length-append s (b ∷ [])

fresh-more : (g : Bytes) (b : ℕ) → Fresh 1 (g ++ (b ∷ []))
fresh-more [] b = some
fresh-more (y ∷ g) b = some

leb-self : (n : ℕ) → leb n n ≡ true
leb-self n = le-leb n n (omega arith)

held-le : (k : Form) (n : ℕ) → held_in k n ≤ n
held-le start n = omega arith
held-le lead n = omega arith
held-le bare n = omega arith
held-le quoted n = omega arith
held-le shut n = omega arith
held-le tail n = omega arith
held-le cr n = omega arith

-- a field with a byte is not at its start
grown : (h : Bytes) (b : ℕ) → h ++ (b ∷ []) ≡ [] → ⊥
grown [] b e = let z : ◌≡◌ {A = ℕ} 0 1 = cc in omega arith
grown (y ∷ h) b e = let z : ◌≡◌ {A = ℕ} 0 1 = cc in omega arith

not_start : {d : Dialect} {k : Form} {g : Bytes} {c : Content} {n : ℕ} → At d k g c n → (g ≡ [] → ⊥) → eqb (form_number k) 0 ≡ false
not_start at_start u = absurd (u refl)
not_start (at_lead x) u = refl
not_start (at_bare x k p y e) u = refl
not_start (at_quoted x k) u = refl
not_start (at_shut x k) u = refl
not_start (at_tail x k i y) u = refl
not_start (at_cr p e) u = refl

pub then-nothing : (o : Out) → then o (record { text = []; ends = []; rows = [] }) ≡ o
then-nothing o = λ i. record { text = append-nil o.text i; ends = append-nil o.ends i; rows = append-nil o.rows i }

module _ (m : ℕ) (e : Check) (b : ℕ) (r : Check) where
  pub due-quiet : puts_text e r ≡ false → ends_field r ≡ false → due m e b r ≡ record { text = []; ends = []; rows = [] }
  unfolding due blanks_due
  due-quiet p q = rw (p, q)

  pub due-text :
      puts_text e r ≡ true → ends_field r ≡ false
      → due m e b r
      ≡ record { text = replicate (min (e.field.held - m) (content_limit - (e.field.content + m))) 0x20 ++ when (byte_left e) b; ends = []; rows = [] }
  unfolding due blanks_due
  due-text p q = rw (p, q)

  pub due-field :
      puts_text e r ≡ false → ends_field r ≡ true → eqb r.begun 0 ≡ false
      → due m e b r ≡ record { text = []; ends = r.counts.text ∷ []; rows = [] }
  unfolding due blanks_due
  due-field p q u = rw (p, q, u)

  pub due-record :
      puts_text e r ≡ false → ends_field r ≡ true → eqb r.begun 0 ≡ true
      → due m e b r ≡ record { text = []; ends = r.counts.text ∷ []; rows = r.counts.fields.0 ∷ [] }
  unfolding due blanks_due
  due-record p q u = rw (p, q, u)

module _
    (x sum : ℕ) (f : Bytes) (e : Check) (b m : ℕ) (k : Form) (t : Table) (cs : List Content) (c : Content) (n : ℕ) (g h : Bytes)
    (w : Known x sum f e k t cs c n g h) (less : m ≤ held_in k n)
  where
    d : Dialect
    d = dialect x sum

    more : Bytes
    more = b ∷ []

    abbrev Good : Check → Type 0
    Good r = shown r ≡ false → (puts_text e r ≡ false → m ≡ 0) → Standing x sum (f ++ (b ∷ [])) r 0 (then (out_of t cs c m) (due m e b r))

    -- what every act keeps
    record Kept (r : Check) : Type 0 where
      delimiter : r.delimiter ≡ e.delimiter
      leniencies : r.leniencies ≡ e.leniencies
      byte : r.here.byte.0 ≡ plus e.here.byte.0 1

    room : (r : Check) → Kept r → shown r ≡ false → (r.here.byte.0 ≡ length (f ++ (b ∷ []))) × (length (f ++ (b ∷ [])) ≤ file_limit)
    room r i s =
        let l = snoc-length f b in
        let y = i.byte in
        let z = (clear r s).short in
        let u = w.bytes in
        let v = w.limit in
        let q : r.here.byte.0 ≡ length f + 1 = omega arith in
        (q ∙ sym l, omega arith)

    -- inside the field: the counts stay
    record Same (r : Check) : Type 0 where
      begun : r.begun ≡ 1
      counts : r.counts ≡ e.counts
      number : r.field.number ≡ e.field.number

    inner :
        (r : Check) (j : Form) (c' : Content) (n' : ℕ) → Kept r → Same r → shown r ≡ false
        → r.form ≡ form_number j → At (dialect x sum) j (h ++ (b ∷ [])) c' n' → r.field.content ≡ length c' → r.field.held ≡ n'
        → length c' + n' ≤ length c + n + 1
        → Known x sum (f ++ (b ∷ [])) r j t cs c' n' (g ++ (b ∷ [])) (h ++ (b ∷ []))
    inner r j c' n' i v s q a p o l =
        let z = room r i s in
        let y = snoc-length f b in
        let u = w.size in
        let u₁ = w.ends in
        record {
          delimiter = i.delimiter ∙ w.delimiter;
          leniencies = i.leniencies ∙ w.leniencies;
          refusal = (clear r s).refusal;
          bytes = z.0;
          limit = z.1;
          form = q;
          begun = subst (λ (y : ℕ). Fresh y (g ++ (b ∷ []))) (sym v.begun) (fresh-more g b);
          records = records-grow (dialect x sum) (b ∷ []) w.records;
          fields = fields-grow (dialect x sum) (b ∷ []) w.fields;
          at = a;
          content = p;
          held = o;
          text = rw v.counts w.text;
          count = rw v.counts w.count;
          size = omega arith;
          ends = omega arith;
          fits = w.fits;
          number = rw v.number w.number;
          width = rw v.counts w.width;
          even = w.even;
          wide = w.wide;
        }

    zero-out : (p : m ≡ 0) → out_of t cs c m ≡ out_of t cs c 0
    zero-out p = ap (out_of t cs c) p

    -- nothing comes out
    quiet :
        (r : Check) (j : Form) (n' : ℕ) → Kept r → Same r → r.form ≡ form_number j → At (dialect x sum) j (h ++ (b ∷ [])) c n'
        → r.field.content ≡ e.field.content → r.field.held ≡ n' → n' ≤ n + 1 → Good r
    quiet r j n' i v q a p o l s u =
        let y₀ : leb r.field.content e.field.content ≡ true = rw p (leb-self e.field.content) in
        let y : puts_text e r ≡ false = ap not y₀ in
        let z : ends_field r ≡ false = rw q (not_start a (grown h b)) in
        standing (inner r j c n' i v s q a (p ∙ w.content) o (omega arith)) (omega arith)
        (rw (due-quiet m e b r y z) (then-nothing (out_of t cs c m) ∙ zero-out (u y)))

    -- content
    put-out :
        then (out_of t cs c m) (record { text = replicate (min (n - m) (content_limit - (length c + m))) 0x20 ++ cond (leb (length c + n + 1) content_limit) (b ∷ []) []; ends = []; rows = [] })
        ≡ out_of t cs (c ++ (replicate n 0x20 ++ (b ∷ []))) 0
    unfolding out_of
    put-out =
        let l : m ≤ n = omega (arith, held-le k n) in
        let z = flatten (flatten t ++ cs) in
        let y = replicate (min (n - m) (content_limit - (length c + m))) 0x20 ++ cond (leb (length c + n + 1) content_limit) (b ∷ []) [] in
        let q : (z ++ take content_limit (c ++ replicate m 0x20)) ++ y ≡ z ++ take content_limit ((c ++ (replicate n 0x20 ++ (b ∷ []))) ++ []) =
        append_assoc z (take content_limit (c ++ replicate m 0x20)) y
        ∙ ap (λ (l : List ℕ). z ++ l) (text-left content_limit c m n 0x20 b l ∙ ap (take content_limit) (sym (append-nil (c ++ (replicate n 0x20 ++ (b ∷ [])))))) in
        λ i. record { text = q i; ends = append-nil (lengths 0 (flatten t ++ cs)) i; rows = append-nil (lengths 0 t) i }

    content-length : length (c ++ (replicate n 0x20 ++ (b ∷ []))) ≡ length c + n + 1
    content-length =
        let y = length-append c (replicate n 0x20 ++ (b ∷ [])) in
        let z = length-append (replicate n 0x20) (b ∷ []) in
        let u : length {A = ℕ} (replicate n 0x20) ≡ n = length-replicate n 0x20 in
        omega arith

    puts :
        (r : Check) (j : Form) → Kept r → Same r → r.form ≡ form_number j → At (dialect x sum) j (h ++ (b ∷ [])) (c ++ (replicate n 0x20 ++ (b ∷ []))) 0
        → r.field.content ≡ plus (plus e.field.content e.field.held) 1 → r.field.held ≡ 0 → Good r
    puts r j i v q a p o s u =
        let l = content-length in
        let w₁ = w.content in
        let w₂ = w.held in
        let w₃ = w.size in
        let w₄ = w.limit in
        let p' : r.field.content ≡ length c + n + 1 = omega arith in
        let y₀ : leb r.field.content e.field.content ≡ false = lt-leb r.field.content e.field.content (omega arith) in
        let y : puts_text e r ≡ true = ap not y₀ in
        let z : ends_field r ≡ false = rw q (not_start a (grown h b)) in
        standing (inner r j (c ++ (replicate n 0x20 ++ (b ∷ []))) 0 i v s q a (p' ∙ sym l) o (omega arith)) (omega arith)
        (rw (due-text m e b r y z, w₁, w₂) put-out)

    -- the end of a field
    field_out :
        length c ≤ content_limit
        → then (out_of t cs c 0) (record { text = []; ends = (length (flatten (flatten t ++ cs)) + length c) ∷ []; rows = [] }) ≡ out_of t (cs ++ (c ∷ [])) [] 0
    unfolding out_of
    field_out l =
        let y = flatten t ++ cs in
        let a : y ++ (c ∷ []) ≡ flatten t ++ (cs ++ (c ∷ [])) = append_assoc (flatten t) cs (c ∷ []) in
        let p : take content_limit (c ++ []) ≡ c = ap (take content_limit) (append-nil c) ∙ take_all content_limit c l in
        let q : (flatten y ++ take content_limit (c ++ [])) ++ [] ≡ flatten (flatten t ++ (cs ++ (c ∷ []))) ++ [] =
        ap (λ (l : List ℕ). l ++ []) (ap (λ (l : List ℕ). flatten y ++ l) p ∙ (sym (flatten-one y c) ∙ ap flatten a)) in
        let o : lengths 0 y ++ ((length (flatten y) + length c) ∷ []) ≡ lengths 0 (flatten t ++ (cs ++ (c ∷ []))) =
        let z : length (flatten y) + length c ≡ 0 + length (flatten y) + length c = omega arith in
        ap (λ (n : ℕ). lengths 0 y ++ (n ∷ [])) z ∙ (sym (lengths-one 0 y c) ∙ ap (lengths 0) a) in
        λ i. record { text = q i; ends = o i; rows = append-nil (lengths 0 t) i }

    record-out :
        length c ≤ content_limit
        → then (out_of t cs c 0) (record { text = []; ends = (length (flatten (flatten t ++ cs)) + length c) ∷ []; rows = (length (flatten t ++ cs) + 1) ∷ [] })
        ≡ out_of (t ++ ((cs ++ (c ∷ [])) ∷ [])) [] [] 0
    unfolding out_of
    record-out l =
        let y = flatten t ++ cs in
        let v = t ++ ((cs ++ (c ∷ [])) ∷ []) in
        let a : y ++ (c ∷ []) ≡ flatten v ++ [] = append_assoc (flatten t) cs (c ∷ []) ∙ (sym (flatten-one t (cs ++ (c ∷ []))) ∙ sym (append-nil (flatten v))) in
        let p : take content_limit (c ++ []) ≡ c = ap (take content_limit) (append-nil c) ∙ take_all content_limit c l in
        let q : (flatten y ++ take content_limit (c ++ [])) ++ [] ≡ flatten (flatten v ++ []) ++ [] =
        ap (λ (l : List ℕ). l ++ []) (ap (λ (l : List ℕ). flatten y ++ l) p ∙ (sym (flatten-one y c) ∙ ap flatten a)) in
        let o : lengths 0 y ++ ((length (flatten y) + length c) ∷ []) ≡ lengths 0 (flatten v ++ []) =
        let z : length (flatten y) + length c ≡ 0 + length (flatten y) + length c = omega arith in
        ap (λ (n : ℕ). lengths 0 y ++ (n ∷ [])) z ∙ (sym (lengths-one 0 y c) ∙ ap (lengths 0) a) in
        let u : lengths 0 t ++ ((length y + 1) ∷ []) ≡ lengths 0 v =
        let z : length y + 1 ≡ 0 + length (flatten t) + length (cs ++ (c ∷ [])) = omega (arith, length-append (flatten t) cs, length-append cs (c ∷ [])) in
        ap (λ (n : ℕ). lengths 0 t ++ (n ∷ [])) z ∙ sym (lengths-one 0 t (cs ++ (c ∷ []))) in
        λ i. record { text = q i; ends = o i; rows = u i }

    -- the state behind a field's end: what it is known by
    record Ended (r : Check) (u : ℕ) : Type 0 where
      form : r.form ≡ 0
      begun : r.begun ≡ u
      content : r.field.content ≡ 0
      held : r.field.held ≡ 0
      text : r.counts.text ≡ plus e.counts.text e.field.content
      count : r.counts.fields.0 ≡ plus e.counts.fields.0 1

    ended-text : (r : Check) (u : ℕ) → Ended r u → r.counts.text ≡ length (flatten (flatten t ++ cs)) + length c
    ended-text r u v = let w₁ = w.text in let w₂ = w.content in let w₃ = w.size in let w₄ = w.limit in v.text ∙ omega arith

    ended-count : (r : Check) (u : ℕ) → Ended r u → r.counts.fields.0 ≡ length (flatten t ++ cs) + 1
    ended-count r u v = let w₁ = w.count in let w₃ = w.ends in let w₄ = w.limit in v.count ∙ omega arith

    no_text : (r : Check) (u : ℕ) → Ended r u → puts_text e r ≡ false
    no_text r u v = let y : leb r.field.content e.field.content ≡ true = rw v.content (le-leb 0 e.field.content (omega arith)) in ap not y

    field-ends :
        (r : Check) → Kept r → Ended r 1 → r.field.number.0 ≡ plus e.field.number.0 1 → r.counts.width ≡ e.counts.width → length c ≤ content_limit → Field (dialect x sum) (h ++ (b ∷ [])) c (b ∷ []) → class_of (dialect x sum) b ≡ delimiter → Good r
    unfolding flatten
    field-ends r i v nb wd l a q s u =
        let z = room r i s in
        let y = snoc-length f b in
        let w₁ = w.size in
        let w₂ = w.ends in
        let p = no_text r 1 v in
        let et = ended-text r 1 v in
        let ec = ended-count r 1 v in
        let al : (flatten t ++ cs) ++ (c ∷ []) ≡ flatten t ++ (cs ++ (c ∷ [])) = append_assoc (flatten t) cs (c ∷ []) in
        let tl : length (flatten (flatten t ++ (cs ++ (c ∷ [])))) ≡ length (flatten (flatten t ++ cs)) + length c =
        ap (λ (y : List Content). length (flatten y)) (sym al) ∙ (ap length (flatten-one (flatten t ++ cs) c) ∙ length-append (flatten (flatten t ++ cs)) c) in
        let nl : length (flatten t ++ (cs ++ (c ∷ []))) ≡ length (flatten t ++ cs) + 1 = ap length (sym al) ∙ length-append (flatten t ++ cs) (c ∷ []) in
        let kn : Known x sum (f ++ (b ∷ [])) r start t (cs ++ (c ∷ [])) [] 0 (g ++ (b ∷ [])) [] =
        record {
          delimiter = i.delimiter ∙ w.delimiter;
          leniencies = i.leniencies ∙ w.leniencies;
          refusal = (clear r s).refusal;
          bytes = z.0;
          limit = z.1;
          form = v.form;
          begun = subst (λ (y : ℕ). Fresh y (g ++ (b ∷ []))) (sym v.begun) (fresh-more g b);
          records = records-grow (dialect x sum) (b ∷ []) w.records;
          fields = fields-more (dialect x sum) (fields-grow (dialect x sum) (b ∷ []) w.fields) (Fields.more a q Fields.none);
          at = at_start;
          content = v.content;
          held = v.held;
          text = et ∙ sym tl;
          count = ec ∙ sym nl;
          size = omega arith;
          ends = omega arith;
          fits = subst (Every Fits) al (every_one Fits (flatten t ++ cs) c w.fits l);
          number = nb ∙ (let w₅ = w.number in let w₆ = w.limit in let w₇ = length-append (flatten t) cs in let w₈ = length-append cs (c ∷ []) in omega arith);
          width = wd ∙ w.width;
          even = w.even;
          wide = w.wide;
        } in
        let o : due m e b r ≡ record { text = []; ends = r.counts.text ∷ []; rows = [] } =
        let f₁ : ends_field r ≡ true = rw v.form in
        let f₂ : eqb r.begun 0 ≡ false = rw v.begun in
        due-field m e b r p f₁ f₂ in
        standing kn (omega arith) (rw (o, et, u p) (field_out l))

    pub row_number : plus e.field.number.0 1 ≡ length (cs ++ (c ∷ []))
    row_number =
        let w₁ = w.number in
        let w₂ = w.ends in
        let w₃ = w.limit in
        let w₄ = length-append (flatten t) cs in
        let w₅ = length-append cs (c ∷ []) in
        omega arith

    width-on : cond (eqb e.counts.width 0) (plus e.field.number.0 1) e.counts.width ≡ width_of (t ++ ((cs ++ (c ∷ [])) ∷ []))
    width-on = rw (w.width, row_number) (width-more t (cs ++ (c ∷ [])) w.wide)

    even-on : (names e.leniencies ragged || evenly e) ≡ true → EqualRows (dialect x sum) (t ++ ((cs ++ (c ∷ [])) ∷ []))
    even-on h = even-more (dialect x sum) t (cs ++ (c ∷ [])) w.even w.wide (rw (w.leniencies, w.width, row_number) at h)

    record-ends :
        (r : Check) → Kept r → Ended r 0 → r.field.number.0 ≡ 0 → r.counts.width ≡ cond (eqb e.counts.width 0) (plus e.field.number.0 1) e.counts.width
        → (names e.leniencies ragged || evenly e) ≡ true → length c ≤ content_limit → (g' : Bytes) → Field (dialect x sum) (h ++ (b ∷ [])) c g' → Break (dialect x sum) g' [] → Good r
    unfolding flatten
    record-ends r i v nb wd ev l g' a q s u =
        let z = room r i s in
        let y = snoc-length f b in
        let w₁ = w.size in
        let w₂ = w.ends in
        let p = no_text r 0 v in
        let et = ended-text r 0 v in
        let ec = ended-count r 0 v in
        let row = cs ++ (c ∷ []) in
        let al : (flatten t ++ cs) ++ (c ∷ []) ≡ flatten (t ++ (row ∷ [])) ++ [] =
        append_assoc (flatten t) cs (c ∷ []) ∙ (sym (flatten-one t row) ∙ sym (append-nil (flatten (t ++ (row ∷ []))))) in
        let tl : length (flatten (flatten (t ++ (row ∷ [])) ++ [])) ≡ length (flatten (flatten t ++ cs)) + length c =
        ap (λ (y : List Content). length (flatten y)) (sym al) ∙ (ap length (flatten-one (flatten t ++ cs) c) ∙ length-append (flatten (flatten t ++ cs)) c) in
        let nl : length (flatten (t ++ (row ∷ [])) ++ []) ≡ length (flatten t ++ cs) + 1 = ap length (sym al) ∙ length-append (flatten t ++ cs) (c ∷ []) in
        let kn : Known x sum (f ++ (b ∷ [])) r start (t ++ (row ∷ [])) [] [] 0 [] [] =
        record {
          delimiter = i.delimiter ∙ w.delimiter;
          leniencies = i.leniencies ∙ w.leniencies;
          refusal = (clear r s).refusal;
          bytes = z.0;
          limit = z.1;
          form = v.form;
          begun = subst (λ (y : ℕ). Fresh y []) (sym v.begun) none;
          records = records-more (dialect x sum) (records-grow (dialect x sum) (b ∷ []) w.records)
              (Records.more (fields-record (dialect x sum) (fields-grow (dialect x sum) (b ∷ []) w.fields) a) q Records.none);
          fields = Fields.none;
          at = at_start;
          content = v.content;
          held = v.held;
          text = et ∙ sym tl;
          count = ec ∙ sym nl;
          size = omega arith;
          ends = omega arith;
          fits = subst (Every Fits) al (every_one Fits (flatten t ++ cs) c w.fits l);
          number = nb;
          width = wd ∙ width-on;
          even = even-on ev;
          wide = every_one (λ (cs : List Content). 1 ≤ length cs) t row w.wide (let w₈ = length-append cs (c ∷ []) in omega arith);
        } in
        let o : due m e b r ≡ record { text = []; ends = r.counts.text ∷ []; rows = r.counts.fields.0 ∷ [] } =
        let f₁ : ends_field r ≡ true = rw v.form in
        let f₂ : eqb r.begun 0 ≡ true = rw v.begun in
        due-record m e b r p f₁ f₂ in
        standing kn (omega arith) (rw (o, et, ec, u p) (record-out l))

    -- a refusal is shown
    refuses : (r : Check) (i : ℕ) → eqb i 0 ≡ false → r.refusal ≡ i → Good r
    refuses r i p q s u = absurd (eqb-false i 0 p (sym q ∙ (clear r s).refusal))

    short : e.field.content ≤ content_limit → length c ≤ content_limit
    short q = let z = w.content in omega arith

    same : {r : Check} {j o i : ℕ} → Within e j o i r → Same r
    same v = record { begun = v.begun; counts = v.counts; number = v.number }

    ended : {r : Check} {u : ℕ} → Over e u r → Ended r u
    ended v = record { form = v.form; begun = v.begun; content = v.content; held = v.held; text = v.text; count = v.fields }

    -- each act
    by-act : (a : Act) (r : Check) → Kept r → Makes (dialect x sum) b h c n a → Does e a r → Good r
    by-act (refuse i) r q a v = refuses r i (fault-number a) v
    by-act (go j nothing) r q a v = quiet r j n q (same v) v.form a v.content (v.held ∙ w.held) (omega arith)
    by-act (go j put) r q a v = puts r j q (same v) v.form a v.content v.held
    by-act (go j hold) r q a v =
        let w₁ = w.held in
        let w₂ = w.size in
        let w₃ = w.limit in
        let z : plus e.field.held 1 ≡ n + 1 = omega arith in
        quiet r j (n + 1) q (same v) v.form a v.content (v.held ∙ z) (omega arith)
    by-act (go j drop) r q a v = quiet r j n q (same v) v.form a v.content (v.held ∙ w.held) (omega arith)
    by-act (go j field_end) r q a (FieldEnds.ends v) = field-ends r q (ended v.over) v.number v.width (short v.over.short) a.0 a.1
    by-act (go j field_end) r q a (FieldEnds.long l v) = refuses r 9 refl v
    by-act (go j record_end) r q a (RecordEnds.ends v) = record-ends r q (ended v.over) v.number v.width v.even (short v.over.short) a.0 a.1 a.2
    by-act (go j record_end) r q a (RecordEnds.long l v) = refuses r 9 refl v
    by-act (go j record_end) r q a (RecordEnds.uneven l y v) = refuses r 10 refl v

    -- the byte
    pub act-is : act_of e b ≡ step_of (names sum lf) k (class_of (dialect x sum) b)
    act-is = rw (w.leniencies, w.delimiter, w.form, form-back k)

    pub does : Does e (step_of (names sum lf) k (class_of (dialect x sum) b)) (fed e b)
    does = rw act-is at (fed-does e b w.refusal)

    pub taken-byte : Good (fed e b)
    taken-byte =
        let q = fed-keeps e b in
        by-act (step_of (names sum lf) k (class_of (dialect x sum) b)) (fed e b) (record { delimiter = q.delimiter; leniencies = q.leniencies; byte = fed-byte e b })
        (makes (dialect x sum) b w.at (class_of (dialect x sum) b) refl) does

-- taking a byte that shows no refusal
pub stand-byte :
    {x sum m : ℕ} {f : Bytes} {e : Check} {o : Out} (b : ℕ) → Standing x sum f e m o → shown (fed e b) ≡ false → (puts_text e (fed e b) ≡ false → m ≡ 0)
    → Standing x sum (f ++ (b ∷ [])) (fed e b) 0 (then o (due m e b (fed e b)))
stand-byte {x} {sum} {m} {f} {e} {o} b (standing {k} {t} {cs} {c} {n} {g} {h} w l q) s u =
    subst (λ (p : Out). Standing x sum (f ++ (b ∷ [])) (fed e b) 0 (then p (due m e b (fed e b)))) (sym q) (taken-byte x sum f e b m k t cs c n g h w l s u)

-- behind a CR no byte is content
module _ (e : Check) where
  abbrev No : Check → Type 0
  No r = shown r ≡ false → puts_text e r ≡ true → ⊥

  none-put : (r : Check) → r.field.content ≡ 0 → No r
  none-put r q s p =
      let y : leb r.field.content e.field.content ≡ true = rw q (le-leb 0 e.field.content (omega arith)) in
      let z : ◌≡◌ {A = ℕ} 0 1 = cc in
      omega arith

  stops : (r : Check) (i : ℕ) → eqb i 0 ≡ false → r.refusal ≡ i → No r
  stops r i p q s u = absurd (eqb-false i 0 p (sym q ∙ (clear r s).refusal))

module _
    (x sum : ℕ) (f : Bytes) (e : Check) (b : ℕ) (t : Table) (cs : List Content) (c : Content) (n : ℕ) (g h : Bytes) (w : Known x sum f e cr t cs c n g h)
    (z : 0 ≤ held_in cr n)
  where
    cr-class : (y : Class) (r : Check) → Does e (carry (names sum lf) cr y (next cr y)) r → No e r
    cr-class LF r (RecordEnds.ends v) = none-put e r v.over.content
    cr-class LF r (RecordEnds.long l v) = stops e r 9 refl v
    cr-class LF r (RecordEnds.uneven l y v) = stops e r 10 refl v
    cr-class text r v = stops e r 6 refl v
    cr-class blank r v = stops e r 6 refl v
    cr-class delimiter r v = stops e r 6 refl v
    cr-class quote r v = stops e r 6 refl v
    cr-class CR r v = stops e r 6 refl v
    cr-class forbidden r v = stops e r 6 refl v

    cr-puts : No e (fed e b)
    cr-puts =
        cr-class (class_of (dialect x sum) b) (fed e b) (rw (step-entry (names sum lf) cr (class_of (dialect x sum) b)) at (does x sum f e b 0 cr t cs c n g h w z))

held_all :
    {x sum : ℕ} {f : Bytes} {e : Check} {k : Form} {t : Table} {cs : List Content} {c : Content} {n : ℕ} {g h : Bytes} (b : ℕ) → Known x sum f e k t cs c n g h
    → shown (fed e b) ≡ false → puts_text e (fed e b) ≡ true → held_in k n ≡ n
held_all {x} {sum} {f} {e} {k} {t} {cs} {c} {n} {g} {h} b w = go k w
  where
    go : (k : Form) → Known x sum f e k t cs c n g h → shown (fed e b) ≡ false → puts_text e (fed e b) ≡ true → held_in k n ≡ n
    go start w s p = refl
    go lead w s p = refl
    go bare w s p = refl
    go quoted w s p = refl
    go shut w s p = refl
    go tail w s p = refl
    go cr w s p = absurd (cr-puts x sum f e b t cs c n g h w (omega arith) s p)

-- held blanks that come out before a byte of content
pub stand-blanks :
    {x sum m : ℕ} {f : Bytes} {e : Check} {o : Out} (b j : ℕ) → Standing x sum f e m o → shown (fed e b) ≡ false → puts_text e (fed e b) ≡ true
    → j ≤ blanks_due m e (fed e b) → Standing x sum f e (m + j) (then o (record { text = replicate j 0x20; ends = []; rows = [] }))
unfolding blanks_due out_of
stand-blanks {x} {sum} {m} {f} {e} {o} b j (standing {k} {t} {cs} {c} {n} {g} {h} w l q) s p i =
    let a = held_all b w s p in
    let w₁ = w.content in
    let w₂ = w.held in
    let i' : j ≤ min (e.field.held - m) (content_limit - (e.field.content + m)) = rw p at i in
    let i'' : j ≤ min (n - m) (content_limit - (length c + m)) = omega arith in
    let z = flatten (flatten t ++ cs) in
    let u : (z ++ take content_limit (c ++ replicate m 0x20)) ++ replicate j 0x20 ≡ z ++ take content_limit (c ++ replicate (m + j) 0x20) =
    append_assoc z (take content_limit (c ++ replicate m 0x20)) (replicate j 0x20) ∙ ap (λ (l : List ℕ). z ++ l) (blanks-left content_limit c m n 0x20 b (omega arith) j i'') in
    standing w (omega arith)
    (ap (λ (r : Out). then r (record { text = replicate j 0x20; ends = []; rows = [] })) q
    ∙ λ i. record { text = u i; ends = append-nil (lengths 0 (flatten t ++ cs)) i; rows = append-nil (lengths 0 t) i })
