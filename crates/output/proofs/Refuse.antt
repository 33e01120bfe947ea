-- Before a refusal: what is out is what stands before the byte where the fault is found.
use Prim.Native.Nat.{ℕ, ◌≤◌, ◌<◌}
use native.Mathlib.Omega.{arith}
use mathlib.Core.Path.{◌≡◌, refl, sym, ap, subst, ◌∙◌}
use mathlib.Core.Bool.{true, false, ◌||◌, true≢false}
use mathlib.Core.List.{List, [], ◌∷◌, ◌++◌, append-nil, append_cancel_right, flatten}
use lib.Dec.{T, eqb, leb}
use lib.ListN.{length, length-append}
use Rattle.format.specs.Table.{Bytes, Content, Table, Every}
use Rattle.format.specs.Dialect.{lf, ragged, names, Dialect, dialect, class_of}
use Rattle.format.specs.Grammar.{Field, Record, Break}
use Rattle.format.specs.House.{width_of, content_limit, file_limit, Fits, Allowed}
use Rattle.format.specs.Refusal.{LineEnd, FieldEnd, delimited, lined, refusal_6, refusal_8, refusal_9, Fields, Records, Refusal, in_field, refusal_10}
use Rattle.steps.specs.Steps.{Form, start, lead, bare, quoted, shut, tail, cr, nothing, put, hold, drop, field_end, record_end, Act, refuse, go, step_of}
use Rattle.steps.specs.Model.{is_valid}
use Rattle.steps.specs.Numbers.{form_number}
use Rattle.steps.proofs.Acts.{over}
use Rattle.steps.proofs.Theorems.{one-refusal}
use Rattle.state.specs.declared.Check.{Check}
use Rattle.state.specs.Check.{evenly, fed}
use Rattle.state.proofs.Moves.{fed-keeps, fed-byte}
use Rattle.state.proofs.Byte.{FieldEnds, RecordEnds, Does}
use Rattle.pieces.specs.Asked.{asked}
use Rattle.pieces.proofs.Asking.{LastEnds, Asks, asks}
use Rattle.output.specs.Out.{Out, out_of, CameOut, came_out}
use Rattle.format.specs.SoFar.{so_far}
use Rattle.output.specs.Stream.{shown}
use Rattle.format.proofs.Even.{uneven}
use Rattle.format.proofs.Every.{every_append, every-each, every_one}
use Rattle.steps.proofs.Forms.{At, at_quoted, at_cr, at-begun, Makes, makes, Fault, behind, within, at_field}
use Rattle.format.proofs.Grow.{fields-grow, records-grow, fields-record, field_cut, fields-cut, records-cut}
use Rattle.output.proofs.Close.{field-begun}
use Rattle.output.proofs.Step.{Fresh, Known, Clear, not-shown, row_number, does}

-- a refusal of the file f, the bytes before the place where it is found, and what they put out
pub record FoundAt (d : Dialect) (f : Bytes) (o : Out) : Type 0 where
  pub n : ℕ
  pub found : Bytes
  pub named : Bytes
  pub before : Bytes
  pub refusal : Refusal d n f found named
  pub split : f ≡ before ++ found
  pub out : CameOut d before 0 o

-- it is the one refusal of f
pub found-out : {d : Dialect} {f : Bytes} {o : Out} {n : ℕ} {found named : Bytes} (s : Bytes) → FoundAt d f o → Refusal d n f found named → f ≡ s ++ found → CameOut d s 0 o
found-out {d} {o} {found} s w r q =
    let z = one-refusal w.refusal r in
    let i : w.before ++ found ≡ s ++ found = ap (λ (l : Bytes). w.before ++ l) (sym z.1) ∙ (sym w.split ∙ q) in
    subst (λ (l : Bytes). CameOut d l 0 o) (append_cancel_right w.before s found i) w.out

module _ (d : Dialect) (t : Table) (cs : List Content) where
  -- cut off where a field ends
  cut_field :
      {f g h found : Bytes} {c : Content} → Records d f t g → Fields d g cs h → Field d h c found → (s : Bytes) × (f ≡ s ++ found) × CameOut d s 0 (out_of t cs c 0)
  cut_field {found} r x p =
      let (h₀, i, p') = field_cut d found [] p refl in
      let (g₀, j, x') = fields-cut d found h₀ x i in
      let (f₀, k, r') = records-cut d found g₀ r j in
      let z = field-begun d p' in
      (f₀, k, came_out (so_far r' x' z.1) (omega arith) refl)

module _
    (x sum : ℕ) (f : Bytes) (e : Check) (b : ℕ) (k : Form) (t : Table) (cs : List Content) (c : Content) (n : ℕ) (g h : Bytes)
    (w : Known x sum f e k t cs c n g h)
  where
    d : Dialect
    d = dialect x sum

    allowed : Allowed (dialect x sum) t
    allowed = record { rows = w.even; contents = every-each Fits t (every_append Fits (flatten t) cs w.fits).0 }

    fitting : Every Fits cs
    fitting = (every_append Fits (flatten t) cs w.fits).1

    here : CameOut (dialect x sum) f 0 (out_of t cs c 0)
    here = came_out (so_far w.records w.fields (at-begun w.at)) (omega arith) refl

    rs : Records (dialect x sum) (f ++ (b ∷ [])) t (g ++ (b ∷ []))
    rs = records-grow (dialect x sum) (b ∷ []) w.records

    fs : Fields (dialect x sum) (g ++ (b ∷ [])) cs (h ++ (b ∷ []))
    fs = fields-grow (dialect x sum) (b ∷ []) w.fields

    abbrev Found : Type 0
    Found = FoundAt (dialect x sum) (f ++ (b ∷ [])) (out_of t cs c 0)

    -- a fault in the field
    by_fault : (i : ℕ) → Fault (dialect x sum) i b h c → Found
    by_fault i (behind {named} found p q) =
        let z = cut_field (dialect x sum) t cs rs fs p in
        record { n = i; found = found; named = named; before = z.0; refusal = in_field rs allowed fs fitting q; split = z.1; out = z.2 }
    by_fault i (within {named} q) =
        record { n = i; found = b ∷ []; named = named; before = f; refusal = in_field rs allowed fs fitting q; split = refl; out = here }

    -- a content over the limit
    by-9 : (found : Bytes) → Field (dialect x sum) (h ++ (b ∷ [])) c found → FieldEnd (dialect x sum) found → content_limit < length c → Found
    by-9 found p q l =
        let z = cut_field (dialect x sum) t cs rs fs p in
        record { n = 9; found = found; named = h ++ (b ∷ []); before = z.0; refusal = in_field rs allowed fs fitting (refusal_9 p q l); split = z.1; out = z.2 }

    -- a wrong number of fields
    by-10 :
        (found : Bytes) → Field (dialect x sum) (h ++ (b ∷ [])) c found → Break (dialect x sum) found [] → length c ≤ content_limit
        → (names e.leniencies ragged || evenly e) ≡ false → Found
    by-10 found p q l u =
        let z = cut_field (dialect x sum) t cs rs fs p in
        let v : ((dialect x sum).allows ragged || (eqb (width_of t) 0 || eqb (width_of t) (length (cs ++ (c ∷ []))))) ≡ false =
        rw (w.leniencies, w.width, row_number x sum f e b 0 k t cs c n g h w (omega arith)) at u in
        let r : (y : ℕ) (l : Bytes) → g ++ (b ∷ []) ≡ y ∷ l → Refusal (dialect x sum) 10 (f ++ (b ∷ [])) found found =
        λ y l j. refusal_10 (subst (Records (dialect x sum) (f ++ (b ∷ [])) t) j rs) allowed (subst (λ (m : Bytes). Record (dialect x sum) m (cs ++ (c ∷ [])) found) j (fields-record (dialect x sum) fs p)) (LineEnd.broken q)
        (every_one Fits cs c fitting l') (uneven (dialect x sum) t (cs ++ (c ∷ [])) v) in
        record { n = 10; found = found; named = found; before = z.0; refusal = first g r; split = z.1; out = z.2 }
      where
        l' : Fits c
        l' = l

        first : (g : Bytes) → ((y : ℕ) (l : Bytes) → g ++ (b ∷ []) ≡ y ∷ l → Refusal (dialect x sum) 10 (f ++ (b ∷ [])) found found) → Refusal (dialect x sum) 10 (f ++ (b ∷ [])) found found
        first [] h = h b [] refl
        first (y ∷ g) h = h y (g ++ (b ∷ [])) refl

    long : content_limit < e.field.content → content_limit < length c
    long q = let z = w.content in omega arith

    short : e.field.content ≤ content_limit → length c ≤ content_limit
    short q = let z = w.content in omega arith

    module _ (c₀ : Clear e) (small : length (f ++ (b ∷ [])) ≤ file_limit) where
      -- no refusal, after all
      fine : shown (fed e b) ≡ true → (fed e b).refusal ≡ e.refusal → Found
      fine s j =
          let i = fed-keeps e b in
          let y = fed-byte e b in
          let z = w.bytes in
          let l = length-append f (b ∷ []) in
          let v : is_valid (fed e b).delimiter (fed e b).leniencies ≡ true = cc (c₀.valid, i.delimiter, i.leniencies) in
          absurd (true≢false (sym s ∙ not-shown (fed e b) v (omega arith) (j ∙ w.refusal)))

      bad-act : (a : Act) → Makes (dialect x sum) b h c n a → Does e a (fed e b) → shown (fed e b) ≡ true → Found
      bad-act (refuse i) a v s = by_fault i a
      bad-act (go j nothing) a v s = fine s v.refusal
      bad-act (go j put) a v s = fine s v.refusal
      bad-act (go j hold) a v s = fine s v.refusal
      bad-act (go j drop) a v s = fine s v.refusal
      bad-act (go j field_end) a (FieldEnds.ends v) s = fine s v.over.refusal
      bad-act (go j field_end) a (FieldEnds.long l v) s = by-9 (b ∷ []) a.0 (delimited a.1) (long l)
      bad-act (go j record_end) a (RecordEnds.ends v) s = fine s v.over.refusal
      bad-act (go j record_end) a (RecordEnds.long l v) s = by-9 a.0 a.1 (lined (LineEnd.broken a.2)) (long l)
      bad-act (go j record_end) a (RecordEnds.uneven l y v) s = by-10 a.0 a.1 a.2 (short l) y

      pub fault-byte : shown (fed e b) ≡ true → Found
      fault-byte =
          bad-act (step_of (names sum lf) k (class_of (dialect x sum) b)) (makes (dialect x sum) b w.at (class_of (dialect x sum) b) refl)
          (does x sum f e b 0 k t cs c n g h w (omega arith))

-- the close
fresh-not : {n : ℕ} → Fresh n [] → eqb n 0 ≡ false → ⊥
fresh-not Fresh.none e = true≢false e

module _
    (x sum : ℕ) (f : Bytes) (e : Check) (t : Table) (cs : List Content) (c : Content) (n : ℕ) (g h : Bytes) (z : (asked e).refusal ≡ 0 → ⊥)
  where
    abbrev Shut : Type 0
    Shut = FoundAt (dialect x sum) f (out_of t cs c 0)

    shut-found :
        (k : Form) → Known x sum f e k t cs c n g h → {j : ℕ} {named : Bytes} → Refusal (dialect x sum) j f [] named → Shut
    shut-found k w {j} {named} r =
        record { n = j; found = []; named = named; before = f; refusal = r; split = sym (append-nil f); out = here x sum f e 0 k t cs c n g h w }

    shut-line : (k : Form) → Known x sum f e k t cs c n g h → T (over k) → eqb e.begun 0 ≡ false → LastEnds e (asked e) → Shut
    shut-line k w u b (LastEnds.ends l y v) = absurd (z v.refusal)
    shut-line k w u b (LastEnds.long l v) =
        shut-found k w (in_field w.records (allowed x sum f e 0 k t cs c n g h w) w.fields (fitting x sum f e 0 k t cs c n g h w) (refusal_9 (at_field w.at u) (lined LineEnd.end) (long x sum f e 0 k t cs c n g h w l)))
    shut-line k w u b (LastEnds.uneven l y v) = shut-found k w (wide g w.begun w.records w.fields (short x sum f e 0 k t cs c n g h w l) y)
      where
        wide : (g : Bytes) → Fresh e.begun g → Records (dialect x sum) f t g → Fields (dialect x sum) g cs h → length c ≤ content_limit
            → (names e.leniencies ragged || evenly e) ≡ false → Refusal (dialect x sum) 10 f [] []
        wide [] fr r y l j = absurd (fresh-not fr b)
        wide (a ∷ g) fr r y l j =
            refusal_10 r (allowed x sum f e 0 k t cs c n _ h w) (fields-record (dialect x sum) y (at_field w.at u)) LineEnd.end
            (every_one Fits cs c (fitting x sum f e 0 k t cs c n _ h w) l)
            (uneven (dialect x sum) t (cs ++ (c ∷ [])) (rw (w.leniencies, w.width, row_number x sum f e 0 0 k t cs c n _ h w (omega arith)) at j))

    shut-8 : {m : ℕ} → Known x sum f e quoted t cs c n g h → At (dialect x sum) quoted h c m → Shut
    shut-8 w (at_quoted y k) = shut-found quoted w (in_field w.records (allowed x sum f e 0 quoted t cs c n g h w) w.fields (fitting x sum f e 0 quoted t cs c n g h w) (refusal_8 y k))

    shut-6 : Known x sum f e cr t cs c n g h → At (dialect x sum) cr h c n → Shut
    shut-6 w (at_cr {b} q j) =
        let z = cut_field (dialect x sum) t cs w.records w.fields q in
        record {
          n = 6;
          found = b ∷ [];
          named = b ∷ [];
          before = z.0;
          refusal = in_field w.records (allowed x sum f e 0 cr t cs c _ g h w) w.fields (fitting x sum f e 0 cr t cs c _ g h w) (refusal_6 q j tt);
          split = z.1;
          out = z.2;
        }

    -- the form is no other than those that a record may be cut in
    abbrev Cut : Form → Type 0
    Cut k = Known x sum f e k t cs c n g h → Asks e (asked e) → Shut

    in-form : (k : Form) → T (over k) → eqb (form_number k) (form_number quoted) ≡ false → leb (form_number cr) (form_number k) ≡ false → Cut k
    in-form k u i j w (Asks.between p v) = absurd (z v.refusal)
    in-form k u i j w (Asks.in_quotes p q v) = absurd (true≢false (sym (rw w.form at q) ∙ i))
    in-form k u i j w (Asks.behind_cr p q v) = absurd (true≢false (sym (rw w.form at q) ∙ j))
    in-form k u i j w (Asks.in_record p q l v) = shut-line k w u p v

    shut_by : (k : Form) → Cut k
    shut_by quoted w a = shut-8 w w.at
    shut_by cr w a = shut-6 w w.at
    shut_by start w a = in-form start tt refl refl w a
    shut_by lead w a = in-form lead tt refl refl w a
    shut_by bare w a = in-form bare tt refl refl w a
    shut_by shut w a = in-form shut tt refl refl w a
    shut_by tail w a = in-form tail tt refl refl w a

    -- a refusal that the close gives
    pub fault-close : (k : Form) → Known x sum f e k t cs c n g h → Clear e → Shut
    fault-close k w q = shut_by k w (asks e q.valid q.short q.refusal)
