-- A caller comes to the end: with room for one byte of text, one end and one row, every call on a piece that is not empty goes on.
use Prim.Native.Nat.{ℕ, suc, ◌+◌, ◌-◌, ◌≤◌, ◌<◌, min}
use native.Mathlib.Omega.{arith}
use mathlib.Core.Path.{◌≡◌, refl, sym, ap}
use mathlib.Core.Bool.{Bool, true, false, cond, not, ◌&&◌, or-true}
use mathlib.Core.Logic.{◌⊎◌, inl, inr}
use mathlib.Core.List.{[], ◌∷◌}
use lib.Dec.{eqb, leb}
use lib.ListN.{length, replicate, length-append, length-replicate}
use borrow.Author.Tests.{leb-false, le-leb}
use Rattle.format.specs.declared.Answer.{Answer}
use Rattle.format.specs.Table.{Bytes}
use Rattle.format.specs.House.{content_limit}
use Rattle.format.proofs.Classes.{decide}
use Rattle.state.specs.declared.Check.{Check}
use Rattle.state.specs.Check.{fed}
use Rattle.pieces.specs.Asked.{asked}
use Rattle.output.specs.declared.Stream.{Stream}
use Rattle.output.specs.Out.{Out, nothing}
use Rattle.output.specs.declared.Room.{Room}
use Rattle.output.specs.Stream.{shown, is_over, puts_text, ends_field, ends_record, byte_left, when, blanks_due, due, fits, left, short_of, Called, onward, taking, streamed, close_due, closed}
use Rattle.output.proofs.Bytewise.{shown-over, fits-parts}

one-most : (x : Bool) (n : ℕ) → length (when x n) ≤ 1
one-most true n = omega arith
one-most false n = omega arith

due-text : (m : ℕ) (c : Check) (b : ℕ) (e : Check) → length (due m c b e).text ≤ blanks_due m c e + 1
unfolding due
due-text m c b e =
    let y : length {A = ℕ} (replicate (blanks_due m c e) 0x20) ≡ blanks_due m c e = length-replicate (blanks_due m c e) 0x20 in
    omega (arith, length-append (replicate (blanks_due m c e) 0x20) (when (puts_text c e && byte_left c) b), one-most (puts_text c e && byte_left c) b)

due-ends : (m : ℕ) (c : Check) (b : ℕ) (e : Check) → (length (due m c b e).ends ≤ 1) × (length (due m c b e).rows ≤ 1)
unfolding due
due-ends m c b e = (one-most (ends_field e) e.counts.text, one-most (ends_record e) e.counts.fields.0)

pub blanks-held : (m : ℕ) (c e : Check) (k : ℕ) → 1 ≤ k → k ≤ blanks_due m c e → m + k ≤ c.field.held
unfolding blanks_due
blanks-held m c e k i = by (puts_text c e)
  where
    by : (y : Bool) → k ≤ cond y (min (c.field.held - m) (content_limit - (c.field.content + m))) 0 → m + k ≤ c.field.held
    by true h = omega arith
    by false h = absurd (omega arith)

short-text : (o : Out) (r : Room) → fits o r ≡ false → length o.ends ≤ r.ends → length o.rows ≤ r.rows → r.text < length o.text
unfolding fits
short-text o r h p q =
    let y = le-leb (length o.ends) r.ends p in
    let z = le-leb (length o.rows) r.rows q in
    by (leb (length o.text) r.text) refl (rw (y, z) at h)
  where
    by : (x : Bool) → leb (length o.text) r.text ≡ x → (x && (true && true)) ≡ false → r.text < length o.text
    by true e h = let i : ◌≡◌ {A = ℕ} 0 1 = cc in absurd (omega arith)
    by false e h = leb-false (length o.text) r.text e

-- where a call sticks with such room, a held blank comes out
pub stuck-some :
    (m : ℕ) (c : Check) (b : ℕ) (e : Check) (r : Room) → fits (due m c b e) r ≡ false → 1 ≤ r.text → 1 ≤ r.ends → 1 ≤ r.rows
    → (1 ≤ min (blanks_due m c e) r.text) × (m + min (blanks_due m c e) r.text ≤ c.field.held)
stuck-some m c b e r j x y z =
    let u = due-ends m c b e in
    let u₀ = u.0 in
    let u₁ = u.1 in
    let v = due-text m c b e in
    let w = short-text (due m c b e) r j (omega arith) (omega arith) in
    let some : 1 ≤ min (blanks_due m c e) r.text = omega arith in
    (some, blanks-held m c e (min (blanks_due m c e) r.text) some (omega arith))

-- a byte is taken, or held blanks come out that were not out yet
abbrev GoesOn : Stream → Called → Type 0
GoesOn s c = (1 ≤ c.taken) ⊎ ((1 ≤ length c.out.text) × (c.state.early ≡ s.early + length c.out.text))

pub goes_on :
    (s : Stream) (b : ℕ) (f : Bytes) (r : Room) → is_over s ≡ false → 1 ≤ r.text → 1 ≤ r.ends → 1 ≤ r.rows → GoesOn s (streamed s (b ∷ f) r)
unfolding streamed
goes_on s b f r h x y z =
    rw h
    (decide (GoesOn s) (shown (fed s.check b)) (λ i. inl (omega arith))
    (λ i.
    let e : Check = fed s.check b in
    decide (GoesOn s) (fits (due s.early s.check b e) r) (λ j. inl (omega arith))
    (λ j.
    let k : ℕ = min (blanks_due s.early s.check e) r.text in
    let l : length {A = ℕ} (replicate k 0x20) ≡ k = length-replicate k 0x20 in
    let w = (stuck-some s.early s.check b e r j x y z).0 in
    inr (omega arith, ap (λ (n : ℕ). s.early + n) (sym l)))))

-- a call with room for the whole output of the next byte takes it
pub room-takes :
    (s : Stream) (b : ℕ) (f : Bytes) (r : Room) → is_over s ≡ false → fits (due s.early s.check b (fed s.check b)) r ≡ true → 1 ≤ (streamed s (b ∷ f) r).taken
unfolding streamed
room-takes s b f r h i = rw (h, i) (decide (λ (c : Called). 1 ≤ c.taken) (shown (fed s.check b)) (λ j. omega arith) (λ j. omega arith))

-- A call stops early only where nothing more is taken, or before a byte whose output does not all fit.
pub data Stops (piece : Bytes) (c : Called) : Type 0 where
  whole : c.taken ≡ length piece → Stops piece c
  ended : is_over c.state ≡ true → Stops piece c
  lacking : 11 ≤ c.short → Stops piece c

lacks : (o : Out) (r : Room) → fits o r ≡ false → 11 ≤ short_of o r
unfolding fits short_of
lacks o r = by (leb (length o.text) r.text) (leb (length o.ends) r.ends) (leb (length o.rows) r.rows)
  where
    by : (x y z : Bool) → (x && (y && z)) ≡ false → 11 ≤ cond x (cond y (cond z 0 13) 12) 11
    by true true true h = let i : ◌≡◌ {A = ℕ} 0 1 = cc in absurd (omega arith)
    by true true false h = omega arith
    by true false z h = omega arith
    by false y z h = omega arith

stops-more : (b : ℕ) (f : Bytes) (o : Out) (c : Called) → Stops f c → Stops (b ∷ f) (taking o c)
stops-more b f o c (whole e) = whole (ap suc e)
stops-more b f o c (ended e) = ended e
stops-more b f o c (lacking e) = lacking e

pub stops-for : (piece : Bytes) (s : Stream) (r : Room) → Stops piece (streamed s piece r)
unfolding streamed
stops-for [] s r = whole refl
stops-for (b ∷ f) s r =
    decide (Stops (b ∷ f)) (is_over s) (λ h. ended h)
    (λ h. decide (Stops (b ∷ f)) (shown (fed s.check b)) (λ i. ended (shown-over (fed s.check b) i))
    (λ i.
    let o : Out = due s.early s.check b (fed s.check b) in
    decide (Stops (b ∷ f)) (fits o r)
    (λ j. stops-more b f o (streamed (onward (fed s.check b)) f (left o r)) (stops-for f (onward (fed s.check b)) (left o r)))
    (λ j. lacking (lacks o r j))))

-- Nothing is put out beyond the room, nor taken beyond the piece.
pub record Within (piece : Bytes) (r : Room) (c : Called) : Type 0 where
  pub taken : c.taken ≤ length piece
  pub text : length c.out.text ≤ r.text
  pub ends : length c.out.ends ≤ r.ends
  pub rows : length c.out.rows ≤ r.rows

within_more :
    (b : ℕ) (f : Bytes) (o : Out) (r : Room) (c : Called) → (length o.text ≤ r.text) × (length o.ends ≤ r.ends) × (length o.rows ≤ r.rows)
    → Within f (left o r) c → Within (b ∷ f) r (taking o c)
within_more b f o r c h w =
    let x = w.text in
    let y = w.ends in
    let z = w.rows in
    let h₀ = h.0 in
    let h₁ = h.1 in
    let h₂ = h.2 in
    let k = w.taken in
    record {
      taken = omega arith;
      text = omega (arith, length-append o.text c.out.text);
      ends = omega (arith, length-append o.ends c.out.ends);
      rows = omega (arith, length-append o.rows c.out.rows);
    }

pub stays_within : (piece : Bytes) (s : Stream) (r : Room) → Within piece r (streamed s piece r)
unfolding streamed
stays_within [] s r = record { taken = omega arith; text = omega arith; ends = omega arith; rows = omega arith }
stays_within (b ∷ f) s r =
    decide (Within (b ∷ f) r) (is_over s) (λ h. record { taken = omega arith; text = omega arith; ends = omega arith; rows = omega arith })
    (λ h. decide (Within (b ∷ f) r) (shown (fed s.check b)) (λ i. record { taken = omega arith; text = omega arith; ends = omega arith; rows = omega arith })
    (λ i.
    let o : Out = due s.early s.check b (fed s.check b) in
    decide (Within (b ∷ f) r) (fits o r)
    (λ j. within_more b f o r (streamed (onward (fed s.check b)) f (left o r)) (fits-parts o r j) (stays_within f (onward (fed s.check b)) (left o r)))
    (λ j.
    let k : ℕ = min (blanks_due s.early s.check (fed s.check b)) r.text in
    let l : length {A = ℕ} (replicate k 0x20) ≡ k = length-replicate k 0x20 in
    record { taken = omega arith; text = omega arith; ends = omega arith; rows = omega arith })))

-- A buffer is named as short only where the call stopped before the end of its piece.
pub short-stops : (piece : Bytes) (s : Stream) (r : Room) → ((streamed s piece r).short ≡ 0) ⊎ ((streamed s piece r).taken < length piece)
unfolding streamed
short-stops [] s r = inl refl
short-stops (b ∷ f) s r =
    decide Said (is_over s) (λ h. inl refl)
    (λ h. decide Said (shown (fed s.check b)) (λ i. inl refl)
    (λ i.
    let o : Out = due s.early s.check b (fed s.check b) in
    decide Said (fits o r)
    (λ j. more o (streamed (onward (fed s.check b)) f (left o r)) (short-stops f (onward (fed s.check b)) (left o r)))
    (λ j. inr (omega arith))))
  where
    Said : Called → Type 0
    Said c = (c.short ≡ 0) ⊎ (c.taken < length (b ∷ f))

    more : (o : Out) (c : Called) → (c.short ≡ 0) ⊎ (c.taken < length f) → (c.short ≡ 0) ⊎ (suc c.taken < length (b ∷ f))
    more o c (inl e) = inl e
    more o c (inr l) = inr (omega arith)

-- A close that is short of room changes nothing; one that is not ends the stream, as it does with room for one end and one row.
module _ (s : Stream) (r : Room) where
  pub close-stays : ((closed s r).short ≡ 0 → ⊥) → ((closed s r).out ≡ nothing) × ((closed s r).state ≡ s)
  unfolding closed
  close-stays =
      decide Stays (is_over s) (λ h n. (refl, refl))
      (λ h. decide Stays (fits (close_due s.check (asked s.check)) r) (λ i n. absurd (n refl)) (λ i n. (refl, refl)))
    where
      Stays : Called → Type 0
      Stays c = (c.short ≡ 0 → ⊥) → (c.out ≡ nothing) × (c.state ≡ s)

  pub close_ends : (closed s r).short ≡ 0 → is_over (closed s r).state ≡ true
  unfolding closed
  close_ends =
      decide Ends (is_over s) (λ h n. h)
      (λ h. let o : Out = close_due s.check (asked s.check) in
      decide Ends (fits o r) (λ i n. or-true (shown s.check)) (λ i n. let l = lacks o r i in absurd (omega arith)))
    where
      Ends : Called → Type 0
      Ends c = c.short ≡ 0 → is_over c.state ≡ true

  due-one : (c : Check) (a : Answer) → 1 ≤ r.ends → 1 ≤ r.rows → fits (close_due c a) r ≡ true
  unfolding close_due fits
  due-one c a x y =
      let z : Bool = eqb a.refusal 0 && not (eqb c.begun 0) in
      let u = one-most z a.totals.text in
      let v = one-most z a.totals.fields.0 in
      rw (le-leb 0 r.text (omega arith), le-leb (length (when z a.totals.text)) r.ends (omega arith), le-leb (length (when z a.totals.fields.0)) r.rows (omega arith))

  pub close_room : 1 ≤ r.ends → 1 ≤ r.rows → (closed s r).short ≡ 0
  unfolding closed
  close_room x y = rw (due-one s.check (asked s.check) x y) (decide (λ (c : Called). c.short ≡ 0) (is_over s) (λ h. refl) (λ h. refl))
