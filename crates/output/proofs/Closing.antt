-- What the code of the start and of the close gives, case by case.
use Prim.Native.Nat.{ℕ}
use native.Mathlib.Omega.{arith}
use mathlib.Core.Path.{◌≡◌, refl, sym, ap, ◌∙◌}
use mathlib.Core.Bool.{Bool, true, false, not, ◌&&◌}
use mathlib.Core.Logic.{◌⊎◌, inl, inr}
use mathlib.Core.List.{List, [], ◌∷◌}
use lib.Dec.{eqb}
use lib.ListN.{length, set}
use borrow.Author.Tests.{le-leb, lt-leb, ne_eqb}
use Rattle.format.specs.declared.Answer.{Answer}
use Rattle.format.specs.Filling.{over}
use Rattle.state.specs.declared.Check.{Check}
use Rattle.state.specs.Check.{started}
use Rattle.pieces.specs.Asked.{asked}
use Rattle.output.specs.declared.Stream.{Stream}
use Rattle.output.specs.declared.Streamed.{Streamed}
use Rattle.output.specs.Out.{nothing}
use Rattle.output.specs.declared.Room.{Room}
use Rattle.output.specs.Stream.{is_over, idle, fits, short_of, Called, onward, stream_started, close_due, closed, answer_of, closed_by}
use Rattle.output.specs.Promises.{Into, room_of, Started, Closed}
use Rattle.output.proofs.Meaning.{so-started, so-closed}

-- the start, by the check's
pub start-onward : {b sum : ℕ} {c : Check} {s : Stream} → c ≡ started b sum → s ≡ onward c → Started b sum s
unfolding stream_started
start-onward p q = so-started (q ∙ ap onward p)

abbrev pub ended : Stream → Stream
ended s = record { check = s.check; early = s.early; closed = 1 }

-- nothing is out, and a buffer is short or none is
abbrev quiet : Stream → ℕ → Called
quiet s n = record { taken = 0; out = nothing; short = n; state = s }

module _ (s : Stream) (r : Room) where
  pub closed-over : is_over s ≡ true → closed s r ≡ idle s
  unfolding closed
  closed-over h = rw h

  module _ (a : Answer) (e : a ≡ asked s.check) (h : is_over s ≡ false) where
    -- a refusal or no open record leaves nothing to put out
    closed_none : (a.refusal ≡ 0 → ⊥) ⊎ ((a.refusal ≡ 0) × (s.check.begun ≡ 0)) → closed s r ≡ quiet (ended s) 0
    unfolding closed close_due fits
    closed_none i =
        rw (h, ← e, none i, le-leb 0 r.text (omega arith), le-leb 0 r.ends (omega arith), le-leb 0 r.rows (omega arith))
      where
        none : (a.refusal ≡ 0 → ⊥) ⊎ ((a.refusal ≡ 0) × (s.check.begun ≡ 0)) → (eqb a.refusal 0 && not (eqb s.check.begun 0)) ≡ false
        none (inl u) = rw (ne_eqb a.refusal 0 u)
        none (inr b) = rw (b.0, b.1)

    module _ (i : a.refusal ≡ 0) (b : s.check.begun ≡ 0 → ⊥) where
      closed-no-ends : r.ends ≡ 0 → closed s r ≡ quiet s 12
      unfolding closed close_due fits short_of
      closed-no-ends j = rw (h, ← e, i, ne_eqb s.check.begun 0 b, le-leb 0 r.text (omega arith), lt-leb 1 r.ends (omega arith))

      closed-no-rows : (r.ends ≡ 0 → ⊥) → r.rows ≡ 0 → closed s r ≡ quiet s 13
      unfolding closed close_due fits short_of
      closed-no-rows j k =
          rw (h, ← e, i, ne_eqb s.check.begun 0 b, le-leb 0 r.text (omega arith), le-leb 1 r.ends (omega arith), lt-leb 1 r.rows (omega arith))

      closed-full :
          (r.ends ≡ 0 → ⊥) → (r.rows ≡ 0 → ⊥)
          → closed s r
          ≡ record { taken = 0; out = record { text = []; ends = a.totals.text ∷ []; rows = a.totals.fields.0 ∷ [] }; short = 0; state = ended s }
      unfolding closed close_due fits
      closed-full j k =
          rw (h, ← e, i, ne_eqb s.check.begun 0 b, le-leb 0 r.text (omega arith), le-leb 1 r.ends (omega arith), le-leb 1 r.rows (omega arith))

-- what the code tells of a call
abbrev pub told : Stream → ℕ → ℕ → ℕ → Streamed
told s ends rows n =
    record { state = s; taken = 0; text = 0; ends = ends; rows = rows; short = n; closed = closed_by s; answer = answer_of s }

told-into :
    {c : Called} {ends rows ends' rows' : List ℕ} {r : Streamed} (s : Stream) (n : ℕ) (x y : List ℕ)
    → c ≡ record { taken = 0; out = record { text = []; ends = x; rows = y }; short = n; state = s } → r ≡ told s (length x) (length y) n
    → ends' ≡ over x ends → rows' ≡ over y rows → Into c [] ends rows r [] ends' rows'
told-into s n x y e q i j =
    rw (e, q)
    (record {
      state = refl;
      taken = refl;
      short = refl;
      closed = refl;
      answer = refl;
      text_count = refl;
      ends_count = refl;
      rows_count = refl;
      text_is = refl;
      ends_is = i;
      rows_is = j;
    })

quiet-into : {c : Called} {ends rows : List ℕ} {r : Streamed} (s : Stream) (n : ℕ) → c ≡ quiet s n → r ≡ told s 0 0 n → Into c [] ends rows r [] ends rows
quiet-into s n e q = told-into s n [] [] e q refl refl

set_front : (l : List ℕ) (n : ℕ) → (length l ≡ 0 → ⊥) → set l 0 n ≡ over (n ∷ []) l
set_front [] n h = absurd (h refl)
set_front (x ∷ l) n h = refl

module _ (s : Stream) (ends rows : List ℕ) {r : Streamed} where
  pub close-over : is_over s ≡ true → r ≡ told s 0 0 0 → Closed s ends rows r ends rows
  close-over h q = so-closed (quiet-into s 0 (closed-over s (room_of [] ends rows) h) q)

  module _ (a : Answer) (e : a ≡ asked s.check) (h : is_over s ≡ false) where
    pub close-none : (a.refusal ≡ 0 → ⊥) ⊎ ((a.refusal ≡ 0) × (s.check.begun ≡ 0)) → r ≡ told (ended s) 0 0 0 → Closed s ends rows r ends rows
    close-none i q = so-closed (quiet-into (ended s) 0 (closed_none s (room_of [] ends rows) a e h i) q)

    module _ (i : a.refusal ≡ 0) (b : s.check.begun ≡ 0 → ⊥) where
      pub close-no-ends : length ends ≡ 0 → r ≡ told s 0 0 12 → Closed s ends rows r ends rows
      close-no-ends j q = so-closed (quiet-into s 12 (closed-no-ends s (room_of [] ends rows) a e h i b j) q)

      pub close-no-rows : (length ends ≡ 0 → ⊥) → length rows ≡ 0 → r ≡ told s 0 0 13 → Closed s ends rows r ends rows
      close-no-rows j k q = so-closed (quiet-into s 13 (closed-no-rows s (room_of [] ends rows) a e h i b j k) q)

      pub close-full :
          (length ends ≡ 0 → ⊥) → (length rows ≡ 0 → ⊥) → r ≡ told (ended s) 1 1 0
          → Closed s ends rows r (set ends 0 a.totals.text) (set rows 0 a.totals.fields.0)
      close-full j k q =
          so-closed
          (told-into (ended s) 0 (a.totals.text ∷ []) (a.totals.fields.0 ∷ []) (closed-full s (room_of [] ends rows) a e h i b j k) q
          (set_front ends a.totals.text j) (set_front rows a.totals.fields.0 k))
