-- The parts of a state that is started, entered, opened, or jumped to.
use Prim.Native.Nat.{ℕ}
use mathlib.Core.Path.{◌≡◌, refl}
use Rattle.format.specs.declared.Place.{Place}
use Rattle.format.specs.Place.{place, nowhere}
use Rattle.steps.specs.Steps.{start}
use Rattle.steps.specs.Numbers.{form_number}
use Rattle.places.specs.Counters.{plus}
use Rattle.state.specs.declared.Check.{Check}
use Rattle.state.specs.declared.Counts.{Counts}
use Rattle.state.specs.declared.Current.{Current}
use Rattle.state.specs.declared.Used.{Used}
use Rattle.state.specs.Check.{new_field, started, entered, opened, placed, grown, jumped}

-- the parts of a state before any byte
pub started-is :
    (b sum : ℕ)
    → started b sum
    ≡ record {
      delimiter = b;
      leniencies = sum;
      refusal = 0;
      form = form_number start;
      begun = 0;
      used = record { lf = 0; blanks = 0; ragged = 0; bytes = 0 };
      here = place 1 1 0;
      anchor = nowhere;
      field = new_field (place 1 1 0) 0;
      counts = record { records = 0; fields = record { 0 = 0 }; text = 0; width = 0 };
    }
unfolding started
started-is b sum = refl

-- the parts of a form inside a field at a place, and of the start of a field
pub entered-is :
    (p : Place) (k : ℕ) (q : Place) (v : Used) (x : Current) (c : Check)
    → placed p (entered k q v x c)
    ≡ record {
      delimiter = c.delimiter;
      leniencies = c.leniencies;
      refusal = c.refusal;
      form = k;
      begun = 1;
      used = v;
      here = p;
      anchor = q;
      field = x;
      counts = c.counts;
    }
unfolding placed entered
entered-is p k q v x c = refl

pub opened-is :
    (p : Place) (b : ℕ) (v : Used) (x : Current) (s : Counts) (c : Check)
    → placed p (opened b v x s c)
    ≡ record {
      delimiter = c.delimiter;
      leniencies = c.leniencies;
      refusal = c.refusal;
      form = form_number start;
      begun = b;
      used = v;
      here = p;
      anchor = nowhere;
      field = x;
      counts = s;
    }
unfolding placed opened
opened-is p b v x s c = refl

-- the parts of a jump
pub jumped-is :
    (k : ℕ) (p : Place) (m : ℕ) (c : Check)
    → jumped k p m c
    ≡ record {
      delimiter = c.delimiter;
      leniencies = c.leniencies;
      refusal = c.refusal;
      form = k;
      begun = 1;
      used = c.used;
      here = p;
      anchor = c.anchor;
      field = grown c (plus (plus c.field.content c.field.held) m) 0;
      counts = c.counts;
    }
unfolding jumped placed entered
jumped-is k p m c = refl
