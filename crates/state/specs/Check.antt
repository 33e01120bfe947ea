-- The check's state, and what a byte does to it: for every state.
use Rattle.std.specs.Prelude.{ℕ, Bool, true, false, cond, not, ◌||◌, [], ◌∷◌, eqb, leb}
use Rattle.format.specs.declared.Place.{Place}
use Rattle.format.specs.Table.{Bytes}
use Rattle.format.specs.Dialect.{lf, ragged, names, dialect, only_wide, class_of}
use Rattle.format.specs.House.{content_limit}
use Rattle.format.specs.Place.{place, nowhere}
use Rattle.steps.specs.declared.Stepped.{Stepped, TheVariants.Refuse, TheVariants.Quiet, TheVariants.Put, TheVariants.Hold, TheVariants.Drop, TheVariants.EndField, TheVariants.EndRecord}
use Rattle.steps.specs.Steps.{start, shut, cr, step_of}
use Rattle.steps.specs.Numbers.{form_number, form_of, coded}
use Rattle.places.specs.Counters.{plus, moved}
use Rattle.state.specs.declared.Used.{Used}
use Rattle.state.specs.declared.Current.{Current}
use Rattle.state.specs.declared.Counts.{Counts}
use Rattle.state.specs.declared.Check.{Check}

-- a field that begins at p, as number n of its record
abbrev pub new_field : Place → ℕ → Current
new_field p n = record { start = p; content = 0; held = 0; number = record { 0 = n } }

-- a check of a dialect, before any byte
unfoldable pub started : ℕ → ℕ → Check
started b sum =
    record {
      delimiter = b;
      leniencies = sum;
      refusal = 0;
      form = form_number start;
      begun = 0;
      used = record { lf = 0; blanks = 0; ragged = 0; bytes = 0 };
      here = place 1 1 0;
      anchor = nowhere;
      field = new_field (place 1 1 0) 0;
      counts = record { records = 0; fields = record { 0 = 0 }; text = 0; width = 0 };
    }

-- a fault: its number, and the place that it names
unfoldable pub stopped : ℕ → Place → Check → Check
stopped n p c =
    record {
      delimiter = c.delimiter;
      leniencies = c.leniencies;
      refusal = n;
      form = c.form;
      begun = c.begun;
      used = c.used;
      here = c.here;
      anchor = p;
      field = c.field;
      counts = c.counts;
    }

-- on to a form inside a field
unfoldable pub entered : ℕ → Place → Used → Current → Check → Check
entered k p v x c =
    record {
      delimiter = c.delimiter;
      leniencies = c.leniencies;
      refusal = c.refusal;
      form = k;
      begun = 1;
      used = v;
      here = c.here;
      anchor = p;
      field = x;
      counts = c.counts;
    }

-- on to the start of a field, of the same record or of the next, where the anchor names nothing
unfoldable pub opened : ℕ → Used → Current → Counts → Check → Check
opened u v x s c =
    record {
      delimiter = c.delimiter;
      leniencies = c.leniencies;
      refusal = c.refusal;
      form = form_number start;
      begun = u;
      used = v;
      here = c.here;
      anchor = nowhere;
      field = x;
      counts = s;
    }

-- at another place
unfoldable pub placed : Place → Check → Check
placed p c =
    record {
      delimiter = c.delimiter;
      leniencies = c.leniencies;
      refusal = c.refusal;
      form = c.form;
      begun = c.begun;
      used = c.used;
      here = p;
      anchor = c.anchor;
      field = c.field;
      counts = c.counts;
    }

-- 1 where the test holds, and else what was
abbrev pub noting : Bool → ℕ → ℕ
noting x n = cond x 1 n

-- the byte b, if only "bytes" allows it
unfoldable pub noted : ℕ → Check → Used
noted b c =
    record {
      lf = c.used.lf;
      blanks = c.used.blanks;
      ragged = c.used.ragged;
      bytes = noting (only_wide c.delimiter b) c.used.bytes;
    }

-- the leniencies used where a field ends, with h blanks held, which are dropped; e and l say whether its record is even, and ended by an LF alone
abbrev pub used_at_end : ℕ → Bool → Bool → Used → Used
used_at_end h e l v =
    record {
      lf = noting l v.lf;
      blanks = noting (not (eqb h 0)) v.blanks;
      ragged = noting (not e) v.ragged;
      bytes = v.bytes;
    }

-- the leniencies used where only a field ends
abbrev pub drop_held : Check → Used → Used
drop_held c v = used_at_end c.field.held true false v

-- one field more, with a content of n bytes
abbrev pub one_field : ℕ → Counts → Counts
one_field n s =
    record {
      records = s.records;
      fields = record { 0 = plus s.fields.0 1 };
      text = plus s.text n;
      width = s.width;
    }

-- the same, for the field in work
abbrev pub count_field : Check → Counts
count_field c = one_field c.field.content c.counts

-- the field ends, and the next one begins
unfoldable pub field_ended : Used → Place → Check → Check
field_ended v next c =
    cond (leb c.field.content content_limit)
    (opened 1 (drop_held c v) (new_field next (plus c.field.number.0 1)) (count_field c) c)
    (stopped 9 c.field.start c)

-- a record of m fields is as wide as the first, whose width is w, or is the first
abbrev pub as_wide : ℕ → ℕ → Bool
as_wide w m = eqb w 0 || eqb w m

-- the number of fields of the record in work, if it ends here
abbrev pub width_here : Check → ℕ
width_here c = plus c.field.number.0 1

-- the record in work is as wide as the first, or is the first
abbrev pub evenly : Check → Bool
evenly c = as_wide c.counts.width (width_here c)

-- one record more, of m fields; the last of them is one field more
abbrev pub one_record : ℕ → ℕ → Counts → Counts
one_record n m s =
    record {
      records = plus s.records 1;
      fields = (one_field n s).fields;
      text = (one_field n s).text;
      width = cond (eqb s.width 0) m s.width;
    }

-- field and record end at a place; l says whether an LF alone ends them
unfoldable pub record_ended : Used → Place → Place → Bool → Check → Check
record_ended v at next l c =
    cond (leb c.field.content content_limit)
    (cond (names c.leniencies ragged || evenly c) (opened 0 (used_at_end c.field.held (evenly c) l v) (new_field next 0) (one_record c.field.content (width_here c) c.counts) c) (stopped 10 at c))
    (stopped 9 c.field.start c)

-- the place of a break or a fault that is seen here: behind a CR it is that of the CR
abbrev pub seen_at : Check → Place
seen_at c = cond (leb (form_number cr) c.form) c.anchor c.here

-- the field in work with other counts
abbrev pub grown : Check → ℕ → ℕ → Current
grown c m h = record { start = c.field.start; content = m; held = h; number = c.field.number }

-- what a step does
unfoldable pub stepped : Stepped → Used → Place → Check → Check
stepped (Refuse n) v next c = stopped n (seen_at c) c
stepped (Quiet k) v next c = entered k (cond (eqb k (form_number shut)) c.anchor c.here) v c.field c
stepped (Put k) v next c = entered k c.anchor v (grown c (plus (plus c.field.content c.field.held) 1) 0) c
stepped (Hold k) v next c = entered k c.anchor v (grown c c.field.content (plus c.field.held 1)) c
stepped (Drop k) v next c = entered k c.anchor (record { lf = v.lf; blanks = 1; ragged = v.ragged; bytes = v.bytes }) c.field c
stepped EndField v next c = field_ended v next c
stepped EndRecord v next c = record_ended v (seen_at c) next (not (leb (form_number cr) c.form)) c

-- a byte: behind a refusal it is only counted
unfoldable pub fed : Check → ℕ → Check
fed c b =
    placed (moved b c.here)
    (cond (eqb c.refusal 0)
    (stepped (coded (step_of (names c.leniencies lf) (form_of c.form) (class_of (dialect c.delimiter c.leniencies) b))) (noted b c) (moved b c.here) c)
    c)

-- a piece
unfoldable pub fed_all : Check → Bytes → Check
fed_all c [] = c
fed_all c (b ∷ f) = fed_all (fed c b) f

-- content of m bytes at once, and on to a form inside the field and to a place
unfoldable pub jumped : ℕ → Place → ℕ → Check → Check
jumped k p m c = placed p (entered k c.anchor c.used (grown c (plus (plus c.field.content c.field.held) m) 0) c)
