-- What the bytes of a field make of the state at its start: text, or content between quotes, up to where the field ends.
use Prim.Native.Nat.{ℕ, zero, suc, ◌+◌, ◌-◌, ◌≤◌, min}
use native.Mathlib.Omega.{arith}
use mathlib.Core.Path.{◌≡◌, refl, sym, ap, ap₂, ◌∙◌}
use mathlib.Core.Bool.{Bool, true, false, cond}
use lib.Dec.{eqb, eqb-suc-zero}
use lib.ListN.{drop}
use borrow.Author.Tests.{eqb-true}
use Rattle.format.specs.declared.Place.{Place}
use Rattle.format.specs.Table.{Bytes}
use Rattle.format.specs.Dialect.{dialect}
use Rattle.format.specs.House.{content_limit}
use Rattle.steps.specs.Steps.{start, bare, quoted, shut}
use Rattle.steps.specs.Numbers.{form_number}
use Rattle.runs.specs.Runs.{run, is_plain}
use Rattle.state.specs.declared.Check.{Check}
use Rattle.spans.specs.declared.Walk.{Walk}
use Rattle.places.specs.Counters.{counter_limit, plus, along, spot}
use Rattle.state.specs.Check.{fed, fed_all, jumped}
use Rattle.state.specs.Settled.{Settled}
use Rattle.spans.specs.Walk.{opening, begun, texted, Walking}
use Rattle.places.proofs.Counting.{plus-counted, along-along, spot-further}
use Rattle.state.proofs.Jumps.{shut-step, text-leap}
use Rattle.state.proofs.Parts.{entered-is, jumped-is}
use Rattle.state.proofs.Closing.{quote-opened}
use Rattle.spans.proofs.Fields.{Opened, opened_some, opened-none, stop_at, Ended}

-- the start of the field in work
pub at_start : (c : Check) (s : Bytes) (a : ℕ) (x : Walk) → Walking c s a x → Opened c a x (begun x a c)
at_start c s a x w = go (eqb x.fields 0) refl
  where
    go : (y : Bool) → eqb x.fields 0 ≡ y → Opened c a x (cond y c (opening x a c))
    go true e = let f = eqb-true x.fields 0 e in opened-none c s a x w.level (w.unmoved f) f
    go false e = opened_some c a x w.line (let q = w.line in omega (arith, w.on))

-- m bytes of text behind it
texted-some : (m : ℕ) (e : Check) → texted (suc m) e ≡ jumped (form_number bare) (along (suc m) e.here) (suc m) e
texted-some m e = rw (eqb-suc-zero m)

pub texted-leads :
    (e : Check) (s : Bytes) (i m : ℕ) → e.refusal ≡ 0 → e.form ≡ form_number start → m ≤ run (is_plain (dialect e.delimiter e.leniencies)) (drop i s)
    → fed_all (texted m e) (drop (i + m) s) ≡ fed_all e (drop i s)
texted-leads e s i zero r f h = let z : i + 0 ≡ i = omega arith in rw z
texted-leads e s i (suc m) r f h =
    ap (λ (g : Check). fed_all g (drop (i + suc m) s)) (texted-some m e) ∙ text-leap s i (suc m) e (omega arith) r (omega arith) h

module _ (c : Check) (a : ℕ) (x : Walk) (e : Check) (o : Opened c a x e) (calm : c.refusal ≡ 0) where
  quiet : e.refusal ≡ 0
  quiet = o.refusal ∙ calm

  small : (m n k : ℕ) → n ≡ 0 → k ≡ 0 → m ≤ content_limit → plus (plus n k) m ≤ content_limit
  small m n k e₁ e₂ l = omega arith

  weighs : (t m n k : ℕ) → n ≡ 0 → k ≡ 0 → plus t (plus (plus n k) m) ≡ plus t m
  weighs t m n k e₁ e₂ = ap (plus t) (whole n k e₁ e₂) ∙ plus-counted t m
    where
      whole : (n k : ℕ) → n ≡ 0 → k ≡ 0 → plus (plus n k) m ≡ min m counter_limit
      whole n k e₁ e₂ = omega arith

  -- a bare field ends
  jump-ended : (m : ℕ) → suc m ≤ content_limit → Ended c a x (jumped (form_number bare) (along (suc m) e.here) (suc m) e) (stop_at (x.start + suc m) (suc m) x.line x.lines)
  jump-ended m l =
      rw jumped-is
      (record {
        form = bare;
        ending = record { refusal = quiet; form = refl; ends = tt; held = refl; content = small (suc m) e.field.content e.field.held o.content o.held l };
        refusal = o.refusal;
        delimiter = o.delimiter;
        leniencies = o.leniencies;
        used = o.used;
        width = o.width;
        records = o.records;
        fields = o.fields;
        text = weighs e.counts.text (suc m) e.field.content e.field.held o.content o.held ∙ o.text (suc m);
        number = o.number;
        ahead = λ k. along-along (suc m) (k + 1) e.here ∙ o.ahead (suc m + (k + 1)) ∙ ap₂ (λ (t n : ℕ). spot x.lines t n c.here) (ap (λ (n : ℕ). n - x.line) (joins k)) (ap (λ (n : ℕ). n - a) (joins k));
      })
    where
      joins : (k : ℕ) → x.start + (suc m + (k + 1)) ≡ x.start + suc m + (k + 1)
      joins k = omega arith

  pub text-ended : (m : ℕ) → m ≤ content_limit → Ended c a x (texted m e) (stop_at (x.start + m) m x.line x.lines)
  text-ended zero l =
      record {
        form = start;
        ending = record { refusal = quiet; form = o.form; ends = tt; held = o.held; content = let z = o.content in omega arith };
        refusal = o.refusal;
        delimiter = o.delimiter;
        leniencies = o.leniencies;
        used = o.used;
        width = o.width;
        records = o.records;
        fields = o.fields;
        text = ap (plus e.counts.text) o.content ∙ o.text 0;
        number = o.number;
        ahead = λ k. o.ahead (k + 1) ∙ ap₂ (λ (t n : ℕ). spot x.lines t n c.here) (ap (λ (n : ℕ). n + (k + 1) - x.line) stays) (ap (λ (n : ℕ). n + (k + 1) - a) stays);
      }
    where
      stays : x.start ≡ x.start + 0
      stays = omega arith
  text-ended (suc m) l = rw (texted-some m e) (jump-ended m l)

  -- a quoted field: behind the opening quote, behind m bytes of content, and behind the closing quote
  module _ (other : c.delimiter ≡ 0x22 → ⊥) where
    pub within-quotes : Check
    within-quotes =
        record {
          delimiter = e.delimiter;
          leniencies = e.leniencies;
          refusal = e.refusal;
          form = form_number quoted;
          begun = 1;
          used = e.used;
          here = along 1 e.here;
          anchor = e.here;
          field = e.field;
          counts = e.counts;
        }

    no_quote : e.delimiter ≡ 0x22 → ⊥
    no_quote q = other (sym o.delimiter ∙ q)

    pub opens-quote : fed e 0x22 ≡ within-quotes
    unfolding within-quotes
    opens-quote = quote-opened e quiet o.form no_quote ∙ entered-is (along 1 e.here) (form_number quoted) e.here e.used e.field e

    pub within-settled : Settled within-quotes
    unfolding within-quotes
    within-settled =
        record {
          refusal = quiet;
          form = refl;
          other = no_quote;
          begun = refl;
          held = o.held;
          content = let z = o.content in omega arith;
          line = o.line;
          column = low e.here.column.0;
          byte = low e.here.byte.0;
        }
      where
        low : (n : ℕ) → plus n 1 ≤ counter_limit
        low n = omega arith

    module _ (l t n m : ℕ) where
      pub content-read : Check
      content-read =
          record {
            delimiter = e.delimiter;
            leniencies = e.leniencies;
            refusal = e.refusal;
            form = form_number quoted;
            begun = 1;
            used = e.used;
            here = spot l t n (along 1 e.here);
            anchor = e.here;
            field = record { start = e.field.start; content = plus (plus e.field.content e.field.held) m; held = 0; number = e.field.number };
            counts = e.counts;
          }

      pub content-is : jumped (form_number quoted) (spot l t n within-quotes.here) m within-quotes ≡ content-read
      unfolding content-read within-quotes
      content-is = jumped-is 3 (spot l t n (along 1 e.here)) m within-quotes

      pub behind-quotes : Check
      behind-quotes =
          record {
            delimiter = e.delimiter;
            leniencies = e.leniencies;
            refusal = e.refusal;
            form = form_number shut;
            begun = 1;
            used = e.used;
            here = along 1 (spot l t n (along 1 e.here));
            anchor = e.here;
            field = record { start = e.field.start; content = plus (plus e.field.content e.field.held) m; held = 0; number = e.field.number };
            counts = e.counts;
          }

      pub closes : fed content-read 0x22 ≡ behind-quotes
      unfolding behind-quotes content-read
      closes = shut-step content-read quiet refl no_quote ∙ entered-is (along 1 content-read.here) 4 content-read.anchor content-read.used content-read.field content-read

      -- the place behind the closing quote
      module _ (z : ℕ) (ends : x.start + 1 + n ≡ z) (j : ℕ) (on_line : spot l t n (spot x.lines (x.start + 1 - x.line) (x.start + 1 - a) c.here) ≡ spot (x.lines + l) (z - j) (z - a) c.here) (line-in : j ≤ z) (on : a ≤ z) where
        place_is : along 1 (spot l t n (along 1 e.here)) ≡ spot (x.lines + l) (z + 1 - j) (z + 1 - a) c.here
        place_is =
            ap (λ (p : Place). along 1 (spot l t n p)) (o.ahead 1) ∙ ap (along 1) on_line ∙ spot-further (x.lines + l) z j a 1 c.here line-in on

        pub quotes-ended : m ≤ content_limit → Ended c a x behind-quotes (stop_at (z + 1) m j (x.lines + l))
        unfolding behind-quotes
        quotes-ended q =
            record {
              form = shut;
              ending = record { refusal = quiet; form = refl; ends = tt; held = refl; content = small m e.field.content e.field.held o.content o.held q };
              refusal = o.refusal;
              delimiter = o.delimiter;
              leniencies = o.leniencies;
              used = o.used;
              width = o.width;
              records = o.records;
              fields = o.fields;
              text = weighs e.counts.text m e.field.content e.field.held o.content o.held ∙ o.text m;
              number = o.number;
              ahead = λ k. ap (along (k + 1)) place_is ∙ spot-further (x.lines + l) (z + 1) j a (k + 1) c.here (omega arith) (omega arith);
            }
