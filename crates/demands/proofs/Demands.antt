-- The demands hold: each statement of specs/Demands by its laws.
use Prim.Native.Nat.{ℕ, ◌≤◌}
use native.Mathlib.Omega.{arith}
use mathlib.Core.Path.{◌≡◌, refl, sym, ap, subst, ◌∙◌}
use mathlib.Core.List.{List, []}
use mathlib.Core.Logic.{inl, inr}
use lib.ListN.{length}
use Rattle.format.specs.declared.Answer.{Answer}
use Rattle.std.specs.Prelude.{Result, Ok}
use Rattle.format.specs.declared.WriteError.{WriteError}
use Rattle.format.specs.Table.{Bytes, Table}
use Rattle.format.specs.Dialect.{strict}
use Rattle.format.specs.House.{file_limit}
use Rattle.format.specs.Memory.{WellFormed, table_of}
use Rattle.format.specs.WrittenForms.{plain, CanHold}
use Rattle.format.specs.Filling.{over}
use Rattle.format.specs.Reading.{Accepted}
use Rattle.format.specs.Answer.{writer_numbers}
use Rattle.format.proofs.Demand3.{plain-is-shortest-ended, strict-tally, one-strict-tally, strict-ended, strict-length}
use Rattle.format.proofs.Dialects.{NoLarger}
use Rattle.format.proofs.Leniencies.{report-allowed, report-most, by-report}
use Rattle.format.proofs.Memory.{memory-back}
use Rattle.format.proofs.Rfc.{strict-is-rfc}
use Rattle.steps.proofs.Theorems as theorems
use Rattle.reader.specs.Read.{ReadOutcome}
use Rattle.reader.proofs.Calls as reads
use Rattle.tables.specs.Shown.{Shown}
use Rattle.tables.proofs.Showing.{one-shown}
use Rattle.writer.specs.Write.{file_in, accepted, FileOutcome, TableOutcome, WriteOutcome}
use Rattle.writer.proofs.Calls as writes
use Rattle.demands.specs.Demands.{Slices, RoomFor, Read, Same, Demand1, Demand2, Demand3, OfficeAndAuditor, Demands}
use Rattle.demands.proofs.Feeding.{feeds-stand}
use Rattle.demands.proofs.Reader.{slices, is-outcome, reads_as, read_as, took, same_end, left_alone, why-refused}

demand_1 : Demand1
demand_1 =
    record {
      bad_file = λ {lent = lent} c h. (is-outcome c lent (ReadOutcome.refused h)).0;
      no_other = λ c n. why-refused c.promise n;
      missing_field = λ s l. one-shown s (Shown.absent l);
      refused_read = λ c n. left_alone c n;
      refused_write = λ w n. writes.refused-same w.promise n;
    }

abbrev number : Answer → ℕ
number a = a.refusal

demand_2 : Demand2
demand_2 =
    record {
      strict_reader = λ {f = f} {t = t} c k. (
        λ p. let a = read_as c p in ((strict-is-rfc f t).0 a.reading, a.short),
        λ q. reads_as c (record { valid = (tt, omega arith); short = q.1; reading = (strict-is-rfc f t).1 q.0 }) k,
      );
      lax_reader = λ c k. (λ p. read_as c p, λ a. reads_as c a k);
      some_table = λ c z. let x = took c z in (x.table, c.answer.totals.report, x.came);
      enough_room = λ a h i j. reads.room-enough a h (omega arith) j;
      enough_to_write = λ w r. writes.room-enough w.promise r;
      one_reading = λ d p q. theorems.one_reading d _ _ _ _ _ p q;
      reads_back = λ {m = m} {mode = mode} {out = out} w e c k.
          let o = subst (λ (a : Result ℕ WriteError). WriteOutcome m.text m.ends m.rows mode out (writer_numbers a) w.left) e w.promise in
          let (x, y, z) = memory-back (writes.wrote o refl).formed in
          (reads_as c (writes.reads_back o) k, slices x y z);
      in_pieces = λ {b = b} {sum = sum} s x a. a.answers b sum _ (feeds-stand [] s.stands x);
      check_is_read = λ c h.
          elim (reads.check_is_read h c.promise) [
            | inl e ↦ inl e
            | inr y ↦
                let (t, r, n, e, k, q) = y in
                let (l, u) = reads.room-number k in
                inr (ap number e, omega (arith, l, ap number q), omega (arith, u, ap number q))
          ];
    }

-- the outcome of a plain write of a table that strict can hold, within the limit and with room
plain-outcome :
    (t : Table) → CanHold strict t → {text : Bytes} {ends rows : List ℕ} {out : Bytes} → WellFormed text ends rows → table_of text ends rows ≡ t
    → length (plain strict t) ≤ file_limit → length (plain strict t) ≤ length out
    → WriteOutcome text ends rows 0 out (accepted (length (plain strict t))) (over (plain strict t) out)
plain-outcome t h {text} {ends} {rows} {out} w e l k =
    WriteOutcome.well_formed (omega arith) w
    (subst
    (λ (u : Table). TableOutcome text u (file_in 0 u) out (accepted (length (plain strict t))) (over (plain strict t) out))
    (sym e)
    (TableOutcome.holdable h (FileOutcome.whole l k)))

demand_3 : (t : Table) → 1 ≤ length t → CanHold strict t → Demand3 t
demand_3 t n h =
    let s = plain-is-shortest-ended t n h in
    record {
      reads = s.reads;
      ended = s.ended;
      others = s.others;
      writer_gives_it = λ o w e l k. writes.one-outcome {a = o.answer} {b = Ok (length (plain strict t))} o.promise (plain-outcome t h w e l k);
      tally = λ p. strict-tally n p;
      one_tally = λ x y. one-strict-tally x y;
      size = λ x. let (i, j) = strict-ended x in (strict-length x, i, j);
      same_plain = λ p q. theorems.same_plain p q;
    }

-- a table that is no larger has room where the other has
room-too : {t u : Table} {lent : Slices} → RoomFor t lent → NoLarger u t → RoomFor u lent
room-too k n =
    record {
      for_text = omega (arith, k.for_text, n.text);
      for_ends = omega (arith, k.for_ends, n.fields);
      for_rows = omega (arith, k.for_rows, n.records);
    }

-- accepted with nothing reported, and so by strict
unreported :
    {sum : ℕ} {f : Bytes} {lent : Slices} (c : Read 0x2C sum f lent) (e : Read 0x2C 0 f lent) (t : Table) {r : ℕ}
    → Accepted 0x2C sum f t r → RoomFor t lent → r ≡ 0 → Same c e
unreported {sum} {f} c e t a k n =
    let b = subst (λ (s : ℕ). Accepted 0x2C sum f t s) n a in
    same_end c e t 0 (reads_as c b k) (reads_as e (theorems.office-auditor b) k)

office_and_auditor : OfficeAndAuditor
office_and_auditor =
    record {
      by_name = λ {b = b} {f = f} c z.
          let x = took c z in
          let a = x.accepted in
          let n = c.answer.totals.report in
          let on : Accepted b n f x.table n =
          record { valid = (a.valid.0, report-most a.reading); short = a.short; reading = by-report a.reading } in
          (λ l h. report-allowed a.reading l h, λ e. same_end c e x.table n x.came (reads_as e on x.room));
      nothing_reported = λ c e z n. let x = took c z in unreported c e x.table x.accepted x.room n;
      strict_taken = λ {sum = sum} e c z h.
          let x = took e z in
          let (u, n, a, y, same, size) = theorems.auditor-office sum h x.accepted in
          let k = room-too x.room size in
          let (p, q) = reads_as c a k in
          let r : c.answer.totals.report ≡ n = ap (λ (o : Answer). o.totals.report) p in
          (ap number p, elim y [ inl i ↦ inl (r ∙ i, unreported c e u a k i) | inr i ↦ inr (r ∙ i) ]);
    }

pub demands : Demands
demands = record { demand_1 = demand_1; demand_2 = demand_2; demand_3 = demand_3; office_and_auditor = office_and_auditor }
