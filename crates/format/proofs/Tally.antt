-- The length law, and what it gives: what a reading has beyond the plain form is a fact of the file, and among the files of a table whose breaks are
-- all CRLF, the last one too, the plain form is the one shortest.
use Prim.Native.Nat.{ℕ, zero, suc, ◌+◌, ◌*◌, ◌<◌, ◌≤◌}
use native.Mathlib.Omega.{arith}
use mathlib.Core.Path.{◌≡◌, refl, sym, ◌∙◌}
use mathlib.Core.Bool.{Bool, true, false, cond}
use mathlib.Core.Logic.{◌↔◌}
use mathlib.Core.List.{List, [], ◌∷◌, ◌++◌, append_assoc}
use lib.Dec.{T, eqb}
use lib.ListN.{length}
use Rattle.format.specs.Table.{Bytes, Content, Table, Ending}
use Rattle.format.specs.Dialect.{Dialect, delimits}
use Rattle.format.specs.Grammar.{Blanks, Field, Record, Break, File}
use Rattle.format.specs.House.{EndsInBreak}
use Rattle.format.specs.WrittenForms.{needs_quotes, quoted_form, plain_form, record_by, table_by, plain}
use Rattle.format.specs.Count.{sum_in_record, sum_in_file, blank_count, dropped, needless, alone, alones, missing, Tally, tally}
use Rattle.format.proofs.Classes.{CR-is, LF-is, delimiter-is}
use Rattle.format.proofs.Ended.{missing-ended, missing-le}
use Rattle.format.proofs.Length.{bare-source, bare-needs, quoted-source, weigh, file-sum, file-weight, line-one, line-more}

-- three weights: every byte, quotes alone, CR alone
abbrev any : ℕ → ℕ
any b = 1

abbrev only : ℕ → ℕ → ℕ
only x b = cond (eqb b x) 1 0

weigh-any : (f : Bytes) → weigh any f ≡ length f
unfolding weigh
weigh-any [] = refl
weigh-any (b ∷ f) = omega (arith, weigh-any f)

module _ (d : Dialect) (valid : T (delimits d.delimiter_byte)) where
  -- the length law: two for each field quoted without need, one for each dropped blank, less two for a missing last break and one for each LF alone
  pub length-law :
      {f : Bytes} {t : Table} {n b l m : ℕ} → Tally d f t n b l m → length f + (2 * m + l) ≡ length (plain d t) + (2 * n + b)
  length-law {f} {t} (tally {e} p k) =
      omega (arith, file-weight any d valid p, file-sum needless dropped 2 1 p, weigh-any f, weigh-any (plain d t))

  -- quotes count the needless, CR bytes the breaks
  quote-law : {f : Bytes} {t : Table} {n b l m : ℕ} → Tally d f t n b l m → weigh (only 0x22) f ≡ weigh (only 0x22) (plain d t) + 2 * n
  quote-law (tally p k) = omega (arith, file-weight (only 0x22) d valid p, file-sum needless dropped 2 0 p)

  CR-law : {f : Bytes} {t : Table} {n b l m : ℕ} → Tally d f t n b l m → weigh (only 0x0D) f + (m + l) ≡ weigh (only 0x0D) (plain d t)
  CR-law (tally p k) = omega (arith, file-weight (only 0x0D) d valid p, file-sum needless dropped 0 0 p)

  -- a last break is missing exactly if the last byte is no LF
  pub tally-ended : {f : Bytes} {t : Table} {n b l m : ℕ} → Tally d f t n b l m → (m ≡ 0) ↔ EndsInBreak f
  tally-ended (tally p k) = missing-ended d valid k p

  pub tally-le : {f : Bytes} {t : Table} {n b l m : ℕ} → Tally d f t n b l m → m ≤ 1
  tally-le (tally {e} p k) = missing-le e

  pub one-missing : {f : Bytes} {t u : Table} {n b l m n' b' l' m' : ℕ} → Tally d f t n b l m → Tally d f u n' b' l' m' → m ≡ m'
  one-missing {f} {m} {m'} x y = go m m' (tally-ended x) (tally-ended y) (tally-le x) (tally-le y)
    where
      go : (m m' : ℕ) → (m ≡ 0) ↔ EndsInBreak f → (m' ≡ 0) ↔ EndsInBreak f → m ≤ 1 → m' ≤ 1 → m ≡ m'
      go zero m' p q i j = sym (q.1 (p.0 refl))
      go (suc m) zero p q i j = p.1 (q.0 refl)
      go (suc m) (suc m') p q i j = omega arith

  -- the counts are facts of the file and its table: any two readings agree on them
  pub one_tally :
      {f : Bytes} {t : Table} {n b l m n' b' l' m' : ℕ} → Tally d f t n b l m → Tally d f t n' b' l' m'
      → (n ≡ n') × (b ≡ b') × (l ≡ l') × (m ≡ m')
  one_tally x y =
      let u = one-missing x y in
      let v = quote-law x in
      let w = quote-law y in
      let j = CR-law x in
      let k = CR-law y in
      let p = length-law x in
      let q = length-law y in
      omega arith

  -- a source with nothing beyond the plain form is the plain form
  blanks-none : {f g : Bytes} (x : Blanks d f g) → blank_count x ≡ 0 → f ≡ g
  unfolding blank_count
  blanks-none Blanks.none n = refl
  blanks-none (Blanks.more k x) n = absurd (omega arith)

  field_plain :
      {f g : Bytes} {c : Content} (p : Field d f c g) → needless f c g p + dropped f c g p ≡ 0 → f ≡ plain_form d c ++ g
  unfolding needless dropped plain_form
  field_plain (Field.bare x k n y) m =
      rw (bare-needs k n) (blanks-none x (omega arith) ∙ (bare-source k ∙ rw (blanks-none y (omega arith))))
  field_plain {f} {g} {c} (Field.quoted x k y) m = go (needs_quotes d c) m
    where
      go : (u : Bool) → cond u 0 1 + (blank_count x + blank_count y) ≡ 0 → f ≡ cond u (quoted_form c) c ++ g
      go true m = blanks-none x (omega arith) ∙ (quoted-source d valid k ∙ rw (blanks-none y (omega arith)))
      go false m = absurd (omega arith)

  record-plain :
      {f g : Bytes} {cs : List Content} (r : Record d f cs g)
      → sum_in_record needless r + sum_in_record dropped r ≡ 0 → f ≡ record_by (plain_form d) d cs ++ g
  unfolding sum_in_record
  record-plain (Record.one {c} p) m = rw (line-one (plain_form d) d c) (field_plain p m)
  record-plain {g} (Record.more {b} {c} {cs} p k r) m =
      let q = record-plain r (omega arith) in
      rw (line-more (plain_form d) c r, append_assoc) (field_plain p (omega arith) ∙ cc (q, delimiter-is d b k))

  break-plain : {g h : Bytes} (k : Break d g h) → alone k ≡ 0 → g ≡ 0x0D ∷ 0x0A ∷ h
  unfolding alone
  break-plain (Break.crlf {a} {b} j k) n = rw (CR-is d a j, LF-is d b k)
  break-plain (Break.lf_alone j k) n = absurd (omega arith)

  file-plain :
      {f : Bytes} {t : Table} {e : Ending} (p : File d f t e)
      → sum_in_file needless p + sum_in_file dropped p ≡ 0 → alones p + missing e ≡ 0 → f ≡ plain d t
  unfolding sum_in_file alones table_by
  file-plain (File.one r) m n = absurd (omega arith)
  file-plain (File.ended r k) m n = record-plain r m ∙ rw (break-plain k (omega arith))
  file-plain (File.more r k p) m n =
      record-plain r (omega arith) ∙ rw (break-plain k (omega arith), file-plain p (omega arith) (omega arith))

  tally-plain : {f : Bytes} {t : Table} {n b l m : ℕ} → Tally d f t n b l m → n + b ≡ 0 → l + m ≡ 0 → f ≡ plain d t
  tally-plain (tally p k) h i = file-plain p h i

  -- Among the files of a table that end in a line break, with CRLF for every break, the plain form is shorter than every other. Nothing is said of
  -- files without their last break: `a` is shorter than its plain form, and `a⏎""` is as long.
  pub plain-shortest-ended :
      {f : Bytes} {t : Table} {n b l m : ℕ}
      → Tally d f t n b l m → l ≡ 0 → EndsInBreak f → (f ≡ plain d t → ⊥) → length (plain d t) < length f
  plain-shortest-ended {f} {t} {n} {b} {m} x h i other = go (n + b) refl
    where
      ended : m ≡ 0
      ended = (tally-ended x).1 i

      go : (k : ℕ) → n + b ≡ k → length (plain d t) < length f
      go zero e = absurd (other (tally-plain x e (omega (arith, ended))))
      go (suc k) e = omega (arith, length-law x, ended)
