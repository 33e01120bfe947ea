-- Many bytes at once in the second walk: runs that are put.
use Prim.Native.Nat.{ℕ, zero, suc, ◌+◌, ◌≤◌, ◌<◌}
use native.Mathlib.Numerals.{add-one}
use native.Mathlib.Omega.{arith}
use mathlib.Core.Path.{◌≡◌, ap, ◌∙◌}
use mathlib.Core.Bool.{Bool, true}
use mathlib.Core.List.{List, [], ◌∷◌, ◌++◌}
use lib.ListN.{length, get_or, take, drop}
use lib.Seq.{drop-cons}
use Rattle.format.specs.Table.{Bytes}
use Rattle.format.specs.Dialect.{lf, Dialect, class_of}
use Rattle.steps.specs.Steps.{Form, put, go, step_of}
use Rattle.runs.specs.Runs.{run}
use Rattle.runs.proofs.Runs.{run-le, run-first}
use Rattle.fill.specs.Fill.{text_left, ends_left, rows_left}

-- m bytes that are put, one by one: from a form among some to the form j, which is one of them
module _
    (d : Dialect) (p : ℕ → Bool) (Some : Form → Type 0) (j : Form) (o : Some j)
    (puts : (k : Form) → Some k → (b : ℕ) → p b ≡ true → step_of (d.allows lf) k (class_of d b) ≡ go j put)
  where
    pub text-run :
        (m : ℕ) (l rest : Bytes) → m ≤ run p l → ((k : Form) → Some k → text_left d (drop m l) k 0 ≡ rest)
        → (k : Form) → Some k → text_left d l k 0 ≡ take m l ++ rest
    unfolding text_left
    text-run zero l rest h e k s = e k s
    text-run (suc m) [] rest h e k s = absurd (omega (arith, run-le p []))
    text-run (suc m) (b ∷ l) rest h e k s =
        let q = run-first p b m l h in
        rw (puts k s b q.0) (ap (λ (x : Bytes). b ∷ x) (text-run m l rest q.1 e j o))

    pub ends-run :
        (w : Bool) (m : ℕ) (l : Bytes) (n : ℕ) (rest : List ℕ) → m ≤ run p l → ((k : Form) (u : Bool) → Some k → ends_left w d (drop m l) k 0 (n + m) u ≡ rest)
        → (k : Form) (u : Bool) → Some k → ends_left w d l k 0 n u ≡ rest
    unfolding ends_left
    ends-run w zero l n rest h e k u s = let z : n + 0 ≡ n = omega arith in rw z at (e k u s)
    ends-run w (suc m) [] n rest h e k u s = absurd (omega (arith, run-le p []))
    ends-run w (suc m) (b ∷ l) n rest h e k u s =
        let q = run-first p b m l h in
        let z : n + suc m ≡ n + 0 + 1 + m = omega arith in
        rw (puts k s b q.0) (ends-run w m l (n + 0 + 1) rest q.1 (λ k u s. rw z at (e k u s)) j true o)

    pub rows_run :
        (w : Bool) (m : ℕ) (l : Bytes) (n : ℕ) (rest : List ℕ) → m ≤ run p l → ((k : Form) (u : Bool) → Some k → rows_left w d (drop m l) k n u ≡ rest)
        → (k : Form) (u : Bool) → Some k → rows_left w d l k n u ≡ rest
    unfolding rows_left
    rows_run w zero l n rest h e k u s = e k u s
    rows_run w (suc m) [] n rest h e k u s = absurd (omega (arith, run-le p []))
    rows_run w (suc m) (b ∷ l) n rest h e k u s =
        let q = run-first p b m l h in
        rw (puts k s b q.0) (rows_run w m l n rest q.1 e j true o)

-- the next two bytes
pub two_at : (f : Bytes) (i : ℕ) {x y : ℕ} → i + 1 < length f → get_or f i 0 ≡ x → get_or f (i + 1) 0 ≡ y → drop i f ≡ x ∷ (y ∷ drop (i + 2) f)
two_at f i v e₁ e₂ =
    let e₂' = rw add-one at e₂ in
    let z : suc (suc i) ≡ i + 2 = omega arith in
    drop-cons f i 0 (omega arith) ∙ rw (e₁, drop-cons f (suc i) 0 (omega arith), e₂', z)
