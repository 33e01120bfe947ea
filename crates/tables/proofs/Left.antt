-- What any `Records` carries of the records that are left.
use Rattle.std.proofs.Common.{◌≡◌, ℕ, ◌≤◌, List, length, take, drop}
use Rattle.std.proofs.lemmas.List.{take-append-drop}
use Rattle.format.specs.Table.{Content, Every}
use Rattle.format.specs.Memory.{WellFormed, table_of}
use Rattle.format.proofs.Every.{every_append}
use Rattle.format.proofs.Memory.{memory-fields}
use Rattle.tables.specs.Formed.{Small}
use Rattle.tables.specs.Records.{records}
use Rattle.tables.specs.declared.fields.Records.{Records}
use Rattle.tables.proofs.Cutting.{of_table}

-- they are a well formed table's from some one on
pub of_records :
    (s : Records)
    → (all : List ℕ) × (n : ℕ) × WellFormed s.text.now s.ends.now all × Small s.text.now s.ends.now all × (records s ≡ drop n (table_of s.text.now s.ends.now all))
of_records s = of_table s.divides s.rest s.small

-- so each has a field
pub fields_left : (s : Records) → Every (λ (cs : List Content). 1 ≤ length cs) (records s)
fields_left s =
    let (all, n, w, small, e) = of_records s in
    let t = table_of s.text.now s.ends.now all in
    rw e (every_append (λ (cs : List Content). 1 ≤ length cs) (take n t) (drop n t) (rw (take-append-drop n t) (memory-fields w))).1
