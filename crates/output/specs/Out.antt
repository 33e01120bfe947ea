-- What is out once some bytes have been taken, by the grammar's own reading of those bytes.
use Rattle.std.specs.Prelude.{ℕ, ◌≤◌, ◌≡◌, length, take, replicate}
use mathlib.Core.List.{List, [], ◌++◌, flatten}
use Rattle.format.specs.Table.{Bytes, Content, Table, Every}
use Rattle.format.specs.Dialect.{Dialect}
use Rattle.format.specs.House.{content_limit, Fits}
use Rattle.format.specs.Memory.{lengths}
use Rattle.format.specs.SoFar.{SoFar}

-- text, ends and row ends, as they come out
pub record Out : Type 0 where
  pub text : Bytes
  pub ends : List ℕ
  pub rows : List ℕ

abbrev pub nothing : Out
nothing = record { text = []; ends = []; rows = [] }

-- one after the other
abbrev pub then : Out → Out → Out
then o p = record { text = o.text ++ p.text; ends = o.ends ++ p.ends; rows = o.rows ++ p.rows }

-- all that is closed; and of the field that has begun its content and m of the blanks held, up to the content limit
unfoldable pub out_of : Table → List Content → Content → ℕ → Out
out_of t cs c m =
    record {
      text = flatten (flatten t ++ cs) ++ take content_limit (c ++ replicate m 0x20);
      ends = lengths 0 (flatten t ++ cs);
      rows = lengths 0 t;
    }

-- what is out once f has been taken, and m of the blanks held have come out before it was
pub data CameOut (d : Dialect) (f : Bytes) (m : ℕ) (o : Out) : Type 0 where
  came_out : {n : ℕ} {t : Table} {cs : List Content} {c : Content} → SoFar d f t cs c n → m ≤ n → o ≡ out_of t cs c m → CameOut d f m o

-- contents, each within the limit: all that are closed, and of an open one what is out
pub record Contents (o : Out) : Type 0 where
  pub whole : List Content
  pub last : Content
  pub text_is : o.text ≡ flatten whole ++ last
  pub ends_are : o.ends ≡ lengths 0 whole
  pub fit : Every Fits whole
  pub cut : length last ≤ content_limit
