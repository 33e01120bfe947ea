-- The three lent buffers, and what they hold.
use Rattle.std.specs.Prelude.{ℕ, ◌≡◌, List}
use Rattle.fill.specs.declared.Buffers.{Buffers}

-- a text, ends and rows
pub record Lists : Type 0 where
  pub text : List ℕ
  pub ends : List ℕ
  pub rows : List ℕ

abbrev pub lists : Buffers → Lists
lists b = record { text = b.text.now; ends = b.ends.now; rows = b.rows.now }

-- each is lent by the one that lent it before
pub record SameBuffers (old new : Buffers) : Type 0 where
  pub same_text : new.text.ghost_name ≡ old.text.ghost_name
  pub same_ends : new.ends.ghost_name ≡ old.ends.ghost_name
  pub same_rows : new.rows.ghost_name ≡ old.rows.ghost_name
