-- What a cursor has written into its buffer, and what it leaves of it.
use Rattle.std.specs.Prelude.{◌≡◌, ℕ, List, [], ◌++◌, length, take, drop}
use Rattle.std.specs.Borrow.{MutBor}
use Rattle.buffer.specs.declared.Cursor.{Cursor}

abbrev pub written : Cursor → List ℕ
written c = take c.at c.buffer.now

-- what the buffer holds after that
abbrev pub rest : Cursor → List ℕ
rest c = drop c.at c.buffer.now

-- the cursor stands at the start of the buffer
pub record Begins (buffer : MutBor (List ℕ)) (c : Cursor) : Type 0 where
  pub same_reference : c.buffer.ghost_name ≡ buffer.ghost_name
  pub written_is : written c ≡ []
  pub rest_is : rest c ≡ buffer.now

-- xs was written next, over as many bytes, and nothing else has changed
pub record Appends (xs : List ℕ) (old new : Cursor) : Type 0 where
  pub same_reference : new.buffer.ghost_name ≡ old.buffer.ghost_name
  pub written_is : written new ≡ written old ++ xs
  pub rest_is : rest new ≡ drop (length xs) (rest old)
