-- Document 01, of lent buffers: what stays of one, whatever a call answers. Assumes nothing.
use Rattle.std.specs.Prelude.{List, ◌≡◌, ℕ, length, drop}

-- "Words and bytes past the written or needed part never change": the buffer keeps its length, and what stands past so many words.
pub record KeptPast {A : Type 0} (needed : ℕ) (before after : List A) : Type 0 where
  pub same_length : length after ≡ length before
  pub past : drop needed after ≡ drop needed before
