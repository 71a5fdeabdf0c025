-- The limits of documents 01 and 02, each under its one name; src/limits.rt has the same as constants. Assumes nothing.
use Rattle.std.specs.Prelude.{ℕ}

-- ════════ A problem ════════

-- "Limits: I and L 0 to 64, A 0 to 1,024, N 1 to 64, k 0 to 31."
unfoldable pub inputs_limit : ℕ
inputs_limit = 64

unfoldable pub latches_limit : ℕ
latches_limit = 64

unfoldable pub gates_limit : ℕ
gates_limit = 1_024

unfoldable pub nodes_limit : ℕ
nodes_limit = 64

unfoldable pub bound_limit : ℕ
bound_limit = 31

-- "a sixth header word D, 0 to 16"
unfoldable pub constraints_limit : ℕ
constraints_limit = 16

-- "If free resets plus I(k+1) are at most 16"
unfoldable pub search_limit : ℕ
search_limit = 16

-- ════════ A bare CNF ════════

-- "any CNF with up to 65,535 variables"
unfoldable pub variables_limit : ℕ
variables_limit = 65_535

-- ════════ The program ════════

-- "Standard input, at most 16,384 bytes"
unfoldable pub job_limit : ℕ
job_limit = 16_384

-- "The program has 8,192 CNF words."
unfoldable pub program_room : ℕ
program_room = 8_192

-- ════════ Texts ════════

-- "O is 0 to 64"
unfoldable pub outputs_limit : ℕ
outputs_limit = 64

-- "numbers .. are at most 2,147,483,647 in size"
unfoldable pub largest_number : ℕ
largest_number = 2_147_483_647

-- "A text has at most 2,147,483,647 bytes."
unfoldable pub longest_text : ℕ
longest_text = 2_147_483_647
