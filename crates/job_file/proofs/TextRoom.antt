-- Whatever bytes a job has, the text that is printed for it fits the program's room. Assumes nothing.
use Rattle.std.proofs.Common.{Err}
use mathlib.Core.Path.{◌≡◌, refl, sym, ◌∙◌, ap}
use mathlib.Core.Bool.{Bool, true, false, ◌&&◌, cond}
use mathlib.Core.List.{List, [], ◌∷◌}
use Prim.Native.Nat.{ℕ, suc, ◌+◌, ◌-◌, ◌/◌, ◌^◌, ◌≤◌, ◌<◌}
use native.Mathlib.Omega.{arith}
use borrow.Author.Tests.{lt-ltb, ltb-true, leb-true, leb-false, le-leb, eqb-true, eqb-false}
use lib.Dec.{leb, ltb, eqb, lit<}
use lib.IntN.{ℤ, pos, negsuc}
use lib.ListN.{length, take, length-append, length-take}
use lib.Seq.{take_all}
use mir.Syntax.{w32}
use mir.Val.{SFits}
use Rattle.answers.specs.Lists.{all_of}
use Rattle.answers.specs.Limits.{variables_limit, constraints_limit, job_limit, program_room}
use Rattle.answers.specs.Answers.{Answer, Check, first_failing}
use Rattle.clauses.specs.Clauses.{Clause, variable_of, literal_within, Within}
use Rattle.clauses.specs.CnfWords.{ended_by_0, words_of}
use Rattle.answers.proofs.Tests.{both_true, first_true, second_true, all_of_append, all_of_at, all_of_weaker}
use Rattle.answers.proofs.Answers.{number_of, passing, first_failing_passed, all_pass_if_yes}
use Rattle.text.proofs.Decimals.{length_within}
use Rattle.meaning.specs.Problem.{Problem, problem, Outline, outline, latch_place, gate_place, constraint_place, node_place, words_in_all, children}
use Rattle.meaning.specs.Check.{header_checks, limit_checks, length_checks, latch_checks, gate_checks, constraint_checks, node_checks, each_below}
use Rattle.meaning.specs.Proper.{Proper}
use Rattle.meaning.specs.Cnf.{cnf, cnf_words, variables}
use Rattle.meaning.specs.Calls.{check_parts, WellFormed, room_checks, write_cnf}
use Rattle.job_file.specs.JobFile.{job_header, job_version, job_words, job_checks, job_answer, job_problem, cnf_text, refusal_line, printed}
use Rattle.meaning.proofs.Check.{passes_at, problem_checked, well_formed_if_all_pass, proper_if_well_formed}
use Rattle.meaning.proofs.Calls.{write_cnf_is}
use Rattle.job_file.proofs.JobOrder.{job_answer_is}
use Rattle.meaning.proofs.ItemByItem.{◌and◌, all_of_joined}
use Rattle.meaning.proofs.Numbers.{all_of_each_below}
use Rattle.meaning.proofs.Ranges.{literals_within, variables_fit}
use Rattle.meaning.proofs.AllLimits.{largest_if_proper}
use Rattle.job_file.specs.Text.{text_limit}
use Rattle.job_file.specs.Promise.{Prints}
use Rattle.job_file.proofs.JobChecks.{at_too_long, job_checks_refusing}
use Rattle.job_file.proofs.ReadWords.{length_words}
use Rattle.job_file.proofs.Prints.{short_without_room}
use Rattle.job_file.proofs.TextLengths.{length_refusal, All32Bits, flat_within}
use Rattle.job_file.proofs.FlatText.{text_of_cnf}
use Rattle.job_file.proofs.WriteCnf.{well_if_written, fits_if_written}
use Rattle.job_file.proofs.PrintJob.{text_if_refused, text_if_yes, text_if_bad}

-- ════════ A refusal's number and place ════════

-- Above every place that the program can print; the line's room is far larger.
abbrev place_limit : ℕ
place_limit = 2 ^ 32

record LowAnswer (a : Answer) : Type 0 where
  pub number_low : a.number < 16
  pub place_low : a.place < place_limit

abbrev low : Check → Bool
low c = ltb c.otherwise.number 16 && ltb c.otherwise.place place_limit

low_if : (c : Check) → low c ≡ true → LowAnswer c.otherwise
low_if c e = record {
  number_low = ltb-true _ _ (first_true (ltb c.otherwise.number 16) _ e);
  place_low = ltb-true _ _ (second_true (ltb c.otherwise.number 16) _ e);
}

-- Where every check answers low, and what comes after them too, so does the first that fails.
first_failing_low : (cs : List Check) (after : Answer) → all_of low cs ≡ true → (all_of passing cs ≡ true → LowAnswer after)
    → LowAnswer (first_failing cs after)
first_failing_low [] after e h = h refl
first_failing_low (c ∷ cs) after e h = go c.passes refl (first_failing_low cs after (second_true (low c) (all_of low cs) e))
  where
    go : (b : Bool) → c.passes ≡ b → ((all_of passing cs ≡ true → LowAnswer after) → LowAnswer (first_failing cs after))
        → LowAnswer (cond b (first_failing cs after) c.otherwise)
    go true p later = later (λ q. h (both_true p q))
    go false p later = low_if c (first_true (low c) (all_of low cs) e)

-- ════════ The words of a CNF ════════

abbrev word_low : ℕ → ℤ → Bool
word_low v w = leb (variable_of w) v

words_low : (v : ℕ) (cs : List Clause) → Within v cs → all_of (word_low v) (words_of cs) ≡ true
words_low v [] e = refl
words_low v (c ∷ cs) e =
    let within = first_true (all_of (literal_within v) c) _ e in
    let literals : all_of (word_low v) c ≡ true = all_of_weaker (literal_within v) (word_low v) (λ w. second_true (leb 1 (variable_of w)) _) c within in
    rw (all_of_append, all_of_append)
    (both_true (both_true literals (both_true (le-leb 0 v (omega arith)) refl))
    (words_low v cs (second_true (all_of (literal_within v) c) _ e)))

word_fits : (v : ℕ) (w : ℤ) → v ≤ variables_limit → word_low v w ≡ true → SFits w32 w
unfolding variables_limit
word_fits v (pos n) h e = omega (arith, leb-true n v e)
word_fits v (negsuc n) h e = omega (arith, leb-true (suc n) v e)

clauses_within_words : (cs : List Clause) → length cs ≤ length (words_of cs)
clauses_within_words [] = omega arith
clauses_within_words (c ∷ cs) =
    omega (arith, clauses_within_words cs, length-append (ended_by_0 c) (words_of cs), length-append c (pos 0 ∷ []))

clauses_by_words : (p : Problem) → length (cnf p) ≤ length (cnf_words p)
unfolding cnf_words
clauses_by_words p = clauses_within_words (cnf p)

module _ (p : Problem) (proper : Proper p) where
  variables_small : variables p < 2 ^ 32
  unfolding variables_limit
  variables_small = omega (arith, variables_fit p proper)

  words_fit : All32Bits (cnf_words p)
  unfolding cnf_words
  words_fit i h =
      let all = words_low (variables p) (cnf p) (literals_within p proper) in
      word_fits (variables p) _ (variables_fit p proper) (all_of_at (word_low (variables p)) (words_of (cnf p)) i (pos 0) all h)

  cnf_fits : length (cnf_words p) ≤ program_room → length (cnf_text (variables p) (cnf p)) ≤ text_limit
  unfolding text_limit program_room
  cnf_fits h =
      let clauses : length (cnf p) < 2 ^ 32 = omega (arith, clauses_by_words p) in
      let within = flat_within (variables p) (length (cnf p)) (cnf_words p) variables_small clauses words_fit in
      rw (← text_of_cnf p proper) (omega arith)

  words_few : length (cnf_words p) < place_limit
  unfolding constraints_limit
  words_few = omega (arith, largest_if_proper p proper, proper.constraints_within)

-- ════════ The answer to words ════════

module _ (version : ℕ) (ws : List ℕ) (few : length ws ≤ job_limit) where
  abbrev o : Outline
  o = outline version ws

  length_low : ltb (length ws) place_limit ≡ true
  unfolding job_limit
  length_low = lt-ltb (length ws) place_limit (omega arith)

  -- Where the words are as many as the outline says, each place is one of them.
  module _ (all : length ws ≡ words_in_all o) where
    latch_low : (i : ℕ) → i < o.latches → all_of low (latch_checks o ws i) ≡ true
    unfolding job_limit
    latch_low i l =
        both_true (lt-ltb (latch_place o i) _ (omega arith))
        (both_true (lt-ltb (latch_place o i + 1) _ (omega arith)) refl)

    gate_low : (j : ℕ) → j < o.gates → all_of low (gate_checks o ws j) ≡ true
    unfolding job_limit
    gate_low j l =
        both_true (lt-ltb (gate_place o j) _ (omega arith))
        (both_true (lt-ltb (gate_place o j + 1) _ (omega arith)) refl)

    constraint_low : (c : ℕ) → c < o.constraints → all_of low (constraint_checks o ws c) ≡ true
    unfolding job_limit
    constraint_low c l = both_true (lt-ltb (constraint_place o c) _ (omega arith)) refl

    node_low : (n : ℕ) → n < o.written_nodes → all_of low (node_checks children o ws n) ≡ true
    unfolding job_limit
    node_low n l =
        both_true (lt-ltb (node_place o n) _ (omega arith))
        (both_true (lt-ltb (node_place o n + 1) _ (omega arith))
        (both_true (lt-ltb (node_place o n + 2) _ (omega arith)) refl))

  checked_low : (after : Answer) → (WellFormed version ws → LowAnswer after) → LowAnswer (problem_checked version ws after)
  unfolding problem_checked
  checked_low after h =
      first_failing_low (header_checks version ws) _ (rw length_low) λ header.
      first_failing_low (limit_checks version ws) _ refl λ limits.
      first_failing_low (length_checks o ws) _ (rw length_low) λ lengths.
      let all = eqb-true _ _ (passes_at (length_checks o ws) 0 lengths (lit< tt)) in
      first_failing_low (each_below o.latches (latch_checks o ws)) _ (all_of_each_below low _ _ (latch_low all)) λ latches.
      first_failing_low (each_below o.gates (gate_checks o ws)) _ (all_of_each_below low _ _ (gate_low all)) λ gates.
      first_failing_low (each_below o.constraints (constraint_checks o ws)) _ (all_of_each_below low _ _ (constraint_low all)) λ constraints.
      first_failing_low (each_below o.written_nodes (node_checks children o ws)) _ (all_of_each_below low _ _ (node_low all)) λ nodes.
      h
      (well_formed_if_all_pass version ws
      ((all_of_joined passing (check_parts version ws)).1 (header and limits and lengths and latches and gates and constraints and nodes and tt)))

  write_low : (room : ℕ) → LowAnswer (write_cnf version ws room)
  write_low room =
      let p = problem version ws in
      rw (write_cnf_is)
      (checked_low _ λ well.
      let words = words_few p (proper_if_well_formed version ws well) in
      first_failing_low (room_checks p room) _ (both_true (lt-ltb _ _ words) refl) λ e.
      record { number_low = omega arith; place_low = words })

-- ════════ The text of a job ════════

refusal_fits : (a : Answer) → LowAnswer a → length (refusal_line a) ≤ text_limit
unfolding refusal_line text_limit program_room
refusal_fits a h =
    let number = length_within 9 a.number (omega arith) in
    let place = length_within 9 a.place (omega arith) in
    omega (arith, length_refusal a.number a.place)

module _ (bs : List ℕ) where
  answer_low : LowAnswer (job_answer bs)
  unfolding job_checks job_words job_limit
  answer_low = go (leb (length bs) job_limit) refl
    where
      go : (b : Bool) → leb (length bs) job_limit ≡ b → LowAnswer (job_answer bs)
      go true e =
          let short = leb-true (length bs) job_limit e in
          let low_length : ltb (length bs) place_limit ≡ true = lt-ltb (length bs) place_limit (omega arith) in
          let few : length (job_words bs) ≤ job_limit = omega (arith, length_words bs ((length bs - job_header) / 4)) in
          rw (job_answer_is)
          (first_failing_low (job_checks bs) _ (rw low_length) λ passed. write_low (job_version bs) (job_words bs) few program_room)
      go false e = rw (job_answer_is, e) (record { number_low = omega arith; place_low = omega arith })

  text_fits : (job_answer bs).number ≡ 0 → length (cnf_text (variables (job_problem bs)) (cnf (job_problem bs))) ≤ text_limit
  text_fits e =
      let yes-said = number_of (sym (job_answer_is bs)) ∙ e in
      let passed = all_pass_if_yes (job_checks bs) _ (job_checks_refusing bs) yes-said in
      let yes = number_of (sym (first_failing_passed (job_checks bs) _ passed)) ∙ yes-said in
      let well = well_if_written (job_version bs) (job_words bs) program_room yes in
      let fits = fits_if_written (job_version bs) (job_words bs) program_room yes in
      cnf_fits (job_problem bs) (proper_if_well_formed _ _ well) fits.1

  -- So a program that lends this many bytes prints every text whole.
  pub printed_fits : length (printed bs) ≤ text_limit
  printed_fits = go (eqb (job_answer bs).number 0) refl
    where
      go : (b : Bool) → eqb (job_answer bs).number 0 ≡ b → length (printed bs) ≤ text_limit
      go true e = let yes = eqb-true _ _ e in rw (text_if_yes bs yes) (text_fits yes)
      go false e = rw (text_if_refused bs (eqb-false _ _ e) refl) (refusal_fits (job_answer bs) answer_low)

-- ════════ The program ════════

pub never_short : (bs : List ℕ) {out : List ℕ} {n : ℕ} {out' : List ℕ} → text_limit ≤ length out
    → Prints (printed bs) out (Err n) out' → ⊥
never_short bs room p = omega (arith, printed_fits bs, short_without_room p)

-- To read one byte more than a job may have is enough: what is printed for the first bytes is printed for all.
pub printed_of_first : (bs : List ℕ) → printed (take (job_limit + 1) bs) ≡ printed bs
printed_of_first bs = go (leb (length bs) job_limit) refl
  where
    go : (b : Bool) → leb (length bs) job_limit ≡ b → printed (take (job_limit + 1) bs) ≡ printed bs
    go true e = ap printed (take_all (job_limit + 1) bs (omega (arith, leb-true (length bs) job_limit e)))
    go false e =
        let long : job_limit < length bs = leb-false _ _ e in
        let first_long : job_limit < length (take (job_limit + 1) bs) = omega (arith, length-take (job_limit + 1) bs) in
        text_if_bad (take (job_limit + 1) bs) (λ z. omega arith) (sym (at_too_long (take (job_limit + 1) bs) first_long))
        ∙ sym (text_if_bad bs (λ z. omega arith) (sym (at_too_long bs long)))
