-- The outcomes of writing a CNF for a refutation, from the numbers of the CNF and of the steps. Assumes nothing.
use mathlib.Core.Path.{◌≡◌, refl, sym, ◌∙◌, ap}
use mathlib.Core.Bool.{true, false}
use mathlib.Core.List.{List}
use Prim.Native.Nat.{ℕ, suc, ◌+◌, ◌<◌, ◌≤◌}
use native.Mathlib.Numerals.{add-one}
use native.Mathlib.Omega.{arith}
use borrow.Author.Tests.{le-leb, lt-leb}
use lib.IntN.{ℤ}
use lib.ListN.{length}
use Rattle.answers.specs.Limits.{variables_limit}
use Rattle.answers.specs.Lists.{all_of, written}
use Rattle.answers.specs.Answers.{Answer, first_failing, first_failing_part, granted, bad_refutation, area_too_small, room_too_small}
use Rattle.clauses.specs.Refutations.{steps_of, refutation_checks, area_checks, judged}
use Rattle.answers.proofs.Answers.{passing, first_failing_passed, number_of, refused_anyway}
use Rattle.clauses.proofs.ReadBack.{clauses_fewer}
use Rattle.meaning.specs.Problem as problems
use Rattle.meaning.specs.Proper.{Proper}
use Rattle.meaning.specs.Cnf.{cnf, cnf_words, variables}
use Rattle.meaning.specs.Calls.{WellFormed, check_problem, preparing_parts}
use Rattle.meaning.proofs.Check.{checked_then, checked_if_well_formed}
use Rattle.meaning.proofs.Ranges.{variables_fit}
use Rattle.meaning.proofs.ReadBack.{cnf_read_back}
use Rattle.counts.specs.declared.Counts.{Counts}
use Rattle.counts.specs.Promise.{counts_of}
use Rattle.problem.specs.declared.Refusal.{Refusal}
use Rattle.problem.specs.declared.Refusal.TheVariants.{BadVersion, BadLength, OutsideLimits, BadReset, BadLiteral, BadNode}
use Rattle.problem.specs.Promise.{refusal_answer}
use Rattle.problem.proofs.Formed.{refused_whatever}
use Rattle.std.specs.Prelude.{Result, Ok, Err, MatchResult}
use Rattle.std.specs.Result.{IsErrAnd}
use Rattle.std.proofs.lemmas.Result.{err_from_is_err_and}
use Rattle.refutation.specs.declared.NotRefuted.{NotRefuted}
use Rattle.refutation.specs.Promise.{StepsCounted}
use Rattle.encoder.specs.declared.NotWritten.TheVariants as not-written
use Rattle.encoder.specs.declared.NotWritten.{NotWritten}
use Rattle.refutation.specs.declared.NotRefuted.TheVariants as not-refuted
use Rattle.checker.specs.declared.Unrefuted.{Unrefuted}
use Rattle.checker.specs.declared.Unrefuted.TheVariants.{Cnf, Refutation}
use Rattle.checker.specs.Preparing.{PreparedFor, PreparedAs}

-- ════════ The steps' number, or the place of a bad word as a refusal ════════

abbrev pub Named : Result ℕ ℕ → Result ℕ NotRefuted → Type 0
Named r m = MatchResult r (λ s. m ≡ Ok s) (λ i. IsErrAnd m (λ e. e ≡ not-refuted.BadRefutation i))

pub steps_told : (v c : ℕ) (ws : List ℤ) (r : Result ℕ ℕ) {m : Result ℕ NotRefuted} {s : ℕ} → StepsCounted v c ws r → Named r m → m ≡ Ok s → StepsCounted v c ws (Ok s)
steps_told v c ws (Ok x) {s = s} said named e = let same : x ≡ s = cc in rw same at said
steps_told v c ws (Err i) {m} said named e = absurd (let p = err_from_is_err_and m named in cc)

place_told : (v c : ℕ) (ws : List ℤ) (r : Result ℕ ℕ) {m : Result ℕ NotRefuted} {f : NotRefuted} → StepsCounted v c ws r → Named r m → m ≡ Err f
    → (i : ℕ) × (f ≡ not-refuted.BadRefutation i) × StepsCounted v c ws (Err i)
place_told v c ws (Ok x) said named e = absurd (cc)
place_told v c ws (Err i) {m} {f} said named e =
    let p = err_from_is_err_and m named in
    let y : p.0 ≡ f = (let q = p.1 in cc) in
    (i, sym y ∙ p.2, said)

-- ════════ The numbers of a good problem's CNF ════════

module _ {p : problems.Problem} (proper : Proper p) {n : Counts} (counted : n ≡ counts_of p) where
  variables_counted : n.variables ≡ variables p
  variables_counted = ap (λ (c : Counts). c.variables) counted

  clauses_counted : n.clauses ≡ length (cnf p)
  clauses_counted = ap (λ (c : Counts). c.clauses) counted

  words_counted : n.words ≡ length (cnf_words p)
  words_counted = ap (λ (c : Counts). c.words) counted

  pub cnf_fits : {m : ℕ} → n.words ≤ m → length (cnf_words p) ≤ m
  cnf_fits h = rw words_counted at h

  pub few_variables : n.variables ≤ variables_limit
  few_variables = rw variables_counted (variables_fit p proper)

  pub fewer_clauses : n.clauses ≤ n.words
  fewer_clauses =
      let back = cnf_read_back p proper in
      rw (clauses_counted, words_counted) (rw back at (clauses_fewer (cnf_words p)))

  -- ════════ Before the CNF is written ════════

  module _ (refutation : List ℤ) (numbers places : ℕ) (room : List ℤ) where
    abbrev Outcome : Result Counts Unrefuted → List ℤ → Type 0
    Outcome = PreparedFor p refutation numbers places room

    pub room_refused : length room < n.words → Outcome (Err (Cnf (not-written.RoomTooSmall n.words))) room
    room_refused h =
        let short = lt-leb (length (cnf_words p)) (length room) (rw words_counted at h) in
        record { answered = λ steps. ap room_too_small words_counted ∙ rw short; room_after = refl; numbered = tt; before_steps = refl }

    module _ (room_there : n.words ≤ length room) where
      -- The room's check passes: those of the words and of the areas are left.
      past_room : (steps : Answer)
          → first_failing (refutation_checks n.variables n.clauses refutation) (first_failing (area_checks n.variables (cnf p) (steps_of refutation) numbers places) steps)
          ≡ first_failing_part (preparing_parts p refutation (length room) numbers places) steps
      past_room steps =
          let long = le-leb (length (cnf_words p)) (length room) (rw words_counted at room_there) in
          rw (long, ← variables_counted, ← clauses_counted)

      pub words_refused : {i : ℕ} → bad_refutation i ≡ first_failing (refutation_checks n.variables n.clauses refutation) (granted (length (steps_of refutation)))
          → Outcome (Err (Refutation (not-refuted.BadRefutation i))) room
      words_refused e = record {
        answered = λ steps.
            refused_anyway (refutation_checks n.variables n.clauses refutation) _ _ e (λ f. let z : ◌≡◌ {A = ℕ} 11 0 = number_of f in omega arith)
            ∙ past_room steps;
        room_after = refl;
        numbered = tt;
        before_steps = refl;
      }

      pub bad_words_refused : (r : Result ℕ ℕ) {m : Result ℕ NotRefuted} {f : NotRefuted} {out : Result Counts Unrefuted}
          → StepsCounted n.variables n.clauses refutation r → Named r m → m ≡ Err f → out ≡ Err (Refutation f) → Outcome out room
      bad_words_refused r said named e is =
          let p = place_told _ _ _ r said named e in
          rw (is, p.1) (words_refused p.2)

      module _ {s : ℕ} (right : (all_of passing (refutation_checks n.variables n.clauses refutation) ≡ true) × (s ≡ length (steps_of refutation))) where
        past_words : (steps : Answer)
            → first_failing (area_checks n.variables (cnf p) (steps_of refutation) numbers places) steps
            ≡ first_failing_part (preparing_parts p refutation (length room) numbers places) steps
        past_words steps = sym (first_failing_passed (refutation_checks n.variables n.clauses refutation) _ right.0) ∙ past_room steps

        sum_is : n.clauses + s ≡ length (cnf p) + length (steps_of refutation)
        sum_is = rw (clauses_counted, right.1)

        pub numbers_refused : numbers < n.variables + 1 → Outcome (Err (Refutation (not-refuted.AreaTooSmall (n.variables + 1)))) room
        unfolding area_checks
        numbers_refused h =
            let short = lt-leb (suc n.variables) numbers (omega arith) in
            record {
              answered = λ steps. ap area_too_small (add-one n.variables) ∙ sym (sym (past_words steps) ∙ rw short);
              room_after = refl;
              numbered = tt;
              before_steps = refl;
            }

        module _ (enough : n.variables + 1 ≤ numbers) where
          pub places_refused : places < n.clauses + s → Outcome (Err (Refutation (not-refuted.AreaTooSmall (n.clauses + s)))) room
          unfolding area_checks
          places_refused h =
              let long = le-leb (suc n.variables) numbers (omega arith) in
              let short = lt-leb (length (cnf p) + length (steps_of refutation)) places (rw sum_is at h) in
              record {
                answered = λ steps. ap area_too_small sum_is ∙ sym (sym (past_words steps) ∙ rw (long, short));
                room_after = refl;
                numbered = tt;
                before_steps = refl;
              }

          pub cnf_prepared : n.clauses + s ≤ places → {after : List ℤ} → after ≡ written (cnf_words p) room → Outcome (Ok n) after
          unfolding area_checks
          cnf_prepared h is =
              let long = le-leb (suc n.variables) numbers (omega arith) in
              let wide = le-leb (length (cnf p) + length (steps_of refutation)) places (rw sum_is at h) in
              record { answered = λ steps. sym (sym (past_words steps) ∙ rw (long, wide)); room_after = is; numbered = counted; before_steps = tt }

-- The numbers that writing answers are those of the CNF.
pub prepared_ok : {p : problems.Problem} {refutation : List ℤ} {numbers places : ℕ} {before after : List ℤ} {n m : Counts} (r : Result Counts NotWritten)
    → r ≡ Ok m → r ≡ Ok (counts_of p) → after ≡ written (cnf_words p) before
    → PreparedFor p refutation numbers places before (Ok n) after → PreparedFor p refutation numbers places before (Ok m) after
prepared_ok {p} {n = n} {m = m} r e d is a = let same : m ≡ counts_of p = cc in record { answered = a.answered; room_after = is; numbered = same; before_steps = tt }

-- A problem's refusal is none of a judged step.
refusal_unchanged : (f : Refusal) → judged (refusal_answer f) ≡ false
refusal_unchanged BadVersion = refl
refusal_unchanged (BadLength n) = refl
refusal_unchanged (OutsideLimits i) = refl
refusal_unchanged (BadReset i) = refl
refusal_unchanged (BadLiteral i) = refl
refusal_unchanged (BadNode i) = refl

-- ════════ The check ════════

module _ {version : ℕ} {ws : List ℕ} {refutation : List ℤ} {numbers places : ℕ} where
  pub prepared_if_good : WellFormed version ws → {before after : List ℤ} {r : Result Counts Unrefuted}
      → PreparedFor (problems.problem version ws) refutation numbers places before r after → PreparedAs version ws refutation numbers places before r after
  prepared_if_good formed {before} a =
      record {
        answered = λ steps.
            a.answered steps
            ∙ sym
            (checked_then version ws (preparing_parts (problems.problem version ws) refutation (length before) numbers places) steps
            ∙ checked_if_well_formed version ws _ formed);
        room_after = a.room_after;
        numbered = a.numbered;
        before_steps = a.before_steps;
      }

  pub prepared_at : {p : problems.Problem} → WellFormed version ws → p ≡ problems.problem version ws → {before after : List ℤ} {r : Result Counts Unrefuted}
      → PreparedFor p refutation numbers places before r after → PreparedAs version ws refutation numbers places before r after
  prepared_at formed same a = prepared_if_good formed (rw same at a)

  pub prepared_if_refused : {f : Refusal} → refusal_answer f ≡ check_problem version ws → (before : List ℤ) → PreparedAs version ws refutation numbers places before (Err (Cnf (not-written.Problem f))) before
  prepared_if_refused {f} refused before = record {
    answered = λ steps.
        refused_whatever version ws f _ refused
        ∙ sym (checked_then version ws (preparing_parts (problems.problem version ws) refutation (length before) numbers places) steps);
    room_after = refl;
    numbered = tt;
    before_steps = refusal_unchanged f;
  }
