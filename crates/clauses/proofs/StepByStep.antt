-- What the judge's answers say of one step, by its number. Assumes nothing.
use mathlib.Core.Path.{◌≡◌, refl, sym, ◌∙◌, ap}
use mathlib.Core.Bool.{Bool, true, false, not, cond}
use mathlib.Core.List.{List, [], ◌∷◌}
use mathlib.Core.Option.{some}
use Prim.Native.Nat.{ℕ, zero, suc, ◌+◌, ◌<◌, zero-le, suc-le-suc}
use native.Mathlib.Nat.{le_of_suc-le-suc, lt_of_lt_of_le, not-suc-le-zero, add-zero, zero-add}
use native.Mathlib.Omega.{arith}
use lib.IntN.{ℤ}
use lib.Dec.{eqb}
use lib.ListN.{length, get_or, take, length-append}
use lib.Seq.{get_or-append_seam}
use Rattle.answers.specs.Lists.{all_of}
use Rattle.answers.specs.Answers.{Answer, answer, first_failing, granted, step_refused, not_closed}
use Rattle.clauses.specs.Clauses.{Clause}
use Rattle.clauses.specs.CnfWords.{clauses_of, cnf_checks}
use Rattle.clauses.specs.Refutations.{Step, step, steps_of, step_accepted, clause_numbered, with_step, refutation_checks, area_checks, step_checks, closing_checks, judge_steps, judge_cnf}
use Rattle.answers.proofs.Tests.{first_true, second_true}
use Rattle.clauses.proofs.Lookups.{numbered_some}
use Rattle.answers.proofs.Answers.{number_of, place_of, passing, first_failing_passed, passed_by_number, after_by_number, number_after}
use Rattle.clauses.proofs.Judges.{cnf_checks_other, refutation_checks_other, area_checks_other, step_checks_other, cnf_judged, clauses_judged}
use Rattle.clauses.proofs.Derivations.{clauses_after_all, extends_after_all}

-- Step i, and the clauses that its hints can name: the given ones, and those of the steps before it.
abbrev pub step_at : List Step → ℕ → Step
step_at ss i = get_or ss i (step [] [])

abbrev pub clauses_before : List Clause → List Step → ℕ → List Clause
clauses_before cs ss i = clauses_after_all cs (take i ss)

-- Whether the rule accepts it.
abbrev pub accepted_at : List Clause → List Step → ℕ → Bool
accepted_at cs ss i = step_accepted (clause_numbered (clauses_before cs ss i)) (step_at ss i)

-- "adds its clause under its number": to the hints of each step after it step i's clause has the number after the given ones and the i steps before.
pub step_numbered : (cs : List Clause) (ss : List Step) (i j : ℕ) → i < j → i < length ss
    → clause_numbered (clauses_before cs ss j) (suc (length cs + i)) ≡ some (step_at ss i).clause
step_numbered cs ss i zero l k = absurd (not-suc-le-zero l)
step_numbered cs [] i (suc j) l k = absurd (not-suc-le-zero k)
step_numbered cs (s ∷ ss) zero (suc j) l k =
    let more = extends_after_all (with_step cs s) (take j ss) in
    let there : length cs < length (with_step cs s) = rw length-append (omega arith) in
    rw (add-zero (length cs), numbered_some _ (length cs) (lt_of_lt_of_le there more.longer), more.kept (length cs) there, get_or-append_seam)
step_numbered cs (s ∷ ss) (suc i) (suc j) l k =
    let place : length (with_step cs s) + i ≡ length cs + suc i = rw length-append (omega arith) in
    rw place at (step_numbered (with_step cs s) ss i j (le_of_suc-le-suc l) (le_of_suc-le-suc k))

-- ════════ The checks of steps ════════

all_accepted : (cs : List Clause) (j : ℕ) (ss : List Step) → all_of passing (step_checks cs j ss) ≡ true
    → (i : ℕ) → i < length ss → accepted_at cs ss i ≡ true
all_accepted cs j [] e i l = absurd (not-suc-le-zero l)
all_accepted cs j (s ∷ ss) e zero l = first_true (step_accepted (clause_numbered cs) s) _ e
all_accepted cs j (s ∷ ss) e (suc i) l =
    all_accepted (with_step cs s) (suc j) ss (second_true (step_accepted (clause_numbered cs) s) _ e) i (le_of_suc-le-suc l)

-- Step `number` is the first that the rule refuses; its place is counted from j.
record FirstRefused (cs : List Clause) (j : ℕ) (ss : List Step) (place : ℕ) : Type 0 where
  number : ℕ
  there : number < length ss
  counted : place ≡ j + number
  before : (h : ℕ) → h < number → accepted_at cs ss h ≡ true
  refused : accepted_at cs ss number ≡ false

first_refused : (cs : List Clause) (j : ℕ) (ss : List Step) (after : Answer) (place : ℕ) → (after.number ≡ 13 → ⊥)
    → first_failing (step_checks cs j ss) after ≡ step_refused place → FirstRefused cs j ss place
first_refused cs j [] after place n e = absurd (n (number_of e))
first_refused cs j (s ∷ ss) after place n e =
    go (step_accepted (clause_numbered cs) s) refl e (first_refused (with_step cs s) (suc j) ss after place n)
  where
    go : (b : Bool) → step_accepted (clause_numbered cs) s ≡ b
        → cond b (first_failing (step_checks (with_step cs s) (suc j) ss) after) (step_refused j) ≡ step_refused place
        → (first_failing (step_checks (with_step cs s) (suc j) ss) after ≡ step_refused place → FirstRefused (with_step cs s) (suc j) ss place)
        → FirstRefused cs j (s ∷ ss) place
    go true p f later =
        let r = later f in
        record {
          number = suc r.number;
          there = suc-le-suc r.there;
          counted = omega (arith, r.counted);
          before = passed r.number r.before;
          refused = r.refused;
        }
      where
        passed : (m : ℕ) → ((h : ℕ) → h < m → accepted_at (with_step cs s) ss h ≡ true) → (h : ℕ) → h < suc m → accepted_at cs (s ∷ ss) h ≡ true
        passed m b zero l = p
        passed m b (suc h) l = b h (le_of_suc-le-suc l)
    go false p f later = record {
      number = 0;
      there = suc-le-suc zero-le;
      counted = sym (place_of f) ∙ sym (add-zero j);
      before = λ h l. absurd (not-suc-le-zero l);
      refused = p;
    }

refused_there : (cs : List Clause) (j : ℕ) (ss : List Step) (after : Answer) (i : ℕ) → i < length ss
    → ((h : ℕ) → h < i → accepted_at cs ss h ≡ true) → accepted_at cs ss i ≡ false
    → first_failing (step_checks cs j ss) after ≡ step_refused (j + i)
refused_there cs j [] after i l b r = absurd (not-suc-le-zero l)
refused_there cs j (s ∷ ss) after zero l b r = rw (r, add-zero j)
refused_there cs j (s ∷ ss) after (suc i) l b r =
    let place : suc j + i ≡ j + suc i = omega arith in
    rw (b 0 (suc-le-suc zero-le), ← place)
    (refused_there (with_step cs s) (suc j) ss after i (le_of_suc-le-suc l) (λ h k. b (suc h) (suc-le-suc k)) r)

-- ════════ The judge ════════

-- 16, 11 and 12 pass.
abbrev pub Reached : ℕ → List ℤ → List ℤ → ℕ → ℕ → Type 0
Reached variables cnf ws m n =
    (all_of passing (cnf_checks variables cnf) ≡ true)
    × (all_of passing (refutation_checks variables (length (clauses_of cnf)) ws) ≡ true)
    × (all_of passing (area_checks variables (clauses_of cnf) (steps_of ws) m n) ≡ true)

module _ (variables : ℕ) (cnf ws : List ℤ) (m n : ℕ) where
  abbrev cs : List Clause
  cs = clauses_of cnf

  abbrev ss : List Step
  ss = steps_of ws

  -- Where no check of 16, 11 and 12 has the number, the judge of steps gives the answer.
  module _ (k : ℕ) (no-16 : not (eqb 16 k) ≡ true) (no-11 : not (eqb 11 k) ≡ true) (no-12 : not (eqb 12 k) ≡ true) where
    by_steps : {p : ℕ} → judge_cnf variables cnf ws m n ≡ answer k p → judge_steps cs ss ≡ answer k p
    by_steps e =
        let past_16 = after_by_number k (cnf_checks variables cnf) _ (cnf_checks_other k no-16 variables cnf) (sym (cnf_judged variables cnf ws m n) ∙ e) in
        let past_11 = after_by_number k (refutation_checks variables _ ws) _ (refutation_checks_other k no-11 variables _ ws)
        (sym (clauses_judged variables cs ws m n) ∙ past_16) in
        after_by_number k (area_checks variables _ _ m n) _ (area_checks_other k no-12 variables _ _ m n) past_11

    -- An answer that is not 13 either comes where each step is accepted.
    accepts : not (eqb 13 k) ≡ true → {p : ℕ} → judge_cnf variables cnf ws m n ≡ answer k p → (i : ℕ) → i < length ss → accepted_at cs ss i ≡ true
    unfolding judge_steps
    accepts no-13 e = all_accepted cs 0 ss (passed_by_number k (step_checks cs 0 ss) _ (step_checks_other k no-13 cs 0 ss) (number_of (by_steps e)))

  -- Yes, and 14.
  pub yes_accepts : judge_cnf variables cnf ws m n ≡ granted 0 → (i : ℕ) → i < length ss → accepted_at cs ss i ≡ true
  yes_accepts = accepts 0 refl refl refl refl

  pub open_accepts : (p : ℕ) → judge_cnf variables cnf ws m n ≡ not_closed p → (i : ℕ) → i < length ss → accepted_at cs ss i ≡ true
  open_accepts p = accepts 14 refl refl refl refl

  -- 13 at i is of a step that the rule refuses, and those before it are accepted.
  pub refused_at : (i : ℕ) → judge_cnf variables cnf ws m n ≡ step_refused i
      → ((h : ℕ) → h < i → accepted_at cs ss h ≡ true) × (accepted_at cs ss i ≡ false)
  unfolding judge_steps
  refused_at i e =
      let r = first_refused cs 0 ss _ i not_13 (by_steps 13 refl refl refl e) in
      let is : i ≡ r.number = omega (arith, r.counted) in
      rw is (r.before, r.refused)
    where
      not_13 : (first_failing (closing_checks ss) (granted 0)).number ≡ 13 → ⊥
      not_13 f = let z : ◌≡◌ {A = ℕ} 0 13 = number_after 13 (closing_checks ss) (granted 0) refl f in omega arith

  -- And such a step is answered so.
  pub answered_13 : Reached variables cnf ws m n → (i : ℕ) → i < length ss
      → ((h : ℕ) → h < i → accepted_at cs ss h ≡ true) → accepted_at cs ss i ≡ false → judge_cnf variables cnf ws m n ≡ step_refused i
  unfolding judge_cnf
  answered_13 r i l before refused =
      first_failing_passed (cnf_checks variables cnf) _ r.0
      ∙ first_failing_passed (refutation_checks variables (length cs) ws) _ r.1
      ∙ first_failing_passed (area_checks variables cs ss m n) _ r.2
      ∙ refused_there cs 0 ss _ i l before refused
      ∙ ap step_refused (zero-add i)
