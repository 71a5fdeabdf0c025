-- Document 01's thirteen cases: each problem has as many witnesses as its case says. Assumes nothing.
use mathlib.Core.Path.{◌≡◌, refl, sym, ◌∙◌, ap}
use mathlib.Core.List.{List, map, Memᴰ}
use lib.ListN.{length, get_or, drop}
use Rattle.answers.specs.Answers.{granted}
use Rattle.meaning.specs.Problem.{Problem, problem}
use Rattle.meaning.specs.Cases.{Case, thirteen_cases, thirteen_are_formed, thirteen_counts}
use Rattle.meaning.specs.Calls.{check_problem, WellFormed, witnesses}
use Rattle.pairing.specs.Bounds.{Counted}
use Rattle.pairing.proofs.ListedWitnesses.{listed_is_witness, listed_once}

-- The list of witnesses counts them.
pub counted : (p : Problem) → Counted p (length (witnesses p))
counted p = record {
  list = witnesses p;
  exactly = listed_is_witness p;
  once = listed_once p;
  length_is = refl;
}

-- Two maps that agree on a list agree at each member.
same_at_member : {A B : Type 0} (d : B) (f g : A → B) {x : A} {xs : List A} → Memᴰ x xs → map f xs ≡ map g xs → f x ≡ g x
same_at_member d f g (Memᴰ.head p) e = ap f p ∙ ap (λ ys. get_or ys 0 d) e ∙ ap g (sym p)
same_at_member d f g (Memᴰ.tail m) e = same_at_member d f g m (ap (drop 1) e)

-- Each of the thirteen is well formed, and its problem has exactly the witnesses of a list, each once, and as many as the case says.
pub thirteen : (c : Case) → Memᴰ c thirteen_cases → WellFormed 1 c.words × Counted (problem 1 c.words) c.count
thirteen c m = (formed, rw (← as_many) (counted (problem 1 c.words)))
  where
    formed : WellFormed 1 c.words
    formed = same_at_member (granted 0) (λ (d : Case). check_problem 1 d.words) (λ (d : Case). granted 0) m thirteen_are_formed

    as_many : length (witnesses (problem 1 c.words)) ≡ c.count
    as_many = same_at_member 0 (λ (d : Case). length (witnesses (problem 1 d.words))) (λ (d : Case). d.count) m thirteen_counts
