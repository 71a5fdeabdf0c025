-- What is said of a CNF is said of its items, one after the other. Assumes nothing.
use mathlib.Core.Path.{◌≡◌, refl, ◌∙◌, ap}
use mathlib.Core.Logic.{◌↔◌}
use mathlib.Core.Bool.{Bool, true}
use mathlib.Core.List.{List, [], ◌∷◌, ◌++◌, map}
use Prim.Native.Nat.{ℕ, ◌+◌}
use native.Mathlib.Omega.{arith}
use lib.ListN.{length}
use Rattle.answers.specs.Lists.{all_of, joined, sum}
use Rattle.clauses.specs.Clauses.{Clause, Assignment, clause_true, literal_within, Satisfies, Within}
use Rattle.clauses.specs.CnfWords.{ended_by_0, words_of}
use Rattle.answers.proofs.Tests.{both_true, all_of_append, all_of_first, all_of_second}
use Rattle.meaning.specs.Problem.{Problem}
use Rattle.meaning.specs.Cnf.{cnf_items, cnf, cnf_words}
use Rattle.meaning.proofs.Numbers.{each_append}

-- ════════ One line for each element ════════

-- P holds of each element.
abbrev pub Every : {A : Type 0} → (A → Type 0) → List A → Type 0
Every P [] = Unit
Every P (x ∷ xs) = P x × Every P xs

-- Of the first element, and of those after it.
infixr 5 ◌and◌
abbrev pub ◌and◌ : {A B : Type 0} → A → B → A × B
a and b = (a, b)

-- Two lists are one, element by element.
infixr 5 ◌∷≡◌
pub ◌∷≡◌ : {A : Type 0} {x y : A} {xs ys : List A} → x ≡ y → xs ≡ ys → x ∷ xs ≡ y ∷ ys
p ∷≡ q = rw (p, q)

-- ════════ Any list of items ════════

module _ {A : Type 0} (f : A → Bool) where
  pub all_of_joined : (xss : List (List A)) → (all_of f (joined xss) ≡ true) ↔ Every (λ xs. all_of f xs ≡ true) xss
  all_of_joined [] = (λ e. tt, λ e. refl)
  all_of_joined (xs ∷ xss) =
      let later = all_of_joined xss in (
        λ e. (all_of_first f xs (joined xss) e, later.0 (all_of_second f xs (joined xss) e)),
        λ h. rw all_of_append (both_true h.0 (later.1 h.1)),
      )

-- An assignment satisfies them all exactly if it satisfies each.
pub satisfies_joined : (a : Assignment) (items : List (List Clause)) → Satisfies a (joined items) ↔ Every (Satisfies a) items
satisfies_joined a = all_of_joined (clause_true a)

-- Their literals are within v exactly if those of each are.
pub within_joined : (v : ℕ) (items : List (List Clause)) → Within v (joined items) ↔ Every (Within v) items
within_joined v = all_of_joined (all_of (literal_within v))

-- Their words are those of each, joined.
pub words_append : (cs ds : List Clause) → words_of (cs ++ ds) ≡ words_of cs ++ words_of ds
words_append cs ds = each_append cs ds ended_by_0

pub words_joined : (items : List (List Clause)) → words_of (joined items) ≡ joined (map words_of items)
words_joined [] = refl
words_joined (cs ∷ items) = words_append cs (joined items) ∙ ap (λ ws. words_of cs ++ ws) (words_joined items)

-- What clauses weigh, each by its length.
abbrev pub total : (ℕ → ℕ) → List Clause → ℕ
total w [] = 0
total w (c ∷ cs) = w (length c) + total w cs

module _ (w : ℕ → ℕ) where
  pub total_append : (xs ys : List Clause) → total w (xs ++ ys) ≡ total w xs + total w ys
  total_append [] ys = omega arith
  total_append (x ∷ xs) ys = rw (total_append xs ys) (omega arith)

  -- They weigh what each weighs, summed.
  pub total_joined : (items : List (List Clause)) → total w (joined items) ≡ sum (map (total w) items)
  total_joined [] = refl
  total_joined (cs ∷ items) = total_append cs (joined items) ∙ rw (total_joined items)

-- ════════ The CNF ════════

module _ (p : Problem) where
  pub satisfied_by_items : (a : Assignment) → Satisfies a (cnf p) ↔ Every (Satisfies a) (cnf_items p)
  unfolding cnf
  satisfied_by_items a = satisfies_joined a (cnf_items p)

  pub within_by_items : (v : ℕ) → Within v (cnf p) ↔ Every (Within v) (cnf_items p)
  unfolding cnf
  within_by_items v = within_joined v (cnf_items p)

  pub words_by_items : cnf_words p ≡ joined (map words_of (cnf_items p))
  unfolding cnf cnf_words
  words_by_items = words_joined (cnf_items p)

  pub total_by_items : (w : ℕ → ℕ) → total w (cnf p) ≡ sum (map (total w) (cnf_items p))
  unfolding cnf
  total_by_items w = total_joined w (cnf_items p)
