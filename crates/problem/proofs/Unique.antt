-- Each promise decides its answer: two answers that meet it are equal. The other readers' promises are equations already.
-- Assumes nothing.
use mathlib.Core.Path.{◌≡◌, refl, sym, ◌∙◌, ap}
use mathlib.Core.Bool.{false}
use mathlib.Core.List.{List, [], ◌∷◌, ◌++◌}
use Prim.Native.Nat.{ℕ}
use native.Mathlib.Omega.{arith}
use lib.ListN.{get_or}
use Rattle.answers.specs.Answers.{Answer, Check, check, granted}
use Rattle.answers.proofs.Answers.{number_of}
use Rattle.meaning.specs.Problem as problems
use Rattle.problem.specs.declared.Outline.{Outline}
use Rattle.problem.specs.declared.ProblemRecord.{ProblemRecord}
use Rattle.problem.specs.declared.Refusal.{Refusal}
use Rattle.problem.specs.declared.Refusal.TheVariants.{BadVersion, BadLength, OutsideLimits, BadReset, BadLiteral, BadNode}
use Rattle.std.specs.Prelude.{Result, Ok, Err, IfOk, ⊤}
use Rattle.problem.specs.declared.Left.{Left}
use Rattle.problem.specs.declared.Left.TheVariants.{Constant, Child}
use Rattle.problem.specs.declared.Node.{Node}
use Rattle.problem.specs.declared.Node.TheVariants.{Atom, Both, Either, Next, Until, Release}
use Rattle.problem.specs.Promise.{refusal_answer, answer_of, outline_of, CheckedAs, left_of, node_read}
use Rattle.problem.specs.CheckParts.{answer_then, Answers, Joined}

-- ════════ The refusals ════════

-- The refusal of each number up to that of a bad node, of which 0 is none; past them only the version is left.
abbrev refusals : List (ℕ → Refusal)
refusals = (λ p. BadVersion) ∷ BadLength ∷ OutsideLimits ∷ BadReset ∷ BadLiteral ∷ BadNode ∷ []

abbrev refusal_back : Answer → Refusal
refusal_back a = get_or refusals a.number (λ p. BadVersion) a.place

refusal_back_of : (f : Refusal) → refusal_back (refusal_answer f) ≡ f
refusal_back_of BadVersion = refl
refusal_back_of (BadLength n) = refl
refusal_back_of (OutsideLimits i) = refl
refusal_back_of (BadReset i) = refl
refusal_back_of (BadLiteral i) = refl
refusal_back_of (BadNode i) = refl

pub refusal_unique : (f f' : Refusal) → refusal_answer f ≡ refusal_answer f' → f ≡ f'
refusal_unique f f' e = sym (refusal_back_of f) ∙ ap refusal_back e ∙ refusal_back_of f'

-- No refusal has the number of a yes.
pub refusal_not_yes : (f : Refusal) → (refusal_answer f).number ≡ 0 → ⊥
refusal_not_yes BadVersion e = omega arith
refusal_not_yes (BadLength n) e = omega arith
refusal_not_yes (OutsideLimits i) e = omega arith
refusal_not_yes (BadReset i) e = omega arith
refusal_not_yes (BadLiteral i) e = omega arith
refusal_not_yes (BadNode i) e = omega arith

-- ════════ The parts of a check ════════

-- Two answers that hand on, or refuse, whatever comes after, are one, where what they hand on is one.
same_part : {A : Type 0} (x : A) (r r' : Result A Refusal) → IfOk r (λ y. y ≡ x) → IfOk r' (λ y. y ≡ x)
    → ((after : Answer) → answer_then r after ≡ answer_then r' after) → r ≡ r'
same_part x (Ok y) (Ok y') is is' e = ap Ok (is ∙ sym is')
same_part x (Ok y) (Err f) is is' e = absurd (refusal_not_yes f (number_of (sym (e (granted 0)))))
same_part x (Err f) (Ok y) is is' e = absurd (refusal_not_yes f (number_of (e (granted 0))))
same_part x (Err f) (Err f') is is' e = ap Err (refusal_unique f f' (e (granted 0)))

-- Of a part that hands on a value.
pub value_unique : {A : Type 0} {ps : List (List Check)} (x : A) (r r' : Result A Refusal)
    → Answers ps r → IfOk r (λ y. y ≡ x) → Answers ps r' → IfOk r' (λ y. y ≡ x) → r ≡ r'
value_unique x r r' a is a' is' = same_part x r r' is is' (λ after. a.answered after ∙ sym (a'.answered after))

-- Of a part that only passes.
only_passed : (r : Result ⊤ Refusal) → IfOk r (λ y. y ≡ tt {0})
only_passed (Ok x) = refl
only_passed (Err f) = tt

pub answers_unique : {ps : List (List Check)} (r r' : Result ⊤ Refusal) → Answers ps r → Answers ps r' → r ≡ r'
answers_unique r r' a a' = value_unique (tt {0}) r r' a (only_passed r) a' (only_passed r')

-- Every answer is that to some parts, so two parts joined have one answer.
abbrev parts_of : Result ⊤ Refusal → List (List Check)
parts_of (Ok x) = []
parts_of (Err f) = (check false (refusal_answer f) ∷ []) ∷ []

answers_of : (r : Result ⊤ Refusal) → Answers (parts_of r) r
answers_of (Ok x) = record { answered = λ after. refl }
answers_of (Err f) = record { answered = λ after. refl }

pub joined_unique : (first second r r' : Result ⊤ Refusal) → Joined first second r → Joined first second r' → r ≡ r'
joined_unique first second r r' j j' =
    answers_unique {ps = parts_of first ++ parts_of second} r r'
    (j.answers (parts_of first) (parts_of second) (answers_of first) (answers_of second))
    (j'.answers (parts_of first) (parts_of second) (answers_of first) (answers_of second))

-- ════════ The check ════════

-- Document 01's outline as the crate's.
abbrev outline_back : problems.Outline → Outline
outline_back o = record {
  inputs = o.inputs;
  latches = o.latches;
  gates = o.gates;
  constraints = o.constraints;
  written_nodes = o.written_nodes;
  formula_nodes = o.formula_nodes;
  bound = o.bound;
  width = o.width;
  latches_from = o.latches_from;
  gates_from = o.gates_from;
  constraints_from = o.constraints_from;
  nodes_from = o.nodes_from;
}

pub outline_unique : (s s' : Outline) → outline_of s ≡ outline_of s' → s ≡ s'
outline_unique s s' e = ap outline_back e

same_record : (g g' : ProblemRecord) → g.outline ≡ g'.outline → g.counts ≡ g'.counts → g ≡ g'
same_record g g' o c = ap (λ s. record { outline = s; counts = g.counts }) o ∙ ap (λ n. record { outline = g'.outline; counts = n }) c

-- Two outcomes with one answer: both the record of the words, or one refusal.
same_outcome : (version : ℕ) (ws : List ℕ) (r r' : Result ProblemRecord Refusal) → CheckedAs version ws r → CheckedAs version ws r' → answer_of r ≡ answer_of r' → r ≡ r'
same_outcome version ws (Ok g) (Ok g') a a' e =
    let outlines : g.outline ≡ g'.outline = outline_unique g.outline g'.outline (a.outlined.outline_is ∙ sym a'.outlined.outline_is) in
    ap Ok (same_record g g' outlines (a.counted ∙ sym a'.counted))
same_outcome version ws (Ok g) (Err f) a a' e = absurd (refusal_not_yes f (number_of (sym e)))
same_outcome version ws (Err f) (Ok g) a a' e = absurd (refusal_not_yes f (number_of e))
same_outcome version ws (Err f) (Err f') a a' e = ap Err (refusal_unique f f' e)

pub checked_unique : (version : ℕ) (ws : List ℕ) (r r' : Result ProblemRecord Refusal) → CheckedAs version ws r → CheckedAs version ws r' → r ≡ r'
checked_unique version ws r r' a a' =
    same_outcome version ws r r' a a' (a.answered ∙ sym a'.answered)

-- ════════ The nodes ════════

abbrev left_back : problems.Left → Left
left_back (problems.constant b) = Constant b
left_back (problems.child c) = Child c

left_back_of : (l : Left) → left_back (left_of l) ≡ l
left_back_of (Constant b) = refl
left_back_of (Child c) = refl

abbrev node_back : problems.Node → Node
node_back (problems.atom x) = Atom x
node_back (problems.both a b) = Both a b
node_back (problems.either a b) = Either a b
node_back (problems.next a) = Next a
node_back (problems.until a b) = Until (left_back a) b
node_back (problems.release a b) = Release (left_back a) b

node_back_of : (r : Node) → node_back (node_read r) ≡ r
node_back_of (Atom x) = refl
node_back_of (Both a b) = refl
node_back_of (Either a b) = refl
node_back_of (Next a) = refl
node_back_of (Until a b) = rw left_back_of
node_back_of (Release a b) = rw left_back_of

-- What `shape` and `node` promise: of two nodes that read alike each is the other.
pub node_unique : (r r' : Node) → node_read r ≡ node_read r' → r ≡ r'
node_unique r r' e = sym (node_back_of r) ∙ ap node_back e ∙ node_back_of r'
