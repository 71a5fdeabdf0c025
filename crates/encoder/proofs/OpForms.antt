-- P and Q of a node as its op's form over the children. Assumes nothing.
use mathlib.Core.Path.{◌≡◌, refl, sym, ◌∙◌}
use mathlib.Core.Logic.{◌⊎◌, inl, inr}
use Prim.Native.Nat.{ℕ, ◌+◌}
use Rattle.meaning.specs.Problem.{Problem, Node, atom, both, either, next, until, release}
use Rattle.meaning.specs.Cnf.{P, q_at, p_clauses, q_clauses, equal_form}
use Rattle.problem.specs.declared.Node as code
use Rattle.problem.specs.declared.Left.{Left}
use Rattle.problem.specs.declared.Node.TheVariants.{Atom, Both, Either, Next, Until, Release}
use Rattle.problem.specs.Promise.{node_read}
use Rattle.encoder.specs.declared.forms.OpForm.{OpForm}
use Rattle.encoder.specs.ItemParts.{form_over, form_clauses, FormOf}

module _ (p : Problem) (n i : ℕ) where
  pub p_has_form : (x : Node) → p_clauses p n x i ≡ form_clauses p (P p n i) x i (P p n (i + 1))
  p_has_form (atom a) = refl
  p_has_form (both a b) = refl
  p_has_form (either a b) = refl
  p_has_form (next a) = refl
  p_has_form (until a b) = refl
  p_has_form (release a b) = refl

module _ {p : Problem} {i : ℕ} {f : OpForm} (n : ℕ) where
  pub p_by_form : {x : Node} → FormOf p x i f → p_clauses p n x i ≡ form_over f (P p n i) (P p n (i + 1))
  p_by_form {x} h = p_has_form p n i x ∙ sym (h.is _ _)

  -- Q of U and R has the same form.
  pub q_has_form : (x : code.Node) → ((a : Left) × (b : ℕ) × (x ≡ Until a b)) ⊎ ((a : Left) × (b : ℕ) × (x ≡ Release a b)) → FormOf p (node_read x) i f
      → q_clauses p n (node_read x) i ≡ form_over f (q_at p n (node_read x) i) (q_at p n (node_read x) (i + 1))
  q_has_form (Until a b) is h = sym (h.is _ _)
  q_has_form (Release a b) is h = sym (h.is _ _)
  q_has_form (Atom a) (inl is) h = cc is.2
  q_has_form (Atom a) (inr is) h = cc is.2
  q_has_form (Both a b) (inl is) h = cc is.2
  q_has_form (Both a b) (inr is) h = cc is.2
  q_has_form (Either a b) (inl is) h = cc is.2
  q_has_form (Either a b) (inr is) h = cc is.2
  q_has_form (Next a) (inl is) h = cc is.2
  q_has_form (Next a) (inr is) h = cc is.2

-- .. and of the others it is P.
module _ (p : Problem) (n i : ℕ) where
  pub q_is_p : (x : code.Node) → ((a : Left) (b : ℕ) → x ≡ Until a b → ⊥) → ((a : Left) (b : ℕ) → x ≡ Release a b → ⊥)
      → q_clauses p n (node_read x) i ≡ equal_form (q_at p n (node_read x) i) (P p n i)
  q_is_p (Atom a) u r = refl
  q_is_p (Both a b) u r = refl
  q_is_p (Either a b) u r = refl
  q_is_p (Next a) u r = refl
  q_is_p (Until a b) u r = absurd (u a b refl)
  q_is_p (Release a b) u r = absurd (r a b refl)
