-- The text of flat words is the text of the clauses that they are the words of, and of a problem's CNF. Assumes nothing.
use mathlib.Core.Path.{◌≡◌, refl, ◌∙◌, ap}
use mathlib.Core.Bool.{true}
use mathlib.Core.List.{List, [], ◌∷◌, ◌++◌}
use Prim.Native.Nat.{ℕ}
use lib.IntN.{ℤ, pos}
use lib.ListN.{length}
use borrow.Author.Tests.{not-true}
use Rattle.answers.specs.Lists.{each, all_of}
use Rattle.clauses.specs.Clauses.{Clause}
use Rattle.clauses.specs.CnfWords.{is_0, ended_by_0, words_of}
use Rattle.answers.proofs.Tests.{first_true, second_true}
use Rattle.clauses.proofs.ReadBack.{not_0, NoZeros, within_no_zeros}
use Rattle.text.specs.Numbers.{bytes_of, signed_decimal}
use Rattle.meaning.specs.Problem.{Problem}
use Rattle.meaning.specs.Proper.{Proper}
use Rattle.meaning.specs.Cnf.{cnf, cnf_words, variables}
use Rattle.job_file.specs.JobFile.{header_line, clause_line, cnf_text}
use Rattle.meaning.proofs.Numbers.{each_append}
use Rattle.meaning.proofs.Ranges.{literals_within}
use Rattle.job_file.specs.Text.{word_text, words_text, flat_text}

literal_text : (w : ℤ) → not_0 w ≡ true → word_text w ≡ signed_decimal w ++ bytes_of " "
literal_text w e = rw (not-true (is_0 w) e)

literals_text : (c : Clause) → all_of not_0 c ≡ true → words_text c ≡ each c (λ w. signed_decimal w ++ bytes_of " ")
literals_text [] e = refl
literals_text (w ∷ c) e =
    rw (literal_text w (first_true (not_0 w) (all_of not_0 c) e), literals_text c (second_true (not_0 w) (all_of not_0 c) e))

clause_text : (c : Clause) → all_of not_0 c ≡ true → words_text (ended_by_0 c) ≡ clause_line c
clause_text c e = each_append c (pos 0 ∷ []) word_text ∙ ap (λ (t : List ℕ). t ++ bytes_of "0\n") (literals_text c e)

text_of_clauses : (cs : List Clause) → NoZeros cs → words_text (words_of cs) ≡ each cs clause_line
text_of_clauses [] e = refl
text_of_clauses (c ∷ cs) e =
    each_append (ended_by_0 c) (words_of cs) word_text
    ∙ rw (clause_text c (first_true (all_of not_0 c) (all_of (all_of not_0) cs) e))
    (ap (λ (t : List ℕ). clause_line c ++ t) (text_of_clauses cs (second_true (all_of not_0 c) (all_of (all_of not_0) cs) e)))

flat_text_of_clauses : (v : ℕ) (cs : List Clause) → NoZeros cs → flat_text v (length cs) (words_of cs) ≡ cnf_text v cs
unfolding flat_text cnf_text
flat_text_of_clauses v cs e = ap (λ (t : List ℕ). header_line v (length cs) ++ t) (text_of_clauses cs e)

pub text_of_cnf : (p : Problem) → Proper p → flat_text (variables p) (length (cnf p)) (cnf_words p) ≡ cnf_text (variables p) (cnf p)
unfolding cnf_words
text_of_cnf p proper = flat_text_of_clauses (variables p) (cnf p) (within_no_zeros (variables p) (cnf p) (literals_within p proper))
