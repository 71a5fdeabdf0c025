-- The numbers that a reader keeps, where it finds what is due: how many they are, and the test that each passes. Assumes nothing.
use mathlib.Core.Path.{◌≡◌, refl, sym, ap}
use mathlib.Core.Bool.{Bool, true, false, cond, ◌&&◌, false≢true}
use mathlib.Core.List.{List, [], ◌∷◌, ◌++◌, map}
use Prim.Native.Nat.{ℕ, zero, suc, ◌+◌, ◌*◌, ◌<◌}
use native.Mathlib.Nat.{mul-zero, mul-suc}
use native.Mathlib.Omega.{arith}
use lib.Dec.{leb, ltb, eqb}
use lib.ListN.{length, get_or, take, drop, length-append}
use Rattle.answers.specs.Lists.{numbers, each}
use Rattle.answers.proofs.Tests.{both_true, first_true, second_true}
use Rattle.text.specs.Numbers.{same, value, is_number}
use Rattle.text.specs.Readings.{Reading, found, fault, Reader, ahead, and_then, in_turn, mark, told, number, unkept, exactly, word_of, past_word}
use Rattle.text.proofs.ReadingLaws.{in_turn_append}
use Rattle.meaning.specs.Problem.{word}

-- ════════ Numbers that pass tests ════════

abbrev pub Test : Type 0
Test = ℕ → Bool

-- As many numbers as there are tests, and each passes its own.
abbrev pub pass : List Test → List ℕ → Bool
pass [] [] = true
pass [] (n ∷ ns) = false
pass (f ∷ fs) [] = false
pass (f ∷ fs) (n ∷ ns) = f n && pass fs ns

pub pass_length : (fs : List Test) (ns : List ℕ) → pass fs ns ≡ true → length ns ≡ length fs
pass_length [] [] e = refl
pass_length [] (n ∷ ns) e = absurd (false≢true e)
pass_length (f ∷ fs) [] e = absurd (false≢true e)
pass_length (f ∷ fs) (n ∷ ns) e = ap suc (pass_length fs ns (second_true (f n) (pass fs ns) e))

pub pass_append : (fs : List Test) (ns : List ℕ) (gs : List Test) (ms : List ℕ) → pass fs ns ≡ true → pass gs ms ≡ true
    → pass (fs ++ gs) (ns ++ ms) ≡ true
pass_append [] [] gs ms e g = g
pass_append [] (n ∷ ns) gs ms e g = absurd (false≢true e)
pass_append (f ∷ fs) [] gs ms e g = absurd (false≢true e)
pass_append (f ∷ fs) (n ∷ ns) gs ms e g =
    both_true (first_true (f n) (pass fs ns) e) (pass_append fs ns gs ms (second_true (f n) (pass fs ns) e) g)

pub pass_first : (fs gs : List Test) (ns : List ℕ) → pass (fs ++ gs) ns ≡ true → pass fs (take (length fs) ns) ≡ true
pass_first [] gs ns e = refl
pass_first (f ∷ fs) gs [] e = absurd (false≢true e)
pass_first (f ∷ fs) gs (n ∷ ns) e =
    both_true (first_true (f n) (pass (fs ++ gs) ns) e) (pass_first fs gs ns (second_true (f n) (pass (fs ++ gs) ns) e))

pub pass_second : (fs gs : List Test) (ns : List ℕ) → pass (fs ++ gs) ns ≡ true → pass gs (drop (length fs) ns) ≡ true
pass_second [] gs ns e = e
pass_second (f ∷ fs) gs [] e = absurd (false≢true e)
pass_second (f ∷ fs) gs (n ∷ ns) e = pass_second fs gs ns (second_true (f n) (pass (fs ++ gs) ns) e)

-- A test is passed at its place.
pub pass_at : (fs : List Test) (ns : List ℕ) → pass fs ns ≡ true → (i : ℕ) → i < length fs → get_or fs i (λ n. true) (word ns i) ≡ true
pass_at [] ns e i h = absurd (omega arith)
pass_at (f ∷ fs) [] e i h = absurd (false≢true e)
pass_at (f ∷ fs) (n ∷ ns) e zero h = first_true (f n) (pass fs ns) e
pass_at (f ∷ fs) (n ∷ ns) e (suc i) h = pass_at fs ns (second_true (f n) (pass fs ns) e) i (omega arith)

-- So many for each number.
pub each_length : {A : Type 0} (m : ℕ) (f : ℕ → List A) → ((i : ℕ) → length (f i) ≡ m) → (n k : ℕ) → length (each (numbers k n) f) ≡ m * n
each_length m f e zero k = sym (mul-zero m)
each_length m f e (suc n) k =
    rw (length-append, e k, each_length m f e n (suc k), mul-suc) (omega arith)

-- ════════ What a reader keeps ════════

-- Where something was found, its numbers pass these tests.
abbrev pub Keeping : List Test → Reading → Type 0
Keeping fs (found ns p t) = pass fs ns ≡ true
Keeping fs (fault p) = Unit {0}

abbrev pub KeptBy : List Test → Reader → Type 0
KeptBy fs r = (p : ℕ) (t : List ℕ) → Keeping fs (r p t)

pub kept_found : (fs : List Test) {r : Reading} {ns : List ℕ} {p : ℕ} {t : List ℕ} → Keeping fs r → r ≡ found ns p t → pass fs ns ≡ true
kept_found fs k e = rw e at k

-- One reading after another.
pub keeping_ahead : (fs : List Test) (ns : List ℕ) (gs : List Test) (r : Reading) → pass fs ns ≡ true → Keeping gs r → Keeping (fs ++ gs) (ahead ns r)
keeping_ahead fs ns gs (found ms p t) e k = pass_append fs ns gs ms e k
keeping_ahead fs ns gs (fault p) e k = tt

pub keeping_then : (fs : List Test) (r : Reading) (gs : List Test) (q : Reader) → Keeping fs r → KeptBy gs q → Keeping (fs ++ gs) (and_then r q)
keeping_then fs (found ns p t) gs q e k = keeping_ahead fs ns gs (q p t) e (k p t)
keeping_then fs (fault p) gs q e k = tt

pub turn_none : KeptBy [] (in_turn [])
turn_none p t = refl

module _ (fs : List Test) where
  pub turn_next : (r : Reader) (gs : List Test) (rs : List Reader) → KeptBy fs r → KeptBy gs (in_turn rs) → KeptBy (fs ++ gs) (in_turn (r ∷ rs))
  turn_next r gs rs a b p t = keeping_then fs (r p t) gs (in_turn rs) (a p t) b

  pub turn_append : (rs : List Reader) (gs : List Test) (qs : List Reader) → KeptBy fs (in_turn rs) → KeptBy gs (in_turn qs)
      → KeptBy (fs ++ gs) (in_turn (rs ++ qs))
  turn_append rs gs qs a b p t = rw (in_turn_append rs qs p t) (keeping_then fs (in_turn rs p t) gs (in_turn qs) (a p t) b)

-- For each number a reader, with its tests.
pub turn_each : (fs : ℕ → List Test) (f : ℕ → Reader) → ((i : ℕ) → KeptBy (fs i) (f i)) → (is : List ℕ)
    → KeptBy (each is fs) (in_turn (map f is))
turn_each fs f k [] = turn_none
turn_each fs f k (i ∷ is) = turn_next (fs i) (f i) (each is fs) (map f is) (k i) (turn_each fs f k is)

-- ════════ What is due, one by one ════════

-- A reader with its tests.
pub record Keeper : Type 0 where
  pub reader : Reader
  pub tests : List Test
  pub kept : KeptBy tests reader

abbrev pub readers_of : List Keeper → List Reader
readers_of [] = []
readers_of (k ∷ ks) = k.reader ∷ readers_of ks

abbrev pub tests_of : List Keeper → List Test
tests_of [] = []
tests_of (k ∷ ks) = k.tests ++ tests_of ks

pub turn_all : (ks : List Keeper) → KeptBy (tests_of ks) (in_turn (readers_of ks))
turn_all [] = turn_none
turn_all (k ∷ ks) = turn_next k.tests k.reader (tests_of ks) (readers_of ks) k.kept (turn_all ks)

pub keeping_if : (fs : List Test) (b : Bool) (ns : List ℕ) (p : ℕ) (t : List ℕ) (q : ℕ) → (b ≡ true → pass fs ns ≡ true)
    → Keeping fs (cond b (found ns p t) (fault q))
keeping_if fs true ns p t q e = e refl
keeping_if fs false ns p t q e = tt

pub kept_mark : (b : ℕ) → KeptBy [] (mark b)
kept_mark b p [] = tt
kept_mark b p (c ∷ t) = keeping_if [] (eqb c b) [] (suc p) t p (λ e. refl)

pub keeping_unkept : (r : Reading) → Keeping [] (unkept r)
keeping_unkept (found ns p t) = refl
keeping_unkept (fault p) = tt

abbrev pub marked : ℕ → Keeper
marked b = record { reader = mark b; tests = []; kept = kept_mark b }

abbrev pub named : List ℕ → Keeper
named w = record { reader = told w; tests = []; kept = λ p t. keeping_if [] (same (word_of t) w) [] (p + length w) (past_word t) p (λ e. refl) }

abbrev pub known : ℕ → Keeper
known m = record { reader = exactly m; tests = []; kept = λ p t. keeping_unkept (number (λ n. eqb n m) p t) }

pub kept_number : (f : Test) → KeptBy (f ∷ []) (number f)
kept_number f p t =
    let w = word_of t in
    keeping_if (f ∷ []) (is_number w && f (value w)) (value w ∷ []) (p + length w) (past_word t) p
    (λ e. both_true (second_true (is_number w) (f (value w)) e) refl)

abbrev pub taken : Test → Keeper
taken f = record { reader = number f; tests = f ∷ []; kept = kept_number f }

abbrev pub within : ℕ → Test
within m n = leb n m

abbrev pub under : ℕ → Test
under m n = ltb n m
