-- Readers that find these numbers in some parts of text, before a rest of some kind, and in no others; such readers in turn. Assumes nothing.
use mathlib.Core.Path.{◌≡◌, refl, sym, ◌∙◌, ap}
use mathlib.Core.Bool.{Bool, true, false, cond, false≢true}
use mathlib.Core.List.{List, [], ◌∷◌, ◌++◌, map, append_assoc}
use Prim.Native.Nat.{ℕ, zero, suc, ◌+◌, ◌≤◌, ◌<◌}
use native.Mathlib.Nat.{add-zero}
use native.Mathlib.Omega.{arith}
use borrow.Author.Tests.{ne_eqb}
use lib.Dec.{eqb}
use lib.ListN.{length, take, drop, length-append}
use lib.Seq.{take_at, drop_at}
use Rattle.answers.specs.Lists.{numbers, each}
use Rattle.answers.proofs.Tests.{eqb_self}
use Rattle.text.specs.Readings.{Reading, found, fault, Reader, ahead, and_then, in_turn}
use Rattle.text.proofs.ReadingLaws.{in_turn_append, in_turn_one}

-- ════════ What was found ════════

abbrev pub numbers_in : Reading → List ℕ
numbers_in (found ns p t) = ns
numbers_in (fault p) = []

abbrev pub place_in : Reading → ℕ
place_in (found ns p t) = p
place_in (fault p) = p

abbrev pub left_in : Reading → List ℕ
left_in (found ns p t) = t
left_in (fault p) = []

abbrev finds : Reading → Bool
finds (found ns p t) = true
finds (fault p) = false

pub not_found : {p : ℕ} {ns : List ℕ} {q : ℕ} {left : List ℕ} → fault p ≡ found ns q left → ⊥
not_found e = false≢true (ap finds e)

-- What was found after numbers that were ahead of it.
pub after_ahead : (ns : List ℕ) (x : Reading) {ms : List ℕ} {q : ℕ} {left : List ℕ} → ahead ns x ≡ found ms q left
    → (ks : List ℕ) × (x ≡ found ks q left) × (ms ≡ ns ++ ks)
after_ahead ns (fault p) e = absurd (not_found e)
after_ahead ns (found ks p t) {ms} {q} {left} e =
    (ks, ap (λ (o : ℕ). found ks o t) (ap place_in e) ∙ ap (found ks q) (ap left_in e), sym (ap numbers_in e))

-- ════════ Exactly these parts ════════

-- Nothing to choose: there is one part.
abbrev pub NoChoice : Type 0
NoChoice = Unit {0}

-- The parts are told apart by what may be chosen.
pub record ExactBefore (Before : List ℕ → Type 0) (C : Type 0) (rs : List Reader) (part : C → List ℕ) (ns : List ℕ) : Type 0 where
  -- Each part is read as these numbers, before a rest of this kind;
  pub reads : (c : C) (p : ℕ) (rest : List ℕ) → Before rest → in_turn rs p (part c ++ rest) ≡ found ns (p + length (part c)) rest
  -- as many numbers are found in any text, if any are;
  pub count : (p : ℕ) (t ms : List ℕ) (q : ℕ) (left : List ℕ) → in_turn rs p t ≡ found ms q left → length ms ≡ length ns
  -- and where it is these, one of the parts stands there.
  pub stands : (p : ℕ) (t : List ℕ) (q : ℕ) (left : List ℕ) → in_turn rs p t ≡ found ns q left → (c : C) × (t ≡ part c ++ left)

-- Whatever stands after a part.
abbrev pub Exact : (C : Type 0) → List Reader → (C → List ℕ) → List ℕ → Type 0
Exact = ExactBefore (λ rest. Unit {0})

-- Other names for the same parts.
pub exact_by : {B : List ℕ → Type 0} {C D : Type 0} {rs : List Reader} {part : C → List ℕ} {ns : List ℕ} → ExactBefore B C rs part ns → (part' : D → List ℕ)
    → ((d : D) → (c : C) × (part c ≡ part' d)) → ((c : C) → (d : D) × (part c ≡ part' d)) → ExactBefore B D rs part' ns
exact_by f part' from to = record {
  reads = λ d. let c = from d in let same = c.1 in rw same at (f.reads c.0);
  count = f.count;
  stands = λ p t q left e.
      let one = f.stands p t q left e in
      let other = to one.0 in
      (other.0, one.1 ∙ ap (λ (u : List ℕ). u ++ left) other.1);
}

-- One reader.
pub exact_one : {B : List ℕ → Type 0} {C : Type 0} {r : Reader} {part : C → List ℕ} {ns : List ℕ}
    → ((c : C) (p : ℕ) (rest : List ℕ) → B rest → r p (part c ++ rest) ≡ found ns (p + length (part c)) rest)
    → ((p : ℕ) (t ms : List ℕ) (q : ℕ) (left : List ℕ) → r p t ≡ found ms q left → length ms ≡ length ns)
    → ((p : ℕ) (t : List ℕ) (q : ℕ) (left : List ℕ) → r p t ≡ found ns q left → (c : C) × (t ≡ part c ++ left)) → ExactBefore B C (r ∷ []) part ns
exact_one {r = r} {part = part} reads count stands = record {
  reads = λ c p rest h. in_turn_one r p (part c ++ rest) ∙ reads c p rest h;
  count = λ p t ms q left e. count p t ms q left (sym (in_turn_one r p t) ∙ e);
  stands = λ p t q left e. stands p t q left (sym (in_turn_one r p t) ∙ e);
}

pub same_parts : (xs ys xs' ys' : List ℕ) → xs ++ ys ≡ xs' ++ ys' → length xs ≡ length xs' → (xs ≡ xs') × (ys ≡ ys')
same_parts xs ys xs' ys' e l = (
  sym (take_at xs ys (length xs) refl) ∙ ap (take (length xs)) e ∙ take_at xs' ys' (length xs) (sym l),
  sym (drop_at xs ys (length xs) refl) ∙ ap (drop (length xs)) e ∙ drop_at xs' ys' (length xs) (sym l),
)

-- Two readings, one after another.
record Parted (x : Reading) (r : Reader) (ns : List ℕ) (q : ℕ) (left : List ℕ) : Type 0 where
  pub first : List ℕ
  pub place : ℕ
  pub rest : List ℕ
  pub second : List ℕ
  pub first_is : x ≡ found first place rest
  pub second_is : r place rest ≡ found second q left
  pub numbers_are : ns ≡ first ++ second

parted : (x : Reading) (r : Reader) {ns : List ℕ} {q : ℕ} {left : List ℕ} → and_then x r ≡ found ns q left → Parted x r ns q left
parted (fault p) r e = absurd (not_found e)
parted (found ms p t) r e =
    let after = after_ahead ms (r p t) e in
    record { first = ms; place = p; rest = t; second = after.0; first_is = refl; second_is = after.1; numbers_are = after.2 }

-- Where the first finds so many numbers, it is known which each of the two found.
parted_as : (x : Reading) (r : Reader) (ns ms : List ℕ) → ((ks : List ℕ) (o : ℕ) (u : List ℕ) → x ≡ found ks o u → length ks ≡ length ns)
    → {q : ℕ} {left : List ℕ} → and_then x r ≡ found (ns ++ ms) q left
    → (place : ℕ) × (rest : List ℕ) × (x ≡ found ns place rest) × (r place rest ≡ found ms q left)
parted_as x r ns ms count {q} {left} e =
    let d = parted x r e in
    let same = same_parts d.first d.second ns ms (sym d.numbers_are) (count d.first d.place d.rest d.first_is) in (
      d.place,
      d.rest,
      d.first_is ∙ ap (λ (l : List ℕ). found l d.place d.rest) same.0,
      d.second_is ∙ ap (λ (l : List ℕ). found l q left) same.1,
    )

-- Parts, and after each of them others that it may stand before.
pub exact_then : {B B' : List ℕ → Type 0} {C D : Type 0} {rs qs : List Reader} {part : C → List ℕ} {part' : D → List ℕ} {ns ms : List ℕ}
    → ExactBefore B C rs part ns → ExactBefore B' D qs part' ms → ((d : D) (rest : List ℕ) → B' rest → B (part' d ++ rest))
    → ExactBefore B' (C × D) (rs ++ qs) (λ c. part c.0 ++ part' c.1) (ns ++ ms)
exact_then {rs = rs} {qs = qs} {part = part} {part' = part'} {ns = ns} {ms = ms} f g before = record {
  reads = λ c p rest h.
      let s = part c.0 in
      let t = part' c.1 in
      let place : p + length s + length t ≡ p + length (s ++ t) = rw (length-append s t) (omega arith) in
      in_turn_append rs qs p ((s ++ t) ++ rest)
      ∙ ap (λ (u : List ℕ). and_then (in_turn rs p u) (in_turn qs)) (append_assoc s t rest)
      ∙ ap (λ (x : Reading). and_then x (in_turn qs)) (f.reads c.0 p (t ++ rest) (before c.1 rest h))
      ∙ ap (ahead ns) (g.reads c.1 (p + length s) rest h)
      ∙ ap (λ (q : ℕ). found (ns ++ ms) q rest) place;
  count = λ p t ks q left e.
      let d = parted (in_turn rs p t) (in_turn qs) (sym (in_turn_append rs qs p t) ∙ e) in
      let one = f.count p t d.first d.place d.rest d.first_is in
      let other = g.count d.place d.rest d.second q left d.second_is in
      ap length d.numbers_are ∙ length-append d.first d.second ∙ rw (one, other, length-append ns ms);
  stands = λ p t q left e.
      let d = parted_as (in_turn rs p t) (in_turn qs) ns ms (f.count p t) (sym (in_turn_append rs qs p t) ∙ e) in
      let one = f.stands p t d.0 d.1 d.2 in
      let other = g.stands d.0 d.1 q left d.3 in
      ((one.0, other.0), one.1 ∙ ap (λ (u : List ℕ). part one.0 ++ u) other.1 ∙ sym (append_assoc (part one.0) (part' other.0) left));
}

pub exact_joined : {B : List ℕ → Type 0} {C D : Type 0} {rs qs : List Reader} {part : C → List ℕ} {part' : D → List ℕ} {ns ms : List ℕ}
    → Exact C rs part ns → ExactBefore B D qs part' ms → ExactBefore B (C × D) (rs ++ qs) (λ c. part c.0 ++ part' c.1) (ns ++ ms)
exact_joined f g = exact_then f g (λ d rest h. tt)

-- ════════ Lines ════════

each_same : (f g : ℕ → List ℕ) (i n : ℕ) → ((j : ℕ) → i ≤ j → f j ≡ g j) → each (numbers i n) f ≡ each (numbers i n) g
each_same f g i zero h = refl
each_same f g i (suc n) h = rw (h i (omega arith), each_same f g (suc i) n (λ j l. h j (omega arith)))

-- A line for each number from i on, with a choice for each of them.
module _ {C : Type 0} (rs : ℕ → List Reader) (part : ℕ → C → List ℕ) (kept : ℕ → List ℕ) (any : C) where
  abbrev lines_part : ℕ → ℕ → (ℕ → C) → List ℕ
  lines_part i n told = each (numbers i n) (λ j. part j (told j))

  abbrev first_told : ℕ → C → (ℕ → C) → ℕ → C
  first_told i c told j = cond (eqb j i) c (told j)

  first_told_part : (i n : ℕ) (c : C) (told : ℕ → C) → part i c ++ lines_part (suc i) n told ≡ lines_part i (suc n) (first_told i c told)
  first_told_part i n c told =
      rw (eqb_self i)
      (ap (λ (u : List ℕ). part i c ++ u)
      (each_same (λ j. part j (told j)) (λ j. part j (first_told i c told j)) (suc i) n (λ j l. rw (ne_eqb j i (λ e. omega arith)))))

  exact_each : (i n : ℕ) → ((j : ℕ) → i ≤ j → j < i + n → Exact C (rs j) (part j) (kept j))
      → Exact (ℕ → C) (map (λ j. in_turn (rs j)) (numbers i n)) (lines_part i n) (each (numbers i n) kept)
  exact_each i zero h = record {
    reads = λ told p rest h. rw add-zero;
    count = λ p t ms q left e. ap length (sym (ap numbers_in e));
    stands = λ p t q left e. (λ j. any, ap left_in e);
  }
  exact_each i (suc n) h =
      let f = h i (omega arith) (omega arith) in
      let line : Exact C (in_turn (rs i) ∷ []) (part i) (kept i) = exact_one f.reads f.count f.stands in
      exact_by (exact_joined line (exact_each (suc i) n (λ j l g. h j (omega arith) (omega arith))))
      (lines_part i (suc n)) (λ told. ((told i, told), refl)) (λ c. (first_told i c.0 c.1, first_told_part i n c.0 c.1))

  pub exact_lines : (n : ℕ) → ((j : ℕ) → j < n → Exact C (rs j) (part j) (kept j))
      → Exact (ℕ → C) (map (λ j. in_turn (rs j)) (numbers 0 n)) (λ told. each (numbers 0 n) (λ j. part j (told j))) (each (numbers 0 n) kept)
  exact_lines n h = exact_each 0 n (λ j l g. h j (omega arith))
