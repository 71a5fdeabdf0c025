-- Laws of what is read one after another, by how far a text was read, and of the lines of a kind. Assumes nothing.
use mathlib.Core.Path.{◌≡◌, refl, sym, ◌∙◌, ap}
use mathlib.Core.Bool.{Bool}
use mathlib.Core.List.{List, [], ◌∷◌, ◌++◌, map, map-append}
use Prim.Native.Nat.{ℕ, suc, ◌+◌, ◌*◌, ◌-◌, ◌≤◌, ◌<◌}
use native.Mathlib.Nat.{zero-add}
use native.Mathlib.Omega.{arith}
use lib.Dec.{leb, ltb, leb-suc-suc}
use Rattle.answers.specs.Lists.{numbers}
use Rattle.text.specs.Readings.{Reading, found, fault, Reader, and_then, in_turn, word_of, space, number, at_most}
use Rattle.text.specs.Numbers.{value}
use Rattle.text.proofs.ReadingLaws.{ahead_none, then_ahead, then_by, then_none, then_then, then_one, then_in_turn}
use Rattle.meaning.proofs.Numbers.{numbers_append}
use Rattle.aiger.specs.Texts.{below}
use Rattle.aiger.specs.Reads.{reached, at_start, Passes, Keeps}
use Rattle.std.specs.Prelude.{Result, Ok, Err, IfOk}
use Rattle.std.specs.Result.{IsErrAnd}
use Rattle.aiger.proofs.DueLaws.{exit}
use Rattle.aiger.specs.declared.due.Reached.{Reached}

-- ════════ Readers ════════

then_both : (r : Reading) (a q : Reader) → and_then (and_then r a) q ≡ and_then r (λ p t. and_then (a p t) q)
then_both (found ns p t) a q = then_ahead ns (a p t) q
then_both (fault p) a q = refl

then_two : (r : Reading) (a b : Reader) → and_then (and_then r a) b ≡ and_then r (in_turn (a ∷ b ∷ []))
then_two r a b = sym (then_one (and_then r a) b) ∙ then_then r a (b ∷ [])

-- Readers in turn, then one more: of a list that is told it is the longer list.
abbrev pub onto : List Reader → Reader → Reader
onto [] q p t = q p t
onto (a ∷ rs) q p t = and_then (a p t) (onto rs q)

then_onto : (r : Reading) (rs : List Reader) (q : Reader) → and_then (and_then r (in_turn rs)) q ≡ and_then r (onto rs q)
then_onto r [] q = ap (λ (x : Reading). and_then x q) (then_none r)
then_onto r (a ∷ rs) q =
    ap (λ (x : Reading). and_then x q) (sym (then_then r a rs))
    ∙ then_onto (and_then r a) rs q
    ∙ then_both r a (onto rs q)

-- Two tests that agree.
number_by : (f g : ℕ → Bool) → ((n : ℕ) → f n ≡ g n) → (p : ℕ) (t : List ℕ) → number f p t ≡ number g p t
number_by f g e p t = rw (e (value (word_of t)))

below_is : (own : ℕ) → 0 < own → (p : ℕ) (t : List ℕ) → below own p t ≡ at_most (own - 1) p t
below_is own h = number_by (λ n. ltb n own) (λ n. leb n (own - 1)) (λ n. ap (ltb n) one_more ∙ leb-suc-suc n (own - 1))
  where
    one_more : own ≡ suc (own - 1)
    one_more = omega arith

-- ════════ One after another ════════

module _ {text : List ℕ} {r₀ : Reached} where
  -- What kept nothing left every table as it is.
  pub passed : {a : Reader} {t : List ℕ} {r : Result Reached ℕ} → Passes a text r₀ r → Keeps 0 a text r₀ t r t
  passed {a} {t} {r = Ok r} k = record { reads = k.reads t; filled_within = omega (arith, k.filled_is) }
  passed {a} {t} {r = Err p} k = record { reads = k.reads t; filled_within = tt }

  pub passed_both : {r₁ : Reached} {r : Result Reached ℕ} {a b : Reader} → Passes a text r₀ (Ok r₁) → Passes b text r₁ r
      → Passes (in_turn (a ∷ b ∷ [])) text r₀ r
  passed_both {r₁} {r} {a} {b} k l = record {
    reads = λ t. l.reads t ∙ ap (λ (x : Reading). and_then x b) (k.reads t) ∙ then_two (reached text (Ok r₀) t) a b;
    filled_is = rw (← k.filled_is) l.filled_is;
  }

  pub passes_end : {p : ℕ} {a : Reader} (b : Reader) → Passes a text r₀ (Err p) → Passes (in_turn (a ∷ b ∷ [])) text r₀ (Err p)
  passes_end {a = a} b k = record {
    reads = λ t. ap (λ (x : Reading). and_then x b) (k.reads t) ∙ then_two (reached text (Ok r₀) t) a b;
    filled_is = tt;
  }

  module _ {t₀ t₁ : List ℕ} {r : Result Reached ℕ} where
    pub lasts : {n : ℕ} {a : Reader} → Keeps n a text r₀ t₀ r t₁ → Keeps n (in_turn (a ∷ [])) text r₀ t₀ r t₁
    lasts {n} {a} k = record { reads = k.reads ∙ sym (then_one (reached text (Ok r₀) t₀) a); filled_within = k.filled_within }

    pub kept_by : {n : ℕ} {a : Reader} (b : Reader) → ((p : ℕ) (t : List ℕ) → a p t ≡ b p t) → Keeps n a text r₀ t₀ r t₁ → Keeps n b text r₀ t₀ r t₁
    kept_by {n} {a} b e k = record { reads = k.reads ∙ then_by (reached text (Ok r₀) t₀) a b e; filled_within = k.filled_within }

    -- A number below a gate's own literal.
    pub kept_below : (own : ℕ) → 0 < own → Keeps 1 (in_turn (space ∷ at_most (own - 1) ∷ [])) text r₀ t₀ r t₁
        → Keeps 1 (in_turn (space ∷ below own ∷ [])) text r₀ t₀ r t₁
    kept_below own h =
        kept_by (in_turn (space ∷ below own ∷ [])) (λ p t. then_by (space p t) (in_turn (at_most (own - 1) ∷ [])) (in_turn (below own ∷ []))
        (λ q u. ap (λ (x : Reading). and_then x (in_turn [])) (sym (below_is own h q u))))

  pub at_most_so_many : {t₀ t₁ : List ℕ} {n m : ℕ} {a : Reader} {r : Result Reached ℕ} → n ≤ m → Keeps n a text r₀ t₀ r t₁ → Keeps m a text r₀ t₀ r t₁
  at_most_so_many {r = Ok r} h k = record { reads = k.reads; filled_within = omega (arith, k.filled_within) }
  at_most_so_many {r = Err p} h k = record { reads = k.reads; filled_within = tt }

  -- A fault ends it, whatever would come after; the exit of a `?` returns it.
  module _ {t₀ t₁ : List ℕ} {n p : ℕ} where
    pub ends : (q : Reader) {a : Reader} → Keeps n a text r₀ t₀ (Err p) t₁ → Keeps 0 (λ u t. and_then (a u t) q) text r₀ t₀ (Err p) t₁
    ends q {a = a} k = record {
      reads = ap (λ (x : Reading). and_then x q) k.reads ∙ then_both (reached text (Ok r₀) t₀) a q;
      filled_within = tt;
    }

    pub all_end : (q : Reader) (rs : List Reader) → Keeps n (in_turn rs) text r₀ t₀ (Err p) t₁ → Keeps 0 (onto rs q) text r₀ t₀ (Err p) t₁
    all_end q rs k = record {
      reads = ap (λ (x : Reading). and_then x q) k.reads ∙ then_onto (reached text (Ok r₀) t₀) rs q;
      filled_within = tt;
    }

    pub among_end : (rs qs : List Reader) → Keeps n (in_turn rs) text r₀ t₀ (Err p) t₁ → Keeps 0 (in_turn (rs ++ qs)) text r₀ t₀ (Err p) t₁
    among_end rs qs k = record {
      reads = ap (λ (x : Reading). and_then x (in_turn qs)) k.reads ∙ then_in_turn (reached text (Ok r₀) t₀) rs qs;
      filled_within = tt;
    }

    pub stops : {m : ℕ} {a : Reader} {r : Result Reached ℕ} → IsErrAnd r (λ y. y ≡ p) → Keeps n a text r₀ t₀ (Err p) t₁ → Keeps m a text r₀ t₀ r t₁
    stops e k = rw (exit e) (record { reads = k.reads; filled_within = tt })

within : (r : Result Reached ℕ) (a b n m : ℕ) → a ≤ b + n → IfOk r (λ s. s.filled ≤ a + m) → IfOk r (λ s. s.filled ≤ b + (n + m))
within (Ok s) a b n m k l = omega arith
within (Err p) a b n m k l = tt

-- A reader, then others.
module _ {text : List ℕ} {r₀ r₁ : Reached} {t₀ t₁ t₂ : List ℕ} {n m : ℕ} where
  pub followed : {r : Result Reached ℕ} {a q : Reader} → Keeps n a text r₀ t₀ (Ok r₁) t₁ → Keeps m q text r₁ t₁ r t₂
      → Keeps (n + m) (λ p t. and_then (a p t) q) text r₀ t₀ r t₂
  followed {r = r} {a = a} {q = q} k l = record {
    reads = l.reads ∙ ap (λ (x : Reading). and_then x q) k.reads ∙ then_both (reached text (Ok r₀) t₀) a q;
    filled_within = within r r₁.filled r₀.filled n m k.filled_within l.filled_within;
  }

  -- Readers that are told, then others.
  pub all_followed : {r : Result Reached ℕ} (rs : List Reader) {q : Reader} → Keeps n (in_turn rs) text r₀ t₀ (Ok r₁) t₁ → Keeps m q text r₁ t₁ r t₂
      → Keeps (n + m) (onto rs q) text r₀ t₀ r t₂
  all_followed {r = r} rs {q = q} k l = record {
    reads = l.reads ∙ ap (λ (x : Reading). and_then x q) k.reads ∙ then_onto (reached text (Ok r₀) t₀) rs q;
    filled_within = within r r₁.filled r₀.filled n m k.filled_within l.filled_within;
  }

  -- Two lists of readers.
  pub joined : {r : Result Reached ℕ} (rs qs : List Reader) → Keeps n (in_turn rs) text r₀ t₀ (Ok r₁) t₁ → Keeps m (in_turn qs) text r₁ t₁ r t₂
      → Keeps (n + m) (in_turn (rs ++ qs)) text r₀ t₀ r t₂
  joined {r = r} rs qs k l = record {
    reads = l.reads ∙ ap (λ (x : Reading). and_then x (in_turn qs)) k.reads ∙ then_in_turn (reached text (Ok r₀) t₀) rs qs;
    filled_within = within r r₁.filled r₀.filled n m k.filled_within l.filled_within;
  }

-- From the start of a text.
pub from_start : {n : ℕ} {a : Reader} {text : List ℕ} {r : Result Reached ℕ} {t t' : List ℕ} → Keeps n a text at_start t r t'
    → reached text r t' ≡ a 0 text
from_start {a = a} {text = text} k = k.reads ∙ ahead_none (a 0 text)

-- ════════ The lines of a kind ════════

module _ (f : ℕ → Reader) where
  lines_split : (i k : ℕ) → map f (numbers 0 (i + k)) ≡ map f (numbers 0 i) ++ map f (numbers i k)
  lines_split i k =
      ap (map f) (numbers_append 0 i k)
      ∙ map-append f (numbers 0 i) (numbers (0 + i) k)
      ∙ ap (λ (j : ℕ). map f (numbers 0 i) ++ map f (numbers j k)) (zero-add i)

  module _ {text : List ℕ} {r₀ r₁ : Reached} {t₀ t₁ t₂ : List ℕ} (i : ℕ) (so_far : Keeps (2 * i) (in_turn (map f (numbers 0 i))) text r₀ t₀ (Ok r₁) t₁) where
    -- And those from i on.
    on_from : {r : Result Reached ℕ} (k : ℕ) → Keeps (2 * k) (in_turn (map f (numbers i k))) text r₁ t₁ r t₂
        → Keeps (2 * (i + k)) (in_turn (map f (numbers 0 (i + k)))) text r₀ t₀ r t₂
    on_from k l = rw (lines_split i k) (at_most_so_many (omega arith) (joined (map f (numbers 0 i)) (map f (numbers i k)) so_far l))

    pub one_line_more : {r : Result Reached ℕ} → Keeps 2 (f i) text r₁ t₁ r t₂ → Keeps (2 * (i + 1)) (in_turn (map f (numbers 0 (i + 1)))) text r₀ t₀ r t₂
    one_line_more l = on_from 1 (lasts l)

    -- A fault in one ends them.
    pub line_ends : {p : ℕ} (n : ℕ) → i < n → Keeps 2 (f i) text r₁ t₁ (Err p) t₂ → Keeps (2 * n) (in_turn (map f (numbers 0 n))) text r₀ t₀ (Err p) t₂
    line_ends n h l = rw all_of_them at (on_from (suc (n - (i + 1))) (at_most_so_many (omega arith) (ends _ l)))
      where
        all_of_them : i + suc (n - (i + 1)) ≡ n
        all_of_them = omega arith
