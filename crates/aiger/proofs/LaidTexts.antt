-- Texts one after another in a room: each is put after those before it, where the whole fits. Assumes nothing.
use mathlib.Core.Path.{◌≡◌, refl, sym, ◌∙◌, ap}
use mathlib.Core.Bool.{true}
use mathlib.Core.List.{List, [], ◌∷◌, ◌++◌, append-nil}
use Prim.Native.Nat.{ℕ, ◌+◌, ◌^◌, ◌≤◌, ◌<◌}
use native.Mathlib.Nat.{zero-add}
use native.Mathlib.Numerals.{add-one}
use native.Mathlib.Omega.{arith}
use borrow.Author.Tests.{le-leb}
use lib.Dec.{leb}
use lib.ListN.{length, length-append, take-append-drop}
use Rattle.answers.specs.Lists.{numbers, each}
use Rattle.text.specs.Promise.{largest_size, Puts}
use Rattle.text.proofs.Buffers.{placed_append}
use Rattle.meaning.proofs.Numbers.{numbers_suc, each_append}
use Rattle.aiger.specs.declared.sizes.Kind.{Kind}
use Rattle.aiger.specs.declared.sizes.Kind.TheVariants.{Input, Latch, Output, Gate}
use Rattle.aiger.specs.Circuits.{Sizes}
use Rattle.aiger.specs.Texts.{ended, header_line, sized_text}
use Rattle.aiger.specs.Reads.{count_of}
use Rattle.aiger.specs.Writes.{line_of, Lays}

-- ════════ One text ════════

-- A number under another name.
pub put_as : {n k : ℕ} (b : ℕ) {at m : ℕ} {o p : List ℕ} → n ≡ k → Puts (ended n b) at o m p → Puts (ended k b) at o m p
put_as b e a = rw e at a

pub lays_if_put : {t : List ℕ} {at n : ℕ} {o p : List ℕ} → Puts t at o n p → Lays t at o n p
lays_if_put {t} {at} {n} {o} {p} a = record {
  after = a.after;
  held = λ h. let fits : leb (at + length t) (length o) ≡ true = le-leb _ _ h in rw fits at a.held;
}

-- ════════ One after another ════════

-- The texts so far: laid into a room whose length a size tells, and that keeps its length.
pub record Laid (text : List ℕ) (at : ℕ) (old : List ℕ) (next : ℕ) (new : List ℕ) : Type 0 where
  pub small : length old ≤ largest_size
  pub kept : length new ≡ length old
  pub lays : Lays text at old next new

pub nothing_laid : {at : ℕ} {o : List ℕ} → at < 2 ^ 64 → length o < 2 ^ 64 → Laid [] at o at o
nothing_laid {at} {o} h l =
    record {
      small = omega arith;
      kept = refl;
      lays = record { after = omega arith; held = λ fits. sym (take-append-drop at o) };
    }

module _ {s t : List ℕ} {at n m : ℕ} {o p q : List ℕ} (before : Laid s at o n p) (same : length q ≡ length p) where
  pub laid_then : Lays t n p m q → Laid (s ++ t) at o m q
  laid_then next =
      let both = length-append s t in
      record {
        small = before.small;
        kept = same ∙ before.kept;
        lays = record {
          after = omega (arith, before.lays.after, next.after);
          held = λ h.
              let first : at + length s ≤ length o = omega arith in
              let place : n ≡ at + length s = omega (arith, before.small, before.lays.after) in
              let second : n + length t ≤ length p = omega (arith, before.kept) in
              next.held second ∙ rw (place, before.lays.held first) (placed_append at o s first t);
        };
      }

  pub laid_put : Puts t n p m q → Laid (s ++ t) at o m q
  laid_put next = laid_then (lays_if_put next)

-- ════════ A line for each number ════════

module _ (f : ℕ → List ℕ) where
  each_more : (i : ℕ) → each (numbers 0 (i + 1)) f ≡ each (numbers 0 i) f ++ f i
  each_more i =
      ap (λ k. each (numbers 0 k) f) (add-one i)
      ∙ ap (λ (is : List ℕ). each is f) (numbers_suc 0 i)
      ∙ each_append (numbers 0 i) ((0 + i) ∷ []) f
      ∙ rw (zero-add, append-nil)

  pub laid_one_more : (i : ℕ) {at n m : ℕ} {o p q : List ℕ} → Laid (each (numbers 0 i) f) at o n p → length q ≡ length p → Lays (f i) n p m q
      → Laid (each (numbers 0 (i + 1)) f) at o m q
  laid_one_more i before same next = rw (each_more i) (laid_then before same next)

-- ════════ The whole text ════════

module _ (s : Sizes) (ws : List ℕ) where
  -- All lines of a kind.
  abbrev pub lines : Kind → List ℕ
  lines kind = each (numbers 0 (count_of kind s)) (line_of kind s ws)

  pub text_laid : (o : List ℕ) {n₀ n₁ n₂ n₃ n₄ : ℕ} {p₀ p₁ p₂ p₃ p₄ : List ℕ} → length o < 2 ^ 64
      → length p₀ ≡ length o → Lays (header_line s) 0 o n₀ p₀
      → length p₁ ≡ length p₀ → Lays (lines Input) n₀ p₀ n₁ p₁
      → length p₂ ≡ length p₁ → Lays (lines Latch) n₁ p₁ n₂ p₂
      → length p₃ ≡ length p₂ → Lays (lines Output) n₂ p₂ n₃ p₃
      → length p₄ ≡ length p₃ → Lays (lines Gate) n₃ p₃ n₄ p₄
      → Lays (sized_text s ws) 0 o n₄ p₄
  text_laid o h k₀ a₀ k₁ a₁ k₂ a₂ k₃ a₃ k₄ a₄ =
      let none = nothing_laid {at = 0} {o = o} (omega arith) h in
      (laid_then (laid_then (laid_then (laid_then (laid_then none k₀ a₀) k₁ a₁) k₂ a₂) k₃ a₃) k₄ a₄).lays
