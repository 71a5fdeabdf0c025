-- Words written one after the other, and clauses. Assumes nothing.
use mathlib.Core.Path.{◌≡◌, refl, sym, ◌∙◌, ap, subst}
use mathlib.Core.List.{List, [], ◌∷◌, ◌++◌}
use Prim.Native.Nat.{ℕ, ◌+◌, ◌≤◌, ◌<◌}
use native.Mathlib.Nat.{add-zero}
use native.Mathlib.Numerals.{add-one}
use native.Mathlib.Omega.{arith}
use lib.IntN.{ℤ}
use lib.ListN.{length, set, length-append}
use Rattle.clauses.specs.Clauses.{Clause}
use Rattle.clauses.specs.CnfWords.{words_of}
use Rattle.answers.proofs.PutAt.{put_at_none, put_at_one, put_at_length, put_at_then}
use Rattle.meaning.proofs.ItemByItem.{words_append}
use Rattle.encoder.specs.Writing.{Wrote, Room}

-- ════════ Words ════════

pub wrote_none : (at : ℕ) (a : List ℤ) → at ≤ length a → Wrote at [] a a at
wrote_none at a h = record {
  fits = rw add-zero h;
  ends = sym (add-zero at);
  holds = sym (put_at_none at a);
}

-- One word stored.
pub wrote_word : (at : ℕ) (w : ℤ) (a : List ℤ) → at < length a → Wrote at (w ∷ []) a (set a at w) (at + 1)
wrote_word at w a h = record {
  fits = rw add-one h;
  ends = refl;
  holds = put_at_one w at a h;
}

module _ {at m : ℕ} {xs a b : List ℤ} (first : Wrote at xs a b m) where
  pub wrote_length : length b ≡ length a
  wrote_length = ap length first.holds ∙ put_at_length xs at a first.fits

  -- Some words, and after them others.
  pub wrote_then : {n : ℕ} {ys c : List ℤ} → Wrote m ys b c n → Wrote at (xs ++ ys) a c n
  wrote_then {n} {ys} {c} second =
      let h = first.fits in
      let k = second.fits in
      let e = first.ends in
      let f = second.ends in
      record {
        fits = rw length-append (omega (arith, wrote_length));
        ends = rw length-append (omega arith);
        holds = second.holds ∙ rw (first.ends, first.holds) (put_at_then xs at a first.fits ys);
      }

-- ════════ Clauses ════════

-- The clauses by what they equal.
pub wrote_by : {at m : ℕ} {a b : List ℤ} {cs ds : List Clause} → cs ≡ ds → Wrote at (words_of ds) a b m → Wrote at (words_of cs) a b m
wrote_by {at} {m} {a} {b} e w = subst (λ (cs : List Clause). Wrote at (words_of cs) a b m) (sym e) w

module _ {at : ℕ} (xs ys : List Clause) {a : List ℤ} where
  pub room_first : Room at (xs ++ ys) a → Room at xs a
  room_first h = record { fits = omega (arith, rw (words_append xs ys, length-append) at h.fits) }

  module _ {b : List ℤ} {m : ℕ} (first : Wrote at (words_of xs) a b m) where
    pub room_second : Room at (xs ++ ys) a → Room m ys b
    room_second h = record {
      fits =
          let e = first.ends in
          let f = rw (words_append xs ys, length-append) at h.fits in
          omega (arith, wrote_length first);
    }

    pub clauses_then : {c : List ℤ} {n : ℕ} → Wrote m (words_of ys) b c n → Wrote at (words_of (xs ++ ys)) a c n
    clauses_then second = rw (words_append xs ys) (wrote_then first second)
