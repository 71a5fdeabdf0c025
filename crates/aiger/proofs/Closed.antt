-- A closed reader finds in a text what it finds wherever the part that it read stands, before any text that passes a test; such readers in turn are
-- closed where each finds something only before texts that the one ahead of it may be followed by. Assumes nothing.
use mathlib.Core.Path.{◌≡◌, refl, sym, ◌∙◌, ap, subst, fun_ext}
use mathlib.Core.Bool.{Bool, true, false, not, cond}
use mathlib.Core.List.{List, [], ◌∷◌, ◌++◌, map, append_assoc}
use Prim.Native.Nat.{ℕ, ◌+◌}
use native.Mathlib.Nat.{add-zero}
use native.Mathlib.Omega.{arith}
use borrow.Author.Tests.{not-true}
use lib.ListN.{length, length-append}
use Rattle.text.specs.Readings.{Reading, found, fault, Reader, ahead, and_then, in_turn}
use Rattle.text.proofs.ReadingLaws.{in_turn_append, in_turn_one}

-- The part of a text that was read, and that the same is found in it at any place and before any text that passes the test.
pub record Read (before : List ℕ → Bool) (r : Reader) (p : ℕ) (t ns : List ℕ) (q : ℕ) (left : List ℕ) : Type 0 where
  pub part : List ℕ
  pub text_is : t ≡ part ++ left
  pub place_is : q ≡ p + length part
  pub again : (at : ℕ) (rest : List ℕ) → before rest ≡ true → r at (part ++ rest) ≡ found ns (at + length part) rest

abbrev pub ReadAs : (List ℕ → Bool) → Reader → ℕ → List ℕ → Reading → Type 0
ReadAs before r p t (found ns q left) = Read before r p t ns q left
ReadAs before r p t (fault q) = Unit

abbrev pub Closed : (List ℕ → Bool) → Reader → Type 0
Closed before r = (p : ℕ) (t : List ℕ) → ReadAs before r p t (r p t)

abbrev pub finds : Reading → Bool
finds (found ns p t) = true
finds (fault p) = false

-- It finds something only in texts that pass the test.
abbrev pub Needs : (List ℕ → Bool) → Reader → Type 0
Needs test r = (p : ℕ) (t : List ℕ) → finds (r p t) ≡ true → test t ≡ true

abbrev pub anything : List ℕ → Bool
anything t = true

pub needs_nothing : (r : Reader) → Needs anything r
needs_nothing r p t f = refl

-- A reader may be put for another that finds the same.
module _ (a b : Reader) (e : (p : ℕ) (t : List ℕ) → a p t ≡ b p t) where
  pub closed_by : (before : List ℕ → Bool) → Closed before a → Closed before b
  closed_by before c = subst (Closed before) (fun_ext (λ p. fun_ext (e p))) c

  pub needs_by : (test : List ℕ → Bool) → Needs test a → Needs test b
  needs_by test n = subst (Needs test) (fun_ext (λ p. fun_ext (e p))) n

-- ════════ Other numbers kept ════════

abbrev pub kept : (List ℕ → List ℕ) → Reading → Reading
kept f (found ns p t) = found (f ns) p t
kept f (fault p) = fault p

abbrev pub keeping : (List ℕ → List ℕ) → Reader → Reader
keeping f r p t = kept f (r p t)

module _ (f : List ℕ → List ℕ) (r : Reader) where
  pub closed_keeping : (before : List ℕ → Bool) → Closed before r → Closed before (keeping f r)
  closed_keeping before c p t = go (r p t) (c p t)
    where
      go : (x : Reading) → ReadAs before r p t x → ReadAs before (keeping f r) p t (kept f x)
      go (found ns q left) k =
          record {
            part = k.part;
            text_is = k.text_is;
            place_is = k.place_is;
            again = λ at rest h. ap (kept f) (k.again at rest h);
          }
      go (fault q) k = tt

  pub needs_keeping : (test : List ℕ → Bool) → Needs test r → Needs test (keeping f r)
  needs_keeping test n p t h = n p t (sym (finds_kept (r p t)) ∙ h)
    where
      finds_kept : (x : Reading) → finds (kept f x) ≡ finds x
      finds_kept (found ns q left) = refl
      finds_kept (fault q) = refl

-- ════════ One after another ════════

-- What comes after may go by the numbers found.
abbrev pub followed : Reading → (List ℕ → Reader) → Reading
followed (found ns p t) k = k ns p t
followed (fault p) k = fault p

module _ (between before : List ℕ → Bool) (r : Reader) (k : List ℕ → Reader) where
  abbrev pub both : Reader
  both p t = followed (r p t) k

  joined : (p : ℕ) (t ns : List ℕ) (q : ℕ) (u ms : List ℕ) (o : ℕ) (v : List ℕ) → Needs between (k ns) → Read between r p t ns q u
      → Read before (k ns) q u ms o v → Read before both p t ms o v
  joined p t ns q u ms o v n f g =
      record {
        part = f.part ++ g.part;
        text_is = f.text_is ∙ ap (λ (x : List ℕ). f.part ++ x) g.text_is ∙ sym (append_assoc f.part g.part v);
        place_is = rw (length-append f.part g.part) (omega (arith, f.place_is, g.place_is));
        again = again_both;
      }
    where
      again_both : (at : ℕ) (rest : List ℕ) → before rest ≡ true
          → both at ((f.part ++ g.part) ++ rest) ≡ found ms (at + length (f.part ++ g.part)) rest
      again_both at rest h =
          let second = g.again (at + length f.part) rest h in
          let first = f.again at (g.part ++ rest) (n (at + length f.part) (g.part ++ rest) (ap finds second)) in
          let place : at + length f.part + length g.part ≡ at + length (f.part ++ g.part) =
          rw (length-append f.part g.part) (omega arith) in
          ap (both at) (append_assoc f.part g.part rest)
          ∙ ap (λ (x : Reading). followed x k) first
          ∙ second
          ∙ ap (λ (x : ℕ). found ms x rest) place

  pub closed_both : Closed between r → ((ns : List ℕ) → Closed before (k ns)) → ((ns : List ℕ) → Needs between (k ns)) → Closed before both
  closed_both c d n p t = go (r p t) (c p t)
    where
      after : (ns : List ℕ) (q : ℕ) (u : List ℕ) (x : Reading) → Read between r p t ns q u → ReadAs before (k ns) q u x → ReadAs before both p t x
      after ns q u (found ms o v) f g = joined p t ns q u ms o v (n ns) f g
      after ns q u (fault o) f g = tt

      go : (x : Reading) → ReadAs between r p t x → ReadAs before both p t (followed x k)
      go (found ns q u) f = after ns q u (k ns q u) f (d ns q u)
      go (fault q) f = tt

-- ════════ One of two ════════

-- A reader that finds what another one finds wherever that finds something.
found_alike : (before : List ℕ → Bool) (a b : Reader) → ((p : ℕ) (t : List ℕ) → finds (a p t) ≡ true → b p t ≡ a p t) → (p : ℕ) (t : List ℕ) (x : Reading)
    → ReadAs before a p t x → ReadAs before b p t x
found_alike before a b alike p t (found ns q left) k =
    record {
      part = k.part;
      text_is = k.text_is;
      place_is = k.place_is;
      again = λ at rest h. let e = k.again at rest h in alike at (k.part ++ rest) (ap finds e) ∙ e;
    }
found_alike before a b alike p t (fault q) k = tt

-- Which of two is due is told by the text, and each finds something only where it is due.
module _ (before test : List ℕ → Bool) (a b : Reader) where
  abbrev either : Reader
  either p t = cond (test t) (a p t) (b p t)

  pub closed_either : Closed before a → Closed before b → Needs test a → Needs (λ t. not (test t)) b
      → Closed before (λ p t. cond (test t) (a p t) (b p t))
  closed_either c d m n p t = go (test t)
    where
      as_first : (at : ℕ) (u : List ℕ) → finds (a at u) ≡ true → either at u ≡ a at u
      as_first at u f = rw (m at u f)

      as_second : (at : ℕ) (u : List ℕ) → finds (b at u) ≡ true → either at u ≡ b at u
      as_second at u f = rw (not-true (test u) (n at u f))

      go : (x : Bool) → ReadAs before either p t (cond x (a p t) (b p t))
      go true = found_alike before a either as_first p t (a p t) (c p t)
      go false = found_alike before b either as_second p t (b p t) (d p t)

pub needs_either : (choice test : List ℕ → Bool) (a b : Reader) → Needs test a → Needs test b
    → Needs test (λ p t. cond (choice t) (a p t) (b p t))
needs_either choice test a b m n p t = go (choice t)
  where
    go : (x : Bool) → finds (cond x (a p t) (b p t)) ≡ true → test t ≡ true
    go true = m p t
    go false = n p t

-- ════════ In turn ════════

abbrev then_ahead_of : Reader → List ℕ → Reader
then_ahead_of r ns = keeping (λ (ms : List ℕ). ns ++ ms) r

pub ahead_is_kept : (ns : List ℕ) (x : Reading) → kept (λ (ms : List ℕ). ns ++ ms) x ≡ ahead ns x
ahead_is_kept ns (found ms p t) = refl
ahead_is_kept ns (fault p) = refl

and_then_is : (x : Reading) (r : Reader) → followed x (then_ahead_of r) ≡ and_then x r
and_then_is (found ns p t) r = ahead_is_kept ns (r p t)
and_then_is (fault p) r = refl

module _ (between before : List ℕ → Bool) (r q : Reader) where
  pub closed_then : Closed between r → Closed before q → Needs between q → Closed before (λ p t. and_then (r p t) q)
  closed_then c d n =
      closed_by (both between before r (then_ahead_of q)) (λ p t. and_then (r p t) q) (λ p t. and_then_is (r p t) q) before
      (closed_both between before r (then_ahead_of q) c (λ ns. closed_keeping (λ (ms : List ℕ). ns ++ ms) q before d)
      (λ ns. needs_keeping (λ (ms : List ℕ). ns ++ ms) q between n))

pub needs_then : (test : List ℕ → Bool) (r q : Reader) → Needs test r → Needs test (λ p t. and_then (r p t) q)
needs_then test r q n p t h = n p t (first (r p t) h)
  where
    first : (x : Reading) → finds (and_then x q) ≡ true → finds x ≡ true
    first (found ns o u) e = refl
    first (fault o) e = e

pub closed_none : (before : List ℕ → Bool) → Closed before (in_turn [])
closed_none before p t =
    record {
      part = [];
      text_is = refl;
      place_is = sym (add-zero p);
      again = λ at rest h. ap (λ (x : ℕ). found [] x rest) (sym (add-zero at));
    }

module _ (before : List ℕ → Bool) where
  pub closed_one : (r : Reader) → Closed before r → Closed before (in_turn (r ∷ []))
  closed_one r c = closed_by r (in_turn (r ∷ [])) (λ p t. sym (in_turn_one r p t)) before c

  pub closed_joined : (rs qs : List Reader) → Closed anything (in_turn rs) → Closed before (in_turn qs) → Closed before (in_turn (rs ++ qs))
  closed_joined rs qs c d =
      closed_by (λ p t. and_then (in_turn rs p t) (in_turn qs)) (in_turn (rs ++ qs)) (λ p t. sym (in_turn_append rs qs p t)) before
      (closed_then anything before (in_turn rs) (in_turn qs) c d (needs_nothing (in_turn qs)))

pub closed_each : (f : ℕ → Reader) → ((j : ℕ) → Closed anything (f j)) → (js : List ℕ) → Closed anything (in_turn (map f js))
closed_each f c [] = closed_none anything
closed_each f c (j ∷ js) =
    closed_then anything anything (f j) (in_turn (map f js)) (c j) (closed_each f c js) (needs_nothing (in_turn (map f js)))
