-- Laws of reading from the left: what is read one after another may be taken in any groups. Assumes nothing.
use mathlib.Core.Path.{◌≡◌, refl, sym, ◌∙◌, ap}
use mathlib.Core.List.{List, [], ◌∷◌, ◌++◌, append-nil, append_assoc}
use Prim.Native.Nat.{ℕ}
use Rattle.text.specs.Readings.{Reading, found, fault, Reader, ahead, and_then, in_turn}

pub ahead_none : (r : Reading) → ahead [] r ≡ r
ahead_none (found ms p t) = refl
ahead_none (fault p) = refl

pub ahead_ahead : (ns ms : List ℕ) (r : Reading) → ahead ns (ahead ms r) ≡ ahead (ns ++ ms) r
ahead_ahead ns ms (found ks p t) = ap (λ (l : List ℕ). found l p t) (sym (append_assoc ns ms ks))
ahead_ahead ns ms (fault p) = refl

pub then_ahead : (ns : List ℕ) (r : Reading) (q : Reader) → and_then (ahead ns r) q ≡ ahead ns (and_then r q)
then_ahead ns (found ms p t) q = sym (ahead_ahead ns ms (q p t))
then_ahead ns (fault p) q = refl

-- A reader may be put for another that finds the same.
pub then_by : (r : Reading) (a b : Reader) → ((p : ℕ) (t : List ℕ) → a p t ≡ b p t) → and_then r a ≡ and_then r b
then_by (found ns p t) a b e = ap (ahead ns) (e p t)
then_by (fault p) a b e = refl

pub then_none : (r : Reading) → and_then r (in_turn []) ≡ r
then_none (found ns p t) = ap (λ (l : List ℕ). found l p t) (append-nil ns)
then_none (fault p) = refl

pub then_then : (r : Reading) (a : Reader) (rs : List Reader) → and_then (and_then r a) (in_turn rs) ≡ and_then r (in_turn (a ∷ rs))
then_then (found ns p t) a rs = then_ahead ns (a p t) (in_turn rs)
then_then (fault p) a rs = refl

pub in_turn_one : (a : Reader) (p : ℕ) (t : List ℕ) → in_turn (a ∷ []) p t ≡ a p t
in_turn_one a p t = then_none (a p t)

pub then_one : (r : Reading) (a : Reader) → and_then r (in_turn (a ∷ [])) ≡ and_then r a
then_one r a = then_by r (in_turn (a ∷ [])) a (in_turn_one a)

-- Readers in turn, joined to others.
pub then_in_turn : (r : Reading) (rs qs : List Reader) → and_then (and_then r (in_turn rs)) (in_turn qs) ≡ and_then r (in_turn (rs ++ qs))
then_in_turn r [] qs = ap (λ (x : Reading). and_then x (in_turn qs)) (then_none r)
then_in_turn r (a ∷ rs) qs =
    ap (λ (x : Reading). and_then x (in_turn qs)) (sym (then_then r a rs))
    ∙ then_in_turn (and_then r a) rs qs
    ∙ then_then r a (rs ++ qs)

pub in_turn_append : (rs qs : List Reader) (p : ℕ) (t : List ℕ) → in_turn (rs ++ qs) p t ≡ and_then (in_turn rs p t) (in_turn qs)
in_turn_append [] qs p t = sym (ahead_none (in_turn qs p t))
in_turn_append (a ∷ rs) qs p t = sym (then_in_turn (a p t) rs qs)
