-- Laws of a lent buffer of which a part is written, and of the promise `Puts`. Assumes nothing.
use mathlib.Core.Path.{◌≡◌, refl, sym, ◌∙◌, ap}
use mathlib.Core.Bool.{true}
use mathlib.Core.List.{List, [], ◌∷◌, ◌++◌}
use Prim.Native.Nat.{ℕ, ◌+◌, ◌*◌, ◌^◌, ◌≤◌, ◌<◌, min}
use native.Mathlib.Numerals.{add-one}
use native.Mathlib.Omega.{arith}
use borrow.Author.Tests.{le-leb}
use lib.Dec.{leb}
use lib.ListN.{length, get_or, take, set, length-append}
use lib.Seq.{take-suc, length-take-le, drop-drop}
use Rattle.answers.proofs.PutAt.{put_at, put_at_one, put_at_length, put_at_then}
use Rattle.text.specs.Promise.{placed, largest_size, Puts}

-- ════════ From a place on ════════

placed_is : (t : List ℕ) (at : ℕ) (o : List ℕ) → placed t at o ≡ put_at t at o
placed_is t at o = rw (drop-drop (length t) at o)

pub placed_one : (b at : ℕ) (o : List ℕ) → at < length o → set o at b ≡ placed (b ∷ []) at o
placed_one b at o h = put_at_one b at o h ∙ sym (placed_is (b ∷ []) at o)

module _ (at : ℕ) (o : List ℕ) where
  pub length_placed : (t : List ℕ) → at + length t ≤ length o → length (placed t at o) ≡ length o
  length_placed t h = ap length (placed_is t at o) ∙ put_at_length t at o h

  -- What is put after a text that was put.
  pub placed_append : (s : List ℕ) → at + length s ≤ length o → (t : List ℕ) → placed t (at + length s) (placed s at o) ≡ placed (s ++ t) at o
  placed_append s h t =
      placed_is t (at + length s) (placed s at o)
      ∙ ap (put_at t (at + length s)) (placed_is s at o)
      ∙ put_at_then s at o h t
      ∙ sym (placed_is (s ++ t) at o)

-- ════════ One text after another ════════

-- The buffer after a text was put at a place where it fits, and the place after the text.
pub record Put (text : List ℕ) (at : ℕ) (old : List ℕ) (next : ℕ) (new : List ℕ) : Type 0 where
  pub after : next ≡ at + length text
  pub held : new ≡ placed text at old

pub put_byte : (b at : ℕ) (o : List ℕ) → at < length o → Put (b ∷ []) at o (at + 1) (set o at b)
put_byte b at o h = record { after = refl; held = placed_one b at o h }

pub put_then : {s t : List ℕ} {at n m : ℕ} {o p q : List ℕ} → at + length s ≤ length o
    → Put s at o n p → Put t n p m q → Put (s ++ t) at o m q
put_then {s} {t} {at} {n} {m} {o} {p} {q} h a b =
    record {
      after = b.after ∙ rw (a.after, length-append) (omega arith);
      held = b.held ∙ rw (a.after, a.held) (placed_append at o s h t);
    }

pub put_length : {t : List ℕ} {at n : ℕ} {o p : List ℕ} → at + length t ≤ length o → Put t at o n p → length p ≡ length o
put_length {t} {at} {n} {o} {p} h a = ap length a.held ∙ length_placed at o t h

-- Where both texts fit so does the first, and room for the second is left.
pub room_first : (s t : List ℕ) (at room : ℕ) → at + length (s ++ t) ≤ room → at + length s ≤ room
room_first s t at room h = omega (arith, length-append s t)

pub room_next : (t : List ℕ) {s : List ℕ} {at n : ℕ} {o p : List ℕ} → at + length (s ++ t) ≤ length o → Put s at o n p → n + length t ≤ length p
room_next t {s} {at} {n} {o} {p} h a =
    let both = length-append s t in
    let first : at + length s ≤ length o = omega arith in
    omega (arith, a.after, put_length first a)

-- A byte after a text.
module _ {t : List ℕ} {at n : ℕ} {o p : List ℕ} (h : at + length t < length o) (a : Put t at o n p) where
  room_before : at + length t ≤ length o
  room_before = omega arith

  inside_after : n < length p
  inside_after = omega (arith, a.after, put_length room_before a)

  pub put_closed : (b : ℕ) → Put (t ++ (b ∷ [])) at o (n + 1) (set p n b)
  put_closed b = put_then room_before a (put_byte b n p inside_after)

-- A text that is read and put byte by byte.
module _ (text : List ℕ) (at i : ℕ) {o p : List ℕ} (h : i < length text) (fits : at + length text ≤ length o) (so_far : Put (take i text) at o (at + i) p) where
  pub put_next : Put (take (i + 1) text) at o (at + (i + 1)) (set p (at + i) (get_or text i 0))
  put_next =
      let before : i ≤ length text = omega arith in
      let room : at + length (take i text) ≤ length o = rw (length-take-le i text before) (omega arith) in
      let inside : at + i < length p = rw (put_length room so_far) (omega arith) in
      let next : at + (i + 1) ≡ at + i + 1 = omega arith in
      let more : take (i + 1) text ≡ take i text ++ (get_or text i 0 ∷ []) = rw (add-one, take-suc text i 0 h) in
      rw (next, more) (put_then room so_far (put_byte (get_or text i 0) (at + i) p inside))

-- ════════ Where it fits, and where not ════════

module _ (t : List ℕ) (at : ℕ) (o : List ℕ) {n : ℕ} (e : n ≡ min (at + length t) largest_size) where
  pub puts_there : at + length t ≤ length o → {p : List ℕ} → p ≡ placed t at o → Puts t at o n p
  puts_there h held =
      let fits : leb (at + length t) (length o) ≡ true = le-leb _ _ h in
      record { after = e; held = rw fits held }

pub put_there : {t : List ℕ} {at : ℕ} {o : List ℕ} {n : ℕ} {p : List ℕ} → at + length t ≤ length o → length o * 1 < 2 ^ 63
    → Puts t at o n p → Put t at o n p
put_there {t} {at} {o} {n} {p} h small a =
    let fits : leb (at + length t) (length o) ≡ true = le-leb _ _ h in
    record { after = omega (arith, a.after); held = rw fits at a.held }

-- A text that is put after another where both fit.
pub puts_then : {s t : List ℕ} {at n m : ℕ} {o p q : List ℕ} → at + length (s ++ t) ≤ length o → length o * 1 < 2 ^ 63
    → Put s at o n p → Puts t n p m q → Put (s ++ t) at o m q
puts_then {s} {t} {at} {n} {m} {o} {p} {q} h small a b =
    let first = room_first s t at (length o) h in
    put_then first a (put_there (room_next t h a) (omega (arith, put_length first a)) b)
