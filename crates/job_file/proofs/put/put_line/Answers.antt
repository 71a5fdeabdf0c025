-- Each part of a line is put after those before it.
use Rattle.std.proofs.Common.{◌≡◌, ◌++◌, ◌+◌, ◌*◌, ◌^◌, ◌≤◌, ◌<◌, List, ℕ, length, sym, ap, arith, append_assoc}
use Rattle.text.specs.Numbers.{bytes_of, decimal}
use Rattle.text.specs.Promise.{Puts}
use Rattle.text.proofs.Buffers.{Put, room_first, put_there, puts_then}
use Rattle.job_file.specs.Text.{line_of}
use Rattle.job_file.proofs.put.put_line.Goals as goal

-- The line with its last number and the byte after it as one part.
abbrev in_parts : List ℕ → ℕ → List ℕ → ℕ → List ℕ
in_parts a m b n = a ++ decimal m ++ b ++ (decimal n ++ bytes_of "\n")

in_parts_is : (a : List ℕ) (m : ℕ) (b : List ℕ) (n : ℕ) → in_parts a m b n ≡ line_of a m b n
in_parts_is a m b n = sym (append_assoc (a ++ decimal m ++ b) (decimal n) (bytes_of "\n"))

module _ (a : List ℕ) (m : ℕ) (b : List ℕ) (n : ℕ) {o : List ℕ} (h : length (line_of a m b n) ≤ length o) (small : length o * 1 < 2 ^ 63) where
  line_put : {k1 k2 k3 k4 : ℕ} {o1 o2 o3 o4 : List ℕ}
      → Puts a 0 o k1 o1 → Puts (decimal m) k1 o1 k2 o2 → Puts b k2 o2 k3 o3 → Puts (decimal n ++ bytes_of "\n") k3 o3 k4 o4
      → Put (line_of a m b n) 0 o k4 o4
  line_put opened one parted two =
      let whole : 0 + length (in_parts a m b n) ≤ length o = omega (arith, ap length (in_parts_is a m b n)) in
      let to-between = room_first (a ++ decimal m ++ b) (decimal n ++ bytes_of "\n") 0 (length o) whole in
      let to_first = room_first (a ++ decimal m) b 0 (length o) to-between in
      let to-opening = room_first a (decimal m) 0 (length o) to_first in
      rw (← in_parts_is a m b n)
      (puts_then whole small
      (puts_then to-between small
      (puts_then to_first small
      (put_there to-opening small opened) one) parted) two)

pub returns : goal.returns
returns c =
    let a = c.args in
    line_put a.opening.now a.first a.between.now a.second c.requires (omega arith)
    c.put_bytes-opened.ensures c.put_number-one.ensures c.put_bytes-parted.ensures c.put_ended.ensures
