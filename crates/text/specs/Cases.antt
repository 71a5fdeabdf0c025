-- Worked cases of numbers and words, each by computing. Assumes nothing.
use Rattle.std.specs.Prelude.{◌≡◌, refl, true, false, []}
use Rattle.text.specs.Numbers.{bytes_of, decimal, is_number}
use Rattle.answers.specs.Limits.{largest_number}
use Rattle.text.specs.Readings.{word_of, past_word}
use Rattle.text.specs.Promise.{no_number, scanned}

-- ════════ Numbers ════════

pub zero_is : is_number (bytes_of "0") ≡ true
unfolding is_number decimal largest_number
zero_is = refl

pub ten_is : is_number (bytes_of "10") ≡ true
unfolding is_number decimal largest_number
ten_is = refl

pub largest_is : is_number (bytes_of "2147483647") ≡ true
unfolding is_number decimal largest_number
largest_is = refl

-- ════════ What is no number ════════

pub nothing : is_number [] ≡ false
unfolding is_number decimal largest_number
nothing = refl

pub two_zeros : is_number (bytes_of "00") ≡ false
unfolding is_number decimal largest_number
two_zeros = refl

pub leading_zero : is_number (bytes_of "01") ≡ false
unfolding is_number decimal largest_number
leading_zero = refl

pub too_large : is_number (bytes_of "2147483648") ≡ false
unfolding is_number decimal largest_number
too_large = refl

pub plus : is_number (bytes_of "+1") ≡ false
unfolding is_number decimal largest_number
plus = refl

pub minus : is_number (bytes_of "-1") ≡ false
unfolding is_number decimal largest_number
minus = refl

-- A byte below the digits, such as a space or a tab, is worth 0, and is not what 0 is printed as.
pub with_space : is_number (bytes_of "1 ") ≡ false
unfolding is_number decimal largest_number
with_space = refl

pub with_tab : is_number (bytes_of "1\t") ≡ false
unfolding is_number decimal largest_number
with_tab = refl

-- ════════ Words ════════

pub first_word : word_of (bytes_of "12 3\n") ≡ bytes_of "12"
first_word = refl

pub after_it : past_word (bytes_of "12 3\n") ≡ bytes_of " 3\n"
after_it = refl

pub no_word : word_of (bytes_of "\n12") ≡ []
no_word = refl

pub state_of_number : scanned (bytes_of "12") ≡ 13
unfolding scanned is_number decimal largest_number
state_of_number = refl

pub state_of_other : scanned (bytes_of "012") ≡ no_number
unfolding scanned is_number decimal largest_number
state_of_other = refl
