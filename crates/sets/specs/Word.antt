-- A 64-bit word as a set of the numbers 0 to 63, and the word of a set. Stands on Test.
use Rattle.std.specs.Prelude.{Bool, ◌&&◌, List, ℕ, zero, suc, ◌+◌, ◌*◌, ◌/◌, ◌%◌, ◌^◌, ◌==◌, nat_lt}
use Rattle.sets.specs.Test.{bit, size, members_from}

-- i is in the word w: it is below 64, and the binary digit i of w is 1
unfoldable pub has : ℕ → ℕ → Bool
has w i = nat_lt i 64 && (w / 2 ^ i % 2) == 1

-- what a word can hold of a set: its numbers below 64
unfoldable pub kept : (ℕ → Bool) → ℕ → Bool
kept s i = nat_lt i 64 && s i

-- the number whose binary digit i, of k digits, is 1 where i is in s
unfoldable pub digits_of : ℕ → (ℕ → Bool) → ℕ
digits_of zero s = 0
digits_of (suc k) s = bit (s zero) + 2 * digits_of k (λ i. s (suc i))

-- the word of a set
unfoldable pub word : (ℕ → Bool) → ℕ
unfolding digits_of
word s = digits_of 64 s

-- how many numbers a word has
unfoldable pub count : ℕ → ℕ
unfolding size
count w = size (has w) 64

-- the numbers of a word, rising
unfoldable pub members : ℕ → List ℕ
unfolding members_from
members w = members_from (has w) 0 64
