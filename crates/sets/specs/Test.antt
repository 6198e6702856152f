-- A set of numbers is a test: which numbers pass. Its operations, the least number that passes, how many pass, and sums.
-- Nothing stands below this file.
use Rattle.std.specs.Prelude.{Bool, true, false, not, ◌&&◌, ◌||◌, List, [], ◌∷◌, ℕ, zero, suc, ◌+◌, ◌==◌, nat_lt, nat_le, if◌then◌else◌, Option, Some, None}

-- s with x in it
unfoldable pub insert : ℕ → (ℕ → Bool) → ℕ → Bool
insert x s i = i == x || s i

-- s with x left out
unfoldable pub remove : ℕ → (ℕ → Bool) → ℕ → Bool
remove x s i = s i && not (i == x)

-- what is in a, in b or in both
unfoldable pub either : (ℕ → Bool) → (ℕ → Bool) → ℕ → Bool
either a b i = a i || b i

-- what is in both a and b
unfoldable pub both : (ℕ → Bool) → (ℕ → Bool) → ℕ → Bool
both a b i = a i && b i

-- what is in a and not in b
unfoldable pub less : (ℕ → Bool) → (ℕ → Bool) → ℕ → Bool
less a b i = a i && not (b i)

-- the numbers below n
unfoldable pub under : ℕ → ℕ → Bool
under n i = nat_lt i n

-- the numbers 1 to n
unfoldable pub up_to : ℕ → ℕ → Bool
up_to n i = nat_le 1 i && nat_le i n

-- the least number below n that passes the test, or n where none does
unfoldable pub least : (ℕ → Bool) → ℕ → ℕ
least p zero = zero
least p (suc n) = let r = least (λ i. p (suc i)) n in if p zero then zero else suc r

-- the least number below n that passes the test, if one does
unfoldable pub first_passing : (ℕ → Bool) → ℕ → Option ℕ
unfolding least
first_passing p n = let i = least p n in if nat_lt i n then Some i else None

-- every number below n passes the test
unfoldable pub every : (ℕ → Bool) → ℕ → Bool
every p zero = true
every p (suc n) = let r = every p n in p n && r

-- some number below n passes the test
unfoldable pub any : (ℕ → Bool) → ℕ → Bool
any p zero = false
any p (suc n) = let r = any p n in p n || r

-- 1 for a number that passes, 0 for one that does not
abbrev pub bit : Bool → ℕ
bit true = 1
bit false = 0

-- f 0 + .. + f (n - 1)
unfoldable pub sum_to : (ℕ → ℕ) → ℕ → ℕ
sum_to f zero = 0
sum_to f (suc n) = sum_to f n + f n

-- how many numbers below n pass the test
unfoldable pub size : (ℕ → Bool) → ℕ → ℕ
unfolding sum_to
size p n = sum_to (λ i. bit (p i)) n

-- the members of a set among the k numbers from i on, rising
unfoldable pub members_from : (ℕ → Bool) → ℕ → ℕ → List ℕ
members_from s i zero = []
members_from s i (suc k) = let rest = members_from s (suc i) k in if s i then i ∷ rest else rest
