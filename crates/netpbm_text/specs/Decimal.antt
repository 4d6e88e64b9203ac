-- Numbers in decimal, as bytes.
-- Assumes nothing.
use Rattle.std.specs.Prelude.{cond, List, [], ◌∷◌, ◌++◌, ℕ, zero, suc, ◌+◌, ◌/◌, ◌%◌, ltb}

-- the byte of a decimal digit; 48 is `0`
abbrev pub digit : ℕ → ℕ
digit d = 48 + d

-- the decimal digits of n, the most significant first: n itself below ten, else those of n / 10 and then the last. The first
-- number is how many digits there may be
unfoldable pub decimal_up_to : ℕ → ℕ → List ℕ
decimal_up_to zero n = []
decimal_up_to (suc most) n =
    let front = decimal_up_to most (n / 10) in
    cond (ltb n 10) (digit n ∷ []) (front ++ (digit (n % 10) ∷ []))

-- a number in decimal, without leading zeros. It never has more than n + 1 digits
unfoldable pub decimal : ℕ → List ℕ
decimal n = decimal_up_to (suc n) n
