-- Decimal numbers of a few digits, without a leading zero. The digits of a number are std's
-- `decimal`.
use Rattle.std.specs.Prelude.{◌≡◌, ℕ, ◌+◌, ◌-◌, ◌*◌, ◌<◌, Bool, true, cond, not, ◌&&◌, ◌||◌}
use Rattle.std.specs.Prelude.{List, [], ◌∷◌, ◌++◌, take, drop, fold, slice_index, decimal}
use Rattle.std.specs.Prelude.{Some, None, Option, ◌==◌, nat_le, nat_lt}
use Prim.Native.Char.{code}
use Rattle.std.specs.Char.{is_ascii_digit}
use Rattle.std.specs.List.{prefix_len}
use Rattle.text.specs.declared.number.TheConstants.{DIGITS, NUMBER_END}

-- the number that a row of digits writes
abbrev pub value_of : List ℕ → ℕ
value_of ds = fold (λ n c. 10 * n + (c - code "0")) 0 ds

-- the first n bytes, all digits, are a number: one of them at least and DIGITS at most, and a zero
-- in front only alone
abbrev pub is_number : List ℕ → ℕ → Bool
is_number xs n = nat_lt 0 n && (nat_le n DIGITS && (not (slice_index xs 0 == code "0") || n == 1))

-- how many digits stand at the head of a list of bytes
abbrev pub digits_in : List ℕ → ℕ
digits_in xs = prefix_len is_ascii_digit xs

-- a number read at the head of a list of bytes, with the rest
abbrev pub read_number : List ℕ → Option (ℕ × List ℕ)
read_number xs =
    cond (is_number xs (digits_in xs))
    (Some (value_of (take (digits_in xs) xs), drop (digits_in xs) xs)) None

-- a number ends before these bytes
abbrev pub no_digit : List ℕ → Bool
no_digit [] = true
no_digit (b ∷ bs) = not (is_ascii_digit b)

-- what was read, written, is the bytes it was read from
abbrev pub IsWritten : List ℕ → Option (ℕ × List ℕ) → Type 0
IsWritten xs None = Unit {0}
IsWritten xs (Some p) = (xs ≡ decimal p.0 ++ p.1) × (p.0 < NUMBER_END) × (no_digit p.1 ≡ true)

-- reading what was written gives the number and the rest
abbrev pub ReadsBack : ℕ → Type 0
ReadsBack n =
    n < NUMBER_END
    → (rest : List ℕ) → no_digit rest ≡ true → read_number (decimal n ++ rest) ≡ Some (n, rest)
