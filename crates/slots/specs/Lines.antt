-- One resource of k slots: its parties as they entered. The front ones hold, a slot each.
use Rattle.std.specs.Prelude.{ℕ, ◌+◌, ◌-◌, ◌/◌, ◌%◌, cond, List, [], ◌∷◌, take, drop, nat_lt}
use Rattle.bank.specs.declared.request.Mode.TheVariants.{Write}
use Rattle.bank.specs.declared.request.Request.{Request}
use Rattle.bank.specs.declared.request.Standing.TheVariants.{Holds, Waits}

-- who holds, and who waits, the next one first
abbrev pub holding : ℕ → List ℕ → List ℕ
holding k parties = take k parties

abbrev pub line : ℕ → List ℕ → List ℕ
line k parties = drop k parties

-- the request of party p with i others before it. Where i is below k it holds. Else i - k wait
-- before it, and every turn lets in k of them: it waits for the whole turns among these and one
-- more, and each place within a turn is a departure later than the place before
abbrev pub request_at : ℕ → ℕ → ℕ → Request
request_at k i p =
    cond (nat_lt i k) (record { party = p; mode = Write; standing = Holds })
    (record {
      party = p;
      mode = Write;
      standing = Waits ((i - k) / k + 1) ((i - k) % k + 1);
    })

abbrev pub requests_from : ℕ → ℕ → List ℕ → List Request
requests_from k i [] = []
requests_from k i (p ∷ ps) = request_at k i p ∷ requests_from k (i + 1) ps

-- the active requests
abbrev pub requests : ℕ → List ℕ → List Request
requests k parties = requests_from k 0 parties

-- the most turns: m parties make up m / k groups of k, the last one perhaps not full, and the first
-- of them holds
abbrev pub turn_limit : ℕ → ℕ → ℕ
turn_limit m k = (m + k - 1) / k - 1
