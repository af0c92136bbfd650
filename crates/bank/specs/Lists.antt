-- A resource's active requests, a list in order of entry.
use Rattle.std.specs.Prelude.{ℕ, ◌+◌, Bool, true, false, cond, not, ◌&&◌, ◌||◌, List, [], ◌∷◌, Some, None, Option, ◌==◌, nat_eq}
use Rattle.bank.specs.declared.request.Mode.{Mode}
use Rattle.bank.specs.declared.request.Mode.TheVariants.{Write, Read}
use Rattle.bank.specs.declared.request.Request.{Request}
use Rattle.bank.specs.declared.request.Standing.{Standing}
use Rattle.bank.specs.declared.request.Standing.TheVariants.{Holds, Waits}

abbrev pub is_write : Mode → Bool
is_write Write = true
is_write Read = false

-- how many requests pass a test, and whether one does
abbrev pub count : (Request → Bool) → List Request → ℕ
count test [] = 0
count test (a ∷ xs) = cond (test a) 1 0 + count test xs

abbrev pub any : (Request → Bool) → List Request → Bool
any test [] = false
any test (a ∷ xs) = test a || any test xs

-- whether a request holds, and the turns and departures before it, none where it does
abbrev pub holding : Standing → Bool
holding Holds = true
holding _ = false

abbrev pub turns_of : Standing → ℕ
turns_of (Waits t d) = t
turns_of _ = 0

abbrev pub departures_of : Standing → ℕ
departures_of (Waits t d) = d
departures_of _ = 0

abbrev pub holds : Request → Bool
holds a = holding a.standing

abbrev pub turns : Request → ℕ
turns a = turns_of a.standing

abbrev pub departures : Request → ℕ
departures a = departures_of a.standing

abbrev pub holds_write : Request → Bool
holds_write a = holds a && is_write a.mode

abbrev pub holds_read : Request → Bool
holds_read a = holds a && not (is_write a.mode)

abbrev pub holders : List Request → ℕ
holders xs = count holds xs

-- a party is active, or holds
abbrev pub is_active : ℕ → List Request → Bool
is_active p xs = any (λ a. nat_eq a.party p) xs

abbrev pub holds_by : ℕ → Request → Bool
holds_by p a = a.party == p && holds a

abbrev pub is_holder : ℕ → List Request → Bool
is_holder p xs = any (holds_by p) xs

-- a party's request, if it has one; the first if it has several
abbrev pub request_of : ℕ → List Request → Option Request
request_of p [] = None
request_of p (a ∷ xs) = cond (a.party == p) (Some a) (request_of p xs)

-- the list without the party that holds
abbrev pub without : ℕ → List Request → List Request
without p [] = []
without p (a ∷ xs) = cond (holds_by p a) xs (a ∷ without p xs)
