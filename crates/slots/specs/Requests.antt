-- The requests of a slot resource, from its parties in order of entry.
use Rattle.std.specs.Prelude.{◌≡◌, ℕ, ◌+◌, ◌-◌, ◌*◌, ◌/◌, ◌%◌, ◌<◌, ◌≤◌, min, Bool, true, false, cond, List, [], ◌∷◌, length, nat_lt, refl}
use Rattle.std.proofs.Common.{sym, ap, subst, ◌∙◌, ⊎_elim, arith, add-mul, div-mul-le_self, le-div_iff_mul-le, mod-lt}
use Rattle.std.proofs.Math.Nat.{add-div_right}
use Rattle.std.specs.List.{AllByRecursion}
use Rattle.std.proofs.lemmas.Bool.{cases_lt, cond-true, cond-false, lt-ltb, le-ltb, both_ways}
use Rattle.bank.specs.declared.size.TheConstants.{PARTIES}
use Rattle.bank.specs.declared.request.Mode.TheVariants.{Write}
use Rattle.bank.specs.declared.request.Request.{Request}
use Rattle.bank.specs.Lists.{count, holders, holds, holds_write, holds_read}
use Rattle.bank.specs.Questions.{Told}
use Rattle.bank.specs.Meaning.{Lawful, Sound}
use Rattle.slots.specs.Lines.{request_at, requests_from, requests, turn_limit}
use Rattle.bank.specs.declared.request.Standing.TheVariants.{Holds, Waits}

-- one that holds, and one that waits
abbrev pub held : ℕ → Request
held p = record { party = p; mode = Write; standing = Holds }

abbrev pub waiting : ℕ → ℕ → ℕ → Request
waiting k i p = record { party = p; mode = Write; standing = Waits ((i - k) / k + 1) ((i - k) % k + 1) }

pub at_front : (k i p : ℕ) → i < k → request_at k i p ≡ held p
at_front k i p l = cond-true (nat_lt i k) _ _ (lt-ltb i k l)

pub in_line : (k i p : ℕ) → k ≤ i → request_at k i p ≡ waiting k i p
in_line k i p l = cond-false (nat_lt i k) _ _ (le-ltb i k l)

-- the holders
count_held : (test : Request → Bool) → ((p : ℕ) → test (held p) ≡ true) → ((k i p : ℕ) → test (waiting k i p) ≡ false) → (k i : ℕ) (ps : List ℕ) → count test (requests_from k i ps) ≡ min (k - i) (length ps)
count_held test front line k i [] = omega arith
count_held test front line k i (p ∷ ps) =
    let more = count_held test front line k (i + 1) ps in
    let rest = count test (requests_from k (i + 1) ps) in
    ⊎_elim
    (λ l. ap (λ b. cond b 1 0 + rest) (ap test (at_front k i p l) ∙ front p) ∙ omega arith)
    (λ l. ap (λ b. cond b 1 0 + rest) (ap test (in_line k i p l) ∙ line k i p) ∙ omega arith)
    (cases_lt i k)

no_readers : (k i : ℕ) (ps : List ℕ) → count holds_read (requests_from k i ps) ≡ 0
no_readers k i [] = refl
no_readers k i (p ∷ ps) =
    let more = no_readers k (i + 1) ps in
    let rest = count holds_read (requests_from k (i + 1) ps) in
    ⊎_elim (λ l. ap (λ (a : Request). cond (holds_read a) 1 0 + rest) (at_front k i p l) ∙ omega arith) (λ l. ap (λ (a : Request). cond (holds_read a) 1 0 + rest) (in_line k i p l) ∙ omega arith) (cases_lt i k)

pub holders_of_lem : (k i : ℕ) (ps : List ℕ) → holders (requests_from k i ps) ≡ min (k - i) (length ps)
holders_of_lem = count_held holds (λ p. refl) (λ k i p. refl)

-- a waiting request has turns within the turn limit
pub limit_is : (m k : ℕ) → 1 ≤ m → 1 ≤ k → turn_limit m k ≡ (m - 1) / k
limit_is m k one pos =
    let e : m + k - 1 ≡ (m - 1) + k = omega arith in
    let f : (m + k - 1) / k ≡ (m - 1) / k + 1 = ap (λ n. n / k) e ∙ add-div_right (m - 1) pos in
    omega arith

turns_few : (m k i : ℕ) → 1 ≤ k → k ≤ i → i < m → (i - k) / k + 1 ≤ turn_limit m k
turns_few m k i pos l few =
    let q = (i - k) / k in
    let whole : (q + 1) * k ≤ m - 1 = omega (arith, add-mul q 1 k, div-mul-le_self (i - k) k) in
    let le : q + 1 ≤ (m - 1) / k = (le-div_iff_mul-le {k = k} {x = q + 1} {y = m - 1} pos).1 whole in
    omega (arith, limit_is m k (omega arith) pos)

-- at most k in mode W hold, beside no reader, and a waiting request has k holders before it
lawful_at : (t : Told) (r m k h i p : ℕ) → t.limit r Write ≡ turn_limit m k → 1 ≤ k → p < PARTIES → i < m → (k ≤ i → k ≤ h) → Lawful t r h (request_at k i p)
lawful_at t r m k h i p limit pos small few full =
    ⊎_elim
    (λ (f : i < k). subst (Lawful t r h) (sym (at_front k i p f)) (record { party = small; known = refl; holding = λ _. (refl, refl); waiting = λ e. absurd (both_ways true e refl) }))
    (λ (l : k ≤ i).
    subst (Lawful t r h) (sym (in_line k i p l))
    (record {
      party = small;
      known = refl;
      holding = λ e. absurd (both_ways false refl e);
      waiting = λ _. (omega arith, omega (arith, limit, turns_few m k i pos l few), omega arith, omega (arith, full l, mod-lt (i - k) pos));
    }))
    (cases_lt i k)

all_lawful : (t : Told) (r m k h i : ℕ) (ps : List ℕ) → t.limit r Write ≡ turn_limit m k → 1 ≤ k → AllByRecursion (λ p. p < PARTIES) ps → i + length ps ≤ m → (k < i + length ps → k ≤ h) → AllByRecursion (Lawful t r h) (requests_from k i ps)
all_lawful t r m k h i [] limit pos small few full = tt
all_lawful t r m k h i (p ∷ ps) limit pos small few full = (lawful_at t r m k h i p limit pos small.0 (omega arith) (λ l. full (omega arith)), all_lawful t r m k h (i + 1) ps limit pos small.1 (omega arith) (λ l. full (omega arith)))

pub requests_sound : (t : Told) (r m k : ℕ) (ps : List ℕ) → t.limit r Write ≡ turn_limit m k → t.slots r ≡ k → 1 ≤ k → AllByRecursion (λ p. p < PARTIES) ps → length ps ≤ m → Sound t r (requests k ps)
requests_sound t r m k ps limit slots pos small few =
    let h = holders_of_lem k 0 ps in
    let w = count_held holds_write (λ p. refl) (λ k i p. refl) k 0 ps in
    record {
      requests = all_lawful t r m k (holders (requests k ps)) 0 ps limit pos small (omega arith) (λ l. omega arith);
      writers = omega arith;
      apart = λ _. no_readers k 0 ps;
    }
