-- The requests of a slot resource while parties come and go.
use Rattle.std.specs.Prelude.{◌≡◌, ℕ, zero, suc, ◌+◌, ◌-◌, ◌*◌, ◌/◌, ◌%◌, ◌<◌, ◌≤◌, true, false, ◌&&◌, ◌||◌, ltb, ◌⊎◌, List, [], ◌∷◌, ◌++◌, length, Some, None, ◌==◌, ◌≢◌, nat_lt, slice_index, refl}
use Rattle.std.proofs.Common.{sym, ap, subst, ◌∙◌, ⊎_elim, inl, inr, arith, add-mul, add-zero, div-add-mod', mod-lt}
use Rattle.std.proofs.Math.Arith.{digits_div, digits_mod}
use Rattle.std.specs.List.{AllZip, remove, slice_get}
use Rattle.std.proofs.lemmas.Bool.{cases_lt, cases_eq, cond-true, cond-false, lt-ltb, le-ltb, eq-eqb, ne_eqb, both_ways}
use Rattle.std.proofs.lemmas.Bool.Decides.{nat_tests}
use Rattle.bank.specs.declared.request.Mode.TheVariants.{Write}
use Rattle.bank.specs.declared.request.Request.{Request}
use Rattle.bank.specs.Lists.{any, holders, holds, is_active, holds_by, is_holder, request_of, without}
use Rattle.bank.specs.Meaning.{Stays}
use Rattle.slots.specs.Lines.{request_at, requests_from, requests}
use Rattle.slots.specs.Slots.{waits}
use Rattle.slots.specs.Rows.{place}
use Rattle.slots.specs.Requests.{waiting, at_front, in_line, holders_of_lem}

pub request_party : (k i p : ℕ) → (request_at k i p).party ≡ p
request_party k i p = ⊎_elim (λ l. ap (λ (a : Request). a.party) (at_front k i p l)) (λ l. ap (λ (a : Request). a.party) (in_line k i p l)) (cases_lt i k)

pub request_holds : (k i p : ℕ) → holds (request_at k i p) ≡ nat_lt i k
request_holds k i p = ⊎_elim (λ l. ap holds (at_front k i p l) ∙ sym (lt-ltb i k l)) (λ l. ap holds (in_line k i p l) ∙ sym (le-ltb i k l)) (cases_lt i k)

pub request_mode : (k i p : ℕ) → (request_at k i p).mode ≡ Write
request_mode k i p = ⊎_elim (λ l. ap (λ (a : Request). a.mode) (at_front k i p l)) (λ l. ap (λ (a : Request). a.mode) (in_line k i p l)) (cases_lt i k)

pub length_requests : (k i : ℕ) (ps : List ℕ) → length (requests_from k i ps) ≡ length ps
length_requests k i [] = refl
length_requests k i (p ∷ ps) = ap suc (length_requests k (i + 1) ps)

-- the request at a place
pub nth_requests : (k i : ℕ) (ps : List ℕ) (j : ℕ) → j < length ps → slice_get (requests_from k i ps) j ≡ Some (request_at k (i + j) (slice_index ps j))
nth_requests k i [] j l = absurd (omega arith)
nth_requests k i (p ∷ ps) zero l = ap (λ n. Some (request_at k n p)) (sym (add-zero i))
nth_requests k i (p ∷ ps) (suc j) l = let e : (i + 1) + j ≡ i + suc j = omega arith in nth_requests k (i + 1) ps j (omega arith) ∙ ap (λ n. Some (request_at k n (slice_index ps j))) e

-- one party more at the end
pub requests_push : (k i : ℕ) (ps : List ℕ) (p : ℕ) → requests_from k i (ps ++ (p ∷ [])) ≡ requests_from k i ps ++ (request_at k (i + length ps) p ∷ [])
requests_push k i [] p = ap (λ n. request_at k n p ∷ []) (sym (add-zero i))
requests_push k i (q ∷ ps) p = let e : (i + 1) + length ps ≡ i + suc (length ps) = omega arith in ap (λ rs. request_at k i q ∷ rs) (requests_push k (i + 1) ps p ∙ ap (λ n. requests_from k (i + 1) ps ++ (request_at k n p ∷ [])) e)

-- the first place of a party
place_here : (p q : ℕ) (ps : List ℕ) → q ≡ p → place p (q ∷ ps) ≡ 0
place_here p q ps e = cond-true (q == p) _ _ (eq-eqb q p e)

place_later : (p q : ℕ) (ps : List ℕ) → (q ≢ p) → place p (q ∷ ps) ≡ place p ps + 1
place_later p q ps n = cond-false (q == p) _ _ (ne_eqb q p n)

pub active_is : (k i p : ℕ) (ps : List ℕ) → is_active p (requests_from k i ps) ≡ nat_lt (place p ps) (length ps)
active_is k i p [] = refl
active_is k i p (q ∷ ps) =
    let tail : (q == p || nat_lt (place p ps) (length ps)) ≡ ltb (place p (q ∷ ps)) (suc (length ps)) = grind (arith, nat_tests) in
    ap (λ n. (n == p) || is_active p (requests_from k (i + 1) ps)) (request_party k i q) ∙ (ap (λ b. (q == p) || b) (active_is k (i + 1) p ps) ∙ tail)

pub holder_is : (k i p : ℕ) (ps : List ℕ) → is_holder p (requests_from k i ps) ≡ (nat_lt (place p ps) (length ps) && nat_lt (i + place p ps) k)
holder_is k i p [] = refl
holder_is k i p (q ∷ ps) =
    let tail : ((q == p && nat_lt i k) || (nat_lt (place p ps) (length ps) && nat_lt ((i + 1) + place p ps) k)) ≡ (nat_lt (place p (q ∷ ps)) (suc (length ps)) && nat_lt (i + place p (q ∷ ps)) k) = grind (arith, nat_tests) in
    ap (λ n. (n == p && holds (request_at k i q)) || is_holder p (requests_from k (i + 1) ps)) (request_party k i q)
    ∙ (ap (λ h. (q == p && h) || is_holder p (requests_from k (i + 1) ps)) (request_holds k i q)
    ∙ (ap (λ b. (q == p && nat_lt i k) || b) (holder_is k (i + 1) p ps) ∙ tail))

-- the request of a party that is there, and of one that is not
request_here : (k i p q : ℕ) (ps : List ℕ) → q ≡ p → request_of p (requests_from k i (q ∷ ps)) ≡ Some (request_at k i q)
request_here k i p q ps e = cond-true ((request_at k i q).party == p) _ _ (eq-eqb _ p (request_party k i q ∙ e))

request_later : (k i p q : ℕ) (ps : List ℕ) → (q ≢ p) → request_of p (requests_from k i (q ∷ ps)) ≡ request_of p (requests_from k (i + 1) ps)
request_later k i p q ps n = cond-false ((request_at k i q).party == p) _ _ (ne_eqb _ p (λ e. n (sym (request_party k i q) ∙ e)))

pub request_found : (k i p : ℕ) (ps : List ℕ) → place p ps < length ps → request_of p (requests_from k i ps) ≡ Some (request_at k (i + place p ps) p)
request_found k i p [] l = absurd (omega arith)
request_found k i p (q ∷ ps) l =
    ⊎_elim
    (λ (e : q ≡ p).
    let j : i + place p (q ∷ ps) ≡ i = ap (λ n. i + n) (place_here p q ps e) ∙ add-zero i in
    request_here k i p q ps e ∙ (ap (λ n. Some (request_at k n q)) (sym j) ∙ ap (λ n. Some (request_at k (i + place p (q ∷ ps)) n)) e))
    (λ n.
    let j = place_later p q ps n in
    let s : (i + 1) + place p ps ≡ i + place p (q ∷ ps) = omega arith in
    request_later k i p q ps n ∙ (request_found k (i + 1) p ps (omega arith) ∙ ap (λ n. Some (request_at k n p)) s))
    (cases_eq q p)

pub request_none : (k i p : ℕ) (ps : List ℕ) → length ps ≤ place p ps → request_of p (requests_from k i ps) ≡ None
request_none k i p [] l = refl
request_none k i p (q ∷ ps) l =
    ⊎_elim
    (λ e. absurd (omega (arith, place_here p q ps e)))
    (λ n. request_later k i p q ps n ∙ request_none k (i + 1) p ps (omega (arith, place_later p q ps n)))
    (cases_eq q p)

-- one place further to the front: fewer turns, or as many and one departure fewer
step : (d k : ℕ) → 1 ≤ k → ((d / k ≡ (d + 1) / k) × (d % k + 1 ≡ (d + 1) % k)) ⊎ (d / k < (d + 1) / k)
step d k pos =
    let q = d / k in
    let r = d % k in
    let parts : q * k + r ≡ d = div-add-mod' d k in
    let small : r < k = mod-lt d pos in
    ⊎_elim
    (λ (l : r + 1 < k).
    let e : d + 1 ≡ q * k + (r + 1) = omega arith in
    inl (sym (ap (λ n. n / k) e ∙ digits_div q l), sym (ap (λ n. n % k) e ∙ digits_mod q l)))
    (λ (l : k ≤ r + 1).
    let e : d + 1 ≡ (q + 1) * k + 0 = omega (arith, add-mul q 1 k) in
    let f : (d + 1) / k ≡ q + 1 = ap (λ n. n / k) e ∙ digits_div (q + 1) pos in
    inr (omega arith))
    (cases_lt (r + 1) k)

-- one place further to the front, a request goes on
stays_up : (k i p : ℕ) → 1 ≤ k → Stays (request_at k (i + 1) p) (request_at k i p)
stays_up k i p pos =
    ⊎_elim
    (λ (f : i < k).
    subst (λ b. Stays (request_at k (i + 1) p) b) (sym (at_front k i p f))
    (record { party = sym (request_party k (i + 1) p); mode = sym (request_mode k (i + 1) p); holding = λ _. refl; waiting = λ _. inl refl }))
    (λ (l : k ≤ i).
    let e : (i + 1) - k ≡ (i - k) + 1 = omega arith in
    let turn : ((i + 1) - k) / k ≡ ((i - k) + 1) / k = ap (λ n. n / k) e in
    let departure : ((i + 1) - k) % k ≡ ((i - k) + 1) % k = ap (λ n. n % k) e in
    subst (λ b. Stays (request_at k (i + 1) p) b) (sym (in_line k i p l))
    (subst (λ a. Stays a (waiting k i p)) (sym (in_line k (i + 1) p (omega arith)))
    (record {
      party = refl;
      mode = refl;
      holding = λ h. h;
      waiting = λ _. inr (⊎_elim (λ s. let a = s.0 in let b = s.1 in inl (omega arith, omega arith)) (λ s. inr (omega arith)) (step (i - k) k pos));
    })))
    (cases_lt i k)

all_up : (k i : ℕ) (ps : List ℕ) → 1 ≤ k → AllZip Stays (requests_from k (i + 1) ps) (requests_from k i ps)
all_up k i [] pos = tt
all_up k i (p ∷ ps) pos = (stays_up k i p pos, all_up k (i + 1) ps pos)

-- a holder goes on holding
stays_front : (k i p : ℕ) → i < k → Stays (request_at k i p) (request_at k i p)
stays_front k i p f = record { party = refl; mode = refl; holding = λ h. h; waiting = λ w. absurd (both_ways (nat_lt i k) (sym (request_holds k i p) ∙ w) (lt-ltb i k f)) }

-- the first place of a holder that leaves
pub leaves_front : (k i p : ℕ) (ps : List ℕ) → 1 ≤ k → place p ps < length ps → i + place p ps < k → AllZip Stays (without p (requests_from k i ps)) (requests_from k i (remove ps (place p ps)))
leaves_front k i p [] pos l f = absurd (omega arith)
leaves_front k i p (q ∷ ps) pos l f =
    let rest = requests_from k (i + 1) ps in
    let by : holds_by p (request_at k i q) ≡ (q == p && nat_lt i k) = ap (λ n. (n == p) && holds (request_at k i q)) (request_party k i q) ∙ ap (λ h. (q == p) && h) (request_holds k i q) in
    ⊎_elim
    (λ (e : q ≡ p).
    let j = place_here p q ps e in
    let here : (q == p && nat_lt i k) ≡ true = grind (arith, nat_tests) in
    subst (λ xs. AllZip Stays xs (requests_from k i (remove (q ∷ ps) (place p (q ∷ ps))))) (sym (cond-true _ rest (request_at k i q ∷ without p rest) (by ∙ here)))
    (subst (λ n. AllZip Stays rest (requests_from k i (remove (q ∷ ps) n))) (sym j) (all_up k i ps pos)))
    (λ (n : q ≡ p → ⊥).
    let j : place p (q ∷ ps) ≡ suc (place p ps) = place_later p q ps n ∙ omega arith in
    let later : (q == p && nat_lt i k) ≡ false = grind (arith, nat_tests) in
    subst (λ xs. AllZip Stays xs (requests_from k i (remove (q ∷ ps) (place p (q ∷ ps))))) (sym (cond-false _ rest (request_at k i q ∷ without p rest) (by ∙ later)))
    (subst (λ n. AllZip Stays (request_at k i q ∷ without p rest) (requests_from k i (remove (q ∷ ps) n))) (sym j) (stays_front k i q (omega arith), leaves_front k (i + 1) p ps pos (omega arith) (omega arith))))
    (cases_eq q p)

-- something waits only behind k others
waits_behind : (k i : ℕ) (ps : List ℕ) → any waits (requests_from k i ps) ≡ true → k < i + length ps
waits_behind k i [] e = absurd (both_ways false refl e)
waits_behind k i (p ∷ ps) e =
    ⊎_elim
    (λ (f : i < k).
    let head : waits (request_at k i p) ≡ false = ap waits (at_front k i p f) in
    let more : any waits (requests_from k (i + 1) ps) ≡ true = sym (ap (λ b. b || any waits (requests_from k (i + 1) ps)) head) ∙ e in
    omega (arith, waits_behind k (i + 1) ps more))
    (λ l. omega arith)
    (cases_lt i k)

pub waits_full : (k : ℕ) (ps : List ℕ) → any waits (requests k ps) ≡ true → holders (requests k ps) ≡ k
waits_full k ps e = omega (arith, waits_behind k 0 ps e, holders_of_lem k 0 ps)
