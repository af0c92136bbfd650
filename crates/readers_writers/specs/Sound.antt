-- The requests of good entries are sound.
use Rattle.std.specs.Prelude.{◌≡◌, ℕ, ◌+◌, ◌<◌, ◌≤◌, Bool, true, false, cond, not, ◌&&◌, ◌⊎◌, List, [], ◌∷◌, length, nat_lt, refl}
use Rattle.std.proofs.Common.{sym, ap, subst, ◌∙◌, inl, inr, ⊎_elim, arith}
use Rattle.std.specs.List.{AllByRecursion}
use Rattle.std.proofs.lemmas.Bool.{true≢false, false≢true, ltb-true, and_parts, or_parts, or_left, not-true, cond-true, cond-false, cases_Bool}
use Rattle.std.proofs.lemmas.Bool.Decides.{nat_tests}
use Rattle.bank.specs.Lists.{count, holds, holds_write, holds_read, is_write}
use Rattle.bank.specs.Meaning.{Lawful, Sound}
use Rattle.bank.specs.declared.request.Mode.{Mode}
use Rattle.bank.specs.declared.request.Mode.TheVariants.{Write, Read}
use Rattle.bank.specs.declared.request.Request.{Request}
use Rattle.bank.specs.declared.size.TheConstants.{PARTIES}
use Rattle.readers_writers.specs.Lines.{some, count_of, is_holder, is_writer, holding_writer, request_of, requests_from, requests}
use Rattle.readers_writers.specs.Kept.{ordered, good, named, waits}
use Rattle.readers_writers.specs.Told.{told_with}
use Rattle.readers_writers.specs.declared.entry.Entry.{Entry}
use Rattle.readers_writers.specs.Some.{some_count, some_least, some_fewer, waits_or_holds}

-- a test of requests that is a test of the entries
module _ (f : Request → Bool) (g : Entry → Bool) (same : (b : Bool) (h n : ℕ) (e : Entry) → f (request_of b h n e) ≡ g e) where
  count_requests : (b : Bool) (h n : ℕ) (es : List Entry) → count f (requests_from b h n es) ≡ count_of g es
  count_requests b h n [] = refl
  count_requests b h n (e ∷ es) = let a = same b h n e in let more = count_requests b h (n + cond (is_writer e) 1 0) es in cc

-- a request has its entry's party, mode and holding
fields : (b : Bool) (h n p : ℕ) (m : Mode) (g : Bool) → ((request_of b h n (record { party = p; mode = m; holds = g })).party ≡ p) × ((request_of b h n (record { party = p; mode = m; holds = g })).mode ≡ m) × (holds (request_of b h n (record { party = p; mode = m; holds = g })) ≡ g)
fields b h n p m true = (refl, refl, refl)
fields b h n p m false = (refl, refl, refl)

module _ (b : Bool) (h n : ℕ) (e : Entry) where
  pub request_party : (request_of b h n e).party ≡ e.party
  request_party = (fields b h n e.party e.mode e.holds).0

  pub request_mode : (request_of b h n e).mode ≡ e.mode
  request_mode = (fields b h n e.party e.mode e.holds).1

  pub request_holds : holds (request_of b h n e) ≡ e.holds
  request_holds = (fields b h n e.party e.mode e.holds).2

  writes_same : holds_write (request_of b h n e) ≡ holding_writer e
  writes_same = let a = request_mode in let c = request_holds in cc

abbrev holding_read : Entry → Bool
holding_read e = e.holds && not (is_write e.mode)

reads_same : (b : Bool) (h n : ℕ) (e : Entry) → holds_read (request_of b h n e) ≡ holding_read e
reads_same b h n e = let a = request_mode b h n e in let c = request_holds b h n e in cc

-- a waiting request with n writers before it, of m at most
lawful_one : (c m r t h n p : ℕ) (b : Bool) (k : Mode) (g : Bool) → p < PARTIES → 1 ≤ h → h ≤ t → (g ≡ false → ((n + 1) + cond b 0 1 ≤ m) × (n ≡ 0 → (is_write k ≡ true) × (b ≡ false))) → Lawful (told_with c m) r t (request_of b h n (record { party = p; mode = k; holds = g }))
lawful_one c m r t h n p b Write true lt some up w = record { party = lt; known = refl; holding = λ _. (refl, refl); waiting = λ z. absurd (true≢false z) }
lawful_one c m r t h n p b Read true lt some up w = record { party = lt; known = refl; holding = λ _. (refl, refl); waiting = λ z. absurd (true≢false z) }
lawful_one c m r t h n p true Write false lt some up w = let o = (w refl).0 in let q : n ≡ 0 → ⊥ = λ z. true≢false ((w refl).1 z).1 in record { party = lt; known = refl; holding = λ z. absurd (false≢true z); waiting = λ _. (omega arith, omega arith, some, up) }
lawful_one c m r t h n p false Write false lt some up w = let o = (w refl).0 in record { party = lt; known = refl; holding = λ z. absurd (false≢true z); waiting = λ _. (omega arith, omega arith, some, up) }
lawful_one c m r t h n p true Read false lt some up w = let o = (w refl).0 in let q : n ≡ 0 → ⊥ = λ z. true≢false ((w refl).1 z).1 in record { party = lt; known = refl; holding = λ z. absurd (false≢true z); waiting = λ _. (omega arith, omega arith, some, up) }
lawful_one c m r t h n p false Read false lt some up w = let o = (w refl).0 in let q : n ≡ 0 → ⊥ = λ z. false≢true ((w refl).1 z).0 in record { party = lt; known = refl; holding = λ z. absurd (false≢true z); waiting = λ _. (omega arith, omega arith, some, up) }

lawful_from : (c m r t : ℕ) (b : Bool) (h n : ℕ) (es : List Entry) → 1 ≤ h → h ≤ t → named es ≡ true → some holding_writer es ≡ false → (n + count_of waits es) + cond b 0 1 ≤ m → (n ≡ 0 → (ordered es ≡ true) × (b ≡ false)) → AllByRecursion (Lawful (told_with c m) r t) (requests_from b h n es)
lawful_from c m r t b h n [] one up low none few first = tt
lawful_from c m r t b h n (e ∷ es) one up low none few first =
    let l = and_parts (nat_lt e.party PARTIES) (named es) low in
    let q = or_parts (holding_writer e) (some holding_writer es) none in (
      lawful_one c m r t h n e.party b e.mode e.holds (ltb-true _ _ l.0) one up (λ z. (grind (arith, nat_tests), λ y. (let s = (first y).0 in grind (arith, nat_tests), (first y).1))),
      lawful_from c m r t b h (n + cond (is_writer e) 1 0) es one up l.1 q.1 (let k = q.0 in grind (arith, nat_tests)) (λ z. let y : n ≡ 0 = omega arith in (let s = (first y).0 in let w : is_writer e ≡ false = grind (arith, nat_tests) in grind (arith, nat_tests), (first y).1)),
    )

-- a writer holds alone, or reads hold
pub ways : (e : Entry) (es : List Entry) → good (e ∷ es) ≡ true → ((holding_writer e ≡ true) × (some is_holder es ≡ false)) ⊎ ((some is_holder (e ∷ es) ≡ true) × (some holding_writer (e ∷ es) ≡ false) × (ordered (e ∷ es) ≡ true))
ways e es z =
    ⊎_elim
    (λ (t : holding_writer e ≡ true). inl (t, not-true _ (sym (cond-true (holding_writer e) _ _ t) ∙ z)))
    (λ (f : holding_writer e ≡ false). let p = and_parts (some is_holder (e ∷ es)) _ (sym (cond-false (holding_writer e) _ _ f) ∙ z) in let q = and_parts (not (some holding_writer (e ∷ es))) (ordered (e ∷ es)) p.1 in inr (p.0, not-true _ q.0, q.1))
    (cases_Bool (holding_writer e))

pub writing : (e : Entry) (es : List Entry) → holding_writer e ≡ true → some is_holder es ≡ false → requests (e ∷ es) ≡ request_of true 1 0 e ∷ requests_from true 1 1 es
writing e es t z =
    let b : some holding_writer (e ∷ es) ≡ true = or_left _ _ t in
    let p = and_parts e.holds (is_writer e) t in
    let none = some_count is_holder es z in
    let h : count_of is_holder (e ∷ es) ≡ 1 = omega (arith, cond-true {A = ℕ} e.holds 1 0 p.0) in
    let n : ◌≡◌ {A = ℕ} (0 + cond (is_writer e) 1 0) 1 = omega (arith, cond-true {A = ℕ} (is_writer e) 1 0 p.1) in
    ap (λ x. requests_from x (count_of is_holder (e ∷ es)) 0 (e ∷ es)) b ∙ (ap (λ x. requests_from true x 0 (e ∷ es)) h ∙ ap (λ x. request_of true 1 0 e ∷ requests_from true 1 x es) n)

pub reading : (es : List Entry) → some holding_writer es ≡ false → requests es ≡ requests_from false (count_of is_holder es) 0 es
reading es z = ap (λ x. requests_from x (count_of is_holder es) 0 es) z

no_writer_holds : (es : List Entry) → some is_holder es ≡ false → some holding_writer es ≡ false
no_writer_holds es z = some_fewer is_holder holding_writer (λ e f. grind (arith, nat_tests)) es z

lawful_requests : (c m r : ℕ) (es : List Entry) → good es ≡ true → named es ≡ true → length es ≤ m → AllByRecursion (Lawful (told_with c m) r (count_of is_holder es)) (requests es)
lawful_requests c m r [] g low l = tt
lawful_requests c m r (e ∷ es) g low l =
    let n = and_parts (nat_lt e.party PARTIES) (named es) low in
    let k = waits_or_holds (e ∷ es) in
    ⊎_elim
    (λ w.
    let p = and_parts e.holds (is_writer e) w.0 in
    let none = some_count is_holder es w.1 in
    let all = waits_or_holds es in
    let one : count_of is_holder (e ∷ es) ≡ 1 = omega (arith, cond-true {A = ℕ} e.holds 1 0 p.0) in
    subst (AllByRecursion (Lawful (told_with c m) r (count_of is_holder (e ∷ es)))) (sym (writing e es w.0 w.1)) (
      lawful_one c m r (count_of is_holder (e ∷ es)) 1 0 e.party true e.mode e.holds (ltb-true _ _ n.0) (omega arith) (omega arith) (λ z. absurd (true≢false (sym p.0 ∙ z))),
      lawful_from c m r (count_of is_holder (e ∷ es)) true 1 1 es (omega arith) (omega arith) n.1 (no_writer_holds es w.1) (omega arith) (λ z. absurd (omega arith)),
    ))
    (λ w.
    let some = some_least is_holder (e ∷ es) w.0 in
    subst (AllByRecursion (Lawful (told_with c m) r (count_of is_holder (e ∷ es)))) (sym (reading (e ∷ es) w.1)) (lawful_from c m r (count_of is_holder (e ∷ es)) false (count_of is_holder (e ∷ es)) 0 (e ∷ es) some (omega arith) low w.1 (omega arith) (λ z. (w.2, refl))))
    (ways e es g)

-- at most one writer holds, and then no read
alone : (es : List Entry) → good es ≡ true → (count_of holding_writer es ≤ 1) × (1 ≤ count_of holding_writer es → count_of holding_read es ≡ 0)
alone [] g = (omega arith, λ z. refl)
alone (e ∷ es) g =
    ⊎_elim
    (λ w.
    let none = some_count holding_writer es (no_writer_holds es w.1) in
    let reads = some_count holding_read es (some_fewer is_holder holding_read (λ x f. grind (arith, nat_tests)) es w.1) in
    let p = w.0 in
    (grind (arith, nat_tests), λ z. grind (arith, nat_tests)))
    (λ w. let none = some_count holding_writer (e ∷ es) w.1 in (omega arith, λ z. absurd (omega arith)))
    (ways e es g)

pub sound : (c m r : ℕ) (es : List Entry) → good es ≡ true → named es ≡ true → length es ≤ m → Sound (told_with c m) r (requests es)
sound c m r es g low l =
    let b = some holding_writer es in
    let h = count_of is_holder es in
    let all = count_requests holds is_holder request_holds b h 0 es in
    let writers = count_requests holds_write holding_writer writes_same b h 0 es in
    let reads = count_requests holds_read holding_read reads_same b h 0 es in
    let one = alone es g in
    record {
      requests = subst (λ t. AllByRecursion (Lawful (told_with c m) r t) (requests es)) (sym all) (lawful_requests c m r es g low l);
      writers = omega arith;
      apart = λ z. reads ∙ one.1 (omega arith);
    }
