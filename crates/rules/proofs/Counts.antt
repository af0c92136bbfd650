-- Counting and searching the numbers below a bound. Assumes nothing.
use Rattle.std.proofs.Common.{◌≡◌, ℕ, zero, suc, ◌+◌, ◌<◌, ◌≤◌, Bool, true, false, cond, ltb, ◌⊎◌, List, [], ◌∷◌, length, get_or, is_some, Some, None, count_by, Option, sym, refl, ap, ◌∙◌, inl, inr, ⊎_elim, arith}
use Rattle.std.proofs.lemmas.List.Sums.{sum_by-cons}
use Rattle.std.proofs.lemmas.Bool.{and_parts, and_from, ltb-true, ltb-false, cases_eq, cases_order, cases_Bool, both_ways, false≢true}
use Rattle.rules.specs.Jobs.{count_below, least_below, lesser}
use Rattle.rules.specs.Questions.{lowest_below, all_below}

bits : (a b c : Bool) (k m n : ℕ) → (a ≡ true → (b ≡ true) ⊎ (c ≡ true)) → k ≤ m + n → cond a 1 0 + k ≤ (cond b 1 0 + m) + (cond c 1 0 + n)
bits false b c k m n h l = omega arith
bits true true c k m n h l = omega arith
bits true false true k m n h l = omega arith
bits true false false k m n h l = absurd (⊎_elim false≢true false≢true (h refl))

-- what passes p passes q or r
pub count_split : (p q r : ℕ → Bool) (n : ℕ) → ((x : ℕ) → x < n → p x ≡ true → (q x ≡ true) ⊎ (r x ≡ true)) → count_below p n ≤ count_below q n + count_below r n
count_split p q r zero h = omega arith
count_split p q r (suc n) h = bits (p n) (q n) (r n) (count_below p n) (count_below q n) (count_below r n) (h n (omega arith)) (count_split p q r n (λ x lt. h x (omega arith)))

bits_join : (a b c : Bool) (k m n : ℕ) → (a ≡ true → (b ≡ false) × (c ≡ true)) → (b ≡ true → c ≡ true) → k + m ≤ n → (cond a 1 0 + k) + (cond b 1 0 + m) ≤ cond c 1 0 + n
bits_join true b c k m n f g l = let e = f refl in rw (e.0, e.1) (omega arith)
bits_join false true c k m n f g l = rw (g refl) (omega arith)
bits_join false false c k m n f g l = omega arith

-- what passes p or q passes r, and nothing passes both
pub count_join : (p q r : ℕ → Bool) (n : ℕ) → ((x : ℕ) → p x ≡ true → (q x ≡ false) × (r x ≡ true)) → ((x : ℕ) → q x ≡ true → r x ≡ true) → count_below p n + count_below q n ≤ count_below r n
count_join p q r zero f g = omega arith
count_join p q r (suc n) f g = bits_join (p n) (q n) (r n) (count_below p n) (count_below q n) (count_below r n) (f n) (g n) (count_join p q r n f g)

-- two tests that agree below n
pub count_same : (p q : ℕ → Bool) (n : ℕ) → ((x : ℕ) → x < n → p x ≡ q x) → count_below p n ≡ count_below q n
count_same p q zero h = refl
count_same p q (suc n) h = rw (h n (omega arith)) (ap (λ k. cond (q n) 1 0 + k) (count_same p q n (λ x lt. h x (omega arith))))

-- nothing below n passes
pub count_none : (p : ℕ → Bool) (n : ℕ) → ((x : ℕ) → x < n → p x ≡ false) → count_below p n ≡ 0
count_none p zero h = refl
count_none p (suc n) h = rw (h n (omega arith)) (omega (arith, count_none p n (λ x lt. h x (omega arith))))

-- what passes p passes q
pub count_mono : (p q : ℕ → Bool) (n : ℕ) → ((x : ℕ) → x < n → p x ≡ true → q x ≡ true) → count_below p n ≤ count_below q n
count_mono p q n h = omega (arith, count_split p q (λ x. false) n (λ x lt e. inl (h x lt e)), count_none (λ x. false) n (λ x lt. refl))

bits_more : (a b : Bool) (m n : ℕ) → (a ≡ true → b ≡ true) → m + 1 ≤ n → (cond a 1 0 + m) + 1 ≤ cond b 1 0 + n
bits_more true true m n h l = omega arith
bits_more true false m n h l = absurd (false≢true (h refl))
bits_more false true m n h l = omega arith
bits_more false false m n h l = omega arith

-- what passes p passes q, and x passes only q
pub count_more : (p q : ℕ → Bool) (x n : ℕ) → x < n → p x ≡ false → q x ≡ true → ((t : ℕ) → t < n → p t ≡ true → q t ≡ true) → count_below p n + 1 ≤ count_below q n
count_more p q x zero lt px qx h = omega arith
count_more p q x (suc n) lt px qx h =
    ⊎_elim
    (λ (e : x ≡ n).
    let a : p n ≡ false = rw e at px in
    let b : q n ≡ true = rw e at qx in
    rw (a, b) (omega (arith, count_mono p q n (λ t l. h t (omega arith)))))
    (λ (ne : x ≡ n → ⊥). bits_more (p n) (q n) (count_below p n) (count_below q n) (h n (omega arith)) (count_more p q x n (omega arith) px qx (λ t l. h t (omega arith))))
    (cases_eq x n)

-- at most one passes
pub count_one : (p : ℕ → Bool) (n : ℕ) → ((x y : ℕ) → p x ≡ true → p y ≡ true → x ≡ y) → count_below p n ≤ 1
count_one p zero h = omega arith
count_one p (suc n) h = go (p n) refl (count_one p n h)
  where
    other : p n ≡ true → (x : ℕ) → x < n → p x ≡ false
    other e x lt = ⊎_elim (λ t. absurd (omega (arith, h x n t e))) (λ f. f) (cases_Bool (p x))

    go : (b : Bool) → p n ≡ b → count_below p n ≤ 1 → cond b 1 0 + count_below p n ≤ 1
    go true e ih = omega (arith, count_none p n (other e))
    go false e ih = omega arith

-- what a count that is not 0 tells
pub count_some : (p : ℕ → Bool) (n : ℕ) → (count_below p n ≡ 0) ⊎ ((x : ℕ) × (x < n) × (p x ≡ true))
count_some p zero = inl refl
count_some p (suc n) = go (p n) refl (count_some p n)
  where
    go : (b : Bool) → p n ≡ b → (count_below p n ≡ 0) ⊎ ((x : ℕ) × (x < n) × (p x ≡ true)) → (cond b 1 0 + count_below p n ≡ 0) ⊎ ((x : ℕ) × (x < suc n) × (p x ≡ true))
    go true e r = inr (n, omega arith, e)
    go false e (inl z) = inl (omega arith)
    go false e (inr f) = let lt = f.1 in inr (f.0, omega arith, f.2)

-- all below n pass
pub all_below_lem : (test : ℕ → Bool) (n : ℕ) → all_below test n ≡ true → (k : ℕ) → k < n → test k ≡ true
all_below_lem test zero e k lt = absurd (omega arith)
all_below_lem test (suc n) e k lt =
    let parts = and_parts (all_below test n) (test n) e in
    ⊎_elim (λ (same : k ≡ n). rw same parts.1) (λ (ne : k ≡ n → ⊥). all_below_lem test n parts.0 k (omega arith)) (cases_eq k n)

pub all_below_from : (test : ℕ → Bool) (n : ℕ) → ((k : ℕ) → k < n → test k ≡ true) → all_below test n ≡ true
all_below_from test zero each = refl
all_below_from test (suc n) each = and_from (all_below test n) (test n) (all_below_from test n (λ k lt. each k (omega arith))) (each n (omega arith))

one_more : (P : ℕ → Type 0) (n : ℕ) → P n → ((k : ℕ) → k < n → P k) → (k : ℕ) → k < suc n → P k
one_more P n here under k lt = ⊎_elim (λ (e : k ≡ n). rw e here) (λ (ne : k ≡ n → ⊥). under k (omega arith)) (cases_eq k n)

module _ (test : ℕ → Bool) (value : ℕ → ℕ) where
  -- what is found: none passes, or b passes, its value is the least, and it is the lowest of that value
  abbrev Says : ℕ → Option ℕ → Type 0
  Says n None = (k : ℕ) → k < n → test k ≡ false
  Says n (Some b) = (test b ≡ true) × (b < n) × ((k : ℕ) → k < n → test k ≡ true → value b ≤ value k) × ((k : ℕ) → k < b → test k ≡ true → value b < value k)

  kept : (n : ℕ) → test n ≡ false → (o : Option ℕ) → Says n o → Says (suc n) o
  kept n e None s = one_more (λ k. test k ≡ false) n e s
  kept n e (Some b) s =
      let lt = s.1 in
      (s.0, omega arith, one_more (λ k. test k ≡ true → value b ≤ value k) n (λ f. absurd (both_ways (test n) e f)) s.2, s.3)

  taken : (n : ℕ) → test n ≡ true → (o : Option ℕ) → Says n o → Says (suc n) (Some (lesser value o n))
  taken n e None s =
      let none : (k : ℕ) → k < n → test k ≡ true → ⊥ = λ k lt f. both_ways (test k) (s k lt) f in
      (e, omega arith, one_more (λ k. test k ≡ true → value n ≤ value k) n (λ f. omega arith) (λ k lt f. absurd (none k lt f)), λ k lt f. absurd (none k lt f))
  taken n e (Some b) s = go (ltb (value n) (value b)) refl
    where
      go : (c : Bool) → ltb (value n) (value b) ≡ c → Says (suc n) (Some (cond c n b))
      go true f =
          let less = ltb-true (value n) (value b) f in
          (e, omega arith, one_more (λ k. test k ≡ true → value n ≤ value k) n (λ g. omega arith) (λ k lt g. omega (arith, s.2 k lt g)), λ k lt g. omega (arith, s.2 k lt g))
      go false f =
          let more = ltb-false (value n) (value b) f in
          let lt = s.1 in
          (s.0, omega arith, one_more (λ k. test k ≡ true → value b ≤ value k) n (λ g. omega arith) s.2, s.3)

  says : (n : ℕ) → Says n (least_below test value n)
  says zero = λ k lt. absurd (omega arith)
  says (suc n) = go (test n) refl (says n)
    where
      go : (b : Bool) → test n ≡ b → Says n (least_below test value n) → Says (suc n) (cond b (Some (lesser value (least_below test value n) n)) (least_below test value n))
      go true e s = taken n e (least_below test value n) s
      go false e s = kept n e (least_below test value n) s

  -- the least found passes, and no other that passes has a lower value
  pub least_some : (n b : ℕ) → least_below test value n ≡ Some b → (test b ≡ true) × (b < n) × ((k : ℕ) → k < n → test k ≡ true → value b ≤ value k)
  least_some n b e = let s : Says n (Some b) = rw e at (says n) in (s.0, s.1, s.2)

  -- and no lower one has an equal value
  pub least_first : (n b : ℕ) → least_below test value n ≡ Some b → (k : ℕ) → k < b → test k ≡ true → value b < value k
  least_first n b e = let s : Says n (Some b) = rw e at (says n) in s.3

  -- where nothing is found, nothing passes
  pub least_none : (n : ℕ) → least_below test value n ≡ None → (k : ℕ) → k < n → test k ≡ false
  least_none n e = rw e at (says n)

  -- what is found, from what it is
  pub least_is : (n b : ℕ) → b < n → test b ≡ true → ((k : ℕ) → k < n → test k ≡ true → value b ≤ value k) → ((k : ℕ) → k < b → test k ≡ true → value b < value k) → least_below test value n ≡ Some b
  least_is n b lt e low strict = go (least_below test value n) refl (says n)
    where
      go : (o : Option ℕ) → least_below test value n ≡ o → Says n o → least_below test value n ≡ Some b
      go None f s = absurd (both_ways (test b) (s b lt) e)
      go (Some c) f s =
          let here = low c s.1 s.0 in
          let there = s.2 b lt e in
          let same : c ≡ b =
          ⊎_elim (λ (q : c ≡ b). q)
          (⊎_elim (λ (l : c < b). absurd (omega (arith, strict c l s.0))) (λ (l : b < c). absurd (omega (arith, s.3 b l e))))
          (cases_order c b) in
          f ∙ ap (λ k. Some k) same

  pub least_nothing : (n : ℕ) → ((k : ℕ) → k < n → test k ≡ false) → least_below test value n ≡ None
  least_nothing n h = go (least_below test value n) refl
    where
      go : (o : Option ℕ) → least_below test value n ≡ o → least_below test value n ≡ None
      go None f = f
      go (Some c) f = let s = least_some n c f in absurd (both_ways (test c) (h c s.1) s.0)

module _ (test : ℕ → Bool) where
  abbrev Finds : ℕ → Option ℕ → Type 0
  Finds n None = (k : ℕ) → k < n → test k ≡ false
  Finds n (Some b) = (test b ≡ true) × (b < n) × ((k : ℕ) → k < b → test k ≡ false)

  finds : (n : ℕ) → Finds n (lowest_below test n)
  finds zero = λ k lt. absurd (omega arith)
  finds (suc n) = go (lowest_below test n) (finds n)
    where
      last : (b : Bool) → test n ≡ b → ((k : ℕ) → k < n → test k ≡ false) → Finds (suc n) (cond b (Some n) None)
      last true e s = (e, omega arith, s)
      last false e s = one_more (λ k. test k ≡ false) n e s

      go : (o : Option ℕ) → Finds n o → Finds (suc n) (cond (is_some o) o (cond (test n) (Some n) None))
      go None s = last (test n) refl s
      go (Some b) s = let lt = s.1 in (s.0, omega arith, s.2)

  pub lowest_none : (n : ℕ) → lowest_below test n ≡ None → (k : ℕ) → k < n → test k ≡ false
  lowest_none n e = rw e at (finds n)

  pub lowest_some : (n b : ℕ) → lowest_below test n ≡ Some b → (test b ≡ true) × (b < n) × ((k : ℕ) → k < b → test k ≡ false)
  lowest_some n b e = rw e at (finds n)

  pub lowest_is : (n b : ℕ) → b < n → test b ≡ true → ((k : ℕ) → k < b → test k ≡ false) → lowest_below test n ≡ Some b
  lowest_is n b lt e low = go (lowest_below test n) refl (finds n)
    where
      go : (o : Option ℕ) → lowest_below test n ≡ o → Finds n o → lowest_below test n ≡ Some b
      go None f s = absurd (both_ways (test b) (s b lt) e)
      go (Some c) f s =
          let same : c ≡ b =
          ⊎_elim (λ (q : c ≡ b). q)
          (⊎_elim (λ (l : c < b). absurd (both_ways (test c) (low c l) s.0)) (λ (l : b < c). absurd (both_ways (test b) (s.2 b l) e)))
          (cases_order c b) in
          f ∙ ap (λ k. Some k) same

  pub lowest_nothing : (n : ℕ) → ((k : ℕ) → k < n → test k ≡ false) → lowest_below test n ≡ None
  lowest_nothing n h = go (lowest_below test n) refl (finds n)
    where
      go : (o : Option ℕ) → lowest_below test n ≡ o → Finds n o → lowest_below test n ≡ None
      go None f s = f
      go (Some c) f s = absurd (both_ways (test c) (h c s.1) s.0)
