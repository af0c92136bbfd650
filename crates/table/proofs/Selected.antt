-- The elements of those numbers below n that pass a test, as a row: how many of them pass another,
-- and which is first.
use Rattle.std.proofs.Common.{◌≡◌, ℕ, zero, suc, ◌+◌, ◌<◌, ◌≤◌, Bool, true, false, cond, ◌&&◌, List, [], ◌∷◌, ◌++◌, length, get_or, Some, None, count_by, Option, sym, refl, ap, ◌∙◌, subst, ⊎_elim, add-one, arith}
use Rattle.std.specs.List.{All, Contains, IsFirstBest, cons_option, filter, filter_map, range_with_len}
use Rattle.std.specs.Ordering.{is_lt, nat_cmp, ordering_then}
use Rattle.std.specs.declared.cmp.Ordering.{Ordering}
use Rattle.std.proofs.lemmas.Bool.Decides.{nat_tests}
use Rattle.std.proofs.lemmas.Bool.{cases_eq, cases_Bool}
use Rattle.std.proofs.lemmas.List.{append-nil, get_or_default}
use Rattle.std.proofs.lemmas.List.Elements.{All-append, All-cons, All-get_or, All-nil, Contains-append_left, Contains-push, filter-append, filter_map-append}
use Rattle.std.proofs.lemmas.List.Sums.{sum_by-append, sum_by-cons}
use Rattle.rules.specs.Jobs.{count_below, least_below}
use Rattle.rules.proofs.Counts.{least_is, least_nothing}

range_more : (a n : ℕ) → range_with_len a (suc n) ≡ range_with_len a n ++ (a + n) ∷ []
range_more a zero = let e : a + 0 ≡ a = omega arith in rw e refl
range_more a (suc n) = let e : a + suc n ≡ (a + 1) + n = omega arith in rw e (ap (λ xs. a ∷ xs) (range_more (a + 1) n))

-- one number more
pub numbers_more : (test : ℕ → Bool) (n : ℕ) → filter test (range_with_len 0 (n + 1)) ≡ filter test (range_with_len 0 n) ++ cond (test n) (n ∷ []) []
numbers_more test n =
    let e : 0 + n ≡ n = omega arith in
    rw (add-one n) (ap (filter test) (range_more 0 n) ∙ (filter-append test (range_with_len 0 n) ((0 + n) ∷ []) ∙ rw e refl))

pub one_passes : (test : ℕ → Bool) (n : ℕ) (old new : List ℕ) → old ≡ filter test (range_with_len 0 n) → test n ≡ true → new ≡ old ++ n ∷ [] → new ≡ filter test (range_with_len 0 (n + 1))
one_passes test n old new was passes is = is ∙ (ap (λ xs. xs ++ n ∷ []) was ∙ sym (numbers_more test n ∙ ap (λ b. filter test (range_with_len 0 n) ++ cond b (n ∷ []) []) passes))

pub none_passes : (test : ℕ → Bool) (n : ℕ) (old : List ℕ) → old ≡ filter test (range_with_len 0 n) → test n ≡ false → old ≡ filter test (range_with_len 0 (n + 1))
none_passes test n old was fails = was ∙ sym (numbers_more test n ∙ (ap (λ b. filter test (range_with_len 0 n) ++ cond b (n ∷ []) []) fails ∙ append-nil _))

pub each_more : {E : Type 0} (h : ℕ → Option E) (n : ℕ) → filter_map h (range_with_len 0 (n + 1)) ≡ filter_map h (range_with_len 0 n) ++ cons_option (h n) []
each_more h n =
    let e : 0 + n ≡ n = omega arith in
    rw (add-one n) (ap (filter_map h) (range_more 0 n) ∙ (filter_map-append h (range_with_len 0 n) ((0 + n) ∷ []) ∙ rw e refl))

-- where none passes
pub numbers_none : (test : ℕ → Bool) (n : ℕ) → ((k : ℕ) → k < n → test k ≡ false) → filter test (range_with_len 0 n) ≡ []
numbers_none test zero none = refl
numbers_none test (suc n) none = ap (λ k. filter test (range_with_len 0 k)) (sym (add-one n)) ∙ (numbers_more test n ∙ rw (numbers_none test n (λ k lt. none k (omega arith)), none n (omega arith)) refl)

-- the element of a number that passes
abbrev pub element : {E : Type 0} → (ℕ → Bool) → (ℕ → E) → ℕ → Option E
element test elem t = cond (test t) (Some (elem t)) None

passed : {E : Type 0} (a b : Bool) (t : ℕ) (x : E) (h : ℕ → Option E) (rest : List E) (ts : List ℕ) → h t ≡ cond a (Some x) None → filter_map h ts ≡ rest → filter_map h (cond b (t ∷ ts) ts) ≡ cons_option (cond (a && b) (Some x) None) rest
passed true true t x h rest ts e f = rw (e, f) refl
passed false true t x h rest ts e f = rw (e, f) refl
passed true false t x h rest ts e f = f
passed false false t x h rest ts e f = f

-- to pass over numbers is to test them too
pub of_filter : {E : Type 0} (test part : ℕ → Bool) (elem : ℕ → E) (ts : List ℕ) → filter_map (element test elem) (filter part ts) ≡ filter_map (element (λ t. test t && part t) elem) ts
of_filter test part elem [] = refl
of_filter test part elem (t ∷ ts) = passed (test t) (part t) t (elem t) (element test elem) _ (filter part ts) refl (of_filter test part elem ts)

module _ {E : Type 0} (test : ℕ → Bool) (elem : ℕ → E) where
  abbrev pub row : ℕ → List E
  row n = filter_map (element test elem) (range_with_len 0 n)

  last : (b : Bool) (x : E) → cons_option (cond b (Some x) None) [] ≡ cond b (x ∷ []) []
  last true x = refl
  last false x = refl

  row_more : (n : ℕ) → row (suc n) ≡ row n ++ cond (test n) (elem n ∷ []) []
  row_more n = ap row (sym (add-one n)) ∙ (each_more (element test elem) n ∙ ap (λ xs. row n ++ xs) (last (test n) (elem n)))

  counted : (P : E → Bool) (xs : List E) (b : Bool) (x : E) → count_by P (xs ++ cond b (x ∷ []) []) ≡ cond (b && P x) 1 0 + count_by P xs
  counted P xs true x = omega (arith, sum_by-append (λ y. cond (P y) 1 0) xs (x ∷ []), sum_by-cons (λ y. cond (P y) 1 0) x [])
  counted P xs false x = omega (arith, ap (count_by P) (append-nil xs))

  pub count_row : (P : E → Bool) (n : ℕ) → count_by P (row n) ≡ count_below (λ t. test t && P (elem t)) n
  count_row P zero = refl
  count_row P (suc n) = ap (count_by P) (row_more n) ∙ (counted P (row n) (test n) (elem n) ∙ ap (λ k. cond (test n && P (elem n)) 1 0 + k) (count_row P n))

  pub all_row : (P : E → Type 0) (n : ℕ) → ((k : ℕ) → k < n → test k ≡ true → P (elem k)) → All P (row n)
  all_row P zero h = All-nil P
  all_row P (suc n) h = subst (All P) (sym (row_more n)) (All-append P (row n) _ (all_row P n (λ k lt e. h k (omega arith) e)) (here (test n) refl))
    where
      here : (b : Bool) → test n ≡ b → All P (cond b (elem n ∷ []) [])
      here true e = All-cons P (elem n) [] (h n (omega arith) e) (All-nil P)
      here false e = All-nil P

  pub in_row : (n k : ℕ) → k < n → test k ≡ true → Contains (row n) (elem k)
  in_row zero k lt e = absurd (omega arith)
  in_row (suc n) k lt e =
      subst (λ xs. Contains xs (elem k)) (sym (row_more n))
      (⊎_elim
      (λ (same : k ≡ n). rw (← same, e) (Contains-push (row k) (elem k)))
      (λ (ne : k ≡ n → ⊥). Contains-append_left (row n) _ (elem k) (in_row n k (omega arith) e))
      (cases_eq k n))

  no_row : (n : ℕ) → length (row n) ≡ 0 → (k : ℕ) → k < n → test k ≡ false
  no_row n none k lt = ⊎_elim (λ (e : test k ≡ true). let c = in_row n k lt e in let in' = c.1 in absurd (omega arith)) (λ (f : test k ≡ false). f) (cases_Bool (test k))

  -- of the first m numbers none from n on passes; by a value, and then by the number
  module _ (order : E → E → Ordering) (value : ℕ → ℕ) (m n : ℕ) (known : n ≤ m) (within : (k : ℕ) → test k ≡ true → k < n) (by_value : (j k : ℕ) → order (elem j) (elem k) ≡ ordering_then (nat_cmp (value j) (value k)) (nat_cmp j k)) where
    order_of : (a c j k : ℕ) → is_lt (ordering_then (nat_cmp a c) (nat_cmp j k)) ≡ false → (c ≤ a) × (j < k → c < a)
    order_of a c j k f = (grind (arith, nat_tests), λ lt. grind (arith, nat_tests))

    -- none comes before an element of the row
    is_least : (b t : ℕ) (d : E) → IsFirstBest (λ y z. is_lt (order y z)) (row m) (length (row m)) b → test t ≡ true → get_or (row m) b d ≡ elem t → least_below test value n ≡ Some t
    is_least b t d best passes here = least_is test value n t (within t passes) passes (λ k lt e. (others k e).0) (λ k lt e. (others k e).1 lt)
      where
        others : (k : ℕ) → test k ≡ true → (value t ≤ value k) × (k < t → value t < value k)
        others k e =
            let inside = within k e in
            let at = in_row m k (omega arith) e in
            let mine = get_or_default (row m) b (elem k) d best.0 ∙ here in
            order_of (value k) (value t) k t (sym (ap is_lt (by_value k t)) ∙ (sym (ap (λ y. is_lt (order y (elem t))) at.2) ∙ (sym (ap (λ z. is_lt (order (get_or (row m) at.0 (elem k)) z)) mine) ∙ best.1 at.0 (elem k) at.1)))

    pub first_found : (b : ℕ) (d : E) → IsFirstBest (λ y z. is_lt (order y z)) (row m) (length (row m)) b → (t : ℕ) × (least_below test value n ≡ Some t) × (get_or (row m) b d ≡ elem t)
    first_found b d best =
        let P : E → Type 0 = λ y. (t : ℕ) × (test t ≡ true) × (y ≡ elem t) in
        let found = All-get_or P (row m) b d best.0 (all_row P m (λ k lt e. (k, e, refl))) in
        (found.0, is_least b found.0 d best found.1 found.2, found.2)

    pub first_none : length (row m) ≡ 0 → least_below test value n ≡ None
    first_none none = least_nothing test value n (λ k lt. no_row m none k (omega arith))
