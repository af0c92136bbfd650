-- The table of lengths and the row of declared lengths.
use Rattle.std.proofs.Common.{◌≡◌, ℕ, zero, suc, ◌+◌, ◌-◌, ◌*◌, ◌/◌, ◌%◌, ◌<◌, ◌≤◌, ◌≢◌, true, false, cond, ◌&&◌, eqb, ◌⊎◌, List, [], ◌∷◌, ◌++◌, length, get_or, take, set, Some, None, Option, unwrap_or, sym, refl, ap, ◌∙◌, inl, inr, ⊎_elim, add-zero, zero-add, arith}
use Rattle.std.specs.List.{AllByRecursion}
use Rattle.std.proofs.ByRecursion.{all-has, has_append_right, has_get_or}
use Rattle.std.proofs.lemmas.List.{ext_get_or}
use Rattle.std.proofs.lemmas.Bool.{cases_Bool, cases_eq, cases_lt, eq-eqb, ne_eqb, and_from, and_left, and_right, cond-true, cond-false, cases_order}
use Rattle.std.proofs.lemmas.Bool.Decides.{nat_tests}
use Rattle.plan.specs.Adding.{none, below, above}
use Rattle.plan.specs.Contents.{Declared, length_in}
use Rattle.plan.specs.Of.{placed, declared}

declared_yes : (k n : ℕ) (ns : List ℕ) → 0 < n → declared k (n ∷ ns) ≡ placed k n ∷ declared (k + 1) ns
declared_yes k n ns h = cond-false (eqb n 0) _ _ (ne_eqb n 0 (λ e. omega arith))

declared_no : (k n : ℕ) (ns : List ℕ) → n ≡ 0 → declared k (n ∷ ns) ≡ declared (k + 1) ns
declared_no k n ns e = cond-true (eqb n 0) _ _ (eq-eqb n 0 e)

zero_or_more : (n : ℕ) → (n ≡ 0) ⊎ (0 < n)
zero_or_more n = ⊎_elim (λ e. inl e) (λ ne. inr (omega arith)) (cases_eq n 0)

pub declared_none : (k : ℕ) (xs : List ℕ) → ((j : ℕ) → get_or xs j 0 ≡ 0) → declared k xs ≡ []
declared_none k [] h = refl
declared_none k (x ∷ xs) h = declared_no k x xs (h 0) ∙ declared_none (k + 1) xs (λ j. h (suc j))

declared_some : (k : ℕ) (xs : List ℕ) (j : ℕ) → 0 < get_or xs j 0 → 0 < length (declared k xs)
declared_some k [] j h = absurd (omega arith)
declared_some k (x ∷ xs) zero h = rw (declared_yes k x xs h) (omega arith)
declared_some k (x ∷ xs) (suc j) h = ⊎_elim (λ e. rw (declared_no k x xs e) (declared_some (k + 1) xs j h)) (λ m. rw (declared_yes k x xs m) (omega arith)) (zero_or_more x)

-- there are no lengths exactly where no place is used
pub none_declared : (xs : List ℕ) (n : ℕ) → ((k : ℕ) → n ≤ k → get_or xs k 0 ≡ 0) → (0 < n → 0 < get_or xs (n - 1) 0) → none (declared 0 xs) ≡ eqb n 0
none_declared xs n behind ended =
    ⊎_elim
    (λ (e : n ≡ 0). rw (declared_none 0 xs (λ j. behind j (omega arith)), e))
    (λ (m : 0 < n). let s : 0 < length (declared 0 xs) = declared_some 0 xs (n - 1) (ended m) in grind (arith, nat_tests))
    (zero_or_more n)

-- a length stored behind all others comes last
pub declared_set : (k : ℕ) (xs : List ℕ) (i n : ℕ) → i < length xs → ((j : ℕ) → i ≤ j → get_or xs j 0 ≡ 0) → 0 < n → declared k (set xs i n) ≡ declared k xs ++ (placed (k + i) n ∷ [])
declared_set k [] i n l h m = absurd (omega arith)
declared_set k (x ∷ xs) zero n l h m =
    declared_yes k n xs m
    ∙ (ap (λ ds. placed k n ∷ ds) (declared_none (k + 1) xs (λ j. h (suc j) (omega arith)))
    ∙ (ap (λ j. placed j n ∷ []) (sym (add-zero k)) ∙ ap (λ ds. ds ++ (placed (k + 0) n ∷ [])) (sym (declared_no k x xs (h 0 (omega arith)) ∙ declared_none (k + 1) xs (λ j. h (suc j) (omega arith))))))
declared_set k (x ∷ xs) (suc i) n l h m =
    let r : declared (k + 1) (set xs i n) ≡ declared (k + 1) xs ++ (placed ((k + 1) + i) n ∷ []) = declared_set (k + 1) xs i n (omega arith) (λ j g. h (suc j) (omega arith)) m in
    let e : (k + 1) + i ≡ k + suc i = omega arith in
    ⊎_elim
    (λ z. declared_no k x (set xs i n) z ∙ (r ∙ (ap (λ j. declared (k + 1) xs ++ (placed j n ∷ [])) e ∙ ap (λ ds. ds ++ (placed (k + suc i) n ∷ [])) (sym (declared_no k x xs z)))))
    (λ p. declared_yes k x (set xs i n) p ∙ (ap (λ ds. placed k x ∷ ds) r ∙ (ap (λ j. placed k x ∷ (declared (k + 1) xs ++ (placed j n ∷ []))) e ∙ ap (λ ds. ds ++ (placed (k + suc i) n ∷ [])) (sym (declared_yes k x xs p)))))
    (zero_or_more x)

-- an earlier place stands below what a later one stands below
below_before : (j k n t r : ℕ) → j ≤ k → below (placed k 0) t r ≡ true → below (placed j n) t r ≡ true
below_before j k n t r l h = grind (arith, nat_tests)

above_all : (k : ℕ) (xs : List ℕ) (last t r : ℕ) → ((j : ℕ) → 0 < get_or xs j 0 → k + j ≤ last) → below (placed last 0) t r ≡ true → above (declared k xs) t r ≡ true
above_all k [] last t r h b = refl
above_all k (x ∷ xs) last t r h b =
    let more : above (declared (k + 1) xs) t r ≡ true = above_all (k + 1) xs last t r (λ j g. omega (arith, h (suc j) g)) b in
    ⊎_elim (λ z. rw (declared_no k x xs z) more) (λ p. rw (declared_yes k x xs p) (and_from _ _ (below_before k last x t r (omega (arith, h 0 p)) b) more)) (zero_or_more x)

above_none : (k : ℕ) (xs : List ℕ) (j t r : ℕ) → 0 < get_or xs j 0 → below (placed (k + j) 0) t r ≡ false → above (declared k xs) t r ≡ false
above_none k [] j t r h b = absurd (omega arith)
above_none k (x ∷ xs) zero t r h b = rw (declared_yes k x xs h) (and_left _ _ (rw add-zero at b))
above_none k (x ∷ xs) (suc j) t r h b =
    let e : (k + 1) + j ≡ k + suc j = omega arith in
    let more : above (declared (k + 1) xs) t r ≡ false = above_none (k + 1) xs j t r h (rw e b) in
    ⊎_elim (λ z. rw (declared_no k x xs z) more) (λ p. rw (declared_yes k x xs p) (and_right _ _ more)) (zero_or_more x)

-- it is enough to compare with the last place
pub above_last : (xs : List ℕ) (n t r : ℕ) → 0 < n → ((k : ℕ) → n ≤ k → get_or xs k 0 ≡ 0) → 0 < get_or xs (n - 1) 0 → above (declared 0 xs) t r ≡ below (placed (n - 1) 0) t r
above_last xs n t r some behind ended =
    ⊎_elim
    (λ (b : below (placed (n - 1) 0) t r ≡ true). above_all 0 xs (n - 1) t r (λ j g. ⊎_elim (λ l. omega arith) (λ l. absurd (omega (arith, behind j l))) (cases_lt j n)) b ∙ sym b)
    (λ (b : below (placed (n - 1) 0) t r ≡ false). above_none 0 xs (n - 1) t r ended (rw zero-add b) ∙ sym b)
    (cases_Bool (below (placed (n - 1) 0) t r))

pub above_ended : (xs : List ℕ) (n t r : ℕ) → n ≢ 0 → ((k : ℕ) → n ≤ k → get_or xs k 0 ≡ 0) → (0 < n → 0 < get_or xs (n - 1) 0) → below (placed (n - 1) 0) t r ≡ above (declared 0 xs) t r
above_ended xs n t r some behind ended = sym (above_last xs n t r (omega arith) behind (ended (omega arith)))

-- the place of a task and a resource
pub placed_at : (t r n : ℕ) → r < 16 → placed (0 + (t * 16 + r)) n ≡ record { task = t; resource = r; ticks = n }
placed_at t r n l =
    let a : (0 + (t * 16 + r)) / 16 ≡ t = omega arith in
    let b : (0 + (t * 16 + r)) % 16 ≡ r = omega arith in
    λ i. record { task = a i; resource = b i; ticks = n }

-- the same of a length stored at the place of its task and resource
pub declared_stored : (xs : List ℕ) (t r n : ℕ) → r < 16 → t * 16 + r < length xs → ((j : ℕ) → t * 16 + r ≤ j → get_or xs j 0 ≡ 0) → 0 < n → declared 0 (set xs (t * 16 + r) n) ≡ declared 0 xs ++ (record { task = t; resource = r; ticks = n } ∷ [])
declared_stored xs t r n small l behind some = declared_set 0 xs (t * 16 + r) n l behind some ∙ ap (λ d. declared 0 xs ++ (d ∷ [])) (placed_at t r n small)

-- what stands above all lengths has its place behind them
pub above_behind : (xs : List ℕ) (n t r : ℕ) → ((k : ℕ) → n ≤ k → get_or xs k 0 ≡ 0) → (0 < n → 0 < get_or xs (n - 1) 0) → above (declared 0 xs) t r ≡ true → n ≤ t * 16 + r
above_behind xs n t r behind ended a =
    ⊎_elim
    (λ z. omega arith)
    (λ p. let b : below (placed (n - 1) 0) t r ≡ true = sym (above_last xs n t r p behind (ended p)) ∙ a in grind (arith, nat_tests))
    (zero_or_more n)

no_match : (k t r : ℕ) → r < 16 → (k ≡ t * 16 + r → ⊥) → (eqb (k / 16) t && eqb (k % 16) r) ≡ false
no_match k t r l ne = grind (arith, nat_tests)

match : (k t r : ℕ) → r < 16 → k ≡ t * 16 + r → (eqb (k / 16) t && eqb (k % 16) r) ≡ true
match k t r l e = grind (arith, nat_tests)

-- no length is found before the place where the search begins
length_before : (k : ℕ) (xs : List ℕ) (t r : ℕ) → r < 16 → t * 16 + r < k → length_in (declared k xs) t r ≡ None
length_before k [] t r l b = refl
length_before k (x ∷ xs) t r l b =
    let more : length_in (declared (k + 1) xs) t r ≡ None = length_before (k + 1) xs t r l (omega arith) in
    ⊎_elim (λ z. rw (declared_no k x xs z) more) (λ p. rw (declared_yes k x xs p) (cond-false _ _ _ (no_match k t r l (λ e. omega arith)) ∙ more)) (zero_or_more x)

-- the length that a place of the table holds
abbrev pub held : ℕ → Option ℕ
held n = cond (eqb n 0) None (Some n)

length_from : (k : ℕ) (xs : List ℕ) (t r : ℕ) → r < 16 → k ≤ t * 16 + r → length_in (declared k xs) t r ≡ held (get_or xs ((t * 16 + r) - k) 0)
length_from k [] t r l b = refl
length_from k (x ∷ xs) t r l b =
    ⊎_elim
    (λ (e : k ≡ t * 16 + r).
    let z : (t * 16 + r) - k ≡ 0 = omega arith in
    let before : length_in (declared (k + 1) xs) t r ≡ None = length_before (k + 1) xs t r l (omega arith) in
    ⊎_elim
    (λ (n : x ≡ 0). rw (declared_no k x xs n, z) (before ∙ sym (cond-true (eqb x 0) _ _ (eq-eqb x 0 n))))
    (λ (p : 0 < x). rw (declared_yes k x xs p, z) (cond-true _ _ _ (match k t r l e) ∙ sym (cond-false (eqb x 0) _ _ (ne_eqb x 0 (λ n. omega arith)))))
    (zero_or_more x))
    (λ ne.
    let s : (t * 16 + r) - k ≡ suc ((t * 16 + r) - (k + 1)) = omega arith in
    let more : length_in (declared (k + 1) xs) t r ≡ held (get_or xs ((t * 16 + r) - (k + 1)) 0) = length_from (k + 1) xs t r l (omega arith) in
    ⊎_elim
    (λ (n : x ≡ 0). rw (declared_no k x xs n, s) more)
    (λ (p : 0 < x). rw (declared_yes k x xs p, s) (cond-false _ _ _ (no_match k t r l ne) ∙ more))
    (zero_or_more x))
    (cases_eq k (t * 16 + r))

-- the length of a task at a resource lies at its place
pub length_held : (xs : List ℕ) (t r : ℕ) → r < 16 → length_in (declared 0 xs) t r ≡ held (get_or xs (t * 16 + r) 0)
length_held xs t r l = let e : (t * 16 + r) - 0 ≡ t * 16 + r = omega arith in length_from 0 xs t r l (omega arith) ∙ ap (λ i. held (get_or xs i 0)) e

-- and there is none at a resource from 16 up
pub length_none : (k : ℕ) (xs : List ℕ) (t r : ℕ) → 16 ≤ r → length_in (declared k xs) t r ≡ None
length_none k [] t r l = refl
length_none k (x ∷ xs) t r l =
    let more : length_in (declared (k + 1) xs) t r ≡ None = length_none (k + 1) xs t r l in
    let other : (eqb (k / 16) t && eqb (k % 16) r) ≡ false = grind (arith, nat_tests) in
    ⊎_elim (λ z. rw (declared_no k x xs z) more) (λ p. rw (declared_yes k x xs p) (cond-false _ _ _ other ∙ more)) (zero_or_more x)

pub held_or_zero : (n : ℕ) → unwrap_or (held n) 0 ≡ n
held_or_zero n = ⊎_elim (λ z. ap (λ o. unwrap_or o 0) (cond-true (eqb n 0) _ _ (eq-eqb n 0 z)) ∙ sym z) (λ p. ap (λ o. unwrap_or o 0) (cond-false (eqb n 0) _ _ (ne_eqb n 0 (λ e. omega arith)))) (zero_or_more n)

-- equal rows of lengths make equal tables
pub same_lengths : (xs ys : List ℕ) → length xs ≡ length ys → declared 0 xs ≡ declared 0 ys → xs ≡ ys
same_lengths xs ys long e =
    ext_get_or 0 xs ys long
    (λ i l.
    let p : (i / 16) * 16 + i % 16 ≡ i = omega arith in
    let find : (zs : List ℕ) → unwrap_or (length_in (declared 0 zs) (i / 16) (i % 16)) 0 ≡ get_or zs i 0 = λ zs. ap (λ o. unwrap_or o 0) (length_held zs (i / 16) (i % 16) (omega arith)) ∙ (held_or_zero _ ∙ ap (λ j. get_or zs j 0) p) in
    sym (find xs) ∙ (ap (λ ds. unwrap_or (length_in ds (i / 16) (i % 16)) 0) e ∙ find ys))

-- and the same end
pub same_end : (xs : List ℕ) (m n : ℕ) → ((k : ℕ) → m ≤ k → get_or xs k 0 ≡ 0) → (0 < m → 0 < get_or xs (m - 1) 0) → ((k : ℕ) → n ≤ k → get_or xs k 0 ≡ 0) → (0 < n → 0 < get_or xs (n - 1) 0) → m ≡ n
same_end xs m n bm em bn en =
    ⊎_elim (λ e. e) (λ o. ⊎_elim (λ l. absurd (omega (arith, bm (n - 1) (omega arith), en (omega arith)))) (λ l. absurd (omega (arith, bn (m - 1) (omega arith), em (omega arith)))) o) (cases_order m n)

-- each length stands below all behind it
abbrev pub Rising : List Declared → Type 0
Rising [] = Unit {0}
Rising (d ∷ ds) = AllByRecursion (λ e. below d e.task e.resource ≡ true) ds × Rising ds

below_later : (k n j m : ℕ) → k < j → below (placed k n) (placed j m).task (placed j m).resource ≡ true
below_later k n j m l = grind (arith, nat_tests)

below_rest : (k n j : ℕ) (xs : List ℕ) → k < j → AllByRecursion (λ e. below (placed k n) e.task e.resource ≡ true) (declared j xs)
below_rest k n j [] l = tt
below_rest k n j (x ∷ xs) l =
    let more = below_rest k n (j + 1) xs (omega arith) in
    ⊎_elim (λ z. rw (declared_no j x xs z) more) (λ p. rw (declared_yes j x xs p) (below_later k n j x l, more)) (zero_or_more x)

pub declared_rising : (k : ℕ) (xs : List ℕ) → Rising (declared k xs)
declared_rising k [] = tt
declared_rising k (x ∷ xs) =
    ⊎_elim (λ z. rw (declared_no k x xs z) (declared_rising (k + 1) xs)) (λ p. rw (declared_yes k x xs p) (below_rest k x (k + 1) xs (omega arith), declared_rising (k + 1) xs)) (zero_or_more x)

-- a length of a rising row stands above those before it
pub above_front : (before : List Declared) (d : Declared) (behind : List Declared) → Rising (before ++ (d ∷ behind)) → above before d.task d.resource ≡ true
above_front [] d behind h = refl
above_front (b ∷ bs) d behind h = and_from _ _ (all-has _ (bs ++ (d ∷ behind)) d h.0 (has_append_right bs (d ∷ behind) d (has_get_or (d ∷ behind) 0 d (omega arith)))) (above_front bs d behind h.1)

-- what holds of each used place holds of each declared length
pub declared_all : (P : Declared → Type 0) (k : ℕ) (xs : List ℕ) → ((j : ℕ) → 0 < get_or xs j 0 → P (placed (k + j) (get_or xs j 0))) → AllByRecursion P (declared k xs)
declared_all P k [] h = tt
declared_all P k (x ∷ xs) h =
    let more : AllByRecursion P (declared (k + 1) xs) = declared_all P (k + 1) xs (λ j g. let e : (k + 1) + j ≡ k + suc j = omega arith in rw e (h (suc j) g)) in
    ⊎_elim (λ z. rw (declared_no k x xs z) more) (λ p. rw (declared_yes k x xs p) (let first : P (placed (k + 0) x) = h 0 p in rw add-zero at first, more)) (zero_or_more x)

pub declared_few : (k : ℕ) (xs : List ℕ) → length (declared k xs) ≤ length xs
declared_few k [] = omega arith
declared_few k (x ∷ xs) =
    let more = declared_few (k + 1) xs in
    ⊎_elim (λ z. rw (declared_no k x xs z) (omega arith)) (λ p. rw (declared_yes k x xs p) (omega arith)) (zero_or_more x)

-- one more place of the table
abbrev pub held_at : ℕ → ℕ → List Declared
held_at k n = cond (eqb n 0) [] (placed k n ∷ [])

pub declared_more : (k : ℕ) (xs : List ℕ) (i : ℕ) → i < length xs → declared k (take (i + 1) xs) ≡ declared k (take i xs) ++ held_at (k + i) (get_or xs i 0)
declared_more k [] i l = absurd (omega arith)
declared_more k (x ∷ xs) zero l =
    let e : k + 0 ≡ k = add-zero k in
    ⊎_elim
    (λ z. declared_no k x [] z ∙ sym (cond-true (eqb x 0) _ _ (eq-eqb x 0 z)))
    (λ p. declared_yes k x [] p ∙ (ap (λ j. placed j x ∷ []) (sym e) ∙ sym (cond-false (eqb x 0) _ _ (ne_eqb x 0 (λ n. omega arith)))))
    (zero_or_more x)
declared_more k (x ∷ xs) (suc i) l =
    let s : suc i + 1 ≡ suc (i + 1) = omega arith in
    let e : (k + 1) + i ≡ k + suc i = omega arith in
    let more : declared (k + 1) (take (i + 1) xs) ≡ declared (k + 1) (take i xs) ++ held_at (k + suc i) (get_or xs i 0) = declared_more (k + 1) xs i (omega arith) ∙ ap (λ j. declared (k + 1) (take i xs) ++ held_at j (get_or xs i 0)) e in
    rw s
    (⊎_elim
    (λ z. declared_no k x (take (i + 1) xs) z ∙ (more ∙ ap (λ ds. ds ++ held_at (k + suc i) (get_or xs i 0)) (sym (declared_no k x (take i xs) z))))
    (λ p. declared_yes k x (take (i + 1) xs) p ∙ (ap (λ ds. placed k x ∷ ds) more ∙ ap (λ ds. ds ++ held_at (k + suc i) (get_or xs i 0)) (sym (declared_yes k x (take i xs) p))))
    (zero_or_more x))
