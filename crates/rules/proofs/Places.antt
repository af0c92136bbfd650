-- Jobs in their clusters: who runs, who is among the first and who is blocked, as jobs are released and end. Assumes nothing.
use Rattle.std.proofs.Common.{◌≡◌, ℕ, zero, suc, ◌+◌, ◌<◌, ◌≤◌, Bool, true, false, not, ◌&&◌, eqb, ltb, leb, List, [], ◌∷◌, length, get_or, take, sum, sym, refl, ap, ◌∙◌, inl, inr, ⊎_elim, add-one, arith}
use Rattle.std.proofs.lemmas.List.Sums.{sum_by_more, sum_by-take-le}
use Rattle.std.proofs.lemmas.Bool.{and_parts, and_from, and_cases, and_left, and_right, ltb-true, ltb-false, lt-ltb, le-ltb, leb-true, le-leb, lt-leb, eqb-true, eq-eqb, ne_eqb, cases_eq, cases_Bool, both_ways, false≢true}
use Rattle.std.proofs.lemmas.Bool.Decides.{nat_tests}
use Rattle.bank.specs.Lists.{count}
use Rattle.bank.specs.declared.request.Request.{Request}
use Rattle.rules.specs.Jobs.{Setup, Jobs, cluster_of, processors_for, count_below, unfinished, ready, before, runs, is_among_first, blocked}
use Rattle.rules.specs.States.{is_idle, is_ready}
use Rattle.rules.specs.declared.task.State.{State}
use Rattle.rules.specs.declared.task.State.TheVariants.{Idle, Going, HeldBack, Waiting, Holding}
use Rattle.rules.proofs.Counts.{count_mono, count_same, count_split, count_more, count_one, count_none, count_some}

-- unfinished jobs are of tasks that are known, and have numbers below n, no two the same
pub record Numbered (a : Setup) (j : Jobs) (releases : ℕ) : Type 0 where
  pub known : (t : ℕ) → unfinished j t ≡ true → t < a.tasks
  pub below : (t : ℕ) → unfinished j t ≡ true → j.number t < releases
  pub apart : (t u : ℕ) → unfinished j t ≡ true → unfinished j u ≡ true → j.number t ≡ j.number u → t ≡ u

-- a job that passes a test comes before t in its cluster
abbrev prior : Setup → Jobs → (ℕ → Bool) → ℕ → ℕ → Bool
prior a j test t u = test u && (eqb (cluster_of a.plan u) (cluster_of a.plan t) && ltb (j.number u) (j.number t))

ready_unfinished : (s : State) → is_ready s ≡ true → not (is_idle s) ≡ true
ready_unfinished Idle e = absurd (false≢true e)
ready_unfinished Going e = refl
ready_unfinished (HeldBack w) e = absurd (false≢true e)
ready_unfinished (Waiting w) e = absurd (false≢true e)
ready_unfinished (Holding w) e = refl

module _ (a : Setup) (j : Jobs) (t : ℕ) where
  first_parts : is_among_first a.plan a.tasks j t ≡ true → (unfinished j t ≡ true) × (before a.plan a.tasks j (unfinished j) t < processors_for a.plan t)
  first_parts e =
      let parts = and_parts (unfinished j t) (ltb (before a.plan a.tasks j (unfinished j) t) (processors_for a.plan t)) e in
      (parts.0, ltb-true (before a.plan a.tasks j (unfinished j) t) (processors_for a.plan t) parts.1)

  first_from : unfinished j t ≡ true → before a.plan a.tasks j (unfinished j) t < processors_for a.plan t → is_among_first a.plan a.tasks j t ≡ true
  first_from e lt = and_from (unfinished j t) (ltb (before a.plan a.tasks j (unfinished j) t) (processors_for a.plan t)) e (lt-ltb (before a.plan a.tasks j (unfinished j) t) (processors_for a.plan t) lt)

  not_first : unfinished j t ≡ true → is_among_first a.plan a.tasks j t ≡ false → processors_for a.plan t ≤ before a.plan a.tasks j (unfinished j) t
  not_first e f =
      ⊎_elim (λ g. absurd (both_ways (unfinished j t) g e)) (λ g. ltb-false (before a.plan a.tasks j (unfinished j) t) (processors_for a.plan t) g)
      (and_cases (unfinished j t) (ltb (before a.plan a.tasks j (unfinished j) t) (processors_for a.plan t)) f)

  not_first_from : processors_for a.plan t ≤ before a.plan a.tasks j (unfinished j) t → is_among_first a.plan a.tasks j t ≡ false
  not_first_from le = and_right (unfinished j t) (ltb (before a.plan a.tasks j (unfinished j) t) (processors_for a.plan t)) (le-ltb (before a.plan a.tasks j (unfinished j) t) (processors_for a.plan t) le)

  -- a ready job among the first runs
  pub first_ready_runs : is_among_first a.plan a.tasks j t ≡ true → ready j t ≡ true → runs a.plan a.tasks j t ≡ true
  first_ready_runs e r =
      let le = count_mono (prior a j (ready j) t) (prior a j (unfinished j) t) a.tasks
      (λ u lt f.
      let parts = and_parts (ready j u) (eqb (cluster_of a.plan u) (cluster_of a.plan t) && ltb (j.number u) (j.number t)) f in
      and_from (unfinished j u) (eqb (cluster_of a.plan u) (cluster_of a.plan t) && ltb (j.number u) (j.number t)) (ready_unfinished (j.state u) parts.0) parts.1) in
      and_from (ready j t) (ltb (before a.plan a.tasks j (ready j) t) (processors_for a.plan t)) r (lt-ltb (before a.plan a.tasks j (ready j) t) (processors_for a.plan t) (omega (arith, le, (first_parts e).1)))

  -- a job is blocked where it is among the first and not ready, and nowhere else
  pub blocked_is : is_among_first a.plan a.tasks j t ≡ true → ready j t ≡ false → blocked a.plan a.tasks j t ≡ true
  blocked_is e r = and_from (is_among_first a.plan a.tasks j t) (not (runs a.plan a.tasks j t)) e (ap not (and_left (ready j t) (ltb (before a.plan a.tasks j (ready j) t) (processors_for a.plan t)) r))

  pub not_blocked_later : is_among_first a.plan a.tasks j t ≡ false → blocked a.plan a.tasks j t ≡ false
  not_blocked_later e = and_left (is_among_first a.plan a.tasks j t) (not (runs a.plan a.tasks j t)) e

  pub not_blocked_ready : ready j t ≡ true → blocked a.plan a.tasks j t ≡ false
  not_blocked_ready r =
      ⊎_elim (λ e. and_right (is_among_first a.plan a.tasks j t) (not (runs a.plan a.tasks j t)) (ap not (first_ready_runs e r))) not_blocked_later (cases_Bool (is_among_first a.plan a.tasks j t))

module _ (a : Setup) (j j' : Jobs) where
  -- with the same jobs before it a job keeps its place
  place_same : (t : ℕ) → unfinished j' t ≡ unfinished j t → ((u : ℕ) → u < a.tasks → prior a j' (unfinished j') t u ≡ prior a j (unfinished j) t u) → is_among_first a.plan a.tasks j' t ≡ is_among_first a.plan a.tasks j t
  place_same t e h =
      let same = count_same (prior a j' (unfinished j') t) (prior a j (unfinished j) t) a.tasks h in
      (λ i. e i && ltb (same i) (processors_for a.plan t))

  -- where the same jobs are unfinished, with the same numbers, the same are among the first
  pub first_same : ((t : ℕ) → unfinished j' t ≡ unfinished j t) → ((t : ℕ) → unfinished j t ≡ true → j'.number t ≡ j.number t) → (t : ℕ) → is_among_first a.plan a.tasks j' t ≡ is_among_first a.plan a.tasks j t
  first_same unf num t = ⊎_elim there gone (cases_Bool (unfinished j t))
    where
      gone : unfinished j t ≡ false → is_among_first a.plan a.tasks j' t ≡ is_among_first a.plan a.tasks j t
      gone e =
          and_left (unfinished j' t) (ltb (before a.plan a.tasks j' (unfinished j') t) (processors_for a.plan t)) (unf t ∙ e)
          ∙ sym (and_left (unfinished j t) (ltb (before a.plan a.tasks j (unfinished j) t) (processors_for a.plan t)) e)

      there : unfinished j t ≡ true → is_among_first a.plan a.tasks j' t ≡ is_among_first a.plan a.tasks j t
      there e =
          place_same t (unf t) (λ u lt.
          ⊎_elim
          (λ f. λ i. unf u i && (eqb (cluster_of a.plan u) (cluster_of a.plan t) && ltb (num u f i) (num t e i)))
          (λ f. and_left (unfinished j' u) (eqb (cluster_of a.plan u) (cluster_of a.plan t) && ltb (j'.number u) (j'.number t)) (unf u ∙ f)
          ∙ sym (and_left (unfinished j u) (eqb (cluster_of a.plan u) (cluster_of a.plan t) && ltb (j.number u) (j.number t)) f))
          (cases_Bool (unfinished j u)))

  -- only the job of p changes
  module _ (p : ℕ) (others : (q : ℕ) → (q ≡ p → ⊥) → (j'.state q ≡ j.state q) × (j'.number q ≡ j.number q)) where
    same_unfinished : (q : ℕ) → (q ≡ p → ⊥) → unfinished j' q ≡ unfinished j q
    same_unfinished q ne = ap (λ s. not (is_idle s)) (others q ne).0

    same_prior : (t u : ℕ) → (t ≡ p → ⊥) → (u ≡ p → ⊥) → prior a j' (unfinished j') t u ≡ prior a j (unfinished j) t u
    same_prior t u nt nu = λ i. same_unfinished u nu i && (eqb (cluster_of a.plan u) (cluster_of a.plan t) && ltb ((others u nu).1 i) ((others t nt).1 i))

    -- a release comes after all others
    pub first_released : (n : ℕ) → Numbered a j n → unfinished j p ≡ false → j'.number p ≡ n → (t : ℕ) → unfinished j t ≡ true → is_among_first a.plan a.tasks j' t ≡ is_among_first a.plan a.tasks j t
    first_released n k ip np t e =
        place_same t (same_unfinished t nt) (λ u lt.
        ⊎_elim
        (λ (f : u ≡ p).
        rw f (
        and_right (unfinished j' p) (eqb (cluster_of a.plan p) (cluster_of a.plan t) && ltb (j'.number p) (j'.number t))
        (and_right (eqb (cluster_of a.plan p) (cluster_of a.plan t)) (ltb (j'.number p) (j'.number t)) (le-ltb (j'.number p) (j'.number t) (omega (arith, k.below t e, (others t nt).1, np))))
        ∙ sym (and_left (unfinished j p) (eqb (cluster_of a.plan p) (cluster_of a.plan t) && ltb (j.number p) (j.number t)) ip)))
        (λ ne. same_prior t u nt ne)
        (cases_eq u p))
      where
        nt : t ≡ p → ⊥
        nt same = both_ways (unfinished j t) (rw same ip) e

    -- an end of p's job: no other's place gets worse
    module _ (gone : unfinished j' p ≡ false) where
      still_prior : (t u : ℕ) → (t ≡ p → ⊥) → prior a j' (unfinished j') t u ≡ true → prior a j (unfinished j) t u ≡ true
      still_prior t u nt e =
          ⊎_elim
          (λ (f : u ≡ p). absurd (both_ways (unfinished j' u) (rw f gone) (and_parts (unfinished j' u) (eqb (cluster_of a.plan u) (cluster_of a.plan t) && ltb (j'.number u) (j'.number t)) e).0))
          (λ nu. sym (same_prior t u nt nu) ∙ e)
          (cases_eq u p)

      pub first_ended : (t : ℕ) → (t ≡ p → ⊥) → is_among_first a.plan a.tasks j t ≡ true → is_among_first a.plan a.tasks j' t ≡ true
      first_ended t nt e =
          let parts = first_parts a j t e in
          first_from a j' t (same_unfinished t nt ∙ parts.0)
          (omega (arith, parts.1, count_mono (prior a j' (unfinished j') t) (prior a j (unfinished j) t) a.tasks (λ u lt. still_prior t u nt)))

      -- in the other clusters nothing changes
      pub ended_other_cluster : (t : ℕ) → (cluster_of a.plan t ≡ cluster_of a.plan p → ⊥) → (t ≡ p → ⊥) → is_among_first a.plan a.tasks j' t ≡ is_among_first a.plan a.tasks j t
      ended_other_cluster t far nt =
          place_same t (same_unfinished t nt) (λ u lt.
          ⊎_elim
          (λ (f : u ≡ p).
          let no : eqb (cluster_of a.plan p) (cluster_of a.plan t) ≡ false = ne_eqb (cluster_of a.plan p) (cluster_of a.plan t) (λ e. far (sym e)) in
          rw f (
          and_right (unfinished j' p) (eqb (cluster_of a.plan p) (cluster_of a.plan t) && ltb (j'.number p) (j'.number t)) (and_left (eqb (cluster_of a.plan p) (cluster_of a.plan t)) (ltb (j'.number p) (j'.number t)) no)
          ∙ sym (and_right (unfinished j p) (eqb (cluster_of a.plan p) (cluster_of a.plan t) && ltb (j.number p) (j.number t)) (and_left (eqb (cluster_of a.plan p) (cluster_of a.plan t)) (ltb (j.number p) (j.number t)) no))))
          (λ nu. same_prior t u nt nu)
          (cases_eq u p))

      -- at most one of a cluster comes among the first
      pub ended_one : (n u v : ℕ) → Numbered a j n → unfinished j u ≡ true → unfinished j v ≡ true → (v ≡ p → ⊥) → (u ≡ v → ⊥) → cluster_of a.plan u ≡ cluster_of a.plan v → j.number u ≤ j.number v
          → is_among_first a.plan a.tasks j u ≡ false → is_among_first a.plan a.tasks j' v ≡ false
      ended_one n u v k eu ev nv ne same le e =
          let less : j.number u < j.number v = ⊎_elim (λ (q : j.number u ≡ j.number v). absurd (ne (k.apart u v eu ev q))) (λ (q : j.number u ≡ j.number v → ⊥). omega arith) (cases_eq (j.number u) (j.number v)) in
          let c = not_first a j u eu e in
          let cs : processors_for a.plan u ≡ processors_for a.plan v = ap (λ q. get_or a.plan.clusters q 0) same in
          let up = count_more (prior a j (unfinished j) u) (prior a j (unfinished j) v) u a.tasks (k.known u eu)
          (and_right (unfinished j u) (eqb (cluster_of a.plan u) (cluster_of a.plan u) && ltb (j.number u) (j.number u))
          (and_right (eqb (cluster_of a.plan u) (cluster_of a.plan u)) (ltb (j.number u) (j.number u)) (le-ltb (j.number u) (j.number u) (omega arith))))
          (and_from (unfinished j u) (eqb (cluster_of a.plan u) (cluster_of a.plan v) && ltb (j.number u) (j.number v)) eu
          (and_from (eqb (cluster_of a.plan u) (cluster_of a.plan v)) (ltb (j.number u) (j.number v)) (eq-eqb (cluster_of a.plan u) (cluster_of a.plan v) same) (lt-ltb (j.number u) (j.number v) less)))
          (λ x lt f. grind (arith, nat_tests)) in
          let down = count_split (prior a j (unfinished j) v) (prior a j' (unfinished j') v) (λ x. eqb x p) a.tasks
          (λ x lt f. ⊎_elim (λ (q : x ≡ p). inr (eq-eqb x p q)) (λ nx. inl (same_prior v x nv nx ∙ f)) (cases_eq x p)) in
          let one = count_one (λ x. eqb x p) a.tasks (λ x y ex ey. eqb-true x p ex ∙ sym (eqb-true y p ey)) in
          not_first_from a j' v (omega (arith, c, cs, up, down, one))

-- who comes later in a cluster than one that is not among the first is not either
pub later_not_first : (a : Setup) (j : Jobs) (u v : ℕ) → unfinished j u ≡ true → cluster_of a.plan u ≡ cluster_of a.plan v → j.number u ≤ j.number v → is_among_first a.plan a.tasks j u ≡ false → is_among_first a.plan a.tasks j v ≡ false
later_not_first a j u v eu same le e =
    let cs : processors_for a.plan u ≡ processors_for a.plan v = ap (λ q. get_or a.plan.clusters q 0) same in
    not_first_from a j v (omega (arith, not_first a j u eu e, cs, count_mono (prior a j (unfinished j) u) (prior a j (unfinished j) v) a.tasks (λ x lt f. grind (arith, nat_tests))))

-- where each that passes has fewer than k before it, at most k pass
module _ (p : ℕ → Bool) (num : ℕ → ℕ) (k m : ℕ) (apart : (x y : ℕ) → p x ≡ true → p y ≡ true → num x ≡ num y → x ≡ y)
    (early : (x : ℕ) → p x ≡ true → count_below (λ u. p u && ltb (num u) (num x)) m < k) where
  at_most : (n : ℕ) → count_below (λ u. p u && eqb (num u) n) m ≤ 1
  at_most n =
      count_one (λ u. p u && eqb (num u) n) m
      (λ x y ex ey.
      let px = and_parts (p x) (eqb (num x) n) ex in
      let py = and_parts (p y) (eqb (num y) n) ey in
      apart x y px.0 py.0 (eqb-true (num x) n px.1 ∙ sym (eqb-true (num y) n py.1)))

  ranked : (n : ℕ) → count_below (λ u. p u && ltb (num u) n) m ≤ k
  ranked zero = omega (arith, count_none (λ u. p u && ltb (num u) 0) m (λ u lt. and_right (p u) (ltb (num u) 0) (le-ltb (num u) 0 (omega arith))))
  ranked (suc n) =
      let split = count_split (λ u. p u && ltb (num u) (suc n)) (λ u. p u && ltb (num u) n) (λ u. p u && eqb (num u) n) m (λ x lt e. grind (arith, nat_tests)) in
      ⊎_elim
      (λ z. omega (arith, split, z, ranked n))
      (λ (f : (x : ℕ) × (x < m) × ((p x && eqb (num x) n) ≡ true)).
      let parts = and_parts (p f.0) (eqb (num f.0) n) f.2 in
      let e : num f.0 ≡ n = eqb-true (num f.0) n parts.1 in
      let lt : count_below (λ u. p u && ltb (num u) n) m < k = rw e at (early f.0 parts.0) in
      omega (arith, split, lt, at_most n))
      (count_some (λ u. p u && eqb (num u) n) m)

-- a party has a request in the list
abbrev pub listed : List Request → ℕ → Bool
listed xs q = leb 1 (count (λ x. eqb x.party q) xs)

-- a list in which each party is at most once is as long as it has parties
pub listed_length : (m : ℕ) (xs : List Request) → ((q : ℕ) → count (λ x. eqb x.party q) xs ≤ 1) → ((q : ℕ) → 1 ≤ count (λ x. eqb x.party q) xs → q < m) → length xs ≤ count_below (listed xs) m
listed_length m [] once under = omega arith
listed_length m (x ∷ xs) once under =
    let self = eq-eqb x.party x.party refl in
    let here : count (λ y. eqb y.party x.party) (x ∷ xs) ≡ 1 + count (λ y. eqb y.party x.party) xs = rw self in
    let more : (q : ℕ) → count (λ y. eqb y.party q) xs ≤ count (λ y. eqb y.party q) (x ∷ xs) = λ q. omega arith in
    omega (
      arith,
      listed_length m xs (λ q. omega (arith, once q, more q)) (λ q l. under q (omega (arith, more q))),
      count_more (listed xs) (listed (x ∷ xs)) x.party m (under x.party (omega (arith, here)))
          (lt-leb 1 (count (λ y. eqb y.party x.party) xs) (omega (arith, here, once x.party)))
          (le-leb 1 (count (λ y. eqb y.party x.party) (x ∷ xs)) (omega (arith, here)))
          (λ q l f. le-leb 1 (count (λ y. eqb y.party q) (x ∷ xs)) (omega (arith, more q, leb-true 1 (count (λ y. eqb y.party q) xs) f))),
    )

-- some of those among the first
module _ (a : Setup) (j : Jobs) (n : ℕ) (k : Numbered a j n) (inside : (t : ℕ) → t < a.tasks → cluster_of a.plan t < length a.plan.clusters)
    (sel : ℕ → Bool) (early : (t : ℕ) → sel t ≡ true → is_among_first a.plan a.tasks j t ≡ true) where
  chosen : (t : ℕ) → sel t ≡ true → unfinished j t ≡ true
  chosen t e = (first_parts a j t (early t e)).0

  chosen_known : (t : ℕ) → sel t ≡ true → t < a.tasks
  chosen_known t e = k.known t (chosen t e)

  abbrev within : ℕ → ℕ → Bool
  within q t = sel t && eqb (cluster_of a.plan t) q

  few : (q t : ℕ) → within q t ≡ true → count_below (λ u. within q u && ltb (j.number u) (j.number t)) a.tasks < get_or a.plan.clusters q 0
  few q t e =
      let here = and_parts (sel t) (eqb (cluster_of a.plan t) q) e in
      let same = eqb-true (cluster_of a.plan t) q here.1 in
      let lt : before a.plan a.tasks j (unfinished j) t < get_or a.plan.clusters q 0 = omega (arith, (first_parts a j t (early t here.0)).1, ap (λ c. get_or a.plan.clusters c 0) same) in
      omega (
        arith,
        lt,
        count_mono (λ u. within q u && ltb (j.number u) (j.number t)) (prior a j (unfinished j) t) a.tasks (λ u l f. let c = chosen u in grind (arith, nat_tests)),
      )

  one_cluster : (q : ℕ) → count_below (within q) a.tasks ≤ get_or a.plan.clusters q 0
  one_cluster q =
      omega (
        arith,
        count_mono (within q) (λ t. within q t && ltb (j.number t) n) a.tasks
            (λ t l e. and_from (within q t) (ltb (j.number t) n) e (lt-ltb (j.number t) n (k.below t (chosen t (and_parts (sel t) (eqb (cluster_of a.plan t) q) e).0)))),
        ranked (within q) j.number (get_or a.plan.clusters q 0) a.tasks
            (λ x y ex ey. k.apart x y (chosen x (and_parts (sel x) (eqb (cluster_of a.plan x) q) ex).0) (chosen y (and_parts (sel y) (eqb (cluster_of a.plan y) q) ey).0)) (few q) n,
      )

  clusters : (c : ℕ) → c ≤ length a.plan.clusters → count_below (λ t. sel t && ltb (cluster_of a.plan t) c) a.tasks ≤ sum (take c a.plan.clusters)
  clusters zero le = omega (arith, count_none (λ t. sel t && ltb (cluster_of a.plan t) 0) a.tasks (λ t l. and_right (sel t) (ltb (cluster_of a.plan t) 0) (le-ltb (cluster_of a.plan t) 0 (omega arith))))
  clusters (suc c) le =
      let more : sum (take (suc c) a.plan.clusters) ≡ sum (take c a.plan.clusters) + get_or a.plan.clusters c 0 = rw add-one at (sum_by_more (λ x. x) a.plan.clusters c 0 (omega arith)) in
      omega (
        arith,
        more,
        clusters c (omega arith),
        one_cluster c,
        count_split (λ t. sel t && ltb (cluster_of a.plan t) (suc c)) (λ t. sel t && ltb (cluster_of a.plan t) c) (within c) a.tasks (λ t l e. grind (arith, nat_tests)),
      )

  -- they are at most as many as the processors
  pub seats : count_below sel a.tasks ≤ sum a.plan.clusters
  seats =
      let g = length a.plan.clusters in
      omega (
        arith,
        clusters g (omega arith),
        sum_by-take-le (λ x. x) a.plan.clusters g,
        count_mono sel (λ t. sel t && ltb (cluster_of a.plan t) g) a.tasks (λ t l e. and_from (sel t) (ltb (cluster_of a.plan t) g) e (lt-ltb (cluster_of a.plan t) g (inside t l))),
      )

  -- who is listed, each once, leaves a seat to one that is not
  pub seat_left : (xs : List Request) → ((q : ℕ) → count (λ x. eqb x.party q) xs ≤ 1) → ((q : ℕ) → 1 ≤ count (λ x. eqb x.party q) xs → sel q ≡ true)
      → (t : ℕ) → sel t ≡ true → count (λ x. eqb x.party t) xs ≡ 0 → length xs < sum a.plan.clusters
  seat_left xs once has t e none =
      omega (
        arith,
        seats,
        listed_length a.tasks xs once (λ q l. chosen_known q (has q l)),
        count_more (λ q. listed xs q) sel t a.tasks (chosen_known t e) (lt-leb 1 (count (λ x. eqb x.party t) xs) (omega arith)) e
            (λ q l f. has q (leb-true 1 (count (λ x. eqb x.party q) xs) f)),
      )
