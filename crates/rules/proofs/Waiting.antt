-- How long a request waits, over one resource's list. Assumes nothing.
use Rattle.std.proofs.Common.{◌≡◌, ℕ, ◌+◌, ◌-◌, ◌*◌, ◌<◌, ◌≤◌, Bool, true, false, cond, ◌&&◌, leb, List, [], ◌∷◌, ◌++◌, refl, ⊎_elim, mul-le-mul_right, add-mul, one-mul, arith}
use Rattle.std.specs.List.{AllZip, AllByRecursion}
use Rattle.std.proofs.ByRecursion.{All-weaker, All-push}
use Rattle.std.proofs.lemmas.Bool.{and_parts, and_from, leb-true, le-leb, both_ways, false≢true}
use Rattle.bank.specs.Lists.{count, holders, holds_by, without, holds, turns, departures}
use Rattle.bank.specs.Meaning.{Lawful, Sound, Stays}
use Rattle.bank.specs.Questions.{Told}
use Rattle.bank.specs.declared.request.Request.{Request}
use Rattle.rules.proofs.Entries.{count_push}

step_le : (b c : Bool) (m n : ℕ) → (b ≡ true → c ≡ true) → m ≤ n → cond b 1 0 + m ≤ cond c 1 0 + n
step_le true true m n h l = omega arith
step_le true false m n h l = absurd (false≢true (h refl))
step_le false true m n h l = omega arith
step_le false false m n h l = omega arith

bit_le : (b : Bool) → cond b 1 0 ≤ 1
bit_le true = omega arith
bit_le false = omega arith

-- what passes p passes q
pub count_every : (p q : Request → Bool) (xs : List Request) → AllByRecursion (λ x. p x ≡ true → q x ≡ true) xs → count p xs ≤ count q xs
count_every p q [] h = omega arith
count_every p q (x ∷ xs) h = step_le (p x) (q x) (count p xs) (count q xs) h.0 (count_every p q xs h.1)

-- one that leaves lowers a count by one at most
pub count_without : (test : Request → Bool) (p : ℕ) (xs : List Request) → count test xs ≤ count test (without p xs) + 1
count_without test p [] = omega arith
count_without test p (x ∷ xs) =
    let ih = count_without test p xs in
    elim (holds_by p x) as (λ b. cond (test x) 1 0 + count test xs ≤ count test (cond b xs (x ∷ without p xs)) + 1) [ true ↦ omega (arith, bit_le (test x)) | false ↦ omega arith ]

-- what passes p and stays passes q
pub count_stays : (p q : Request → Bool) (xs ys : List Request) → ((x y : Request) → Stays x y → p x ≡ true → q y ≡ true) → AllZip Stays xs ys → count p xs ≤ count q ys
count_stays p q [] [] h s = omega arith
count_stays p q [] (y ∷ ys) h s = absurd s
count_stays p q (x ∷ xs) [] h s = absurd s
count_stays p q (x ∷ xs) (y ∷ ys) h s = step_le (p x) (q y) (count p xs) (count q ys) (h x y s.0) (count_stays p q xs ys h s.1)

module _ {X : Type 0} where
  pub all_both : (P Q : X → Type 0) (xs : List X) → AllByRecursion P xs → AllByRecursion Q xs → AllByRecursion (λ x. P x × Q x) xs
  all_both P Q [] h k = tt
  all_both P Q (x ∷ xs) h k = ((h.0, k.0), all_both P Q xs h.1 k.1)

  pub all_last : (P : X → Type 0) (xs : List X) (new : X) → AllByRecursion P (xs ++ (new ∷ [])) → P new
  all_last P [] new h = h.0
  all_last P (x ∷ xs) new h = all_last P xs new h.1

pub all_without : (P : Request → Type 0) (p : ℕ) (xs : List Request) → AllByRecursion P xs → AllByRecursion P (without p xs)
all_without P p [] h = tt
all_without P p (x ∷ xs) h =
    let ih = all_without P p xs h.1 in
    elim (holds_by p x) as (λ b. AllByRecursion P (cond b xs (x ∷ without p xs))) [ true ↦ h.1 | false ↦ (h.0, ih) ]

-- the holders that have held, with c ticks more, at least w ticks
abbrev pub long : (ℕ → ℕ) → ℕ → ℕ → Request → Bool
long u c w x = holds x && leb w (u x.party + c)

abbrev pub good : (ℕ → ℕ) → ℕ → ℕ → List Request → ℕ
good u c w xs = count (long u c w) xs

-- no holder has held longer than l ticks
abbrev pub Within : ℕ → (ℕ → ℕ) → List Request → Type 0
Within l u xs = AllByRecursion (λ x. holds x ≡ true → u x.party ≤ l) xs

-- where there is one, w is at most a whole length more than c
good_some : (u : ℕ → ℕ) (c w l : ℕ) (xs : List Request) → Within l u xs → 1 ≤ good u c w xs → w ≤ l + c
good_some u c w l [] most h = omega arith
good_some u c w l (x ∷ xs) most h = go (long u c w x) refl (good_some u c w l xs most.1) h
  where
    go : (b : Bool) → long u c w x ≡ b → (1 ≤ good u c w xs → w ≤ l + c) → 1 ≤ cond b 1 0 + good u c w xs → w ≤ l + c
    go true e more h =
        let parts = and_parts (holds x) (leb w (u x.party + c)) e in
        omega (arith, leb-true w (u x.party + c) parts.1, most.0 parts.0)
    go false e more h = more (omega arith)

-- every holder counts, where w is not above c
good_all : (u : ℕ → ℕ) (c w : ℕ) (xs : List Request) → w ≤ c → holders xs ≤ good u c w xs
good_all u c w [] h = omega arith
good_all u c w (x ∷ xs) h =
    step_le (holds x) (long u c w x) (holders xs) (good u c w xs) (λ e. and_from (holds x) (leb w (u x.party + c)) e (le-leb w (u x.party + c) (omega arith))) (good_all u c w xs h)

-- a whole turn more covers what was waited
turn_more : (n a b l w : ℕ) → b < a → a ≤ n → w ≤ l + (n - a) * l → w ≤ (n - b) * l
turn_more n a b l w lt le h =
    let m : (n - a) + 1 ≤ n - b = omega arith in
    omega (arith, mul-le-mul_right l m, add-mul (n - a) 1 l, one-mul l)

was_waiting : (x y : Bool) → (x ≡ true → y ≡ true) → y ≡ false → x ≡ false
was_waiting true y h e = absurd (both_ways y e (h refl))
was_waiting false y h e = refl

module _ (t : Told) (r l : ℕ) where
  -- the ticks that the turns gone by allow
  abbrev spent : Request → ℕ
  spent x = (t.limit r x.mode - turns x) * l

  -- what is owed to a waiting request: so many holders that have held long enough. u and w are the ticks used and waited, by party
  abbrev pub Owed : List Request → (ℕ → ℕ) → (ℕ → ℕ) → Request → Type 0
  Owed xs u w x = holds x ≡ false → departures x ≤ good u ((t.limit r x.mode - turns x) * l) (w x.party) xs

  abbrev pub OwedAll : (ℕ → ℕ) → (ℕ → ℕ) → List Request → Type 0
  OwedAll u w xs = AllByRecursion (Owed xs u w) xs

  -- a tick: every holder has held one tick more
  pub owed_tick : (xs : List Request) (u w u' w' : ℕ → ℕ) → AllByRecursion (λ x. holds x ≡ true → u' x.party ≡ u x.party + 1) xs → AllByRecursion (λ x. w' x.party ≤ w x.party + 1) xs
      → OwedAll u w xs → OwedAll u' w' xs
  owed_tick xs u w u' w' used waited o =
      All-weaker (λ x. Owed xs u w x × (w' x.party ≤ w x.party + 1)) (Owed xs u' w')
      (λ x h e. let late = h.1 in omega (arith, h.0 e, more (spent x) (w x.party) (w' x.party) h.1)) xs
      (all_both (Owed xs u w) (λ x. w' x.party ≤ w x.party + 1) xs o waited)
    where
      more : (c v v' : ℕ) → v' ≤ v + 1 → good u c v xs ≤ good u' c v' xs
      more c v v' hv =
          count_every (long u c v) (long u' c v') xs
          (All-weaker (λ x. holds x ≡ true → u' x.party ≡ u x.party + 1) (λ x. long u c v x ≡ true → long u' c v' x ≡ true)
          (λ x on e.
          let parts = and_parts (holds x) (leb v (u x.party + c)) e in
          and_from (holds x) (leb v' (u' x.party + c)) parts.0 (le-leb v' (u' x.party + c) (omega (arith, on parts.0, leb-true v (u x.party + c) parts.1))))
          xs used)

  -- the ticks of no party in the list change
  pub owed_same : (xs : List Request) (u w u' w' : ℕ → ℕ) → AllByRecursion (λ x. (u' x.party ≡ u x.party) × (w' x.party ≡ w x.party)) xs → OwedAll u w xs → OwedAll u' w' xs
  owed_same xs u w u' w' same o =
      All-weaker (λ x. Owed xs u w x × ((u' x.party ≡ u x.party) × (w' x.party ≡ w x.party))) (Owed xs u' w')
      (λ x h e. rw h.1.1 (omega (arith, h.0 e, more (spent x) (w x.party)))) xs
      (all_both (Owed xs u w) (λ x. (u' x.party ≡ u x.party) × (w' x.party ≡ w x.party)) xs o same)
    where
      more : (c v : ℕ) → good u c v xs ≤ good u' c v xs
      more c v =
          count_every (long u c v) (long u' c v) xs
          (All-weaker (λ x. (u' x.party ≡ u x.party) × (w' x.party ≡ w x.party)) (λ x. long u c v x ≡ true → long u' c v x ≡ true) (λ x s e. rw s.0 e) xs same)

  -- enter: the others are owed what they were, and the new one has waited for nobody yet
  pub owed_enter : (xs : List Request) (u w : ℕ → ℕ) (new : Request) → Sound t r (xs ++ (new ∷ [])) → w new.party ≡ 0 → OwedAll u w xs → OwedAll u w (xs ++ (new ∷ []))
  owed_enter xs u w new s none o =
      All-push (Owed (xs ++ (new ∷ [])) u w) xs new
      (All-weaker (Owed xs u w) (Owed (xs ++ (new ∷ [])) u w) (λ x owed e. omega (arith, owed e, count_push (long u (spent x) (w x.party)) xs new)) xs o)
      (λ e.
      let lawful = (all_last (Lawful t r (holders (xs ++ (new ∷ [])))) xs new s.requests).waiting e in
      rw none (omega (arith, lawful.3, good_all u (spent new) 0 (xs ++ (new ∷ [])) (omega arith))))

  -- leave: one that stays, before and after
  module _ (xs ys : List Request) (u w : ℕ → ℕ) (most : Within l u xs) (less : (c v : ℕ) → good u c v xs ≤ good u c v ys + 1) where
    leave_one : (x y : Request) → Stays x y → Lawful t r (holders xs) x → Lawful t r (holders ys) y → Owed xs u w x → Owed ys u w y
    leave_one x y s lx ly owed waits =
        let wx : holds x ≡ false = was_waiting (holds x) (holds y) s.holding waits in
        let d = owed wx in
        let tx = lx.waiting wx in
        let ty = ly.waiting waits in
        rw (s.party, s.mode) (⊎_elim
        (λ e. absurd (both_ways (holds y) waits e))
        (⊎_elim
        (λ e. rw e.0 (omega (arith, d, e.1, less (spent x) (w x.party))))
        (λ lt.
        let k : 1 ≤ good u (spent x) (w x.party) xs = omega (arith, d, tx.2) in
        let h = good_some u (spent x) (w x.party) l xs most k in
        let c = turn_more (t.limit r x.mode) (turns x) (turns y) l (w x.party) lt tx.1 h in
        omega (arith, ty.3, good_all u ((t.limit r x.mode - turns y) * l) (w x.party) ys c)))
        (s.waiting wx))

    leave_list : (cs bs : List Request) → AllZip Stays cs bs → AllByRecursion (Lawful t r (holders xs)) cs → AllByRecursion (Lawful t r (holders ys)) bs → AllByRecursion (Owed xs u w) cs → AllByRecursion (Owed ys u w) bs
    leave_list [] [] s lc lb o = tt
    leave_list [] (b ∷ bs) s lc lb o = absurd s
    leave_list (c ∷ cs) [] s lc lb o = absurd s
    leave_list (c ∷ cs) (b ∷ bs) s lc lb o = (leave_one c b s.0 lc.0 lb.0 o.0, leave_list cs bs s.1 lc.1 lb.1 o.1)

  -- leave: departures fall by one as the good holders do, and a whole turn less covers what was waited
  pub owed_leave : (p : ℕ) (xs ys : List Request) (u w : ℕ → ℕ) → Within l u xs → Sound t r xs → Sound t r ys → AllZip Stays (without p xs) ys → OwedAll u w xs → OwedAll u w ys
  owed_leave p xs ys u w most sx sy s o =
      leave_list xs ys u w most
      (λ c v.
      omega (
        arith,
        count_without (long u c v) p xs,
        count_stays (long u c v) (long u c v) (without p xs) ys
            (λ x y st e.
            let parts = and_parts (holds x) (leb v (u x.party + c)) e in
            and_from (holds y) (leb v (u y.party + c)) (st.holding parts.0) (rw st.party parts.1)) s,
      ))
      (without p xs) ys s (all_without (Lawful t r (holders xs)) p xs sx.requests) sy.requests (all_without (Owed xs u w) p xs o)

  -- what is owed keeps the wait within the limit
  pub owed_bound : (xs : List Request) (u w : ℕ → ℕ) → Within l u xs → Sound t r xs → OwedAll u w xs → AllByRecursion (λ x. holds x ≡ false → w x.party ≤ t.limit r x.mode * l) xs
  owed_bound xs u w most s o =
      All-weaker (λ x. Lawful t r (holders xs) x × Owed xs u w x) (λ x. holds x ≡ false → w x.party ≤ t.limit r x.mode * l)
      (λ x h e.
      let q = h.0.waiting e in
      let k : 1 ≤ good u (spent x) (w x.party) xs = omega (arith, h.1 e, q.2) in
      let b = turn_more (t.limit r x.mode) (turns x) 0 l (w x.party) q.0 q.1 (good_some u (spent x) (w x.party) l xs most k) in
      let z : t.limit r x.mode - 0 ≡ t.limit r x.mode = omega arith in
      rw z at b) xs
      (all_both (Lawful t r (holders xs)) (Owed xs u w) xs s.requests o)
