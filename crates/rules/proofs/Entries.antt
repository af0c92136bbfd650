-- The entries of a task in a resource's list, when a request enters and when a holder leaves.
use Rattle.std.proofs.Common.{◌≡◌, ℕ, ◌+◌, ◌≤◌, Bool, true, false, cond, ◌&&◌, ◌||◌, eqb, List, [], ◌∷◌, ◌++◌, Some, None, Option, sym, refl, ap, ◌∙◌, arith}
use Rattle.std.proofs.lemmas.Bool.{and_parts, or_left, eqb-true, eq-eqb, ne_eqb, false≢true}
use Rattle.std.specs.List.{AllZip, AllByRecursion}
use Rattle.bank.specs.Lists.{count, request_of, is_active, is_holder, holds_by, without, holds}
use Rattle.bank.specs.Meaning.{Stays}
use Rattle.bank.specs.declared.request.Request.{Request}
use Rattle.rules.specs.Moves.{is_held}

-- how often a task is listed
abbrev pub listed : ℕ → List Request → ℕ
listed q xs = count (λ x. eqb x.party q) xs

pub count_push : (f : Request → Bool) (xs : List Request) (x : Request) → count f (xs ++ (x ∷ [])) ≡ count f xs + cond (f x) 1 0
count_push f [] x = omega arith
count_push f (y ∷ xs) x = omega (arith, count_push f xs x)

pub request_push_other : (q : ℕ) (xs : List Request) (x : Request) → eqb x.party q ≡ false → request_of q (xs ++ (x ∷ [])) ≡ request_of q xs
request_push_other q [] x e = rw e
request_push_other q (y ∷ xs) x e = ap (λ (o : Option Request). cond (eqb y.party q) (Some y) o) (request_push_other q xs x e)

-- a task that is not listed has no entry
pub request_none : (q : ℕ) (xs : List Request) → listed q xs ≡ 0 → request_of q xs ≡ None
request_none q [] e = refl
request_none q (y ∷ xs) e = go (request_none q xs) (eqb y.party q) e
  where
    go : (listed q xs ≡ 0 → request_of q xs ≡ None) → (b : Bool) → cond b 1 0 + listed q xs ≡ 0 → cond b (Some y) (request_of q xs) ≡ None
    go ih true e = absurd (omega arith)
    go ih false e = ih (omega arith)

pub request_push_new : (q : ℕ) (xs : List Request) (x : Request) → listed q xs ≡ 0 → x.party ≡ q → request_of q (xs ++ (x ∷ [])) ≡ Some x
request_push_new q [] x e p = rw (eq-eqb x.party q p)
request_push_new q (y ∷ xs) x e p = go (λ z. request_push_new q xs x z p) (eqb y.party q) e
  where
    go : (listed q xs ≡ 0 → request_of q (xs ++ (x ∷ [])) ≡ Some x) → (b : Bool) → cond b 1 0 + listed q xs ≡ 0 → cond b (Some y) (request_of q (xs ++ (x ∷ []))) ≡ Some x
    go ih true e = absurd (omega arith)
    go ih false e = ih (omega arith)

-- a task that is listed has an entry, which is its own
pub request_some : (q : ℕ) (xs : List Request) → 1 ≤ listed q xs → (x : Request) × (request_of q xs ≡ Some x)
request_some q [] l = absurd (omega arith)
request_some q (y ∷ xs) l = go (request_some q xs) (eqb y.party q) l
  where
    go : (1 ≤ listed q xs → (x : Request) × (request_of q xs ≡ Some x)) → (b : Bool) → 1 ≤ cond b 1 0 + listed q xs → (x : Request) × (cond b (Some y) (request_of q xs) ≡ Some x)
    go ih true l = (y, refl)
    go ih false l = ih (omega arith)

pub request_party : (q : ℕ) (xs : List Request) (x : Request) → request_of q xs ≡ Some x → (x.party ≡ q) × (1 ≤ listed q xs)
request_party q [] x e = let z : ◌≡◌ {A = ℕ} 0 1 = cc in absurd (omega arith)
request_party q (y ∷ xs) x e = go (request_party q xs x) (eqb y.party q) refl e
  where
    go : (request_of q xs ≡ Some x → (x.party ≡ q) × (1 ≤ listed q xs)) → (b : Bool) → eqb y.party q ≡ b → cond b (Some y) (request_of q xs) ≡ Some x → (x.party ≡ q) × (1 ≤ cond b 1 0 + listed q xs)
    go ih true f e = let same : y ≡ x = cc in (ap (λ z. z.party) (sym same) ∙ eqb-true y.party q f, omega arith)
    go ih false f e = let k = ih e in (k.0, omega (arith, k.1))

-- where each task is listed once at most, what holds of each task's entry holds of the whole list
pub all_entries : (P : Request → Type 0) (xs : List Request) → ((q : ℕ) → listed q xs ≤ 1) → ((q : ℕ) (x : Request) → request_of q xs ≡ Some x → P x) → AllByRecursion P xs
all_entries P [] once h = tt
all_entries P (y ∷ xs) once h = (
  h y.party y (rw (eq-eqb y.party y.party refl)),
  all_entries P xs (λ q. omega (arith, once q)) (λ q x e. h q x (go q x (eqb y.party q) refl e)),
)
  where
    go : (q : ℕ) (x : Request) (b : Bool) → eqb y.party q ≡ b → request_of q xs ≡ Some x → cond b (Some y) (request_of q xs) ≡ Some x
    go q x true f e = absurd (twice (request_party q xs x e).1 (rw f at (once q)))
      where
        twice : 1 ≤ listed q xs → 1 + listed q xs ≤ 1 → ⊥
        twice a b = omega arith
    go q x false f e = e

pub not_active : (q : ℕ) (xs : List Request) → listed q xs ≡ 0 → is_active q xs ≡ false
not_active q [] e = refl
not_active q (y ∷ xs) e = go (not_active q xs) (eqb y.party q) e
  where
    go : (listed q xs ≡ 0 → is_active q xs ≡ false) → (b : Bool) → cond b 1 0 + listed q xs ≡ 0 → (b || is_active q xs) ≡ false
    go ih true e = absurd (omega arith)
    go ih false e = ih (omega arith)

pub holder_held : (q : ℕ) (xs : List Request) → is_held (request_of q xs) ≡ true → is_holder q xs ≡ true
holder_held q [] e = absurd (false≢true e)
holder_held q (y ∷ xs) e = go (holder_held q xs) (eqb y.party q) e
  where
    go : (is_held (request_of q xs) ≡ true → is_holder q xs ≡ true) → (b : Bool) → is_held (cond b (Some y) (request_of q xs)) ≡ true → ((b && holds y) || is_holder q xs) ≡ true
    go ih true e = or_left (holds y) (is_holder q xs) e
    go ih false e = ih e

-- another's leave takes no entry of q away
module _ (p q : ℕ) (ne : p ≡ q → ⊥) where
  apart_entry : (y : Request) → holds_by p y ≡ true → eqb y.party q ≡ false
  apart_entry y e = ne_eqb y.party q (λ k. ne (sym (eqb-true y.party p (and_parts (eqb y.party p) (holds y) e).0) ∙ k))

  pub listed_without : (xs : List Request) → listed q (without p xs) ≡ listed q xs
  listed_without [] = refl
  listed_without (y ∷ xs) = go (listed_without xs) (holds_by p y) refl
    where
      go : listed q (without p xs) ≡ listed q xs → (b : Bool) → holds_by p y ≡ b → listed q (cond b xs (y ∷ without p xs)) ≡ cond (eqb y.party q) 1 0 + listed q xs
      go ih true e = rw (apart_entry y e) (omega arith)
      go ih false e = omega (arith, ih)

  pub request_without : (xs : List Request) → request_of q (without p xs) ≡ request_of q xs
  request_without [] = refl
  request_without (y ∷ xs) = go (request_without xs) (holds_by p y) refl
    where
      go : request_of q (without p xs) ≡ request_of q xs → (b : Bool) → holds_by p y ≡ b → request_of q (cond b xs (y ∷ without p xs)) ≡ cond (eqb y.party q) (Some y) (request_of q xs)
      go ih true e = rw (apart_entry y e)
      go ih false e = ap (λ (o : Option Request). cond (eqb y.party q) (Some y) o) ih

holder_listed : (p : ℕ) (xs : List Request) → is_holder p xs ≡ true → 1 ≤ listed p xs
holder_listed p [] h = absurd (false≢true h)
holder_listed p (y ∷ xs) h = go (holder_listed p xs) (eqb y.party p) h
  where
    go : (is_holder p xs ≡ true → 1 ≤ listed p xs) → (b : Bool) → ((b && holds y) || is_holder p xs) ≡ true → 1 ≤ cond b 1 0 + listed p xs
    go ih true h = omega arith
    go ih false h = omega (arith, ih h)

-- a holder that was listed once is not listed after it left
pub listed_gone : (p : ℕ) (xs : List Request) → is_holder p xs ≡ true → listed p xs ≡ 1 → listed p (without p xs) ≡ 0
listed_gone p [] h e = absurd (false≢true h)
listed_gone p (y ∷ xs) h e = go (listed_gone p xs) (eqb y.party p) (holds y) refl h e
  where
    none : 1 ≤ listed p xs → 1 + listed p xs ≡ 1 → ⊥
    none a b = omega arith

    go : (is_holder p xs ≡ true → listed p xs ≡ 1 → listed p (without p xs) ≡ 0) → (b c : Bool) → eqb y.party p ≡ b → ((b && c) || is_holder p xs) ≡ true → cond b 1 0 + listed p xs ≡ 1 → listed p (cond (b && c) xs (y ∷ without p xs)) ≡ 0
    go ih true true f h e = omega arith
    go ih true false f h e = absurd (none (holder_listed p xs h) e)
    go ih false c f h e = rw f (omega (arith, ih h (omega arith)))

-- requests that stay keep their entries
pub listed_stays : (q : ℕ) (xs ys : List Request) → AllZip Stays xs ys → listed q ys ≡ listed q xs
listed_stays q [] [] s = refl
listed_stays q [] (y ∷ ys) s = absurd s
listed_stays q (x ∷ xs) [] s = absurd s
listed_stays q (x ∷ xs) (y ∷ ys) s = rw s.0.party (omega (arith, listed_stays q xs ys s.1))

pub request_stays : (q : ℕ) (xs ys : List Request) → AllZip Stays xs ys → (x : Request) → request_of q xs ≡ Some x → (y : Request) × (request_of q ys ≡ Some y) × Stays x y
request_stays q [] [] s x e = let z : ◌≡◌ {A = ℕ} 0 1 = cc in absurd (omega arith)
request_stays q [] (y ∷ ys) s x e = absurd s
request_stays q (z ∷ xs) [] s x e = absurd s
request_stays q (z ∷ xs) (y ∷ ys) s x e = let same : eqb y.party q ≡ eqb z.party q = ap (λ n. eqb n q) s.0.party in rw same (go (request_stays q xs ys s.1 x) (eqb z.party q) e)
  where
    go : (request_of q xs ≡ Some x → (y : Request) × (request_of q ys ≡ Some y) × Stays x y) → (b : Bool) → cond b (Some z) (request_of q xs) ≡ Some x → (y' : Request) × (cond b (Some y) (request_of q ys) ≡ Some y') × Stays x y'
    go ih true e = let same : z ≡ x = cc in (y, refl, rw same at s.0)
    go ih false e = ih e
