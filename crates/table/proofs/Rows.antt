-- Rows by their places. Assumes nothing.
use Rattle.std.proofs.Common.{◌≡◌, ℕ, zero, suc, ◌<◌, ◌≤◌, true, cond, eqb, ltb, List, [], ◌∷◌, length, get_or, set, replicate, Some, sym, refl, ◌∙◌, subst, ⊎_elim, arith, get_or-set_other, get_or-set_same}
use lib.ListN.{get_or-replicate, length-replicate}
use Rattle.std.proofs.ByRecursion.{All-get_or}
use Rattle.std.proofs.lemmas.Bool.{ltb-true, cases_lt, cases_eq, cond-true, cond-false, eq-eqb, ne_eqb}
use Rattle.std.specs.Prelude.{slice_get}
use Rattle.std.proofs.lemmas.Option.{slice_get-get_or}
use Rattle.plan.specs.Of.{plan_contents}
use Rattle.plan.specs.declared.plan.Plan.{Plan}
use Rattle.plan.proofs.Lawful.{lawful}

pub past_end : {X : Type 0} (xs : List X) (i : ℕ) (d : X) → length xs ≤ i → get_or xs i d ≡ d
past_end [] i d h = refl
past_end (x ∷ xs) zero d h = absurd (omega arith)
past_end (x ∷ xs) (suc i) d h = past_end xs i d (omega arith)

-- an entry that is there
pub entry_there : (xs : List ℕ) (i : ℕ) → i < length xs → slice_get xs i ≡ Some (get_or xs i 0)
entry_there xs i l = slice_get-get_or xs i 0 l

-- the cluster of a task exists
pub cluster_there : (p : Plan) (t : ℕ) → t < length (plan_contents p).tasks → get_or (plan_contents p).tasks t 0 < length (plan_contents p).clusters
cluster_there p t l = ltb-true _ _ (All-get_or (λ g. ltb g (length (plan_contents p).clusters) ≡ true) (plan_contents p).tasks t 0 l (lawful p.tables).tasks)

-- a row of one value has it everywhere
pub same_all : {X : Type 0} (n : ℕ) (x : X) (q : ℕ) → get_or (replicate n x) q x ≡ x
same_all n x q = ⊎_elim (λ (l : q < n). get_or-replicate n q x x l) (λ (g : n ≤ q). past_end (replicate n x) q x (subst (λ k. k ≤ q) (sym (length-replicate n x)) g)) (cases_lt q n)

-- one place of a row is written
pub set_row : {X : Type 0} (xs : List X) (p : ℕ) (x : X) (q : ℕ) (d : X) → p < length xs → get_or (set xs p x) q d ≡ cond (eqb p q) x (get_or xs q d)
set_row xs p x q d h =
    ⊎_elim
    (λ (e : p ≡ q). subst (λ k. get_or (set xs p x) k d ≡ x) e (get_or-set_same xs p x d h) ∙ sym (cond-true (eqb p q) x (get_or xs q d) (eq-eqb p q e)))
    (λ (ne : p ≡ q → ⊥). get_or-set_other xs p q x d (λ e. ne (sym e)) ∙ sym (cond-false (eqb p q) x (get_or xs q d) (ne_eqb p q ne)))
    (cases_eq p q)
