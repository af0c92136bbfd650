-- The longest length of a resource that the plan has not: none is declared for it.
use Rattle.std.proofs.Common.{◌≡◌, ℕ, zero, suc, ◌<◌, ◌≤◌, true, ◌&&◌, eqb, ltb, List, [], ◌∷◌, length, None, unwrap_or, refl, ap, ◌∙◌, ⊎_elim, arith}
use Rattle.std.proofs.lemmas.Bool.{and_parts, and_right, cases_lt, cond-true, cond-false, le-ltb, lt-ltb, ltb-true, ne_eqb}
use Rattle.std.specs.List.{AllByRecursion}
use Rattle.plan.specs.Adding.{in_limits}
use Rattle.plan.specs.Contents.{Declared, Contents, entry_of, greatest, length_at, length_in, length_item, longest_at, longest_of, resource_count}
use Rattle.plan.specs.Of.{plan_contents}
use Rattle.plan.specs.declared.plan.Plan.{Plan}
use Rattle.plan.proofs.Lawful.{lawful}

greatest_zero : (f : ℕ → ℕ) (n : ℕ) → ((k : ℕ) → f k ≡ 0) → greatest f n ≡ 0
greatest_zero f zero all = refl
greatest_zero f (suc n) all = rw (greatest_zero f n all, all n) refl

module _ (c : Contents) (t r : ℕ) (past : resource_count c ≤ r) where
  undeclared : (ds : List Declared) → AllByRecursion (λ d. in_limits c (entry_of (length_item d)) ≡ true) ds → length_in ds t r ≡ None
  undeclared [] all = refl
  undeclared (d ∷ ds) all =
      let parts = and_parts (ltb d.task (length c.tasks)) _ all.0 in
      let there : d.resource < resource_count c = ltb-true d.resource (resource_count c) (and_parts (ltb d.resource (resource_count c)) _ parts.1).0 in
      let other : d.resource ≡ r → ⊥ = λ e. omega arith in
      cond-false (eqb d.task t && eqb d.resource r) _ _ (and_right (eqb d.task t) (eqb d.resource r) (ne_eqb d.resource r other)) ∙ undeclared ds all.1

pub longest_or_zero : (p : Plan) (r : ℕ) → unwrap_or (longest_of (plan_contents p) r) 0 ≡ longest_at (plan_contents p) r
longest_or_zero p r =
    let c = plan_contents p in
    ⊎_elim
    (λ (l : r < resource_count c). ap (λ o. unwrap_or o 0) (cond-true (ltb r (resource_count c)) _ _ (lt-ltb r (resource_count c) l)))
    (λ (g : resource_count c ≤ r).
    ap (λ o. unwrap_or o 0) (cond-false (ltb r (resource_count c)) _ _ (le-ltb r (resource_count c) g))
    ∙ zero_is (greatest_zero (λ t. unwrap_or (length_at c t r) 0) (length c.tasks) (λ t. ap (λ o. unwrap_or o 0) (undeclared c t r g c.lengths (lawful p.tables).lengths))))
    (cases_lt r (resource_count c))
  where
    zero_is : {n : ℕ} → n ≡ 0 → 0 ≡ n
    zero_is e = omega arith
