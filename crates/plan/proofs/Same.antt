-- Tables and plans that say the same are the same value.
use Rattle.std.proofs.Common.{◌≡◌, ℕ, ◌<◌, ◌≤◌, Bool, List, length, sum, sym, ap, ◌∙◌}
use Rattle.std.specs.Prelude.{IsTrue}
use Rattle.std.specs.List.{list_all}
use mathlib.Core.HLevel.{is_prop→PathP}
use denote.Struct.Props.{props}
use Rattle.plan.specs.Kinds.{by_kind, in_kind_limits}
use Rattle.plan.specs.Limits.{Holds, Between, Declares, EndsDeclared}
use Rattle.plan.specs.Of.{contents_of, plan_contents}
use Rattle.plan.specs.declared.plan.Plan.{Plan}
use Rattle.plan.specs.declared.tables.Tables.{Tables}
use Rattle.plan.proofs.Grid.{same_lengths, same_end}

-- each fact that the types keep has one proof
holds_prop : (size : ℕ) (xs : List ℕ) (n : ℕ) → IsProp (Holds size xs n)
holds_prop size xs n = hlevel props

between_prop : (low high : ℕ) (xs : List ℕ) → IsProp (Between low high xs)
between_prop low high xs = hlevel props

declares_prop : (tasks resources : ℕ) (xs : List ℕ) → IsProp (Declares tasks resources xs)
declares_prop tasks resources xs = hlevel props

ends_prop : (xs : List ℕ) (n : ℕ) → IsProp (EndsDeclared xs n)
ends_prop xs n = hlevel props

true_prop : (b : Bool) → IsProp (IsTrue b)
true_prop b = hlevel props

le_prop : (m n : ℕ) → IsProp (m ≤ n)
le_prop m n = hlevel props

lt_prop : (m n : ℕ) → IsProp (m < n)
lt_prop m n = hlevel props

same_fields : (s t : Tables) → s.clusters ≡ t.clusters → s.resources ≡ t.resources → s.tasks ≡ t.tasks → s.lengths ≡ t.lengths → s.lengths_end ≡ t.lengths_end → s ≡ t
same_fields s t c k g l ln =
    λ i. record {
      clusters = c i;
      resources = k i;
      tasks = g i;
      lengths = l i;
      lengths_end = ln i;
      few_clusters = is_prop→PathP (λ j. length (c j) ≤ 8) (λ j. le_prop (length (c j)) 8) s.few_clusters t.few_clusters i;
      clusters_sized = is_prop→PathP (λ j. Between 1 9 (c j)) (λ j. between_prop 1 9 (c j)) s.clusters_sized t.clusters_sized i;
      kinds_in_limits = is_prop→PathP (λ j. IsTrue (list_all (in_kind_limits (sum (c j))) (k j))) (λ j. true_prop (list_all (in_kind_limits (sum (c j))) (k j))) s.kinds_in_limits t.kinds_in_limits i;
      resources_by_kind = is_prop→PathP (λ j. IsTrue (by_kind (k j))) (λ j. true_prop (by_kind (k j))) s.resources_by_kind t.resources_by_kind i;
      few_resources = is_prop→PathP (λ j. length (k j) ≤ 16) (λ j. le_prop (length (k j)) 16) s.few_resources t.few_resources i;
      few_tasks = is_prop→PathP (λ j. length (g j) ≤ 64) (λ j. le_prop (length (g j)) 64) s.few_tasks t.few_tasks i;
      tasks_placed = is_prop→PathP (λ j. Between 0 (length (c j)) (g j)) (λ j. between_prop 0 (length (c j)) (g j)) s.tasks_placed t.tasks_placed i;
      lengths_held = is_prop→PathP (λ j. Holds 1024 (l j) (ln j)) (λ j. holds_prop 1024 (l j) (ln j)) s.lengths_held t.lengths_held i;
      lengths_declared = is_prop→PathP (λ j. Declares (length (g j)) (length (k j)) (l j)) (λ j. declares_prop (length (g j)) (length (k j)) (l j)) s.lengths_declared t.lengths_declared i;
      lengths_ended = is_prop→PathP (λ j. EndsDeclared (l j) (ln j)) (λ j. ends_prop (l j) (ln j)) s.lengths_ended t.lengths_ended i;
    }

pub same_tables : (s t : Tables) → contents_of s ≡ contents_of t → s ≡ t
same_tables s t e =
    let l : s.lengths ≡ t.lengths = same_lengths s.lengths t.lengths (s.lengths_held.0 ∙ sym t.lengths_held.0) (ap (λ x. x.lengths) e) in
    let ln : s.lengths_end ≡ t.lengths_end = same_end t.lengths s.lengths_end t.lengths_end (rw l at s.lengths_held.2) (rw l at s.lengths_ended) t.lengths_held.2 t.lengths_ended in
    same_fields s t (ap (λ x. x.clusters) e) (ap (λ x. x.resources) e) (ap (λ x. x.tasks) e) l ln

pub same_plans : (p q : Plan) → plan_contents p ≡ plan_contents q → p ≡ q
same_plans p q e =
    let t : p.tables ≡ q.tables = same_tables p.tables q.tables e in
    λ i. record {
      tables = t i;
      has_cluster = is_prop→PathP (λ j. 0 < length (t j).clusters) (λ j. lt_prop 0 (length (t j).clusters)) p.has_cluster q.has_cluster i;
      has_resource = is_prop→PathP (λ j. 0 < length (t j).resources) (λ j. lt_prop 0 (length (t j).resources)) p.has_resource q.has_resource i;
      has_task = is_prop→PathP (λ j. 0 < length (t j).tasks) (λ j. lt_prop 0 (length (t j).tasks)) p.has_task q.has_task i;
    }
