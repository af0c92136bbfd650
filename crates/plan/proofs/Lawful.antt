-- The limits of a plan as the questions put to a line test them. In its own words they are KeepsLimits.
use Rattle.std.proofs.Common.{◌≡◌, ℕ, ◌+◌, ◌/◌, ◌%◌, ◌<◌, ◌≤◌, true, ltb, List, length, get_or, sum, zero-add, arith}
use Rattle.std.specs.Prelude.{IsTrue}
use Rattle.std.specs.List.{AllByRecursion, list_all}
use Rattle.std.proofs.ByRecursion.{All-from_get_or}
use Rattle.std.proofs.lemmas.Bool.{and_from, lt-ltb, le-leb}
use Rattle.std.proofs.lemmas.List.Elements.{recursion_from_All}
use Rattle.std.proofs.lemmas.List.Sums.{AllPass-from_list_all}
use Rattle.plan.specs.Adding.{in_limits, complete}
use Rattle.plan.specs.Contents.{Contents, entry_of, processors, resource_count, length_item}
use Rattle.plan.specs.Kinds.{by_kind, in_kind_limits, within}
use Rattle.plan.specs.Limits.{Between}
use Rattle.plan.specs.Of.{placed, contents_of, plan_contents}
use Rattle.plan.specs.declared.plan.Plan.{Plan}
use Rattle.plan.specs.declared.tables.Tables.{Tables}
use Rattle.plan.proofs.Grid.{Rising, declared_rising, declared_all, declared_few}
use Rattle.plan.proofs.Rows.{processors_few}

pub record Lawful (c : Contents) : Type 0 where
  pub clusters : AllByRecursion (λ n. within 1 8 n ≡ true) c.clusters
  pub few_clusters : length c.clusters ≤ 8
  pub few_processors : processors c ≤ 64
  pub kinds : IsTrue (list_all (in_kind_limits (processors c)) c.resources)
  pub by_kind : IsTrue (by_kind c.resources)
  pub few_resources : resource_count c ≤ 16
  pub tasks : AllByRecursion (λ g. ltb g (length c.clusters) ≡ true) c.tasks
  pub few_tasks : length c.tasks ≤ 64
  pub lengths : AllByRecursion (λ d. in_limits c (entry_of (length_item d)) ≡ true) c.lengths
  pub few_lengths : length c.lengths ≤ 1024
  pub rising : Rising c.lengths

-- from each entry of a table to all
row_all : (P : ℕ → Type 0) (low high : ℕ) (xs : List ℕ) → Between low high xs → ((x : ℕ) → low ≤ x → x < high → P x) → AllByRecursion P xs
row_all P low high xs b f = All-from_get_or P xs 0 (λ i l. let o = b i l in f (get_or xs i 0) o.0 o.1)

limits_at : (t : Tables) (k n : ℕ) → 0 < n → n ≤ 10000 → k / 16 < length t.tasks → k % 16 < length t.resources → in_limits (contents_of t) (entry_of (length_item (placed k n))) ≡ true
limits_at t k n some few task resource = and_from _ _ (lt-ltb _ _ task) (and_from _ _ (lt-ltb _ _ resource) (and_from _ _ (le-leb 1 n (omega arith)) (le-leb n 10000 few)))

pub lawful : (t : Tables) → Lawful (contents_of t)
lawful t =
    record {
      clusters = row_all _ 1 9 t.clusters t.clusters_sized (λ x a b. and_from _ _ (le-leb 1 x a) (le-leb x 8 (omega arith)));
      few_clusters = t.few_clusters;
      few_processors = processors_few t.clusters t.few_clusters t.clusters_sized;
      kinds = t.kinds_in_limits;
      by_kind = t.resources_by_kind;
      few_resources = t.few_resources;
      tasks = row_all _ 0 (length t.clusters) t.tasks t.tasks_placed (λ x a b. lt-ltb x _ b);
      few_tasks = t.few_tasks;
      lengths = declared_all (λ d. in_limits (contents_of t) (entry_of (length_item d)) ≡ true) 0 t.lengths (λ j some. let o = t.lengths_declared j in let e : 0 + j ≡ j = zero-add j in rw e (limits_at t j (get_or t.lengths j 0) some o.0 (o.1 some).0 (o.1 some).1));
      few_lengths = omega (arith, declared_few 0 t.lengths);
      rising = declared_rising 0 t.lengths;
    }

pub plan_complete : (p : Plan) → complete (plan_contents p) ≡ true
plan_complete p = and_from _ _ (lt-ltb 0 _ p.has_cluster) (and_from _ _ (lt-ltb 0 _ p.has_resource) (lt-ltb 0 _ p.has_task))

-- each resource is in the limits of its kind
pub each_kind : (c : Contents) → Lawful c → AllByRecursion (λ r. in_kind_limits (processors c) r ≡ true) c.resources
each_kind c law = recursion_from_All _ c.resources (AllPass-from_list_all (in_kind_limits (processors c)) c.resources law.kinds)
