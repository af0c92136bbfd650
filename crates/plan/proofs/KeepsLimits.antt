-- A plan keeps the limits: its type does, in its tables, and what the tables say does.
use Rattle.std.proofs.Common.{◌≡◌, ℕ, zero, suc, ◌+◌, ◌<◌, ◌≤◌, true, List, [], ◌∷◌, length, get_or, sum, ⊎_elim, inl, inr, zero-add, arith}
use Rattle.std.specs.List.{All, AllPairs}
use Rattle.std.proofs.ByRecursion.{All-from_get_or}
use Rattle.std.proofs.lemmas.Bool.{cases_lt}
use Rattle.std.proofs.lemmas.Bool.Decides.{nat_tests}
use Rattle.std.proofs.lemmas.List.Elements.{All-from_recursion}
use Rattle.std.proofs.lemmas.List.Sums.{AllPass-from_list_all}
use Rattle.plan.specs.Adding.{below}
use Rattle.plan.specs.Contents.{Declared}
use Rattle.plan.specs.KeepsLimits.{From, IsLengthIn, Rises, IsOtherPair, KeepsLimits}
use Rattle.plan.specs.Kinds.{holders_of, in_kind_limits}
use Rattle.plan.specs.Limits.{Between}
use Rattle.plan.specs.Of.{placed, declared, contents_of, plan_contents}
use Rattle.plan.specs.declared.plan.Plan.{Plan}
use Rattle.plan.specs.declared.resource.Resource.{Resource}
use Rattle.plan.specs.declared.resource.Resource.TheVariants.{Slots, ReaderWriter}
use Rattle.plan.specs.declared.tables.Tables.{Tables}
use Rattle.plan.proofs.Grid.{Rising, declared_rising, declared_all}
use Rattle.plan.proofs.ByKind.{kinds_rise}
use Rattle.plan.proofs.Rows.{processors_few}

-- from each entry of a table to all
entries : (P : ℕ → Type 0) (low high : ℕ) (xs : List ℕ) → Between low high xs → ((x : ℕ) → low ≤ x → x < high → P x) → All P xs
entries P low high xs b f = All-from_recursion P xs (All-from_get_or P xs 0 (λ i l. let o = b i l in f (get_or xs i 0) o.0 o.1))

rises : (d e : Declared) → below d e.task e.resource ≡ true → Rises d e
rises d e b = ⊎_elim (λ (l : d.task < e.task). inl l) (λ (l : e.task ≤ d.task). inr (grind (arith, nat_tests))) (cases_lt d.task e.task)

rising_pairs : (ds : List Declared) → Rising ds → AllPairs Rises ds
rising_pairs [] h i j d l m = absurd (omega arith)
rising_pairs (x ∷ xs) h i zero d l m = absurd (omega arith)
rising_pairs (x ∷ xs) h zero (suc j) d l m = rises x (get_or xs j d) (All-from_recursion _ xs h.0 j d (omega arith))
rising_pairs (x ∷ xs) h (suc i) (suc j) d l m = rising_pairs xs h.1 i j d (omega arith) (omega arith)

other_pair : (d e : Declared) → Rises d e → IsOtherPair d e
other_pair d e r t s = ⊎_elim (λ l. omega arith) (λ p. omega (arith, p.1)) r

pub tables_keep : (t : Tables) → 0 < length t.clusters → 0 < length t.resources → 0 < length t.tasks → KeepsLimits (contents_of t)
tables_keep t cluster resource task =
    let ds = declared 0 t.lengths in
    let rising = rising_pairs ds (declared_rising 0 t.lengths) in
    let placed_in : (j : ℕ) → 0 < get_or t.lengths j 0 → IsLengthIn (contents_of t) (placed (0 + j) (get_or t.lengths j 0)) =
    λ j some. let o = t.lengths_declared j in let e : 0 + j ≡ j = zero-add j in rw e ((o.1 some).0, (o.1 some).1, (some, o.0)) in
    record {
      clusters = (cluster, t.few_clusters);
      processors_of = entries (From 1 8) 1 9 t.clusters t.clusters_sized (λ x a b. (a, omega arith));
      resources = (resource, t.few_resources);
      kinds = AllPass-from_list_all (in_kind_limits (sum t.clusters)) t.resources t.kinds_in_limits;
      by_kind = kinds_rise t.resources t.resources_by_kind;
      tasks = (task, t.few_tasks);
      cluster_of = entries (λ g. g < length t.clusters) 0 (length t.clusters) t.tasks t.tasks_placed (λ x a b. b);
      lengths = All-from_recursion _ ds (declared_all (IsLengthIn (contents_of t)) 0 t.lengths placed_in);
      rising = rising;
      once = λ i j d l m. other_pair (get_or ds i d) (get_or ds j d) (rising i j d l m);
    }

pub keeps_limits : (p : Plan) → KeepsLimits (plan_contents p)
keeps_limits p = tables_keep p.tables p.has_cluster p.has_resource p.has_task

-- a resource in the limits of its kind, where there are at most 64 processors
kind_few : (m : ℕ) (r : Resource) → m ≤ 64 → in_kind_limits m r ≡ true → From 1 64 (holders_of r)
kind_few m (Slots k) few e = grind (arith, nat_tests)
kind_few m ReaderWriter few e = (omega arith, omega arith)

-- each resource of a plan is for 1 to 64 holders
pub few_holders : (p : Plan) → All (λ r. From 1 64 (holders_of r)) p.tables.resources
few_holders p i d l =
    let t = p.tables in
    kind_few (sum t.clusters) (get_or t.resources i d) (processors_few t.clusters t.few_clusters t.clusters_sized) (AllPass-from_list_all (in_kind_limits (sum t.clusters)) t.resources t.kinds_in_limits i d l)
