-- No plan's text has more than 15,568 bytes: 1,112 lines of at most 14.
use Rattle.std.proofs.Common.{◌≡◌, ℕ, zero, suc, ◌*◌, ◌^◌, ◌<◌, ◌≤◌, true, ltb, List, [], ◌∷◌, length, replicate, decimal, arith, refl, length-append}
use Rattle.std.specs.List.{AllByRecursion}
use Rattle.std.proofs.ByRecursion.{All-append, All-map, All-weaker}
use Rattle.std.proofs.lemmas.Bool.{and_parts, leb-true, ltb-true}
use Rattle.std.proofs.lemmas.Fmt.{length-decimal-le}
use Rattle.std.proofs.lemmas.List.{length-map, length-replicate}
use Rattle.item.specs.Lines.{item_text}
use Rattle.item.specs.declared.item.Item.{Item}
use Rattle.item.specs.declared.item.Item.TheVariants.{Cluster, Slots, ReaderWriter, Task, Length}
use Rattle.plan.specs.Adding.{in_limits}
use Rattle.plan.specs.Contents.{Contents, entry_of, processors, resource_count, length_item, items_of}
use Rattle.plan.specs.Kinds.{in_kind_limits, resource_item}
use Rattle.plan.specs.Of.{plan_contents}
use Rattle.plan.specs.declared.plan.Plan.{Plan}
use Rattle.plan.specs.declared.resource.Resource.{Resource}
use Rattle.plan.proofs.ByKind.{entry_of_resource}
use Rattle.plan.proofs.Lawful.{Lawful, each_kind, lawful}
use Rattle.plan_text.specs.Texts.{row_text, plan_text}

module _ (c : Contents) (law : Lawful c) where
  abbrev Kept : Item → Type 0
  Kept i = in_limits c (entry_of i) ≡ true

  kept_resource : (r : Resource) → in_kind_limits (processors c) r ≡ true → Kept (resource_item r)
  kept_resource r e = rw (entry_of_resource r) e

  all_kept : AllByRecursion Kept (items_of c)
  all_kept =
      All-append Kept _ _ (All-map Kept Cluster c.clusters law.clusters)
      (All-append Kept _ _ (All-map Kept resource_item c.resources (All-weaker _ _ kept_resource c.resources (each_kind c law)))
      (All-append Kept _ _ (All-map Kept Task c.tasks law.tasks)
      (All-map Kept length_item c.lengths law.lengths)))

  digits : (k n : ℕ) → 0 < k → k ≤ 5 → n < 10 ^ k → n < 100000 → length (decimal n) ≤ k
  digits k n some few l small = length-decimal-le k n some l (omega arith)

  short : (i : Item) → Kept i → length (item_text i) ≤ 14
  short (Cluster n) e = simp length-append (omega (arith, digits 5 n (omega arith) (omega arith) (omega (arith, leb-true n 8 (and_parts _ _ e).1)) (omega (arith, leb-true n 8 (and_parts _ _ e).1))))
  short (Slots k) e =
      let l : k < 100000 = omega (arith, leb-true k (processors c) (and_parts _ _ e).1, law.few_processors) in
      simp length-append (omega (arith, digits 5 k (omega arith) (omega arith) l l))
  short ReaderWriter e = omega arith
  short (Task g) e =
      let l : g < 100000 = omega (arith, ltb-true g (length c.clusters) e, law.few_clusters) in
      simp length-append (omega (arith, digits 5 g (omega arith) (omega arith) l l))
  short (Length t r n) e =
      let a = and_parts (ltb t (length c.tasks)) _ e in
      let b = and_parts (ltb r (resource_count c)) _ a.1 in
      let task : t < 100 = omega (arith, ltb-true t (length c.tasks) a.0, law.few_tasks) in
      let resource : r < 100 = omega (arith, ltb-true r (resource_count c) b.0, law.few_resources) in
      let ticks : n < 100000 = omega (arith, leb-true n 10000 (and_parts _ _ b.1).1) in
      simp length-append (omega (arith, digits 2 t (omega arith) (omega arith) task (omega arith), digits 2 r (omega arith) (omega arith) resource (omega arith), digits 5 n (omega arith) (omega arith) ticks ticks))

  row_size : (is : List Item) → AllByRecursion Kept is → length (row_text is) ≤ 14 * length is
  row_size [] all = omega arith
  row_size (i ∷ is) all = omega (arith, length-append (item_text i) (row_text is), short i all.0, row_size is all.1)

  few_items : length (items_of c) ≤ 1112
  few_items = simp (length-append, length-map, length-replicate) (omega (arith, law.few_clusters, law.few_resources, law.few_tasks, law.few_lengths))

  pub lawful_size : length (plan_text c) ≤ 15568
  lawful_size = omega (arith, row_size (items_of c) all_kept, few_items)

pub plan_size : (p : Plan) → length (plan_text (plan_contents p)) ≤ 15568
plan_size p = lawful_size (plan_contents p) (lawful p.tables)
