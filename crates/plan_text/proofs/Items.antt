-- A row of items in order and what they say are each other's image.
use Rattle.std.proofs.Common.{◌≡◌, ℕ, zero, suc, ◌+◌, ◌<◌, true, ◌&&◌, eqb, ltb, List, [], ◌∷◌, ◌++◌, map, length, replicate, Some, None, Ok, Option, sym, refl, ap, ◌∙◌, subst, append_assoc, append-nil, arith, length-append}
use Rattle.std.specs.Prelude.{IsTrue}
use Rattle.std.specs.List.{ContainsAt as Has, AllByRecursion}
use Rattle.std.proofs.ByRecursion.{all-has, has_append_right, has_get_or}
use Rattle.std.proofs.lemmas.List.{map-append, map_push, length_push, length-replicate, nil_from_length, replicate_more}
use Rattle.std.proofs.lemmas.Bool.{and_from, and_parts, eqb-true, lt-ltb}
use Rattle.item.specs.declared.item.Item.{Item}
use Rattle.item.specs.declared.item.Item.TheVariants.{Cluster, Slots, ReaderWriter, Task, Length}
use Rattle.plan.specs.Adding.{empty, added, entered, none, in_order, in_limits, has_room, complete, line_questions}
use Rattle.plan.specs.Contents.{Declared, Contents, entry_of, processors, length_item, items_of}
use Rattle.plan.specs.Kinds.{by_kind, in_kind_limits, none_later, resource_item, within}
use Rattle.plan.specs.declared.entry.Entry.TheVariants.{Resource as ResourceEntry}
use Rattle.plan.specs.declared.resource.Resource.{Resource}
use Rattle.plan.specs.declared.resource.Resource.TheVariants.{Slots as SlotsFor, ReaderWriter as OneWriter}
use Rattle.plan.proofs.ByKind.{by_kind_front, entry_of_resource}
use Rattle.plan.proofs.Grid.{Rising, above_front}
use Rattle.plan.proofs.Lawful.{Lawful, each_kind}
use Rattle.text.specs.Questions.{first_no}
use Rattle.plan_text.specs.Texts.{decide, judge}

-- an entry at the end of its table is at the end of the row, where no later table has one
push_before : {A : Type 0} (xs rest : List A) (y : A) → rest ≡ [] → (xs ++ (y ∷ [])) ++ rest ≡ (xs ++ rest) ++ (y ∷ [])
push_before xs rest y e = ap (λ r. (xs ++ (y ∷ [])) ++ r) e ∙ (append-nil (xs ++ (y ∷ [])) ∙ ap (λ r. r ++ (y ∷ [])) (sym (append-nil xs) ∙ ap (λ r. xs ++ r) (sym e)))

push_behind : {A : Type 0} (front a b : List A) (y : A) → a ≡ b ++ (y ∷ []) → front ++ a ≡ (front ++ b) ++ (y ∷ [])
push_behind front a b y e = ap (λ r. front ++ r) e ∙ sym (append_assoc front b (y ∷ []))

none_nil : {A : Type 0} (xs : List A) → none xs ≡ true → xs ≡ []
none_nil xs e = nil_from_length xs (eqb-true (length xs) 0 e)

abbrev from_tasks : Contents → List Item
from_tasks c = map Task c.tasks ++ map length_item c.lengths

abbrev from_resources : Contents → List Item
from_resources c = map resource_item c.resources ++ from_tasks c

no_lengths : (c : Contents) → none c.lengths ≡ true → map length_item c.lengths ≡ []
no_lengths c e = ap (map length_item) (none_nil c.lengths e)

no_tasks : (c : Contents) → (none c.tasks && none c.lengths) ≡ true → from_tasks c ≡ []
no_tasks c e = let p = and_parts (none c.tasks) (none c.lengths) e in ap (λ ts. map Task ts ++ map length_item c.lengths) (none_nil c.tasks p.0) ∙ no_lengths c p.1

no_resources : (c : Contents) → (none c.resources && (none c.tasks && none c.lengths)) ≡ true → from_resources c ≡ []
no_resources c e = let p = and_parts (none c.resources) (none c.tasks && none c.lengths) e in ap (λ rs. map resource_item rs ++ from_tasks c) (none_nil c.resources p.0) ∙ no_tasks c p.1

-- an entry in order is put at the end of the row
resource_added : (c : Contents) (r : Resource) → in_order c (ResourceEntry r) ≡ true → items_of (entered c (ResourceEntry r)) ≡ items_of c ++ (resource_item r ∷ [])
resource_added c r e =
    push_behind (map Cluster c.clusters) _ (from_resources c) (resource_item r)
    (ap (λ xs. xs ++ from_tasks c) (map_push resource_item c.resources r) ∙ push_before (map resource_item c.resources) (from_tasks c) (resource_item r) (no_tasks c (and_parts (none_later c.resources r) _ e).1))

pub items_added : (c : Contents) (i : Item) → in_order c (entry_of i) ≡ true → items_of (added c i) ≡ items_of c ++ (i ∷ [])
items_added c (Cluster n) e = ap (λ xs. xs ++ from_resources c) (map_push Cluster c.clusters n) ∙ push_before (map Cluster c.clusters) (from_resources c) (Cluster n) (no_resources c e)
items_added c (Slots k) e = resource_added c (SlotsFor k) e
items_added c ReaderWriter e = resource_added c OneWriter e
items_added c (Task g) e =
    push_behind (map Cluster c.clusters) _ (from_resources c) (Task g)
    (push_behind (map resource_item c.resources) _ (from_tasks c) (Task g)
    (ap (λ xs. xs ++ map length_item c.lengths) (map_push Task c.tasks g) ∙ push_before (map Task c.tasks) (map length_item c.lengths) (Task g) (no_lengths c e)))
items_added c (Length t r n) e =
    push_behind (map Cluster c.clusters) _ (from_resources c) (Length t r n)
    (push_behind (map resource_item c.resources) _ (from_tasks c) (Length t r n)
    (push_behind (map Task c.tasks) _ (map length_item c.lengths) (Length t r n)
    (map_push length_item c.lengths (record { task = t; resource = r; ticks = n }))))

-- an item that passes its questions is taken
record Passes (c : Contents) (i : Item) : Type 0 where
  order : in_order c (entry_of i) ≡ true
  limits : in_limits c (entry_of i) ≡ true
  room : has_room c (entry_of i) ≡ true

no_question : (c : Contents) (i : Item) → Passes c i → first_no (line_questions c (Some i)) ≡ None
no_question c i p = rw (p.order, p.limits, p.room)

item_taken : (c : Contents) (n : ℕ) (i : Item) (rest : List (Option Item)) → Passes c i → judge c n (Some i ∷ rest) ≡ judge (added c i) (n + 1) rest
item_taken c n i rest p = ap (λ o. decide o n (judge (added c i) (n + 1) rest)) (no_question c i p)

-- a row of entries of one table, each of which passes at its place
module _ {A : Type 0} (item : A → Item) (state : List A → Contents) (push : (xs : List A) (y : A) → added (state xs) (item y) ≡ state (xs ++ (y ∷ []))) where
  row_taken : (xs ys : List A) (n : ℕ) (rest : List (Option Item)) → ((before : List A) (y : A) (behind : List A) → before ++ (y ∷ behind) ≡ xs ++ ys → Passes (state before) (item y)) → judge (state xs) n (map Some (map item ys) ++ rest) ≡ judge (state (xs ++ ys)) (n + length ys) rest
  row_taken xs [] n rest good = let e : n + 0 ≡ n = omega arith in ap (λ zs. judge (state zs) n rest) (sym (append-nil xs)) ∙ ap (λ k. judge (state (xs ++ [])) k rest) (sym e)
  row_taken xs (y ∷ ys) n rest good =
      let e : (n + 1) + length ys ≡ n + suc (length ys) = omega arith in
      let same : (xs ++ (y ∷ [])) ++ ys ≡ xs ++ (y ∷ ys) = append_assoc xs (y ∷ []) ys in
      item_taken (state xs) n (item y) (map Some (map item ys) ++ rest) (good xs y ys refl)
      ∙ (ap (λ s. judge s (n + 1) (map Some (map item ys) ++ rest)) (push xs y)
      ∙ (row_taken (xs ++ (y ∷ [])) ys (n + 1) rest (λ before z behind f. good before z behind (f ∙ same))
      ∙ (ap (λ zs. judge (state zs) ((n + 1) + length ys) rest) same ∙ ap (λ k. judge (state (xs ++ (y ∷ ys))) k rest) e)))

-- an entry of a row, and how many stand before it
one_of : {A : Type 0} (P : A → Type 0) (before : List A) (y : A) (behind xs : List A) → before ++ (y ∷ behind) ≡ xs → AllByRecursion P xs → P y
one_of P before y behind xs e all = all-has P xs y all (subst (λ zs. Has zs y) e (has_append_right before (y ∷ behind) y (has_get_or (y ∷ behind) 0 y (omega arith))))

fewer : {A : Type 0} (before : List A) (y : A) (behind xs : List A) → before ++ (y ∷ behind) ≡ xs → length before < length xs
fewer before y behind xs e = omega (arith, ap length e, length-append before (y ∷ behind))

module _ (c : Contents) (law : Lawful c) where
  abbrev after_clusters : List ℕ → Contents
  after_clusters xs = record { clusters = xs; resources = []; tasks = []; lengths = [] }

  abbrev after_resources : List Resource → Contents
  after_resources rs = record { clusters = c.clusters; resources = rs; tasks = []; lengths = [] }

  abbrev after_tasks : List ℕ → Contents
  after_tasks xs = record { clusters = c.clusters; resources = c.resources; tasks = xs; lengths = [] }

  abbrev after_lengths : List Declared → Contents
  after_lengths ds = record c { lengths = ds }

  clusters_taken : (n : ℕ) (rest : List (Option Item)) → judge empty n (map Some (map Cluster c.clusters) ++ rest) ≡ judge (after_resources []) (n + length c.clusters) rest
  clusters_taken n rest =
      row_taken Cluster after_clusters (λ xs y. refl) [] c.clusters n rest
      (λ before y behind e. record { order = refl; limits = one_of (λ k. within 1 8 k ≡ true) before y behind c.clusters e law.clusters; room = lt-ltb (length before) 8 (omega (arith, fewer before y behind c.clusters e)) })

  -- a resource in its place
  resource_passes : (before : List Resource) (r : Resource) (behind : List Resource) → before ++ (r ∷ behind) ≡ c.resources → Passes (after_resources before) (resource_item r)
  resource_passes before r behind e =
      let x = entry_of_resource r in record {
        order = rw x (and_from _ _ (by_kind_front before r behind (subst (λ rs. IsTrue (by_kind rs)) (sym e) law.by_kind)) refl);
        limits = rw x (one_of (λ r. in_kind_limits (processors c) r ≡ true) before r behind c.resources e (each_kind c law));
        room = rw x (lt-ltb (length before) 16 (omega (arith, fewer before r behind c.resources e)));
      }

  resources_taken : (n : ℕ) (rest : List (Option Item)) → judge (after_resources []) n (map Some (map resource_item c.resources) ++ rest) ≡ judge (after_tasks []) (n + length c.resources) rest
  resources_taken n rest =
      row_taken resource_item after_resources (λ rs r. ap (entered (after_resources rs)) (entry_of_resource r)) [] c.resources n rest resource_passes

  tasks_taken : (n : ℕ) (rest : List (Option Item)) → judge (after_tasks []) n (map Some (map Task c.tasks) ++ rest) ≡ judge (after_lengths []) (n + length c.tasks) rest
  tasks_taken n rest =
      row_taken Task after_tasks (λ xs y. refl) [] c.tasks n rest
      (λ before y behind e. record { order = refl; limits = one_of (λ g. ltb g (length c.clusters) ≡ true) before y behind c.tasks e law.tasks; room = lt-ltb (length before) 64 (omega (arith, fewer before y behind c.tasks e)) })

  lengths_taken : (n : ℕ) (rest : List (Option Item)) → judge (after_lengths []) n (map Some (map length_item c.lengths) ++ rest) ≡ judge c (n + length c.lengths) rest
  lengths_taken n rest =
      row_taken length_item after_lengths (λ xs y. refl) [] c.lengths n rest
      (λ before y behind e. record { order = above_front before y behind (subst Rising (sym e) law.rising); limits = one_of (λ d. in_limits c (entry_of (length_item d)) ≡ true) before y behind c.lengths e law.lengths; room = refl })

  -- the items of lawful contents are taken, and say those contents
  pub items_accepted : complete c ≡ true → judge empty 1 (map Some (items_of c)) ≡ Ok c
  items_accepted full =
      let a : List Item = map Cluster c.clusters in
      let b : List Item = map resource_item c.resources in
      let t : List Item = map Task c.tasks in
      let l : List Item = map length_item c.lengths in
      let split : map Some (items_of c) ≡ map Some a ++ (map Some b ++ (map Some t ++ (map Some l ++ []))) =
      map-append Some a _ ∙ ap (λ xs. map Some a ++ xs) (map-append Some b _ ∙ ap (λ xs. map Some b ++ xs) (map-append Some t l ∙ ap (λ xs. map Some t ++ xs) (sym (append-nil (map Some l))))) in
      ap (judge empty 1) split
      ∙ (clusters_taken 1 _
      ∙ (resources_taken _ _
      ∙ (tasks_taken _ _
      ∙ (lengths_taken _ []
      ∙ sealed _))))
    where
      sealed : (n : ℕ) → judge c n [] ≡ Ok c
      sealed n = rw full
