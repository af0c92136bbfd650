-- A text and a plan are each other's image.
use Rattle.std.proofs.Common.{◌≡◌, ℕ, zero, suc, ◌+◌, true, false, eqb, ltb, List, [], ◌∷◌, ◌++◌, map, length, replicate, Some, None, Ok, Err, Option, Result, sym, refl, ap, ◌∙◌, ⊎_elim, append_assoc, append-nil, arith}
use Rattle.std.specs.List.{flat_map, AllByRecursion}
use Rattle.std.proofs.ByRecursion.{All-append, All-map, All-weaker}
use Rattle.std.proofs.lemmas.Bool.{and_parts, leb-true, ltb-true, cases_Bool}
use Rattle.item.specs.Lines.{item_text, read_item, Writable, IsLineOf}
use Rattle.item.specs.declared.item.Item.{Item}
use Rattle.item.specs.declared.item.Item.TheVariants.{Cluster, Slots, ReaderWriter, Task}
use Rattle.item.proofs.Lines.{read_back, is_line_of, item_line}
use Rattle.plan.specs.Adding.{empty, added, in_limits, item_questions, line_questions, seal_questions}
use Rattle.plan.specs.Contents.{Declared, Contents, entry_of, processors, resource_count, length_item, items_of}
use Rattle.plan.specs.Kinds.{in_kind_limits, resource_item, within}
use Rattle.plan.specs.Of.{plan_contents}
use Rattle.plan.specs.declared.draft.Refused.{Refused}
use Rattle.plan.specs.declared.plan.Plan.{Plan}
use Rattle.plan.specs.declared.resource.Resource.{Resource}
use Rattle.plan.specs.declared.resource.Resource.TheVariants.{Slots as SlotsFor, ReaderWriter as OneWriter}
use Rattle.plan.proofs.Adding.{passes}
use Rattle.plan.proofs.Lawful.{Lawful, each_kind, lawful, plan_complete}
use Rattle.plan.proofs.Same.{same_plans}
use Rattle.text.specs.Lines.{lines_of, join_first}
use Rattle.text.specs.Questions.{first_no}
use Rattle.text.specs.Refusals.{number}
use Rattle.plan_text.specs.Texts.{plan_text, decide, grown, judge, read_text, ReadsText, IsTextOf, ReadsBack}
use Rattle.plan_text.proofs.Items.{items_added, items_accepted}

-- the lines of a text, joined, are the text
join_first_lem : (b : ℕ) (ls : List (List ℕ)) → flat_map (λ l. l) (join_first b ls) ≡ b ∷ flat_map (λ l. l) ls
join_first_lem b [] = refl
join_first_lem b (l ∷ ls) = refl

lines_joined : (s : List ℕ) → flat_map (λ l. l) (lines_of s) ≡ s
lines_joined [] = refl
lines_joined (b ∷ bs) =
    ⊎_elim
    (λ (e : eqb b 10 ≡ true). rw e (ap (λ ys. b ∷ ys) (lines_joined bs)))
    (λ (e : eqb b 10 ≡ false). rw e (join_first_lem b (lines_of bs) ∙ ap (λ ys. b ∷ ys) (lines_joined bs)))
    (cases_Bool (eqb b 10))

pub joined_append : {X A : Type 0} (f : X → List A) (xs ys : List X) → flat_map f (xs ++ ys) ≡ flat_map f xs ++ flat_map f ys
joined_append f [] ys = refl
joined_append f (x ∷ xs) ys = ap (λ zs. f x ++ zs) (joined_append f xs ys) ∙ sym (append_assoc (f x) (flat_map f xs) (flat_map f ys))

-- a taken line is put behind the text
text_added : (c : Contents) (i : Item) → first_no (item_questions c i) ≡ None → plan_text (added c i) ≡ plan_text c ++ item_text i
text_added c i e = ap (flat_map item_text) (items_added c i (passes c (entry_of i) e).0) ∙ (joined_append item_text (items_of c) (i ∷ []) ∙ ap (λ ys. plan_text c ++ ys) (append-nil (item_text i)))

no_value : {A B : Type 0} (b : B) (a : A) → Err b ≡ Ok a → ⊥
no_value {A} {B} b a e = let z : ◌≡◌ {A = ℕ} 0 1 = cc in omega arith

same_value : {A B : Type 0} (x y : A) → ◌≡◌ {A = Result A B} (Ok x) (Ok y) → x ≡ y
same_value x y e = cc

some_none : {A : Type 0} (a : A) → Some a ≡ None → ⊥
some_none a e = let z : ◌≡◌ {A = ℕ} 0 1 = cc in omega arith

-- an accepted text is the text of what it says
module _ (end : Contents) where
  abbrev Extends : Contents → List (List ℕ) → Type 0
  Extends c ls = plan_text end ≡ plan_text c ++ flat_map (λ l. l) ls

  line_extends : (c : Contents) (n : ℕ) (l : List ℕ) (ls : List (List ℕ)) (o : Option Item) (q : Option ℕ) → IsLineOf l o → first_no (line_questions c o) ≡ q → ((d : Contents) → judge d (n + 1) (map read_item ls) ≡ Ok end → Extends d ls) → decide q n (judge (grown c o) (n + 1) (map read_item ls)) ≡ Ok end → Extends c (l ∷ ls)
  line_extends c n l ls o (Some q) is e more h = absurd (no_value (q, n) end h)
  line_extends c n l ls None None is e more h = absurd (some_none 16 e)
  line_extends c n l ls (Some i) None is e more h =
      more (added c i) h
      ∙ (ap (λ ys. ys ++ flat_map (λ k. k) ls) (text_added c i e)
      ∙ (append_assoc (plan_text c) (item_text i) (flat_map (λ k. k) ls) ∙ ap (λ ys. plan_text c ++ (ys ++ flat_map (λ k. k) ls)) (sym is.1)))

  seal_extends : (c : Contents) (n : ℕ) (q : Option ℕ) → decide q n (Ok c) ≡ Ok end → Extends c []
  seal_extends c n (Some q) h = absurd (no_value (q, n) end h)
  seal_extends c n None h = ap plan_text (sym (same_value c end h)) ∙ sym (append-nil (plan_text c))

  lines_extend : (ls : List (List ℕ)) (c : Contents) (n : ℕ) → judge c n (map read_item ls) ≡ Ok end → Extends c ls
  lines_extend [] c n h = seal_extends c n (first_no (seal_questions c)) h
  lines_extend (l ∷ ls) c n h = line_extends c n l ls (read_item l) (first_no (line_questions c (read_item l))) (is_line_of l) refl (λ d. lines_extend ls d (n + 1)) h

pub accepted_text : (text : List ℕ) (c : Contents) → read_text text ≡ Ok c → text ≡ plan_text c
accepted_text text c h = sym (lines_extend c (lines_of text) empty 1 h ∙ lines_joined text)

-- the lines of items are read as those items
items_lines : (is : List Item) → AllByRecursion Writable is → map read_item (lines_of (flat_map item_text is)) ≡ map Some is
items_lines [] all = refl
items_lines (i ∷ is) all =
    ap (map read_item) (item_line i (flat_map item_text is) all.0)
    ∙ (ap (λ o. o ∷ map read_item (lines_of (flat_map item_text is))) (read_back i all.0) ∙ ap (λ os. Some i ∷ os) (items_lines is all.1))

-- the numbers of lawful contents have at most five digits
module _ (c : Contents) (law : Lawful c) where
  small_cluster : (n : ℕ) → within 1 8 n ≡ true → Writable (Cluster n)
  small_cluster n e = (omega (arith, leb-true n 8 (and_parts _ _ e).1), tt)

  small_resource : (r : Resource) → in_kind_limits (processors c) r ≡ true → Writable (resource_item r)
  small_resource (SlotsFor k) e = (omega (arith, leb-true k (processors c) (and_parts _ _ e).1, law.few_processors), tt)
  small_resource OneWriter e = tt

  small_task : (g : ℕ) → ltb g (length c.clusters) ≡ true → Writable (Task g)
  small_task g e = (omega (arith, ltb-true g (length c.clusters) e), tt)

  small_length : (d : Declared) → in_limits c (entry_of (length_item d)) ≡ true → Writable (length_item d)
  small_length d e =
      let a = and_parts (ltb d.task (length c.tasks)) _ e in
      let b = and_parts (ltb d.resource (resource_count c)) _ a.1 in
      (omega (arith, ltb-true d.task (length c.tasks) a.0), (omega (arith, ltb-true d.resource (resource_count c) b.0), (omega (arith, leb-true d.ticks 10000 (and_parts _ _ b.1).1), tt)))

  pub all_writable : AllByRecursion Writable (items_of c)
  all_writable =
      All-append Writable _ _ (All-map Writable Cluster c.clusters (All-weaker _ _ small_cluster c.clusters law.clusters))
      (All-append Writable _ _ (All-map Writable resource_item c.resources (All-weaker _ _ small_resource c.resources (each_kind c law)))
      (All-append Writable _ _ (All-map Writable Task c.tasks (All-weaker _ _ small_task c.tasks law.tasks))
      (All-map Writable length_item c.lengths (All-weaker _ _ small_length c.lengths law.lengths))))

pub text_accepted : (p : Plan) → ReadsBack p
text_accepted p = let law = lawful p.tables in ap (judge empty 1) (items_lines (items_of (plan_contents p)) (all_writable (plan_contents p) law)) ∙ items_accepted (plan_contents p) law (plan_complete p)

pub is_text_of : (text : List ℕ) (old : Plan) (r : Result (Unit {0}) Refused) (new : Plan) → ReadsText text old r new → IsTextOf text r new
is_text_of text old (Ok done) new h = (accepted_text text (plan_contents new) h, λ p e. same_plans p new (same_value (plan_contents p) (plan_contents new) (sym (text_accepted p) ∙ (ap read_text (sym e) ∙ h))))
is_text_of text old (Err why) new h = λ p e. no_value (number why.refusal, why.line) (plan_contents p) (sym h.0 ∙ (ap read_text e ∙ text_accepted p))
