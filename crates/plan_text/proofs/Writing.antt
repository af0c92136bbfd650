-- Lines laid one after another.
use Rattle.std.proofs.Common.{◌≤◌, ◌≡◌, ℕ, zero, suc, ◌+◌, ◌-◌, ◌*◌, ◌/◌, ◌%◌, ◌<◌, true, false, cond, eqb, List, [], ◌∷◌, ◌++◌, map, length, get_or, take, replicate, Some, None, sym, refl, ap, ◌∙◌, append_assoc, append-nil, zero-add, arith, length-append}
use Rattle.std.proofs.lemmas.List.{take_more, map-append, length-map, length-replicate, get_or-map, get_or_append_left, get_or-append_right}
use Rattle.item.specs.Lines.{item_text}
use Rattle.item.specs.declared.item.Item.{Item}
use Rattle.item.specs.declared.item.Item.TheVariants.{Slots, ReaderWriter, Length}
use Rattle.plan.specs.Contents.{Contents, resource_count, length_in, length_item}
use Rattle.plan.specs.Of.{placed, declared}
use Rattle.plan.proofs.Grid.{held, held_at, length_held, declared_more}
use Rattle.text.specs.Memory.{Lays}
use Rattle.text.proofs.Lays.{lays_more}
use Rattle.plan_text.specs.Texts.{row_text, plan_text}
use Rattle.plan_text.specs.Writing.{cluster_items, resource_items, task_items, length_items, place_text}
use Rattle.plan_text.proofs.Image.{joined_append}

-- the text of a row, one item on
row_more : (is : List Item) (i : ℕ) (item : Item) → i < length is → item ≡ get_or is i ReaderWriter → row_text (take (i + 1) is) ≡ row_text (take i is) ++ item_text item
row_more is i item l e =
    ap row_text (take_more is i ReaderWriter l)
    ∙ (joined_append item_text (take i is) (get_or is i ReaderWriter ∷ [])
    ∙ (ap (λ ys. row_text (take i is) ++ ys) (append-nil (item_text (get_or is i ReaderWriter))) ∙ ap (λ j. row_text (take i is) ++ item_text j) (sym e)))

pub lays_next : (is : List Item) (i : ℕ) (item : Item) → i < length is → item ≡ get_or is i ReaderWriter → (old : List ℕ) (at middle : ℕ) (mid : List ℕ) → Lays old at (row_text (take i is)) middle mid → (end : ℕ) (new : List ℕ) → Lays mid middle (item_text item) end new → Lays old at (row_text (take (i + 1) is)) end new
lays_next is i item l e old at middle mid f end new g = rw (row_more is i item l e) (lays_more old at (row_text (take i is)) middle mid (item_text item) end new f g)

-- the item of an entry of a table
pub entry_item : {X : Type 0} (make : X → Item) (xs : List X) (i : ℕ) (d : X) → i < length xs → make (get_or xs i d) ≡ get_or (map make xs) i ReaderWriter
entry_item make xs i d l = sym (get_or-map make xs i d ReaderWriter l)

-- the text of the lengths in the first places of the table
abbrev pub places_text : List ℕ → ℕ → List ℕ
places_text xs n = row_text (map length_item (declared 0 (take n xs)))

module _ (xs : List ℕ) (k : ℕ) (l : k < length xs) where
  -- one place on, with nothing or a length in it
  places_more : places_text xs (k + 1) ≡ places_text xs k ++ row_text (map length_item (held_at k (get_or xs k 0)))
  places_more =
      let e : 0 + k ≡ k = zero-add k in
      ap (λ ds. row_text (map length_item ds)) (declared_more 0 xs k l ∙ ap (λ j. declared 0 (take k xs) ++ held_at j (get_or xs k 0)) e)
      ∙ (ap row_text (map-append length_item (declared 0 (take k xs)) (held_at k (get_or xs k 0))) ∙ joined_append item_text (map length_item (declared 0 (take k xs))) (map length_item (held_at k (get_or xs k 0))))

  held_text : (n : ℕ) → row_text (map length_item (held_at k n)) ≡ place_text k (held n)
  held_text n = elim (eqb n 0) as (λ b. row_text (map length_item (cond b [] (placed k n ∷ []))) ≡ place_text k (cond b None (Some n))) [ true ↦ refl | false ↦ append-nil (item_text (Length (k / 16) (k % 16) n)) ]

  pub place_more : places_text xs (k + 1) ≡ places_text xs k ++ place_text k (length_in (declared 0 xs) (k / 16) (k % 16))
  place_more =
      let p : (k / 16) * 16 + k % 16 ≡ k = omega arith in
      let found : length_in (declared 0 xs) (k / 16) (k % 16) ≡ held (get_or xs k 0) = length_held xs (k / 16) (k % 16) (omega arith) ∙ ap (λ j. held (get_or xs j 0)) p in
      places_more ∙ ap (λ ys. places_text xs k ++ ys) (held_text (get_or xs k 0) ∙ ap (place_text k) (sym found))

module _ (xs : List ℕ) (k : ℕ) (l : k < length xs) (old : List ℕ) (at middle : ℕ) (mid : List ℕ) (f : Lays old at (places_text xs k) middle mid) where
  abbrev placed_text : List ℕ
  placed_text = place_text k (length_in (declared 0 xs) (k / 16) (k % 16))

  pub lays_place : (end : ℕ) (new : List ℕ) → Lays mid middle (place_text k (length_in (declared 0 xs) (k / 16) (k % 16))) end new → Lays old at (places_text xs (k + 1)) end new
  lays_place end new g = rw (place_more xs k l) (lays_more old at (places_text xs k) middle mid placed_text end new f g)

-- the text of a plan, table by table
pub plan_parts : (c : Contents) → plan_text c ≡ row_text (cluster_items c) ++ (row_text (resource_items c) ++ (row_text (task_items c) ++ row_text (length_items c)))
plan_parts c =
    let t : List Item = task_items c ++ length_items c in
    joined_append item_text (cluster_items c) _
    ∙ ap (λ ys. row_text (cluster_items c) ++ ys)
    (joined_append item_text (resource_items c) t ∙ ap (λ ys. row_text (resource_items c) ++ ys) (joined_append item_text (task_items c) (length_items c)))
