-- Rows of resources that stand by kind.
use Rattle.std.proofs.Common.{◌≡◌, ℕ, zero, suc, ◌<◌, ◌≤◌, Bool, true, ◌&&◌, leb, List, [], ◌∷◌, ◌++◌, length, get_or, sym, refl, ap, ◌∙◌, arith}
use Rattle.std.specs.Prelude.{IsTrue}
use Rattle.std.specs.List.{AllPairs, list_all}
use Rattle.std.proofs.lemmas.Bool.{and_from, and_parts, leb-true}
use Rattle.std.proofs.lemmas.List.Folds.{list_all-append}
use Rattle.std.proofs.lemmas.List.Sums.{AllPass-from_list_all}
use Rattle.plan.specs.Contents.{entry_of}
use Rattle.plan.specs.Kinds.{by_kind, in_kind_limits, kind_rank, none_later, resource_item}
use Rattle.plan.specs.declared.entry.Entry.TheVariants.{Resource as ResourceEntry}
use Rattle.plan.specs.declared.resource.Resource.{Resource}
use Rattle.plan.specs.declared.resource.Resource.TheVariants.{Slots, ReaderWriter}

-- a test that each passes, and one more
all_push : {X : Type 0} (test : X → Bool) (xs : List X) (x : X) → IsTrue (list_all test xs) → IsTrue (test x) → IsTrue (list_all test (xs ++ (x ∷ [])))
all_push test xs x all one = list_all-append test xs (x ∷ []) ∙ and_from _ _ all (and_from _ _ one refl)

pub limits_push : (m : ℕ) (rs : List Resource) (r : Resource) → IsTrue (list_all (in_kind_limits m) rs) → IsTrue (in_kind_limits m r) → IsTrue (list_all (in_kind_limits m) (rs ++ (r ∷ [])))
limits_push m = all_push (in_kind_limits m)

pub by_kind_push : (rs : List Resource) (r : Resource) → IsTrue (by_kind rs) → IsTrue (none_later rs r) → IsTrue (by_kind (rs ++ (r ∷ [])))
by_kind_push [] r kinds none = refl
by_kind_push (s ∷ rs) r kinds none =
    let k = and_parts (list_all (λ q. leb (kind_rank s) (kind_rank q)) rs) _ kinds in
    let n = and_parts (leb (kind_rank s) (kind_rank r)) _ none in
    and_from _ _ (all_push (λ q. leb (kind_rank s) (kind_rank q)) rs r k.0 n.0) (by_kind_push rs r k.1 n.1)

pub kinds_rise : (rs : List Resource) → IsTrue (by_kind rs) → AllPairs (λ r s. kind_rank r ≤ kind_rank s) rs
kinds_rise [] kinds i j d l m = absurd (omega arith)
kinds_rise (r ∷ rs) kinds i zero d l m = absurd (omega arith)
kinds_rise (r ∷ rs) kinds zero (suc j) d l m =
    leb-true _ _ (AllPass-from_list_all _ rs (and_parts _ (by_kind rs) kinds).0 j d (omega arith))
kinds_rise (r ∷ rs) kinds (suc i) (suc j) d l m = kinds_rise rs (and_parts _ (by_kind rs) kinds).1 i j d (omega arith) (omega arith)

-- a resource of a row by kind is of no earlier kind than those before it
pub by_kind_front : (before : List Resource) (r : Resource) (behind : List Resource) → IsTrue (by_kind (before ++ (r ∷ behind))) → IsTrue (none_later before r)
by_kind_front [] r behind kinds = refl
by_kind_front (b ∷ bs) r behind kinds =
    let k = and_parts (list_all (λ q. leb (kind_rank b) (kind_rank q)) (bs ++ (r ∷ behind))) _ kinds in
    let all = list_all-append (λ q. leb (kind_rank b) (kind_rank q)) bs (r ∷ behind) in
    and_from _ _ (and_parts _ _ (and_parts _ _ (sym all ∙ k.0)).1).0 (by_kind_front bs r behind k.1)

-- the entry of its item
pub entry_of_resource : (r : Resource) → entry_of (resource_item r) ≡ ResourceEntry r
entry_of_resource (Slots k) = refl
entry_of_resource ReaderWriter = refl
