-- The slot resources of a plan's resources.
use Rattle.std.proofs.Common.{◌≡◌, ℕ, zero, suc, ◌+◌, ◌<◌, ◌≤◌, List, [], ◌∷◌, ◌++◌, length, get_or, set, take, sum, arith, ap, subst, sym, ◌≢◌, ◌∙◌, ⊎_elim, length-append}
use Rattle.std.specs.Prelude.{IsTrue}
use Rattle.std.specs.List.{list_all}
use Rattle.std.proofs.lemmas.Bool.{and_parts, leb-true, cases_lt, cases_eq}
use Rattle.std.proofs.lemmas.List.{get_or-set_same, get_or-set_other, get_or_append_left, get_or_past, length-set}
use Rattle.std.proofs.Math.Seq.{get_or-append_seam}
use Rattle.std.proofs.lemmas.List.Sums.{AllPass-from_list_all}
use Rattle.plan.proofs.Rows.{processors_few}
use Rattle.plan.specs.Kinds.{in_kind_limits}
use Rattle.plan.specs.declared.resource.Resource.{Resource}
use Rattle.plan.specs.declared.resource.Resource.TheVariants.{Slots, ReaderWriter}
use Rattle.plan.specs.declared.tables.Tables.{Tables}
use Rattle.slots.specs.Planned.{slots_of}
use Rattle.slots.specs.Rows.{row, bare}
use Rattle.slots.specs.declared.line.Line.{Line}

-- k of each is in its limits
pub slots_in_limits : (m : ℕ) (rs : List Resource) → IsTrue (list_all (in_kind_limits m) rs) → (j : ℕ) → j < length (slots_of rs) → (1 ≤ get_or (slots_of rs) j 0) × (get_or (slots_of rs) j 0 ≤ m)
slots_in_limits m [] all j l = absurd (omega arith)
slots_in_limits m (Slots k ∷ rs) all zero l =
    let p = and_parts _ _ (and_parts (in_kind_limits m (Slots k)) _ all).0 in
    (leb-true 1 k p.0, leb-true k m p.1)
slots_in_limits m (Slots k ∷ rs) all (suc j) l = slots_in_limits m rs (and_parts (in_kind_limits m (Slots k)) _ all).1 j (omega arith)
slots_in_limits m (ReaderWriter ∷ rs) all j l = slots_in_limits m rs all j l

-- one resource more
pub slots_more : (rs : List Resource) (i k : ℕ) (d : Resource) → i < length rs → get_or rs i d ≡ Slots k → slots_of (take (i + 1) rs) ≡ slots_of (take i rs) ++ (k ∷ [])
slots_more [] i k d l e = absurd (omega arith)
slots_more (r ∷ rs) zero k d l e = ap (λ s. slots_of (s ∷ [])) e
slots_more (Slots n ∷ rs) (suc i) k d l e = let s : suc i + 1 ≡ suc (i + 1) = omega arith in rw s (ap (λ ks. n ∷ ks) (slots_more rs i k d (omega arith) e))
slots_more (ReaderWriter ∷ rs) (suc i) k d l e = let s : suc i + 1 ≡ suc (i + 1) = omega arith in rw s (slots_more rs i k d (omega arith) e)

pub others_more : (rs : List Resource) (i : ℕ) (d : Resource) → i < length rs → get_or rs i d ≡ ReaderWriter → slots_of (take (i + 1) rs) ≡ slots_of (take i rs)
others_more [] i d l e = absurd (omega arith)
others_more (r ∷ rs) zero d l e = ap (λ s. slots_of (s ∷ [])) e
others_more (Slots n ∷ rs) (suc i) d l e = let s : suc i + 1 ≡ suc (i + 1) = omega arith in rw s (ap (λ ks. n ∷ ks) (others_more rs i d (omega arith) e))
others_more (ReaderWriter ∷ rs) (suc i) d l e = let s : suc i + 1 ≡ suc (i + 1) = omega arith in rw s (others_more rs i d (omega arith) e)

-- k of each fits in a byte
pub slots_byte : (t : Tables) (i k : ℕ) (d : Resource) → i < length t.resources → get_or t.resources i d ≡ Slots k → k ≤ 64
slots_byte t i k d l e =
    let m = sum t.clusters in
    let within : IsTrue (in_kind_limits m (Slots k)) = subst (λ r. IsTrue (in_kind_limits m r)) e (AllPass-from_list_all (in_kind_limits m) t.resources t.kinds_in_limits i d l) in
    omega (arith, leb-true k m (and_parts _ _ within).1, processors_few t.clusters t.few_clusters t.clusters_sized)

pub slots_few : (rs : List Resource) → length (slots_of rs) ≤ length rs
slots_few [] = omega arith
slots_few (Slots k ∷ rs) = omega (arith, slots_few rs)
slots_few (ReaderWriter ∷ rs) = omega (arith, slots_few rs)

-- one line more of a bank that is set up, and k of it
pub line_more : (lines : List Line) (n : ℕ) (line : Line) (ks : List ℕ) → n < length lines → n ≡ length ks → ((j : ℕ) → (get_or lines j bare).slots ≡ get_or ks j 0) → (j : ℕ) → (get_or (set lines n line) j bare).slots ≡ get_or (ks ++ (line.slots ∷ [])) j 0
line_more lines n line ks room count each j =
    ⊎_elim
    (λ (e : j ≡ n). rw e (ap (λ (x : Line). x.slots) (get_or-set_same lines n line bare room) ∙ (sym (get_or-append_seam ks line.slots [] 0) ∙ ap (λ i. get_or (ks ++ (line.slots ∷ [])) i 0) (sym count))))
    (λ (ne : j ≢ n). ap (λ (x : Line). x.slots) (get_or-set_other lines n j line bare ne) ∙ (each j ∙ same ne))
    (cases_eq j n)
  where
    same : j ≢ n → get_or ks j 0 ≡ get_or (ks ++ (line.slots ∷ [])) j 0
    same ne =
        ⊎_elim
        (λ (h : j < n). sym (get_or_append_left ks (line.slots ∷ []) 0 j (omega arith)))
        (λ (h : n ≤ j). get_or_past ks j 0 (omega arith) ∙ sym (get_or_past (ks ++ (line.slots ∷ [])) j 0 (omega (arith, length-append ks (line.slots ∷ [])))))
        (cases_lt j n)

pub rows_more : (lines : List Line) (n : ℕ) (line : Line) → row line ≡ [] → ((j : ℕ) → row (get_or lines j bare) ≡ []) → (j : ℕ) → row (get_or (set lines n line) j bare) ≡ []
rows_more lines n line none each j =
    ⊎_elim
    (λ (e : j ≡ n). ⊎_elim
    (λ (h : n < length lines). rw e (ap row (get_or-set_same lines n line bare h) ∙ none))
    (λ (h : length lines ≤ n). ap row (get_or_past (set lines n line) j bare (omega (arith, length-set lines n line))))
    (cases_lt n (length lines)))
    (λ ne. ap row (get_or-set_other lines n j line bare ne) ∙ each j)
    (cases_eq j n)
