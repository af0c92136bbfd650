-- The resources of a plan by kind: its slots, and then its reader-writer resources.
use Rattle.std.proofs.Common.{◌≡◌, ℕ, zero, suc, ◌+◌, ◌<◌, ◌≤◌, Bool, true, false, cond, leb, ltb, List, [], ◌∷◌, length, get_or, sym, refl, ap, arith}
use Rattle.std.specs.Prelude.{IsTrue}
use Rattle.std.specs.List.{list_all}
use Rattle.std.proofs.lemmas.Bool.{and_parts, leb-true, ltb-true, ltb-false}
use Rattle.std.proofs.lemmas.List.Sums.{sum_by-cons}
use Rattle.plan.specs.Kinds.{by_kind, holders_of, kind_rank, knows_reads}
use Rattle.plan.specs.declared.resource.Resource.{Resource}
use Rattle.plan.specs.declared.resource.Resource.TheVariants.{Slots, ReaderWriter}
use Rattle.readers_writers.specs.Told.{is_reader_writer, reader_writers_of}
use Rattle.slots.specs.Planned.{slots_of}

no_slots : (rs : List Resource) → IsTrue (list_all (λ r. leb 1 (kind_rank r)) rs) → slots_of rs ≡ []
no_slots [] all = refl
no_slots (Slots k ∷ rs) all = absurd (omega (arith, leb-true 1 0 (and_parts (leb 1 0) (list_all (λ r. leb 1 (kind_rank r)) rs) all).0))
no_slots (ReaderWriter ∷ rs) all = no_slots rs all

pub slots_first : (rs : List Resource) → IsTrue (by_kind rs) → (r : ℕ) → r < length (slots_of rs) → get_or rs r ReaderWriter ≡ Slots (get_or (slots_of rs) r 0)
slots_first [] kinds r l = absurd (omega arith)
slots_first (Slots k ∷ rs) kinds zero l = refl
slots_first (Slots k ∷ rs) kinds (suc r) l = slots_first rs (and_parts _ (by_kind rs) kinds).1 r (omega arith)
slots_first (ReaderWriter ∷ rs) kinds r l =
    absurd (omega (arith, ap length (no_slots rs (and_parts _ (by_kind rs) kinds).0)))

pub writers_last : (rs : List Resource) → IsTrue (by_kind rs) → (r : ℕ) → length (slots_of rs) ≤ r → get_or rs r ReaderWriter ≡ ReaderWriter
writers_last [] kinds r l = refl
writers_last (Slots k ∷ rs) kinds zero l = absurd (omega arith)
writers_last (Slots k ∷ rs) kinds (suc r) l = writers_last rs (and_parts _ (by_kind rs) kinds).1 r (omega arith)
writers_last (ReaderWriter ∷ rs) kinds zero l = refl
writers_last (ReaderWriter ∷ rs) kinds (suc r) l =
    let k = and_parts _ (by_kind rs) kinds in
    writers_last rs k.1 r (omega (arith, ap length (no_slots rs k.0)))

-- so k and the modes of each are those that the banks tell
pub holders_planned : (rs : List Resource) → IsTrue (by_kind rs) → (r : ℕ) → cond (ltb r (length (slots_of rs))) (get_or (slots_of rs) r 0) 1 ≡ holders_of (get_or rs r ReaderWriter)
holders_planned rs kinds r =
    elim (ltb r (length (slots_of rs))) as (λ b. ltb r (length (slots_of rs)) ≡ b → cond b (get_or (slots_of rs) r 0) 1 ≡ holders_of (get_or rs r ReaderWriter)) [
      | true ↦ λ e. ap holders_of (sym (slots_first rs kinds r (ltb-true r (length (slots_of rs)) e)))
      | false ↦ λ e. ap holders_of (sym (writers_last rs kinds r (ltb-false r (length (slots_of rs)) e)))
    ] refl

pub modes_planned : (rs : List Resource) → IsTrue (by_kind rs) → (r : ℕ) → cond (ltb r (length (slots_of rs))) false true ≡ knows_reads (get_or rs r ReaderWriter)
modes_planned rs kinds r =
    elim (ltb r (length (slots_of rs))) as (λ b. ltb r (length (slots_of rs)) ≡ b → cond b false true ≡ knows_reads (get_or rs r ReaderWriter)) [
      | true ↦ λ e. ap knows_reads (sym (slots_first rs kinds r (ltb-true r (length (slots_of rs)) e)))
      | false ↦ λ e. ap knows_reads (sym (writers_last rs kinds r (ltb-false r (length (slots_of rs)) e)))
    ] refl

pub each_once : (rs : List Resource) → length rs ≡ length (slots_of rs) + reader_writers_of rs
each_once [] = refl
each_once (Slots k ∷ rs) = omega (arith, each_once rs, sum_by-cons (λ r. cond (is_reader_writer r) 1 0) (Slots k) rs)
each_once (ReaderWriter ∷ rs) = omega (arith, each_once rs, sum_by-cons (λ r. cond (is_reader_writer r) 1 0) ReaderWriter rs)
