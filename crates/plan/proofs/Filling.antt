-- One resource more in the places: those behind it are still the same.
use Rattle.std.proofs.Common.{◌≡◌, ℕ, ◌+◌, ◌-◌, ◌<◌, List, drop, replicate, set, sym, ap, ◌∙◌, arith}
use Rattle.std.proofs.lemmas.List.{length-set, drop-set-lt, drop-drop, drop-replicate}
use Rattle.plan.specs.Filled.{Filled}
use Rattle.plan.specs.declared.resource.Resource.{Resource}
use Rattle.plan.specs.declared.resource.Resource.TheVariants.{ReaderWriter}

pub filled_more : (ps : List Resource) (len : ℕ) (r : Resource) → Filled ps len → len < 16 → Filled (set ps len r) (len + 1)
filled_more ps len r f room = record {
  whole = length-set ps len r ∙ f.whole;
  within = omega arith;
  behind =
      drop-set-lt (len + 1) ps len r (omega arith)
      ∙ (sym (drop-drop 1 len ps)
      ∙ (ap (drop 1) f.behind ∙ (drop-replicate 1 (16 - len) ReaderWriter ∙ ap (λ n. replicate n ReaderWriter) (omega arith))));
}
