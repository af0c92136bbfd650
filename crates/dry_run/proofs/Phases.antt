-- What is settled of an input while something is read next.
use Rattle.std.proofs.Common.{◌≡◌, ◌≢◌, ℕ, ◌<◌, true, false, ◌||◌, List, [], ◌++◌, length, None, is_some, nat_le, sym, refl, ap, ◌∙◌, inl, inr, append-nil, arith}
use Rattle.std.proofs.lemmas.Bool.{lt-leb}
use Rattle.std.proofs.lemmas.List.{take_all}
use Rattle.dry_run.specs.Fed.{FedIn, phase_in, Tells}
use Rattle.dry_run.specs.Said.{before_empty, enough, GoesOn, part_verdict, plan_part, verdict}
use Rattle.dry_run.specs.declared.run.Phase.{Phase}
use Rattle.dry_run.specs.declared.run.Phase.TheVariants.{Plan as ReadsPlan, Events as ReadsEvents, Over as ReadsNothing}
use Rattle.dry_run.specs.declared.run.Progress.{Progress}
use Rattle.dry_run.specs.declared.run.Progress.TheVariants.{Plan, Events, Over}
use Rattle.dry_run.proofs.Steps.{bytes_more, part_of}

unended_part : (input : List ℕ) → length input < 16384 → before_empty true input ≡ None → plan_part input ≡ None
unended_part input few unended = ap (before_empty true) (take_all 16384 input (omega arith)) ∙ unended

lacks : (input : List ℕ) → length input < 16384 → plan_part input ≡ None → enough input ≡ false
lacks input few unended = ap (λ p. is_some p || nat_le 16384 (length input)) unended ∙ lt-leb 16384 (length input) few

pub tells : (p : Progress) (input out : List ℕ) → FedIn p input out → Tells (phase_in p) input out
tells (Plan text begins) input out fed = (lacks input fed.few (unended_part input fed.few fed.unended), fed.nothing)
tells (Events k kept) input out fed = (
  fed.contents,
  ap (λ p. is_some p || nat_le 16384 (length input)) (part_of k kept input out fed input fed.events fed.bytes),
  λ more. ap part_verdict (part_of k kept input out fed (input ++ more) (fed.events ++ more) (bytes_more k kept input out fed more)) ∙ fed.accepted,
)
tells Over input out fed = fed

pub goes_on : (p : Phase) (input out : List ℕ) → Tells p input out → p ≢ ReadsNothing → GoesOn input
goes_on ReadsPlan input out told more = inl told.0
goes_on ReadsEvents input out (c, _, accepted) more = inr (c, ap verdict (sym (append-nil input)) ∙ accepted [])
goes_on ReadsNothing input out told more = absurd (more refl)
