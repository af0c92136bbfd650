-- The banks of a plan tell what the plan says, and fit it.
use Rattle.std.proofs.Common.{◌≡◌, ◌≤◌, Bool, true, false, cond, not, ltb, ◌⊎◌, List, [], length, sym, refl, ap, ◌∙◌, subst, inl, inr, arith}
use Rattle.std.specs.Prelude.{IsTrue}
use Rattle.bank.specs.Meaning.{Lists}
use Rattle.pair.specs.Pairs.{pair_told}
use Rattle.plan.specs.Contents.{Contents, resource_count}
use Rattle.plan.specs.Kinds.{by_kind}
use Rattle.plan.specs.Of.{plan_contents}
use Rattle.plan.specs.declared.plan.Plan.{Plan}
use Rattle.readers_writers.specs.Lines.{requests as writers_requests}
use Rattle.readers_writers.specs.ReadersWriters.{told_of as writers_told_of}
use Rattle.rules.specs.Fits.{BankFits}
use Rattle.rules.specs.Jobs.{Setup}
use Rattle.rules.specs.Questions.{slots_in, reads_in}
use Rattle.rules.specs.Runs.{Fitting, Unfit}
use Rattle.slots.specs.Lines.{requests as slots_requests}
use Rattle.slots.specs.Slots.{holders_of, told_for as slots_told}
use Rattle.dry_run.proofs.ByKind.{each_once, holders_planned, modes_planned}
use Rattle.dry_run.specs.Banks.{PlanBanks, BanksOf, meaning, plan_told}

few_resources_lem : (p : Plan) → resource_count (plan_contents p) ≤ 16
few_resources_lem p = p.tables.few_resources

either : {A : Type 0} (v : Bool) (xs ys zs : List A) → xs ≡ zs → ys ≡ zs → cond v xs ys ≡ zs
either true xs ys zs e f = e
either false xs ys zs e f = f

module _ (c : Contents) (b : PlanBanks) (of : BanksOf c b) where
  pub banks_told : meaning.told b ≡ plan_told c
  banks_told = ap (λ t. pair_told t (writers_told_of b.second)) of.slots.told ∙ ap (pair_told (slots_told c)) of.writers.told

  banks_fit : IsTrue (by_kind c.resources) → resource_count c ≤ 16 → BankFits c (meaning.told b) (meaning.active b)
  unfolding slots_in reads_in
  banks_fit kinds few = subst (λ t. BankFits c t (meaning.active b)) (sym banks_told) (record {
    resources = omega (arith, each_once c.resources);
    seats = omega arith;
    slots = λ r lt. holders_planned c.resources kinds r;
    modes = λ r lt. modes_planned c.resources kinds r;
    nobody = λ r lt. either _ _ _ [] (ap (slots_requests (holders_of b.first r)) (of.slots.nobody r)) (ap writers_requests (of.writers.nobody _));
  })

-- so the controller has the plan's tasks and resources
pub made_fitting : (p : Plan) (b : PlanBanks) → BanksOf (plan_contents p) b → (a : Setup) (ls : Lists) → a.plan ≡ plan_contents p → a.told ≡ meaning.told b → ls ≡ meaning.active b → Fitting a ls ⊎ Unfit a ls → Fitting a ls
made_fitting p b of a ls plan told lists (inl f) = f
made_fitting p b of a ls plan told lists (inr u) =
    let fit = banks_fit (plan_contents p) b of p.tables.resources_by_kind (few_resources_lem p) in
    absurd (u.misfit (subst (λ x. BankFits a.plan a.told x) (sym lists) (subst (λ x. BankFits a.plan x (meaning.active b)) (sym told) (subst (λ x. BankFits x (meaning.told b) (meaning.active b)) (sym plan) fit))))
