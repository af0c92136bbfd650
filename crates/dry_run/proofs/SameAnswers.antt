-- Two refusals of one call are printed the same: the rules leave no choice.
use Rattle.std.proofs.Common.{◌≡◌, Bool, true, false, cond, List, ◌++◌, Some, None, codes, decimal, sym, refl, ap, ◌∙◌, subst}
use Rattle.std.proofs.lemmas.Option.{none-some, same_Some}
use Rattle.event.specs.Answers.{named_text, refused_text}
use Rattle.rules.specs.Refusals.{number, task_named, from_bank, RefusedBy}
use Rattle.rules.specs.declared.refusal.Refusal.{Refusal}
use Rattle.text.specs.Questions.{Question, first_no}

-- equal refusals, as far as they are printed
pub same_refused_text : (w v : Refusal) → number w ≡ number v → task_named w ≡ task_named v → refused_text w ≡ refused_text v
same_refused_text w v e f =
    ap (λ n. codes "no," ++ (decimal n ++ named_text (task_named w))) e ∙ ap (λ o. codes "no," ++ (decimal (number v) ++ named_text o)) f

module _ (own bank : List Question) where
  decided_by : (w : Refusal) (x : Bool) → from_bank w ≡ x → RefusedBy own bank w → first_no (cond x bank own) ≡ Some (number w)
  decided_by w x e r = subst (λ y. first_no (cond y bank own) ≡ Some (number w)) e r.decided

  -- two refusals by the same questions have one number
  pub refused_number : (w v : Refusal) → RefusedBy own bank w → RefusedBy own bank v → number w ≡ number v
  refused_number w v a b = by (from_bank w) (from_bank v) refl refl
    where
      by : (x y : Bool) → from_bank w ≡ x → from_bank v ≡ y → number w ≡ number v
      by true true e f = same_Some _ _ (sym (decided_by w true e a) ∙ decided_by v true f b)
      by false false e f = same_Some _ _ (sym (decided_by w false e a) ∙ decided_by v false f b)
      by true false e f = absurd (none-some _ (sym (a.own_first e) ∙ decided_by v false f b))
      by false true e f = absurd (none-some _ (sym (b.own_first f) ∙ decided_by w false e a))

  -- where the own questions are answered yes, it was one of the bank's
  pub refused_by_bank : (w : Refusal) → first_no own ≡ None → RefusedBy own bank w → first_no bank ≡ Some (number w)
  refused_by_bank w passed r = by (from_bank w) refl
    where
      by : (x : Bool) → from_bank w ≡ x → first_no bank ≡ Some (number w)
      by true e = decided_by w true e r
      by false e = absurd (none-some _ (sym passed ∙ decided_by w false e r))
