-- What a bank keeps where the parties of one line change, and what that line keeps.
use Rattle.std.proofs.Common.{◌≡◌, ℕ, suc, ◌+◌, ◌-◌, ◌<◌, List, ◌∷◌, length, take, drop, replicate, get_or, set, sym, ap, subst, ◌∙◌, ⊎_elim, arith}
use Rattle.std.specs.List.{copy_within, remove}
use Rattle.std.proofs.lemmas.Bool.{cases_eq, cases_lt}
use Rattle.std.proofs.lemmas.Grind.{common_steps}
use Rattle.std.proofs.lemmas.List.{get_or-set_same, get_or-set_other, drop-set, drop-drop}
use Rattle.std.proofs.lemmas.List.Edits.{length-remove, get_or-remove_below, get_or-remove_above}
use Rattle.byte_vec.specs.Filled.{Filled, length_of_filled}
use Rattle.byte_vec.proofs.Filling.{zeros_behind}
use Rattle.slots.specs.Limits.{Keeping, Kept, Sized}
use Rattle.slots.specs.Rows.{row, bare}
use Rattle.slots.specs.declared.line.Line.{Line}

module _ (lines : List Line) (at : ℕ) (new : Line) (within : at < length lines) where
  pub slots_set : new.slots ≡ (get_or lines at bare).slots → (q : ℕ) → (get_or (set lines at new) q bare).slots ≡ (get_or lines q bare).slots
  slots_set s q =
      ⊎_elim
      (λ (e : q ≡ at). rw e (ap (λ (l : Line). l.slots) (get_or-set_same lines at new bare within) ∙ s))
      (λ (ne : q ≡ at → ⊥). ap (λ (l : Line). l.slots) (get_or-set_other lines at q new bare ne))
      (cases_eq q at)

  pub sized_set : (n : ℕ) → new.slots ≡ (get_or lines at bare).slots → Sized lines n → Sized (set lines at new) n
  sized_set n s z = (z.0, λ q l. omega (arith, slots_set s q, z.1 q l))

  pub kept_set : (seats : ℕ) → Keeping seats new → Kept seats lines → Kept seats (set lines at new)
  kept_set seats one kept q lt =
      ⊎_elim
      (λ (e : q ≡ at). subst (λ j. Keeping seats (get_or (set lines at new) j bare)) (sym e) (subst (Keeping seats) (sym (get_or-set_same lines at new bare within)) one))
      (λ (ne : q ≡ at → ⊥). subst (Keeping seats) (sym (get_or-set_other lines at q new bare ne)) (kept q lt))
      (cases_eq q at)

-- a party is gone
pub keeping_removed : (seats i : ℕ) (old new : Line) → i < length (row old) → row new ≡ remove (row old) i → Keeping seats old → Keeping seats new
keeping_removed seats i old new l e kept =
    let ps = row old in
    let n = length-remove ps i l in
    let m = ap length e in
    (omega (arith, kept.0), λ j h. ⊎_elim (λ f. omega (arith, ap (λ qs. get_or qs j 0) e, get_or-remove_below ps i 0 j f l, kept.1 j (omega arith))) (λ f. omega (arith, ap (λ qs. get_or qs j 0) e, get_or-remove_above ps i 0 j f l, kept.1 (j + 1) (omega arith))) (cases_lt j i))

-- a party comes to a line or goes: the places behind its parties are still 0
module _ (n : ℕ) (ps : List ℕ) (len : ℕ) (f : Filled n ps len) where
  pub filled_pushed : (p : ℕ) → length (take len ps) < n → Filled n (set ps len p) (len + 1)
  filled_pushed p room =
      let m = length_of_filled n ps len f in
      let z = zeros_behind n ps len 1 f in
      record {
        whole = grind (arith, common_steps);
        within = omega (arith, m);
        behind = grind (arith, common_steps);
      }

  -- the parties behind a place come one further to the front
  module _ (i : ℕ) (l : i < length (take len ps)) (qs : List ℕ) (long : length qs ≡ length ps) (after : qs ≡ copy_within ps (i + 1) len i) where
    kept : drop (len - 1) qs ≡ drop (len - 1) ps
    kept = let m = length_of_filled n ps len f in grind (arith, common_steps)

    behind : drop ((len - 1) + 1) qs ≡ replicate (n - len) 0
    behind =
        let m = length_of_filled n ps len f in
        let e : (len - 1) + 1 ≡ len = omega (arith, m, l) in
        sym (drop-drop 1 (len - 1) qs) ∙ (ap (λ zs. drop 1 zs) kept ∙ (drop-drop 1 (len - 1) ps ∙ (ap (λ k. drop k ps) e ∙ f.behind)))

    pub filled_removed : Filled n (set qs (len - 1) 0) (len - 1)
    filled_removed =
        let m = length_of_filled n ps len f in
        let k : suc (n - len) ≡ n - (len - 1) = omega (arith, m, l, f.within) in
        record {
          whole = grind (arith, common_steps);
          within = omega (arith, f.within);
          behind = drop-set qs (len - 1) 0 (omega (arith, m, l, long, f.whole, f.within)) ∙ (ap (λ (zs : List ℕ). 0 ∷ zs) behind ∙ ap (λ m. replicate m 0) k);
        }
