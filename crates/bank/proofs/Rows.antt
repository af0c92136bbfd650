-- The same change of one row leaves banks with the same rows.
use Rattle.std.proofs.Common.{◌≡◌, ℕ, sym, ap, ◌∙◌, subst, ⊎_elim}
use Rattle.std.proofs.lemmas.Bool.{cases_eq}
use Rattle.bank.specs.Exact.{ChangesRow, SameRows}
use Rattle.bank.specs.Questions.{Told}

module _ {X A : Type 0} (told : X → Told) (row : X → ℕ → A) (r : ℕ) (change : A → A) (a b c d : X) where
  pub same_rows : SameRows told row a b → ChangesRow told row r change a c → ChangesRow told row r change b d → SameRows told row c d
  same_rows same x y = record {
    tells = x.tells ∙ (same.tells ∙ sym y.tells);
    rows = λ k. ⊎_elim
        (λ e. subst (λ j. row c j ≡ row d j) (sym e) (x.here ∙ (ap change (same.rows r) ∙ sym y.here)))
        (λ ne. x.others k ne ∙ (same.rows k ∙ sym (y.others k ne)))
        (cases_eq k r);
  }
