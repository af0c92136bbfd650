-- The fields of a line, read one after another.
use Rattle.std.proofs.Common.{◌≡◌, ℕ, zero, suc, ◌+◌, ◌-◌, ◌<◌, ◌≤◌, true, false, List, [], ◌∷◌, ◌++◌, length, Some, None, Option, option_map, sym, refl, ap, ◌∙◌, append_assoc, append-nil, arith, length-append}
use Rattle.std.proofs.lemmas.Bool.{cond-true, cond-false}
use Rattle.std.specs.Option.{option_and_then}
use Rattle.text.specs.declared.field.Field.{Field}
use Rattle.text.specs.declared.field.TheConstants.{FIELDS}
use Rattle.text.specs.Fields.{read_field, is_newline, fields_in, fields_of}

-- a letter and the fields that stand behind others
abbrev behind : ℕ → List Field → Option (List Field) → Option (ℕ × List Field)
behind letter fields o = option_map (λ fs. (letter, fields ++ fs)) o

-- the fields so far, and then those in the rest, are the fields of the line
pub record Found (line : List ℕ) (letter : ℕ) (rest : List ℕ) (fields : List Field) : Type 0 where
  pub whole : (k : ℕ) → k + length fields ≡ FIELDS → fields_of line ≡ behind letter fields (fields_in k rest)
  pub few : length fields ≤ FIELDS

joined : (letter : ℕ) (fields : List Field) (field : Field) (o : Option (List Field)) → behind letter fields (option_map (λ fs. field ∷ fs) o) ≡ behind letter (fields ++ (field ∷ [])) o
joined letter fields field None = refl
joined letter fields field (Some fs) = ap (λ xs. Some (letter, xs)) (sym (append_assoc fields (field ∷ []) fs))

pub found_none : (line : List ℕ) (letter : ℕ) (rest : List ℕ) (fields : List Field) → line ≡ letter ∷ rest → fields ≡ [] → Found line letter rest fields
found_none line letter rest fields e n = rw n record {
  whole = λ k l. let n : k ≡ FIELDS = omega arith in ap fields_of e ∙ ap (λ j. behind letter [] (fields_in j rest)) (sym n);
  few = omega arith;
}

module _ (line : List ℕ) (letter : ℕ) (rest : List ℕ) (fields : List Field) (f : Found line letter rest fields) where
  -- no field more is allowed, or none is there
  pub found_full : is_newline rest ≡ false → length fields ≡ FIELDS → fields_of line ≡ None
  found_full e l = f.whole 0 (omega arith) ∙ ap (behind letter fields) (cond-false _ _ _ e)

  no_field : (k : ℕ) → is_newline rest ≡ false → read_field rest ≡ None → fields_in k rest ≡ None
  no_field zero e r = cond-false _ _ _ e
  no_field (suc k) e r = cond-false _ _ _ e ∙ ap (option_and_then _) r

  pub found_stop : is_newline rest ≡ false → read_field rest ≡ None → fields_of line ≡ None
  found_stop e r = let k : (FIELDS - length fields) + length fields ≡ FIELDS = omega (arith, f.few) in f.whole (FIELDS - length fields) k ∙ ap (behind letter fields) (no_field (FIELDS - length fields) e r)

  -- a field more
  pub found_more : (field : Field) (more : List ℕ) → is_newline rest ≡ false → length fields < FIELDS → read_field rest ≡ Some (field, more) → Found line letter more (fields ++ (field ∷ []))
  found_more field more e l r = record {
    whole = λ k n.
        f.whole (suc k) (omega (arith, length-append fields (field ∷ [])))
        ∙ (ap (behind letter fields) (cond-false _ _ _ e ∙ ap (option_and_then (λ p. option_map (λ fs. p.0 ∷ fs) (fields_in k p.1))) r)
        ∙ joined letter fields field (fields_in k more));
    few = omega (arith, length-append fields (field ∷ []));
  }

  newline_in : (k : ℕ) → is_newline rest ≡ true → fields_in k rest ≡ Some []
  newline_in zero e = cond-true _ _ _ e
  newline_in (suc k) e = cond-true _ _ _ e

  pub found_end : is_newline rest ≡ true → fields_of line ≡ Some (letter, fields)
  found_end e = let k : (FIELDS - length fields) + length fields ≡ FIELDS = omega (arith, f.few) in f.whole (FIELDS - length fields) k ∙ (ap (behind letter fields) (newline_in (FIELDS - length fields) e) ∙ ap (λ fs. Some (letter, fs)) (append-nil fields))
