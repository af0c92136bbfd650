use Rattle.std.proofs.Common.{◌≡◌, ◌<◌, ◌≤◌, length, take, refl, rules, sym, arith}
use Rattle.std.proofs.lemmas.List.{length-take-le, take_more_set}
use Rattle.std.proofs.lemmas.Bool.Decides.{nat_tests}
use Rattle.text.specs.declared.field.TheConstants.{FIELDS}
use Rattle.text.proofs.Fields.{found_none, found_full, found_stop, found_more, found_end}
use Rattle.text.proofs.field.read_fields.Goals as goal

pub loop-rest-init : goal.loop-rest-init
loop-rest-init c = (found_none _ _ _ _ c.in_ok-letter.ensures.cases.0 refl, omega arith, search rules)

pub returns-then-is_newline-clause-read : goal.returns-then-is_newline-clause-read
returns-then-is_newline-clause-read c = found_end _ _ _ _ (found_none _ _ _ _ c.in_ok-letter.ensures.cases.0 refl) (sym c.if-is_newline.ensures)

pub returns-then-count-eq-FIELDS-clause-read : goal.returns-then-count-eq-FIELDS-clause-read
returns-then-count-eq-FIELDS-clause-read c =
    let some = length-take-le c.loop-rest.count c.loop-rest.fields (omega arith) in
    let full : length (take c.loop-rest.count c.loop-rest.fields) ≡ FIELDS = grind (arith, nat_tests) in
    found_full _ _ _ _ c.loop-rest.invariant.0 (sym c.loop-rest-test.ensures) full

pub returns-in_err-field-clause-read : goal.returns-in_err-field-clause-read
returns-in_err-field-clause-read c = rw c.from_residual-in_err-field.ensures (found_stop _ _ _ _ c.loop-rest.invariant.0 (sym c.loop-rest-test.ensures) c.in_err-field.ensures)

pub loop-rest-preserved : goal.loop-rest-preserved
loop-rest-preserved c =
    let some = length-take-le c.loop-rest.count c.loop-rest.fields (omega arith) in
    let room : c.loop-rest.count < FIELDS = grind (arith, nat_tests) in
    let long : length c.loop-rest.fields ≡ FIELDS = c.loop-rest.invariant.2 in
    let more = take_more_set c.loop-rest.fields c.loop-rest.count c.in_ok-field.field (omega arith) in
    (rw more (found_more _ _ _ _ c.loop-rest.invariant.0 _ _ (sym c.loop-rest-test.ensures) (omega arith) c.in_ok-field.ensures), omega arith, search rules)

pub returns-clause-read : goal.returns-clause-read
returns-clause-read c = found_end _ _ _ _ c.loop-rest.invariant.0 (sym c.loop-rest-test.ensures)
