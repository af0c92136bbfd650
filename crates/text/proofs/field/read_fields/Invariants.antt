use Rattle.std.proofs.Common.{◌≡◌, ◌-◌, ◌≤◌, length, take}
use Rattle.text.specs.declared.field.TheConstants.{FIELDS}
use Rattle.text.proofs.Fields.{Found}
use Rattle.text.proofs.field.read_fields.Given as goal

abbrev pub invariant-loop-rest : goal.invariant-loop-rest
invariant-loop-rest l = (Found l.line l.letter l.rest (take l.count l.fields)) × (l.count ≤ FIELDS) × (length l.fields ≡ FIELDS)

abbrev pub decreases-loop-rest : goal.decreases-loop-rest
decreases-loop-rest l = FIELDS - l.count
