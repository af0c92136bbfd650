use Rattle.std.proofs.Common.{◌≡◌, ◌+◌, ◌≤◌, map, length}
use Rattle.item.specs.Lines.{read_item}
use Rattle.plan.specs.Of.{contents_of}
use Rattle.text.specs.Lines.{lines_of}
use Rattle.plan_text.specs.Texts.{judge, read_text}
use Rattle.plan_text.proofs.read.take_text.Given as goal

abbrev pub invariant-loop-rest : goal.invariant-loop-rest
invariant-loop-rest l =
    (judge (contents_of l.tables) l.draft.next (map read_item (lines_of l.rest)) ≡ read_text l.text)
    × (l.draft.next + length l.rest ≤ length l.text + 1)

abbrev pub decreases-loop-rest : goal.decreases-loop-rest
decreases-loop-rest l = length l.rest
