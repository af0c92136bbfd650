use Rattle.std.proofs.Common.{[], arith}
use Rattle.event.specs.Answers.{unreadable_text}
use Rattle.text.specs.declared.refusal.Refusal.TheVariants.{NotEvent}
use Rattle.dry_run.specs.Said.{refused_text}
use Rattle.dry_run.specs.declared.run.Progress.TheVariants.{Plan, Events, Over}
use Rattle.dry_run.proofs.Steps.{into, laid_none, ends_with, end_plan, end_whole, end_line, end_over}
use Rattle.dry_run.proofs.run.DryRun.last.Goals as goal

pub returns-in-Plan-clause-ends : goal.returns-in-Plan-clause-ends
returns-in-Plan-clause-ends c =
    let p = c.in-Plan in
    ends_with _ _ (refused_text 22 0) _ _ c.lay_no_end.ensures.laid (λ i o fed. end_plan p.text p.begins i o (into c.args.self.now.progress (Plan p.text p.begins) p.is i o fed))

pub returns-then-len-eq0-clause-ends : goal.returns-then-len-eq0-clause-ends
returns-then-len-eq0-clause-ends c =
    let p = c.in-Events in
    ends_with _ _ [] _ _ (laid_none c.args.out.now 0) (λ i o fed. end_whole p.controller p.line i o (into c.args.self.now.progress (Events p.controller p.line) p.is i o fed) (omega (arith, c.len.ensures.value, c.if-len-eq0.true)))

pub returns-else-len-eq0-clause-ends : goal.returns-else-len-eq0-clause-ends
returns-else-len-eq0-clause-ends c =
    let p = c.in-Events in
    ends_with _ _ (unreadable_text NotEvent) _ _ c.lay_unreadable.ensures.laid (λ i o fed. end_line p.controller p.line i o (into c.args.self.now.progress (Events p.controller p.line) p.is i o fed) (omega (arith, c.len.ensures.value, c.if-len-eq0.false)))

pub returns-in-Over-clause-ends : goal.returns-in-Over-clause-ends
returns-in-Over-clause-ends c = ends_with _ _ [] _ _ (laid_none c.args.out.now 0) (λ i o fed. end_over i o (into c.args.self.now.progress Over c.in-Over.is i o fed))
