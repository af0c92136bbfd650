use Rattle.std.proofs.Common.{◌≡◌, true, false, [], length, sym, subst}
use Rattle.byte_vec.proofs.Room.{has_room, lacks_room}
use Rattle.dry_run.specs.Said.{refused_text}
use Rattle.event.specs.Laid.{Laid}
use Rattle.dry_run.specs.Steps.{WaitsIn}
use Rattle.dry_run.specs.declared.run.Progress.TheVariants.{Plan, Over}
use Rattle.dry_run.proofs.Bytes.{none_line, line_ends}
use Rattle.dry_run.proofs.Steps.{into, laid_none, over_stays, plan_keeps, plan_full}
use Rattle.dry_run.proofs.run.DryRun.take_line.Goals.{else-line-eq1-via-then-line-eq1+else-begins, else-line-eq1-via-else-line-eq1}
use Rattle.dry_run.proofs.run.DryRun.take_line.Goals as goal

pub returns-in-Ok-clause-takes : goal.returns-in-Ok-clause-takes
returns-in-Ok-clause-takes c =
    let p = c.in-Plan in
    let some : length c.args.line.now ≡ 1 → p.begins ≡ false = elim c.else-line-eq1.branch [ else-line-eq1-via-then-line-eq1+else-begins w ↦ λ _. w.if-begins.false | else-line-eq1-via-else-line-eq1 w ↦ λ e. absurd (w.if-line-eq1.false e) ] in
    let start : c.args.at ≡ 0 = subst (λ x. WaitsIn x c.args.at) p.is c.requires.1 in
    rw c.in-Ok.ensures.1 (record {
      printed = [];
      laid = subst (λ at. Laid c.args.out.now at [] 0 c.args.out.now) (sym start) (laid_none c.args.out.now 0);
      law = λ i o fed. plan_keeps p.text p.begins i o (into c.args.self.now.progress (Plan p.text p.begins) p.is i o fed) c.args.line.now true (has_room 16383 p.text c.args.line.now c.in-Ok.ensures.0) (none_line p.begins c.args.line.now c.requires.0 some) (line_ends p.begins c.args.line.now c.requires.0);
    })

pub returns-in-Err-clause-takes : goal.returns-in-Err-clause-takes
returns-in-Err-clause-takes c =
    let p = c.in-Plan in
    let some : length c.args.line.now ≡ 1 → p.begins ≡ false = elim c.else-line-eq1.branch [ else-line-eq1-via-then-line-eq1+else-begins w ↦ λ _. w.if-begins.false | else-line-eq1-via-else-line-eq1 w ↦ λ e. absurd (w.if-line-eq1.false e) ] in
    let start : c.args.at ≡ 0 = subst (λ x. WaitsIn x c.args.at) p.is c.requires.1 in
    rw c.refuse.ensures.over (record {
      printed = refused_text 22 0;
      laid = subst (λ at. Laid c.args.out.now at (refused_text 22 0) c.refuse.result c.refuse.new.out) (sym start) c.refuse.ensures.laid;
      law = λ i o fed. plan_full p.text p.begins i o (into c.args.self.now.progress (Plan p.text p.begins) p.is i o fed) c.args.line.now (lacks_room 16383 p.text c.args.line.now 23 c.in-Err.ensures.0) (none_line p.begins c.args.line.now c.requires.0 some);
    })

pub returns-in-Over-clause-takes : goal.returns-in-Over-clause-takes
returns-in-Over-clause-takes c = record {
  printed = [];
  laid = laid_none c.args.out.now c.args.at;
  law = λ i o fed. into Over c.args.self.now.progress (sym c.in-Over.is) _ _ (over_stays i o c.args.line.now (into c.args.self.now.progress Over c.in-Over.is i o fed));
}
