use Rattle.std.proofs.Common.{◌≡◌, false, [], ◌++◌, length, sym, ap, subst, arith, length-append}
use Rattle.std.proofs.lemmas.List.{length-take}
use Rattle.byte_vec.proofs.Room.{has_room, lacks_room}
use Rattle.dry_run.specs.Said.{refused_text}
use Rattle.event.specs.Laid.{Laid}
use Rattle.dry_run.specs.Steps.{reserve_in, WaitsIn}
use Rattle.dry_run.specs.declared.run.Progress.TheVariants.{Plan, Events, Over}
use Rattle.dry_run.proofs.Bytes.{none_plain, begins_some}
use Rattle.dry_run.proofs.Steps.{into, laid_none, over_stays, plan_keeps, plan_full, event_keeps}
use Rattle.dry_run.proofs.run.DryRun.take_open.Goals as goal

pub returns-in-Ok-clause-takes : goal.returns-in-Ok-clause-takes
returns-in-Ok-clause-takes c =
    let p = c.in-Plan in
    let start : c.args.at ≡ 0 = subst (λ x. WaitsIn x c.args.at) p.is c.requires.1 in
    rw c.in-Ok.ensures.1 (record {
      printed = [];
      laid = subst (λ at. Laid c.args.out.now at [] 0 c.args.out.now) (sym start) (laid_none c.args.out.now 0);
      law = λ i o fed. plan_keeps p.text p.begins i o (into c.args.self.now.progress (Plan p.text p.begins) p.is i o fed) c.args.bytes.now false (has_room 16383 p.text c.args.bytes.now c.in-Ok.ensures.0) (none_plain p.begins c.args.bytes.now c.requires.0) (begins_some p.begins c.args.bytes.now c.requires.0 (omega arith));
    })

pub returns-in-Err-clause-takes : goal.returns-in-Err-clause-takes
returns-in-Err-clause-takes c =
    let p = c.in-Plan in
    let start : c.args.at ≡ 0 = subst (λ x. WaitsIn x c.args.at) p.is c.requires.1 in
    rw c.refuse.ensures.over (record {
      printed = refused_text 22 0;
      laid = subst (λ at. Laid c.args.out.now at (refused_text 22 0) c.refuse.result c.refuse.new.out) (sym start) c.refuse.ensures.laid;
      law = λ i o fed. plan_full p.text p.begins i o (into c.args.self.now.progress (Plan p.text p.begins) p.is i o fed) c.args.bytes.now (lacks_room 16383 p.text c.args.bytes.now 23 c.in-Err.ensures.0) (none_plain p.begins c.args.bytes.now c.requires.0);
    })

pub returns-in-Events-clause-takes : goal.returns-in-Events-clause-takes
returns-in-Events-clause-takes c = let p = c.in-Events in record {
  printed = [];
  laid = laid_none c.args.out.now c.args.at;
  law = λ i o fed. event_keeps p.controller p.line i o (into c.args.self.now.progress (Events p.controller p.line) p.is i o fed) c.keep_front.new.line c.args.bytes.now c.requires.0 c.keep_front.ensures;
}

pub returns-in-Events-clause-few : goal.returns-in-Events-clause-few
returns-in-Events-clause-few c =
    let p = c.in-Events in
    omega (arith, ap reserve_in p.is, ap length c.keep_front.ensures, length-take 16 (p.line ++ c.args.bytes.now), length-append p.line c.args.bytes.now)

pub returns-in-Over-clause-takes : goal.returns-in-Over-clause-takes
returns-in-Over-clause-takes c = record {
  printed = [];
  laid = laid_none c.args.out.now c.args.at;
  law = λ i o fed. into Over c.args.self.now.progress (sym c.in-Over.is) _ _ (over_stays i o c.args.bytes.now (into c.args.self.now.progress Over c.in-Over.is i o fed));
}
