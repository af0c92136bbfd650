use Rattle.std.proofs.Common.{◌≡◌, ◌++◌, IsTrue, take, sym, ◌∙◌, subst, rules}
use Rattle.dry_run.specs.Plays.{Printed}
use Rattle.listings.proofs.Once.{prints_once}
use Rattle.listings.proofs.whole.gives_in.Goals as goal

pub returns : goal.returns
returns c =
    let input = c.args.input.now in
    let wanted = c.args.wanted.now in
    let whole = take c.feed_whole-size.result c.feed_whole-size.new.out ++ take c.end_whole-end.result c.end_whole-end.new.out in
    let once : Printed input whole × (Printed input wanted → wanted ≡ whole) = prints_once _ _ _ _ _ _ _ _ _ _ c.new-run.ensures c.lacks_room.ensures.same c.feed_whole-size.ensures.takes c.end_whole-end.ensures.ends wanted in
    let items = c.in_ok-printed.printed.items in
    let text : items ≡ whole = search rules in
    let same : (IsTrue c.eq.result → items ≡ wanted) × (items ≡ wanted → IsTrue c.eq.result) = search rules in
    (λ e. subst (Printed input) (sym text ∙ same.0 e) once.0, λ p. same.1 (text ∙ sym (once.1 p)))
