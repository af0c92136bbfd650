use Rattle.std.proofs.Common.{◌≡◌, ◌<◌, length, get_or, set, ap, sym, ◌∙◌, arith}
use mathlib.Core.Path.{fun_ext}
use Rattle.std.proofs.lemmas.List.{length-set, get_or_default, get_or-set_same, get_or-set_other}
use Rattle.bank.proofs.Places.{index_below}
use Rattle.std.specs.List.{remove}
use Rattle.slots.specs.Slots.{told_with, holders_of, parties_of}
use Rattle.slots.specs.Rows.{row, bare, place}
use Rattle.slots.specs.declared.line.Line.{Line}
use Rattle.slots.proofs.Changes.{slots_set, sized_set, kept_set, keeping_removed}
use Rattle.slots.proofs.Meaning.{next_holds}
use Rattle.slots.proofs.slots.Slots.let_out.Goals as goal

pub invariant_of-self : goal.invariant_of-self
invariant_of-self c =
    let s = c.args.self.now in
    let at = c.in_ok-at.at in
    let new = c.remove.new.self in
    let long : at < length s.lines = omega (arith, s.held, s.sized.0, index_below _ _ c.in_ok-at.ensures.0, c.in_ok-at.ensures.1) in
    let d = get_or_default s.lines at c.index-lines-at.result bare long in
    let slots : new.slots ≡ (get_or s.lines at bare).slots = c.remove.ensures.slots ∙ ap (λ (l : Line). l.slots) d in
    let n = ap (λ l. length (row l)) (get_or_default s.lines at c.index-self-at.result bare long) in
    let there = c.in-Some.ensures.here.0 in
    let gone = c.remove.ensures.row ∙ ap (λ l. remove (row l) c.in-Some.place) d in
    let one = keeping_removed s.seats c.in-Some.place (get_or s.lines at bare) new (omega arith) gone (s.kept at (omega arith)) in
    record {
      seated = s.seated;
      held = length-set s.lines at new ∙ s.held;
      sized = sized_set s.lines at new long s.count slots s.sized;
      kept = kept_set s.lines at new long s.seats one s.kept;
    }

pub returns-clause-exact : goal.returns-clause-exact
returns-clause-exact c =
    let s = c.args.self.now in
    let r = c.args.resource in
    let p = c.args.party in
    let at = c.in_ok-at.at in
    let new = c.remove.new.self in
    let is : at ≡ r = c.in_ok-at.ensures.1 in
    let long : at < length s.lines = omega (arith, s.held, s.sized.0, index_below _ _ c.in_ok-at.ensures.0, is) in
    let d = get_or_default s.lines at c.index-lines-at.result bare long in
    let slots : new.slots ≡ (get_or s.lines at bare).slots = c.remove.ensures.slots ∙ ap (λ (l : Line). l.slots) d in
    let j = c.in-Some.place in
    let k = holders_of s r in
    let ps = parties_of s r in
    let line : get_or s.lines at c.index-self-at.result ≡ get_or s.lines r bare = get_or_default s.lines at c.index-self-at.result bare long ∙ ap (λ i. get_or s.lines i bare) is in
    let n = ap (λ (l : Line). length (row l)) line in
    let m = ap (λ (l : Line). l.slots) line in
    let j_is : j ≡ place p ps = c.in-Some.ensures.place ∙ ap (λ (l : Line). place p (row l)) line in
    let gone : row new ≡ remove ps (place p ps) = c.remove.ensures.row ∙ (ap (λ (l : Line). remove (row l) j) (d ∙ ap (λ i. get_or s.lines i bare) is) ∙ ap (remove ps) j_is) in
    let here : row (get_or (set s.lines at new) r bare) ≡ remove ps (place p ps) = ap (λ i. row (get_or (set s.lines at new) i bare)) (sym is) ∙ (ap row (get_or-set_same s.lines at new bare long) ∙ gone) in
    record {
      parties = record {
        tells = ap (told_with s.seats s.count) (fun_ext (slots_set s.lines at new long slots));
        here = here;
        others = λ q ne. ap row (get_or-set_other s.lines at q new bare (λ e. ne (e ∙ is)));
      };
      next = next_holds k (place p ps) ps _ (omega (arith, n, j_is, c.in-Some.ensures.here.0)) (omega (arith, m, j_is, c.in-Some.ensures.here.1)) here;
    }
