use Rattle.std.proofs.Common.{◌≡◌, ◌<◌, length, position, Some, slice_set, subst, refl, ap, sym, ◌∙◌, arith}
use Rattle.std.proofs.lemmas.List.{length-set}
use Rattle.bank.proofs.Places.{index_below, party_below}
use Rattle.readers_writers.specs.Limits.{AllKeep, list_of, entries_in}
use Rattle.readers_writers.specs.Lines.{holder_of, left}
use Rattle.readers_writers.specs.Places.{parted}
use Rattle.readers_writers.specs.ReadersWriters.{entries_of}
use Rattle.readers_writers.proofs.Meaning.{entries_set, entries_other, keep_left}
use Rattle.readers_writers.proofs.Places.{line_at}
use Rattle.readers_writers.proofs.Positions.{found as found_at, parted_left}
use Rattle.readers_writers.proofs.lines.ReadersWriters.leave_line.Goals as goal

pub invariant_of-self : goal.invariant_of-self
invariant_of-self c =
    let b = c.args.self.now in
    let r = c.args.resource in
    let p = c.args.party in
    let at = c.in_ok-at.at in
    let is = c.in_ok-at.ensures.1 in
    let a = index_below b.count r c.in_ok-at.ensures.0 in
    let long : r < length b.lines = omega (arith, b.long, b.few, a) in
    let found : position (holder_of p) (entries_of b r) ≡ Some c.in-Some.holder = ap (position (holder_of p)) (sym (line_at b.lines at r c.index-self-at.result long is)) ∙ (sym c.holder.ensures ∙ c.in-Some.is) in
    let new = c.leave.new.self in
    let list : list_of new ≡ left (entries_of b r) p = c.leave.ensures ∙ (ap (λ es. parted es c.in-Some.holder) (line_at b.lines at r _ long is) ∙ parted_left p c.in-Some.holder (entries_of b r) found) in
    let kept = keep_left b.lines b.count b.seats r p new a (party_below p c.in_ok-check_party.ensures.0) long b.kept (found_at (holder_of p) (entries_of b r) c.in-Some.holder found).0 list in
    record {
      long = length-set b.lines at new ∙ b.long;
      few = b.few;
      seated = b.seated;
      most = b.most;
      kept = subst (λ i. AllKeep (slice_set b.lines i new) b.count b.seats) (sym is) kept;
    }

pub returns-clause-exact : goal.returns-clause-exact
returns-clause-exact c =
    let b = c.args.self.now in
    let r = c.args.resource in
    let p = c.args.party in
    let at = c.in_ok-at.at in
    let is = c.in_ok-at.ensures.1 in
    let long : r < length b.lines = omega (arith, b.long, b.few, index_below b.count r c.in_ok-at.ensures.0) in
    let found : position (holder_of p) (entries_of b r) ≡ Some c.in-Some.holder = ap (position (holder_of p)) (sym (line_at b.lines at r c.index-self-at.result long is)) ∙ (sym c.holder.ensures ∙ c.in-Some.is) in
    let new = c.leave.new.self in
    let list : list_of new ≡ left (entries_of b r) p = c.leave.ensures ∙ (ap (λ es. parted es c.in-Some.holder) (line_at b.lines at r _ long is) ∙ parted_left p c.in-Some.holder (entries_of b r) found) in
    record {
      tells = refl;
      here = ap (λ i. entries_in (slice_set b.lines i new) r) is ∙ (entries_set b.lines r new long ∙ list);
      others = λ q ne. ap (λ i. entries_in (slice_set b.lines i new) q) is ∙ entries_other b.lines r new q ne;
    }
