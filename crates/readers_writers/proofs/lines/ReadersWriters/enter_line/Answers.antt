use Rattle.std.proofs.Common.{◌≡◌, ◌<◌, length, slice_set, subst, refl, ap, sym, ◌∙◌, arith}
use Rattle.std.proofs.lemmas.List.{length-set}
use Rattle.bank.proofs.Places.{index_below, party_below}
use Rattle.readers_writers.specs.Limits.{AllKeep, list_of, entries_in}
use Rattle.readers_writers.specs.Lines.{entered, admits}
use Rattle.readers_writers.specs.ReadersWriters.{entries_of}
use Rattle.readers_writers.proofs.Meaning.{entries_set, entries_other, keep_entered}
use Rattle.readers_writers.proofs.Places.{line_at}
use Rattle.readers_writers.proofs.PlacesLemmas.{length_requests}
use Rattle.readers_writers.proofs.lines.ReadersWriters.enter_line.Goals as goal

pub enter-requires : goal.enter-requires
enter-requires c =
    let b = c.args.self.now in
    let r = c.args.resource in
    let is = c.in_ok-at.ensures.1 in
    let a = index_below b.count r c.in_ok-at.ensures.0 in
    let long : r < length b.lines = omega (arith, b.long, b.few, a) in
    let n : c.active.result ≡ length (entries_of b r) = c.active.ensures ∙ (length_requests _ _ 0 _ ∙ ap length (line_at b.lines c.in_ok-at.at r _ long is)) in
    omega (arith, n, b.most, ap length (line_at b.lines c.in_ok-at.at r c.index-lines-at.result long is))

pub invariant_of-self : goal.invariant_of-self
invariant_of-self c =
    let b = c.args.self.now in
    let r = c.args.resource in
    let p = c.args.party in
    let at = c.in_ok-at.at in
    let is = c.in_ok-at.ensures.1 in
    let a = index_below b.count r c.in_ok-at.ensures.0 in
    let long : r < length b.lines = omega (arith, b.long, b.few, a) in
    let n : c.active.result ≡ length (entries_of b r) = c.active.ensures ∙ (length_requests _ _ 0 _ ∙ ap length (line_at b.lines at r _ long is)) in
    let new = c.enter.new.self in
    let list : list_of new ≡ entered (entries_of b r) p c.args.mode = c.enter.ensures.list ∙ ap (λ es. entered es p c.args.mode) (line_at b.lines at r _ long is) in
    let kept = keep_entered b.lines b.count b.seats r p new a (party_below p c.in_ok-check_party.ensures.0) long b.kept c.args.mode (omega (arith, n)) list in
    record {
      long = length-set b.lines at new ∙ b.long;
      few = b.few;
      seated = b.seated;
      most = b.most;
      kept = subst (λ i. AllKeep (slice_set b.lines i new) b.count b.seats) (sym is) kept;
    }

pub returns-clause-exact : goal.returns-clause-exact
returns-clause-exact c =
    let b = c.args.self.now in
    let r = c.args.resource in
    let at = c.in_ok-at.at in
    let is = c.in_ok-at.ensures.1 in
    let long : r < length b.lines = omega (arith, b.long, b.few, index_below b.count r c.in_ok-at.ensures.0) in
    let old = line_at b.lines at r c.index-lines-at.result long is in
    let new = c.enter.new.self in
    record {
      holds = c.enter.ensures.holds ∙ ap (λ es. admits es c.args.mode) old;
      entries = record {
        tells = refl;
        here = ap (λ i. entries_in (slice_set b.lines i new) r) is ∙ (entries_set b.lines r new long ∙ (c.enter.ensures.list ∙ ap (λ es. entered es c.args.party c.args.mode) old));
        others = λ q ne. ap (λ i. entries_in (slice_set b.lines i new) q) is ∙ entries_other b.lines r new q ne;
      };
    }
