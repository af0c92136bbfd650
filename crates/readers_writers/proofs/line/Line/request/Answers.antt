use Rattle.std.proofs.Common.{◌≡◌, ℕ, ◌<◌, List, length, slice_index_or, take, Some, sym, ap, ◌∙◌, zero-add, arith}
use Rattle.std.proofs.lemmas.Option.{slice_get_past}
use Rattle.std.proofs.lemmas.Bool.{cond-true, cond-false, ltb-true, ltb-false}
use Rattle.std.specs.List.{slice_get}
use Rattle.bank.specs.declared.request.Request.{Request}
use Rattle.bank.specs.declared.request.Standing.{Standing}
use Rattle.readers_writers.specs.declared.entry.Entry.{Entry}
use Rattle.readers_writers.specs.Lines.{some, count_of, is_holder, is_writer, holding_writer, turns, request_of, requests}
use Rattle.readers_writers.specs.Limits.{list_of}
use Rattle.readers_writers.proofs.PlacesLemmas.{request_at_lem, length_requests}
use Rattle.readers_writers.proofs.Positions.{count_is}
use Rattle.readers_writers.proofs.line.Line.request.Goals as goal
use Rattle.readers_writers.proofs.line.Line.request.Goals.{then-e, else-e}
use Rattle.bank.specs.declared.request.Standing.TheVariants.{Waits}

pub returns-in_err-e : goal.returns-in_err-e
returns-in_err-e c =
    let es = list_of c.args.self.now in
    let n = ap length c.deref.ensures.0 in
    let past = ltb-false _ _ (sym c.in_err-e.ensures.lookup.0) in
    let m : length (requests es) ≡ length es = length_requests _ _ 0 es in
    c.from_residual.ensures ∙ sym (slice_get_past (requests es) c.args.at (omega arith))

-- the request at a place, by the entry there
at_place : (es : List Entry) (i : ℕ) (e : Entry) → i < length es → e ≡ slice_index_or es i e → slice_get (requests es) i ≡ Some (request_of (some holding_writer es) (count_of is_holder es) (count_of is_writer (take i es)) e)
at_place es i e lt is =
    let b = some holding_writer es in
    let h = count_of is_holder es in
    request_at_lem b h 0 es i e lt ∙ (ap (λ n. Some (request_of b h n (slice_index_or es i e))) (zero-add _) ∙ ap (λ x. Some (request_of b h (count_of is_writer (take i es)) x)) (sym is))

pub returns : goal.returns
returns c =
    let es = list_of c.args.self.now in
    let e = c.in_ok-e.field-0.now in
    let n = ap length c.deref.ensures.0 in
    let lt = ltb-true _ _ (sym c.in_ok-e.ensures.lookup.0) in
    let is : e ≡ slice_index_or es c.args.at e = c.in_ok-e.ensures.lookup.1 ∙ ap (λ xs. slice_index_or xs c.args.at e) c.deref.ensures.0 in
    let writing = some holding_writer es in
    let before = count_of is_writer (take c.args.at es) in
    let made : Standing → Request = λ s. record { party = e.party; mode = e.mode; standing = s } in
    let party : record { party = c.into.result; mode = e.mode; standing = c.if-e.standing } ≡ made c.if-e.standing = ap (λ p. record { party = p; mode = e.mode; standing = c.if-e.standing }) c.into.ensures in
    let same : made c.if-e.standing ≡ request_of writing (count_of is_holder es) before e = elim c.if-e.branch [
      | then-e w ↦ ap made w.standing-is ∙ sym (cond-true e.holds _ _ w.if-e.true)
      | else-e w ↦
          let t : w.turns.result ≡ turns writing before e.mode = w.turns.ensures ∙ (ap (λ b. turns b w.writers_before.result e.mode) w.is_writing.ensures ∙ ap (λ n. turns writing n e.mode) (w.writers_before.ensures.many ∙ count_is is_writer (take c.args.at es))) in
          let h = w.holders.ensures ∙ count_is is_holder es in
          ap made (w.standing-is ∙ (ap (λ n. Waits n w.holders.result) t ∙ ap (λ n. Waits (turns writing before e.mode) n) h)) ∙ sym (cond-false e.holds _ _ w.if-e.false)
    ] in
    ap Some (party ∙ same) ∙ sym (at_place es c.args.at e (omega arith) is)
