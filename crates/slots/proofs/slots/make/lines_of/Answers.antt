use Rattle.std.proofs.Common.{[], ◌∷◌, ◌++◌, ◌≡◌, ◌+◌, ◌<◌, length, get_or, take, ap, sym, ◌∙◌, arith, length-append}
use Rattle.std.proofs.lemmas.List.{length-set, get_or_default}
use Rattle.plan.specs.declared.resource.Resource.TheVariants.{Slots}
use Rattle.slots.specs.Planned.{slots_of}
use Rattle.slots.specs.Rows.{row, bare}
use Rattle.slots.proofs.SlotsOf.{slots_byte, slots_more, others_more, line_more, rows_more}
use Rattle.slots.proofs.slots.make.lines_of.Goals as goal
use Rattle.slots.proofs.slots.make.lines_of.Goals.{in-Slots, in-ReaderWriter}

pub overflow_cast-lines : goal.overflow_cast-lines
overflow_cast-lines c =
    let t = c.args.plan.now.tables in
    let p = c.loop-place.place in
    let at = sym (ap (λ rs. get_or rs p (Slots 0)) c.resource_row.ensures.value) ∙ c.in-Slots.is in
    omega (arith, slots_byte t p c.in-Slots.k (Slots 0) (omega arith) at)

pub loop-place-preserved : goal.loop-place-preserved
loop-place-preserved c =
    let rs = c.args.plan.now.tables.resources in
    let p = c.loop-place.place in
    let lines = c.loop-place.lines in
    let n = c.loop-place.count in
    let i = c.loop-place.invariant in
    let there : p < length rs = omega arith in
    let row_is = sym (ap (λ xs. get_or xs p (Slots 0)) c.resource_row.ensures.value) in
    let few = c.args.plan.now.tables.few_resources in
    elim c.match-resource_row-place.branch [
      | in-Slots w ↦
          let k = w.in-Slots.k in
          let taken = slots_of (take p rs) in
          let more : slots_of (take (p + 1) rs) ≡ taken ++ (k ∷ []) = slots_more rs p k (Slots 0) there (row_is ∙ w.in-Slots.is) in
          rw (w.lines-is, w.count-is, more) (
            length-set lines n _ ∙ i.0,
            omega (arith, i.1, length-append taken (k ∷ [])),
            omega (arith, i.2),
            line_more lines n _ taken (omega (arith, i.0, i.2)) i.1 i.3,
            rows_more lines n _ (ap row (get_or_default lines n w.index-lines-count.result bare (omega (arith, i.0, i.2))) ∙ i.4 n) i.4,
          )
      | in-ReaderWriter w ↦ rw (w.lines-is, w.count-is, others_more rs p (Slots 0) there (row_is ∙ w.in-ReaderWriter.is)) (i.0, i.1, omega (arith, i.2), i.3, i.4)
    ]
