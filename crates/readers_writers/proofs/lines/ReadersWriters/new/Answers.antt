use Rattle.std.proofs.Common.{◌≡◌, ℕ, true, ◌+◌, ◌<◌, ◌≤◌, List, [], ◌∷◌, length, get_or, sum, sym, ap, refl, subst, arith}
use Rattle.std.proofs.lemmas.List.Sums.{sum_by-cons}
use Rattle.plan.proofs.Rows.{processors_few}
use Rattle.readers_writers.specs.Kept.{named, good}
use Rattle.readers_writers.specs.declared.line.Line.{Line}
use Rattle.readers_writers.specs.Limits.{list_of, bare, Keeping}
use Rattle.readers_writers.proofs.lines.ReadersWriters.new.Goals as goal

some_processor : (xs : List ℕ) → 0 < length xs → 1 ≤ get_or xs 0 0 → 1 ≤ sum xs
some_processor [] l h = absurd (omega arith)
some_processor (x ∷ xs) l h = let e : sum (x ∷ xs) ≡ x + sum xs = sum_by-cons (λ y. y) x xs in omega arith

keep_free : (m : ℕ) (l : Line) → list_of l ≡ [] → Keeping m l
keep_free m l e = (omega (arith, ap length e), subst (λ es. named es ≡ true) (sym e) refl, subst (λ es. good es ≡ true) (sym e) refl)

pub invariant_of-result : goal.invariant_of-result
invariant_of-result c =
    let t = c.args.plan.now.tables in
    let has = c.args.plan.now.has_cluster in
    let few = processors_few t.clusters t.few_clusters t.clusters_sized in
    let one = some_processor t.clusters has (t.clusters_sized 0 has).0 in
    let m = c.all_processors-seats.ensures in
    let few_lines = c.count_in-count.ensures.few in record {
      long = c.default.ensures.long;
      few = omega arith;
      seated = omega arith;
      most = omega arith;
      kept = λ r l. keep_free _ _ (c.default.ensures.at r bare (omega arith));
    }
