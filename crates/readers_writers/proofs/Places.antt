-- The line at the place that a resource has.
use Rattle.std.proofs.Common.{◌≡◌, ℕ, ◌<◌, List, length, slice_index_or, ap, ◌∙◌}
use Rattle.std.proofs.lemmas.List.{get_or_default}
use Rattle.readers_writers.specs.Limits.{bare, list_of, entries_in}
use Rattle.readers_writers.specs.declared.line.Line.{Line}

pub line_at : (lines : List Line) (at r : ℕ) (d : Line) → r < length lines → at ≡ r → list_of (slice_index_or lines at d) ≡ entries_in lines r
line_at lines at r d l e = ap (λ i. list_of (slice_index_or lines i d)) e ∙ ap list_of (get_or_default lines r d bare l)
