-- What a search among entries tells.
use Rattle.std.proofs.Common.{◌≡◌, ℕ, ◌+◌, ◌≤◌, Bool, true, false, cond, List, ◌++◌, length, take, remove, nat_lt, slice_index_or, append-nil, position, count_by, is_some, Some, None, refl, sym, ap, ◌∙◌, arith}
use Rattle.std.proofs.lemmas.Bool.{ltb-false}
use Rattle.std.proofs.lemmas.Bool.Decides.{nat_tests}
use Rattle.std.proofs.lemmas.List.{take_all, drop_all}
use Rattle.std.proofs.lemmas.List.Recursion.{is_position_or_len, is_count_by}
use Rattle.std.specs.List.{position_or_len, refill}
use Rattle.readers_writers.specs.Lines.{some, count_of, holder_of, mode_of, removed, passed, left, requests}
use Rattle.bank.proofs.Searches.{found_by, missing_by, some_if}
use Rattle.bank.specs.Lists.{is_holder}
use Rattle.readers_writers.proofs.Requests.{holder_entry}
use Rattle.readers_writers.specs.Places.{blank, place_of, parted}
use Rattle.readers_writers.proofs.PlacesLemmas.{place_some, removed_at, mode_at}
use Rattle.readers_writers.specs.declared.entry.Entry.{Entry}

module _ (f : Entry → Bool) where
  place_or_len : (es : List Entry) → place_of f es ≡ position_or_len f es
  place_or_len = is_position_or_len (place_of f) f refl (λ e es. let k : place_of f es + 1 ≡ 1 + place_of f es = omega arith in ap (λ k. cond (f e) 0 k) k)

  pub position_is : (es : List Entry) → position f es ≡ cond (some f es) (Some (place_of f es)) None
  position_is es = ap (λ k. cond (nat_lt k (length es)) (Some k) None) (sym (place_or_len es)) ∙ ap (λ b. cond b (Some (place_of f es)) None) (place_some f es)

  -- the place that a search finds, and what it tells if there is none
  pub found : (es : List Entry) (i : ℕ) → position f es ≡ Some i → (some f es ≡ true) × (i ≡ place_of f es)
  found es i e = found_by (some f es) (place_of f es) i (sym (position_is es) ∙ e)

  pub some_is : (es : List Entry) → is_some (position f es) ≡ some f es
  some_is es = ap is_some (position_is es) ∙ some_if (some f es) (place_of f es)

  pub missing : (es : List Entry) → position f es ≡ None → some f es ≡ false
  missing es e = missing_by (some f es) (place_of f es) (sym (position_is es) ∙ e)

  pub place_past : (es : List Entry) → some f es ≡ false → length es ≤ place_of f es
  place_past es z = ltb-false _ _ (place_some f es ∙ z)

  pub count_is : (es : List Entry) → count_by f es ≡ count_of f es
  count_is es = sym (is_count_by (count_of f) f refl (λ e es. grind (arith, nat_tests)) es)

-- a party holds where a holder of it is found
pub holds_at : (p : ℕ) (es : List Entry) → is_holder p (requests es) ≡ is_some (position (holder_of p) es)
holds_at p es = holder_entry p es ∙ sym (some_is (holder_of p) es)

-- the holder of a party is gone
pub parted_left : (p i : ℕ) (es : List Entry) → position (holder_of p) es ≡ Some i → parted es i ≡ left es p
parted_left p i es e =
    let w = found (holder_of p) es i e in
    let mode : mode_of p es ≡ (slice_index_or es i blank).mode = mode_at p es blank w.0 ∙ ap (λ j. (slice_index_or es j blank).mode) (sym w.1) in
    let gone : removed p es ≡ remove es i = removed_at p es w.0 ∙ ap (remove es) (sym w.1) in
    sym (ap (λ m. passed m (removed p es)) mode ∙ ap (passed (slice_index_or es i blank).mode) gone)

-- what is written over all of a list is what it then has
pub refilled : (es fs : List Entry) → length fs ≡ length es → refill (length es) es fs ≡ fs
refilled es fs e =
    ap (λ ys. take (length es) (fs ++ ys)) (drop_all (length fs) es (omega arith)) ∙ (ap (take (length es)) (append-nil fs) ∙ take_all (length es) fs (omega arith))
