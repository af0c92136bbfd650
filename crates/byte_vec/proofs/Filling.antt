-- What a change of the places does to the bytes, and that the places behind them are still 0.
use Rattle.std.specs.Prelude.{◌≡◌, ℕ, ◌+◌, ◌-◌, ◌<◌, ◌≤◌, List, ◌++◌, length, take, drop, replicate, slice_set, slice_index}
use Rattle.std.proofs.Common.{sym, ap, ◌∙◌, arith, ⊎_elim}
use Rattle.std.specs.List.{remove}
use Rattle.std.proofs.lemmas.List.{length-take-le, take-append-drop, length-append, length-drop, drop-replicate, drop-drop, get_or-take, ext_get_or, take-set}
use Rattle.std.proofs.lemmas.List.Edits.{length-remove, get_or-remove_below, get_or-remove_above}
use Rattle.std.proofs.lemmas.Slice.{take-put_mid, drop-put_mid}
use borrow.Rule.Slice.PartMut.{put_mid}
use Rattle.std.proofs.lemmas.Bool.{cases_lt}
use Rattle.byte_vec.specs.Filled.{Filled}

pub zeros_behind : (n : ℕ) (ps : List ℕ) (len k : ℕ) → Filled n ps len → drop (len + k) ps ≡ replicate (n - (len + k)) 0
zeros_behind n ps len k f = sym (drop-drop k len ps) ∙ (ap (λ xs. drop k xs) f.behind ∙ (drop-replicate k (n - len) 0 ∙ ap (λ m. replicate m 0) (omega arith)))

-- the bytes behind a place, one place further to the front, and the last place 0
module _ (n : ℕ) (ps qs : List ℕ) (len i : ℕ) (f : Filled n ps len) (l : i < len) (long : length qs ≡ length ps) (copied : (k : ℕ) → i ≤ k → k + 1 < len → slice_index qs k ≡ slice_index ps (k + 1)) (below : (k : ℕ) → k < i → slice_index qs k ≡ slice_index ps k) where
  pub taken_remove : take (len - 1) (slice_set qs (len - 1) 0) ≡ remove (take len ps) i
  taken_remove =
      let a : length (take len ps) ≡ len = length-take-le len ps (omega (arith, f.whole, f.within)) in
      let b : length (take (len - 1) qs) ≡ len - 1 = length-take-le (len - 1) qs (omega (arith, f.whole, f.within)) in
      let c = length-remove (take len ps) i (omega arith) in
      take-set qs (len - 1) 0
      ∙ ext_get_or 0 (take (len - 1) qs) (remove (take len ps) i) (omega arith)
      (λ k h.
      ⊎_elim
      (λ (g : k < i). get_or-take (len - 1) qs k 0 (omega arith) ∙ (below k g ∙ (sym (get_or-take len ps k 0 (omega arith)) ∙ sym (get_or-remove_below (take len ps) i 0 k g (omega arith)))))
      (λ (g : i ≤ k). get_or-take (len - 1) qs k 0 (omega arith) ∙ (copied k g (omega arith) ∙ (sym (get_or-take len ps (k + 1) 0 (omega arith)) ∙ sym (get_or-remove_above (take len ps) i 0 k g (omega arith)))))
      (cases_lt k i))

-- k places behind the bytes written with as many bytes
pub filled_more : (n : ℕ) (ps : List ℕ) (len k : ℕ) (bytes : List ℕ) → Filled n ps len → length bytes ≡ k → len + k ≤ n → Filled n (put_mid len k ps bytes) (len + k)
filled_more n ps len k bytes f l room =
    let t : take (len + k) (put_mid len k ps bytes) ≡ take len ps ++ bytes = take-put_mid len k ps bytes (len + k) (omega arith) (omega (arith, f.whole)) in
    let d : drop (len + k) (put_mid len k ps bytes) ≡ drop (len + k) ps = drop-put_mid len k ps bytes (len + k) (omega arith) (omega (arith, f.whole)) l in
    let whole : length (put_mid len k ps bytes) ≡ length (take len ps ++ bytes) + length (drop (len + k) ps) = ap length (sym (take-append-drop (len + k) (put_mid len k ps bytes))) ∙ (length-append (take (len + k) (put_mid len k ps bytes)) (drop (len + k) (put_mid len k ps bytes)) ∙ (ap (λ xs. length xs + length (drop (len + k) (put_mid len k ps bytes))) t ∙ ap (λ xs. length (take len ps ++ bytes) + length xs) d)) in
    record {
      whole = omega (arith, whole, length-append (take len ps) bytes, length-take-le len ps (omega (arith, f.whole, f.within)), length-drop (len + k) ps, f.whole);
      within = room;
      behind = d ∙ zeros_behind n ps len k f;
    }
