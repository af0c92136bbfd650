use Rattle.std.proofs.Common.{◌≡◌, ℕ, ◌+◌, ◌≤◌, List, [], ◌++◌, length, take, drop, sym, ap, ◌∙◌, append_assoc, add-zero, arith, length-append}
use Rattle.std.proofs.lemmas.List.{length-take-le, append-nil, take-append-drop, drop-drop, take_at, drop_at}
use Rattle.text.specs.Memory.{overlay}
use borrow.Rule.Slice.PartMut.{put_mid}

-- nothing written changes nothing
pub overlay_none : (xs : List ℕ) (at : ℕ) → overlay xs at [] ≡ xs
overlay_none xs at = ap (λ ys. ys ++ drop (at + 0) xs) (append-nil (take at xs)) ∙ ap (λ n. take at xs ++ drop n xs) (add-zero at) ∙ take-append-drop at xs

-- a part that is written as a whole
pub overlay_part : (xs : List ℕ) (at : ℕ) (ds : List ℕ) (k : ℕ) → k ≡ length ds → put_mid at k xs ds ≡ overlay xs at ds
overlay_part xs at ds k e =
    ap (λ n. take at xs ++ (ds ++ drop n (drop at xs))) e
    ∙ (ap (λ ys. take at xs ++ (ds ++ ys)) (drop-drop (length ds) at xs) ∙ sym (append_assoc (take at xs) ds (drop (at + length ds) xs)))

-- bytes written right behind others
pub overlay_more : (xs : List ℕ) (at : ℕ) (ds es : List ℕ) → at + length ds ≤ length xs → overlay (overlay xs at ds) (at + length ds) es ≡ overlay xs at (ds ++ es)
overlay_more xs at ds es h =
    let p : List ℕ = take at xs ++ ds in
    let q : List ℕ = drop (at + length ds) xs in
    let size : length p ≡ at + length ds = omega (arith, length-append (take at xs) ds, length-take-le at xs (omega arith)) in
    let far : (at + length ds) + length es ≡ at + length (ds ++ es) = omega (arith, length-append ds es) in
    let behind : drop ((at + length ds) + length es) (p ++ q) ≡ drop (at + length (ds ++ es)) xs = sym (drop-drop (length es) (at + length ds) (p ++ q)) ∙ (ap (drop (length es)) (drop_at p q (at + length ds) size) ∙ (drop-drop (length es) (at + length ds) xs ∙ ap (λ n. drop n xs) far)) in
    ap (λ ys. (ys ++ es) ++ drop ((at + length ds) + length es) (p ++ q)) (take_at p q (at + length ds) size)
    ∙ (ap (λ ys. (p ++ es) ++ ys) behind ∙ ap (λ ys. ys ++ drop (at + length (ds ++ es)) xs) (append_assoc (take at xs) ds es))
