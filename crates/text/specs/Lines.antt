-- The lines of a text, each with its newline; a last one may lack it.
use Rattle.std.specs.Prelude.{◌≡◌, ℕ, ◌<◌, cond, not, List, [], ◌∷◌, ◌++◌, length, ◌==◌}
use Prim.Native.Char.{code}
use Rattle.std.specs.List.{prefix_len}

-- how many bytes stand before the first newline
abbrev pub before_newline : List ℕ → ℕ
before_newline bs = prefix_len (λ b. not (b == code "\n")) bs

-- a byte put in front of the first line
abbrev pub join_first : ℕ → List (List ℕ) → List (List ℕ)
join_first b [] = (b ∷ []) ∷ []
join_first b (l ∷ ls) = (b ∷ l) ∷ ls

abbrev pub lines_of : List ℕ → List (List ℕ)
lines_of [] = []
lines_of (b ∷ bs) = cond (b == code "\n") ((b ∷ []) ∷ lines_of bs) (join_first b (lines_of bs))

-- a text is its first line and the rest; an empty text has no line
abbrev pub CutsLine : List ℕ → List ℕ → List ℕ → Type 0
CutsLine [] line rest = (line ≡ []) × (rest ≡ [])
CutsLine (b ∷ bs) line rest =
    (b ∷ bs ≡ line ++ rest) × (0 < length line) × (lines_of (b ∷ bs) ≡ line ∷ lines_of rest)
