-- The wait limits of each resource, and the lines that tell them.
use Rattle.std.specs.Prelude.{ℕ, zero, suc, cond, List, [], ◌∷◌, ◌++◌, Some, None, codes, decimal, Option}
use Prim.Native.Char.{code}
use Rattle.bank.specs.Questions.{Told}
use Rattle.bank.specs.declared.request.Mode.TheVariants.{Write, Read}
use Rattle.plan.specs.Contents.{Contents}
use Rattle.rules.specs.Limits.{wait_limit}

-- the wait limit for R, where R is known
abbrev pub read_limit : Told → Contents → ℕ → Option ℕ
read_limit t c r = cond (t.reads r) (Some (wait_limit t c r Read)) None

abbrev pub read_field : Option ℕ → List ℕ
read_field None = codes "-\n"
read_field (Some n) = decimal n ++ codes "\n"

-- `B,` the resource `,` the limit for W `,` the limit for R or `-`
abbrev pub limit_line : ℕ → ℕ → Option ℕ → List ℕ
limit_line r w read =
    codes "B," ++ (decimal r ++ (code "," ∷ (decimal w ++ (code "," ∷ read_field read))))

abbrev pub line_of : Told → Contents → ℕ → List ℕ
line_of t c r = limit_line r (wait_limit t c r Write) (read_limit t c r)

-- the lines of the first n resources, and of all
abbrev pub lines_to : Told → Contents → ℕ → List ℕ
lines_to t c zero = []
lines_to t c (suc n) = lines_to t c n ++ line_of t c n

abbrev pub limits_text : Told → Contents → List ℕ
limits_text t c = lines_to t c t.resources
