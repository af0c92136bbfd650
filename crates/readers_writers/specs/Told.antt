-- What a bank of reader-writer resources tells of itself.
use Rattle.std.specs.Prelude.{ℕ, Bool, true, false, List}
use Rattle.std.specs.List.{count_by}
use Rattle.bank.specs.Questions.{Told}
use Rattle.plan.specs.Contents.{Contents, processors}
use Rattle.plan.specs.declared.resource.Resource.{Resource}
use Rattle.plan.specs.declared.resource.Resource.TheVariants.{ReaderWriter}
use Rattle.readers_writers.specs.Lines.{turn_limit}

-- which of a plan's resources it takes
abbrev pub is_reader_writer : Resource → Bool
is_reader_writer ReaderWriter = true
is_reader_writer _ = false

abbrev pub reader_writers_of : List Resource → ℕ
reader_writers_of rs = count_by is_reader_writer rs

-- so many resources, and m seats at each
abbrev pub told_with : ℕ → ℕ → Told
told_with count m =
    record {
      resources = count;
      seats = m;
      slots = λ _. 1;
      reads = λ _. true;
      limit = λ _. turn_limit m;
    }

-- of a plan its reader-writer resources are taken, with a seat for each processor
abbrev pub told_for : Contents → Told
told_for c = told_with (reader_writers_of c.resources) (processors c)
