-- A whole input from a reader, and what was appended to a writer.
use Rattle.std.specs.Prelude.{◌≡◌, ◌≢◌, ◌⊎◌, ℕ, ◌+◌, ◌≤◌, List, ◌++◌, length, IfSome, Option}
use Rattle.std.specs.Io.{StartsWith}
use Rattle.std.specs.Io.KnownBytes.{Appends, Consumes, IsAtEnd}
use Rattle.std.specs.IoError.{error_kind}
use Rattle.std.specs.declared.io.Error.{Error}
use Rattle.std.specs.declared.io.ErrorKind.TheVariants.{Interrupted}
use Rattle.dry_run.specs.Fed.{Fed}
use Rattle.dry_run.specs.Plays.{Printed, SettledBy}
use Rattle.dry_run.specs.Said.{GoesOn}
use Rattle.dry_run.specs.declared.run.DryRun.{DryRun}

-- where the bytes of a reader are known, its input is they
abbrev pub Has : Option (List ℕ) → List ℕ → Type 0
Has before input = IfSome before (λ bytes. bytes ≡ input)

-- no more is read than is needed: behind all of it but one piece, more might have been printed
pub record ReadsAsNeeded (read : List ℕ) : Type 0 where
  pub ahead : List ℕ
  pub front : StartsWith read ahead
  pub goes_on : GoesOn ahead
  pub piece : length read ≤ length ahead + 4096

-- what is printed of all that a reader had was appended to what a writer held. Nothing else can be
-- printed of it. All of it was read, or what was read settles what is printed
pub record Played (before after old new : Option (List ℕ)) : Type 0 where
  pub input : List ℕ
  pub has : Has before input
  pub read : List ℕ
  pub front : StartsWith input read
  pub consumed : Consumes before after read
  pub needed : ReadsAsNeeded read
  pub printed : List ℕ
  pub ended : (IsAtEnd after × (read ≡ input)) ⊎ SettledBy read printed
  pub appended : Appends old new printed
  pub answers : Printed input printed
  pub only : (other : List ℕ) → Printed input other → other ≡ printed

-- some of what a reader had was read, and what was appended is the front of whatever can be
-- printed of all that it had
pub record PlayedInPart (before after old new : Option (List ℕ)) : Type 0 where
  pub input : List ℕ
  pub has : Has before input
  pub read : List ℕ
  pub consumed : Consumes before after read
  pub needed : ReadsAsNeeded read
  pub written : List ℕ
  pub appended : Appends old new written
  pub front : (whole : List ℕ) → Printed input whole → StartsWith whole written

-- the front of these bytes was appended
abbrev pub AppendsFront : Option (List ℕ) → Option (List ℕ) → List ℕ → Type 0
AppendsFront old new bytes =
    (written : List ℕ) × StartsWith bytes written × Appends old new written

-- a dry run took a piece of the input, and what is printed of it was appended, or its front
pub record Goes (d d' : DryRun) (piece : List ℕ) (old new : Option (List ℕ)) : Type 0 where
  pub printed : List ℕ
  pub appended : Appends old new printed
  pub law : (input out : List ℕ) → Fed d input out → Fed d' (input ++ piece) (out ++ printed)

pub record Stops (d d' : DryRun) (piece : List ℕ) (old new : Option (List ℕ)) : Type 0 where
  pub printed : List ℕ
  pub appended : AppendsFront old new printed
  pub law : (input out : List ℕ) → Fed d input out → Fed d' (input ++ piece) (out ++ printed)

-- the input of a dry run is over, and what is then printed was appended, or its front
pub record Finishes (d : DryRun) (old new : Option (List ℕ)) : Type 0 where
  pub printed : List ℕ
  pub appended : Appends old new printed
  pub answers : (input out : List ℕ) → Fed d input out → Printed input (out ++ printed)
  pub only : (input out other : List ℕ) → Fed d input out → Printed input other →
      other ≡ out ++ printed

pub record Breaks (d : DryRun) (old new : Option (List ℕ)) : Type 0 where
  pub printed : List ℕ
  pub appended : AppendsFront old new printed
  pub only : (input out other : List ℕ) → Fed d input out → Printed input other →
      other ≡ out ++ printed

-- an interrupted read or write is tried again, and is no error
abbrev pub NotInterrupted : Error → Type 0
NotInterrupted e = error_kind e ≢ Interrupted
