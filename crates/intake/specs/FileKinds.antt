-- The kind of decision that a file says. Assumes nothing.
use Rattle.std.specs.Prelude.{ℕ, cond, List, ◌==◌, slice_index}
use Rattle.intake.specs.declared.FileKind.{FileKind}
use Rattle.intake.specs.declared.FileKind.TheVariants.{Queues, Handlings}

-- byte 2 says it; any other number than that of handlings is for the reader of queues to judge
abbrev pub kind_of : List ℕ → FileKind
kind_of bs = cond (slice_index bs 2 == 2) Handlings Queues
