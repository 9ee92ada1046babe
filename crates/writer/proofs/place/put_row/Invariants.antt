use Rattle.std.proofs.Common.{◌≡◌, take}
use Rattle.std.specs.List.{flat_map}
use Rattle.writer.specs.Stages.{put, ends_bytes}
use Rattle.writer.proofs.place.put_row.Given as goal

abbrev pub invariant-loop-k : goal.invariant-loop-k
invariant-loop-k l = l.out ≡ put l.at (flat_map ends_bytes (take l.k l.row)) l.initial.out
