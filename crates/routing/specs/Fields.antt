-- The widths that a `Widths` holds. Assumes nothing.
use Rattle.std.specs.Prelude.{ℕ, List}
use Rattle.routing.specs.Packing.{unpacked}
use Rattle.routing.specs.declared.widths.Widths.{Widths}

abbrev pub widths_of : Widths → List ℕ
widths_of w = unpacked w.number
