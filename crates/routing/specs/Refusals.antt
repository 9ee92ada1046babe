-- What a refusal tells. Assumes nothing.
use Rattle.std.specs.Prelude.{ℕ}
use Rattle.routing.specs.declared.refusal.Layer.{Layer}
use Rattle.routing.specs.declared.refusal.Refusal.{Refusal}
use Rattle.routing.specs.declared.widths.WidthsFault.{WidthsFault}
use Rattle.routing.specs.declared.widths.WidthsFault.TheVariants.{Fields, Width}

-- a reason, by number and place, as a layer tells it
abbrev pub told_by : Layer → ℕ × ℕ → Refusal
told_by l r = record { layer = l; number = r.0; place = r.1 }

-- the number and the place of each fault of widths
abbrev pub widths_reason : WidthsFault → ℕ × ℕ
widths_reason Fields = (3, 1)
widths_reason (Width field) = (8, field)
