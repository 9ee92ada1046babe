-- Lawful widths, messages and intervals, and the first place where they are not. Assumes nothing.
use Rattle.std.specs.Prelude.{ℕ, suc, ◌^◌, ◌<◌, ◌≤◌, Bool, cond, not, ◌&&◌, ◌||◌, List, length, Some, Option, nat_le, nat_lt, slice_index}
use Rattle.std.specs.Option.{option_map}
use Rattle.routing.specs.declared.ends.Ends.{Ends}
use Rattle.routing.specs.Firsts.{first_below}
use Rattle.routing.specs.Space.{at}

abbrev pub outside : ℕ → ℕ → ℕ → Bool
outside low high x = nat_lt x low || nat_lt high x

-- one to eight fields of 1 to 32 bits
abbrev pub Tested : List ℕ → Type 0
Tested ws = (1 ≤ length ws) × (length ws ≤ 8) × ((k : ℕ) → k < length ws → (1 ≤ slice_index ws k) × (slice_index ws k ≤ 32))

-- field k, counted from 0, has a width that is not 1 to 32
abbrev pub width_bad : List ℕ → ℕ → Bool
width_bad ws k = outside 1 32 (slice_index ws k)

-- the first such field, counted from 1
abbrev pub width_refusal : List ℕ → Option ℕ
width_refusal ws = first_below (width_bad ws) suc (length ws)

-- why widths are refused, by number and place: how many fields there are comes first
abbrev pub widths_refusal : List ℕ → Option (ℕ × ℕ)
widths_refusal ws = cond (outside 1 8 (length ws)) (Some (3, 1)) (option_map (λ field. (8, field)) (width_refusal ws))

-- place k, counted from 0, holds no value of its field; a place past the last field has the width 0
abbrev pub value_bad : List ℕ → List ℕ → ℕ → Bool
value_bad ws m k = not (nat_lt (slice_index m k) (2 ^ slice_index ws k))

-- the first such place, counted from 1
abbrev pub message_refusal : List ℕ → List ℕ → Option ℕ
message_refusal ws m = first_below (value_bad ws m) suc 8

-- ends that make an interval of a field: upward, and within the field's values
abbrev pub fits : ℕ → Ends → Bool
fits width e = nat_le e.low e.high && nat_lt e.high (2 ^ width)

-- the ends at field k, counted from 0, make no interval of it
abbrev pub ends_bad : List ℕ → List Ends → ℕ → Bool
ends_bad ws es k = not (fits (slice_index ws k) (at es k))

-- the first such field, counted from 1
abbrev pub ends_refusal : List ℕ → List Ends → Option ℕ
ends_refusal ws es = first_below (ends_bad ws es) suc (length ws)
