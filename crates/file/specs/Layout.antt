-- The layout of a table's file, over its bytes, and the rules that a lawful one keeps. Assumes nothing.
use Rattle.std.specs.Prelude.{ℕ, ◌+◌, ◌-◌, ◌*◌, ◌/◌, ◌%◌, cond, not, List, [], ◌∷◌, map, length, take, drop, Some, None, Option, ◌==◌, nat_lt, slice_index}
use Rattle.std.specs.List.{range_with_len}
use Rattle.std.specs.Option.{option_map}
use Rattle.routing.specs.declared.ends.Ends.{Ends}
use Rattle.file.specs.declared.layout.Layout.{Layout}
use Rattle.routing.specs.Firsts.{first_some}
use Rattle.routing.specs.Lawful.{outside, widths_refusal, ends_refusal}

-- the numbers of one, two and four bytes at a place, high byte first
abbrev pub byte : List ℕ → ℕ → ℕ
byte bs i = slice_index bs i

abbrev pub two : List ℕ → ℕ → ℕ
two bs i = byte bs i * 256 + byte bs (i + 1)

abbrev pub four : List ℕ → ℕ → ℕ
four bs i = byte bs i * 16777216 + byte bs (i + 1) * 65536 + byte bs (i + 2) * 256 + byte bs (i + 3)

-- the four bytes of a number, high byte first
abbrev pub four_bytes : ℕ → List ℕ
four_bytes n = (n / 16777216 % 256) ∷ (n / 65536 % 256) ∷ (n / 256 % 256) ∷ (n % 256) ∷ []

-- the n bytes at a place
abbrev pub part : ℕ → ℕ → List ℕ → List ℕ
part i n bs = take n (drop i bs)

-- what the header counts: the fields, and the rules
abbrev pub fields : List ℕ → ℕ
fields bs = byte bs 1

abbrev pub rules : List ℕ → ℕ
rules bs = two bs 4

-- what the header settles, with decisions of a size
abbrev pub layout_of : List ℕ → ℕ → Layout
layout_of bs size = record { fields = fields bs; rules = rules bs; size = size }

-- where the parts begin in a file of d fields and n rules, and where it ends
abbrev pub rows_at : ℕ → ℕ
rows_at d = 16 + d

abbrev pub low_at : ℕ → ℕ → ℕ
low_at d k = 16 + d + 8 * k

abbrev pub decisions_at : ℕ → ℕ → ℕ
decisions_at d n = 16 + d + 8 * (d * n)

abbrev pub file_length : ℕ → ℕ → ℕ → ℕ
file_length d n size = decisions_at d n + n * size

-- a byte for the width of each field
abbrev pub width_bytes : List ℕ → List ℕ
width_bytes bs = part 16 (fields bs) bs

-- the pair at a place, and the pair number k of the rows of d fields
abbrev pub pair_from : List ℕ → ℕ → Ends
pair_from bs at = record { low = four bs at; high = four bs (at + 4) }

abbrev pub pair : List ℕ → ℕ → ℕ → Ends
pair bs d k = pair_from bs (low_at d k)

-- the ends where there is no field
abbrev pub no_ends : Ends
no_ends = record { low = 0; high = 0 }

-- eight pairs, of which the first d are given
abbrev pub eight : ℕ → (ℕ → Ends) → List Ends
eight d f = map (λ k. cond (nat_lt k d) (f k) no_ends) (range_with_len 0 8)

-- the pairs of a rule, counted from 0
unfoldable pub row_of : List ℕ → ℕ → List Ends
row_of bs r = eight (fields bs) (λ k. pair bs (fields bs) (r * fields bs + k))

-- the first of two reasons
abbrev pub first_of : Option (ℕ × ℕ) → Option (ℕ × ℕ) → Option (ℕ × ℕ)
first_of None q = q
first_of (Some p) q = Some p

-- numbers 1 to 5: the header by itself, for decisions of the kind with a code
abbrev pub header_refusal : List ℕ → ℕ → Option (ℕ × ℕ)
header_refusal bs code =
    cond (nat_lt (length bs) 16) (Some (1, length bs))
    (cond (not (byte bs 0 == 1)) (Some (2, 0))
    (cond (not (byte bs 3 == 0)) (Some (2, 3))
    (cond (not (byte bs 6 == 0)) (Some (2, 6))
    (cond (not (byte bs 7 == 0)) (Some (2, 7))
    (cond (outside 1 8 (fields bs)) (Some (3, 1))
    (cond (not (byte bs 2 == code)) (Some (4, 2))
    (cond (nat_lt 512 (rules bs)) (Some (5, 4)) None)))))))

-- numbers 6 and 7: what the counts give, with decisions of a size
abbrev pub counts_refusal : List ℕ → ℕ → Option (ℕ × ℕ)
counts_refusal bs size =
    cond (not (four bs 8 == rows_at (fields bs))) (Some (6, 8))
    (cond (not (four bs 12 == decisions_at (fields bs) (rules bs))) (Some (6, 12))
    (cond (not (length bs == file_length (fields bs) (rules bs) size)) (Some (7, length bs)) None))

-- the first byte of the first ends of a rule, counted from 0, that make no interval of their field, which counts from 1
abbrev pub row_place : List ℕ → ℕ → Option ℕ
row_place bs r = option_map (λ field. low_at (fields bs) (r * fields bs + field) - 8) (ends_refusal (width_bytes bs) (row_of bs r))

-- the byte of a width in place of its field; how many fields there are keeps its place
abbrev pub at_byte : ℕ × ℕ → ℕ × ℕ
at_byte r = cond (r.0 == 8) (8, 15 + r.1) r

-- numbers 6 to 9; the header has settled that there are 1 to 8 fields
abbrev pub body_refusal : List ℕ → ℕ → Option (ℕ × ℕ)
body_refusal bs size =
    first_of (counts_refusal bs size)
    (first_of (option_map at_byte (widths_refusal (width_bytes bs))) (option_map (λ place. (9, place)) (first_some (row_place bs) (rules bs))))

-- Why a file is refused, by number and place: the first rule that it breaks. None for a lawful one.
unfoldable pub file_refusal : List ℕ → ℕ → ℕ → Option (ℕ × ℕ)
file_refusal bs code size = first_of (header_refusal bs code) (body_refusal bs size)
