-- Whole tables written to a file. Assumes nothing.
use Rattle.std.specs.Prelude.{◌≡◌, ℕ, List, ◌++◌, map, length, Some, None, Option, slice_index_or}
use Rattle.std.specs.List.{flat_map}
use Rattle.std.specs.Option.{option_map}
use Rattle.routing.specs.declared.ends.Ends.{Ends}
use Rattle.routing.specs.declared.refusal.Refusal.{Refusal}
use Rattle.routing.specs.declared.refusal.Layer.TheVariants.{File, Writer}
use Rattle.routing.specs.Firsts.{first_some}
use Rattle.routing.specs.Lawful.{ends_refusal}
use Rattle.routing.specs.Refusals.{told_by}
use Rattle.routing.specs.Space.{at}
use Rattle.file.specs.Contents.{blank, rows_of, decisions_of}
use Rattle.file.specs.Layout.{eight, width_bytes, file_refusal, first_of}
use Rattle.writer.specs.Stages.{row_bytes, head_bytes, room_refusal, start_refusal}

-- the rows and the decisions of a file, one after another
abbrev pub rows_bytes : ℕ → List (List Ends) → List ℕ
rows_bytes d rows = flat_map (row_bytes d) rows

-- the file of a table, by how a decision is written
unfoldable pub file_bytes : {K : Type 0} → (K → List ℕ) → ℕ → List ℕ → List (List Ends) → List K → List ℕ
file_bytes written code ws rows decisions =
    (head_bytes (length ws) (length rows) code ++ ws) ++ (rows_bytes (length ws) rows ++ flat_map written decisions)

-- a reason of the reader, or else one of the writer
abbrev pub first_told : Option (ℕ × ℕ) → Option (ℕ × ℕ) → Option Refusal
first_told None o = option_map (told_by Writer) o
first_told (Some r) o = Some (told_by File r)

-- the first field of the first row whose ends make no interval of it
abbrev pub rows_refusal : List ℕ → List (List Ends) → Option ℕ
rows_refusal ws rows = first_some (λ r. ends_refusal ws (slice_index_or rows r blank)) (length rows)

-- writing a whole table, with decisions of a size: what a start refuses, and then 9
abbrev pub table_refusal : List ℕ → List (List Ends) → ℕ → ℕ → Option (ℕ × ℕ)
table_refusal ws rows size room =
    first_of (start_refusal ws (length rows) size room) (option_map (λ field. (9, field)) (rows_refusal ws rows))

-- why a file is not written again: it is not lawful, or there is no room for it
abbrev pub rewrite_refusal : List ℕ → ℕ → ℕ → ℕ → Option Refusal
rewrite_refusal bs code size room = first_told (file_refusal bs code size) (room_refusal (length bs) room)

-- the pairs of the first d fields, and none past them
abbrev pub trimmed : ℕ → List Ends → List Ends
trimmed d es = eight d (at es)

-- A file reads as a table: it is lawful, and has these widths, rules and decisions. Pairs past the last field are not kept.
pub record ReadsAs {K : Type 0} (reading : List ℕ → K) (code size : ℕ) (bs ws : List ℕ) (rows : List (List Ends)) (decisions : List K) : Type 0 where
  pub lawful : file_refusal bs code size ≡ None
  pub same_widths : width_bytes bs ≡ ws
  pub same_rows : rows_of bs ≡ map (trimmed (length ws)) rows
  pub same_decisions : decisions_of reading size bs ≡ decisions
