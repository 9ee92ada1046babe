-- A lawful file, written again from what it holds, has the same bytes. Assumes nothing.
use Rattle.std.proofs.Common.{◌≡◌, ℕ, ◌+◌, ◌*◌, ◌/◌, ◌%◌, ◌<◌, false, cond, ltb, List, [], ◌∷◌, ◌++◌, length, Some, None, Option, sym, refl, ap, ◌∙◌, mul_assoc, mul_comm, zero-add, arith}
use Rattle.std.specs.List.{flat_map}
use Rattle.std.proofs.lemmas.Nat.{mul-add-lt}
use Rattle.std.proofs.lemmas.List.FromFn.{take-map-range_with_len, length-map-range_with_len, get_or-map-range_with_len}
use Rattle.std.proofs.lemmas.List.{take_all}
use Rattle.std.proofs.lemmas.Bool.{lt-ltb, le-ltb, cond-true}
use Rattle.routing.specs.declared.ends.Ends.{Ends}
use Rattle.std.specs.Option.{option_map}
use Rattle.routing.specs.Refusals.{told_by}
use Rattle.routing.specs.declared.refusal.Layer.TheVariants.{Writer}
use Rattle.routing.specs.Firsts.{first_some}
use Rattle.routing.specs.Lawful.{widths_refusal, ends_refusal}
use Rattle.routing.proofs.First.{mapped_none, none_all, some_none}
use Rattle.file.specs.Layout.{byte, four_bytes, part, fields, rules, rows_at, low_at, decisions_at, file_length, width_bytes, pair, no_ends, row_of, row_place, first_of, file_refusal}
use Rattle.writer.specs.Stages.{ends_bytes, row_bytes, head_bytes, room_refusal, start_refusal, put, changed}
use Rattle.file.specs.Contents.{blank, rows_of, decision_bytes, decisions_of}
use Rattle.writer.specs.Tables.{rows_bytes, file_bytes, rows_refusal, table_refusal, first_told, rewrite_refusal}
use Rattle.writer.proofs.Joins.{joined_parts}
use Rattle.writer.proofs.Numbers.{Bytes, four_again, ends_again, part_cells, part_bytes}
use Rattle.file.proofs.Parts.{part_more, length_part}
use Rattle.writer.proofs.Rooms.{eight_times, decision_room}
use Rattle.file.proofs.Refused.{Header, Counts, file_says}

first_last : (o : Option (ℕ × ℕ)) → first_of o None ≡ o
first_last None = refl
first_last (Some r) = refl

changed_mapped : (o : Option (ℕ × ℕ)) (before after : List ℕ) → changed (option_map (told_by Writer) o) before after ≡ changed o before after
changed_mapped None before after = refl
changed_mapped (Some r) before after = refl

module _ (bs : List ℕ) (code size : ℕ) (small : Bytes bs) (h : Header bs code) (k : Counts bs size) where
  abbrev d : ℕ
  d = fields bs

  abbrev n : ℕ
  n = rules bs

  -- the header
  head_again : head_bytes d n code ≡ part 0 16 bs
  head_again =
      let high : n / 256 ≡ byte bs 4 = omega (arith, small 5) in
      let low : n % 256 ≡ byte bs 5 = omega (arith, small 5) in
      let q0 : part 0 4 bs ≡ 1 ∷ d ∷ code ∷ 0 ∷ [] = part_cells bs 0 (omega (arith, h.long)) ∙ rw (h.edition, h.kind, h.zero_3) in
      let q1 : part 4 4 bs ≡ (n / 256) ∷ (n % 256) ∷ 0 ∷ 0 ∷ [] = part_cells bs 4 (omega (arith, h.long)) ∙ rw (h.zero_6, h.zero_7, high, low) in
      let q2 : part 8 4 bs ≡ four_bytes (rows_at d) = sym (four_again bs 8 small (omega (arith, h.long))) ∙ ap four_bytes k.rows in
      let q3 : part 12 4 bs ≡ four_bytes (decisions_at d n) = sym (four_again bs 12 small (omega (arith, h.long))) ∙ ap four_bytes k.decisions in
      rw (part_more 0 4 12 bs, q0, part_more 4 4 8 bs, q1, part_more 8 4 4 bs, q2, q3) refl

  -- a row
  row_again : (r : ℕ) → r < n → row_bytes d (row_of bs r) ≡ part (low_at d (r * d)) (8 * d) bs
  unfolding row_of
  row_again r i =
      let g : ℕ → Ends = λ j. cond (ltb j d) (pair bs d (r * d + j)) no_ends in
      ap (flat_map ends_bytes) (take-map-range_with_len g 0 8 d h.few_fields)
      ∙ joined_parts ends_bytes g (low_at d (r * d)) 8 bs d
      (λ j l.
      let at : low_at d (r * d + j) ≡ low_at d (r * d) + j * 8 = omega arith in
      ap ends_bytes (cond-true _ _ no_ends (lt-ltb j d l))
      ∙ ends_again bs d (r * d + j) small (omega (arith, k.long, mul-add-lt r d j n i l))
      ∙ ap (λ m. part m 8 bs) at)
      ∙ ap (λ m. part (low_at d (r * d)) m bs) (mul_comm d 8)

  -- all rows
  rows_again : rows_bytes d (rows_of bs) ≡ part (rows_at d) (8 * (d * n)) bs
  rows_again =
      joined_parts (row_bytes d) (row_of bs) (rows_at d) (8 * d) bs n (λ r i. row_again r i ∙ ap (λ m. part (rows_at d + m) (8 * d) bs) (sym (eight_times r d)))
      ∙ ap (λ m. part (rows_at d) m bs) (mul_comm n (8 * d) ∙ mul_assoc 8 d n)

-- a file whose header, counts, widths and rows are lawful is refused only for lack of room
only_room : (bs : List ℕ) (code size room : ℕ) → Header bs code → Counts bs size → widths_refusal (width_bytes bs) ≡ None → first_some (row_place bs) (rules bs) ≡ None
    → table_refusal (width_bytes bs) (rows_of bs) size room ≡ room_refusal (length bs) room
only_room bs code size room h k w r =
    let n = rules bs in
    let lw : length (width_bytes bs) ≡ fields bs = length_part 16 (fields bs) bs (omega (arith, k.long)) in
    let lr : length (rows_of bs) ≡ n = length-map-range_with_len (row_of bs) 0 n in
    let few : ltb 512 n ≡ false = le-ltb 512 n h.few_rules in
    let start : start_refusal (width_bytes bs) (length (rows_of bs)) size room ≡ room_refusal (length bs) room =
    rw (w, lr, few, lw) (ap (λ m. room_refusal m room) (sym k.long))
    in
    let rows : rows_refusal (width_bytes bs) (rows_of bs) ≡ None =
    none_all _ (length (rows_of bs))
    (λ j l.
    ap (ends_refusal (width_bytes bs)) (get_or-map-range_with_len (row_of bs) 0 n j j blank (omega arith) (omega arith))
    ∙ mapped_none _ (ends_refusal (width_bytes bs) (row_of bs j)) (some_none (row_place bs) n j (omega arith) r))
    in
    rw (start, rows) (first_last (room_refusal (length bs) room))

module _ {K : Type 0} (written : K → List ℕ) (reading : List ℕ → K) (bs : List ℕ) (code size : ℕ) (small : Bytes bs) (h : Header bs code) (k : Counts bs size)
    (again : (xs : List ℕ) → length xs ≡ size → Bytes xs → written (reading xs) ≡ xs) where
  -- all decisions
  decisions_again : flat_map written (decisions_of reading size bs) ≡ part (decisions_at (fields bs) (rules bs)) (rules bs * size) bs
  decisions_again =
      joined_parts written (λ r. reading (decision_bytes bs size r)) (decisions_at (fields bs) (rules bs)) size bs (rules bs)
      (λ r i.
      again (decision_bytes bs size r)
      (length_part _ size bs (decision_room (fields bs) (rules bs) size r (length bs) i (omega (arith, k.long))))
      (part_bytes bs _ size small))

  -- the whole file
  pub file_again : file_bytes written code (width_bytes bs) (rows_of bs) (decisions_of reading size bs) ≡ bs
  unfolding file_bytes
  file_again =
      let d = fields bs in
      let n = rules bs in
      let lw : length (width_bytes bs) ≡ d = length_part 16 d bs (omega (arith, k.long)) in
      let lr : length (rows_of bs) ≡ n = length-map-range_with_len (row_of bs) 0 n in
      let head : head_bytes (length (width_bytes bs)) (length (rows_of bs)) code ≡ part 0 16 bs = rw (lw, lr) (head_again bs code size small h k) in
      let rows : rows_bytes (length (width_bytes bs)) (rows_of bs) ≡ part (16 + d) (8 * (d * n)) bs = rw lw (rows_again bs code size small h k) in
      let decisions = decisions_again in
      let front : part 0 (16 + d) bs ≡ part 0 16 bs ++ width_bytes bs = part_more 0 16 d bs in
      let back : part (16 + d) (8 * (d * n) + n * size) bs ≡ part (16 + d) (8 * (d * n)) bs ++ part (decisions_at d n) (n * size) bs =
      part_more (16 + d) (8 * (d * n)) (n * size) bs
      in
      let both : part 0 (16 + d) bs ++ part (16 + d) (8 * (d * n) + n * size) bs ≡ bs =
      ap (λ m. part 0 (16 + d) bs ++ part m (8 * (d * n) + n * size) bs) (sym (zero-add (16 + d)))
      ∙ sym (part_more 0 (16 + d) (8 * (d * n) + n * size) bs)
      ∙ take_all (16 + d + (8 * (d * n) + n * size)) bs (omega (arith, k.long))
      in
      cc

  -- and it is refused only for lack of room
  pub rewritten : (room : ℕ) → widths_refusal (width_bytes bs) ≡ None → first_some (row_place bs) (rules bs) ≡ None
      → table_refusal (width_bytes bs) (rows_of bs) size room ≡ room_refusal (length bs) room
  rewritten room w r =
      only_room bs code size room h k w r

-- the bytes of what a lawful file holds are the file
pub bytes_again : {K : Type 0} (written : K → List ℕ) (reading : List ℕ → K) (size : ℕ) → ((xs : List ℕ) → length xs ≡ size → Bytes xs → written (reading xs) ≡ xs)
    → (bs : List ℕ) (code : ℕ) → file_refusal bs code size ≡ None → Bytes bs → file_bytes written code (width_bytes bs) (rows_of bs) (decisions_of reading size bs) ≡ bs
bytes_again written reading size again bs code lawful small =
    let s = file_says bs code size lawful in
    file_again written reading bs code size small s.0 s.1 again

-- why a lawful file is not written again
pub reason_again : (bs : List ℕ) (code size room : ℕ) → file_refusal bs code size ≡ None
    → rewrite_refusal bs code size room ≡ option_map (told_by Writer) (table_refusal (width_bytes bs) (rows_of bs) size room)
reason_again bs code size room lawful =
    let s = file_says bs code size lawful in
    ap (λ o. first_told o (room_refusal (length bs) room)) lawful
    ∙ ap (option_map (told_by Writer)) (sym (only_room bs code size room s.0 s.1 s.2 s.3))

-- and how long it is
pub long_again : (bs : List ℕ) (code size : ℕ) → file_refusal bs code size ≡ None → file_length (length (width_bytes bs)) (length (rows_of bs)) size ≡ length bs
long_again bs code size lawful =
    let s = file_says bs code size lawful in
    let lw : length (width_bytes bs) ≡ fields bs = length_part 16 (fields bs) bs (omega (arith, s.1.long)) in
    rw (lw, length-map-range_with_len (row_of bs) 0 (rules bs)) (sym s.1.long)

module _ {K : Type 0} (written : K → List ℕ) (reading : List ℕ → K) (bs ws out : List ℕ) (code size : ℕ) (small : Bytes bs)
    (again : (xs : List ℕ) → length xs ≡ size → Bytes xs → written (reading xs) ≡ xs)
    (lawful : file_refusal bs code size ≡ None) (q : ws ≡ width_bytes bs) where
  -- the reason to refuse a lawful file
  pub rewrite_reason : rewrite_refusal bs code size (length out) ≡ option_map (told_by Writer) (table_refusal ws (rows_of bs) size (length out))
  rewrite_reason = rw q (reason_again bs code size (length out) lawful)

  -- what the buffer then holds
  pub rewrite_after : (out' : List ℕ)
      → out' ≡ changed (table_refusal ws (rows_of bs) size (length out)) out (put 0 (file_bytes written code ws (rows_of bs) (decisions_of reading size bs)) out)
      → out' ≡ changed (rewrite_refusal bs code size (length out)) out (put 0 bs out)
  rewrite_after out' e =
      let same : file_bytes written code ws (rows_of bs) (decisions_of reading size bs) ≡ bs = rw q (bytes_again written reading size again bs code lawful small) in
      e
      ∙ ap (λ l. changed (table_refusal ws (rows_of bs) size (length out)) out (put 0 l out)) same
      ∙ sym (changed_mapped (table_refusal ws (rows_of bs) size (length out)) out (put 0 bs out))
      ∙ ap (λ o. changed o out (put 0 bs out)) (sym rewrite_reason)

  -- and its length
  pub rewrite_long : file_length (length ws) (length (rows_of bs)) size ≡ length bs
  rewrite_long = rw q (long_again bs code size lawful)
