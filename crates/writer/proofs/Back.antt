-- What was written is read again. Assumes nothing.
use Rattle.std.proofs.Common.{◌≡◌, ℕ, suc, ◌+◌, ◌-◌, ◌*◌, ◌^◌, ◌<◌, ◌≤◌, cond, not, ltb, List, ◌++◌, map, length, get_or, take, drop, None, sym, refl, ap, ◌∙◌, mul_assoc, mul_comm, arith, pow_mono}
use Rattle.std.specs.List.{range_with_len, flat_map}
use Rattle.std.specs.Option.{option_map}
use Rattle.std.proofs.lemmas.Nat.{div-add-mod', mul-le}
use Rattle.std.proofs.lemmas.List.FromFn.{get_or-map-range_with_len, fill_by_all}
use Rattle.std.proofs.lemmas.List.{append_assoc, length-append, length-map, take_at, get_or-take, get_or-map, length-take-le}
use Rattle.std.proofs.lemmas.Bool.{lt-ltb, and_parts, leb-true, ltb-true, not-false, or_parts, ltb-false, cond-true}
use Rattle.routing.specs.declared.ends.Ends.{Ends}
use Rattle.routing.specs.Firsts.{first_some}
use Rattle.routing.specs.Lawful.{widths_refusal, ends_refusal, ends_bad, fits, width_refusal, width_bad}
use Rattle.routing.specs.Space.{at}
use Rattle.routing.proofs.First.{none_all, none_below, none_from}
use Rattle.file.specs.Layout.{part, fields, rules, rows_at, low_at, decisions_at, file_length, width_bytes, pair, no_ends, eight, row_of, row_place, header_refusal, counts_refusal, body_refusal, file_refusal}
use Rattle.writer.specs.Stages.{put, ends_bytes, row_bytes, head_bytes, plan_fields, Planned}
use Rattle.writer.specs.declared.stage.Plan.{Plan}
use Rattle.writer.specs.declared.stage.Stage.{Stage}
use Rattle.writer.specs.declared.stage.Rows.{Rows}
use Rattle.writer.specs.declared.stage.Decisions.{Decisions}
use Rattle.file.specs.Contents.{blank, rows_of, decision_bytes}
use Rattle.writer.specs.Tables.{trimmed, rows_bytes, file_bytes, ReadsAs}
use Rattle.writer.proofs.Joins.{joined_split, joined_length, front_length, rows_length}
use Rattle.writer.proofs.Numbers.{four_back, pair_at}
use Rattle.file.proofs.Parts.{part_at, counted_items}
use Rattle.writer.proofs.Puts.{put_put}
use Rattle.writer.proofs.Steps.{stage_after}
use Rattle.file.proofs.Refused.{header_lawful, counts_lawful, by_body}
use Rattle.writer.proofs.Rooms.{eight_times}
use Rattle.file.proofs.Rows.{eight_same}
use Rattle.routing.proofs.Test.{widths_settled}

-- a row's pair at field k stands in its bytes with 8 * k bytes before it
row_split : (d : ℕ) (es : List Ends) (k : ℕ) → d ≤ length es → k < d
    → row_bytes d es ≡ flat_map ends_bytes (take k (take d es)) ++ (ends_bytes (at es k) ++ flat_map ends_bytes (drop (suc k) (take d es)))
row_split d es k l h =
    joined_split ends_bytes (take d es) k no_ends (omega (arith, length-take-le d es l))
    ∙ ap (λ e. flat_map ends_bytes (take k (take d es)) ++ (ends_bytes e ++ flat_map ends_bytes (drop (suc k) (take d es)))) (get_or-take d es k no_ends h)

regroup : (f a x y z b e : List ℕ) → f ++ ((a ++ ((x ++ (y ++ z)) ++ b)) ++ e) ≡ ((f ++ a) ++ x) ++ (y ++ (z ++ (b ++ e)))
regroup f a x y z b e = simp append_assoc

regroup_2 : (f r a y b : List ℕ) → f ++ (r ++ (a ++ (y ++ b))) ≡ ((f ++ r) ++ a) ++ (y ++ b)
regroup_2 f r a y b = simp append_assoc

-- the pairs of the first fields, trimmed or not, make the same intervals
pub trimmed_fits : (ws : List ℕ) (es : List Ends) → length ws ≤ 8 → ends_refusal ws es ≡ None → ends_refusal ws (trimmed (length ws) es) ≡ None
trimmed_fits ws es l e =
    none_from (ends_bad ws (trimmed (length ws) es)) suc (length ws)
    (λ k h.
    let same : at (trimmed (length ws) es) k ≡ at es k =
    get_or-map-range_with_len (λ j. cond (ltb j (length ws)) (at es j) no_ends) 0 8 k k no_ends (omega arith) (omega arith) ∙ cond-true _ _ no_ends (lt-ltb k (length ws) h)
    in
    ap (λ p. not (fits (get_or ws k 0) p)) same ∙ none_below (ends_bad ws es) suc (length ws) k h e)

module _ {K : Type 0} (written : K → List ℕ) (reading : List ℕ → K) (code size : ℕ) (ws : List ℕ) (rows : List (List Ends)) (ds : List K)
    (n-few : length rows ≤ 512) (paired : length rows ≡ length ds)
    (widths-fine : widths_refusal ws ≡ None)
    (eights : (k : ℕ) → k < length rows → length (get_or rows k blank) ≡ 8)
    (lawful : (k : ℕ) → k < length rows → ends_refusal ws (get_or rows k blank) ≡ None)
    (sized : (x : K) → length (written x) ≡ size) where
  some : 1 ≤ length ws
  some = (widths_settled ws widths-fine).0

  few : length ws ≤ 8
  few = (widths_settled ws widths-fine).1

  width_fine : width_refusal ws ≡ None
  width_fine = (widths_settled ws widths-fine).2

  abbrev d : ℕ
  d = length ws

  abbrev n : ℕ
  n = length rows

  abbrev front : List ℕ
  front = head_bytes d n code ++ ws

  abbrev file : List ℕ
  file = file_bytes written code ws rows ds

  file_is : file ≡ front ++ (rows_bytes d rows ++ flat_map written ds)
  unfolding file_bytes
  file_is = refl

  front_long : length front ≡ 16 + d
  front_long = omega arith

  row_long : (k : ℕ) → k < n → (x : List Ends) → length (row_bytes d (get_or rows k x)) ≡ 8 * d
  row_long = rows_length d rows n few (omega arith) eights

  pub rows_long : length (rows_bytes d rows) ≡ 8 * (d * n)
  rows_long = joined_length (row_bytes d) rows (8 * d) row_long ∙ mul_comm n (8 * d) ∙ mul_assoc 8 d n

  pub decisions_long : length (flat_map written ds) ≡ n * size
  decisions_long = joined_length written ds size (λ k h x. sized (get_or ds k x)) ∙ ap (λ m. m * size) (sym paired)

  pub file_long : length file ≡ file_length d n size
  file_long =
      ap length file_is
      ∙ length-append front (rows_bytes d rows ++ flat_map written ds)
      ∙ omega (arith, length-append (rows_bytes d rows) (flat_map written ds), rows_long, decisions_long, front_long)

  fields_back : fields file ≡ d
  unfolding file_bytes
  fields_back = refl

  rules_back : rules file ≡ n
  unfolding file_bytes
  rules_back = div-add-mod' n 256

  widths_back : width_bytes file ≡ ws
  unfolding file_bytes
  widths_back = take_at ws (rows_bytes d rows ++ flat_map written ds) d refl

  -- where a pair stands
  pair_place : (r k : ℕ) → r < n → k < d
      → (ps qs : List ℕ) × (file ≡ ps ++ (ends_bytes (at (get_or rows r blank) k) ++ qs)) × (length ps ≡ low_at d (r * d + k))
  pair_place r k h i =
      let es = get_or rows r blank in
      let a = flat_map (row_bytes d) (take r rows) in
      let b = flat_map (row_bytes d) (drop (suc r) rows) in
      let a' = flat_map ends_bytes (take k (take d es)) in
      let b' = flat_map ends_bytes (drop (suc k) (take d es)) in
      let one = ends_bytes (at es k) in
      let dec = flat_map written ds in
      let la : length a ≡ r * (8 * d) = front_length (row_bytes d) rows r (8 * d) (omega arith) (λ j l. row_long j (omega arith)) in
      let la' : length a' ≡ k * 8 = front_length ends_bytes (take d es) k 8 (omega (arith, length-take-le d es (omega (arith, eights r h, few)))) (λ _ _ _. refl) in
      let m = eight_times r d in (
        (front ++ a) ++ a',
        b' ++ (b ++ dec),
        file_is
            ∙ ap (λ l. front ++ (l ++ dec)) (joined_split (row_bytes d) rows r blank h)
            ∙ ap (λ l. front ++ ((a ++ (l ++ b)) ++ dec)) (row_split d es k (omega (arith, eights r h, few)) i)
            ∙ regroup front a a' one b' b dec,
        length-append (front ++ a) a' ∙ omega (arith, length-append front a, front_long),
      )

  -- a lawful row's ends are numbers of four bytes
  small_ends : (r k : ℕ) → r < n → k < d → ((at (get_or rows r blank) k).low < 4294967296) × ((at (get_or rows r blank) k).high < 4294967296)
  small_ends r k h i =
      let es = get_or rows r blank in
      let f = and_parts _ _ (not-false _ (none_below (ends_bad ws es) suc d k i (lawful r h))) in
      let w = or_parts _ _ (none_below (width_bad ws) suc d k i width_fine) in
      let few : get_or ws k 0 ≤ 32 = ltb-false _ _ w.1 in
      let p : 2 ^ get_or ws k 0 ≤ 2 ^ 32 = pow_mono few in
      let low : (at es k).low ≤ (at es k).high = leb-true _ _ f.0 in
      let high : (at es k).high < 2 ^ get_or ws k 0 = ltb-true _ _ f.1 in
      (omega arith, omega arith)

  pair_back : (r k : ℕ) → r < n → k < d → pair file d (r * d + k) ≡ at (get_or rows r blank) k
  pair_back r k h i =
      let p = pair_place r k h i in
      let s = small_ends r k h i in
      pair_at p.0 p.1 (at (get_or rows r blank) k) file d (r * d + k) s.0 s.1 p.2 p.3

  -- each row comes back, but for the pairs past the last field
  row_back : (r : ℕ) → r < n → row_of file r ≡ trimmed d (get_or rows r blank)
  unfolding row_of
  row_back r h =
      ap (λ m. eight m (λ k. pair file m (r * m + k))) fields_back
      ∙ eight_same d (λ k. pair file d (r * d + k)) (at (get_or rows r blank)) (λ k i. pair_back r k h i)

  rows_back : rows_of file ≡ map (trimmed d) rows
  rows_back =
      ap (λ m. map (row_of file) (range_with_len 0 m)) rules_back
      ∙ sym
      (fill_by_all (row_of file) (map (trimmed d) rows) n blank (length-map rows (trimmed d))
      (λ k h. get_or-map (trimmed d) rows k blank blank h ∙ sym (row_back k h)))

  -- each decision's bytes come back
  decision_back : (r : ℕ) (x : K) → r < n → decision_bytes file size r ≡ written (get_or ds r x)
  decision_back r x h =
      let a = flat_map written (take r ds) in
      let b = flat_map written (drop (suc r) ds) in
      let all = rows_bytes d rows in
      let one = written (get_or ds r x) in
      let la : length a ≡ r * size = front_length written ds r size (omega arith) (λ j l x. sized (get_or ds j x)) in
      let place : length ((front ++ all) ++ a) ≡ decisions_at d n + r * size =
      length-append (front ++ all) a ∙ omega (arith, length-append front all, front_long, rows_long)
      in
      ap (λ m. part (decisions_at m (rules file) + r * size) size file) fields_back
      ∙ ap (λ m. part (decisions_at d m + r * size) size file) rules_back
      ∙ ap (part (decisions_at d n + r * size) size) (file_is ∙ ap (λ l. front ++ (all ++ l)) (joined_split written ds r x (omega arith)) ∙ regroup_2 front all a one b)
      ∙ part_at ((front ++ all) ++ a) one b (decisions_at d n + r * size) size place (sized (get_or ds r x))

  header_back : header_refusal file code ≡ None
  unfolding file_bytes
  header_back =
      header_lawful file code
      (record {
        long = omega (arith, file_long);
        edition = refl;
        zero_3 = refl;
        zero_6 = refl;
        zero_7 = refl;
        some_fields = some;
        few_fields = few;
        kind = refl;
        few_rules = omega (arith, rules_back);
      })

  counts_back : counts_refusal file size ≡ None
  unfolding file_bytes
  counts_back =
      counts_lawful file size
      (record {
        rows = four_back (rows_at d) (omega (arith, few));
        decisions = four_back (decisions_at d n) (omega (arith, mul-le d n 8 512 few n-few, few)) ∙ ap (decisions_at d) (sym rules_back);
        long = file_long ∙ ap (λ m. file_length d m size) (sym rules_back);
      })

  rows_lawful : first_some (row_place file) (rules file) ≡ None
  rows_lawful =
      ap (first_some (row_place file)) rules_back
      ∙ none_all (row_place file) n
      (λ r h.
      let e : ends_refusal (width_bytes file) (row_of file r) ≡ None =
      ap (λ l. ends_refusal l (row_of file r)) widths_back ∙ ap (ends_refusal ws) (row_back r h) ∙ trimmed_fits ws (get_or rows r blank) few (lawful r h)
      in
      ap (option_map (λ field. low_at (fields file) (r * fields file + field) - 8)) e)

  pub lawful_back : file_refusal file code size ≡ None
  lawful_back = by_body file code size None (sym header_back) (sym body)
    where
      body : body_refusal file size ≡ None
      body = rw (counts_back, widths_back, widths-fine, rows_lawful)

  pub reads_back : ((k : ℕ) → k < length ds → (x : K) → reading (written (get_or ds k x)) ≡ get_or ds k x) → ReadsAs reading code size file ws rows ds
  reads_back kept =
      record {
        lawful = lawful_back;
        same_widths = widths_back;
        same_rows = rows_back;
        same_decisions =
            ap (λ m. map (λ r. reading (decision_bytes file size r)) (range_with_len 0 m)) (rules_back ∙ paired)
            ∙ sym (counted_items (λ r. reading (decision_bytes file size r)) ds (λ k h x. sym (ap reading (decision_back k x (omega arith)) ∙ kept k h x)));
      }

  -- a plan's stages put the whole file
  pub table_put : (p : Plan) → Planned ws n code size p → (s : Stage Rows) → s ≡ stage_after p 0 → (t : Stage Decisions) → t ≡ stage_after p 0
      → (out o₁ o₂ o₃ : List ℕ) → o₁ ≡ put 0 (head_bytes d p.rules p.code ++ ws) out
      → o₂ ≡ put (rows_at (plan_fields s.plan)) (rows_bytes (plan_fields s.plan) rows) o₁
      → o₃ ≡ put (decisions_at (plan_fields t.plan) t.plan.rules) (flat_map written ds) o₂ → file_length d n size ≤ length out
      → o₃ ≡ put 0 file out
  table_put p l s se t te out o₁ o₂ o₃ e₁ e₂ e₃ room =
      let all = rows_bytes d rows in
      let dec = flat_map written ds in
      let f₁ : o₁ ≡ put 0 front out = e₁ ∙ ap (λ m. put 0 (head_bytes d m p.code ++ ws) out) l.of_rules ∙ ap (λ m. put 0 (head_bytes d n m ++ ws) out) l.of_code in
      let f₂ : o₂ ≡ put (rows_at d) all o₁ =
      e₂ ∙ ap (λ x. put (rows_at (plan_fields x.plan)) (rows_bytes (plan_fields x.plan) rows) o₁) se ∙ ap (λ vs. put (rows_at (length vs)) (rows_bytes (length vs) rows) o₁) l.of_widths
      in
      let f₃ : o₃ ≡ put (decisions_at d n) dec o₂ =
      e₃
      ∙ ap (λ x. put (decisions_at (plan_fields x.plan) x.plan.rules) dec o₂) te
      ∙ ap (λ vs. put (decisions_at (length vs) p.rules) dec o₂) l.of_widths
      ∙ ap (λ m. put (decisions_at d m) dec o₂) l.of_rules
      in
      let long : length (front ++ all) ≡ decisions_at d n = length-append front all ∙ omega (arith, front_long, rows_long) in
      f₃
      ∙ ap (put (decisions_at d n) dec) (f₂ ∙ ap (put (rows_at d) all) f₁ ∙ put_put 0 (rows_at d) front all out (omega (arith, front_long)) (omega (arith, rows_long)))
      ∙ put_put 0 (decisions_at d n) (front ++ all) dec out (omega arith) (omega (arith, decisions_long))
      ∙ ap (λ l. put 0 l out) (append_assoc front all dec ∙ sym file_is)
