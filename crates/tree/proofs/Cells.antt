-- The turns of a walk over the cells. Assumes nothing.
use Rattle.std.proofs.Common.{◌≡◌, ℕ, zero, suc, ◌+◌, ◌-◌, ◌<◌, ◌≤◌, true, false, List, [], ◌∷◌, ◌++◌, map, length, get_or, slice_get, Some, take, drop, set, replicate, sym, refl, ap, ◌∙◌, subst, ap₂, append_assoc, append-nil, arith}
use Rattle.std.proofs.lemmas.List.{get_or-set_other, take_more, drop_more, get_or-set_same, drop_all, map-append}
use Rattle.std.proofs.lemmas.Bool.{cond-true, cond-false}
use Rattle.shape.specs.Shapes.{Label, piece, Shape, bare, part}
use Rattle.shape.specs.Meaning.{within, box_of, Cell, cells, marks_in}
use Rattle.tree.specs.Memory.{in_use}
use Rattle.tree.specs.Links.{Records, item, shape}
use Rattle.tree.specs.Reads.{Stood}
use Rattle.tree.specs.Tours.{top_box, later, boxes, Stack, waiting, Touring, Below, Reached}
use Rattle.tree.specs.declared.records.Store.{Store}
use Rattle.routing.specs.declared.ends.Ends.{Ends}
use Rattle.tree.specs.declared.records.Branch.{Branch}
use Rattle.tree.proofs.Frames.{Found, branch_inside, found_branch, empty}
use Rattle.tree.proofs.Recovers.{read_at, read_is}
use Rattle.tree.proofs.Reading.{at_record, stood_below, stood_rest}

-- how many turns a walk takes in a node with d fields left
abbrev pub work : ℕ → Shape → ℕ
work zero sh = 0
work (suc d) bare = 1
work (suc d) (part l below rest) = 1 + work d below + work (suc d) rest

-- by its first branch
work_part : (d : ℕ) (l : Label) (b r : Shape) → 0 < d → work d (part l b r) ≡ 1 + work (d - 1) b + work d r
work_part zero l b r h = absurd (omega arith)
work_part (suc d) l b r h = ap (λ n. 1 + work n b + work (suc d) r) (let e : d ≡ suc d - 1 = omega arith in e)

-- an empty node takes one turn
work_bare : (d : ℕ) → 0 < d → work d bare ≡ 1
work_bare zero h = absurd (omega arith)
work_bare (suc d) h = refl

-- and for what waits
abbrev to_do : ℕ → List Records → ℕ
to_do d [] = 0
to_do d (r ∷ rs) = work (d - length rs) (later (shape r)) + to_do d rs

-- the same, as the records have it
abbrev pub waits : (n : ℕ) → Store → (d : ℕ) (path : List ℕ) → ℕ → ℕ
waits n s d path zero = 0
waits n s d path (suc j) = work (d - j) (later (shape (read_at n s (d - j) (get_or path j 0)))) + waits n s d path j

-- a tree that stands is read off
read_stood : (s : Store) (d at : ℕ) (t : Records) → Stood s d at t → read_at (in_use s) s d at ≡ t
read_stood s d at t S = ap (read_at (in_use s) s d) (sym S.from) ∙ read_is (in_use s) s d t S.stands.holds S.steps

-- what waits is read off too
waits_is : (s : Store) (d : ℕ) (path lows : List ℕ) (rs : List Records) → Stack s d path lows rs → waits (in_use s) s d path (length rs) ≡ to_do d rs
waits_is s d path lows [] h = refl
waits_is s d path lows (r ∷ rs) h =
    ap₂ (λ t n. work (d - length rs) (later (shape t)) + n) (read_stood s (d - length rs) (get_or path (length rs) 0) r h.0) (waits_is s d path lows rs h.3)

-- a change of the path past a stack
stack_kept : (s : Store) (d : ℕ) (path lows : List ℕ) (j v w : ℕ) (rs : List Records) → length rs ≤ j → Stack s d path lows rs → Stack s d (set path j v) (set lows j w) rs
stack_kept s d path lows j v w [] le h = h
stack_kept s d path lows j v w (r ∷ rs) le h =
    let e : get_or (set path j v) (length rs) 0 ≡ get_or path (length rs) 0 = get_or-set_other path j (length rs) v 0 (λ z. omega arith) in
    let f : get_or (set lows j w) (length rs) 0 ≡ get_or lows (length rs) 0 = get_or-set_other lows j (length rs) w 0 (λ z. omega arith) in (
      subst (λ n. Stood s (d - length rs) n r) (sym e) h.0,
      omega (arith, e, h.1),
      f ∙ h.2,
      stack_kept s d path lows j v w rs (omega arith) h.3,
    )

-- the low ends that the path has
pub lows_are : (s : Store) (d : ℕ) (path lows : List ℕ) (rs : List Records) → length rs ≤ length lows → Stack s d path lows rs → take (length rs) lows ≡ map (λ e. e.low) (boxes rs)
lows_are s d path lows [] le h = refl
lows_are s d path lows (r ∷ rs) le h =
    ap (λ n. take n lows) (let z : suc (length rs) ≡ length rs + 1 = omega arith in z)
    ∙ take_more lows (length rs) 0 (omega arith)
    ∙ ap₂ (λ xs x. xs ++ x ∷ []) (lows_are s d path lows rs (omega arith) h.3) h.2
    ∙ sym (map-append (λ e. e.low) (boxes rs) (top_box r ∷ []))

-- The cells of a node with fields left: by its first branch.
module _ (es : List Ends) (k : ℕ) (lt : k < length es) (pre : List Ends) where
  -- the interval of the field
  abbrev ends : Ends
  ends = get_or es k (record { low = 0; high = 0 })

  -- an empty node has no cells
  none_there : cells (drop k es) pre bare ≡ []
  none_there = ap (λ xs. cells xs pre bare) (drop_more es k (record { low = 0; high = 0 }) lt)

  -- a branch within the interval has those below it
  cells_in : (l : Label) (b r : Shape) → within ends l ≡ true → cells (drop k es) pre (part l b r) ≡ cells (drop (k + 1) es) (pre ++ box_of l ∷ []) b ++ cells (drop k es) pre r
  cells_in l b r e =
      let D = drop_more es k (record { low = 0; high = 0 }) lt in
      ap (λ xs. cells xs pre (part l b r)) D
      ∙ ap (λ cs. cs ++ cells (ends ∷ drop (k + 1) es) pre r) (cond-true _ _ _ e)
      ∙ ap (λ xs. cells (drop (k + 1) es) (pre ++ box_of l ∷ []) b ++ cells xs pre r) (sym D)

  -- one outside has none
  cells_out : (l : Label) (b r : Shape) → within ends l ≡ false → cells (drop k es) pre (part l b r) ≡ cells (drop k es) pre r
  cells_out l b r e =
      let D = drop_more es k (record { low = 0; high = 0 }) lt in
      ap (λ xs. cells xs pre (part l b r)) D
      ∙ ap (λ cs. cs ++ cells (ends ∷ drop (k + 1) es) pre r) (cond-false _ _ _ e)
      ∙ ap (λ xs. cells xs pre r) (sym D)

-- the turns that are left
abbrev measure : {s : Store} {es : List Ends} {path lows : List ℕ} {k at : ℕ} {cs : List Cell} → Touring s es path lows k at cs → ℕ
measure {es = es} T = work (length es - length T.stack) (shape T.node) + to_do (length es) T.stack

-- as the records have them
abbrev pub turns : Store → (d : ℕ) (path : List ℕ) (k at : ℕ) → ℕ
turns s d path k at = work (d - k) (shape (read_at (in_use s) s (d - k) at)) + waits (in_use s) s d path k

-- the records tell the turns that are left
turns_are : {s : Store} {es : List Ends} {path lows : List ℕ} {k at : ℕ} {cs : List Cell} (T : Touring s es path lows k at cs) → turns s (length es) path k at ≡ measure T
turns_are {s} {es} {path} {lows} {k} {at} T =
    ap (λ j. turns s (length es) path j at) (sym T.height)
    ∙ ap₂ (λ t n. work (length es - length T.stack) (shape t) + n) (read_stood s (length es - length T.stack) at T.node T.stood) (waits_is s (length es) path lows T.stack T.above)

module _ {s : Store} {es : List Ends} {path lows : List ℕ} {k at : ℕ} {cs : List Cell} (T : Touring s es path lows k at cs) where
  module _ (lt : k < length es) where
    -- a field is left
    more : length T.stack < length es
    more = omega (arith, T.height)

    -- the branch at `at` lies in its slice
    pub there : (at ≡ 0xffff_ffff → ⊥) → at < length s.branches.records.now
    there ne =
        let m = more in
        branch_inside s (length es - length T.stack) at T.node T.stood.from ne T.stood.stands (λ z. omega arith)

    -- what was read there
    pub seen : {b : Branch} → (at ≡ 0xffff_ffff → ⊥) → slice_get s.branches.records.now at ≡ Some b → Found at (piece b.low b.high) b.below b.next T.node
    seen ne read =
        let m = more in
        found_branch s (length es - length T.stack) at T.node T.stood.from ne T.stood.stands.holds (λ z. omega arith) read

    module _ {l : Label} {bel next : ℕ} (F : Found at l bel next T.node) where
      parted : cells (drop (length T.stack) es) (boxes T.stack) (part l (shape F.below) (shape F.rest)) ++ waiting es T.stack ≡ cs
      parted = ap (λ t. cells (drop (length T.stack) es) (boxes T.stack) (shape t) ++ waiting es T.stack) (sym F.is) ∙ T.come

      spent : measure T ≡ 1 + work (length es - length T.stack - 1) (shape F.below) + work (length es - length T.stack) (shape F.rest) + to_do (length es) T.stack
      spent =
          let m = more in
          ap (λ t. work (length es - length T.stack) (shape t) + to_do (length es) T.stack) F.is
          ∙ ap (λ n. n + to_do (length es) T.stack) (work_part (length es - length T.stack) l (shape F.below) (shape F.rest) (omega arith))

      -- over a branch that lies outside
      pub pass : within (get_or es k (record { low = 0; high = 0 })) l ≡ false → (U : Touring s es path lows k next cs) × (turns s (length es) path k next < turns s (length es) path k at)
      pass out =
          let out' = subst (λ j. within (get_or es j (record { low = 0; high = 0 })) l ≡ false) (sym T.height) out in
          let U : Touring s es path lows k next cs =
          record {
            node = F.rest;
            stack = T.stack;
            height = T.height;
            stood = stood_rest T.stood F;
            above = T.above;
            come = ap (λ xs. xs ++ waiting es T.stack) (sym (cells_out es (length T.stack) more (boxes T.stack) l (shape F.below) (shape F.rest) out')) ∙ parted;
          } in
          (U, omega (arith, turns_are T, turns_are U, spent))

      -- down, to what is below a branch that lies inside
      pub down :
          k < length path → k < length lows → within (get_or es k (record { low = 0; high = 0 })) l ≡ true
          → (U : Touring s es (set path k at) (set lows k (box_of l).low) (k + 1) bel cs) × (turns s (length es) (set path k at) (k + 1) bel < turns s (length es) path k at)
      down long long' ins =
          let m = more in
          let n = length T.stack in
          let ins' = subst (λ j. within (get_or es j (record { low = 0; high = 0 })) l ≡ true) (sym T.height) ins in
          let g : get_or (set path k at) n 0 ≡ at = ap (get_or (set path k at) n) refl ∙ ap (λ j. get_or (set path k at) j 0) T.height ∙ get_or-set_same path k at 0 long in
          let r = item at l F.below F.rest in
          let a : length es - n - 1 ≡ length es - suc n = omega arith in
          let U : Touring s es (set path k at) (set lows k (box_of l).low) (k + 1) bel cs =
          record {
            node = F.below;
            stack = r ∷ T.stack;
            height = omega (arith, T.height);
            stood = subst (λ j. Stood s j bel F.below) a (stood_below T.stood F);
            above = (
              subst (λ j. Stood s (length es - n) j r) (sym g) (at_record T.stood F),
              omega (arith, g, (at_record T.stood F).stands.holds.0),
              ap (λ j. get_or (set lows k (box_of l).low) j 0) T.height ∙ get_or-set_same lows k (box_of l).low 0 long',
              stack_kept s (length es) path lows k at (box_of l).low T.stack (omega (arith, T.height)) T.above,
            );
            come =
                ap (λ j. cells (drop j es) (boxes (r ∷ T.stack)) (shape F.below) ++ (cells (drop n es) (boxes T.stack) (shape F.rest) ++ waiting es T.stack)) (let z : suc n ≡ n + 1 = omega arith in z)
                ∙ sym (append_assoc (cells (drop (n + 1) es) (boxes (r ∷ T.stack)) (shape F.below)) (cells (drop n es) (boxes T.stack) (shape F.rest)) (waiting es T.stack))
                ∙ ap (λ xs. xs ++ waiting es T.stack) (sym (cells_in es n m (boxes T.stack) l (shape F.below) (shape F.rest) ins'))
                ∙ parted;
          } in
          (U, omega (arith, turns_are T, turns_are U, spent, ap (λ j. work j (shape F.below)) a))

    -- an empty node has no cells
    pub emptied : at ≡ 0xffff_ffff → waiting es T.stack ≡ cs
    emptied e =
        ap (λ xs. xs ++ waiting es T.stack) (sym (none_there es (length T.stack) more (boxes T.stack)))
        ∙ ap (λ t. cells (drop (length T.stack) es) (boxes T.stack) (shape t) ++ waiting es T.stack) (sym (empty s (length es - length T.stack) T.node T.stood.stands.holds (T.stood.from ∙ e)))
        ∙ T.come

  -- with a branch for each field it is a cell
  pub at_cell : k ≡ length es → record { box = boxes T.stack; marks = marks_in (shape T.node) } ∷ waiting es T.stack ≡ cs
  at_cell e =
      ap (λ xs. cells xs (boxes T.stack) (shape T.node) ++ waiting es T.stack) (sym (drop_all (length T.stack) es (omega (arith, T.height)))) ∙ T.come

-- Up, and on to what comes after the branch above.
module _ (s : Store) (es : List Ends) (path lows : List ℕ) where
  -- the branch above lies in its slice
  pub top_there : (rs : List Records) → Stack s (length es) path lows rs → length rs ≤ length es → 0 < length rs → get_or path (length rs - 1) 0 < length s.branches.records.now
  top_there [] A le pos = absurd (omega arith)
  top_there (r ∷ rs) A le pos =
      let z : suc (length rs) - 1 ≡ length rs = omega arith in
      subst (λ j. get_or path j 0 < length s.branches.records.now) (sym z)
      (branch_inside s (length es - length rs) (get_or path (length rs) 0) r A.0.from (λ z. omega (arith, A.1)) A.0.stands (λ z. omega arith))

  -- after it comes the next one
  pub up :
      (cs : List Cell) (b : Branch) (rs : List Records) → Stack s (length es) path lows rs → length rs ≤ length es → 0 < length rs → waiting es rs ≡ cs
      → slice_get s.branches.records.now (get_or path (length rs - 1) 0) ≡ Some b
      → (U : Touring s es path lows (length rs - 1) b.next cs) × (turns s (length es) path (length rs - 1) b.next ≡ to_do (length es) rs)
  up cs b [] A le pos come read = absurd (omega arith)
  up cs b (r ∷ rs) A le pos come read =
      let d = length es - length rs in
      let i = get_or path (length rs) 0 in
      let z : suc (length rs) - 1 ≡ length rs = omega arith in
      let read' = subst (λ j. slice_get s.branches.records.now (get_or path j 0) ≡ Some b) z read in
      let F = found_branch s d i r A.0.from (λ z. omega (arith, A.1)) A.0.stands.holds (λ z. omega arith) read' in
      let e : later (shape r) ≡ shape F.rest = ap (λ t. later (shape t)) F.is in
      let U : Touring s es path lows (suc (length rs) - 1) b.next cs =
      record {
        node = F.rest;
        stack = rs;
        height = sym z;
        stood = stood_rest A.0 F;
        above = A.3;
        come = ap (λ sh. cells (drop (length rs) es) (boxes rs) sh ++ waiting es rs) (sym e) ∙ come;
      } in
      (U, turns_are U ∙ ap (λ sh. work d sh + to_do (length es) rs) (sym e))

module _ {s : Store} {es : List Ends} {path lows : List ℕ} {k at : ℕ} {cs : List Cell} (T : Touring s es path lows k at cs) where
  -- the same from an empty node, below k branches
  module _ (lt : k < length es) (pos : 0 < k) where
    -- the branch above lies in its slice
    pub rise_there : get_or path (k - 1) 0 < length s.branches.records.now
    rise_there =
        subst (λ j. get_or path (j - 1) 0 < length s.branches.records.now) T.height (top_there s es path lows T.stack T.above (omega (arith, T.height)) (omega (arith, T.height)))

    -- the walk goes on after it, with a turn less
    pub rise :
        {b : Branch} → at ≡ 0xffff_ffff → slice_get s.branches.records.now (get_or path (k - 1) 0) ≡ Some b
        → (U : Touring s es path lows (k - 1) b.next cs) × (turns s (length es) path (k - 1) b.next < turns s (length es) path k at)
    rise {b} e read =
        let h = T.height in
        let (U, less) = up s es path lows cs b T.stack T.above (omega arith) (omega arith) (emptied T lt e) (subst (λ j. slice_get s.branches.records.now (get_or path (j - 1) 0) ≡ Some b) (sym h) read) in
        let one-turn : measure T ≡ 1 + to_do (length es) T.stack =
        ap (λ t. work (length es - length T.stack) (shape t) + to_do (length es) T.stack) (empty s (length es - length T.stack) T.node T.stood.stands.holds (T.stood.from ∙ e))
        ∙ ap (λ n. n + to_do (length es) T.stack) (work_bare (length es - length T.stack) (omega arith)) in
        let same : turns s (length es) path (length T.stack - 1) b.next ≡ turns s (length es) path (k - 1) b.next = ap (λ j. turns s (length es) path (j - 1) b.next) h in
        (subst (λ j. Touring s es path lows (j - 1) b.next cs) h U, omega (arith, less, one-turn, same, turns_are T))

  -- above an empty root nothing waits
  pub ended : k ≡ 0 → 0 < length es → at ≡ 0xffff_ffff → cs ≡ []
  ended z pos e = sym (emptied T (omega arith) e) ∙ ap (waiting es) (no_stack T.stack (T.height ∙ z))
    where
      no_stack : (rs : List Records) → length rs ≡ 0 → rs ≡ []
      no_stack [] h = refl
      no_stack (r ∷ rs) h = absurd (omega arith)

  -- below a branch for each field the walk stands at a cell
  pub arrived :
      k ≡ length es → length lows ≡ 8 → length es ≤ 8 → drop (length es) lows ≡ replicate (8 - length es) 0
      → Reached s es (record { found = true; corner = lows; marks = at; path = path }) cs
  arrived e long few clear =
      let h : length T.stack ≡ length es = T.height ∙ e in
      let none_left : length es - length T.stack ≡ 0 = omega arith in
      let front : take (length es) lows ≡ map (λ e. e.low) (boxes T.stack) =
      ap (λ n. take n lows) (sym h) ∙ lows_are s (length es) path lows T.stack (omega arith) T.above in
      subst (Reached s es (record { found = true; corner = lows; marks = at; path = path })) (at_cell T e) (
        refl,
        front,
        clear,
        (T.node, subst (λ j. Stood s j at T.node) none_left T.stood, refl),
        record { stack = T.stack; height = h; above = T.above; come = refl },
      )

-- From a cell on to what comes after the branch above it.
module _ {s : Store} {es : List Ends} {path lows : List ℕ} {cs : List Cell} (B : Below s es path lows cs) (pos : 0 < length es) where
  -- the branch above lies in its slice
  pub leave_there : get_or path (length es - 1) 0 < length s.branches.records.now
  leave_there =
      subst (λ j. get_or path (j - 1) 0 < length s.branches.records.now) B.height (top_there s es path lows B.stack B.above (omega (arith, B.height)) (omega (arith, B.height)))

  -- the walk goes on after it
  pub leave : {b : Branch} → slice_get s.branches.records.now (get_or path (length es - 1) 0) ≡ Some b → Touring s es path lows (length es - 1) b.next cs
  leave {b} read =
      let h = B.height in
      subst (λ j. Touring s es path lows (j - 1) b.next cs) h
      (up s es path lows cs b B.stack B.above (omega arith) (omega arith) B.come (subst (λ j. slice_get s.branches.records.now (get_or path (j - 1) 0) ≡ Some b) (sym h) read)).0

-- a walk begins at the root
pub set_out : {s : Store} {es : List Ends} {path lows : List ℕ} {first : ℕ} (t : Records) → Stood s (length es) first t → Touring s es path lows 0 first (cells es [] (shape t))
set_out {s} {es} {first = first} t S =
    record { node = t; stack = []; height = refl; stood = subst (λ j. Stood s j first t) (let z : length es ≡ length es - 0 = omega arith in z) S; above = tt; come = append-nil _ }
