-- What a file holds. Assumes nothing.
use Rattle.std.specs.Prelude.{ℕ, ◌+◌, ◌*◌, List, map, replicate}
use Rattle.std.specs.List.{range_with_len}
use Rattle.routing.specs.declared.ends.Ends.{Ends}
use Rattle.routing.specs.declared.rule.Rule.{Rule}
use Rattle.file.specs.Layout.{part, fields, rules, decisions_at, no_ends, row_of}

-- a row with no ends
abbrev pub blank : List Ends
blank = replicate 8 no_ends

-- the pairs and the decisions of all rules
abbrev pub rows_of : List ℕ → List (List Ends)
rows_of bs = map (row_of bs) (range_with_len 0 (rules bs))

-- the bytes of a rule's decision, with decisions of a size
abbrev pub decision_bytes : List ℕ → ℕ → ℕ → List ℕ
decision_bytes bs size r = part (decisions_at (fields bs) (rules bs) + r * size) size bs

-- the decisions, by how one is read
abbrev pub decisions_of : {K : Type 0} → (List ℕ → K) → ℕ → List ℕ → List K
decisions_of reading size bs = map (λ r. reading (decision_bytes bs size r)) (range_with_len 0 (rules bs))

-- the parts of a rule
abbrev pub row_of_rule : {K : Type 0} → Rule K → List Ends
row_of_rule r = r.ends

abbrev pub decision_of_rule : {K : Type 0} → Rule K → K
decision_of_rule r = r.decision
