-- What each step of writing refuses and writes. Assumes nothing.
use Rattle.std.specs.Prelude.{◌≡◌, ℕ, ◌+◌, ◌*◌, ◌/◌, ◌%◌, cond, not, ◌||◌, List, ◌∷◌, ◌++◌, length, take, drop, Some, None, Option, Result, Ok, Err, ◌==◌, nat_le, nat_lt}
use Rattle.std.specs.List.{flat_map}
use Rattle.std.specs.Option.{option_map}
use Rattle.std.specs.Result.{result_err}
use Rattle.routing.specs.declared.ends.Ends.{Ends}
use Rattle.routing.specs.Fields.{widths_of}
use Rattle.routing.specs.Lawful.{widths_refusal, ends_refusal}
use Rattle.fault.specs.declared.writing.WriteFault.{WriteFault}
use Rattle.fault.specs.Faults.{write_reason}
use Rattle.file.specs.declared.layout.Layout.{Layout}
use Rattle.file.specs.Layout.{four_bytes, rows_at, low_at, decisions_at, file_length, first_of}
use Rattle.writer.specs.declared.stage.Plan.{Plan}
use Rattle.writer.specs.declared.stage.Rows.{Rows}
use Rattle.writer.specs.declared.stage.Decisions.{Decisions}
use Rattle.writer.specs.declared.stage.Stage.{Stage}
use Rattle.writer.specs.declared.stage.Refused.{Refused}

-- a buffer with some bytes at a place, and all others as they were
abbrev pub put : ℕ → List ℕ → List ℕ → List ℕ
put at bs out = take at out ++ (bs ++ drop (at + length bs) out)

-- the bytes of a pair, of a row of d fields, and of the header
abbrev pub ends_bytes : Ends → List ℕ
ends_bytes e = four_bytes e.low ++ four_bytes e.high

abbrev pub row_bytes : ℕ → List Ends → List ℕ
row_bytes d es = flat_map ends_bytes (take d es)

abbrev pub head_bytes : ℕ → ℕ → ℕ → List ℕ
head_bytes d n code =
    1 ∷ d ∷ code ∷ 0 ∷ (n / 256) ∷ (n % 256) ∷ 0 ∷ 0 ∷ (four_bytes (rows_at d) ++ four_bytes (decisions_at d n))

-- the fields, the layout and the length of the file that a plan is for
abbrev pub plan_fields : Plan → ℕ
plan_fields p = length (widths_of p.widths)

abbrev pub plan_layout : Plan → Layout
plan_layout p = record { fields = plan_fields p; rules = p.rules; size = p.size }

abbrev pub plan_length : Plan → ℕ
plan_length p = file_length (plan_fields p) p.rules p.size

pub record Planned (ws : List ℕ) (n code size : ℕ) (p : Plan) : Type 0 where
  pub of_widths : widths_of p.widths ≡ ws
  pub of_rules : p.rules ≡ n
  pub of_code : p.code ≡ code
  pub of_size : p.size ≡ size

-- a stage before its first row
pub record Begun (ws : List ℕ) (n code size : ℕ) (s : Stage Rows) : Type 0 where
  pub planned : Planned ws n code size s.plan
  pub none_done : s.done ≡ 0

-- What a step answers: the next stage, or the same stage with the number and the place of the reason.
pub data Outcome (S T : Type 0) : Type 0 where
  granted : T → Outcome S T
  refused : S → ℕ × ℕ → Outcome S T

-- the outcome, and the buffer after it, by the reason to refuse if there is one
module _ {S T : Type 0} where
  abbrev pub judged : Option (ℕ × ℕ) → S → T → Outcome S T
  judged None s t = granted t
  judged (Some reason) s t = refused s reason

abbrev pub changed : {R : Type 0} → Option R → List ℕ → List ℕ → List ℕ
changed None before after = after
changed (Some reason) before after = before

-- why a test says no, if it does
abbrev pub reason_of : Result (Unit {0}) WriteFault → Option (ℕ × ℕ)
reason_of r = option_map write_reason (result_err r)

-- what a step's answer tells
abbrev pub step_told : {S T : Type 0} → Result T (Refused S) → Outcome S T
step_told (Ok t) = granted t
step_told (Err r) = refused r.stage (write_reason r.fault)

-- the buffer is shorter than the file
abbrev pub room_refusal : ℕ → ℕ → Option (ℕ × ℕ)
room_refusal needed room = cond (nat_lt room needed) (Some (16, needed)) None

-- starting, for n rules with decisions of a size: 3, 8, 5, 16
abbrev pub start_refusal : List ℕ → ℕ → ℕ → ℕ → Option (ℕ × ℕ)
start_refusal ws n size room =
    first_of (widths_refusal ws) (cond (nat_lt 512 n) (Some (5, 4)) (room_refusal (file_length (length ws) n size) room))

module _ {P : Type 0} where
  -- a step into the file: 16, 17
  abbrev pub ready_refusal : Stage P → ℕ → Option (ℕ × ℕ)
  ready_refusal s room = first_of (room_refusal (plan_length s.plan) room) (cond (nat_le s.plan.rules s.done) (Some (17, s.done)) None)

  -- a turn, an end: 17
  abbrev pub early_refusal : Stage P → Option (ℕ × ℕ)
  early_refusal s = cond (nat_lt s.done s.plan.rules) (Some (17, s.done)) None

  abbrev pub next_stage : Stage P → Stage P
  next_stage s = record s { done = s.done + 1 }

-- a row: 16, 17, 9
abbrev pub row_refusal : Stage Rows → List Ends → ℕ → Option (ℕ × ℕ)
row_refusal s es room = first_of (ready_refusal s room) (option_map (λ field. (9, field)) (ends_refusal (widths_of s.plan.widths) es))

-- where the next row begins
abbrev pub row_at : Stage Rows → ℕ
row_at s = low_at (plan_fields s.plan) (s.done * plan_fields s.plan)

abbrev pub turned : Stage Rows → Stage Decisions
turned s = record { plan = s.plan; done = 0; phase = record {} }

-- a decision of the kind with a code and a size: 16, 17, 4
abbrev pub decision_refusal : Stage Decisions → ℕ → ℕ → ℕ → Option (ℕ × ℕ)
decision_refusal s code size room =
    first_of (ready_refusal s room) (cond (not (code == s.plan.code) || not (size == s.plan.size)) (Some (4, 2)) None)

-- where the next decision begins
abbrev pub decision_place : Stage Decisions → ℕ
decision_place s = decisions_at (plan_fields s.plan) s.plan.rules + s.done * s.plan.size
