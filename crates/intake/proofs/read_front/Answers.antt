use Rattle.std.proofs.Common.{arith, ◌≡◌, ◌≤◌, ◌+◌, ◌-◌, length, refl}
use Rattle.std.proofs.lemmas.Grind.{common_steps}
use Rattle.intake.proofs.Fronts.{read_more, front_full, front_ended}
use Rattle.intake.proofs.read_front.Goals as goal
use borrow.Rule.Slice.PartMut.{put_mid}

pub returns-then-n-eq0-clause-front : goal.returns-then-n-eq0-clause-front
returns-then-n-eq0-clause-front g c =
    let read = read_more _ _ _ _ _ _ c.loop-filled.filled c.loop-filled.room c.read.new.buf (omega arith) c.in_ok-n.ensures.bound.0 (omega arith)
    c.loop-filled.invariant.read c.in_ok-n.ensures.bytes.0 in
    front_ended _ _ _ 40960 _ read (c.in_ok-n.ensures.bytes.1 c.if-n-eq0.true (omega arith)) (omega arith)

pub loop-filled-preserved : goal.loop-filled-preserved
loop-filled-preserved g c =
    let long : length (put_mid c.loop-filled.filled (40960 - c.loop-filled.filled) c.loop-filled.room c.read.new.buf) ≡ 40960 = grind (arith, common_steps) in
    let within : c.loop-filled.filled + c.in_ok-n.n ≤ 40960 = omega (arith, c.in_ok-n.ensures.bound.0) in
    let read = read_more _ _ _ _ _ _ _ c.loop-filled.room c.read.new.buf (omega arith) c.in_ok-n.ensures.bound.0 refl
    c.loop-filled.invariant.read c.in_ok-n.ensures.bytes.0 in
    record { room = long; within = within; read = read; full = λ e. front_full _ _ _ 40960 _ read (omega arith) (omega arith) }
