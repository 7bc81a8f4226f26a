-- No turn, a turn more, and the four ways to stop.
use Rattle.std.proofs.Common.{ℕ, ◌%◌, ap, sym, ◌∙◌, arith}
use Rattle.dae_debug.specs.Sessions.{no_turn, took_most}
use Rattle.dae_debug.proofs.Turned.{goes_more, rests_final, rests_stuck, stops_there}
use Rattle.dae_debug.proofs.going.go_on.Goals as goal

pub loop-init : goal.loop-init
loop-init c = no_turn

pub returns-then-taken-ge-MOST_STEPS : goal.returns-then-taken-ge-MOST_STEPS
returns-then-taken-ge-MOST_STEPS c =
    let t = c.taken-taken.ensures in
    let i = c.if-taken-ge-MOST_STEPS.true in
    took_most c.loop-test.true c.loop.invariant (omega (arith, t, i))

pub returns-then-reaches_break : goal.returns-then-reaches_break
returns-then-reaches_break c =
    let t = c.taken-taken.ensures in
    let i = c.if-taken-ge-MOST_STEPS.false in
    stops_there _ _ c.args.turns c.loop.counter (c.taken-taken.result % 4294967296) c.loop.machine c.turn.new.self c.loop-test.true c.loop.invariant (omega (arith, t, i))
    (ap (λ (n : ℕ). n % 4294967296) t) c.in-Stepped.ensures.setup c.in-Stepped.pick c.in-Stepped.field-1 c.in-Stepped.ensures.turn
    (sym c.reaches_break.ensures ∙ c.if-reaches_break.true)

pub returns-in-Final : goal.returns-in-Final
returns-in-Final c =
    let t = c.taken-taken.ensures in
    let i = c.if-taken-ge-MOST_STEPS.false in
    rests_final _ _ c.args.turns c.loop.counter (c.taken-taken.result % 4294967296) c.loop.machine c.turn.new.self c.loop-test.true c.loop.invariant (omega (arith, t, i))
    (ap (λ (n : ℕ). n % 4294967296) t) c.in-Final.ensures.setup c.in-Final.field-0 c.in-Final.ensures.turn

pub returns-in-Stuck : goal.returns-in-Stuck
returns-in-Stuck c =
    let t = c.taken-taken.ensures in
    let i = c.if-taken-ge-MOST_STEPS.false in
    rests_stuck _ _ c.args.turns c.loop.counter (c.taken-taken.result % 4294967296) c.loop.machine c.turn.new.self c.loop-test.true c.loop.invariant (omega (arith, t, i))
    (ap (λ (n : ℕ). n % 4294967296) t) c.in-Stuck.ensures.setup c.in-Stuck.ensures.turn

pub loop-preserved : goal.loop-preserved
loop-preserved c =
    let t = c.taken-taken.ensures in
    let i = c.if-taken-ge-MOST_STEPS.false in
    goes_more _ _ c.args.turns c.loop.counter (c.taken-taken.result % 4294967296) c.loop.machine c.turn.new.self c.loop-test.true c.loop.invariant (omega (arith, t, i))
    (ap (λ (n : ℕ). n % 4294967296) t) c.in-Stepped.ensures.setup c.in-Stepped.pick c.in-Stepped.field-1 c.in-Stepped.ensures.turn
    (sym c.reaches_break.ensures ∙ c.if-reaches_break.false)
