use Rattle.std.proofs.Common.{◌≡◌, Option, refl, sym, subst, ◌∙◌, arith}
use Rattle.dae_tree.specs.Marks.{marks}
use Rattle.dae_parse_grammar.specs.Machine.{step_at}
use Rattle.dae_parse_states.specs.declared.frames.Doing.{Doing}
use Rattle.dae_parse_states.specs.Frames.{ShowsDoing}
use Rattle.dae_parse_states.specs.States.{Follows}
use Rattle.dae_parse.proofs.Reaching.{IsNotWhole, start, holds_there, bottom_there, count_there, next_reached, no_more, whole_there, not_whole, whole_reached, none_reached}
use Rattle.dae_parse.proofs.Stuck.{stuck_at}
use Rattle.dae_parse.proofs.run.run.Goals.{then-len-eq0+in_default, else-len-eq0}
use Rattle.dae_parse.proofs.run.run.Goals as goal

pub loop-turn-init : goal.loop-turn-init
loop-turn-init c = start (marks c.args.tokens.now) (record { alloc = c.args.alloc; rest = c.new.result; scope = c.new-2.result; stack = c.new-3.result }) _
    (record { read = c.no_externals-read.ensures; taken = refl; too_long = refl }) c.new-3.ensures.items c.new-2.ensures c.new.ensures

pub returns-in-Externals : goal.returns-in-Externals
returns-in-Externals c =
    let m = c.loop-turn.machine in
    let r = c.loop-turn.invariant in
    whole_reached _ _ _ m r c.in-Externals.before
    (whole_there c.in-Externals.before r.does m.rest (subst (λ (g : Doing). ShowsDoing g r.does) c.in-Externals.is r.shown) (sym c.len-in-loop-turn.ensures ∙ c.if-len-eq0.true))

pub returns-in-None : goal.returns-in-None
returns-in-None c =
    let m = c.loop-turn.machine in
    let r = c.loop-turn.invariant in
    let same : c.if-len-eq0.doing ≡ c.loop-turn.doing = elim c.if-len-eq0.branch [ then-len-eq0+in_default w ↦ w.doing-is | else-len-eq0 w ↦ w.doing-is ] in
    let more : IsNotWhole r.does m.rest = elim c.if-len-eq0.branch [
      | then-len-eq0+in_default w ↦ not_whole c.loop-turn.doing r.does m.rest r.shown (λ b e none. w.in_default.not-Externals b e)
      | else-len-eq0 w ↦ not_whole c.loop-turn.doing r.does m.rest r.shown (λ b e none. w.if-len-eq0.false (c.len-in-loop-turn.ensures ∙ none))
    ] in
    let f = c.in_ok-next.ensures r.does r.stack (subst (λ (g : Doing). ShowsDoing g r.does) (sym same) r.shown) r.stands (holds_there _ _ _ m r) (bottom_there _ _ _ m r).0 (count_there c.args.tokens.now _ _ m r) in
    let g = subst (λ (o : Option Doing). Follows o c.step.new.machine (step_at r.does r.stack m.scope.names m.rest)) c.in-None.is f in
    let left = c.left_where_stuck-left.ensures r.does r.stack m.scope.names m.rest r.shown c.len.ensures in
    (none_reached _ _ _ m r g more, stuck_at c.args.tokens.now _ _ _ r.come g (omega (arith, c.saturating_sub.ensures, left)))

pub loop-turn-preserved : goal.loop-turn-preserved
loop-turn-preserved c =
    let m = c.loop-turn.machine in
    let r = c.loop-turn.invariant in
    let same : c.if-len-eq0.doing ≡ c.loop-turn.doing = elim c.if-len-eq0.branch [ then-len-eq0+in_default w ↦ w.doing-is | else-len-eq0 w ↦ w.doing-is ] in
    let f = c.in_ok-next.ensures r.does r.stack (subst (λ (g : Doing). ShowsDoing g r.does) (sym same) r.shown) r.stands (holds_there _ _ _ m r) (bottom_there _ _ _ m r).0 (count_there c.args.tokens.now _ _ m r) in
    next_reached _ _ _ c.in-Some.next m c.step.new.machine r (subst (λ (o : Option Doing). Follows o c.step.new.machine (step_at r.does r.stack m.scope.names m.rest)) c.in-Some.is f)

pub unreachable-requires : goal.unreachable-requires
unreachable-requires c = no_more c.args.tokens.now _ _ c.loop-turn.machine c.loop-turn.invariant (omega arith)
