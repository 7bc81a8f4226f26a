use Rattle.std.proofs.Common.{◌≡◌, false, refl, sym}
use Rattle.dae_parse_grammar.specs.Machine.{goes_on}
use Rattle.dae_parse_statements.proofs.AtSigns.{binds, too_loose, too_high, goes, stays}
use Rattle.dae_parse_statements.proofs.operators.read_sign.Goals.{else-reach-level-via-then-reach-level+else-operand-left_level, else-reach-level-via-else-reach-level}
use Rattle.dae_parse_statements.proofs.operators.read_sign.Goals as goal

pub returns-then-operand-left_level : goal.returns-then-operand-left_level
returns-then-operand-left_level c = λ e at shows s stands.
    let o = c.begun_by-begun.result in
    let on = binds o e c.args.level _ _ _ c.reach.ensures c.left_level.ensures shows.level c.if-reach-level.true c.if-operand-left_level.true in
    rw (goes c.args.sign o e c.args.place c.args.level s _ c.args.machine.now.rest _ at c.begun_by-begun.ensures on, sym c.skip.ensures) (c.operate.ensures e shows s stands)

pub returns : goal.returns
returns c = λ e at shows s stands.
    let o = c.begun_by-begun.result in
    let off : goes_on o e c.args.level ≡ false = elim c.else-reach-level.branch [
      | else-reach-level-via-then-reach-level+else-operand-left_level w ↦ too_high o e c.args.level _ _ w.left_level.ensures shows.level w.if-operand-left_level.false
      | else-reach-level-via-else-reach-level w ↦ too_loose o e c.args.level _ c.reach.ensures w.if-reach-level.false
    ] in
    rw (stays c.args.sign o e c.args.place c.args.level s _ c.args.machine.now.rest _ at c.begun_by-begun.ensures off) (shows, stands.0, refl, refl, stands.1)
