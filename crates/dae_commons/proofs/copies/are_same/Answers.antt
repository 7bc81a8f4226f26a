use Rattle.std.proofs.Common.{sym, ◌∙◌}
use Rattle.dae_commons.proofs.Words.{apart_by_words}
use Rattle.dae_commons.proofs.copies.are_same.Goals as goal

pub returns-else-may_be_same : goal.returns-else-may_be_same
returns-else-may_be_same c =
    sym (apart_by_words c.args.one c.args.other (sym c.may_be_same.ensures ∙ c.if-may_be_same.false))
