use Rattle.std.proofs.Common.{sym, ◌∙◌}
use Rattle.std.proofs.lemmas.Bool.{false≢true}
use Rattle.dae_compile.proofs.passing.reuse_loads.Goals as goal

pub unreachable-requires : goal.unreachable-requires
unreachable-requires c = false≢true (sym (c.in-Err-Variables.ensures.many c.in-Err-Variables.field-0-is) ∙ c.requires)
