use Rattle.std.proofs.Common.{◌≡◌, drop}
use Rattle.dae_tree.specs.Names.{has_typedef}
use Rattle.dae_tree.specs.Views.{views_specifiers}
use Rattle.dae_types_locals.proofs.blocks.has_typedef.Given as goal

abbrev pub invariant-loop-specifier : goal.invariant-loop-specifier
invariant-loop-specifier l = has_typedef (views_specifiers (drop l.specifier-index l.list)) ≡ has_typedef (views_specifiers l.list)
