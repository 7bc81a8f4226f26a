use Rattle.std.proofs.Common.{sym, ap, ◌∙◌}
use Rattle.dae_select_walks.specs.Homes.{resident_register}
use Rattle.dae_select_walks.proofs.LawsOfWalks.{number_home}
use Rattle.dae_select_values.proofs.tables.resident.Goals as goal

pub returns : goal.returns
returns c = c.resident_among.ensures ∙ ap resident_register (sym (number_home c.args.homes.homes.now c.args.homes.residents.now c.args.number))
