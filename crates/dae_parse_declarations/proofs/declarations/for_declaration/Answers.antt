use Rattle.std.proofs.Common.{[], rules}
use Rattle.dae_parse_declarations.proofs.declarations.for_declaration.Goals as goal

pub returns-in-Some : goal.returns-in-Some
returns-in-Some c = λ ws a s k. let h = c.in_ok-whole.ensures ws [] a c.no_items-none.ensures in search rules
