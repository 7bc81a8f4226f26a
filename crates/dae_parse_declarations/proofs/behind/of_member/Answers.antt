use Rattle.std.proofs.Common.{◌∷◌, rules}
use Rattle.dae_parse_declarations.proofs.behind.of_member.Goals as goal

pub returns : goal.returns
returns c = λ d b ms ws ds h body lines specified before s stands.
    let list = c.in_ok-list.ensures ds d before h in
    let members = c.in_ok-members.ensures ms ws (d ∷ ds) lines specified list in
    search rules
