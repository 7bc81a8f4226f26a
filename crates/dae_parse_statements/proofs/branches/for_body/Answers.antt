use Rattle.std.proofs.Common.{rules, subst, sym}
use Rattle.dae_parse_nodes.specs.declared.values.Loop.{Loop}
use Rattle.dae_parse_nodes.specs.Parts.{ShowsLoop}
use Rattle.dae_parse_statements.proofs.branches.for_body.Goals as goal

pub returns : goal.returns
returns c = λ b l e h k m s stands.
    let shows = subst (λ (x : Loop). ShowsLoop x l) (sym c.into_inner.ensures) k in
    let whole = c.in_ok-whole.ensures l e b shows m h in
    search rules
