use Rattle.std.proofs.Common.{rules}
use Rattle.dae_lex.proofs.finish.Builder.add.Goals as goal

pub returns-clause-built : goal.returns-clause-built
returns-clause-built c = λ w h m.
    let kind = c.in_ok-kind.ensures.kind w h m in
    let names = c.in_ok-kind.ensures.names w h m in
    search (rules, kind, names)
