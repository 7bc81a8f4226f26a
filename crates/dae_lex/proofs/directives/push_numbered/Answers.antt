use Rattle.std.proofs.lemmas.List.Elements.{All-push, All-same}
use Rattle.dae_lex.specs.Numbers.{IsNumbered}
use Rattle.dae_lex.proofs.Kept.{numbered_still}
use Rattle.dae_lex.proofs.directives.push_numbered.Goals as goal

pub returns-in-Ok-clause-numbered : goal.returns-in-Ok-clause-numbered
returns-in-Ok-clause-numbered c =
    let w = c.piece.new.self in
    let old = numbered_still c.args.numbers.now w c.in_ok-numbered.ensures.keeps c.args.body.now.items c.requires in
    All-same (IsNumbered w) _ _ c.in-Ok.ensures.items (All-push (IsNumbered w) c.args.body.now.items c.in_ok-numbered.numbered old c.in_ok-numbered.ensures.number)
