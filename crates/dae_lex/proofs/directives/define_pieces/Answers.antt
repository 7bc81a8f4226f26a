use Rattle.std.proofs.lemmas.Result.{on_ok_weaker}
use Rattle.dae_lex.proofs.Kept.{keeps_on, defined_still}
use Rattle.dae_lex.proofs.directives.define_pieces.Goals as goal

pub define-requires-clause-defined : goal.define-requires-clause-defined
define-requires-clause-defined c =
    defined_still c.args.numbers.now c.marks.new.numbers c.in_ok-body.ensures.keeps c.args.macros.now c.requires

pub returns-clause-keeps : goal.returns-clause-keeps
returns-clause-keeps c = on_ok_weaker c.define.result (keeps_on c.args.numbers.now c.marks.new.numbers c.define.new.numbers c.in_ok-body.ensures.keeps) c.define.ensures.keeps
