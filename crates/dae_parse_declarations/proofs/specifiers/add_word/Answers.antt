use Rattle.std.proofs.Common.{refl, sym, subst}
use Rattle.dae_parse_grammar.specs.Frames.{ParserState}
use Rattle.dae_parse_states.specs.States.{ShowsState}
use Rattle.dae_parse_states.specs.declared.frames.Doing.TheVariants as doing
use Rattle.dae_parse_declarations.proofs.OtherwiseDeclarators.{word_taken_otherwise}
use Rattle.dae_parse_declarations.proofs.specifiers.add_word.Goals as goal

pub returns-in_ok-more-in_default : goal.returns-in_ok-more-in_default
returns-in_ok-more-in_default c = λ ws s shows stands.
    let m = c.args.machine.now in
    let same = word_taken_otherwise c.args.word c.args.place c.args.seen ws s m.scope.names m.rest c.in_default.not-Struct c.in_default.not-Enum in
    subst (λ (t : ParserState). ShowsState (doing.Specifying c.with_word-in_default.result c.in_ok-more-in_default.more) m t) (sym same) ((c.with_word-in_default.ensures, c.in_ok-more-in_default.ensures ws shows), stands.0, refl, refl, stands.1)
