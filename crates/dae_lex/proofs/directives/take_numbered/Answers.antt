use Rattle.std.proofs.Common.{[], subst}
use Rattle.dae_tree.specs.Replacing.{expand}
use Rattle.dae_lex_scan.specs.declared.pieces.SourcePiece.{SourcePiece}
use Rattle.dae_lex_scan.specs.Cuts.{cut_of}
use Rattle.dae_lex.specs.Numbers.{definitions_of}
use Rattle.dae_lex.specs.Settling.{Settles, state_of, settle}
use Rattle.dae_lex.proofs.Kept.{read_still, defined_still}
use Rattle.dae_lex.proofs.directives.take_numbered.Goals as goal

pub replace_piece-requires-clause-defined : goal.replace_piece-requires-clause-defined
replace_piece-requires-clause-defined c =
    defined_still c.args.numbers.now c.piece.new.self c.in_ok-first.ensures.keeps c.args.macros.now c.requires.defined

pub replace_piece-requires-clause-read : goal.replace_piece-requires-clause-read
replace_piece-requires-clause-read c = read_still c.args.numbers.now c.piece.new.self c.in_ok-first.ensures.keeps c.args.out.now c.requires.read

pub returns-clause-settles : goal.returns-clause-settles
returns-clause-settles c = λ n h.
    let ms = definitions_of c.args.macros.now in
    subst (λ (q : SourcePiece). Settles (state_of c.replace_piece.new.out) c.replace_piece.result (settle (state_of c.args.out.now) (expand n ms [] (cut_of q) (cut_of q))))
    c.in_ok-first.ensures.same (c.replace_piece.ensures.settles n h)
