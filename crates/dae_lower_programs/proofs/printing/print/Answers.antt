use Rattle.std.proofs.Common.{drop, get_or, ◌+◌, [], ◌∷◌}
use Rattle.dae_lower.specs.Lowering.{prints}
use Rattle.dae_lower_expressions.specs.Lowered.{state_of}
use Rattle.dae_lower_programs.proofs.Arguments.{any_default}
use Rattle.dae_program.specs.declared.statements.FormatPiece.TheVariants as piece
use Rattle.dae_lower_programs.proofs.Firsts.{prints_at, prints_end}
use Rattle.dae_lower_programs.proofs.Rows.{first_leads, next_leads, last_leads}
use Rattle.dae_lower_programs.proofs.printing.print.Goals as goal

pub loop-piece-init : goal.loop-piece-init
loop-piece-init c = first_leads (prints c.args.place c.args.pieces.now c.args.xs.now) (state_of c.args.lowerer.now)

pub loop-piece-preserved : goal.loop-piece-preserved
loop-piece-preserved c =
    let xs = c.args.xs.now in
    let ps = c.args.pieces.now in
    let i = c.loop-piece.piece-index in
    let x = get_or ps i (piece.Byte 0) in
    next_leads (prints c.args.place ps xs) (prints c.args.place (drop i ps) xs) (prints c.args.place (x ∷ []) xs) (prints c.args.place (drop (i + 1) ps) xs) (state_of c.args.lowerer.now) (state_of c.loop-piece.lowerer) (state_of c.print_piece.new.lowerer)
    (prints_at c.args.place ps xs i x c.loop-piece-test.true (any_default ps i (piece.Byte 0) c.loop-piece-test.true)) c.loop-piece.invariant c.in_ok-print_piece.ensures

pub returns : goal.returns
returns c =
    let ps = c.args.pieces.now in
    let i = c.loop-piece.piece-index in
    last_leads (prints c.args.place ps c.args.xs.now) (prints c.args.place (drop i ps) c.args.xs.now) (state_of c.args.lowerer.now) (state_of c.loop-piece.lowerer) (prints_end c.args.place ps c.args.xs.now i c.loop-piece-test.false) c.loop-piece.invariant
