use Rattle.std.proofs.Common.{map, ap, sym, ◌∙◌, arith}
use Rattle.std.proofs.lemmas.List.{length-map}
use Rattle.dae_lex_scan.specs.Cuts.{cut_of}
use Rattle.dae_lex.specs.Settling.{LexState, read_of, state_of, settle}
use Rattle.dae_lex.specs.Whole.{items_of_pieces}
use Rattle.dae_lex.proofs.Whole.{settled, unsettled, settle_count, settle_spans}
use Rattle.dae_lex.proofs.Turns.{fails_along}
use Rattle.dae_lex.proofs.reading.read_pieces.Goals as goal

pub returns-in-Ok-clause-ok : goal.returns-in-Ok-clause-ok
returns-in-Ok-clause-ok c =
    let room = c.args.room in
    let ps = map cut_of c.args.pieces.now in
    let items = items_of_pieces room ps in
    let out = c.take_lines.new.out in
    let e = ap (λ (s : LexState). settle s (items_of_pieces s.room ps)) (sym c.new-out.ensures) ∙ c.in-Ok.ensures.settles in
    let done = settled room items (state_of out) e in
    record {
      reads = done.0;
      room_left = done.1;
      stdio = c.in-Ok.ensures.headers.0;
      stdlib = c.in-Ok.ensures.headers.1;
      spans = settle_spans items _ (state_of out) e;
      few = omega (arith, settle_count items _ (state_of out) e, length-map out.tokens.items read_of);
    }

pub returns-clause-err : goal.returns-clause-err
returns-clause-err c =
    let ps = map cut_of c.args.pieces.now in
    unsettled c.args.room (items_of_pieces c.args.room ps) c.in-Err.e
    (fails_along c.in-Err.e _ _ (ap (λ (s : LexState). settle s (items_of_pieces s.room ps)) c.new-out.ensures) c.in-Err.ensures.settles)
