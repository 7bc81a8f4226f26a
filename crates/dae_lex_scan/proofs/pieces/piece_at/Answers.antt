use Rattle.std.proofs.Common.{◌≡◌, ◌+◌, ◌-◌, take, drop, arith, ap, ◌∙◌}
use Rattle.std.proofs.lemmas.List.{get_or_read, length-drop}
use Rattle.dae_tree.specs.Lines.{start_of}
use Rattle.dae_lex_scan.proofs.Cutting.{piece_from}
use Rattle.dae_lex_scan.proofs.pieces.piece_at.Goals as goal

pub returns : goal.returns
returns c =
    let j = c.args.joined.now in
    let spots = j.spots.items in
    let at = c.args.at in
    let f = c.args.form in
    let l = length-drop at j.bytes.items in
    let long : f.length ≡ (at + f.length) - at = omega arith in
    piece_from j.bytes.items spots c.requires.same at f _ c.index-first.result.now c.index-last.result.now c.index-faulty.result.now
    (ap (λ xs. take ((at + f.length) - at) (drop at xs)) c.deref.ensures.value ∙ ap (λ n. take n (drop at j.bytes.items)) (omega arith))
    (get_or_read spots at _ (omega (arith, c.requires.within, c.requires.same)) c.index-first.ensures (start_of 0))
    (get_or_read spots (at + (f.length - 1)) _ (omega (arith, c.requires.within, c.requires.same)) c.index-last.ensures (start_of 0))
    (get_or_read spots (at + f.at) _ (omega (arith, c.requires.within, c.requires.same)) c.index-faulty.ensures (start_of 0))
