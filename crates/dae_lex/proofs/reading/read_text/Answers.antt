use Rattle.std.proofs.Common.{map, length, ap, sym, ◌∙◌, subst, Err}
use Rattle.dae_tree.specs.Lines.{bytes_of, joined_lines, start_of}
use Rattle.dae_tree.specs.Pieces.{Cut, cut}
use Rattle.dae_tree.specs.Tokens.{tested_of}
use Rattle.dae_tree.specs.Order.{HasLeastPlace}
use Rattle.dae_tree.specs.Reading.{Reading}
use Rattle.dae_tree.specs.declared.tokens.Room.{Room}
use Rattle.dae_lex_scan.specs.Cuts.{cut_of, chars, Rise, FollowEachOther, SpotsFrom, PlacesFrom}
use Rattle.dae_lex.specs.Settling.{read_of}
use Rattle.dae_lex.specs.Whole.{SpansFrom, span, items_of_pieces, reading_with}
use Rattle.dae_lex_scan.proofs.Laws.{all_small, all_rise, chars_of, all_spots}
use Rattle.dae_lex.proofs.Refusals.{tested_chain, least}
use Rattle.dae_lex.proofs.Spans.{pieces_steps}
use Rattle.dae_lex.proofs.Answered.{answered, failed}
use Rattle.dae_lex.proofs.reading.read_text.Goals as goal

pub cut_pieces-requires-clause-small : goal.cut_pieces-requires-clause-small
cut_pieces-requires-clause-small c = rw (c.in_ok-joined.ensures.spots) (all_small c.args.file c.args.text.now c.requires)

pub returns-in-Err-clause-answer : goal.returns-in-Err-clause-answer
returns-in-Err-clause-answer c =
    let j = c.in_ok-joined.joined in
    let all = joined_lines c.args.file c.args.text.now in
    let both = ap (λ bs. chars bs j.spots.items) c.in_ok-joined.ensures.bytes ∙ ap (chars (bytes_of all)) c.in_ok-joined.ensures.spots ∙ chars_of all in
    let pieces = ap (map cut_of) c.deref.ensures.value ∙ c.in_ok-pieces.ensures.ok ∙ ap (cut 0) both in
    failed c.args.file c.args.text.now c.args.room (map cut_of c.deref.result.now) pieces c.in-Err.e c.in-Err.ensures.err

pub finish_text-requires-clause-spans : goal.finish_text-requires-clause-spans
finish_text-requires-clause-spans c =
    let j = c.in_ok-joined.joined in
    let text = c.args.text.now in
    let h = c.in-Ok.ensures.ok in
    let rise = subst (λ ss. Rise 0 ss (length text)) (sym c.in_ok-joined.ensures.spots) (all_rise c.args.file text) in
    let follow = subst (λ ps. FollowEachOther 0 (map cut_of ps) (length text)) (sym c.deref.ensures.value) (c.in_ok-pieces.ensures.order (length text) rise) in
    let spans = ap (λ rs. map span (map read_of rs)) c.deref-2.ensures.value ∙ h.spans in
    subst (λ xs. SpansFrom 0 0 xs (length text)) (sym spans) (pieces_steps c.args.room.replacements (map cut_of c.deref.result.now) (length text) follow)

pub returns-clause-answer : goal.returns-clause-answer
returns-clause-answer c =
    let j = c.in_ok-joined.joined in
    let text = c.args.text.now in
    let all = joined_lines c.args.file text in
    let both = ap (λ bs. chars bs j.spots.items) c.in_ok-joined.ensures.bytes ∙ ap (chars (bytes_of all)) c.in_ok-joined.ensures.spots ∙ chars_of all in
    let pieces = ap (map cut_of) c.deref.ensures.value ∙ c.in_ok-pieces.ensures.ok ∙ ap (cut 0) both in
    let seen = c.in-Ok.read.0 in
    let tokens = c.in_ok-tokens.ensures.ok
    ∙ ap (λ rs. reading_with text (map read_of rs) seen.stdio seen.stdlib j.end) c.deref-2.ensures.value in
    answered c.args.file text c.args.room (map cut_of c.deref.result.now) pieces seen c.in-Ok.read.1 j.end c.in_ok-tokens.tokens c.in-Ok.ensures.ok
    c.in_ok-joined.ensures.end tokens

pub returns-in-Err-clause-least : goal.returns-in-Err-clause-least
returns-in-Err-clause-least c =
    let j = c.in_ok-joined.joined in
    let file = c.args.file in
    let room = c.args.room in
    let all = joined_lines file c.args.text.now in
    let both = ap (λ bs. chars bs j.spots.items) c.in_ok-joined.ensures.bytes ∙ ap (chars (bytes_of all)) c.in_ok-joined.ensures.spots ∙ chars_of all in
    let pieces = ap (map cut_of) c.deref.ensures.value ∙ c.in_ok-pieces.ensures.ok ∙ ap (cut 0) both in
    let first = (start_of file).place in
    let spots = subst (SpotsFrom first) (sym c.in_ok-joined.ensures.spots) (all_spots file c.args.text.now) in
    let places = subst (λ ps. PlacesFrom first (map (λ (q : Cut). q.place) (map cut_of ps))) (sym c.deref.ensures.value) (c.in_ok-pieces.ensures.places first spots) in
    let chain = tested_chain room room.replacements (map cut_of c.deref.result.now) first places in
    subst (λ ps. HasLeastPlace {A = Reading × Room} (Err c.in-Err.e) (tested_of room (items_of_pieces room ps))) pieces
    (least (Reading × Room) (tested_of room (items_of_pieces room (map cut_of c.deref.result.now))) c.in-Err.e first c.in-Err.ensures.err chain)
