use Rattle.std.proofs.Common.{◌+◌, ◌-◌, ◌<◌, length, get_or, ◌++◌, map, drop, arith, ap, sym, ◌∙◌, append-nil, append_assoc}
use Rattle.std.specs.Prelude.{[], ◌∷◌, ◌≡◌}
use Rattle.std.specs.List.{flat_map}
use Rattle.std.proofs.lemmas.List.{take_rest, length-drop, map-append}
use Rattle.std.proofs.lemmas.Grind.{flat_map-append}
use Rattle.dae_tree.specs.Forms.{form}
use Rattle.dae_lex_scan.specs.Cuts.{cut_of}
use Rattle.dae_lex_scan.specs.Cuts.{chars}
use Rattle.dae_tree.specs.Pieces.{Cut, piece}
use Rattle.dae_lex_scan.proofs.Cutting.{cut_more, cut_all, piece_span, piece_place, spelled_more, spelled_all}
use Rattle.dae_tree.specs.Lines.{start_of}
use Rattle.dae_lex_scan.proofs.InOrder.{place_before, before_low, before_next, spots_within, places_push, places_wider, places_from}
use Rattle.dae_lex_scan.proofs.Rising.{bound, bound_below, bound_next, bound_end, rise_within}
use Rattle.dae_lex_scan.proofs.Following.{follow_push, follow_wider}
use Rattle.dae_lex_scan.proofs.pieces.cut_pieces.Goals as goal

pub loop-at-preserved : goal.loop-at-preserved
loop-at-preserved c =
    let j = c.args.joined.now in
    let l = c.loop-at in
    let f = c.form_at-form.result in
    let whole = ap (λ xs. form (drop l.at xs)) c.deref.ensures.value in
    let formed = rw (take_rest c.deref.result.now l.at) at c.form_at-form.ensures.value in
    let more = cut_more j.bytes.items j.spots.items c.requires.same l.at f (omega arith) (formed ∙ whole) (omega (arith, c.form_at-form.ensures.within)) in
    record {
      spelled =
          let p = cut_of c.piece_at.result in
          let word : p.spelling ≡ (piece f (drop l.at (chars j.bytes.items j.spots.items))).spelling = ap (λ (q : Cut). q.spelling) c.piece_at.ensures in
          let pieces = map cut_of l.pieces.items in
          let out : flat_map (λ (q : Cut). q.spelling) (pieces ++ p ∷ []) ≡ flat_map (λ (q : Cut). q.spelling) pieces ++ p.spelling =
          flat_map-append (λ (q : Cut). q.spelling) pieces (p ∷ []) ∙ ap (λ ys. flat_map (λ (q : Cut). q.spelling) pieces ++ ys) (append-nil p.spelling) in
          rw (c.in_ok-push_piece.ensures.ok, map-append, out, word) (spelled_more j.bytes.items j.spots.items c.requires.same l.at f (flat_map (λ (q : Cut). q.spelling) pieces) l.invariant.spelled);
      order = λ n h.
          let spots = j.spots.items in
          let p = cut_of c.piece_at.result in
          let s = piece_span j.bytes.items spots c.requires.same l.at f in
          let start = ap (λ (q : Cut). q.start) c.piece_at.ensures ∙ s.0 in
          let end = ap (λ (q : Cut). q.end) c.piece_at.ensures ∙ s.1 in
          let near = rw (take_rest c.deref.result.now l.at, c.deref.ensures.value) at c.form_at-form.ensures.within in
          let far : l.at + (f.length - 1) < length spots = omega (arith, near, length-drop l.at j.bytes.items, c.requires.same) in
          let low = bound_below spots n l.at h (omega (arith, far)) in
          let high = rise_within spots 0 n l.at (l.at + (f.length - 1)) h (omega arith) far in
          let b : p.end ≡ bound spots (l.at + f.length) = end ∙ bound_next spots l.at f.length near.0 in
          rw (c.in_ok-push_piece.ensures.ok, map-append, ← b)
          (follow_push 0 (map cut_of l.pieces.items) (bound spots l.at) p (l.invariant.order n h) (omega (arith, low, start)) (omega (arith, high, start, end)));
      places = λ first w.
          let spots = j.spots.items in
          let p = cut_of c.piece_at.result in
          let q = ap (λ (q : Cut). q.place) c.piece_at.ensures ∙ piece_place j.bytes.items spots c.requires.same l.at f in
          let near = rw (take_rest c.deref.result.now l.at, c.deref.ensures.value) at c.form_at-form.ensures.within in
          let inside : f.at < f.length = near.2 in
          let some : 0 < f.length = near.0 in
          let far : l.at + (f.length - 1) < length spots = omega (arith, near, length-drop l.at j.bytes.items, c.requires.same) in
          let low = before_low spots first l.at (l.at + f.at) w (omega arith) (omega (arith, far)) in
          let high = spots_within spots first (l.at + f.at) (l.at + (f.length - 1)) w (omega arith) far in
          let done = places_push first (map (λ (q : Cut). q.place) (map cut_of l.pieces.items)) (place_before first spots l.at) (get_or spots (l.at + f.at) (start_of 0)).place
          (l.invariant.places first w) low in
          let wide = places_wider first _ _ (get_or spots (l.at + (f.length - 1)) (start_of 0)).place done high in
          rw (c.in_ok-push_piece.ensures.ok, map-append, map-append, q, ← before_next spots first l.at f.length some) wide;
      within = omega (arith, c.form_at-form.ensures.within, length-drop l.at j.bytes.items, rw take_rest at c.form_at-form.ensures.within);
      so_far = rw (c.in_ok-push_piece.ensures.ok, map-append, c.piece_at.ensures, append_assoc)
          (ap (λ rest. map cut_of l.pieces.items ++ rest) (sym more) ∙ l.invariant.so_far);
    }

pub returns-clause-ok : goal.returns-clause-ok
returns-clause-ok c =
    let j = c.args.joined.now in
    let l = c.loop-at in
    sym (append-nil _) ∙ ap (λ rest. map cut_of l.pieces.items ++ rest)
    (sym (cut_all j.bytes.items j.spots.items c.requires.same l.at (omega arith))) ∙ l.invariant.so_far

pub returns-clause-spelled : goal.returns-clause-spelled
returns-clause-spelled c =
    let j = c.args.joined.now in
    let l = c.loop-at in
    spelled_all j.bytes.items j.spots.items c.requires.same l.at (flat_map (λ (q : Cut). q.spelling) (map cut_of l.pieces.items)) (omega arith) l.invariant.spelled

pub returns-clause-order : goal.returns-clause-order
returns-clause-order c = λ n h.
    let j = c.args.joined.now in
    let l = c.loop-at in
    follow_wider 0 (map cut_of l.pieces.items) (bound j.spots.items l.at) n (l.invariant.order n h)
    (bound_end j.spots.items n l.at h (omega (arith, c.requires.same, l.invariant.within)))

pub returns-clause-places : goal.returns-clause-places
returns-clause-places c = λ p w.
    let l = c.loop-at in
    places_from p (map (λ (q : Cut). q.place) (map cut_of l.pieces.items)) (place_before p c.args.joined.now.spots.items l.at) (l.invariant.places p w)
