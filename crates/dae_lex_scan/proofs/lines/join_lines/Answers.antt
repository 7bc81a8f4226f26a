use Rattle.std.proofs.Common.{◌≡◌, ◌+◌, ◌-◌, suc, ap, sym, ◌∙◌, refl, drop, ◌++◌, slice_index_or, arith, append-nil}
use Rattle.std.proofs.lemmas.List.{take_rest, drop_more, drop_all}
use Rattle.dae_tree.specs.Lines.{bytes_of, spots_of, start_of, spot_behind, join_left}
use Rattle.dae_tree.specs.declared.pieces.TextSpot.{TextSpot}
use Rattle.dae_lex_scan.proofs.Joining.{Within, within_more, keeps, skips, from_start, at_end}
use Rattle.dae_lex_scan.proofs.lines.join_lines.Goals as goal
use Rattle.dae_lex_scan.proofs.lines.join_lines.Goals.{then-joining-eq0+in_ok-push_byte+in_ok-push_spot, else-joining-eq0}

pub loop-i-init : goal.loop-i-init
loop-i-init c =
    let e = from_start c.args.file c.args.text.now in
    record {
      within = record { offset = refl; line = omega arith; col = omega arith };
      bytes = cc (ap bytes_of e, c.new-bytes.ensures.items);
      spots = cc (ap spots_of e, c.new-spots.ensures.items);
      behind = refl;
    }

pub returns : goal.returns
returns c =
    let l = c.loop-i in
    let text = c.args.text.now in
    let e = at_end l.skip l.spot l.i text (omega arith) in
    record {
      bytes = sym (append-nil _) ∙ ap (λ cs. l.bytes.items ++ bytes_of cs) (sym e) ∙ l.invariant.bytes;
      spots = sym (append-nil _) ∙ ap (λ cs. l.spots.items ++ spots_of cs) (sym e) ∙ l.invariant.spots;
      end = ap (λ (s : TextSpot). s.place) (ap (spot_behind l.spot) (sym (drop_all l.i text (omega arith))) ∙ l.invariant.behind);
      err = tt;
    }

pub loop-i-preserved : goal.loop-i-preserved
loop-i-preserved c =
    let l = c.loop-i in
    let text = c.args.text.now in
    let byte = slice_index_or text l.i 0 in
    let within : Within c.spot_behind_byte-spot.result (l.i + 1) = rw (c.spot_behind_byte-spot.ensures) (within_more byte l.spot l.i l.invariant.within) in
    let behind : spot_behind c.spot_behind_byte-spot.result (drop (l.i + 1) text) ≡ spot_behind (start_of c.args.file) text =
    rw (c.spot_behind_byte-spot.ensures) (ap (spot_behind l.spot) (sym (drop_more text l.i 0 (omega arith))) ∙ l.invariant.behind) in
    let joins = rw (take_rest text l.i) at c.left_of_join-joining.ensures in
    elim c.if-joining-eq0.branch [
      | then-joining-eq0+in_ok-push_byte+in_ok-push_spot w ↦
          let j : join_left l.skip (drop l.i text) ≡ 0 = cc (joins, w.if-joining-eq0.true) in
          record {
            within = within;
            behind = behind;
            bytes = rw (w.bytes-is, w.in_ok-push_byte.ensures.ok, w.skip-is, c.spot_behind_byte-spot.ensures)
                (keeps l.skip l.spot l.i text (omega arith) (λ x. x.byte) l.bytes.items _ j l.invariant.bytes);
            spots = rw (w.spots-is, w.in_ok-push_spot.ensures.ok, w.skip-is, c.spot_behind_byte-spot.ensures)
                (keeps l.skip l.spot l.i text (omega arith) (λ x. x.spot) l.spots.items _ j l.invariant.spots);
          }
      | else-joining-eq0 w ↦
          let m = c.left_of_join-joining.result - 1 in
          let up : c.left_of_join-joining.result ≡ suc m = omega (arith, w.if-joining-eq0.false) in
          let j : join_left l.skip (drop l.i text) ≡ suc m = sym joins ∙ up in
          record {
            within = within;
            behind = behind;
            bytes = rw (w.bytes-is, w.skip-is, c.spot_behind_byte-spot.ensures)
                (skips l.skip l.spot l.i text (omega arith) (λ x. x.byte) l.bytes.items _ m j l.invariant.bytes);
            spots = rw (w.spots-is, w.skip-is, c.spot_behind_byte-spot.ensures)
                (skips l.skip l.spot l.i text (omega arith) (λ x. x.spot) l.spots.items _ m j l.invariant.spots);
          }
    ]
