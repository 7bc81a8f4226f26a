use Rattle.std.proofs.Common.{◌≡◌, ℕ, ◌++◌, ◌≤◌, ◌-◌, length, drop, map}
use Rattle.std.specs.List.{flat_map}
use Rattle.dae_tree.specs.Pieces.{cut}
use Rattle.dae_lex_scan.specs.Cuts.{cut_of, chars, Rise, FollowEachOther, SpotsFrom}
use Rattle.dae_base.specs.declared.Place.{Place}
use Rattle.dae_lex_scan.proofs.InOrder.{PlacesTo, place_before}
use Rattle.dae_lex_scan.proofs.Rising.{bound}
use Rattle.dae_lex_scan.proofs.pieces.cut_pieces.Given as goal

abbrev pub invariant-loop-at : goal.invariant-loop-at
invariant-loop-at l = record {
  within : l.at ≤ length l.joined.bytes.items;
  so_far : map cut_of l.pieces.items ++ cut 0 (drop l.at (chars l.joined.bytes.items l.joined.spots.items))
      ≡ cut 0 (chars l.joined.bytes.items l.joined.spots.items);
  spelled : flat_map (λ p. p.spelling) (map cut_of l.pieces.items) ++ drop l.at l.joined.bytes.items ≡ l.joined.bytes.items;
  order : (n : ℕ) → Rise 0 l.joined.spots.items n → FollowEachOther 0 (map cut_of l.pieces.items) (bound l.joined.spots.items l.at);
  places : (p : Place) → SpotsFrom p l.joined.spots.items → PlacesTo p (map (λ q. q.place) (map cut_of l.pieces.items)) (place_before p l.joined.spots.items l.at);
}

abbrev pub decreases-loop-at : goal.decreases-loop-at
decreases-loop-at l = length l.joined.bytes.items - l.at
