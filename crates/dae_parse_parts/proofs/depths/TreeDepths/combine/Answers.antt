use Rattle.std.proofs.Common.{◌≡◌, ◌++◌, [], List, drop, length, ap, sym, arith}
use Rattle.std.proofs.lemmas.Bool.Decides.{nat_tests}
use Rattle.std.proofs.lemmas.List.{nil_from_length}
use Rattle.dae_base.specs.declared.Place.{Place}
use Rattle.dae_parse_parts.proofs.depths.TreeDepths.combine.Goals as goal

pub returns-then-is_empty : goal.returns-then-is_empty
returns-then-is_empty c =
    let empty = c.is_empty.ensures in let is = c.if-is_empty.true in
    let none : length c.args.self.places.items ≡ 0 = grind (arith, nat_tests) in
    let nil : c.args.self.places.items ≡ [] = nil_from_length c.args.self.places.items none in
    ap (λ (ps : List Place). ps ++ drop (length ps) c.args.others.places.items) (sym nil)
