use Rattle.dae_types_tables.specs.Seen.{tables}
use Rattle.dae_types_tables.proofs.Wrapping.{one_lighter, parts_lighter, parts_wanted, shape_wanted, type_wanted}
use Rattle.dae_types_tables.proofs.checker.Checker.composite.Goals as goal

pub loop-layer-smaller-in-Continue-branch-3 : goal.loop-layer-smaller-in-Continue-branch-3
loop-layer-smaller-in-Continue-branch-3 c =
    rw (c.in_ok-push-in-Parts-2.ensures.items, c.in_ok-push-in-Parts.ensures.items, c.in-Some.ensures.items) (parts_lighter c.pop.new.self.items c.in-Some.layer c.in-Parts.outer c.in-Parts.first (tables c.loop-layer.self) c.loop-layer.last c.in-Parts.ensures)

pub loop-layer-preserved-in-Continue-branch-3 : goal.loop-layer-preserved-in-Continue-branch-3
loop-layer-preserved-in-Continue-branch-3 c =
    let before = rw c.in-Some.ensures.items at c.loop-layer.invariant in
    rw (c.in_ok-push-in-Parts-2.ensures.items, c.in_ok-push-in-Parts.ensures.items) (parts_wanted c.pop.new.self.items c.in-Some.layer c.in-Parts.outer c.in-Parts.first (tables c.loop-layer.self) c.loop-layer.last _ c.in-Parts.ensures before)

pub loop-layer-smaller-in-Shape : goal.loop-layer-smaller-in-Shape
loop-layer-smaller-in-Shape c =
    rw c.in-Some.ensures.items (one_lighter c.pop.new.self.items c.in-Some.layer (tables c.loop-layer.self) c.loop-layer.last)

pub loop-layer-preserved-in-Shape : goal.loop-layer-preserved-in-Shape
loop-layer-preserved-in-Shape c =
    let before = rw c.in-Some.ensures.items at c.loop-layer.invariant in
    shape_wanted c.pop.new.self.items c.in-Some.layer c.in-Shape.shape (tables c.loop-layer.self) c.loop-layer.last (tables c.make.new.self, c.in_ok-last-in-Shape.last) _ c.in-Shape.ensures c.in_ok-last-in-Shape.ensures before

pub loop-layer-smaller : goal.loop-layer-smaller
loop-layer-smaller c =
    rw c.in-Some.ensures.items (one_lighter c.pop.new.self.items c.in-Some.layer (tables c.loop-layer.self) c.loop-layer.last)

pub loop-layer-preserved : goal.loop-layer-preserved
loop-layer-preserved c =
    let before = rw c.in-Some.ensures.items at c.loop-layer.invariant in
    type_wanted c.pop.new.self.items c.in-Some.layer c.in-Type.id (tables c.loop-layer.self) c.loop-layer.last _ c.in-Type.ensures before
