use Rattle.std.proofs.Common.{◌∙◌, sym}
use Rattle.dae_types_typed.specs.Sound.{tables_of}
use Rattle.dae_types.proofs.Members.{of_another, of_other_name}
use Rattle.dae_types.proofs.layouts.member_in_structure.Goals.{then-component-structure+else-component-name, else-component-structure}
use Rattle.dae_types.proofs.layouts.member_in_structure.Goals as goal

pub loop-component-preserved : goal.loop-component-preserved
loop-component-preserved c =
    let s = tables_of c.args.parts.now in
    let xs = c.args.parts.now.components in
    let i = c.loop-component.component-index in
    let items = c.as_slice-component-items.ensures in
    let more = rw items at c.loop-component-test.true in
    elim c.if-component-structure.branch [
      | then-component-structure+else-component-name w ↦
          rw (w.before-is, w.place_member-before.ensures, w.layout_at-own.ensures, items)
          (sym (of_other_name s c.loop-component.before xs i c.args.structure c.args.name _ more (rw items at w.if-component-structure.true) (rw items at w.if-component-name.false)) ∙ c.loop-component.invariant)
      | else-component-structure w ↦
          rw w.before-is
          (sym (of_another s c.loop-component.before xs i c.args.structure c.args.name _ more (rw items at w.if-component-structure.false)) ∙ c.loop-component.invariant)
    ]
