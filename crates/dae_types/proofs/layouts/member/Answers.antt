use Rattle.std.proofs.Common.{◌∙◌, ap, sym}
use Rattle.dae_types_kinds.specs.declared.types.Shape.{Shape}
use Rattle.dae_types_kinds.specs.Types.{structure_of}
use Rattle.dae_types_typed.specs.Sound.{tables_of}
use Rattle.dae_types.specs.Layouts.{member_if}
use Rattle.dae_types.proofs.layouts.member.Goals as goal

pub returns-in-Struct : goal.returns-in-Struct
returns-in-Struct c =
    let value = c.parts-parts.ensures.value in
    let found = λ (x : Shape). member_if (tables_of c.args.file.now) (structure_of x) c.args.name in
    (rw value at c.member_in_structure.ensures) ∙ ap found (sym c.in-Struct.is ∙ (rw value at c.shape_of.ensures))
