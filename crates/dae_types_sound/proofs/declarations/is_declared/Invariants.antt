use Rattle.std.proofs.Common.{◌≡◌, drop}
use Rattle.std.specs.List.{list_any}
use Rattle.dae_types_file_plans.specs.declared.declarations.FileDeclaration.{FileDeclaration}
use Rattle.dae_types_typed.specs.Sound.{is_declared, same_entity}
use Rattle.dae_types_sound.proofs.declarations.is_declared.Given as goal

abbrev pub invariant-loop-d : goal.invariant-loop-d
invariant-loop-d l =
    list_any (λ (d : FileDeclaration). same_entity l.entity d.entity) (drop l.d-index l.parts.declarations) ≡ is_declared l.parts l.entity
