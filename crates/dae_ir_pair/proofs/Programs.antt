-- The pair of a whole program does what the program does.
use Rattle.std.proofs.Common.{[], refl, subst}
use Rattle.dae_meaning.specs.Worlds.{World}
use Rattle.dae_meaning.specs.Alike.{Same, LoadsApart, AtLeast}
use Rattle.dae_meaning.specs.Variables.{Env}
use Rattle.dae_meaning.proofs.Laws.{alike_weaker, alike_then}
use Rattle.dae_ir.specs.Form.{calls_of, all_loads}
use Rattle.dae_ir.specs.Classes.{Classes, classes_of}
use Rattle.dae_ir.specs.Canonical.{Sides, issued, pair_calls_of}
use Rattle.dae_ir.specs.Laws.{SameVariables}
use Rattle.dae_ir.specs.Programs.{program_of, start}
use Rattle.dae_ir.proofs.Laws.{fewer_loads}
use Rattle.dae_ir_pair.specs.Laws.{Agree}
use Rattle.dae_ir_pair.specs.Programs.{ProgramKept}
use Rattle.dae_ir_pair.proofs.Split.{pair_keeps}

-- what agrees with the same variables, and a world that is the same
agree_too : (c : Classes) (env : Env) (b : Sides) → (e : Env) × SameVariables env e × Agree c e b → Agree c env b
agree_too c env b h = rw h.1 h.2

apart_too : (w v : World) → (u : World) × LoadsApart AtLeast w u × Same u v → LoadsApart AtLeast w v
apart_too w v h = subst (λ x. LoadsApart AtLeast w x) h.2 h.1

pub program_kept : ProgramKept
program_kept ir tables least cap n memory =
    let p = program_of ir in
    let of = classes_of tables in
    let c = of ir.main in
    let w = start ir memory in
    let all = calls_of p all_loads n ir.calls ir.main [] w in
    let form = calls_of p (issued of) n ir.calls ir.main [] w in
    let pair = pair_calls_of p of cap n ir.calls ir.main [] [] w in
    alike_weaker _ _ (Agree c) (LoadsApart AtLeast) (agree_too c) apart_too all pair
    (alike_then SameVariables (LoadsApart AtLeast) (Agree c) Same all form pair
    ((fewer_loads p (issued of) all_loads (λ f v h. refl)).more' n ir.calls ir.main [] w)
    (pair_keeps p of least.closed cap n ir.calls ir.main [] w))
