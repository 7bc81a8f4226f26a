-- What the form of a lawful program's function names, which needs no form of the others in memory: only their parameters count.
use Rattle.std.proofs.Common.{◌≡◌, ℕ, zero, suc, true, false, not, List, [], ◌∷◌, length, Option, Some, None, refl, ap, sym, subst}
use Rattle.std.specs.Prelude.{nat_eq, slice_get}
use Rattle.std.proofs.lemmas.Bool.{eqb-true}
use Rattle.std.proofs.lemmas.Option.{same_Some}
use Rattle.dae_ir.specs.Scope.{TakesArguments}
use Rattle.dae_ir.specs.declared.form.Function.{Function as FormFunction}
use Rattle.dae_lower.specs.Lowering.{function_code}
use Rattle.dae_lower_formed.specs.Formed.{below, form_variables, plain, FormsName}
use Rattle.dae_lower_formed.proofs.Expressions.{FindsFunctions}
use Rattle.dae_lower_formed.proofs.Functions.{bounds_of, function_good, holds_below, reads_below}
use Rattle.dae_lower_formed.proofs.Good.{good_names}
use Rattle.dae_lower_formed.proofs.Programs.{body_lawful, body_prints, callee_counts}
use Rattle.dae_program.specs.Lawful.{is_lawful, parameter_count, takes}
use Rattle.dae_program.specs.declared.program.Function.{Function}
use Rattle.dae_program.specs.declared.program.Program.{Program}

-- a function with the same parameters
abbrev stand_in : Function → FormFunction
stand_in f = record { name = f.name; parameters = length f.parameters; variables = 0; frame = 0; body = [] }

abbrev stand_ins : List Function → List FormFunction
stand_ins [] = []
stand_ins (f ∷ fs) = stand_in f ∷ stand_ins fs

stands_there : (fs : List Function) (k : ℕ) (f : Function) → slice_get fs k ≡ Some f → slice_get (stand_ins fs) k ≡ Some (stand_in f)
stands_there [] k f e = absurd (let c : None ≡ Some f = e in cc)
stands_there (g ∷ fs) zero f e = ap (λ (h : Function). Some (stand_in h)) (same_Some g f e)
stands_there (g ∷ fs) (suc k) f e = stands_there fs k f e

module _ (p : Program) (lawful : is_lawful p.memory p.frames p.content p.links p.functions p.main ≡ true) where
  finds : (f : Function) → FindsFunctions (stand_ins p.functions) (bounds_of p.memory f.variables (callee_counts p lawful f) (plain p f)) (record { address = (plain p f).address; callee = (plain p f).callee })
  finds f j arguments h = by (slice_get p.functions ((plain p f).callee j)) refl h where
    by : (o : Option Function) → slice_get p.functions ((plain p f).callee j) ≡ o → takes (parameter_count o) arguments ≡ true → TakesArguments (slice_get (stand_ins p.functions) ((plain p f).callee j)) arguments
    by None e h = absurd (let c : false ≡ true = h in cc)
    by (Some x) e h = subst (λ (o : Option FormFunction). TakesArguments o arguments) (sym (stands_there p.functions ((plain p f).callee j) x e)) (eqb-true arguments (length x.parameters) h)

pub forms_name : FormsName
forms_name p lawful k f e =
    let functions = stand_ins p.functions in
    let counts = callee_counts p lawful f in
    let main = nat_eq k p.main in
    let g = plain p f in
    let body = body_lawful p lawful k f e in
    let bytes = body_prints p lawful k f e in
    let good = function_good functions p.memory f.variables counts main g body (finds p lawful f) bytes f.place (below f.variables)
    (holds_below functions p.memory f.variables counts main g body (finds p lawful f) bytes f.place)
    (reads_below functions p.memory f.variables counts main g body (finds p lawful f) bytes f.place) in
    (functions, good_names functions false (not main) (form_variables f.place g f.variables) (function_code f.place main g f.variables) (below f.variables) good)
