use Rattle.std.proofs.Common.{◌<◌, ◌^◌, List, length, subst, sym}
use Rattle.std.specs.List.{AllByRecursion}
use Rattle.dae_lower_formed.specs.Formed.{AreFormsOf}
use Rattle.dae_lower_programs.proofs.Lists.{functions_numbered}
use Rattle.dae_lower_programs.specs.Functions.{HaveNumbers}
use Rattle.dae_lower_programs.specs.Sound.{IsNumbered}
use Rattle.dae_program.specs.declared.program.Function.{Function}
use Rattle.dae_lower_programs.proofs.functions.lower_functions.Goals as goal

pub lower_each-requires-clause-few : goal.lower_each-requires-clause-few
lower_each-requires-clause-few c = subst (λ (fs : List Function). length fs < 2 ^ 32) (sym c.as_slice.ensures) c.requires.few

pub lower_each-requires-clause-numbered : goal.lower_each-requires-clause-numbered
lower_each-requires-clause-numbered c = subst (λ (fs : List Function). AllByRecursion IsNumbered fs) (sym c.as_slice.ensures) (functions_numbered c.args.program.now)

pub lower_each-requires-clause-numbers : goal.lower_each-requires-clause-numbers
lower_each-requires-clause-numbers c = subst (λ (fs : List Function). HaveNumbers c.args.program.now fs) (sym c.as_slice.ensures) c.requires.numbers

pub returns : goal.returns
returns c = subst (λ (fs : List Function). AreFormsOf c.args.program.now 0 fs c.in_ok-forms.forms.items) c.as_slice.ensures c.in_ok-forms.ensures
