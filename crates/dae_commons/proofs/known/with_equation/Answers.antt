use Rattle.std.proofs.Common.{◌≡◌, List, ◌++◌, take, ap, ◌∙◌}
use Rattle.dae_commons.specs.declared.equations.Equation.{Equation}
use Rattle.dae_commons.specs.Equations.{equation_of, with_equation}
use Rattle.dae_commons.proofs.Uninvolved.{with_above}
use Rattle.dae_commons.proofs.known.with_equation.Goals as goal

pub invariant_of-result : goal.invariant_of-result
invariant_of-result c =
    let v = c.args.variable in
    let x = c.args.value in
    let old : List Equation = c.known.inside.equations.items in
    let less : List Equation = c.without_involved-equations.result.items in
    let is : c.push_equation.new.equations.items ≡ with_equation v x old =
    c.in_ok-push_equation.ensures ∙ ap (λ (es : List Equation). take 32 (es ++ less)) c.equation_of.ensures
    ∙ ap (λ (es : List Equation). take 32 (equation_of v x ++ es)) c.without_involved-equations.ensures in
    rw (c.highest_with.ensures, is) (with_above c.known.inside.highest v x old c.known.invariant)
