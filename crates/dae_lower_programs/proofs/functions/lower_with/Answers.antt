use Rattle.std.proofs.Common.{◌≡◌, ◌<◌, ◌+◌, ◌^◌, ℕ, Bool, ◌&&◌, not, nat_eq, if◌then◌else◌, List, length, Option, refl, ap, sym, subst, ◌∙◌}
use Rattle.dae_ir.specs.Code.{Done}
use Rattle.dae_ir.specs.Form.{form_of}
use Rattle.dae_ir.specs.declared.form.Check.TheVariants.{Frame}
use Rattle.dae_ir.specs.declared.form.Item.{Item}
use Rattle.dae_ir.specs.declared.form.Item.TheVariants.{Expect, Halt, Return}
use Rattle.dae_ir.specs.declared.form.Operand.TheVariants.{Number}
use Rattle.dae_lower.specs.Lowering.{checks, closed, emit, parameters_stored, statements, ◌≫◌}
use Rattle.dae_lower_expressions.specs.Lowered.{Whole, links_in, state_of}
use Rattle.dae_lower_programs.proofs.Lists.{below_word}
use Rattle.dae_lower_programs.proofs.Wholes.{code_closed, function_written, stays_below}
use Rattle.dae_lower_programs.specs.Invocations.{at_startup}
use Rattle.dae_lower_programs.specs.Sound.{AreSound}
use Rattle.dae_program.specs.Views.{view_statements}
use Rattle.dae_program.specs.declared.program.FrameSlot.{FrameSlot}
use Rattle.dae_program.specs.declared.statements.Statement.{Statement}
use Rattle.dae_lower_programs.proofs.functions.lower_with.Goals as goal

pub store_parameters-requires : goal.store_parameters-requires
store_parameters-requires c =
    subst (λ (xs : List (Option FrameSlot)). 1 + length xs < 2 ^ 32) (sym c.as_slice.ensures) (below_word c.args.f.now c.requires.numbered c.see_word.ensures)

pub make_statements-requires : goal.make_statements-requires
make_statements-requires c = let n = c.requires.numbered in subst (λ (ss : List Statement). AreSound (view_statements ss)) (sym c.as_slice-2.ensures) n.statements

pub returns : goal.returns
returns c =
    let f = c.args.f.now in
    let l = links_in c.args.none c.args.links.now in
    let flag = at_startup c.args.invocation && not (nat_eq f.frame 0) in
    let first = parameters_stored f.place f.parameters 1 in
    let second = statements l (view_statements f.body) in
    let a = state_of c.new-lowerer.result in
    let b = state_of c.check_frame.new.lowerer in
    let d = state_of c.store_parameters.new.lowerer in
    let e = state_of c.make_statements.new.lowerer in
    let w = function_written f.place flag first second f.variables a b d e c.new-lowerer.ensures
    (subst (λ (x : Bool). Whole (emit (checks x f.place (Expect Frame) Done)) a b tt) c.needs_check.ensures c.in_ok-check_frame.ensures)
    (subst (λ (xs : List (Option FrameSlot)). Whole (parameters_stored f.place xs 1) b d tt) c.as_slice.ensures c.in_ok-store_parameters.ensures)
    (subst (λ (ss : List Statement). Whole (statements l (view_statements ss)) d e tt) c.as_slice-2.ensures c.in_ok-make_statements.ensures) in
    let last = if at_startup c.args.invocation then Halt (Number 0) else Return (Number 0) in
    let body = λ (n : ℕ). first n ≫ λ x. second in
    let h = w.fits (stays_below f.place flag last body f.variables e w c.requires.numbers.0 c.requires.numbers.1) in
    record {
      name = c.in_ok-name.ensures ∙ c.as_str.ensures;
      parameters = c.count_of-parameters.ensures ∙ c.len.ensures;
      variables = c.next-variables.ensures ∙ h.1;
      frame = refl;
      body = ap form_of c.from_vec.ensures
          ∙ code_closed f.place flag last body f.variables e (form_of c.into_statements.result.items) (form_of c.in_ok-body.body.items) h.0 c.into_statements.ensures
          (subst (λ (item : Item). form_of c.in_ok-body.body.items ≡ closed f.place item (form_of c.into_statements.result.items)) c.end_of.ensures c.in_ok-body.ensures);
    }
