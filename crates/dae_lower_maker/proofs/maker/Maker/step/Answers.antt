use Rattle.std.proofs.Common.{ap, subst}
use Rattle.std.specs.Prelude.{if◌then◌else◌}
use Rattle.dae_ir.specs.declared.form.Operand.{Operand}
use Rattle.dae_lower_maker.specs.Counting.{counts_of, is_counted}
use Rattle.dae_lower_maker.specs.Making.{Writes, so_far, held_in, advanced_in, copied_by, lvalue_of, stepped_in}
use Rattle.dae_lower_maker.proofs.Rows.{picked_written}
use Rattle.dae_program.specs.Views.{is_prefix}
use Rattle.dae_program.specs.declared.expressions.Fixity.{Fixity}
use Rattle.dae_lower_maker.proofs.maker.Maker.step.Goals as goal

pub returns-in-Prefix : goal.returns-in-Prefix
returns-in-Prefix c =
    let i = c.args.increment in
    let l = lvalue_of i c.args.spot in
    let later = is_counted (counts_of c.args.later.now) in
    let x = c.in_ok-x.x in
    let y = c.in_ok-y.y in
    subst (λ (z : Operand). Writes (stepped_in later i c.args.spot c.args.self.now.next) (so_far c.args.self.now) (so_far c.advance.new.self) z)
    (ap (λ (fixity : Fixity). if is_prefix fixity then y else x) c.in-Prefix.is)
    (picked_written (is_prefix i.fixity) (held_in (copied_by i.fixity later) l c.args.self.now.next) (advanced_in l i.change) (so_far c.args.self.now) (so_far c.old_value.new.self) (so_far c.advance.new.self) x y c.in_ok-x.ensures c.in_ok-y.ensures)

pub returns-in-Postfix : goal.returns-in-Postfix
returns-in-Postfix c =
    let i = c.args.increment in
    let l = lvalue_of i c.args.spot in
    let later = is_counted (counts_of c.args.later.now) in
    let x = c.in_ok-x.x in
    let y = c.in_ok-y.y in
    subst (λ (z : Operand). Writes (stepped_in later i c.args.spot c.args.self.now.next) (so_far c.args.self.now) (so_far c.advance.new.self) z)
    (ap (λ (fixity : Fixity). if is_prefix fixity then y else x) c.in-Postfix.is)
    (picked_written (is_prefix i.fixity) (held_in (copied_by i.fixity later) l c.args.self.now.next) (advanced_in l i.change) (so_far c.args.self.now) (so_far c.old_value.new.self) (so_far c.advance.new.self) x y c.in_ok-x.ensures c.in_ok-y.ensures)
