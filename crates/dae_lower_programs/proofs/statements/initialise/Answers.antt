use Rattle.std.proofs.Common.{ℕ, ◌+◌}
use Rattle.dae_lower.specs.Lowering.{only, settings, zeros, ◌≫◌}
use Rattle.dae_lower_expressions.specs.Lowered.{links_in, state_of}
use Rattle.dae_lower_programs.proofs.Rows.{last_whole, then_whole}
use Rattle.dae_program.specs.Views.{view_settings}
use Rattle.dae_lower_programs.proofs.statements.initialise.Goals as goal

pub returns : goal.returns
returns c =
    let p = c.args.aggregate.place in
    let zeroed = λ (n : ℕ). only (zeros p c.args.aggregate.offset c.args.aggregate.size n) n (n + 2) in
    let put = λ (v : ℕ). settings (links_in c.args.none c.args.links.now) p v (view_settings c.args.items.now) in
    last_whole (λ (n : ℕ). zeroed n ≫ put) (state_of c.args.lowerer.now) (state_of c.put_all.new.lowerer) tt
    (then_whole zeroed put (state_of c.args.lowerer.now) (state_of c.zero.new.lowerer) (state_of c.put_all.new.lowerer) c.in_ok-v.v tt c.in_ok-v.ensures c.in_ok-put_all.ensures)
