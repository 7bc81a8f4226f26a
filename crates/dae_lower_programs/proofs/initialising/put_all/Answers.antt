use Rattle.std.proofs.Common.{drop, ◌+◌, [], ◌∷◌}
use Rattle.dae_lower.specs.Lowering.{settings}
use Rattle.dae_lower_expressions.specs.Lowered.{links_in, state_of}
use Rattle.dae_lower_programs.proofs.Firsts.{settings_at, settings_end}
use Rattle.dae_lower_programs.proofs.Rows.{first_leads, next_leads, last_leads}
use Rattle.dae_program.specs.Views.{view_settings}
use Rattle.dae_lower_programs.proofs.initialising.put_all.Goals as goal

pub loop-item-init : goal.loop-item-init
loop-item-init c = first_leads (settings (links_in c.args.none c.args.links.now) c.args.place c.args.v (view_settings c.args.items.now)) (state_of c.args.lowerer.now)

pub loop-item-preserved : goal.loop-item-preserved
loop-item-preserved c =
    let l = links_in c.args.none c.args.links.now in
    let xs = c.args.items.now in
    let i = c.loop-item.item-index in
    next_leads (settings l c.args.place c.args.v (view_settings xs)) (settings l c.args.place c.args.v (view_settings (drop i xs))) (settings l c.args.place c.args.v (view_settings (c.item-item.result ∷ []))) (settings l c.args.place c.args.v (view_settings (drop (i + 1) xs))) (state_of c.args.lowerer.now) (state_of c.loop-item.lowerer) (state_of c.put.new.lowerer)
    (settings_at l c.args.place c.args.v xs i c.item-item.result c.loop-item-test.true c.item-item.is) c.loop-item.invariant c.in_ok-put.ensures

pub returns : goal.returns
returns c =
    let l = links_in c.args.none c.args.links.now in
    let xs = c.args.items.now in
    let i = c.loop-item.item-index in
    last_leads (settings l c.args.place c.args.v (view_settings xs)) (settings l c.args.place c.args.v (view_settings (drop i xs))) (state_of c.args.lowerer.now) (state_of c.loop-item.lowerer) (settings_end l c.args.place c.args.v xs i c.loop-item-test.false) c.loop-item.invariant
