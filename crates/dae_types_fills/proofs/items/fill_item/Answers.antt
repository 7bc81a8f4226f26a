use Rattle.dae_types_folding.specs.Views.{view_value}
use Rattle.dae_types_fills.specs.Fillings.{view_filling}
use Rattle.dae_types_fills.specs.Slots.{view_stack}
use Rattle.dae_types_fills.proofs.Shapes.{scalar_is_filled}
use Rattle.dae_types_fills.proofs.items.fill_item.Goals as goal

pub returns-in_default-shape_of : goal.returns-in_default-shape_of
returns-in_default-shape_of c =
    scalar_is_filled c.args.checker.now c.fill_scalar.result c.args.place c.args.literal (view_value c.args.x.now) c.in-Some.destination c.args.landing.destination (view_stack c.args.landing.filling.rest.items) (view_filling c.args.landing.filling) c.shape_of.result c.in_default-shape_of.not-Array c.in_default-shape_of.not-Struct c.shape_of.ensures c.in-Some.is c.fill_scalar.ensures
