use Rattle.dae_types_fills.specs.Fillings.{view_filling}
use Rattle.dae_types_locals.proofs.Rows.{whole_list_gives}
use Rattle.dae_types_locals.proofs.initialisers.fill_whole.Goals as goal

pub returns-in_ok-filling-in-List : goal.returns-in_ok-filling-in-List
returns-in_ok-filling-in-List c =
    let w = c.in-List in
    let begun = c.in_ok-filling-in-List in
    whole_list_gives _ _ _ _ _ w.place w.inner w.field-2 c.deref-in-List.result.now (view_filling begun.filling) _ w.is c.deref-in-List.ensures.value begun.ensures c.fill_list.ensures
