use Rattle.dae_types_locals.proofs.Rows.{list_gives}
use Rattle.dae_types_locals.proofs.initialisers.+fill.Goals as goal

pub fill-returns-in-List : goal.fill-returns-in-List
fill-returns-in-List t c =
    let w = c.in-List in
    list_gives _ _ _ _ w.place w.inner w.field-2 c.deref-in-List.result.now _ w.is c.deref-in-List.ensures.value c.fill_list.ensures
