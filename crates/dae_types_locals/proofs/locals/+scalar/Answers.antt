use Rattle.dae_types_locals.proofs.Rows.{scalar_list_gives}
use Rattle.dae_types_locals.proofs.locals.+scalar.Goals as goal

pub set_scalar-returns-in-List : goal.set_scalar-returns-in-List
set_scalar-returns-in-List t c =
    let w = c.in-List in
    scalar_list_gives _ _ _ _ _ w.brace w.list w.field-2 c.deref-in-List.result.now _ w.is c.deref-in-List.ensures.value c.set_first.ensures
