use Rattle.std.proofs.Common.{◌≡◌, ◌∙◌, List, sym, ap, refl, subst}
use Rattle.std.specs.Prelude.{None}
use Rattle.dae_guard.specs.Sets.{Cell}
use Rattle.dae_guard.specs.Waiting.{fill_first}
use Rattle.dae_guard.proofs.SlotLaws.{fill_at, fill_none}
use Rattle.dae_guard.proofs.slots.fill.Goals as goal

pub returns-in-None-clause-made : goal.returns-in-None-clause-made
returns-in-None-clause-made c =
    (subst (λ (cs : List Cell). fill_first c.args.stores.now cs ≡ None) c.look.ensures.cells (fill_none c.args.stores.now c.look.new.slots c.look.ensures.told (c.in-None.ensures.none refl)), c.look.ensures.cells)

pub returns-in-Some-clause-made : goal.returns-in-Some-clause-made
returns-in-Some-clause-made c =
    let f = c.in-Some.ensures.some in
    ap (fill_first c.args.stores.now) (sym c.look.ensures.cells)
    ∙ fill_at c.args.stores.now c.look.new.slots c.in-Some.place _ c.look.ensures.told f.0 f.1 f.2
