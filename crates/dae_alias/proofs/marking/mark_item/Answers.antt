use Rattle.std.proofs.Common.{sym, subst, OnOk}
use Rattle.dae_base.specs.declared.Place.{Place}
use Rattle.dae_ir.specs.declared.form.Item.{Item}
use Rattle.dae_ir.specs.declared.form.Statement.{Simple}
use Rattle.dae_alias.specs.Marking.{Marks}
use Rattle.dae_alias.proofs.Marks.{pass_marks, no_load}
use Rattle.dae_alias.proofs.marking.mark_item.Goals as goal

pub pass-requires-clause-load : goal.pass-requires-clause-load
pass-requires-clause-load c = no_load c.args.item.now (λ v kind x. c.in_default.not-Load v kind x)

pub returns-in-Load : goal.returns-in-Load
returns-in-Load c =
    subst (λ (it : Item). OnOk c.mark_load.result ((place : Place) → Marks (Simple place it) c.args.walk.now c.mark_load.new.walk c.args.marks.now.items c.mark_load.new.marks.items)) (sym c.in-Load.is) c.mark_load.ensures

pub returns : goal.returns
returns c = λ place.
    pass_marks place c.args.item.now c.args.walk.now c.pass.new.walk c.args.marks.now.items (no_load c.args.item.now (λ v kind x. c.in_default.not-Load v kind x)) c.in_ok-pass.ensures c.requires.at
