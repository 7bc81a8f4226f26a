-- The entry of the counter tells what its word asks.
use Rattle.std.proofs.Common.{◌≡◌, ◌≢◌, ap, subst, sym, ◌∙◌}
use Rattle.std.specs.Prelude.{Some, ◌%◌, ◌/◌, option_map, slice_get}
use Rattle.dae_core.specs.Codes.{legal_word}
use Rattle.dae_core.specs.Held.{HeldCore}
use Rattle.dae_core.proofs.Fetches.{misplaced, requested, form_of_entry}
use Rattle.dae_core.proofs.processor.Core.fetch.Goals as goal

pub returns-then-self-ne0-clause-err : goal.returns-then-self-ne0-clause-err
returns-then-self-ne0-clause-err c = λ memory.
    misplaced c.args.self.now.copies c.args.self.now.side c.args.self.now.code memory c.args.self.now.processor c.requires (subst (λ (v : HeldCore). v.processor.counter % 4 ≢ 0) c.self.view_is c.if-self-ne0.true)

pub returns-in-None-clause-err : goal.returns-in-None-clause-err
returns-in-None-clause-err c = λ memory.
    requested c.args.self.now.copies c.args.self.now.side c.args.self.now.code memory c.args.self.now.processor _ c.requires
    (subst (λ (v : HeldCore). v.processor.counter % 4 ≡ 0) c.self.view_is c.if-self-ne0.false)
    (sym c.in-None.is ∙ subst (λ (v : HeldCore). c.entry.result ≡ option_map (legal_word c.args.self.now.copies c.args.self.now.side) (slice_get c.args.self.now.code (v.processor.counter / 4))) c.self.view_is c.entry.ensures)

pub returns-in-Some-None-clause-err : goal.returns-in-Some-None-clause-err
returns-in-Some-None-clause-err c = λ memory.
    requested c.args.self.now.copies c.args.self.now.side c.args.self.now.code memory c.args.self.now.processor _ c.requires
    (subst (λ (v : HeldCore). v.processor.counter % 4 ≡ 0) c.self.view_is c.if-self-ne0.false)
    (sym (c.in-Some-None.is ∙ ap Some c.in-Some-None.field-0-is) ∙ subst (λ (v : HeldCore). c.entry.result ≡ option_map (legal_word c.args.self.now.copies c.args.self.now.side) (slice_get c.args.self.now.code (v.processor.counter / 4))) c.self.view_is c.entry.ensures)

pub returns-in-Some-Some-clause-ok : goal.returns-in-Some-Some-clause-ok
returns-in-Some-Some-clause-ok c =
    let found : Some (Some c.in-Some-Some.legal) ≡ option_map (legal_word c.args.self.now.copies c.args.self.now.side) (slice_get c.args.self.now.code (c.args.self.now.processor.counter / 4)) =
    sym (c.in-Some-Some.is ∙ ap Some c.in-Some-Some.field-0-is) ∙ subst (λ (v : HeldCore). c.entry.result ≡ option_map (legal_word c.args.self.now.copies c.args.self.now.side) (slice_get c.args.self.now.code (v.processor.counter / 4))) c.self.view_is c.entry.ensures in (
      form_of_entry c.args.self.now.copies c.args.self.now.side _ c.in-Some-Some.legal (sym found),
      λ memory. requested c.args.self.now.copies c.args.self.now.side c.args.self.now.code memory c.args.self.now.processor _ c.requires
          (subst (λ (v : HeldCore). v.processor.counter % 4 ≡ 0) c.self.view_is c.if-self-ne0.false) found,
    )
