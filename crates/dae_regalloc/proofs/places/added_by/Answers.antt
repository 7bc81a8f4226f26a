use Rattle.std.proofs.Common.{◌≡◌, ℕ, Option, Some, None, ap, sym, ◌∙◌}
use Rattle.dae_select_live.specs.Members.{member}
use Rattle.dae_select_walks.specs.Live.{with_all, is, sets}
use Rattle.dae_regalloc.proofs.Entering.{with_none, with_one, with_same}
use Rattle.dae_regalloc.proofs.places.added_by.Goals as goal

pub returns-then-there-clause-none : goal.returns-then-there-clause-none
returns-then-there-clause-none c =
    let e : is (Some c.in-Some.variable) ≡ sets c.args.action.now = ap (λ (o : Option ℕ). is o) (sym c.in-Some.is) ∙ c.set_by.ensures in
    with_same c.in-Some.variable (member c.args.before.now) (sets c.args.action.now) e (sym c.contains-there.ensures ∙ c.if-there.true)

pub returns-else-there-clause-some : goal.returns-else-there-clause-some
returns-else-there-clause-some c =
    let m = member c.args.before.now in
    let e : is (Some c.in-Some.variable) ≡ sets c.args.action.now = ap (λ (o : Option ℕ). is o) (sym c.in-Some.is) ∙ c.set_by.ensures in
    (sym c.contains-there.ensures ∙ c.if-there.false, with_one c.in-Some.variable m ∙ ap (with_all m) e)

pub returns-in-None-clause-none : goal.returns-in-None-clause-none
returns-in-None-clause-none c =
    let m = member c.args.before.now in
    let e : is None ≡ sets c.args.action.now = ap (λ (o : Option ℕ). is o) (sym c.in-None.is) ∙ c.set_by.ensures in
    ap (with_all m) (sym e) ∙ sym (with_none m)
