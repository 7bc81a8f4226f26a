use Rattle.std.proofs.Common.{◌≡◌, true, false, [], ◌∷◌, ◌++◌, sym, subst, ◌∙◌, if◌then◌else◌}
use Rattle.dae_unit.specs.Identities.{AreDeclaredIn}
use Rattle.dae_unit.specs.Placing.{is_first}
use Rattle.dae_unit_join.proofs.placing.place_row.Goals as goal

pub returns-in_ok-push-clause-seen : goal.returns-in_ok-push-clause-seen
returns-in_ok-push-clause-seen c =
    let files = c.args.files.now in
    let done = c.args.placed.now.items in
    let row = c.args.row in
    let keys = c.is_first.new.seen.keys in
    let first : is_first files done row ≡ true = sym (c.in_ok-first.ensures.first done c.requires) ∙ c.if-first.true in
    let seen = subst (λ b. AreDeclaredIn files (if b then done ++ row ∷ [] else done) keys) first (c.in_ok-first.ensures.seen done c.requires) in
    subst (λ xs. AreDeclaredIn files xs keys) (sym c.in_ok-push.ensures.items) seen

pub returns-else-first-clause-seen : goal.returns-else-first-clause-seen
returns-else-first-clause-seen c =
    let files = c.args.files.now in
    let done = c.args.placed.now.items in
    let row = c.args.row in
    let first : is_first files done row ≡ false = sym (c.in_ok-first.ensures.first done c.requires) ∙ c.if-first.false in
    subst (λ b. AreDeclaredIn files (if b then done ++ row ∷ [] else done) c.is_first.new.seen.keys) first (c.in_ok-first.ensures.seen done c.requires)
