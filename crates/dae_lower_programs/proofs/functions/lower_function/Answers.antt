use Rattle.std.proofs.Common.{◌≡◌, ℕ, Bool, List, length, nat_eq, slice_get, Some, None, refl, ap, subst, sym, ◌∙◌}
use Rattle.std.proofs.lemmas.Option.{slice_get_past, slice_get_read}
use Rattle.dae_lower_programs.proofs.Wholes.{links_missing, links_there, numbers_missing, numbers_there}
use Rattle.dae_lower_programs.specs.Functions.{HasNumbersWith, IsFormWith}
use Rattle.dae_lower_programs.specs.Invocations.{at_startup}
use Rattle.dae_program.specs.declared.program.Links.{Links}
use Rattle.dae_lower_programs.proofs.functions.lower_function.Goals as goal

pub lower_with-requires-clause-numbers : goal.lower_with-requires-clause-numbers
lower_with-requires-clause-numbers c =
    let p = c.args.program.now in
    let f = c.args.f.now in
    let all = c.as_slice.result.now in
    let links = c.in-Some.links.now in
    let look = c.in-Some.ensures.lookup in
    let here : slice_get p.links f.file ≡ Some links = ap (λ (ls : List Links). slice_get ls f.file) (sym c.as_slice.ensures) ∙ slice_get_read all (length all) f.file links refl look.3.0 look.1 in
    subst (λ (main : Bool). HasNumbersWith c.args.none links main f) (sym c.invocation_of-invocation.ensures)
    (subst (λ (none : ℕ). HasNumbersWith none links (nat_eq c.args.number p.main) f) (sym c.requires.none) (numbers_there p links c.args.number f here c.requires.numbers))

pub lower_with-requires-in-None-clause-numbers : goal.lower_with-requires-in-None-clause-numbers
lower_with-requires-in-None-clause-numbers c =
    let p = c.args.program.now in
    let f = c.args.f.now in
    let nothing : Links = record { addresses = c.new.result; functions = c.new-in-None.result } in
    let none_there : slice_get p.links f.file ≡ None = ap (λ (ls : List Links). slice_get ls f.file) (sym c.as_slice.ensures) ∙ slice_get_past c.as_slice.result.now f.file c.in-None.ensures.lookup.3 in
    subst (λ (main : Bool). HasNumbersWith c.args.none nothing main f) (sym c.invocation_of-invocation.ensures)
    (subst (λ (none : ℕ). HasNumbersWith none nothing (nat_eq c.args.number p.main) f) (sym c.requires.none) (numbers_missing p nothing c.args.number f none_there c.new.ensures c.new-in-None.ensures c.requires.numbers))

pub returns-in_ok-g-in-Some : goal.returns-in_ok-g-in-Some
returns-in_ok-g-in-Some c =
    let p = c.args.program.now in
    let f = c.args.f.now in
    let all = c.as_slice.result.now in
    let links = c.in-Some.links.now in
    let look = c.in-Some.ensures.lookup in
    let here : slice_get p.links f.file ≡ Some links = ap (λ (ls : List Links). slice_get ls f.file) (sym c.as_slice.ensures) ∙ slice_get_read all (length all) f.file links refl look.3.0 look.1 in
    links_there p links c.args.number f c.in_ok-g-in-Some.g here
    (subst (λ (main : Bool). IsFormWith (length p.functions) links main f c.in_ok-g-in-Some.g) c.invocation_of-invocation.ensures
    (subst (λ (none : ℕ). IsFormWith none links (at_startup c.invocation_of-invocation.result) f c.in_ok-g-in-Some.g) c.requires.none c.in_ok-g-in-Some.ensures))

pub returns-in_ok-g-in-None : goal.returns-in_ok-g-in-None
returns-in_ok-g-in-None c =
    let p = c.args.program.now in
    let f = c.args.f.now in
    let nothing : Links = record { addresses = c.new.result; functions = c.new-in-None.result } in
    let none_there : slice_get p.links f.file ≡ None = ap (λ (ls : List Links). slice_get ls f.file) (sym c.as_slice.ensures) ∙ slice_get_past c.as_slice.result.now f.file c.in-None.ensures.lookup.3 in
    links_missing p nothing c.args.number f c.in_ok-g-in-None.g none_there c.new.ensures c.new-in-None.ensures
    (subst (λ (main : Bool). IsFormWith (length p.functions) nothing main f c.in_ok-g-in-None.g) c.invocation_of-invocation.ensures
    (subst (λ (none : ℕ). IsFormWith none nothing (at_startup c.invocation_of-invocation.result) f c.in_ok-g-in-None.g) c.requires.none c.in_ok-g-in-None.ensures))
