-- A line more, a line that is none, and the end.
use Rattle.std.proofs.Common.{◌≡◌, ◌∙◌, ℕ, Bool, true, false, List, [], ◌∷◌, length, refl, rules, arith}
use Rattle.std.specs.Prelude.{◌==◌, Some, None}
use Rattle.std.proofs.lemmas.Bool.Decides.{nat_tests}
use Rattle.dae_machine.specs.declared.Rest.TheVariants.{Final, Stuck}
use Rattle.dae_trace.proofs.Following.{bad_line, begins, ends_final, ends_stuck, goes_on, not_a_run, one_more, rests_so, split_first}
use Rattle.dae_trace.proofs.checking.follow.Goals as goal

empty : (xs : List ℕ) (b : Bool) → b ≡ (length xs == 0) → b ≡ true → xs ≡ []
empty [] b is e = refl
empty (x ∷ xs) b is e = absurd (let f : b ≡ false = is ∙ grind (arith, nat_tests) in cc)

pub loop-rest-init : goal.loop-rest-init
loop-rest-init c = begins _ _ c.requires.begun c.requires.numbered

pub returns-in_default : goal.returns-in_default
returns-in_default c =
    let way = c.loop-rest.invariant in
    let first = split_first c.loop-rest.rest.now c.split_at.result.0.now c.split_at.result.1.now c.line_len.result c.line_len.ensures.first c.split_at.ensures.front c.split_at.ensures.back in
    bad_line _ _ _ _ _ way c.split_at.result.0.now c.split_at.result.1.now (omega (arith, way.steps, way.long)) first c.in_default.ensures

pub returns-then-not-step_by : goal.returns-then-not-step_by
returns-then-not-step_by c =
    let way = c.loop-rest.invariant in
    let first = split_first c.loop-rest.rest.now c.split_at.result.0.now c.split_at.result.1.now c.line_len.result c.line_len.ensures.first c.split_at.ensures.front c.split_at.ensures.back in
    not_a_run _ _ _ _ _ way c.split_at.result.0.now c.split_at.result.1.now c.in-Some.pick (omega (arith, way.steps, way.long)) first c.in-Some.ensures
    (c.step_by.ensures.none (search rules)).1

pub loop-rest-preserved : goal.loop-rest-preserved
loop-rest-preserved c =
    let way = c.loop-rest.invariant in
    let first = split_first c.loop-rest.rest.now c.split_at.result.0.now c.split_at.result.1.now c.line_len.result c.line_len.ensures.first c.split_at.ensures.front c.split_at.ensures.back in
    let done = c.step_by.ensures.done (search rules) in
    one_more _ _ _ _ _ way _ c.in-Some.pick c.split_at.result.0.now c.split_at.result.1.now done.1.0 first.bytes_are first.some done.0 done.1.1

pub returns-in-Some-Final : goal.returns-in-Some-Final
returns-in-Some-Final c =
    let way = c.loop-rest.invariant in
    let none : c.loop-rest.rest.now ≡ [] = empty c.loop-rest.rest.now c.is_empty.result c.is_empty.ensures (search rules) in
    let rests = rests_so c.rest.result (Some (Final c.in-Some-Final.end)) _ _ (cc) c.rest.ensures in
    ends_final _ _ _ _ _ way c.in-Some-Final.end none rests.0 rests.1

pub returns-in-Some-Stuck : goal.returns-in-Some-Stuck
returns-in-Some-Stuck c =
    let way = c.loop-rest.invariant in
    let none : c.loop-rest.rest.now ≡ [] = empty c.loop-rest.rest.now c.is_empty.result c.is_empty.ensures (search rules) in
    let rests = rests_so c.rest.result (Some Stuck) _ _ (cc) c.rest.ensures in
    ends_stuck _ _ _ _ _ way none rests

pub returns-in-None : goal.returns-in-None
returns-in-None c =
    let way = c.loop-rest.invariant in
    let none : c.loop-rest.rest.now ≡ [] = empty c.loop-rest.rest.now c.is_empty.result c.is_empty.ensures (search rules) in
    let rests = rests_so c.rest.result None _ _ (cc) c.rest.ensures in
    goes_on _ _ _ _ _ way none rests.0 rests.1 rests.2
