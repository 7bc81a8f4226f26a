use Rattle.std.proofs.Common.{◌≡◌, ℕ, suc, ◌+◌, ◌<◌, List, length, refl, sym, subst, ap, ◌∙◌, drop, arith}
use Rattle.dae_ir.specs.Streams.{actions_of}
use Rattle.dae_ir.specs.declared.stream.Step.{Step}
use Rattle.dae_select_walks.specs.Facts.{Facts}
use Rattle.dae_select_facts.specs.Knowns.{facts_by}
use Rattle.dae_select_facts.specs.Along.{facts_after, facts_at, IsBefore}
use Rattle.dae_select_facts.proofs.Asked.{unasked_before}
use Rattle.dae_select_facts.proofs.Lists.{BeforeFirst, facts_next, none_before, all_told, one_before}
use Rattle.dae_select_facts.proofs.Turning.{rest_is}
use Rattle.dae_select_facts.proofs.along.all_before.Goals as goal

pub loop-index-init : goal.loop-index-init
loop-index-init c = record {
  all = none_before c.args.memory (facts_by c.args.known) c.args.steps.now c.new-all.result.items c.new-all.ensures.items;
  known = λ lt. refl;
}

pub loop-index-preserved : goal.loop-index-preserved
loop-index-preserved c =
    let a = c.args in let m = a.memory in let begin = facts_by a.known in let steps = a.steps.now in
    let l = c.loop-index in let i = l.index in let s = c.index-steps-index.result in
    let before = c.loop-index-test.true in let within = c.count_asked-asked.ensures.within in
    let lt : i < length steps = omega arith in
    let b = c.in_ok-told_before.field-0 in
    let told : IsBefore m (facts_at m begin steps i) s (actions_of (drop (i + 1) steps)) b.need (facts_by b.known) =
    subst (λ (f : Facts). IsBefore m f s (actions_of (drop (i + 1) steps)) b.need (facts_by b.known)) (l.invariant.known before)
    (subst (λ (z : List Step). IsBefore m (facts_by l.known) s (actions_of z) b.need (facts_by b.known)) (rest_is (i + 1) steps) c.in_ok-told_before.ensures) in
    let next : suc i ≡ i + 1 = omega arith in
    record {
      all = one_before m begin steps l.all.items c.push.new.self.items i s b (drop (i + 1) steps) lt c.index-steps-index.is c.in_ok-push.ensures.items refl told l.invariant.all;
      known = λ more. c.in_ok-known.ensures more ∙ ap (λ (f : Facts). facts_after m s f) (l.invariant.known before) ∙ sym (facts_next m begin steps i s lt c.index-steps-index.is) ∙ ap (λ (n : ℕ). facts_at m begin steps n) next;
    }

pub loop-place-init : goal.loop-place-init
loop-place-init c =
    let l = c.loop-index in
    let end = c.loop-index-test.false in let most = l.auto.index-end in
    let asked : l.index ≡ c.count_asked-asked.result = omega arith in
    subst (λ (n : ℕ). BeforeFirst c.args.memory (facts_by c.args.known) c.args.steps.now l.all.items n) asked l.invariant.all

pub loop-place-preserved : goal.loop-place-preserved
loop-place-preserved c =
    let a = c.args in let m = a.memory in let begin = facts_by a.known in let steps = a.steps.now in
    let l = c.loop-place in let i = l.place in let s = c.index-steps-place.result in
    let lt = c.loop-place-test.true in
    let b = c.in_ok-told_before-2.field-0 in
    let known = facts_by c.loop-index.known in
    let told : IsBefore m known s (actions_of (drop (i + 1) steps)) b.need (facts_by b.known) =
    subst (λ (z : List Step). IsBefore m known s (actions_of z) b.need (facts_by b.known)) (rest_is (i + 1) steps) c.in_ok-told_before-2.ensures in
    let unasked = c.count_asked-asked.ensures.rest i s l.auto.place lt c.index-steps-place.is in
    one_before m begin steps l.all.items c.push-in-loop-place.new.self.items i s b (drop (i + 1) steps) lt c.index-steps-place.is c.in_ok-push-2.ensures.items refl
    (unasked_before m known (facts_at m begin steps i) s (actions_of (drop (i + 1) steps)) b.need (facts_by b.known) unasked told) l.invariant

pub returns : goal.returns
returns c =
    let a = c.args in let l = c.loop-place in
    let end = c.loop-place-test.false in let within = c.count_asked-asked.ensures.within in let most = l.auto.place-end within in
    all_told a.memory (facts_by a.known) a.steps.now l.all.items l.place (omega arith) l.invariant
