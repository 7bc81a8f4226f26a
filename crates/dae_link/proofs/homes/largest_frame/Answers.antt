use Rattle.std.proofs.Common.{◌≡◌, ◌+◌, ◌-◌, ◌<◌, ◌^◌, ◌++◌, List, [], ◌∷◌, take, drop, ap, sym, subst, ◌∙◌, arith}
use Rattle.std.specs.List.{AllByRecursion}
use Rattle.std.proofs.lemmas.List.{take_more, take_all}
use Rattle.dae_base.proofs.Laws.{drop_at}
use Rattle.dae_select_calls.specs.declared.layouts.FunctionLayout.{FunctionLayout}
use Rattle.dae_link.specs.Settled.{IsFrameWithin}
use Rattle.dae_link.proofs.Settling.{frames_more, most_more}
use Rattle.dae_link.proofs.homes.largest_frame.Goals as goal

pub loop-layout-preserved : goal.loop-layout-preserved
loop-layout-preserved c =
    let i = c.loop-layout.layout-index in
    let ls = c.args.layouts.now in
    let x = c.layout-item.result in
    let old = c.loop-layout.largest in let new = c.max-largest.result in
    let more : take (i + 1) ls ≡ take i ls ++ x ∷ [] = take_more ls i x c.loop-layout-test.true ∙ ap (λ (l : FunctionLayout). take i ls ++ l ∷ []) (sym c.layout-item.is) in
    let here : drop i ls ≡ x ∷ drop (i + 1) ls = drop_at ls i x c.loop-layout-test.true c.layout-item.is in
    let few = subst (λ (xs : List FunctionLayout). AllByRecursion (λ (l : FunctionLayout). l.variables < 2 ^ 26 - 19) xs) here c.loop-layout.invariant.rest in
    let larger = c.max-largest.ensures in let low = few.0 in let some = c.loop-layout.invariant.least in let most = c.loop-layout.invariant.most in
    record {
      rest = few.1;
      all = subst (λ (xs : List FunctionLayout). AllByRecursion (IsFrameWithin new) xs) (sym more) (frames_more old new (take i ls) x c.loop-layout.invariant.all (omega arith) (omega arith));
      few = λ n least all.
          most_more old new (take i ls) x c.loop-layout.invariant.few (λ k least so_far one. omega (arith, larger)) n least (subst (λ (xs : List FunctionLayout). AllByRecursion (IsFrameWithin n) xs) more all);
      least = omega arith;
      most = omega arith;
    }

pub returns-clause-few : goal.returns-clause-few
returns-clause-few c = λ n some all.
    let whole = take_all c.loop-layout.layout-index c.args.layouts.now (omega (arith, c.loop-layout-test.false)) in
    c.loop-layout.invariant.few n some (subst (λ (xs : List FunctionLayout). AllByRecursion (IsFrameWithin n) xs) (sym whole) all)
