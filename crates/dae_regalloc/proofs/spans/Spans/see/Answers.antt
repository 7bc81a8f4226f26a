use Rattle.std.proofs.Common.{◌+◌, refl, arith}
use Rattle.dae_select_live.specs.Members.{member}
use Rattle.dae_regalloc.specs.declared.spans.Spans.{Spans}
use Rattle.dae_regalloc.proofs.Widening.{seen_more}
use Rattle.dae_regalloc.proofs.spans.Spans.see.Goals as goal

pub overflow_add-self : goal.overflow_add-self
overflow_add-self c = let same = c.in_ok-see_variables.ensures in let e = same.places in omega arith

pub returns-clause-seen : goal.returns-clause-seen
returns-clause-seen c = λ places seen.
    let mid = c.see_variables.new.self in
    let new : Spans = record mid { places = mid.places + 1 } in
    seen_more c.args.self.now mid new (member c.args.set.now) places c.in_ok-see_variables.ensures refl refl refl seen

pub returns-clause-count : goal.returns-clause-count
returns-clause-count c = let same = c.in_ok-see_variables.ensures in let e = same.places in omega arith
