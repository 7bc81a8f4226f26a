use Rattle.std.proofs.Common.{length, refl, ap, sym, ◌∙◌, arith}
use Rattle.std.proofs.lemmas.Option.{slice_get_read}
use Rattle.dae_ir.specs.declared.stream.StreamFunction.{StreamFunction}
use Rattle.dae_link.proofs.Codes.{none_kept, one_kept, one_longer}
use Rattle.dae_link.proofs.leaf_codes.leaf_codes_of.Goals as goal

pub loop-index-init : goal.loop-index-init
loop-index-init c = record {
  codes = ap length c.new-codes.ensures.items;
  kept = none_kept c.args.layouts.now c.args.functions.now c.new-codes.result.items c.new-codes.ensures.items;
}

pub loop-index-preserved : goal.loop-index-preserved
loop-index-preserved c =
    let fs = c.args.functions.now in let l = c.loop-index in let f = c.index-functions-index.result in
    let before = l.codes.items in let new = c.push.new.self.items in let kept = c.in_ok-kept.kept in
    record {
      codes = one_longer before new kept l.index l.invariant.codes c.in_ok-push.ensures.items;
      kept = one_kept c.args.layouts.now fs before new l.index kept f c.as_slice-body.result.now l.invariant.codes
          (slice_get_read fs (length fs) l.index f refl c.loop-index-test.true c.index-functions-index.is) (c.as_slice-body.ensures ∙ ap (λ (g : StreamFunction). g.body) (sym c.index-functions-index.is)) c.in_ok-kept.ensures c.in_ok-push.ensures.items l.invariant.kept;
    }

pub returns-clause-codes : goal.returns-clause-codes
returns-clause-codes c =
    let l = c.loop-index in
    let long = l.invariant.codes in
    let end = c.loop-index-test.false in
    let most = l.auto.index-end in
    omega arith

pub returns-clause-kept : goal.returns-clause-kept
returns-clause-kept c = c.loop-index.invariant.kept
