use Rattle.std.proofs.Common.{◌≡◌, ◌∙◌, ap, drop, arith}
use Rattle.dae_unit.specs.declared.errors.Clash.TheVariants.{Types}
use Rattle.dae_unit.specs.Clashes.{first_clash}
use Rattle.dae_unit.proofs.Kept.{clash_back, no_clash_yet, none_later, later_back}
use Rattle.dae_unit.proofs.Known.{none_known}
use Rattle.dae_unit.proofs.clashes.first_difference.Goals as goal

pub loop-number-init : goal.loop-number-init
loop-number-init c =
    record {
      found = no_clash_yet c.args.files.now Types c.args.rows.now;
      known = none_known c.args.files.now c.new-known.result.entries c.new-known.ensures.empty;
      kept = none_later c.args.files.now c.args.rows.now c.new-later.result.entries c.new-later.ensures.empty;
    }

pub loop-number-preserved : goal.loop-number-preserved
loop-number-preserved c =
    let some = c.loop-number-test.true in
    let le = c.loop-number.auto.number in
    let l = c.loop-number in
    record {
      found = clash_back c.args.files.now c.args.rows.now l.number _ (omega arith) (omega arith) Types c.in_ok-other.other l.found c.nearest-found.result (c.in_ok-other.ensures.clash (drop l.number c.args.rows.now) l.invariant.kept) c.nearest-found.ensures l.invariant.found;
      known = c.in_ok-other.ensures.known;
      kept = later_back c.args.files.now c.args.rows.now l.number _ (omega arith) (omega arith) l.later.entries c.next_difference.new.later.entries c.in_ok-other.ensures.noted l.invariant.kept;
    }

pub returns : goal.returns
returns c =
    let first : c.loop-number.number ≡ 0 = (let end = c.loop-number-test.false in omega arith) in
    c.loop-number.invariant.found ∙ ap (λ n. first_clash c.args.files.now Types (drop n c.args.rows.now)) first
