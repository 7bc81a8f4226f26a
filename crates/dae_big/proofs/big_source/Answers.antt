use Rattle.dae_big.proofs.Sizes.{parts_short}
use Rattle.dae_big.proofs.big_source.Goals as goal

pub returns-clause-short : goal.returns-clause-short
returns-clause-short c =
    parts_short c.args.count c.in_ok-out.out.items c.put_functions.new.out.items c.extend_from_slice.new.self.items c.put_calls.new.out.items
    c.extend_from_slice-2.new.self.items c.requires c.in_ok-out.ensures.items c.in_ok-put_functions.ensures c.in_ok-extend_from_slice.ensures.items
    c.in_ok-put_calls.ensures c.in_ok-extend_from_slice-2.ensures.items
