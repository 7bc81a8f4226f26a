use Rattle.std.proofs.Common.{arith}
use Rattle.dae_cli_words.proofs.Spelling.{is_parted, no_comma, no_address, no_count, one_shown}
use Rattle.dae_cli_words.proofs.numbers.shown_of.Goals as goal

pub returns-in_err-address : goal.returns-in_err-address
returns-in_err-address c = rw c.from_residual.ensures (no_comma c.args.value.now c.in_err-address.ensures.cases)

pub returns-in_err-address-2 : goal.returns-in_err-address-2
returns-in_err-address-2 c =
    let parts = is_parted 44 c.args.value.now (c.in_ok-address.address, c.in_ok-address.count) (omega arith) c.in_ok-address.ensures.cases in
    rw c.from_residual-in_err-address-2.ensures (no_address c.args.value.now _ _ parts c.in_err-address-2.ensures)

pub returns-in_err-count : goal.returns-in_err-count
returns-in_err-count c =
    let parts = is_parted 44 c.args.value.now (c.in_ok-address.address, c.in_ok-address.count) (omega arith) c.in_ok-address.ensures.cases in
    rw c.from_residual-in_err-count.ensures (no_count c.args.value.now _ _ parts c.in_err-count.ensures)

pub returns : goal.returns
returns c =
    let parts = is_parted 44 c.args.value.now (c.in_ok-address.address, c.in_ok-address.count) (omega arith) c.in_ok-address.ensures.cases in
    rw c.new.ensures (one_shown c.args.value.now _ _ c.in_ok-address-2.field-0 c.in_ok-count.field-0 parts c.in_ok-address-2.ensures c.in_ok-count.ensures)
