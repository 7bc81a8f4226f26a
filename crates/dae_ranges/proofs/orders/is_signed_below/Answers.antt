use Rattle.std.proofs.Common.{sym}
use Rattle.dae_ranges.proofs.Signed.{signed_always, signed_never, signed_maybe}
use Rattle.dae_ranges.proofs.orders.is_signed_below.Goals as goal

pub returns-then-greatest_x-least_y : goal.returns-then-greatest_x-least_y
returns-then-greatest_x-least_y c =
    sym (signed_always c.args.x c.args.y c.least_lifted-least_x.result c.greatest_lifted-greatest_x.result
    c.least_lifted-least_y.result c.greatest_lifted-greatest_y.result c.requires.words_x c.requires.words_y
    c.least_lifted-least_x.ensures c.greatest_lifted-greatest_x.ensures c.least_lifted-least_y.ensures
    c.greatest_lifted-greatest_y.ensures c.if-greatest_x-least_y.true)

pub returns-then-greatest_y-least_x : goal.returns-then-greatest_y-least_x
returns-then-greatest_y-least_x c =
    sym (signed_never c.args.x c.args.y c.least_lifted-least_x.result c.greatest_lifted-greatest_x.result
    c.least_lifted-least_y.result c.greatest_lifted-greatest_y.result c.requires.words_x c.requires.words_y
    c.least_lifted-least_x.ensures c.greatest_lifted-greatest_x.ensures c.least_lifted-least_y.ensures
    c.greatest_lifted-greatest_y.ensures c.if-greatest_x-least_y.false c.if-greatest_y-least_x.true)

pub returns-else-greatest_y-least_x : goal.returns-else-greatest_y-least_x
returns-else-greatest_y-least_x c =
    sym (signed_maybe c.args.x c.args.y c.least_lifted-least_x.result c.greatest_lifted-greatest_x.result
    c.least_lifted-least_y.result c.greatest_lifted-greatest_y.result c.requires.words_x c.requires.words_y
    c.least_lifted-least_x.ensures c.greatest_lifted-greatest_x.ensures c.least_lifted-least_y.ensures
    c.greatest_lifted-greatest_y.ensures c.if-greatest_x-least_y.false c.if-greatest_y-least_x.false)
