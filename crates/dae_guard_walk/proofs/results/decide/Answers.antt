use Rattle.std.proofs.Common.{◌≡◌, Bool, not}
use Rattle.std.specs.Prelude.{nat_eq, nat_lt, int_lt}
use Rattle.dae_base.specs.Words.{signed}
use Rattle.dae_guard_walk.proofs.ResultLaws.{turned_is}
use Rattle.dae_guard_walk.proofs.results.decide.Goals as goal

pub returns-in-Unequal : goal.returns-in-Unequal
returns-in-Unequal c =
    rw c.in-Unequal.is (turned_is (λ v w. nat_eq v w) c.args.x c.args.y c.is_equal-in-Unequal.result c.turned.result c.requires.x c.requires.y c.is_equal-in-Unequal.ensures c.turned.ensures)

pub returns-in-NotBelow : goal.returns-in-NotBelow
returns-in-NotBelow c =
    rw c.in-NotBelow.is (turned_is (λ v w. nat_lt v w) c.args.x c.args.y c.is_below-in-NotBelow.result c.turned-in-NotBelow.result c.requires.x c.requires.y c.is_below-in-NotBelow.ensures c.turned-in-NotBelow.ensures)

pub returns-in-NotSignedBelow : goal.returns-in-NotSignedBelow
returns-in-NotSignedBelow c =
    rw c.in-NotSignedBelow.is (turned_is (λ v w. int_lt (signed v) (signed w)) c.args.x c.args.y c.is_signed_below-in-NotSignedBelow.result c.turned-in-NotSignedBelow.result c.requires.x c.requires.y c.is_signed_below-in-NotSignedBelow.ensures c.turned-in-NotSignedBelow.ensures)
