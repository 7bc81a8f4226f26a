use Rattle.std.proofs.Common.{add-one}
use Rattle.dae_parse_states.proofs.LeftBehind.{behind_next}
use Rattle.dae_parse_states.proofs.rest.TokensLeft.behind.Goals as goal

pub returns-then-self : goal.returns-then-self
returns-then-self c = rw (← c.self.view_is, add-one) (behind_next c.self.inside.at c.self.inside.tokens.now)
