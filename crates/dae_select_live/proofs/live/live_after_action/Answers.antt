use Rattle.std.proofs.Common.{inl, inr}
use Rattle.dae_select_live.proofs.live.live_after_action.Goals as goal

pub returns-in-Stop : goal.returns-in-Stop
returns-in-Stop c = λ n. elim c.in-Stop.is [ inl h ↦ rw h.1 c.new.ensures | inr h ↦ rw h.1 c.new.ensures ]
