use Rattle.dae_link_faithful.proofs.Joined.{joined}
use Rattle.dae_link_faithful.proofs.Usable.{usable}
use Rattle.dae_link_faithful.proofs.made_does_form.Goals as goal

pub returns : goal.returns
returns c = λ ir tables cap pair image ready least is_pair is_budget made. joined ir tables cap image (usable ir ready) least pair is_pair is_budget made
