use Rattle.dae_listing_laws.proofs.Short.{short}
use Rattle.dae_listing_laws.proofs.listings_are_short.Goals as goal

pub returns : goal.returns
returns c = short
