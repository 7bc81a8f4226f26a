use Rattle.dae_listing_laws.proofs.Listed.{listed}
use Rattle.dae_listing_laws.proofs.listings_are_read.Goals as goal

pub returns : goal.returns
returns c = listed
