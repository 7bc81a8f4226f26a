-- What the crate with the code of a pair cites: from its code and its beginning on both sides to what is promised of every
-- run of its image.
pub use Rattle.dae_machine_rounds.proofs.Forms.{does_form}
pub use Rattle.dae_machine_rounds.proofs.Calls.{body_of}
pub use Rattle.dae_machine_rounds.proofs.RegionRounds.{IsRegion, rounds_ok}
