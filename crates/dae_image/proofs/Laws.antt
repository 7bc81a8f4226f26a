-- The laws of this crate that proofs of other crates use.
pub use Rattle.dae_image.proofs.FieldLaws.{IsIn-from_test}
pub use Rattle.dae_image.proofs.ReadLaws.{same_image}
pub use Rattle.dae_image.proofs.BodyLaws.{length-numbers}
pub use Rattle.dae_image.proofs.MakeLaws.{are_lines-push}
