mod Loops
mod FieldLaws
mod HeaderLaws
mod BodyLaws
mod ImageLaws
mod ReadLaws
mod FaultLaws
mod MakeLaws
pub mod Laws
