mod KindLaws
mod ProperLaws
mod ResultLaws
mod SideLaws
mod InstructionLaws
mod WalkLaws
mod AnswerLaws
mod OneAnswer
pub mod LawsOfAnswers
