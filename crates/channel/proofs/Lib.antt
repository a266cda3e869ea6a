pub mod ActLemmas
pub mod AnswerLemmas
mod Asked
pub mod Calling
mod Counting
pub mod Ending
pub mod GoingOn
mod Growing
pub mod Headline
pub mod LeftTurns
pub mod Opening
pub mod RightTurns
pub mod Seen
pub mod SideLemmas
pub mod StepLemmas
pub mod Texts
