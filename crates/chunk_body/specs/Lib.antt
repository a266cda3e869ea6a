pub mod Answers
pub mod Bodies
pub mod Coded
pub mod Pieces
pub mod Reading
pub mod Verdicts
