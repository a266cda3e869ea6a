mod AskedLemmas
mod BodyLemmas
mod BodyMoves
mod Fronts
pub mod Growing
mod HeadMoves
mod LaterLemmas
mod RoomLemmas
mod RunLemmas
mod SeekLemmas
mod StoryLemmas
pub mod UnitLemmas
mod Ways
mod Shutting
