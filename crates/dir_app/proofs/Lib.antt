pub mod FileLemmas
pub mod MediaLemmas
pub mod NameLemmas
pub mod TextLemmas
pub mod LastPart
pub mod NameLaws
