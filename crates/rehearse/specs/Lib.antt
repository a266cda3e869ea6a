pub mod Between
pub mod Falling
pub mod Looked
pub mod Rehearsed
