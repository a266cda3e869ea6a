pub mod EndLaws
pub mod VerdictLaws
mod EndSearch
mod FieldPairs
mod LineParts
mod LowerCase
mod Rests
mod Firsts
mod OneByOne
mod Places
mod KeptFields
mod LineSearch
mod Names
mod LineStarts
mod Unfolding
mod Occurs
