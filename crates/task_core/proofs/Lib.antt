pub mod Appending
mod Chains
mod ErrorTexts
mod Failing
mod Going
mod HeadLines
mod HexDigits
mod Lengths
mod Openings
mod Pieces
mod Recasing
mod SortedLines
mod Sorting
mod Tables
mod Testing
