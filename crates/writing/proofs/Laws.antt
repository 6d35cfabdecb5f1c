-- Laws of the lengths and of the writers, bottom first.
pub mod LineLengths
pub mod Lines
pub mod ListingLines
pub mod NetLines
pub mod NetHead
pub mod NetParts
