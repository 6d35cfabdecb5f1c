-- The listing: its lines read, the whole text, its lines written and counted.
pub mod ListingLines
pub mod ListingTexts
pub mod OneText
pub mod ListingWriting
pub mod ListingLengths
