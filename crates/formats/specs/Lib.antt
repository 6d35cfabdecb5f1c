-- What a reviewer believes of the two texts, bottom first.
pub mod Limits
pub mod Decimal
pub mod Bytes
pub mod Line
pub mod Refusals
pub mod Outcome
pub mod Ranges
pub mod NetText
pub mod ListingText
pub mod FirstFar
pub mod Faults
pub mod TextLengths
-- How they are read, of which nothing need be believed, and what that comes to.
pub mod Reading
pub mod TextAnswers
-- What serves the contracts of inner functions. Nothing of it need be believed.
pub mod Inner
