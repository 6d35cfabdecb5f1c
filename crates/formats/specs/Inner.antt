-- What serves the contracts of inner functions, bottom first.
pub mod Scanning
pub mod Ranging
pub mod Readers
pub mod ListingReader
pub mod Writing
