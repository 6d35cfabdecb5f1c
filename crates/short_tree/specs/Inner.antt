-- What serves the contracts of inner functions, bottom first.
pub mod Searching
pub mod Arrays
