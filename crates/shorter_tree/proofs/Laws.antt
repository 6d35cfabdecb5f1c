-- Laws of a net and a tree without one of the sinks, bottom first.
pub mod Dropping
pub mod Numbers
pub mod ShorterPaths
pub mod ShorterLegal
pub mod Kept
pub mod Closing
pub mod HeldShorter
pub mod ShorterInRange
pub mod Shortened
