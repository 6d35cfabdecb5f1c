pub mod Numbers
pub mod Lines
pub mod Writing
pub mod Nets
pub mod Listings
pub mod Faults
pub mod TextLengths
pub mod Held
