-- What serves the contracts of inner functions.
pub mod NetWriting
pub mod NetSeen
pub mod ListingSeen
