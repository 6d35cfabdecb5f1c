-- Sums, ranges, searches and filled places: lists and numbers, without nets or trees.
pub mod Sums
pub mod Tables
pub mod Distinct
pub mod Searching
pub mod Gaps
pub mod Filling
