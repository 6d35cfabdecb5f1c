-- The laws of nets, trees and planning, by theme.
pub mod Lists
pub mod Trees
pub mod Kraft
pub mod Measures
pub mod Planning
pub mod Gathering
pub mod Settling
pub mod Arrays
