-- Kraft's condition: as a sum of gaps, as the bound on every tree, and its maximum.
pub mod GapSums
pub mod Rivals
pub mod Maximum
