-- What serves the contracts of inner functions, bottom first.
pub mod DerivedLimits
pub mod Arrays
pub mod Measuring
pub mod Views
pub mod Descent
pub mod Insertion
pub mod Regathering
