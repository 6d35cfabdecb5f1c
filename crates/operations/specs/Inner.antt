-- What serves the contracts of inner functions, bottom first.
pub mod Acceptance
