-- What a reviewer believes of the operations, bottom first.
pub mod Accepting
pub mod Answers
pub mod Refusing
pub mod Demands
pub mod TreePlans
pub mod FarPins
pub mod TwoFactors
pub mod Weightless
pub mod Marked
-- What serves the contracts of inner functions. Nothing of it need be believed.
pub mod Inner
