-- What serves the contracts of inner functions.
pub mod Choice
pub mod Places
