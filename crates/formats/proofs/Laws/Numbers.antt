-- Decimal numbers: spelled, read digit by digit, held up to the cap, tested against a range.
pub mod Digits
pub mod Saturation
pub mod Signs
pub mod Spelling
pub mod Decimal
pub mod Ranges
