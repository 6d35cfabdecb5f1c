-- How the two texts are read, step by step, as the code does it. Nothing of it need be believed: TextAnswers says what it comes to.
pub mod Numbers
pub mod Rows
pub mod Lines
pub mod Nets
pub mod Listings
