-- One line: its text, how it is scanned, what is due on it, and how outcomes follow each other.
pub mod Keys
pub mod Rows
pub mod Lines
pub mod OneLine
pub mod Outcomes
pub mod Refusals
pub mod Due
pub mod DueTexts
pub mod Ends
pub mod Elements
