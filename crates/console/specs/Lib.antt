-- What a reviewer believes of the programs' texts, bottom first.
pub mod Words
pub mod Printing
-- And of the text that they read.
pub mod Streams
-- What serves the contracts of inner functions. Nothing of it need be believed.
pub mod Inner
