-- What serves the contracts of inner functions.
pub mod SinkSplits
pub mod Measuring
