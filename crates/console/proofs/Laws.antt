-- The rooms of the buffers, the ranges of the measures, what stands in the buffers in the end, and that no answer is a part of another.
pub mod Rooms
pub mod Judgements
pub mod Answers
pub mod OneAnswer
pub mod Programs
