-- How far the numbers may go that the functions of this crate take, so that each result fits 64 bits. Each limit is far beyond the ranges of 01 and of 02.
use Rattle.std.specs.Prelude.{ℕ, ◌^◌}

-- a coordinate, a length, a wire factor or a count, a time that is multiplied by a count, a time
abbrev pub coordinate_reach : ℕ
coordinate_reach = 2 ^ 38

abbrev pub length_reach : ℕ
length_reach = 2 ^ 62

abbrev pub factor_reach : ℕ
factor_reach = 2 ^ 20

abbrev pub term_reach : ℕ
term_reach = 2 ^ 40

abbrev pub time_reach : ℕ
time_reach = 2 ^ 61
