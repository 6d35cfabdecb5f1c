-- The lengths of the two texts and the pin limit, as 02's request 5 has them, each once; the other limits stand in the tree's own. Definitions alone.
use Rattle.std.specs.Prelude.{ℕ}

-- 02, request 5: "Both texts may have 32,768 bytes."
abbrev pub net_length_limit : ℕ
net_length_limit = 32_768

abbrev pub listing_length_limit : ℕ
listing_length_limit = 32_768

-- "The pin limit of request 2 is 40,000,000": a sink more than so many nanometres from the root is refused
abbrev pub pin_limit : ℕ
pin_limit = 40_000_000
