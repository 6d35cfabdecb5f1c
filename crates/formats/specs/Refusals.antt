-- The refusals, by number, text and line: document 01, 'Refusals by text and line', with the rows of 02's requests 2, 8 and 9. Definitions alone.
use Rattle.std.specs.Prelude.{ℕ}
use Rattle.formats.specs.declared.refusal.Text.{Text}
use Rattle.formats.specs.declared.refusal.Text.TheVariants.{InNet, InListing}
use Rattle.formats.specs.declared.refusal.Refusal.{Refusal}
use Rattle.formats.specs.declared.refusal.Refusal.TheVariants.{TooLong, NotDue, OutOfRange, BytesFollow, Unreachable, TooShort, OtherCount, SinkParent, WrongChildren, NotReached, OtherSlack, OtherWire, FarPin, NotScored, NotASink, OnlySink}
use Rattle.formats.specs.declared.refusal.Told.{Told}

-- "Text 1 is the net, 2 the listing, 0 neither."
abbrev pub text_number : Text → ℕ
text_number InNet = 1
text_number InListing = 2

-- number, text and line of every refusal
abbrev pub told : Refusal → Told
-- "the text is over its length"
told (TooLong text) = record { number = 1; text = text_number text; line = 0 }
-- "the line due here is missing, lacks its end byte, or has another key, shape, spelling or k than is due"
told (NotDue text line) = record { number = 2; text = text_number text; line = line }
-- "a number is out of range"
told (OutOfRange text line) = record { number = 3; text = text_number text; line = line }
-- "bytes follow the last line"
told (BytesFollow text line) = record { number = 4; text = text_number text; line = line }
-- "plan: no legal tree has worst slack t or more"
told Unreachable = record { number = 5; text = 1; line = 4 }
-- "plan: the output is shorter than the listing"
told TooShort = record { number = 6; text = 0; line = 0 }
-- "n is not the net's"
told OtherCount = record { number = 7; text = 2; line = 3 }
-- "P is a sink"
told (SinkParent line) = record { number = 8; text = 2; line = line }
-- "wrong number of children"
told (WrongChildren line) = record { number = 9; text = 2; line = line }
-- "the lowest vertex not reached from the root"
told (NotReached line) = record { number = 10; text = 2; line = line }
-- "W is not the worst slack", "L is not the wire"
told OtherSlack = record { number = 11; text = 2; line = 1 }
told OtherWire = record { number = 12; text = 2; line = 2 }
-- 02, request 2: "13, text 1, the sink's line"
told (FarPin line) = record { number = 13; text = 1; line = line }
-- 02, request 8: "14, text 0, line 0, if A, B or the cap is out of range or min(..) is below -1,000,000,000,000"
told NotScored = record { number = 14; text = 0; line = 0 }
-- 02, request 9: "15, text 0, line 0, if the sink number is not 1 to n; 16, likewise, if n is 1"
told NotASink = record { number = 15; text = 0; line = 0 }
told OnlySink = record { number = 16; text = 0; line = 0 }
