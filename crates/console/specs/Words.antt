-- A refusal in plain words, for standard error: one row for each row of 01's table 'Refusals by text and line' and for those of 02's requests 2 and 8. Definitions alone.
use Rattle.std.specs.Prelude.{ℕ, zero, suc, List, [], ◌∷◌, ◌++◌}
use Rattle.formats.specs.Bytes.{bytes, end_byte}
use Rattle.formats.specs.Decimal.{show_nat}
use Rattle.formats.specs.Refusals.{told}
use Rattle.formats.specs.declared.refusal.Refusal.{Refusal}
use Rattle.formats.specs.declared.refusal.Refusal.TheVariants.{TooLong, NotDue, OutOfRange, BytesFollow, Unreachable, TooShort, OtherCount, SinkParent, WrongChildren, NotReached, OtherSlack, OtherWire, FarPin, NotScored, NotASink, OnlySink}

-- "wrong number of children; line 0 for the root, else the lowest such branch point's"
abbrev pub children_words : ℕ → List ℕ
children_words zero = bytes "the root has not exactly one child"
children_words (suc l) = bytes "this branch point has not exactly two children"

abbrev pub words : Refusal → List ℕ
-- "the text is over its length"
words (TooLong text) = bytes "the text is over its length"
-- "the line due here is missing, lacks its end byte, or has another key, shape, spelling or k than is due"
words (NotDue text line) = bytes "the line due here is missing, lacks its newline, or is misspelt"
-- "a number is out of range"
words (OutOfRange text line) = bytes "a number is out of range"
-- "bytes follow the last line"
words (BytesFollow text line) = bytes "bytes follow the last line"
-- "plan: no legal tree has worst slack t or more"
words Unreachable = bytes "no legal tree has the needed slack"
-- "plan: the output is shorter than the listing"
words TooShort = bytes "the output is shorter than the listing"
-- "n is not the net's"
words OtherCount = bytes "the number of sinks is not the net's"
-- "P is a sink"
words (SinkParent line) = bytes "the parent is a sink"
words (WrongChildren line) = children_words line
-- "the lowest vertex not reached from the root"
words (NotReached line) = bytes "this vertex is not reached from the root"
-- "W is not the worst slack", "L is not the wire"
words OtherSlack = bytes "the stated slack is not the tree's worst slack"
words OtherWire = bytes "the stated wire is not the tree's wire"
-- 02, request 2: "A sink more than" the pin limit "from the root is refused"
words (FarPin line) = bytes "the sink is too far from the root"
-- 02, request 8: "if A, B or the cap is out of range or min(..) is below -1,000,000,000,000"
words NotScored = bytes "alpha, beta or the cap is out of range, or the slack too low"
-- 02, request 9: "if the sink number is not 1 to n", "if n is 1"
words NotASink = bytes "the net has no sink of this number"
words OnlySink = bytes "the net has no other sink"

-- "Text 1 is the net, 2 the listing, 0 neither.": then it is the output, of which 6 tells (14, 15 and 16, the others of text 0, are those of a score and of a deletion, for which there is no program)
abbrev pub text_name : List ℕ → List ℕ → ℕ → List ℕ
text_name net listing zero = bytes "output"
text_name net listing (suc zero) = net
text_name net listing (suc (suc t)) = listing

-- the line, where one is meant: none is by 0
abbrev pub line_mark : ℕ → List ℕ
line_mark zero = []
line_mark (suc l) = bytes ":" ++ show_nat (suc l)

-- where the refusal is and why, as in `net.txt:4: no legal tree has the needed slack`. The two names are those of the net's text and the listing's
abbrev pub complaint : List ℕ → List ℕ → Refusal → List ℕ
complaint net listing e = text_name net listing (told e).text ++ (line_mark (told e).line ++ (bytes ": " ++ (words e ++ (end_byte ∷ []))))
