-- The three lines are put: each where the one before it ends.
use Rattle.std.proofs.Common.{◌≡◌, ◌<◌, ◌^◌, ◌+◌, sym, zero, suc, get_or, ◌≤◌, ◌++◌, ℕ, ℤ, pos, List, [], ◌∷◌, length, arith, ap, subst, ◌∙◌, w64, to_z}
use Rattle.quantities.specs.Ranges.{Within}
use Rattle.quantities.specs.Inner.Linear.{rd}
use Rattle.tree.specs.Limits.{slack_limit, wire_limit}
use Rattle.formats.specs.Line.{line_text}
use Rattle.formats.specs.NetText.{wire_key}
use Rattle.formats.specs.ListingText.{slack_key}
use Rattle.formats.specs.Inner.Writing.{Puts, Writable}
use Rattle.formats.proofs.Laws.Numbers.Signs.{plain_back}
use Rattle.formats.proofs.Laws.Writing.{fits_first, fits_next, puts_both}
use Rattle.formats.proofs.Laws.Listings.ListingWriting.{within_writable, within_back}
use Rattle.operations.specs.Answers.{Judgement}
use Rattle.console.specs.Printing.{best_key, measures_text, answer_room}
use Rattle.console.proofs.Laws.Rooms.{measures_short}
use Rattle.console.proofs.lines.put_measures.Goals as goal

abbrev measured : ℤ → ℕ → ℤ → Judgement
measured slack wire best = record { slack = slack; wire = wire; best = best }

abbrev slack_line : Judgement → List ℕ
slack_line j = line_text slack_key (j.slack ∷ [])

abbrev wire_line : Judgement → List ℕ
wire_line j = line_text wire_key (pos j.wire ∷ [])

abbrev best_line : Judgement → List ℕ
best_line j = line_text best_key (j.best ∷ [])

-- one number is all of a line
one : (z : ℤ) → Writable z → (k : ℕ) (d : ℤ) → k < 1 → Writable (get_or (z ∷ []) k d)
one z w zero d h = w
one z w (suc k) d h = absurd (omega (arith, h))

-- what a line of the number x asks for, where x is y
fits : (key : List ℕ) (x y : ℤ) (at n : ℕ) → x ≡ y → Writable y → at + length (line_text key (y ∷ [])) ≤ n → (8 < 2 ^ 63) × ((1 ≤ 1) × (((k : ℕ) (d : ℤ) → k < 1 → Writable (get_or (x ∷ []) k d)) × (at + length (line_text key (x ∷ [])) ≤ n)))
fits key x y at n e w h = (omega arith, (omega arith, (one x (subst Writable (sym e) w), subst (λ (z : ℤ). at + length (line_text key (z ∷ [])) ≤ n) (sym e) h)))

-- a line of a number that is equal
line_of : (key l : List ℕ) (at : ℕ) (x y : ℤ) (n : ℕ) (left : List ℕ) → x ≡ y → Puts l at (line_text key (x ∷ [])) n left → Puts l at (line_text key (y ∷ [])) n left
line_of key l at x y n left e p = subst (λ (z : ℤ). Puts l at (line_text key (z ∷ [])) n left) e p

module _ (out : List ℕ) (j : Judgement) (within : Within slack_limit j.slack × (j.wire ≤ wire_limit) × Within slack_limit j.best) (r : answer_room ≤ length out) where
  room : 0 + length ((slack_line j ++ wire_line j) ++ best_line j) ≤ length out
  room = omega (arith, r, measures_short j within.0 within.1 within.2)

  front_room : 0 + length (slack_line j ++ wire_line j) ≤ length out
  front_room = fits_first out 0 (slack_line j ++ wire_line j) (best_line j) room

  slack_fits : 0 + length (slack_line j) ≤ length out
  slack_fits = fits_first out 0 (slack_line j) (wire_line j) front_room

  module _ (n1 : ℕ) (out1 : List ℕ) (first : Puts out 0 (slack_line j) n1 out1) where
    wire_fits : n1 + length (wire_line j) ≤ length out1
    wire_fits = fits_next _ _ (slack_line j) (wire_line j) front_room _ _ first

    module _ (n2 : ℕ) (out2 : List ℕ) (second : Puts out1 n1 (wire_line j) n2 out2) where
      front_put : Puts out 0 (slack_line j ++ wire_line j) n2 out2
      front_put = puts_both _ _ (slack_line j) (wire_line j) front_room _ _ first _ _ second

      best_fits : n2 + length (best_line j) ≤ length out2
      best_fits = fits_next _ _ (slack_line j ++ wire_line j) (best_line j) room _ _ front_put

      all_put : (n3 : ℕ) (out3 : List ℕ) → Puts out2 n2 (best_line j) n3 out3 → Puts out 0 (measures_text j) n3 out3
      all_put n3 out3 last = puts_both _ _ (slack_line j ++ wire_line j) (best_line j) room _ _ front_put _ _ last

-- the numbers that are put
module _ (j : Judgement) (within : Within slack_limit j.slack × (j.wire ≤ wire_limit) × Within slack_limit j.best) where
  slack_back : (z : ℤ) → z ≡ j.slack → rd z ≡ j.slack
  slack_back z e = ap rd e ∙ within_back slack_limit _ (omega arith) within.0

  wire_back : (n : ℕ) → n ≡ j.wire → to_z w64 n ≡ pos j.wire
  wire_back n e = ap (to_z w64) e ∙ plain_back _ (omega (arith, within.1))

  best_back : (z : ℤ) → z ≡ j.best → rd z ≡ j.best
  best_back z e = ap rd e ∙ within_back slack_limit _ (omega arith) within.2

pub put_line-first-requires : goal.put_line-first-requires
put_line-first-requires c =
    let a = c.args in
    let j = measured a.judged.slack.0 a.judged.wire.0 a.judged.best.0 in
    let w = c.requires.within in
    fits slack_key _ _ _ _ (slack_back j w _ c.attoseconds.ensures) (within_writable slack_limit _ (omega arith) w.0) (slack_fits a.out.now j w c.requires.answer_room_in_bounds)

pub put_line-second-requires : goal.put_line-second-requires
put_line-second-requires c =
    let a = c.args in
    let j = measured a.judged.slack.0 a.judged.wire.0 a.judged.best.0 in
    let w = c.requires.within in
    let first = line_of slack_key _ _ _ _ _ _ (slack_back j w _ c.attoseconds.ensures) c.put_line-first.ensures in
    fits wire_key _ _ _ _ (wire_back j w _ c.nanometres.ensures) (omega (arith, w.1)) (wire_fits a.out.now j w c.requires.answer_room_in_bounds _ _ first)

pub put_line-requires : goal.put_line-requires
put_line-requires c =
    let a = c.args in
    let j = measured a.judged.slack.0 a.judged.wire.0 a.judged.best.0 in
    let w = c.requires.within in
    let first = line_of slack_key _ _ _ _ _ _ (slack_back j w _ c.attoseconds.ensures) c.put_line-first.ensures in
    let second = line_of wire_key _ _ _ _ _ _ (wire_back j w _ c.nanometres.ensures) c.put_line-second.ensures in
    fits best_key _ _ _ _ (best_back j w _ c.attoseconds-2.ensures) (within_writable slack_limit _ (omega arith) w.2) (best_fits a.out.now j w c.requires.answer_room_in_bounds _ _ first _ _ second)

pub returns : goal.returns
returns c =
    let a = c.args in
    let j = measured a.judged.slack.0 a.judged.wire.0 a.judged.best.0 in
    let w = c.requires.within in
    let first = line_of slack_key _ _ _ _ _ _ (slack_back j w _ c.attoseconds.ensures) c.put_line-first.ensures in
    let second = line_of wire_key _ _ _ _ _ _ (wire_back j w _ c.nanometres.ensures) c.put_line-second.ensures in
    let last = line_of best_key _ _ _ _ _ _ (best_back j w _ c.attoseconds-2.ensures) c.put_line.ensures in
    all_put a.out.now j w c.requires.answer_room_in_bounds _ _ first _ _ second _ _ last
