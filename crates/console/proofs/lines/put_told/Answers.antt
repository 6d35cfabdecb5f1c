-- The key and the three numbers are put, each where what stands before it ends.
use Rattle.std.proofs.Common.{◌+◌, ◌^◌, ◌≤◌, ◌<◌, ◌++◌, ℕ, List, length, arith, sym, subst}
use Rattle.formats.specs.Bytes.{end_byte, comma}
use Rattle.formats.specs.Inner.Writing.{Puts}
use Rattle.formats.specs.declared.refusal.Told.{Told}
use Rattle.formats.proofs.Laws.Writing.{fits_first, fits_next, puts_both}
use Rattle.console.specs.Printing.{refused_key, refusal_text, answer_room}
use Rattle.console.proofs.Laws.Rooms.{field_text, refusal_is, refusal_short}
use Rattle.console.proofs.lines.put_told.Goals as goal

abbrev number : Told → List ℕ
number t = field_text t.number comma

abbrev text : Told → List ℕ
text t = field_text t.text comma

abbrev line : Told → List ℕ
line t = field_text t.line end_byte

-- what is left has room after each part
module _ (out : List ℕ) (t : Told) (a : t.number < 2 ^ 64) (b : t.text < 2 ^ 64) (d : t.line < 2 ^ 64) (r : answer_room ≤ length out) (n1 : ℕ) (out1 : List ℕ) (keyed : Puts out 0 refused_key n1 out1) where
  room : 0 + length (refused_key ++ (number t ++ (text t ++ line t))) ≤ length out
  room = omega (arith, r, refusal_short t a b d)

  room1 : n1 + length (number t ++ (text t ++ line t)) ≤ length out1
  room1 = fits_next _ _ refused_key (number t ++ (text t ++ line t)) room _ _ keyed

  number_fits : n1 + length (number t) ≤ length out1
  number_fits = fits_first out1 n1 (number t) (text t ++ line t) room1

  module _ (n2 : ℕ) (out2 : List ℕ) (numbered : Puts out1 n1 (number t) n2 out2) where
    room2 : n2 + length (text t ++ line t) ≤ length out2
    room2 = fits_next _ _ (number t) (text t ++ line t) room1 _ _ numbered

    text_fits : n2 + length (text t) ≤ length out2
    text_fits = fits_first out2 n2 (text t) (line t) room2

    module _ (n3 : ℕ) (out3 : List ℕ) (named : Puts out2 n2 (text t) n3 out3) where
      line_fits : n3 + length (line t) ≤ length out3
      line_fits = fits_next _ _ (text t) (line t) room2 _ _ named

      all_put : (n4 : ℕ) (out4 : List ℕ) → Puts out3 n3 (line t) n4 out4 → Puts out 0 (refusal_text t) n4 out4
      all_put n4 out4 lined =
          let last = puts_both _ _ (text t) (line t) room2 _ _ named _ _ lined in
          let rest = puts_both _ _ (number t) (text t ++ line t) room1 _ _ numbered _ _ last in
          subst (λ (s : List ℕ). Puts out 0 s n4 out4) (sym (refusal_is t)) (puts_both _ _ refused_key (number t ++ (text t ++ line t)) room _ _ keyed _ _ rest)

pub put_natural_then-second-requires : goal.put_natural_then-second-requires
put_natural_then-second-requires c =
    let a = c.args in
    number_fits a.out.now (record { number = a.number; text = a.text; line = a.line }) (omega (arith, c.ranges.number)) (omega (arith, c.ranges.text)) (omega (arith, c.ranges.line)) c.requires _ _ c.put_bytes-first.ensures

pub put_natural_then-third-requires : goal.put_natural_then-third-requires
put_natural_then-third-requires c =
    let a = c.args in
    text_fits a.out.now (record { number = a.number; text = a.text; line = a.line }) (omega (arith, c.ranges.number)) (omega (arith, c.ranges.text)) (omega (arith, c.ranges.line)) c.requires _ _ c.put_bytes-first.ensures _ _ c.put_natural_then-second.ensures

pub put_natural_then-requires : goal.put_natural_then-requires
put_natural_then-requires c =
    let a = c.args in
    line_fits a.out.now (record { number = a.number; text = a.text; line = a.line }) (omega (arith, c.ranges.number)) (omega (arith, c.ranges.text)) (omega (arith, c.ranges.line)) c.requires _ _ c.put_bytes-first.ensures _ _ c.put_natural_then-second.ensures _ _ c.put_natural_then-third.ensures

pub returns : goal.returns
returns c =
    let a = c.args in
    all_put a.out.now (record { number = a.number; text = a.text; line = a.line }) (omega (arith, c.ranges.number)) (omega (arith, c.ranges.text)) (omega (arith, c.ranges.line)) c.requires _ _ c.put_bytes-first.ensures _ _ c.put_natural_then-second.ensures _ _ c.put_natural_then-third.ensures _ _ c.put_natural_then.ensures
