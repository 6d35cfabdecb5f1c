-- The delay of wire, in attoseconds. Definitions alone.
use Rattle.std.specs.Prelude.{ℕ, ◌+◌, ◌*◌}
use Rattle.quantities.specs.declared.metal_pair.MetalPair.{MetalPair}
use Rattle.quantities.specs.declared.point.Point.{Point}
use Rattle.quantities.specs.declared.wire_factor.WireFactor.{WireFactor}
use Rattle.quantities.specs.Distance.{span}

-- of a length in one direction: "A length becomes a time only by multiplication with the wire factor."
abbrev pub length_delay : WireFactor → ℕ → ℕ
length_delay f l = f.0 * l

-- of a straight wire from p to q. 02, request 4: "delay along an edge is h × |dx| + v × |dy|"
unfoldable pub delay : MetalPair → Point → Point → ℕ
delay w p q = length_delay w.horizontal (span p.x q.x) + length_delay w.vertical (span p.y q.y)
