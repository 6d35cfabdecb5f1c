-- What the two factors weigh and what they do not, by the definitions; with h = v the sum of the delays is the product with the sum of the distances. Assumes nothing.
use Prim.Native.Nat.{ℕ, ◌+◌, ◌*◌}
use mathlib.Core.Path.{◌≡◌, refl, ap, ap₂, sym, ◌∙◌}
use native.Mathlib.Nat.{mul-add}
use lib.IntN.{pos, ◌-ℤ◌}
use Rattle.quantities.specs.declared.point.Point.{Point}
use Rattle.quantities.specs.Distance.{span, distance}
use Rattle.quantities.specs.Delay.{delay}
use Rattle.tree.specs.Net.{Net, required, sink_at}
use Rattle.tree.specs.Tree.{parent, place}
use Rattle.tree.specs.Measures.{path, edge_length, edge_delay, wire_length}
use Rattle.tree.specs.Planning.{tie_rule}
use Rattle.tree.proofs.Laws.Lists.Sums.{sum_over_cong, sum_over_scale}
use Rattle.operations.specs.TwoFactors.{slack_by, OneFactor, TwoFactors}

-- of one wire
one_factor_delay : (N : Net) (d : ℕ) → OneFactor N d → (p q : Point) → delay N.wire p q ≡ d * distance p q
unfolding delay distance
one_factor_delay N d e p q =
    ap₂ (λ a b. a * span p.x q.x + b * span p.y q.y) e.horizontal e.vertical
    ∙ sym (mul-add d (span p.x q.x) (span p.y q.y))

pub two_factors : TwoFactors
unfolding delay wire_length tie_rule
two_factors = record {
  own_slack_lem = λ N s. refl;
  path_slack = λ N T s. refl;
  wire = λ N w T. refl;
  nearness = λ N w P s u v. refl;
  pin_limit_lem = λ N w s. refl;
  rivals = λ N w T L. record { shape = L.shape; placed = L.placed };
  one_factor_own = λ N d s e. ap (λ l. required N s -ℤ pos l) (one_factor_delay N d e N.root (sink_at N s));
  one_factor_path = λ N T d s e.
      ap (slack_by N T s)
      (sum_over_cong (path T s) (edge_delay N T) (λ u. d * edge_length N T u) (λ u h. one_factor_delay N d e (place N T (parent T u)) (place N T u))
      ∙ sum_over_scale (path T s) d (edge_length N T));
}
