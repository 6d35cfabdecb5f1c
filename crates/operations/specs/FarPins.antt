-- 02, request 2, 'Pins across the die', as a statement about bytes: the texts that tell of a sink too far from the root, and no others, are refused by 13.
use Rattle.std.specs.Prelude.{ℕ, ◌+◌, ◌≤◌, ◌≡◌, List}
use Rattle.tree.specs.Net.{Net, size}
use Rattle.tree.specs.Limits.{InRange, WeightsInRange}
use Rattle.formats.specs.Limits.{pin_limit}
use Rattle.formats.specs.Outcome.{refused}
use Rattle.formats.specs.NetText.{net_text, pin_distance, InFormat}
use Rattle.formats.specs.FirstFar.{FirstFar, FarPinAt}
use Rattle.formats.specs.declared.refusal.Refusal.TheVariants.{FarPin}
use Rattle.operations.specs.Answers.{plan_of, judge_of}

pub record FarPins : Type 0 where
  -- "A sink more than" the pin limit "from the root is refused in every call that reads a net.": "13, text 1, the sink's line", whatever the output or the listing is
  pub plan_refuses : (net : List ℕ) (l : ℕ) → FarPinAt net l → (room : ℕ) → plan_of net room ≡ refused (FarPin l)
  pub judge_refuses : (net : List ℕ) (l : ℕ) → FarPinAt net l → (listing : List ℕ) → judge_of net listing ≡ refused (FarPin l)
  -- and nothing else is
  pub plan_only : (net : List ℕ) (room l : ℕ) → plan_of net room ≡ refused (FarPin l) → FarPinAt net l
  pub judge_only : (net listing : List ℕ) (l : ℕ) → judge_of net listing ≡ refused (FarPin l) → FarPinAt net l
  -- "Nets with such pins no longer count as nets in the format": the text of a net in range is in the format, or tells of its first such pin
  pub near_inside : (N : Net) (w : List ℕ) → InRange N → WeightsInRange (size N) w → ((v : ℕ) → 1 ≤ v → v ≤ size N → pin_distance N v ≤ pin_limit) → InFormat (net_text N w) N
  pub far_told : (N : Net) (w : List ℕ) → InRange N → WeightsInRange (size N) w → (v : ℕ) → FirstFar N v → FarPinAt (net_text N w) (v + 5)
  pub far_outside : (net : List ℕ) (l : ℕ) → FarPinAt net l → (N : Net) → InFormat net N → ⊥
