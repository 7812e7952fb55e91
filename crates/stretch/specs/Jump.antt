-- Jumps in a deck (document 02, Job 13).
use Rattle.std.specs.Prelude.{ℕ, ◌/◌, ◌<◌, ◌≡◌, List, ◌⊎◌, Bool, true, false, length}
use Rattle.orders.specs.Order.{order_at}

-- order q has the code of JC or of JN, 20 or 21, whether its other cells are legal or not
abbrev pub IsJump : List ℕ → ℕ → Type 0
IsJump d q = ((order_at d q).code ≡ 20) ⊎ ((order_at d q).code ≡ 21)

-- an order of the deck has, reached or not
pub record HasJump (d : List ℕ) : Type 0 where
  pub order : ℕ
  pub inside : order < length d / 4
  pub jump : IsJump d order

-- what is said of a deck: that it has a jump, or that it has none
abbrev pub SaysJump : List ℕ → Bool → Type 0
SaysJump d true = HasJump d
SaysJump d false = HasJump d → ⊥
