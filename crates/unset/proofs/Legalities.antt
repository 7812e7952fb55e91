-- What the code answers of check 5: of one order, and of all.
use Rattle.std.proofs.Common.{◌≡◌, ℕ, ◌/◌, ◌<◌, Bool, true, false, List, length}
use Rattle.std.specs.Bool.{MatchBool}
use Rattle.hexfloat.specs.Answer.{stops}
use Rattle.orders.specs.Order.{order_at, legal_of}
use Rattle.unset.specs.Answer.{Legal}
use Rattle.unset.specs.Finding.{SaysAllLegal}

pub says_all_legal : (d : List ℕ) (r : Bool) → MatchBool r ((p : ℕ) → p < length d / 4 → Legal d p) ((p : ℕ) × (p < length d / 4) × (legal_of (order_at d p) ≡ stops 5)) → SaysAllLegal d r
says_all_legal d true h = h
says_all_legal d false h = record { order = h.0; inside = h.1; illegal = h.2 }
