-- Paths through a deck, and the registers that they write (document 02, Job 11).
use Rattle.std.specs.Prelude.{ℕ, ◌+◌, ◌/◌, ◌<◌, ◌≡◌, Bool, cond, length}
use mathlib.Core.List.{List, [], ◌∷◌, Memᴰ}
use Rattle.hexfloat.specs.Answer.{gives}
use Rattle.orders.specs.declared.order.Operation.{Operation}
use Rattle.orders.specs.declared.order.Order.{Order}
use Rattle.orders.specs.declared.order.Verb.{Verb}
use Rattle.orders.specs.Order.{order_at, legal_of, is_halt, is_jump, is_select}
use Rattle.machine.specs.Uses.{Register, read_by, written_by}
use Rattle.unset.specs.declared.path.Point.{Point}

-- an order, and the selector with which it is reached
abbrev pub point : ℕ → ℕ → Point
point p s = record { order = p; selector = s }

-- a path starts at order 0, where the selector is 0
abbrev pub start : Point
start = point 0 0

-- SET puts its r2 into the selector; every other order keeps it
abbrev pub selector_after : Verb → Order → ℕ → ℕ
selector_after v o s = cond (is_select v) o.r2 s

-- an order after which a path may be at `at`: JC and JN, whatever JC's mask
unfoldable pub may_jump : Verb → Order → Bool
may_jump v o = is_jump v

-- where a path may go from a point: HALT ends it; any other order goes on by one, and JC and JN may go to `at` too
unfoldable pub nexts : Verb → Order → Point → List Point
nexts v o x =
    cond (is_halt v) []
    (point (x.order + 1) (selector_after v o x.selector) ∷ cond (may_jump v o) (point o.at x.selector ∷ []) [])

-- there is a legal order at a point; at or past the deck's end there is none
pub record OrderAt (d : List ℕ) (x : Point) : Type 0 where
  pub operation : Operation
  pub inside : x.order < length d / 4
  pub legal : legal_of (order_at d x.order) ≡ gives operation

-- it reads a register, it writes one
pub record Reads (d : List ℕ) (x : Point) (r : Register) : Type 0 where
  pub here : OrderAt d x
  pub reads : Memᴰ r (read_by here.operation (order_at d x.order) x.selector)

pub record Writes (d : List ℕ) (x : Point) (r : Register) : Type 0 where
  pub here : OrderAt d x
  pub writes : Memᴰ r (written_by here.operation (order_at d x.order) x.selector)

-- a step of a path, from a point to a point. Whether the order would stop by 6 to 11 does not matter, nor what is read there
pub record Leads (d : List ℕ) (x y : Point) : Type 0 where
  pub here : OrderAt d x
  pub onward : Memᴰ y (nexts here.operation.verb (order_at d x.order) x)

-- a path from the start to a point
pub data Path (d : List ℕ) : Point → Type 0 where
  begins : Path d start
  goes : {x y : Point} → Path d x → Leads d x y → Path d y

-- no order along a path, the one at its end left out, writes r
abbrev pub Along : (d : List ℕ) (r : Register) {x : Point} → Path d x → Type 0
Along d r begins = Unit {0}
Along d r (goes {x} p l) = Along d r p × (Writes d x r → ⊥)

-- some path reaches a point without having written r
pub record ReachedUnwritten (d : List ℕ) (r : Register) (x : Point) : Type 0 where
  pub path : Path d x
  pub unwritten : Along d r path
