-- Points of paths and their places: each point of a deck has one, and the selector along a path is 0 or 1.
use Prim.Native.Nat.{ℕ, ◌+◌, ◌*◌, ◌/◌, ◌%◌, ◌≤◌}
use mathlib.Core.Path.{◌≡◌, refl, sym, ap₂, subst}
use mathlib.Core.List.Memᴰ
use mathlib.Core.List.{List, [], ◌∷◌, Memᴰ}
use mathlib.Core.Logic.{◌⊎◌, inl, inr}
use mathlib.Core.Bool.{Bool, true, false, cond}
use native.Mathlib.Omega.{arith}
use borrow.Author.Tests.{leb-true}
use Rattle.hexfloat.specs.Answer.{gives}
use Rattle.orders.specs.declared.order.Operation.{Operation}
use Rattle.orders.specs.declared.order.Order.{Order}
use Rattle.orders.specs.declared.order.Verb.{Verb}
use Rattle.orders.specs.Order.{order_at, legal_of, is_halt, is_select, is_jump}
use Rattle.machine.proofs.Rows.{bit_fits, legal_passed}
use Rattle.unset.specs.declared.path.Point.{Point}
use Rattle.unset.specs.Path.{point, selector_after, may_jump, nexts, Path, begins, goes}
use Rattle.unset.specs.Search.{index_of, point_at}

-- the point of a place, and the place of a point
pub point_back : (x : Point) → x.selector ≤ 1 → point_at (index_of x) ≡ x
point_back x h =
    let order : (x.order * 2 + x.selector) / 2 ≡ x.order = omega arith in
    let selector : (x.order * 2 + x.selector) % 2 ≡ x.selector = omega arith in
    ap₂ point order selector

pub place_back : (i : ℕ) → index_of (point_at i) ≡ i
place_back i = omega arith

-- JC and JN may jump, whatever their cells
pub may_jump_lem : (v : Verb) (o : Order) → may_jump v o ≡ is_jump v
unfolding may_jump
may_jump_lem v o = refl

-- SET's r2 is 0 or 1
set_small : (v : Verb) (r limit s : ℕ) → bit_fits v limit ≡ true → r ≤ limit → s ≤ 1 → cond (is_select v) r s ≤ 1
unfolding bit_fits
set_small Verb.Load r limit s b l h = h
set_small Verb.Complement r limit s b l h = h
set_small Verb.Compare r limit s b l h = h
set_small Verb.Fix r limit s b l h = h
set_small Verb.Float r limit s b l h = h
set_small Verb.Divide r limit s b l h = h
set_small Verb.Store r limit s b l h = h
set_small Verb.LoadGeneral r limit s b l h = h
set_small Verb.StoreGeneral r limit s b l h = h
set_small Verb.SetMask r limit s b l h = h
set_small Verb.Jump r limit s b l h = h
set_small Verb.CountDown r limit s b l h = h
set_small Verb.Halt r limit s b l h = h
set_small (Verb.Sum sense) r limit s b l h = h
set_small Verb.Multiply r limit s b l h = h
set_small Verb.Select r limit s b l h = omega (arith, leb-true limit 1 b)

-- the selector after an order, where it was 0 or 1
pub after_small : (o : Order) (op : Operation) (s : ℕ) → legal_of o ≡ gives op → s ≤ 1 → selector_after op.verb o s ≤ 1
after_small o op s legal h = let w = legal_passed o op legal in set_small op.verb o.r2 op.r2 s w.bit w.r2 h

-- the selector of a point that follows one whose selector is 0 or 1
pub next_small :
    (o : Order) (op : Operation) (x y : Point) → legal_of o ≡ gives op → x.selector ≤ 1 → Memᴰ y (nexts op.verb o x) → y.selector ≤ 1
unfolding nexts
next_small o op x y legal h m = cases (is_halt op.verb) (may_jump op.verb o) (after_small o op x.selector legal h) m
  where
    on : Point
    on = point (x.order + 1) (selector_after op.verb o x.selector)

    among : (z : Point) (zs : List Point) → z.selector ≤ 1 → (Memᴰ y zs → y.selector ≤ 1) → Memᴰ y (z ∷ zs) → y.selector ≤ 1
    among z zs small rest k = either (Memᴰ.cases_cons k)
      where
        either : (y ≡ z) ⊎ Memᴰ y zs → y.selector ≤ 1
        either (inl e) = subst (λ (u : Point). u.selector ≤ 1) (sym e) small
        either (inr r) = rest r

    jump : (b : Bool) → Memᴰ y (cond b (point o.at x.selector ∷ []) []) → y.selector ≤ 1
    jump true k = among (point o.at x.selector) [] h (λ n. absurd (Memᴰ.not-nil n)) k
    jump false k = absurd (Memᴰ.not-nil k)

    cases :
        (a b : Bool) → selector_after op.verb o x.selector ≤ 1 →
        Memᴰ y (cond a [] (on ∷ cond b (point o.at x.selector ∷ []) [])) → y.selector ≤ 1
    cases true b small k = absurd (Memᴰ.not-nil k)
    cases false b small k = among on (cond b (point o.at x.selector ∷ []) []) small (jump b) k

-- the selector along a path
pub path_small : (d : List ℕ) {x : Point} → Path d x → x.selector ≤ 1
path_small d begins = omega arith
path_small d (goes {x} {y} p l) = next_small (order_at d x.order) l.here.operation x y l.here.legal (path_small d p) l.onward
