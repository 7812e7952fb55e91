-- A place is taken up by one arrival or two, as its order goes on or may jump too.
use Prim.Native.Nat.{ℕ, ◌+◌, ◌/◌, ◌%◌, ◌≤◌}
use mathlib.Core.Path.{◌≡◌, ap, ◌∙◌}
use mathlib.Core.List.{List}
use mathlib.Core.Bool.{true, false}
use lib.ListN.{length}
use native.Mathlib.Omega.{arith}
use Rattle.hexfloat.specs.Answer.{gives}
use Rattle.orders.specs.declared.order.Operation.{Operation}
use Rattle.orders.specs.declared.order.Order.{Order}
use Rattle.orders.specs.Order.{order_at, legal_of, is_halt, is_jump}
use Rattle.machine.specs.Uses.{written_by}
use Rattle.unset.specs.Bits.{bits_of, without}
use Rattle.unset.specs.Path.{point, selector_after, nexts}
use Rattle.unset.specs.declared.search.Search.{Search}
use Rattle.unset.specs.Search.{word_at, reached, reached_all, Stacked, TakenUp}
use Rattle.unset.proofs.Arrivals.{reached_one}
use Rattle.unset.proofs.Points.{may_jump_lem}
use Rattle.unset.proofs.Registers.{numbered, proper_written}
use Rattle.unset.proofs.Words.{bits_small, without_small}

-- what the code has worked out of place i: the order, the bits that it hands on, and the selector after it
pub record Handing (d : List ℕ) (i : ℕ) (s : Search) (op : Operation) (o : Order) (b t : ℕ) : Type 0 where
  pub legal : legal_of (order_at d (i / 2)) ≡ gives op
  pub order : o ≡ order_at d (i / 2)
  pub goes : is_halt op.verb ≡ false
  pub bits : b ≡ without (word_at s i) (bits_of (written_by op o (i % 2)))
  pub selector : t ≡ selector_after op.verb o (i % 2)

module _ (d : List ℕ) (i : ℕ) (s : Search) (op : Operation) (o : Order) (b t : ℕ) (h : Handing d i s op o b t) where
  abbrev on : Search
  on = reached (length d / 4) (point (i / 2 + 1) t) b s

  -- the stack is in order after the first arrival
  pub on_stacked : Stacked (length d / 4) s → length d / 4 ≤ 4096 → t ≤ 1 → Stacked (length d / 4) on
  on_stacked st few l =
      let n = numbered o op (i % 2) (ap legal_of h.order ∙ h.legal) (omega arith) in
      let small = without_small (word_at s i) (bits_of (written_by op o (i % 2))) (st.small i) (bits_small _ (proper_written op o (i % 2) n)) in
      (reached_one (length d / 4) b few (rw h.bits small) (point (i / 2 + 1) t) s l st).stacked

  pub taken_on : is_jump op.verb ≡ false → TakenUp d i s on
  unfolding nexts reached_all
  taken_on j = record {
    operation = op;
    legal = h.legal;
    after = rw (h.goes, may_jump_lem op.verb (order_at d (i / 2)), j, h.selector, h.bits, h.order);
  }

  pub taken_either : is_jump op.verb ≡ true → TakenUp d i s (reached (length d / 4) (point o.at (i % 2)) b on)
  unfolding nexts reached_all
  taken_either j = record {
    operation = op;
    legal = h.legal;
    after = rw (h.goes, may_jump_lem op.verb (order_at d (i / 2)), j, h.selector, h.bits, h.order);
  }
