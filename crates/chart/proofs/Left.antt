-- What is left to write: in each loop the orders that are left, written from here, make `goal`. l is the buffer's length.
use Prim.Native.Nat.{ℕ, suc, ◌+◌, ◌*◌, ◌-◌, ◌<◌, ◌≤◌, min}
use mathlib.Core.Path.{◌≡◌, sym, ap, ◌∙◌}
use mathlib.Core.Logic.{◌⊎◌, inl, inr, ⊎_elim}
use mathlib.Core.List.{List, [], ◌∷◌}
use lib.ListN.{length}
use lib.Seq.{length-sets}
use native.Mathlib.Nat.{le_of_lt, min-eq_left, min-eq_right, min-le_left, min-le_right}
use native.Mathlib.Omega.{arith}
use Rattle.hexfloat.proofs.Trichotomy.{below_or_not}
use Rattle.orders.specs.declared.order.Order.{Order}
use Rattle.chart.specs.declared.block.Block.{Block}
use Rattle.chart.specs.declared.block.Place.{Place}
use Rattle.chart.specs.Block.{series, order_in, orders_in, size_of, place_in, Inside, Small, SmallPlace, order_with}
use Rattle.chart.specs.Chart.{order, listed_from}
use Rattle.chart.specs.Piece.{cells_of}
use Rattle.chart.specs.Writing.{Writing, with_order, put, SeriesFits}
use Rattle.chart.proofs.Listed.{listed_alike, listed_split, singles_length}
use Rattle.chart.proofs.Places.{order_there, r1_below}
use Rattle.chart.proofs.Written.{put-joined, put-length, put_count}

pub record SeriesLeft (goal : Writing) (l : ℕ) (o : Order) (left : ℕ) (s : Writing) : Type 0 where
  pub same : length s.cells ≡ l
  pub fits : SeriesFits l s.count o.at left
  pub puts : put (series o left) s ≡ goal

module _ (goal : Writing) (l : ℕ) where
  -- an order of a series more
  pub series_on :
      (c a b at end : ℕ) (s : Writing) → at < end → SeriesLeft goal l (order c a b at) (end - at) s →
      SeriesLeft goal l (order c a b (at + 1)) (end - (at + 1)) (with_order (order c a b at) s)
  unfolding listed_from put
  series_on c a b at end s h r =
      let e : end - at ≡ suc (end - suc at) = omega arith in
      let t : at + 1 ≡ suc at = omega arith in
      record {
        same = length-sets s.cells (s.count * 4) (cells_of (order c a b at)) ∙ r.same;
        fits = record { room = omega (arith, r.fits.room); cells = omega (arith, r.fits.cells) };
        puts = rw t (rw e at r.puts);
      }

  pub series_end : (o : Order) (k : ℕ) (s : Writing) → k ≡ 0 → SeriesLeft goal l o k s → s ≡ goal
  unfolding listed_from put
  series_end o k s e r = rw e at r.puts

pub record BlockLeft (goal : Writing) (l : ℕ) (b : Block) (p : Place) (left : ℕ) (s : Writing) : Type 0 where
  pub same : length s.cells ≡ l
  pub room : (s.count + left) * 4 ≤ l
  pub inside : Inside b p
  pub within : 0 < left → place_in b p + left ≤ size_of b
  pub puts : put (orders_in b (place_in b p) left) s ≡ goal

-- from a place on, as far as the next pair of r1 and r2
series_there : (b : Block) (p : Place) (k : ℕ) → Inside b p → p.at + k ≤ b.ats → orders_in b (place_in b p) k ≡ series (order_with b p) k
series_there b p k inside h =
    listed_alike k (place_in b p) p.at (λ j. order_in b j ∷ []) (λ t. order b.code p.r1 p.r2 t ∷ [])
    (λ j l. ap (λ (o : Order). o ∷ []) (order_there b p j inside.r2 (omega arith)))

module _ (goal : Writing) (l : ℕ) (b : Block) (p : Place) (left : ℕ) (s : Writing) (r : BlockLeft goal l b p left s) (some : 0 < left) where
  -- the cells of the next order
  pub place_small : Small b → SmallPlace p
  place_small small =
      let row = r1_below b p (omega (arith, r.within some)) in
      record { r1 = omega (arith, small.r1s); r2 = omega (arith, r.inside.r2, small.r2s); at = omega (arith, r.inside.at, small.ats) }

  -- a series more, to the next pair or to the end of what is left
  module _ (q : Place) (k : ℕ) (least : k ≡ min left (b.ats - p.at)) (next : place_in b q ≡ place_in b p + (b.ats - p.at)) where
    reached : (left - k ≡ 0) ⊎ (place_in b q ≡ place_in b p + k)
    reached =
        ⊎_elim (λ h. inl (omega (arith, least, min-eq_left (le_of_lt h)))) (λ h. inr (omega (arith, least, min-eq_right h, next)))
        (below_or_not left (b.ats - p.at))

    fewer : k ≤ left
    fewer = omega (arith, least, min-le_left left (b.ats - p.at))

    -- the orders that are left then
    orders_on : orders_in b (place_in b q) (left - k) ≡ orders_in b (place_in b p + k) (left - k)
    unfolding listed_from
    orders_on = ⊎_elim (λ e. rw e) (λ e. rw e) reached

    pub block_on : Inside b q → BlockLeft goal l b q (left - k) (put (series (order_with b p) k) s)
    block_on inside =
        let o = order_with b p in
        let here = series_there b p k r.inside (omega (arith, least, min-le_right left (b.ats - p.at), r.inside.at)) in
        let count = put_count (series o k) s ∙ ap (λ (n : ℕ). s.count + n) (singles_length (λ t. order b.code p.r1 p.r2 t) k p.at) in
        record {
          same = put-length (series o k) s ∙ r.same;
          room = omega (arith, count, fewer, r.room);
          inside = inside;
          within = λ h. ⊎_elim (λ e. absurd (omega arith)) (λ e. omega (arith, fewer, r.within some)) reached;
          puts =
              ap (λ (os : List Order). put os (put (series o k) s)) orders_on
              ∙ ap (λ (os : List Order). put (orders_in b (place_in b p + k) (left - k)) (put os s)) (sym here)
              ∙ sym (put-joined (orders_in b (place_in b p) k) (orders_in b (place_in b p + k) (left - k)) s)
              ∙ ap (λ (os : List Order). put os s) (sym (listed_split k left (place_in b p) (λ j. order_in b j ∷ []) fewer))
              ∙ r.puts;
        }

pub block_end : (goal : Writing) (l : ℕ) (b : Block) (p : Place) (left : ℕ) (s : Writing) → left ≡ 0 → BlockLeft goal l b p left s → s ≡ goal
unfolding listed_from put
block_end goal l b p left s e r = rw e at r.puts
