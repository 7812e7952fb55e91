-- The chart, block after block: what is left of it, written from here, is the piece that is asked for.
use Prim.Native.Nat.{ℕ, suc, ◌+◌, ◌*◌, ◌-◌, ◌/◌, ◌%◌, ◌<◌, ◌≤◌, min}
use mathlib.Core.Path.{◌≡◌, refl, sym, ap, ◌∙◌}
use mathlib.Core.List.{List, [], ◌++◌}
use lib.ListN.{length, take, drop, length-append, length-take, length-drop}
use lib.Seq.{take-nil, drop-nil}
use native.Mathlib.Nat.{zero-add, sub-zero}
use native.Mathlib.Omega.{arith}
use borrow.Author.Tests.{eq-eqb}
use Rattle.hexfloat.specs.Answer.{gives}
use Rattle.orders.specs.declared.order.Order.{Order}
use Rattle.chart.specs.declared.listing.Progress.{Progress}
use Rattle.chart.specs.Block.{block_of, size_of, all_orders}
use Rattle.chart.specs.Chart.{listed_from, chart}
use Rattle.chart.specs.Piece.{piece, filled, outcome, chart_into}
use Rattle.chart.specs.Writing.{Writing, writing, put, shown, ProgressFits, Continues}
use Rattle.chart.proofs.Blocks.{blocks_from, block_small, chart_blocks}
use Rattle.chart.proofs.Shown.{size_below, orders_length, part_both}
use Rattle.chart.proofs.Written.{put-joined, put-length, put_count, put-filled}

-- the blocks from code c on
abbrev rest : ℕ → ℕ → List Order
rest n c = blocks_from n c (36 - c)

rest_on : (n c : ℕ) → c < 36 → rest n c ≡ all_orders (block_of n c) ++ rest n (c + 1)
unfolding listed_from
rest_on n c h =
    let e : 36 - c ≡ suc (36 - suc c) = omega arith in
    let s : c + 1 ≡ suc c = omega arith in
    rw (e, s)

pub record ChartLeft (goal : Writing) (n l room c : ℕ) (cells : List ℕ) (s : Progress) : Type 0 where
  pub same : length cells ≡ l
  pub written : s.written ≤ room
  pub counted : s.written ≤ s.total
  pub small : s.total ≤ c * 4194304
  pub total : s.total + length (rest n c) ≡ length (chart n)
  pub puts : put (take (room - s.written) (drop s.skip (rest n c))) (writing cells s.written) ≡ goal

module _ (n : ℕ) (bound : n ≤ 65536) where
  pub chart-start :
      (k room : ℕ) (cells : List ℕ) → ChartLeft (put (piece n k room) (writing cells 0)) n (length cells) room 0 cells (record { total = 0; skip = k; written = 0 })
  unfolding piece
  chart-start k room cells =
      record {
        same = refl;
        written = omega arith;
        counted = omega arith;
        small = omega arith;
        total = zero-add (length (rest n 0)) ∙ ap length (sym (chart_blocks n bound));
        puts = rw sub-zero (ap (λ (os : List Order). put (take room (drop k os)) (writing cells 0)) (sym (chart_blocks n bound)));
      }

  module _ (goal : Writing) (l room c : ℕ) (h : c < 36) (cells : List ℕ) (s : Progress) (r : ChartLeft goal n l room c cells s) where
    pub chart_fits : room * 4 ≤ l → ProgressFits (length cells) room (block_of n c) s
    chart_fits holds =
        record {
          small = block_small n c bound;
          holds = omega (arith, r.same);
          written = r.written;
          counted = r.counted;
          total = omega (arith, r.small);
        }

    -- a block more
    pub chart_on : (d : List ℕ) (t : Progress) → Continues room (block_of n c) cells s d t → ChartLeft goal n l room (c + 1) d t
    chart_on d t more =
        let b = block_of n c in
        let os = shown room b s in
        let m = room - s.written in
        let left = rest n (c + 1) in
        let split = rest_on n c h in
        let size = orders_length b 0 (size_of b) in
        let count : t.written ≡ s.written + length os = ap (λ (w : Writing). w.count) more.put ∙ put_count os (writing cells s.written) in
        let few : length os ≤ m = omega (arith, length-take m (drop s.skip (all_orders b))) in
        let most : length os ≤ size_of b = omega (arith, length-take m (drop s.skip (all_orders b)), length-drop s.skip (all_orders b), size) in
        let room-left : m - length os ≡ room - t.written = omega (arith, count) in
        let skip-left : s.skip - length (all_orders b) ≡ t.skip = omega (arith, more.skip, size) in
        record {
          same = ap (λ (w : Writing). length w.cells) more.put ∙ put-length os (writing cells s.written) ∙ r.same;
          written = omega (arith, count, few, r.written);
          counted = omega (arith, count, most, more.total, r.counted);
          small = omega (arith, more.total, size_below b (block_small n c bound), r.small);
          total = omega (arith, more.total, r.total, ap length split, length-append (all_orders b) left, size);
          puts =
              ap (put (take (room - t.written) (drop t.skip left))) more.put
              ∙ sym (put-joined os (take (room - t.written) (drop t.skip left)) (writing cells s.written))
              ∙ ap (λ (k : ℕ). put (os ++ take k (drop t.skip left)) (writing cells s.written)) (sym room-left)
              ∙ ap (λ (k : ℕ). put (os ++ take (m - length os) (drop k left)) (writing cells s.written)) (sym skip-left)
              ∙ ap (λ (ps : List Order). put ps (writing cells s.written)) (sym (part_both (all_orders b) left s.skip m))
              ∙ ap (λ (ps : List Order). put (take m (drop s.skip ps)) (writing cells s.written)) (sym split)
              ∙ r.puts;
        }

pub chart_end : (goal : Writing) (n l room : ℕ) (cells : List ℕ) (s : Progress) → ChartLeft goal n l room 36 cells s → writing cells s.written ≡ goal
unfolding listed_from put
chart_end goal n l room cells s r =
    let none : take (room - s.written) (drop s.skip []) ≡ [] = ap (take (room - s.written)) (drop-nil s.skip) ∙ take-nil (room - s.written) in
    ap (λ (os : List Order). put os (writing cells s.written)) (sym none) ∙ r.puts

-- as many orders as there is room for, or as are left
pub piece_length : (n k m : ℕ) → length (piece n k m) ≡ min m (length (chart n) - k)
unfolding piece
piece_length n k m = length-take m (drop k (chart n)) ∙ ap (min m) (length-drop k (chart n))

-- the whole answer
pub chart-answer :
    (n k : ℕ) (cells₀ cells : List ℕ) (s : Progress) → length cells₀ % 4 ≡ 0 →
    ChartLeft (put (piece n k (length cells₀ / 4)) (writing cells₀ 0)) n (length cells₀) (length cells₀ / 4) 36 cells s →
    outcome cells (gives (record { total = s.total; written = s.written })) ≡ chart_into n k cells₀
unfolding chart_into listed_from
chart-answer n k cells₀ cells s whole r =
    let os = piece n k (length cells₀ / 4) in
    let fits : length os * 4 ≤ length cells₀ = omega (arith, piece_length n k (length cells₀ / 4)) in
    let done = chart_end (put os (writing cells₀ 0)) n (length cells₀) (length cells₀ / 4) cells s r ∙ put-filled os cells₀ fits in
    let total : s.total ≡ length (chart n) = omega (arith, r.total) in
    rw (eq-eqb (length cells₀ % 4) 0 whole) (
    ap (λ (w : Writing). outcome w.cells (gives (record { total = s.total; written = w.count }))) done
    ∙ ap (λ (t : ℕ). outcome (filled os cells₀) (gives (record { total = t; written = length os }))) total)
