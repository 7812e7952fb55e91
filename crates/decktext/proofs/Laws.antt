-- Laws of a reading for its callers.
use Prim.Native.Nat.{ℕ, ◌*◌, ◌≤◌}
use mathlib.Core.Path.{◌≡◌, refl, sym, ap, ◌∙◌}
use mathlib.Core.Bool.{Bool, true, false, cond}
use mathlib.Core.List.{List}
use native.Mathlib.Omega.{arith}
use lib.ListN.{length}
use lib.Dec.{ltb}
use Rattle.decktext.specs.Text.{lines_of}
use Rattle.decktext.specs.Read.{Buffers, taken, refused, outcome, Progress, start, Read, whole, faulty, concluded_with, read_text}
use Rattle.decktext.proofs.Passing.{through, all_kept}
use Rattle.decktext.proofs.Readings.{apart}
use Rattle.decktext.proofs.Walking.{text_read}

-- a text that is taken, with what its lines gave
pub record Taken (t : List ℕ) (b : Buffers) (n : ℕ) : Type 0 where
  pub given : Progress
  pub lines : text_read t b ≡ whole given
  pub count : given.count ≡ n
  pub reading : read_text t b ≡ outcome given.held (taken n)

number_of : {m n : ℕ} → taken m ≡ taken n → m ≡ n
number_of h = cc

accepted_by : (t : List ℕ) (b : Buffers) (n : ℕ) (limit : Bool) (x : Read) → read_text t b ≡ cond limit (outcome b (refused 17 0)) (concluded_with b x) → text_read t b ≡ x
    → (cond limit (outcome b (refused 17 0)) (concluded_with b x)).said ≡ taken n → Taken t b n
accepted_by t b n true x r e h = apart (sym h)
accepted_by t b n false (whole p) r e h = record { given = p; lines = e; count = number_of h; reading = r ∙ ap (λ (s : ℕ). outcome p.held (taken s)) (number_of h) }
accepted_by t b n false (faulty m k) r e h = apart (sym h)

pub accepted : (t : List ℕ) (b : Buffers) (n : ℕ) → (read_text t b).said ≡ taken n → Taken t b n
unfolding read_text
accepted t b n h = accepted_by t b n (ltb 32768 (length t)) (text_read t b) refl refl h

-- the cells hold the orders that are counted
pub taken_fits : (t : List ℕ) (b : Buffers) (n : ℕ) → (read_text t b).said ≡ taken n → n * 4 ≤ length b.cells
taken_fits t b n h =
    let a = accepted t b n h in
    let k = all_kept (lines_of t) (start b) a.given (through (lines_of t) (start b) a.given 1 a.lines) in
    omega (arith, k.room (omega arith), k.size, a.count)
