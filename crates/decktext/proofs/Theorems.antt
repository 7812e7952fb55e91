-- The theorems of specs/Theorems.antt.
use Prim.Native.Nat.{ℕ, ◌+◌, ◌≤◌}
use mathlib.Core.Path.{◌≡◌, refl, sym, ap, ◌∙◌}
use mathlib.Core.List.{List, ◌∷◌, ◌++◌}
use native.Mathlib.Omega.{arith}
use lib.ListN.{length, get_or}
use lib.Seq.{get_or-set_same}
use Rattle.hexfloat.specs.Answer.{gives}
use Rattle.orders.specs.Order.{order_at}
use Rattle.protection.specs.Form.{is_protected, with_mark}
use Rattle.protection.specs.Bits.{bit_form}
use Rattle.decktext.specs.Text.{Line, ended, lines_of}
use Rattle.decktext.specs.Read.{Buffers, refused, taken, Outcome, Progress, start, Given, ordered, stored, order, line_read, buffered_with, progressed, Read, whole, faulty, concluded_with, lines_read_by, lines_read, read_text}
use Rattle.decktext.specs.Theorems.{Through, FirstFault, Written, Reader}
use Rattle.decktext.proofs.Cells.{order-put}
use Rattle.decktext.proofs.Forms.{sound_fits}
use Rattle.decktext.proofs.Laws.{accepted}
use Rattle.decktext.proofs.Marks.{marked_here}
use Rattle.decktext.proofs.Passing.{front, through, skip, first_fault, all_kept, Kept, line_sound, Counted, all-counted, wanted_by}
use Rattle.decktext.proofs.Numbers.{numbered, counted}
use Rattle.decktext.proofs.Packed.{as_before}
use Rattle.decktext.proofs.Readings.{apart, within_limit}
use Rattle.decktext.proofs.Unindexed.{unindexed}
use Rattle.decktext.proofs.Walking.{text_read}

-- ---- the first fault

refused_by : (b : Buffers) (x : Read) (n k : ℕ) → (concluded_with b x).said ≡ refused n k → x ≡ faulty n k
refused_by b (whole p) n k h = apart h
refused_by b (faulty m j) n k h = cc

refusal : (t : List ℕ) (b : Buffers) (n k : ℕ) → length t ≤ 32768 → (read_text t b).said ≡ refused n k → FirstFault t b n k
refusal t b n k l h =
    let f = first_fault (lines_of t) (start b) 1 n k (refused_by b (text_read t b) n k (sym (ap (λ (o : Outcome). o.said) (within_limit t b l)) ∙ h)) in
    record {
      before = f.before;
      rest = f.rest;
      reached = f.reached;
      text = f.lines;
      number = omega (arith, f.number);
      through = f.through;
      faulty = f.faulty;
    }

-- ---- what is written

-- the lines after one that was read keep what it wrote
module _ (t : List ℕ) (b : Buffers) (n : ℕ) (taken_in : (read_text t b).said ≡ taken n) (before after : List Line) (line : List ℕ) (p : Progress)
    (cut : lines_of t ≡ before ++ (ended line ∷ after)) (gone : Through before (start b) p) (g : Given) (given : line_read p line ≡ gives g) where
  later : lines_read after (progressed g p) (1 + length before + 1) ≡ whole (accepted t b n taken_in).given
  unfolding lines_read_by
  later =
      let e : lines_read (ended line ∷ after) p (1 + length before) ≡ whole (accepted t b n taken_in).given =
      sym (skip before (ended line ∷ after) (start b) p 1 gone) ∙ ap (λ (ls : List Line). lines_read ls (start b) 1) (sym cut) ∙ (accepted t b n taken_in).lines in
      rw given at e

  rest_kept : Kept (progressed g p) (accepted t b n taken_in).given
  rest_kept = all_kept after (progressed g p) (accepted t b n taken_in).given (through after (progressed g p) (accepted t b n taken_in).given (1 + length before + 1) later)

  held_after : (read_text t b).after ≡ (accepted t b n taken_in).given.held
  held_after = ap (λ (o : Outcome). o.after) (accepted t b n taken_in).reading

written : (t : List ℕ) (b : Buffers) (n : ℕ) → (read_text t b).said ≡ taken n → Written t b
unfolding progressed buffered_with with_mark
written t b n h = record {
  through = λ before after cut.
      let a = accepted t b n h in
      front before after (start b) a.given (rw cut at (through (lines_of t) (start b) a.given 1 a.lines));
  order = λ before after line p o cut gone given.
      let s = line_sound p line (ordered o) given in
      let k = rest_kept t b n h before after line p cut gone (ordered o) given in
      let e = held_after t b n h before after line p cut gone (ordered o) given in
      let c : Counted p.wanted p.count (0 + length before) = all-counted before (start b) p 0 gone (refl, refl) in
      let w : Counted order p.count (0 + length before) = rw (wanted_by s) at c in (
        omega arith,
        ap (λ (x : Buffers). order_at x.cells p.count) e ∙ k.cells p.count (omega arith) ∙ order-put p.held.cells p.count o (sound_fits s).0,
      );
  word = λ before after line p m cut gone given.
      let s = sound_fits (line_sound p line (stored m) given) in
      let k = rest_kept t b n h before after line p cut gone (stored m) given in
      let e = held_after t b n h before after line p cut gone (stored m) given in
      ap (λ (x : Buffers). get_or x.memory m.at 0) e ∙ k.memory m.at (omega arith) ∙ get_or-set_same p.held.memory m.at m.word 0 s.0.0;
  protect = λ packed before after line p m cut gone given.
      let s = sound_fits (line_sound p line (stored m) given) in
      let k = rest_kept t b n h before after line p cut gone (stored m) given in
      let e = held_after t b n h before after line p cut gone (stored m) given in
      let form : p.held.protect.form ≡ bit_form = (all_kept before (start b) p gone).form ∙ packed in
      ap (λ (x : Buffers). is_protected x.protect m.at) e ∙ k.protect form m.at (omega arith) ∙ marked_here p.held.protect form m.at m.protect s.0.1 s.1;
}

pub reader : Reader
reader = record { refusal = refusal; accepted = written; numbered = numbered; counted = counted; as_before = as_before; unindexed = unindexed }
