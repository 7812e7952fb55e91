-- What a walk says of a reading: a refused text, and one that is written.
use Prim.Native.Nat.{ℕ, ◌*◌, ◌≤◌}
use mathlib.Core.Path.{◌≡◌, refl, sym, ap, ◌∙◌}
use mathlib.Core.List.{List}
use native.Mathlib.Omega.{arith}
use lib.ListN.{length}
use borrow.Author.Tests.{le-ltb}
use Rattle.protection.specs.Form.{ProtectList}
use Rattle.std.specs.Prelude.{Result, Ok, Err}
use Rattle.decktext.specs.declared.staged.Staged.{Staged}
use Rattle.decktext.specs.declared.refusal.Refusal.{Refusal}
use Rattle.decktext.specs.Read.{Buffers, buffers, Said, taken, refused, says_reading, outcome, Progress, Read, whole, faulty, concluded_with, read_text}
use Rattle.decktext.specs.Walk.{said_of, Walked}
use Rattle.decktext.specs.Staged.{with_front, with_words, with_protects, replayed, Landing}
use Rattle.decktext.proofs.Walking.{text_read}

pub apart : {m n k : ℕ} {C : Type 0} → taken m ≡ refused n k → C
apart h = let z : ◌≡◌ {A = ℕ} 0 1 = cc in absurd (omega arith)

pub within_limit : (t : List ℕ) (b : Buffers) → length t ≤ 32768 → read_text t b ≡ concluded_with b (text_read t b)
unfolding read_text
within_limit t b l = rw (le-ltb 32768 (length t) l)

-- a text that is said to be taken is whole
pub record Whole (t : List ℕ) (b : Buffers) (n : ℕ) : Type 0 where
  pub given : Progress
  pub lines : text_read t b ≡ whole given
  pub count : given.count ≡ n

number_of : {m n : ℕ} → taken m ≡ taken n → m ≡ n
number_of h = cc

whole_by : (t : List ℕ) (b : Buffers) (n : ℕ) (x : Read) → text_read t b ≡ x → said_of x ≡ taken n → Whole t b n
whole_by t b n (whole p) e h = record { given = p; lines = e; count = number_of h }
whole_by t b n (faulty m k) e h = apart (sym h)

module _ {t : List ℕ} {b : Buffers} {staged : Staged} {r : Result ℕ Refusal} (w : Walked t b staged r) (limit : length t ≤ 32768) where
  refused_by : (f : Refusal) (x : Read) → r ≡ Err f → says_reading r ≡ said_of x → outcome b (says_reading r) ≡ concluded_with b x
  refused_by f (faulty m j) q e = ap (λ (z : Said). outcome b z) e
  refused_by (Refusal.Malformed l) (whole p) q e = apart (sym e ∙ ap says_reading q)
  refused_by (Refusal.NoRoom l) (whole p) q e = apart (sym e ∙ ap says_reading q)

  pub refusal : (f : Refusal) → r ≡ Err f → outcome b (says_reading r) ≡ read_text t b
  refusal f q = refused_by f (text_read t b) q w.said ∙ sym (within_limit t b limit)

  module _ (n : ℕ) (e : r ≡ Ok n) where
    pub text : Whole t b n
    text = whole_by t b n (text_read t b) refl (sym w.said ∙ ap says_reading e)

    pub orders : n * 4 ≤ 16384
    orders = rw text.count at (w.orders text.given text.lines)

    pub landing : Landing staged.values n staged.halfwords (length b.memory)
    landing = rw text.count at (w.landing text.given text.lines)

    pub said_taken : (read_text t b).said ≡ taken n
    said_taken = rw (within_limit t b limit, text.lines) (ap (λ (m : ℕ). taken m) text.count)

    -- what is staged is copied out
    pub taking : (cells memory : List ℕ) (protect : ProtectList) → cells ≡ with_front staged.values (n * 4) b.cells → memory ≡ with_words staged.values n staged.halfwords b.memory
        → protect ≡ with_protects staged.values n staged.halfwords b.protect → outcome (buffers cells memory protect) (taken n) ≡ read_text t b
    taking cells memory protect ec em ep =
        let held : text.given.held ≡ replayed staged.values n staged.halfwords b = rw text.count at (w.held text.given text.lines) in
        let now : buffers cells memory protect ≡ replayed staged.values n staged.halfwords b = rw (ec, em, ep) in
        ap (λ (x : Buffers). outcome x (taken n)) (now ∙ sym held)
        ∙ sym (within_limit t b limit ∙ ap (λ (x : Read). concluded_with b x) text.lines ∙ ap (λ (m : ℕ). outcome text.given.held (taken m)) text.count)
