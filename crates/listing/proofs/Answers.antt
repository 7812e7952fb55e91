-- The listing by what reading the text answers.
use mathlib.Core.Path.{◌≡◌, ap}
use mathlib.Core.List.{List}
use Prim.Native.Nat.{ℕ}
use Rattle.decktext.specs.declared.refusal.Refusal.{Refusal}
use Rattle.decktext.specs.Read.{Buffers, Outcome, outcome, taken, says_refusal, number_said, line_said, read_text}
use Rattle.listing.specs.Listing.{blank, refusal, ran_from, listed_run, answered, listing_of}

pub of_refused : (t : List ℕ) (b : Buffers) (r : Refusal) → outcome b (says_refusal r) ≡ read_text t blank → refusal (number_said (says_refusal r)) (line_said (says_refusal r)) ≡ listing_of t
unfolding listing_of
of_refused t b (Refusal.Malformed l) e = ap (λ (o : Outcome). answered o.said o.after) e
of_refused t b (Refusal.NoRoom l) e = ap (λ (o : Outcome). answered o.said o.after) e

pub of_taken : (t : List ℕ) (b : Buffers) (n : ℕ) → outcome b (taken n) ≡ read_text t blank → listed_run (ran_from n b) ≡ listing_of t
unfolding listing_of
of_taken t b n e = ap (λ (o : Outcome). answered o.said o.after) e
