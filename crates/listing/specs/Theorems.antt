-- What is proved of the listing, in the words of document 01, 'Deck text'. The proof is in proofs/Theorems.antt.
use Rattle.std.specs.Prelude.{ℕ, ◌≡◌, List}
use Rattle.decktext.specs.Read.{taken, read_text}
use Rattle.listing.specs.Listing.{blank, ran_from}

-- `desk` runs to a stop: the run of a text that is taken doesn't end at its limit, which is the stop 0.
pub record Desk : Type 0 where
  pub stops : (text : List ℕ) (n : ℕ) → (read_text text blank).said ≡ taken n → (ran_from n (read_text text blank).after).stop ≡ 0 → ⊥
