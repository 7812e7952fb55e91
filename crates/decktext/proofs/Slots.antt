-- The table of slots: a key stands in its slot, or is no mnemonic's, by two tests that are computed, one over the slots and one over the mnemonics.
use Prim.Native.Nat.{ℕ, ◌+◌, ◌/◌, ◌%◌, ◌<◌}
use mathlib.Core.Path.{◌≡◌, refl, sym, ap, ◌∙◌}
use mathlib.Core.Bool.{Bool, true, false, cond, ◌&&◌, ◌||◌}
use mathlib.Core.List.{List, [], ◌∷◌}
use native.Mathlib.Nat.{mod-lt, zero-lt-suc}
use native.Mathlib.Omega.{arith}
use lib.Dec.{eqb}
use lib.ListN.{length, get_or}
use borrow.Author.Tests.{eqb-true, eqb-false}
use Rattle.hexfloat.proofs.Answers.{both}
use Rattle.hexfloat.specs.Answer.{Answer, gives, stops}
use Rattle.decktext.specs.Value.{mnemonics}
use Rattle.decktext.specs.Key.{name_key, code_among_keys, code_by_key, slot_of, SlotTable}
use Rattle.decktext.proofs.Tested.{all_below, passes}

abbrev answers : Answer ℕ → ℕ → Bool
answers (gives x) n = eqb x n
answers (stops k) n = false

answered : (a : Answer ℕ) (n : ℕ) → answers a n ≡ true → a ≡ gives n
answered (gives x) n h = ap (λ (y : ℕ). gives y) (eqb-true x n h)
answered (stops k) n h = let z : ◌≡◌ {A = ℕ} 0 1 = cc in absurd (omega arith)

-- a slot is empty, or its code is that of its key
unfoldable pub right : List ℕ → ℕ → Bool
right t h = eqb (get_or t h 0) 0 || answers (code_by_key (get_or t h 0 / 64)) (get_or t h 0 % 64)

-- some mnemonics stand in their slots
unfoldable pub stand : List ℕ → List (List ℕ) → Bool
stand t [] = true
stand t (m ∷ ms) = eqb (get_or t (slot_of (name_key m)) 0 / 64) (name_key m) && stand t ms

slot_below : (k : ℕ) → slot_of k < 64
unfolding slot_of
slot_below k = mod-lt _ (zero-lt-suc 63)

found : (k e : ℕ) (b : Bool) → eqb e 0 ≡ b → e / 64 ≡ k → (k ≡ 0 → e ≡ 0 → ⊥) → (b || answers (code_by_key (e / 64)) (e % 64)) ≡ true → code_by_key k ≡ gives (e % 64)
found k e true z q taken h =
    let none = eqb-true e 0 z in
    let zero_key : k ≡ 0 = omega arith in
    absurd (taken zero_key none)
found k e false z q taken h = ap code_by_key (sym q) ∙ answered (code_by_key (e / 64)) (e % 64) h

absent_by : (m : List ℕ) (n k : ℕ) (rest : Answer ℕ) (b : Bool) → eqb k (name_key m) ≡ b → (k ≡ name_key m → ⊥) → rest ≡ stops 16 → cond b (gives n) rest ≡ stops 16
absent_by m n k rest true e h r = absurd (h (eqb-true k (name_key m) e))
absent_by m n k rest false e h r = r

-- Each slot is tested, and each mnemonic; the slot of key 0 is taken, so no key is that of an empty slot.
module _ (t : List ℕ) (slots : all_below (right t) 64 ≡ true) (names : stand t mnemonics ≡ true) (taken : eqb (get_or t (slot_of 0) 0) 0 ≡ false) where
  present : (k : ℕ) → get_or t (slot_of k) 0 / 64 ≡ k → code_by_key k ≡ gives (get_or t (slot_of k) 0 % 64)
  unfolding right
  present k q =
      found k (get_or t (slot_of k) 0) (eqb (get_or t (slot_of k) 0) 0) refl q (λ z n. eqb-false (get_or t (slot_of 0) 0) 0 taken (rw z at n))
      (passes (right t) 64 (slot_of k) slots (slot_below k))

  absent : (ms : List (List ℕ)) (n k : ℕ) → stand t ms ≡ true → (get_or t (slot_of k) 0 / 64 ≡ k → ⊥) → code_among_keys ms n k ≡ stops 16
  unfolding stand code_among_keys
  absent [] n k s h = refl
  absent (m ∷ ms) n k s h =
      let q = both (eqb (get_or t (slot_of (name_key m)) 0 / 64) (name_key m)) (stand t ms) s in
      absent_by m n k (code_among_keys ms (n + 1) k) (eqb k (name_key m)) refl (λ e. h (rw e (eqb-true _ _ q.0))) (absent ms (n + 1) k q.1 h)

  entry_by : (k : ℕ) (b : Bool) → eqb (get_or t (slot_of k) 0 / 64) k ≡ b → cond b (gives (get_or t (slot_of k) 0 % 64)) (stops 16) ≡ code_by_key k
  unfolding code_by_key
  entry_by k true e = sym (present k (eqb-true _ _ e))
  entry_by k false e = sym (absent mnemonics 1 k names (eqb-false _ _ e))

  pub slot_table : length t ≡ 64 → SlotTable t
  slot_table l = record { size = l; entry = λ k. entry_by k (eqb (get_or t (slot_of k) 0 / 64) k) refl }
