-- A deck has one answer: the checks stand in one order, and of the orders, and of an order's registers, one is the lowest.
-- The other theorems are of Along and Independent.
use Prim.Native.Nat.{ℕ, ◌<◌}
use mathlib.Core.Path.{◌≡◌, refl, sym, ap, ap₂, subst, ◌∙◌}
use mathlib.Core.List.{List}
use mathlib.Core.Bool.{true, false, true≢false}
use lib.ListN.{length}
use native.Mathlib.Omega.{arith}
use Rattle.hexfloat.specs.Answer.{Answer, gives}
use Rattle.machine.specs.Check.{deck_sized}
use Rattle.machine.specs.Uses.{Register}
use Rattle.hexfloat.proofs.Answers.{never}
use Rattle.unset.specs.Answer.{rank, LowestUnset, Finding, unset, Answers, wrong_size, illegal, none, lowest}
use Rattle.unset.specs.Bits.{register_of}
use Rattle.unset.specs.Theorems.{Theorems}
use Rattle.unset.proofs.Along.{along}
use Rattle.unset.proofs.Independent.{nothing_unset}
use Rattle.unset.proofs.Words.{of_rank}
use Rattle.unset.proofs.Lowest.{proper_unset}

-- check 1 does not both fail and pass
one_size : {C : Type 0} (n : ℕ) → deck_sized n ≡ false → deck_sized n ≡ true → C
one_size n e f = absurd (true≢false (sym f ∙ e))

-- neither of two lowest orders is below the other
same-order : (d : List ℕ) (p q : ℕ) (r t : Register) → LowestUnset d p r → LowestUnset d q t → p ≡ q
same-order d p q r t l m =
    let above : ¬ (p < q) = λ h. m.lowest_order p r h l.unset in
    let below : ¬ (q < p) = λ h. l.lowest_order q t h m.unset in
    omega arith

-- nor is either of two lowest registers of one order, and a register is known by its place
same_register : (d : List ℕ) (p : ℕ) (r t : Register) → LowestUnset d p r → LowestUnset d p t → r ≡ t
same_register d p r t l m =
    let above : ¬ (rank r < rank t) = λ h. m.lowest_register r h l.unset in
    let below : ¬ (rank t < rank r) = λ h. l.lowest_register t h m.unset in
    let same : rank r ≡ rank t = omega arith in
    sym (of_rank r (proper_unset d p r l.unset)) ∙ ap register_of same ∙ of_rank t (proper_unset d p t m.unset)

same-lowest : (d : List ℕ) (p q : ℕ) (r t : Register) → LowestUnset d p r → LowestUnset d q t → unset p r ≡ unset q t
same-lowest d p q r t l m =
    let e = same-order d p q r t l m in
    ap₂ unset e (same_register d p r t l (subst (λ (x : ℕ). LowestUnset d x t) (sym e) m))

one_answer : (d : List ℕ) (a b : Answer Finding) → Answers d a → Answers d b → a ≡ b
one_answer d a b (wrong_size e) (wrong_size f) = refl
one_answer d a b (wrong_size e) (illegal f p l h) = one_size (length d) e f
one_answer d a b (wrong_size e) (none c n) = one_size (length d) e c.sized
one_answer d a b (wrong_size e) (lowest c m) = one_size (length d) e c.sized
one_answer d a b (illegal f p l h) (wrong_size e) = one_size (length d) e f
one_answer d a b (illegal f p l h) (illegal g q m k) = refl
one_answer d a b (illegal f p l h) (none c n) = never (sym h ∙ (c.legal p l).legal)
one_answer d a b (illegal f p l h) (lowest c m) = never (sym h ∙ (c.legal p l).legal)
one_answer d a b (none c n) (wrong_size e) = one_size (length d) e c.sized
one_answer d a b (none c n) (illegal f p l h) = never (sym h ∙ (c.legal p l).legal)
one_answer d a b (none c n) (none k m) = refl
one_answer d a b (none c n) (lowest {p} {r} k m) = absurd (n p r m.unset)
one_answer d a b (lowest c l) (wrong_size e) = one_size (length d) e c.sized
one_answer d a b (lowest c l) (illegal f p i h) = never (sym h ∙ (c.legal p i).legal)
one_answer d a b (lowest {p} {r} c l) (none k n) = absurd (n p r l.unset)
one_answer d a b (lowest {p} {r} c l) (lowest {p = q} {r = t} k m) = ap gives (same-lowest d p q r t l m)

pub theorems : Theorems
theorems = record { one_answer = one_answer; along = along; nothing_unset = nothing_unset }
