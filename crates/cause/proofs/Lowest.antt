-- The lowest of some addresses that a check refuses.
use Rattle.std.specs.Prelude.{Option, Some, None, MatchOption}
use Rattle.std.specs.Option.{unwrap_or}
use Prim.Native.Nat.{ℕ, zero, suc, ◌+◌, ◌<◌, ◌≤◌}
use mathlib.Core.Path.{◌≡◌, refl, sym, ap, ◌∙◌}
use mathlib.Core.Bool.{Bool, true, false, cond, ◌||◌}
use mathlib.Core.Logic.{⊎_elim}
use lib.Dec.{eqb, leb, ltb}
use native.Mathlib.Nat.{eq-zero-or-pos}
use native.Mathlib.Omega.{arith}
use borrow.Author.Tests.{eqb-false, leb-true, leb-false, le-leb, lt-leb, lt-ltb, le-ltb}
use Rattle.protection.specs.Form.{ProtectList, is_protected}
use Rattle.machine.specs.Check.{present, any_protected}
use Rattle.cause.specs.Storage.{lowest, IsLowest, is_absent}

module _ (refuses : ℕ → Bool) where
  -- the address itself, or the rest without it
  pub lowest_here : (a n : ℕ) → refuses a ≡ true → lowest refuses a n ≡ a
  unfolding lowest
  lowest_here a zero h = refl
  lowest_here a (suc n) h = ap (λ (t : Bool). cond t a (lowest refuses (a + 1) n)) h

  -- it is x, where each lower one passes, and x itself does not or is their end
  pub lowest_at : (a n x : ℕ) → a ≤ x → x ≤ a + n → (x < a + n → refuses x ≡ true) → ((b : ℕ) → a ≤ b → b < x → refuses b ≡ false) → lowest refuses a n ≡ x
  unfolding lowest
  lowest_at a zero x l u r p = omega arith
  lowest_at a (suc n) x l u r p = cases (leb (a + 1) x) refl (λ h. lowest_at (a + 1) n x h (omega arith) (λ z. r (omega (arith, z))) (λ b m. p b (omega (arith, m))))
    where
      cases : (t : Bool) → leb (a + 1) x ≡ t → (a + 1 ≤ x → lowest refuses (a + 1) n ≡ x) → cond (refuses a) a (lowest refuses (a + 1) n) ≡ x
      cases true t rest =
          let h : a + 1 ≤ x = leb-true (a + 1) x t in
          rw (p a (omega arith) (omega (arith, h))) (rest h)
      cases false t rest =
          let e : a ≡ x = omega (arith, leb-false (a + 1) x t) in
          ap (λ (z : Bool). cond z a (lowest refuses (a + 1) n)) (ap refuses e ∙ r (omega (arith, e))) ∙ e

  -- by a search for the first that does not pass
  pub lowest_found : (a n : ℕ) (r : Option ℕ)
      → MatchOption r ((k : ℕ) → a ≤ k → k < a + n → false ≡ refuses k) (λ i. (a ≤ i) × (i < a + n) × (true ≡ refuses i) × ((k : ℕ) → a ≤ k → k < i → false ≡ refuses k))
      → unwrap_or r (a + n) ≡ lowest refuses a n
  lowest_found a n None h = sym (lowest_at a n (a + n) (omega arith) (omega arith) (λ z. absurd (omega (arith, z))) (λ b l u. sym (h b l u)))
  lowest_found a n (Some i) h = sym (lowest_at a n i h.0 (omega (arith, h.1)) (λ z. sym h.2) (λ b l u. sym (h.3 b l u)))

  -- one address more in front, which the check lets pass
  more : (a n x : ℕ) → refuses a ≡ false → IsLowest refuses (a + 1) n x → IsLowest refuses a (suc n) x
  more a n x e h = record {
    from = omega (arith, h.from);
    below = omega (arith, h.below);
    refused = h.refused;
    passed = λ b l u. cases b l u (leb (a + 1) b) refl;
  }
    where
      cases : (b : ℕ) → a ≤ b → b < x → (t : Bool) → leb (a + 1) b ≡ t → refuses b ≡ false
      cases b l u true t = h.passed b (leb-true (a + 1) b t) u
      cases b l u false t = let same : b ≡ a = omega (arith, leb-false (a + 1) b t) in rw (same) e

  -- where there is one below the end, it is the lowest
  pub lowest_is : (a n : ℕ) → lowest refuses a n < a + n → IsLowest refuses a n (lowest refuses a n)
  unfolding lowest
  lowest_is a zero h = absurd (omega arith)
  lowest_is a (suc n) h = cases (refuses a) refl h (lowest_is (a + 1) n)
    where
      cases :
          (t : Bool) → refuses a ≡ t → cond t a (lowest refuses (a + 1) n) < a + suc n →
          (lowest refuses (a + 1) n < a + 1 + n → IsLowest refuses (a + 1) n (lowest refuses (a + 1) n)) → IsLowest refuses a (suc n) (cond t a (lowest refuses (a + 1) n))
      cases true e h rest = record { from = omega arith; below = omega arith; refused = e; passed = λ b l u. absurd (omega arith) }
      cases false e h rest = more a n _ e (rest (omega (arith, h)))

-- a halfword to be stored is protected exactly if there is one
pub any_lowest : (p : ProtectList) (a n : ℕ) → any_protected p a n ≡ ltb (lowest (is_protected p) a n) (a + n)
unfolding any_protected lowest
any_lowest p a zero = sym (le-ltb a (a + 0) (omega arith))
any_lowest p a (suc n) = cases (is_protected p a) (any_lowest p (a + 1) n)
  where
    cases :
        (t : Bool) → any_protected p (a + 1) n ≡ ltb (lowest (is_protected p) (a + 1) n) (a + 1 + n) →
        (t || any_protected p (a + 1) n) ≡ ltb (cond t a (lowest (is_protected p) (a + 1) n)) (a + suc n)
    cases true rest = sym (lt-ltb a (a + suc n) (omega arith))
    cases false rest = let same : a + 1 + n ≡ a + suc n = omega arith in rest ∙ ap (ltb (lowest (is_protected p) (a + 1) n)) same

module _ (memory : ℕ) where
  pub absent_here : (a n : ℕ) → memory ≤ a → lowest (is_absent memory) a n ≡ a
  absent_here a n h = lowest_here (is_absent memory) a n (le-leb memory a h)

  -- the end of memory is among the addresses
  pub absent_end : (a n : ℕ) → a ≤ memory → memory < a + n → lowest (is_absent memory) a n ≡ memory
  unfolding lowest
  absent_end a zero l u = absurd (omega arith)
  absent_end a (suc n) l u = cases (leb memory a) refl (λ h. absent_end (a + 1) n h (omega arith))
    where
      cases : (t : Bool) → leb memory a ≡ t → (a + 1 ≤ memory → lowest (is_absent memory) (a + 1) n ≡ memory) → cond t a (lowest (is_absent memory) (a + 1) n) ≡ memory
      cases true e rest = omega (arith, leb-true memory a e)
      cases false e rest = rest (omega (arith, leb-false memory a e))

  -- none of them is past it
  pub absent_none : (a n : ℕ) → a + n ≤ memory → lowest (is_absent memory) a n ≡ a + n
  unfolding lowest
  absent_none a zero h = omega arith
  absent_none a (suc n) h =
      let there : leb memory a ≡ false = lt-leb memory a (omega arith) in
      rw (there) (omega (arith, absent_none (a + 1) n (omega arith)))

  pub absent_found : (a n : ℕ) → 0 < n → memory < a + n → lowest (is_absent memory) a n < a + n
  absent_found a n some h = cases (leb memory a) refl
    where
      cases : (t : Bool) → leb memory a ≡ t → lowest (is_absent memory) a n < a + n
      cases true e = omega (arith, absent_here a n (leb-true memory a e))
      cases false e = omega (arith, absent_end a n (omega (arith, leb-false memory a e)) h)

-- a part of S is past the end of memory
pub past_end : (span a memory : ℕ) → present span a memory ≡ false → (0 < span) × (memory < a + span)
unfolding present
past_end span a memory h = cases (eqb span 0) (leb (a + span) memory) refl refl h
  where
    cases : (x y : Bool) → eqb span 0 ≡ x → leb (a + span) memory ≡ y → (x || y) ≡ false → (0 < span) × (memory < a + span)
    cases true y e f h = absurd (let z : ◌≡◌ {A = ℕ} 0 1 = cc in omega arith)
    cases false true e f h = absurd (let z : ◌≡◌ {A = ℕ} 0 1 = cc in omega arith)
    cases false false e f h = let some = eqb-false span 0 e in (⊎_elim (λ z. absurd (some z)) (λ z. z) (eq-zero-or-pos span), leb-false (a + span) memory f)

-- some halfword is protected
pub any_some : (p : ProtectList) (a n : ℕ) → any_protected p a n ≡ true → 0 < n
unfolding any_protected
any_some p a zero h = absurd (let z : ◌≡◌ {A = ℕ} 0 1 = cc in omega arith)
any_some p a (suc n) h = omega arith
