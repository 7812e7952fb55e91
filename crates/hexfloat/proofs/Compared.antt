-- How signed numbers rank: by their magnitudes where they have one sign, else by what both magnitudes have together. So numbers whose magnitudes rank
-- alike rank alike, and the operands' keys give exact order.
use mathlib.Core.Path.{◌≡◌, sym, ap, ap₂, ◌∙◌, subst₂}
use mathlib.Core.Logic.{⊎_elim}
use Prim.Native.Nat.{ℕ, ◌+◌, ◌<◌}
use native.Mathlib.Nat.{add_comm, add-zero, zero-add, ne_of_gt, eq-zero-or-pos}
use native.Mathlib.Omega.{arith}
use borrow.Author.Tests.{eq-eqb, ne_eqb}
use Rattle.hexfloat.specs.declared.word.Parts.{Parts}
use Rattle.hexfloat.specs.declared.word.Width.{Width}
use Rattle.hexfloat.specs.declared.word.Words.{Words}
use Rattle.hexfloat.specs.Word.{parts_of}
use Rattle.hexfloat.specs.Compare.{rank_condition, signed_rank, compared, compared_by, compared_words}
use Rattle.hexfloat.specs.Operand.{Operand, magnitude_key}
use Rattle.hexfloat.proofs.Keys.{same_rank, key_less, key_same, zero_key, some_key}

module _ (s m t n : ℕ) where
  pub both_above : s ≡ 0 → t ≡ 0 → signed_rank s m t n ≡ rank_condition m n
  both_above hs ht = rw (eq-eqb s 0 hs, eq-eqb t 0 ht) (ap₂ rank_condition (add-zero m) (add-zero n))

  pub both_below : (s ≡ 0 → ⊥) → (t ≡ 0 → ⊥) → signed_rank s m t n ≡ rank_condition n m
  both_below hs ht = rw (ne_eqb s 0 hs, ne_eqb t 0 ht) (ap₂ rank_condition (zero-add n) (zero-add m))

  pub first_above : s ≡ 0 → (t ≡ 0 → ⊥) → signed_rank s m t n ≡ rank_condition (m + n) 0
  first_above hs ht = rw (eq-eqb s 0 hs, ne_eqb t 0 ht)

  pub first_below : (s ≡ 0 → ⊥) → t ≡ 0 → signed_rank s m t n ≡ rank_condition 0 (m + n)
  first_below hs ht = rw (ne_eqb s 0 hs, eq-eqb t 0 ht) (ap₂ rank_condition (zero-add 0) (add_comm n m))

-- what holds of each of these four holds of the rank
pub by_signs : (R : ℕ → ℕ → Type 0) (s t m n m' n' : ℕ)
    → R (rank_condition m n) (rank_condition m' n')
    → R (rank_condition n m) (rank_condition n' m')
    → R (rank_condition (m + n) 0) (rank_condition (m' + n') 0)
    → R (rank_condition 0 (m + n)) (rank_condition 0 (m' + n'))
    → R (signed_rank s m t n) (signed_rank s m' t n')
by_signs R s t m n m' n' up down first second = ⊎_elim above below (eq-zero-or-pos s)
  where
    above : s ≡ 0 → R (signed_rank s m t n) (signed_rank s m' t n')
    above hs =
        ⊎_elim
        (λ ht. subst₂ R (sym (both_above s m t n hs ht)) (sym (both_above s m' t n' hs ht)) up)
        (λ ht. subst₂ R (sym (first_above s m t n hs (ne_of_gt ht))) (sym (first_above s m' t n' hs (ne_of_gt ht))) first)
        (eq-zero-or-pos t)

    below : 0 < s → R (signed_rank s m t n) (signed_rank s m' t n')
    below hs =
        ⊎_elim
        (λ ht. subst₂ R (sym (first_below s m t n (ne_of_gt hs) ht)) (sym (first_below s m' t n' (ne_of_gt hs) ht)) second)
        (λ ht. subst₂ R (sym (both_below s m t n (ne_of_gt hs) (ne_of_gt ht))) (sym (both_below s m' t n' (ne_of_gt hs) (ne_of_gt ht))) down)
        (eq-zero-or-pos t)

-- m and n rank as m' and n' do, and both are nothing where those are
pub record Alike (m n m' n' : ℕ) : Type 0 where
  pub less : m < n → m' < n'
  pub same : m ≡ n → m' ≡ n'
  pub more : n < m → n' < m'
  pub none : m + n ≡ 0 → m' + n' ≡ 0
  pub some : 0 < m + n → 0 < m' + n'

pub alike_rank : {m n m' n' : ℕ} → Alike m n m' n' → (s t : ℕ) → signed_rank s m t n ≡ signed_rank s m' t n'
alike_rank {m} {n} {m'} {n'} a s t =
    by_signs (λ (x y : ℕ). x ≡ y) s t m n m' n'
    (same_rank m n m' n' a.less a.same a.more)
    (same_rank n m n' m' a.more (λ e. sym (a.same (sym e))) a.less)
    (same_rank (m + n) 0 (m' + n') 0 (λ h. omega arith) a.none a.some)
    (same_rank 0 (m + n) 0 (m' + n') a.some (λ e. sym (a.none (sym e))) (λ h. omega arith))

pub keys_rank : {d : ℕ} {x y : Parts} → Operand d x → Operand d y → signed_rank x.sign (magnitude_key d x) y.sign (magnitude_key d y) ≡ compared d x y
unfolding compared
keys_rank {d} {x} {y} ox oy =
    alike_rank
    (record {
      less = key_less ox oy;
      same = key_same ox oy;
      more = key_less oy ox;
      none = λ e. omega (arith, zero_key ox (omega arith), zero_key oy (omega arith));
      some = λ h. ⊎_elim (λ e. omega (arith, some_key oy (λ z. omega arith))) (λ p. omega (arith, some_key ox (ne_of_gt p))) (eq-zero-or-pos (magnitude_key d x));
    })
    x.sign y.sign

-- the condition of two words, whose width is v and whose parts have any names
pub in_words : {v w : Width} (a b : Words) {x y : Parts} → w ≡ v → x ≡ parts_of w a → y ≡ parts_of w b → compared_by v x y ≡ compared_words w a b
unfolding compared_words
in_words {v} {w} a b e ex ey = ap₂ (compared_by v) ex ey ∙ ap (λ (z : Width). compared_by z (parts_of w a) (parts_of w b)) (sym e)
