-- Every protected halfword is as at the start, after every list of calls.
use Prim.Native.Nat.{ℕ, ◌+◌, ◌/◌, ◌%◌}
use mathlib.Core.Path.{◌≡◌, refl, sym, ap, ◌∙◌}
use mathlib.Core.List.{List}
use mathlib.Core.Bool.{Bool, true, false, ◌||◌}
use lib.ListN.{get_or, set}
use lib.Seq.{get_or-set_other}
use native.Mathlib.Omega.{arith}
use Rattle.protection.specs.Form.{ProtectList, is_protected}
use Rattle.machine.specs.declared.change.Change.{Change}
use Rattle.machine.specs.Check.{any_protected}
use Rattle.machine.specs.Change.{guarded, put_word, memory_after}
use Rattle.machine.specs.Machine.{Machine}
use Rattle.conditions.specs.Trail.{Call}
use Rattle.conditions.specs.Theorems.{machine_after}
use Rattle.conditions.proofs.Keeps.{calls_keep}

either : (a b : Bool) → (a || b) ≡ false → (a ≡ false) × (b ≡ false)
either true b h = absurd (let z : ◌≡◌ {A = ℕ} 0 1 = cc in omega arith)
either false b h = (refl, h)

module _ (p : ProtectList) (a : ℕ) (protected : is_protected p a ≡ true) where
  differs : (b : ℕ) → is_protected p b ≡ false → a ≡ b → ⊥
  differs b h e = let z : true ≡ false = sym protected ∙ ap (is_protected p) e ∙ h in let y : ◌≡◌ {A = ℕ} 0 1 = cc in omega arith

  word_keeps : (b w : ℕ) (m : List ℕ) → is_protected p b ≡ false → is_protected p (b + 1) ≡ false → get_or (put_word b w m) a 0 ≡ get_or m a 0
  word_keeps b w m h i =
      get_or-set_other (set m b (w / 65536 % 65536)) (b + 1) a (w % 65536) 0 (differs (b + 1) i)
      ∙ get_or-set_other m b a (w / 65536 % 65536) 0 (differs b h)

  -- a change that stores to no protected halfword
  change_keeps : (ch : Change) (m : List ℕ) → guarded p ch ≡ false → get_or (memory_after ch m) a 0 ≡ get_or m a 0
  unfolding guarded any_protected memory_after
  change_keeps Change.Nothing m h = refl
  change_keeps (Change.Float r w) m h = refl
  change_keeps (Change.Pair r x y) m h = refl
  change_keeps (Change.General r w) m h = refl
  change_keeps (Change.Two b w) m h =
      let q = either (is_protected p b) (is_protected p (b + 1) || false) h in
      word_keeps b w m q.0 (either (is_protected p (b + 1)) false q.1).0
  change_keeps (Change.Four b x y) m h =
      let e2 : b + 1 + 1 ≡ b + 2 = omega arith in
      let e3 : b + 1 + 1 + 1 ≡ b + 2 + 1 = omega arith in
      let q0 = either (is_protected p b) (is_protected p (b + 1) || (is_protected p (b + 1 + 1) || (is_protected p (b + 1 + 1 + 1) || false))) h in
      let q1 = either (is_protected p (b + 1)) (is_protected p (b + 1 + 1) || (is_protected p (b + 1 + 1 + 1) || false)) q0.1 in
      let q2 = either (is_protected p (b + 1 + 1)) (is_protected p (b + 1 + 1 + 1) || false) q1.1 in
      let q3 = either (is_protected p (b + 1 + 1 + 1)) false q2.1 in
      word_keeps (b + 2) y (put_word b x m) (ap (is_protected p) (sym e2) ∙ q2.0) (ap (is_protected p) (sym e3) ∙ q3.0)
      ∙ word_keeps b x m q0.0 q1.0

  pub protected_keeps : (d : List ℕ) (cs : List Call) (x : Machine) → get_or (machine_after d p cs x).memory a 0 ≡ get_or x.memory a 0
  protected_keeps d = calls_keep p (λ m. get_or m a 0) change_keeps d
