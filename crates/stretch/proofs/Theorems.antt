-- The theorems on the shortest stretch.
use Prim.Native.Nat.{ℕ, ◌<◌}
use mathlib.Core.Path.{◌≡◌, refl, sym, ap, subst, ◌∙◌}
use mathlib.Core.List.{List}
use native.Mathlib.Omega.{arith}
use Rattle.hexfloat.specs.Answer.{Answer, gives}
use Rattle.protection.specs.Form.{ProtectList}
use Rattle.machine.specs.Decide.{pointer_of}
use Rattle.machine.specs.Machine.{Machine}
use Rattle.stretch.specs.Answer.{stretch_of, Answers, refused, jump, other_end, found}
use Rattle.stretch.specs.Stretch.{Stretch, SixToEleven, Shortest}
use Rattle.stretch.specs.Theorems.{Theorems}
use Rattle.stretch.specs.Trial.{trial_from, StopsFrom}
use Rattle.stretch.proofs.Consecutive.{run_onward, trial_ends}
use Rattle.stretch.proofs.Starts.{whole_run}

module _ (d : List ℕ) (p : ProtectList) (k : ℕ) (x : Machine) where
  -- the run from the pointer settles the last order and the stop
  module _ (s t : Stretch) (a : Shortest d p k x s) (b : Shortest d p k x t) where
    same_last : t.last ≡ s.last
    same_last = sym b.whole.there ∙ a.whole.there

    same_stop : t.stop ≡ s.stop
    same_stop = sym b.whole.stops ∙ a.whole.stops

    not_later : s.first < t.first → ⊥
    not_later h = a.latest t.first h (subst (λ (n : ℕ). StopsFrom d p k x s.last n t.first) same_stop (subst (λ (n : ℕ). StopsFrom d p k x n t.stop t.first) same_last b.stretch))

  one_stretch : (s t : Stretch) → Shortest d p k x s → Shortest d p k x t → s ≡ t
  one_stretch s t a b =
      let first : s.first ≡ t.first = omega (arith, not_later s t a b, not_later t s b a) in
      ap (λ (n : ℕ). stretch_of n s.last s.stop) first
      ∙ ap (λ (n : ℕ). stretch_of t.first n s.stop) (sym (same_last s t a b))
      ∙ ap (λ (n : ℕ). stretch_of t.first t.last n) (sym (same_stop s t a b))

  -- a stretch that is found leaves room for no 21
  never_other : (s : Stretch) → Shortest d p k x s → SixToEleven (trial_from d p k x (pointer_of k x.state)).stop
  never_other s a = subst SixToEleven (sym a.whole.stops) a.number

  one_answer : (a b : Answer Stretch) → Answers d p k x a → Answers d p k x b → a ≡ b
  one_answer a b (refused z) (refused w) = refl
  one_answer a b (refused z) (jump e h) = absurd (z e)
  one_answer a b (refused z) (other_end e h) = absurd (z e)
  one_answer a b (refused z) (found e n s) = absurd (z e)
  one_answer a b (jump e h) (refused z) = absurd (z e)
  one_answer a b (jump e h) (jump f i) = refl
  one_answer a b (jump e h) (other_end f i) = refl
  one_answer a b (jump e h) (found f n s) = absurd (n h)
  one_answer a b (other_end e h) (refused z) = absurd (z e)
  one_answer a b (other_end e h) (jump f i) = refl
  one_answer a b (other_end e h) (other_end f i) = refl
  one_answer a b (other_end e h) (found {s = t} f n s) = absurd (h (never_other t s))
  one_answer a b (found e n s) (refused z) = absurd (z e)
  one_answer a b (found e n s) (jump f i) = absurd (n i)
  one_answer a b (found {s = t} e n s) (other_end f i) = absurd (i (never_other t s))
  one_answer a b (found {s = t} e n s) (found {s = u} f o r) = ap gives (one_stretch t u s r)

pub theorems : Theorems
theorems = record {
  one_answer = one_answer;
  whole_run = whole_run;
  consecutive = λ d p k limit x none. (run_onward d p k none limit x).pointer;
  ends = trial_ends;
}
