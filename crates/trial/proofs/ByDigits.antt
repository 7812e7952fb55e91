-- A number by its digits: one digit more, a byte that is none, and the end; and numbers by their widths.
use Rattle.std.proofs.Common.{◌≡◌, refl, sym, ◌∙◌, ℕ, ◌+◌, ◌-◌, ◌*◌, ◌%◌, ◌^◌, ◌<◌, ◌≤◌, List, length, drop, get_or, Some, None, Ok, Err, [], ◌∷◌, ◌++◌, take, lt-ltb, le-ltb, min, arith}
use Rattle.std.proofs.Math.Nat.{mod-add-mod}
use Rattle.std.proofs.lemmas.List.{at_drop_all, at_drop_more, take_all}
use Rattle.trial.specs.declared.case.Ended.{Ended}
use Rattle.trial.specs.declared.case.Ended.TheVariants.{Malformed}
use Rattle.trial.specs.Number.{digit_of, number_after, number_of, if_number, numbers_after}

module _ (base n : ℕ) (bs : List ℕ) (i : ℕ) where
  pub digit_more :
      {d : ℕ} → i < length bs → digit_of base (get_or bs i 0) ≡ Some d →
      number_after base ((n * base % 2 ^ 32 + d) % 2 ^ 32) (drop (i + 1) bs) ≡ number_after base n (drop i bs)
  unfolding number_after
  digit_more {d} h e = rw (at_drop_more (number_after base n) bs i 0 h, e, mod-add-mod (n * base) (2 ^ 32) d) refl

  pub no_digit : i < length bs → digit_of base (get_or bs i 0) ≡ None → number_after base n (drop i bs) ≡ Err Malformed
  unfolding number_after
  no_digit h e = at_drop_more (number_after base n) bs i 0 h ∙ rw e refl

  pub no_more : length bs ≤ i → number_after base n (drop i bs) ≡ Ok n
  unfolding number_after
  no_more h = at_drop_all (number_after base n) bs i h

module _ (base : ℕ) (ns bs ws : List ℕ) (i : ℕ) where
  -- of the width that is next
  pub field : i < length ws → get_or ws i 0 ≤ length bs →
      numbers_after base ns bs (drop i ws) ≡ if_number (number_of base (take (get_or ws i 0) bs)) (λ n. numbers_after base (ns ++ n ∷ []) (drop (get_or ws i 0 + 1) bs) (drop (i + 1) ws))
  unfolding numbers_after
  field more h = at_drop_more (numbers_after base ns bs) ws i 0 more ∙ rw (le-ltb _ _ h) refl

  pub too_short : i < length ws → length bs < get_or ws i 0 → numbers_after base ns bs (drop i ws) ≡ Err Malformed
  unfolding numbers_after
  too_short more h = at_drop_more (numbers_after base ns bs) ws i 0 more ∙ rw (lt-ltb _ _ h) refl

  pub field_bad : {e : Ended} → i < length ws → get_or ws i 0 ≤ length bs → number_of base (take (get_or ws i 0) bs) ≡ Err e → numbers_after base ns bs (drop i ws) ≡ Err e
  field_bad more h bad = field more h ∙ rw bad refl

  pub field_more : {n : ℕ} → i < length ws → get_or ws i 0 ≤ length bs → number_of base (take (get_or ws i 0) bs) ≡ Ok n →
      numbers_after base (ns ++ n ∷ []) (drop (get_or ws i 0 + 1) bs) (drop (i + 1) ws) ≡ numbers_after base ns bs (drop i ws)
  field_more more h e = sym (field more h ∙ rw e refl)

  pub no_width : length ws ≤ i → numbers_after base ns bs (drop i ws) ≡ Ok ns
  unfolding numbers_after
  no_width h = at_drop_all (numbers_after base ns bs) ws i h

-- past one byte, if there is one
pub past_one : (m : ℕ) (bs : List ℕ) → m ≡ min (length bs) 1 → take (length bs - m) (drop m bs) ≡ drop 1 bs
past_one m [] e = rw e refl
past_one m (b ∷ bs) e =
    let one : m ≡ 1 = omega arith in
    let all : length bs ≤ length (b ∷ bs) - 1 = omega arith in
    rw one (take_all (length (b ∷ bs) - 1) bs all)
