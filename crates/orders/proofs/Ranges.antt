-- What `any` and `all` over 0..n say, in numbers below n.
use Rattle.std.proofs.Common.{◌≡◌, ℕ, ◌<◌, Bool, true, false, length, arith, ◌∙◌, subst}
use Rattle.std.specs.Bool.{MatchBool}
use Rattle.std.specs.List.{range_with_len, HoldsAt, AllWithin}
use Rattle.std.proofs.lemmas.List.FromFn.{length-range_with_len, get_or-range_with_len}
use native.Mathlib.Nat.{zero-add}

some_below : (P : ℕ → Type 0) (n k : ℕ) → k < length (range_with_len 0 n) → HoldsAt P (range_with_len 0 n) k → (k < n) × P k
some_below P n k h p =
    let l : k < n = omega (arith, h, length-range_with_len 0 n) in
    (l, subst P (get_or-range_with_len 0 n k 0 l ∙ zero-add k) (p 0))

all_below : (Q : ℕ → Type 0) (n : ℕ) → AllWithin Q (range_with_len 0 n) 0 (length (range_with_len 0 n)) → (k : ℕ) → k < n → Q k
all_below Q n q k l = subst Q (get_or-range_with_len 0 n k 0 l ∙ zero-add k) (q k 0 (omega arith) (omega (arith, l, length-range_with_len 0 n)))

pub any_below : (P Q : ℕ → Type 0) (n : ℕ) (r : Bool)
    → MatchBool r ((k : ℕ) × (k < length (range_with_len 0 n)) × HoldsAt P (range_with_len 0 n) k) (AllWithin Q (range_with_len 0 n) 0 (length (range_with_len 0 n)))
    → MatchBool r ((k : ℕ) × (k < n) × P k) ((k : ℕ) → k < n → Q k)
any_below P Q n true h = let s = some_below P n h.0 h.1 h.2 in (h.0, s.0, s.1)
any_below P Q n false h = all_below Q n h

pub every_below : (P Q : ℕ → Type 0) (n : ℕ) (r : Bool)
    → MatchBool r (AllWithin P (range_with_len 0 n) 0 (length (range_with_len 0 n))) ((k : ℕ) × (k < length (range_with_len 0 n)) × HoldsAt Q (range_with_len 0 n) k)
    → MatchBool r ((k : ℕ) → k < n → P k) ((k : ℕ) × (k < n) × Q k)
every_below P Q n true h = all_below P n h
every_below P Q n false h = let s = some_below Q n h.0 h.1 h.2 in (h.0, s.0, s.1)
