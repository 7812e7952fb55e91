-- Mnemonics: two short names are the same where their keys are.
use mathlib.Core.Path.{◌≡◌, refl, ap}
use mathlib.Core.Bool.{Bool, true, false, ◌&&◌}
use mathlib.Core.List.{List, [], ◌∷◌}
use Prim.Native.Nat.{ℕ, suc, ◌+◌, ◌*◌, ◌≤◌, ◌<◌, suc-le-suc}
use native.Mathlib.Nat.{zero-lt-suc}
use native.Mathlib.Omega.{arith}
use lib.ListN.{length, get_or}
use lib.Dec.{eqb, leb, ltb}
use borrow.Author.Tests.{eqb-true, eqb-false, leb-true, ltb-true, lt-ltb}
use Rattle.hexfloat.proofs.Answers.{both}
use Rattle.hexfloat.specs.Answer.{stops}
use Rattle.decktext.specs.Text.{same}
use Rattle.decktext.specs.Value.{mnemonics, code_among, mnemonic_code}
use Rattle.decktext.specs.Key.{bytes_from, name_key, code_among_keys, code_by_key}
use Rattle.decktext.proofs.Same.{same_refl, same_false, same_length}

-- all below 256
abbrev all_bytes : List ℕ → Bool
all_bytes [] = true
all_bytes (x ∷ v) = ltb x 256 && all_bytes v

record Equal (n k : ℕ) (v w : List ℕ) : Type 0 where
  numbers : n ≡ k
  names : v ≡ w

bytes_inj : (v w : List ℕ) (n k : ℕ) → all_bytes v ≡ true → all_bytes w ≡ true → length v ≡ length w → bytes_from n v ≡ bytes_from k w → Equal n k v w
unfolding bytes_from
bytes_inj [] [] n k a b l e = record { numbers = e; names = refl }
bytes_inj [] (y ∷ w) n k a b l e = absurd (omega arith)
bytes_inj (x ∷ v) [] n k a b l e = absurd (omega arith)
bytes_inj (x ∷ v) (y ∷ w) n k a b l e =
    let p = both (ltb x 256) (all_bytes v) a in
    let q = both (ltb y 256) (all_bytes w) b in
    let s : length v ≡ length w = omega arith in
    let r = bytes_inj v w (n * 256 + x) (k * 256 + y) p.1 q.1 s e in
    let f = ltb-true x 256 p.0 in
    let g = ltb-true y 256 q.0 in
    let m = r.numbers in
    let nk : n ≡ k = omega arith in
    let xy : x ≡ y = omega arith in
    let t = r.names in
    record { numbers = nk; names = cc }

-- a name of at most four bytes
record Short (v : List ℕ) : Type 0 where
  bytes : all_bytes v ≡ true
  few : length v ≤ 4

key_inj : (v w : List ℕ) → Short v → Short w → name_key v ≡ name_key w → v ≡ w
unfolding name_key
key_inj v w a b e =
    let f = a.few in
    let g = b.few in
    let l : length v ≡ length w = omega arith in
    let n : bytes_from 0 v ≡ bytes_from 0 w = omega arith in
    (bytes_inj v w 0 0 a.bytes b.bytes l n).names

same_key_by : (v w : List ℕ) → Short v → Short w → (t : Bool) → eqb (name_key v) (name_key w) ≡ t → same v w ≡ t
same_key_by v w a b true e = rw (key_inj v w a b (eqb-true _ _ e)) (same_refl w)
same_key_by v w a b false e = same_false v w (λ q. eqb-false _ _ e (ap name_key q))

same_key : (v w : List ℕ) → Short v → Short w → same v w ≡ eqb (name_key v) (name_key w)
same_key v w a b = same_key_by v w a b (eqb (name_key v) (name_key w)) refl

abbrev all_short : List (List ℕ) → Bool
all_short [] = true
all_short (m ∷ ms) = (all_bytes m && leb (length m) 4) && all_short ms

among : (ms : List (List ℕ)) (n : ℕ) (v : List ℕ) → Short v → all_short ms ≡ true → code_among ms n v ≡ code_among_keys ms n (name_key v)
unfolding code_among code_among_keys
among [] n v s h = refl
among (m ∷ ms) n v s h =
    let p = both (all_bytes m && leb (length m) 4) (all_short ms) h in
    let q = both (all_bytes m) (leb (length m) 4) p.0 in
    rw (same_key v m s (record { bytes = q.0; few = leb-true _ 4 q.1 }), among ms (n + 1) v s p.1)

bytes_of : (v : List ℕ) → ((i : ℕ) → i < length v → get_or v i 0 < 256) → all_bytes v ≡ true
bytes_of [] h = refl
bytes_of (x ∷ v) h = rw (lt-ltb x 256 (h 0 (zero-lt-suc (length v))), bytes_of v (λ i l. h (suc i) (suc-le-suc l)))

pub code_by_key_lem : (v : List ℕ) → ((i : ℕ) → i < length v → get_or v i 0 < 256) → length v ≤ 4 → mnemonic_code v ≡ code_by_key (name_key v)
unfolding mnemonic_code code_by_key
code_by_key_lem v h l = among mnemonics 1 v (record { bytes = bytes_of v h; few = l }) refl

-- a long name is none of them
long_among : (ms : List (List ℕ)) (n : ℕ) (v : List ℕ) → 4 < length v → all_short ms ≡ true → code_among ms n v ≡ stops 16
unfolding code_among
long_among [] n v l h = refl
long_among (m ∷ ms) n v l h =
    let p = both (all_bytes m && leb (length m) 4) (all_short ms) h in
    let q = leb-true (length m) 4 (both (all_bytes m) (leb (length m) 4) p.0).1 in
    rw (same_length v m (λ e. omega arith)) (long_among ms (n + 1) v l p.1)

pub code_long : (v : List ℕ) → 4 < length v → mnemonic_code v ≡ stops 16
unfolding mnemonic_code
code_long v l = long_among mnemonics 1 v l refl
