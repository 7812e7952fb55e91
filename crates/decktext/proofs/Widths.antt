-- How many bytes a line has at least that gives some values: two for each, with its LF.
use Prim.Native.Nat.{ℕ, ◌+◌, ◌*◌, ◌≤◌}
use mathlib.Core.Path.{◌≡◌, refl, sym, ◌∙◌}
use mathlib.Core.Bool.{Bool, true, false, cond}
use mathlib.Core.List.{List, [], ◌∷◌}
use native.Mathlib.Omega.{arith}
use lib.Dec.{eqb, leb}
use lib.ListN.{length}
use Rattle.hexfloat.specs.Answer.{Answer, gives, stops, and_then}
use Rattle.orders.specs.declared.order.Order.{Order}
use Rattle.hexfloat.proofs.Answers.{gives_inj, never, provided_gives, then_gives}
use Rattle.decktext.specs.Text.{same, prefixed, values_of}
use Rattle.decktext.specs.Value.{code_among, mnemonic_code, decimal_of, protect_of, word_of}
use Rattle.decktext.specs.Format.{legal, order_from, order_of, Halfword, halfword_from, halfword_of}
use Rattle.decktext.specs.Read.{Wanted, heading, order, storage, halfword, Progress, Given, ordered, parted, order_fits, halfword_fits, line_as}
use Rattle.decktext.specs.Staged.{values_in}
use Rattle.decktext.proofs.Forms.{Sound, first, an_order, parting, second, a_halfword, halfword_parts, sound}

-- the bytes of some values, with a blank or the LF after each
abbrev bytes_of : List (List ℕ) → ℕ
bytes_of [] = 0
bytes_of (v ∷ vs) = length v + 1 + bytes_of vs

prefixed_bytes : (b : ℕ) (vs : List (List ℕ)) (n : ℕ) → bytes_of vs ≡ n + 1 → bytes_of (prefixed b vs) ≡ n + 1 + 1
prefixed_bytes b [] n h = absurd (omega arith)
prefixed_bytes b (v ∷ vs) n h = omega arith

values_bytes : (s : List ℕ) → bytes_of (values_of s) ≡ length s + 1
unfolding values_of
values_bytes [] = refl
values_bytes (b ∷ s) = by (eqb b 32) (values_bytes s)
  where
    by : (t : Bool) → bytes_of (values_of s) ≡ length s + 1 → bytes_of (cond t ([] ∷ values_of s) (prefixed b (values_of s))) ≡ length (b ∷ s) + 1
    by true h = omega arith
    by false h = let k = prefixed_bytes b (values_of s) (length s) h in omega arith

-- no value is empty
some : (f : List ℕ → Answer ℕ) (n : ℕ) → f [] ≡ stops n → (v : List ℕ) (x : ℕ) → f v ≡ gives x → 1 ≤ length v
some f n e [] x h = never (sym e ∙ h)
some f n e (b ∷ v) x h = omega arith

no_code : mnemonic_code [] ≡ stops 16
unfolding mnemonic_code code_among same
no_code = refl

no_decimal : decimal_of [] ≡ stops 16
unfolding decimal_of
no_decimal = refl

no_protect : protect_of [] ≡ stops 16
unfolding protect_of same
no_protect = refl

no_word : word_of [] ≡ stops 16
unfolding word_of
no_word = refl

order_bytes : (vs : List (List ℕ)) (o : Order) → order_from vs ≡ gives o → 8 ≤ bytes_of vs
unfolding order_from
order_bytes [] o h = never h
order_bytes (m ∷ []) o h = never h
order_bytes (m ∷ a ∷ []) o h = never h
order_bytes (m ∷ a ∷ b ∷ []) o h = never h
order_bytes (m ∷ a ∷ b ∷ c ∷ []) o h =
    let p = then_gives (mnemonic_code m) (λ op. and_then (decimal_of a) (λ r1. and_then (decimal_of b) (λ r2. and_then (decimal_of c) (λ at. legal (record { code = op; r1 = r1; r2 = r2; at = at }))))) h in
    let q = then_gives (decimal_of a) (λ r1. and_then (decimal_of b) (λ r2. and_then (decimal_of c) (λ at. legal (record { code = p.0; r1 = r1; r2 = r2; at = at })))) p.2 in
    let r = then_gives (decimal_of b) (λ r2. and_then (decimal_of c) (λ at. legal (record { code = p.0; r1 = q.0; r2 = r2; at = at }))) q.2 in
    let s = then_gives (decimal_of c) (λ at. legal (record { code = p.0; r1 = q.0; r2 = r.0; at = at })) r.2 in
    omega (arith, some mnemonic_code 16 no_code m p.0 p.1, some decimal_of 16 no_decimal a q.0 q.1, some decimal_of 16 no_decimal b r.0 r.1, some decimal_of 16 no_decimal c s.0 s.1)
order_bytes (m ∷ a ∷ b ∷ c ∷ d ∷ vs) o h = never h

halfword_bytes : (vs : List (List ℕ)) (h : Halfword) → halfword_from vs ≡ gives h → 6 ≤ bytes_of vs
unfolding halfword_from
halfword_bytes [] h e = never e
halfword_bytes (a ∷ []) h e = never e
halfword_bytes (a ∷ p ∷ []) h e = never e
halfword_bytes (a ∷ p ∷ w ∷ []) h e =
    let q = halfword_parts a p w h e in
    omega (arith, some decimal_of 16 no_decimal a h.at q.at, some protect_of 16 no_protect p h.protect q.protect, some word_of 16 no_word w h.word q.word)
halfword_bytes (a ∷ p ∷ w ∷ x ∷ vs) h e = never e

order_line_bytes : (p : Progress) (line : List ℕ) (t : Bool) (g : Given) → cond t (gives parted) (and_then (order_of line) (order_fits p)) ≡ gives g → values_in g * 2 ≤ length line + 1
unfolding order_of
order_line_bytes p line true g h = rw (← gives_inj h) (omega arith)
order_line_bytes p line false g h =
    let q = then_gives (order_of line) (order_fits p) h in
    let r = provided_gives (leb (p.count * 4 + 4) (length p.held.cells)) 17 (gives (ordered q.0)) q.2 in
    rw (← gives_inj r.1) (omega (arith, order_bytes (values_of line) q.0 q.1, values_bytes line))

halfword_line_bytes : (p : Progress) (line : List ℕ) (g : Given) → and_then (halfword_of line) (halfword_fits p) ≡ gives g → 6 ≤ length line + 1
unfolding halfword_of
halfword_line_bytes p line g h =
    let q = then_gives (halfword_of line) (halfword_fits p) h in
    omega (arith, halfword_bytes (values_of line) q.0 q.1, values_bytes line)

-- how many values a line of each kind gives at most
abbrev most : Wanted → ℕ
most heading = 0
most order = 4
most storage = 0
most halfword = 3

values_most : {p : Progress} {w : Wanted} {g : Given} → Sound p w g → values_in g ≤ most w
values_most first = omega arith
values_most (an_order o f) = omega arith
values_most parting = omega arith
values_most second = omega arith
values_most (a_halfword h r f) = omega arith

-- a line has two bytes, with its LF, for each value that it gives
pub line_bytes : (w : Wanted) (p : Progress) (line : List ℕ) (g : Given) → line_as w p line ≡ gives g → values_in g * 2 ≤ length line + 1
line_bytes heading p line g h = omega (arith, values_most (sound heading p line g h))
line_bytes order p line g h = order_line_bytes p line (same line []) g h
line_bytes storage p line g h = omega (arith, values_most (sound storage p line g h))
line_bytes halfword p line g h = omega (arith, values_most (sound halfword p line g h), halfword_line_bytes p line g h)
