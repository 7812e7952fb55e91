-- A line by its parsed values.
use Prim.Native.Nat.{ℕ, ◌+◌, ◌*◌, ◌≤◌, ◌<◌}
use mathlib.Core.Path.{◌≡◌, refl, sym, ap, ◌∙◌, subst}
use mathlib.Core.Bool.{Bool, true, false, cond}
use mathlib.Core.List.{List, [], ◌∷◌}
use native.Mathlib.Nat.{le_refl, sub-zero}
use native.Mathlib.Omega.{arith}
use lib.Dec.{eqb, leb, ltb}
use lib.ListN.{length, take}
use lib.Seq.{take_all, get_or-take}
use borrow.Author.Tests.{eqb-true, eqb-false, leb-true, ltb-true}
use Rattle.hexfloat.specs.Answer.{Answer, gives, stops, provided, and_then}
use Rattle.orders.specs.declared.order.Order.{Order}
use Rattle.orders.specs.Order.{legal_of}
use Rattle.protection.specs.Form.{ProtectList, holds}
use Rattle.hexfloat.proofs.Answers.{gives_inj, never, provided_gives, cond_by, provided_by, then_by, then_gives}
use Rattle.decktext.specs.Text.{same, values_of}
use Rattle.decktext.specs.Value.{mnemonic_code, decimal_of, protect_of, word_of}
use Rattle.decktext.specs.Format.{deck_heading, storage_heading, passes, legal, order_from, order_of, Halfword, halfword_from, halfword_of}
use Rattle.decktext.specs.Read.{Wanted, heading, order, storage, halfword, Progress, Given, headed, ordered, parted, stored, order_fits, halfword_fits, line_as}
use Rattle.decktext.specs.Walk.{Stretch, Storable, value_count, in_place, value_as, order_from_values, halfword_from_values, judged_line}
use Rattle.decktext.proofs.Same.{same_none, same_length}
use Rattle.decktext.proofs.Answers.{Is16, Only16, only_code, only_decimal, only_protect, only_word, protect_small}
use Rattle.decktext.proofs.Lines.{part}
use Rattle.decktext.proofs.Parsed.{Kind, parsed, Placed, parsed_only, wrong_count, Taking, bad}

-- ---- the values' places

last_place : (i last : ℕ) (a : Answer ℕ) (x : ℕ) → in_place i true last a ≡ gives x → i + 1 ≡ last + 1
last_place i last a x h = let q = provided_gives (eqb i last) 16 a h in rw (eqb-true i last q.0)

inner_by : (t : Bool) (a : Answer ℕ) (x : ℕ) → cond t (stops 16) a ≡ gives x → t ≡ false
inner_by true a x h = never h
inner_by false a x h = refl

inner_place : (i last : ℕ) (a : Answer ℕ) (x : ℕ) → in_place i false last a ≡ gives x → i + 1 ≡ last + 1 → ⊥
inner_place i last a x h e = eqb-false i last (inner_by (eqb i last) a x h) (omega arith)

only_place : (i : ℕ) (ends : Bool) (last : ℕ) (a : Answer ℕ) → Only16 a → Only16 (in_place i ends last a)
only_place i true last a o = cond_by Is16 (eqb i last) a (stops 16) o refl
only_place i false last a o = cond_by Is16 (eqb i last) (stops 16) a refl o

order-placed : Placed (value_as order) 4
unfolding value_as
order-placed = record {
  last = λ i v x h. last_place i 3 (cond (eqb i 0) (mnemonic_code v) (decimal_of v)) x h;
  inner = λ i v x h. inner_place i 3 (cond (eqb i 0) (mnemonic_code v) (decimal_of v)) x h;
  only = λ i b v. only_place i b 3 (cond (eqb i 0) (mnemonic_code v) (decimal_of v)) (cond_by Is16 (eqb i 0) (mnemonic_code v) (decimal_of v) (only_code v) (only_decimal v));
}

halfword_placed : Placed (value_as halfword) 3
unfolding value_as
halfword_placed = record {
  last = λ i v x h. last_place i 2 (cond (eqb i 0) (decimal_of v) (cond (eqb i 1) (protect_of v) (word_of v))) x h;
  inner = λ i v x h. inner_place i 2 (cond (eqb i 0) (decimal_of v) (cond (eqb i 1) (protect_of v) (word_of v))) x h;
  only = λ i b v.
      only_place i b 2 (cond (eqb i 0) (decimal_of v) (cond (eqb i 1) (protect_of v) (word_of v)))
      (cond_by Is16 (eqb i 0) (decimal_of v) (cond (eqb i 1) (protect_of v) (word_of v)) (only_decimal v) (cond_by Is16 (eqb i 1) (protect_of v) (word_of v) (only_protect v) (only_word v)));
}

placed_by : (t : Bool) → 0 < cond t 0 4 → Placed (value_as order) (cond t 0 4)
placed_by true h = absurd (omega arith)
placed_by false h = order-placed

pub placed : (w : Wanted) (bytes : ℕ) → 0 < value_count w bytes → Placed (value_as w) (value_count w bytes)
placed heading bytes h = absurd (omega arith)
placed order bytes h = placed_by (eqb bytes 0) h
placed storage bytes h = absurd (omega arith)
placed halfword bytes h = halfword_placed

-- ---- orders and halfwords

wrong : {B : Type 0} {k : Kind} {n : ℕ} → Placed k n → (vs : List (List ℕ)) → (length vs ≡ n → ⊥) → (f : List ℕ → Answer B) → stops 16 ≡ and_then (parsed k 0 vs) f
wrong p vs h f = sym (ap (λ (a : Answer (List ℕ)). and_then a f) (wrong_count p vs h))

four : {B : Type 0} (a b c d : Answer ℕ) (f : List ℕ → Answer B)
    → and_then a (λ x. and_then b (λ y. and_then c (λ z. and_then d (λ u. f (x ∷ y ∷ z ∷ u ∷ [])))))
    ≡ and_then (and_then a (λ x. and_then (and_then b (λ y. and_then (and_then c (λ z. and_then (and_then d (λ u. gives (u ∷ []))) (λ us. gives (z ∷ us)))) (λ zs. gives (y ∷ zs)))) (λ ys. gives (x ∷ ys)))) f
four (stops n) b c d f = refl
four (gives x) (stops n) c d f = refl
four (gives x) (gives y) (stops n) d f = refl
four (gives x) (gives y) (gives z) (stops n) f = refl
four (gives x) (gives y) (gives z) (gives u) f = refl

order_parsed : (vs : List (List ℕ)) → order_from vs ≡ and_then (parsed (value_as order) 0 vs) (λ xs. legal (order_from_values xs))
unfolding order_from value_as
order_parsed [] = refl
order_parsed (m ∷ []) = wrong order-placed (m ∷ []) (λ e. omega arith) (λ xs. legal (order_from_values xs))
order_parsed (m ∷ a ∷ []) = wrong order-placed (m ∷ a ∷ []) (λ e. omega arith) (λ xs. legal (order_from_values xs))
order_parsed (m ∷ a ∷ b ∷ []) = wrong order-placed (m ∷ a ∷ b ∷ []) (λ e. omega arith) (λ xs. legal (order_from_values xs))
order_parsed (m ∷ a ∷ b ∷ c ∷ []) = four (mnemonic_code m) (decimal_of a) (decimal_of b) (decimal_of c) (λ xs. legal (order_from_values xs))
order_parsed (m ∷ a ∷ b ∷ c ∷ d ∷ vs) = wrong order-placed (m ∷ a ∷ b ∷ c ∷ d ∷ vs) (λ e. omega arith) (λ xs. legal (order_from_values xs))

three : {B : Type 0} (a b c : Answer ℕ) (f : List ℕ → Answer B)
    → and_then a (λ x. and_then b (λ y. and_then c (λ z. f (x ∷ y ∷ z ∷ []))))
    ≡ and_then (and_then a (λ x. and_then (and_then b (λ y. and_then (and_then c (λ z. gives (z ∷ []))) (λ zs. gives (y ∷ zs)))) (λ ys. gives (x ∷ ys)))) f
three (stops n) b c f = refl
three (gives x) (stops n) c f = refl
three (gives x) (gives y) (stops n) f = refl
three (gives x) (gives y) (gives z) f = refl

halfword_parsed : (vs : List (List ℕ)) → halfword_from vs ≡ and_then (parsed (value_as halfword) 0 vs) (λ xs. gives (halfword_from_values xs))
unfolding halfword_from value_as
halfword_parsed [] = refl
halfword_parsed (a ∷ []) = wrong halfword_placed (a ∷ []) (λ e. omega arith) (λ xs. gives (halfword_from_values xs))
halfword_parsed (a ∷ p ∷ []) = wrong halfword_placed (a ∷ p ∷ []) (λ e. omega arith) (λ xs. gives (halfword_from_values xs))
halfword_parsed (a ∷ p ∷ w ∷ []) = three (decimal_of a) (protect_of p) (word_of w) (λ xs. gives (halfword_from_values xs))
halfword_parsed (a ∷ p ∷ w ∷ x ∷ vs) = wrong halfword_placed (a ∷ p ∷ w ∷ x ∷ vs) (λ e. omega arith) (λ xs. gives (halfword_from_values xs))

-- an order line passes check 5
pub order-legal : (line : List ℕ) (o : Order) → order_of line ≡ gives o → passes (legal_of o) ≡ true
unfolding order_of
order-legal line o h =
    let q = then_gives (parsed (value_as order) 0 (values_of line)) (λ xs. legal (order_from_values xs)) (rw (order_parsed (values_of line)) at h) in
    let r = provided_gives (passes (legal_of (order_from_values q.0))) 16 (gives (order_from_values q.0)) q.2 in
    subst (λ (x : Order). passes (legal_of x) ≡ true) (gives_inj r.1) r.0

-- every fault of a line's form is a 16
pub order_only : (line : List ℕ) → Only16 (order_of line)
unfolding order_of
order_only line =
    rw (order_parsed (values_of line))
    (then_by Is16 (parsed (value_as order) 0 (values_of line)) (λ xs. legal (order_from_values xs)) (parsed_only order-placed 0 (values_of line)) (λ xs.
    provided_by Is16 (passes (legal_of (order_from_values xs))) 16 (gives (order_from_values xs)) refl tt))

pub halfword_only : (line : List ℕ) → Only16 (halfword_of line)
unfolding halfword_of
halfword_only line =
    rw (halfword_parsed (values_of line))
    (then_by Is16 (parsed (value_as halfword) 0 (values_of line)) (λ xs. gives (halfword_from_values xs)) (parsed_only halfword_placed 0 (values_of line)) (λ xs. tt))

-- ---- a line

-- the line's values, where it has some, are the first of v
abbrev pub Values : Wanted → List ℕ → List ℕ → Type 0
Values w line v = 0 < value_count w (length line) → parsed (value_as w) 0 (values_of line) ≡ gives (take (value_count w (length line)) v)

judged-order : (p : Progress) (line v : List ℕ) → length v ≡ 4 → (t : Bool) → eqb (length line) 0 ≡ t
    → (0 < cond t 0 4 → parsed (value_as order) 0 (values_of line) ≡ gives (take (cond t 0 4) v)) → line_as order p line ≡ judged_line order p line v
unfolding order_of judged_line
judged-order p line v s true e h = rw (same_none line (eqb-true (length line) 0 e))
judged-order p line v s false e h =
    rw (same_length line [] (eqb-false (length line) 0 e), order_parsed (values_of line), h (omega arith), take_all 4 v (omega arith))

pub judged : (w : Wanted) (p : Progress) (line v : List ℕ) → length v ≡ 4 → Values w line v → line_as w p line ≡ judged_line w p line v
unfolding halfword_of judged_line
judged heading p line v s h = refl
judged order p line v s h = judged-order p line v s (eqb (length line) 0) refl h
judged storage p line v s h = refl
judged halfword p line v s h =
    rw (halfword_parsed (values_of line), h (omega arith), get_or-take 3 v 0 0 (omega arith), get_or-take 3 v 1 0 (omega arith), get_or-take 3 v 2 0 (omega arith))

faulty_order : (p : Progress) (line : List ℕ) (t : Bool) → eqb (length line) 0 ≡ t → 0 < cond t 0 4
    → parsed (value_as order) 0 (values_of line) ≡ stops 16 → line_as order p line ≡ stops 16
unfolding order_of
faulty_order p line true e l h = absurd (omega arith)
faulty_order p line false e l h = rw (same_length line [] (eqb-false (length line) 0 e), order_parsed (values_of line), h)

pub faulty_line : (w : Wanted) (p : Progress) (line : List ℕ) → 0 < value_count w (length line)
    → parsed (value_as w) 0 (values_of line) ≡ stops 16 → line_as w p line ≡ stops 16
unfolding halfword_of
faulty_line heading p line l h = absurd (omega arith)
faulty_line order p line l h = faulty_order p line (eqb (length line) 0) refl l h
faulty_line storage p line l h = absurd (omega arith)
faulty_line halfword p line l h = rw (halfword_parsed (values_of line), h)

-- ---- what a line gives fits

-- the values of a memory line's halfword
pub record Parts (a p w : List ℕ) (h : Halfword) : Type 0 where
  pub at : decimal_of a ≡ gives h.at
  pub protect : protect_of p ≡ gives h.protect
  pub word : word_of w ≡ gives h.word

pub halfword_parts : (a p w : List ℕ) (h : Halfword) → halfword_from (a ∷ p ∷ w ∷ []) ≡ gives h → Parts a p w h
unfolding halfword_from
halfword_parts a p w h e =
    let q = then_gives (decimal_of a) (λ x. and_then (protect_of p) (λ y. and_then (word_of w) (λ z. gives (record { at = x; protect = y; word = z })))) e in
    let r = then_gives (protect_of p) (λ y. and_then (word_of w) (λ z. gives (record { at = q.0; protect = y; word = z }))) q.2 in
    let s = then_gives (word_of w) (λ z. gives (record { at = q.0; protect = r.0; word = z })) r.2 in
    let same = gives_inj {x = record { at = q.0; protect = r.0; word = s.0 }} s.2 in
    record {
      at = q.1 ∙ ap (λ (g : Halfword). gives g.at) same;
      protect = r.1 ∙ ap (λ (g : Halfword). gives g.protect) same;
      word = s.1 ∙ ap (λ (g : Halfword). gives g.word) same;
    }

protect_fits : (vs : List (List ℕ)) (h : Halfword) → halfword_from vs ≡ gives h → h.protect < 2
unfolding halfword_from
protect_fits [] h e = never e
protect_fits (a ∷ []) h e = never e
protect_fits (a ∷ p ∷ []) h e = never e
protect_fits (a ∷ p ∷ w ∷ []) h e = protect_small p h.protect (halfword_parts a p w h e).protect
protect_fits (a ∷ p ∷ w ∷ x ∷ vs) h e = never e

-- the protect list has the byte of a halfword
abbrev Markable : Given → ProtectList → Type 0
Markable headed p = Unit {0}
Markable (ordered o) p = Unit {0}
Markable parted p = Unit {0}
Markable (stored h) p = holds p h.at ≡ true

abbrev pub Fits : Progress → Given → Type 0
Fits p g = Storable g p.count (length p.held.cells) (length p.held.memory) × Markable g p.held.protect

-- what a line of each kind can give
pub data Sound (p : Progress) : Wanted → Given → Type 0 where
  first : Sound p heading headed
  an_order : (o : Order) → Fits p (ordered o) → Sound p order (ordered o)
  parting : Sound p order parted
  second : Sound p storage headed
  a_halfword : (h : Halfword) → p.least ≤ h.at → Fits p (stored h) → Sound p halfword (stored h)

pub heading_given : (ok : Bool) (g : Given) → provided ok 16 (gives headed) ≡ gives g → headed ≡ g
heading_given ok g h = gives_inj (provided_gives ok 16 (gives headed) h).1

order_sound : (p : Progress) (line : List ℕ) (t : Bool) (g : Given) → cond t (gives parted) (and_then (order_of line) (order_fits p)) ≡ gives g → Sound p order g
order_sound p line true g h = subst (λ (x : Given). Sound p order x) (gives_inj h) parting
order_sound p line false g h =
    let q = then_gives (order_of line) (order_fits p) h in
    let r = provided_gives (leb (p.count * 4 + 4) (length p.held.cells)) 17 (gives (ordered q.0)) q.2 in
    subst (λ (x : Given). Sound p order x) (gives_inj r.1) (an_order q.0 (leb-true _ _ r.0, tt))

pub sound : (w : Wanted) (p : Progress) (line : List ℕ) (g : Given) → line_as w p line ≡ gives g → Sound p w g
unfolding halfword_of
sound heading p line g h = subst (λ (x : Given). Sound p heading x) (heading_given (same line deck_heading) g h) first
sound order p line g h = order_sound p line (same line []) g h
sound storage p line g h = subst (λ (x : Given). Sound p storage x) (heading_given (same line storage_heading) g h) second
sound halfword p line g h =
    let q = then_gives (halfword_of line) (halfword_fits p) h in
    let a = provided_gives (leb p.least q.0.at) 16 _ q.2 in
    let b = provided_gives (ltb q.0.at (length p.held.memory)) 17 _ a.1 in
    let c = provided_gives (holds p.held.protect q.0.at) 17 (gives (stored q.0)) b.1 in
    subst (λ (x : Given). Sound p halfword x) (gives_inj c.1)
    (a_halfword q.0 (leb-true _ _ a.0) ((ltb-true _ _ b.0, protect_fits (values_of line) q.0 q.1), c.0))

pub sound_fits : {p : Progress} {w : Wanted} {g : Given} → Sound p w g → Fits p g
sound_fits first = (tt, tt)
sound_fits (an_order o f) = f
sound_fits parting = (tt, tt)
sound_fits second = (tt, tt)
sound_fits (a_halfword h r f) = f

-- ---- the count of values, by another name

pub placed_at : (w : Wanted) (bytes n : ℕ) → n ≡ value_count w bytes → 0 < n → Placed (value_as w) n
placed_at w bytes n e h = rw e (placed w bytes (rw e at h))

-- a line is its own part from its start to its end
whole : (line : List ℕ) → part 0 (length line) line ≡ line
whole line = rw sub-zero (take_all (length line) line (le_refl (length line)))

-- n values of the line are wanted, and i of them are taken
module _ (w : Wanted) (p : Progress) {line : List ℕ} {n from i : ℕ} {v : List ℕ}
    (count : n ≡ value_count w (length line)) (r : Taking (value_as w) n line 0 (length line) from i v) where
  -- with all of them a line reads as it is judged
  pub judged_with : n ≤ i → line_as w p line ≡ judged_line w p line v
  judged_with l =
      judged w p line v r.size
      (subst (λ (m : ℕ). 0 < m → parsed (value_as w) 0 (values_of line) ≡ gives (take m v)) count
      (λ g. rw whole at (r.taken g (omega (arith, r.within)))))

  -- a fault of the next one is the line's
  pub faulty_with : {to : ℕ} → i < n → Stretch line from (length line) 32 to → value_as w i (eqb to (length line)) (part from to line) ≡ stops 16
      → line_as w p line ≡ stops 16
  faulty_with l s h =
      faulty_line w p line (rw (← count) (omega arith)) (rw whole at (bad r l s (le_refl (length line)) h))
