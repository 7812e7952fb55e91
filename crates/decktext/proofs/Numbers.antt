-- One of the numbers, and the reader's count.
use Prim.Native.Nat.{ℕ, ◌+◌, ◌*◌, ◌<◌}
use mathlib.Core.Path.{◌≡◌, refl, sym, ap, ◌∙◌}
use mathlib.Core.Logic.{⊎_elim, inl, inr}
use mathlib.Core.Bool.{Bool, true, false, cond}
use mathlib.Core.List.{List, [], ◌∷◌}
use native.Mathlib.Omega.{arith}
use lib.Dec.{leb, ltb}
use lib.ListN.{length}
use borrow.Author.Tests.{ltb-true, ltb-false}
use Rattle.hexfloat.specs.Answer.{gives, provided, and_then}
use Rattle.orders.specs.declared.order.Order.{Order}
use Rattle.protection.specs.Form.{holds}
use Rattle.hexfloat.proofs.Answers.{gives_inj, provided_gives, StopsBy, cond_by, provided_by, then_by, then_gives}
use Rattle.decktext.specs.Text.{Line, ended, unended, lines_of, same}
use Rattle.decktext.specs.Format.{deck_heading, storage_heading, order_of, halfword_of}
use Rattle.decktext.specs.Read.{Buffers, refused, taken, outcome, Wanted, heading, order, storage, halfword, Progress, start, Given, headed, ordered, parted, stored, order_fits, halfword_fits, line_as, line_read, progressed, Read, whole, faulty, lines_read_by, lines_read, concluded_with, read_text}
use Rattle.decktext.specs.Theorems.{Through, Faulty, Numbered, count, malformed, no_room, above_limit, up_to_empty, after_first, order_lines}
use Rattle.decktext.proofs.Answers.{Is16or17, only_either}
use Rattle.decktext.proofs.Forms.{Sound, first, an_order, parting, second, a_halfword, heading_given, order_only, halfword_only}
use Rattle.decktext.proofs.Laws.{accepted}
use Rattle.decktext.proofs.Passing.{read_on_lem, through, first_fault, line_sound}
use Rattle.decktext.proofs.Walking.{text_read, other}

-- ---- one of the numbers

room_only : (ok : Bool) (g : Given) → StopsBy Is16or17 (provided ok 17 (gives g))
room_only ok g = provided_by Is16or17 ok 17 (gives g) (inr refl) tt

halfword_fits_only : (rises memory protect : Bool) (g : Given) → StopsBy Is16or17 (provided rises 16 (provided memory 17 (provided protect 17 (gives g))))
halfword_fits_only rises memory protect g =
    provided_by Is16or17 rises 16 (provided memory 17 (provided protect 17 (gives g))) (inl refl)
    (provided_by Is16or17 memory 17 (provided protect 17 (gives g)) (inr refl) (room_only protect g))

line_only : (w : Wanted) (p : Progress) (l : List ℕ) → StopsBy Is16or17 (line_as w p l)
line_only heading p l = provided_by Is16or17 (same l deck_heading) 16 (gives headed) (inl refl) tt
line_only order p l =
    cond_by Is16or17 (same l []) (gives parted) (and_then (order_of l) (order_fits p)) tt
    (then_by Is16or17 (order_of l) (order_fits p) (only_either (order_of l) (order_only l)) (λ o.
    room_only (leb (p.count * 4 + 4) (length p.held.cells)) (ordered o)))
line_only storage p l = provided_by Is16or17 (same l storage_heading) 16 (gives headed) (inl refl) tt
line_only halfword p l =
    then_by Is16or17 (halfword_of l) (halfword_fits p) (only_either (halfword_of l) (halfword_only l)) (λ h.
    halfword_fits_only (leb p.least h.at) (ltb h.at (length p.held.memory)) (holds p.held.protect h.at) (stored h))

fault_number_lem : (ls : List Line) (p : Progress) (n : ℕ) → Faulty ls p n → Is16or17 n
unfolding line_read
fault_number_lem [] p n f = inl f.1
fault_number_lem (unended l ∷ ls) p n f = inl f
fault_number_lem (ended l ∷ ls) p n f = rw f at (line_only p.wanted p l)

numbered_by : (t : List ℕ) (b : Buffers) (limit : Bool) (x : Read) → ltb 32768 (length t) ≡ limit → text_read t b ≡ x
    → Numbered t (cond limit (outcome b (refused 17 0)) (concluded_with b x)).said
numbered_by t b true x l e = above_limit (ltb-true 32768 (length t) l)
numbered_by t b false (whole p) l e = count p.count (ltb-false 32768 (length t) l)
numbered_by t b false (faulty n k) l e =
    let f = first_fault (lines_of t) (start b) 1 n k e in
    let up : 0 < k = omega (arith, f.number) in
    let within = ltb-false 32768 (length t) l in
    ⊎_elim (λ s. rw s (malformed k up within)) (λ s. rw s (no_room k up within)) (fault_number_lem f.rest f.reached n f.faulty)

pub numbered : (t : List ℕ) (b : Buffers) → Numbered t (read_text t b).said
unfolding read_text
numbered t b = numbered_by t b (ltb 32768 (length t)) (text_read t b) refl refl

-- ---- the reader's count

-- after the order lines
abbrev Past : Wanted → Type 0
Past heading = ⊥
Past order = ⊥
Past storage = Unit {0}
Past halfword = Unit {0}

past_on : {p : Progress} {w : Wanted} {g : Given} → p.wanted ≡ w → Past w → Sound p w g → ((progressed g p).count ≡ p.count) × Past (progressed g p).wanted
unfolding progressed
past_on e past first = absurd past
past_on e past (an_order o f) = absurd past
past_on e past parting = absurd past
past_on e past second = (refl, rw e tt)
past_on e past (a_halfword h r f) = (refl, tt)

past_count : (ls : List Line) (p q : Progress) → Past p.wanted → Through ls p q → q.count ≡ p.count
past_count [] p q past h = ap (λ (x : Progress). x.count) (sym h)
past_count (unended l ∷ ls) p q past h = absurd h
past_count (ended l ∷ ls) p q past h =
    let s = past_on refl past (line_sound p l h.0 h.1) in
    past_count ls (progressed h.0 p) q s.1 h.2 ∙ s.0

-- where an order is wanted, an empty line ends the orders, and any other is one
empty_line : (p : Progress) (g : Given) → p.wanted ≡ order → line_read p [] ≡ gives g → g ≡ parted
unfolding line_read same
empty_line p g e h = sym (gives_inj (rw e at h))

order_line : (p : Progress) (b : ℕ) (l : List ℕ) (g : Given) → p.wanted ≡ order → line_read p (b ∷ l) ≡ gives g → (o : Order) × (g ≡ ordered o)
unfolding line_read same
order_line p b l g e h =
    let q = then_gives (order_of (b ∷ l)) (order_fits p) (rw e at h) in
    (q.0, sym (gives_inj (provided_gives (leb (p.count * 4 + 4) (length p.held.cells)) 17 (gives (ordered q.0)) q.2).1))

orders_count : (ls : List Line) (p q : Progress) → p.wanted ≡ order → Through ls p q → q.count ≡ p.count + length (up_to_empty ls)
unfolding progressed
orders_count [] p q e h = let z = ap (λ (x : Progress). x.count) h in omega arith
orders_count (unended l ∷ ls) p q e h = absurd h
orders_count (ended [] ∷ ls) p q e h =
    let r : Through ls (progressed parted p) q = rw (empty_line p h.0 e h.1) at h.2 in
    let z = past_count ls (progressed parted p) q tt r in
    omega arith
orders_count (ended (b ∷ l) ∷ ls) p q e h =
    let o = order_line p b l h.0 e h.1 in
    let r : Through ls (progressed (ordered o.0) p) q = rw o.1 at h.2 in
    let z = orders_count ls (progressed (ordered o.0) p) q refl r in
    omega arith

heading_line : (b : Buffers) (l : List ℕ) (g : Given) → line_read (start b) l ≡ gives g → g ≡ headed
unfolding line_read
heading_line b l g h = sym (heading_given (same l deck_heading) g h)

text_count : (ls : List Line) (b : Buffers) (q : Progress) → lines_read ls (start b) 1 ≡ whole q → q.count ≡ length (up_to_empty (after_first ls))
unfolding lines_read_by progressed
text_count [] b q h = other h
text_count (unended l ∷ ls) b q h = other h
text_count (ended l ∷ ls) b q h =
    let r = read_on_lem (line_read (start b) l) (start b) q 1 (λ x. lines_read ls x 2) h in
    let s : lines_read ls (progressed headed (start b)) 2 ≡ whole q = rw (heading_line b l r.0 r.1) at r.2 in
    let z = orders_count ls (progressed headed (start b)) q refl (through ls (progressed headed (start b)) q 2 s) in
    omega arith

pub counted : (t : List ℕ) (b : Buffers) (n : ℕ) → (read_text t b).said ≡ taken n → n ≡ length (order_lines t)
counted t b n h =
    let a = accepted t b n h in
    sym a.count ∙ text_count (lines_of t) b a.given a.lines
