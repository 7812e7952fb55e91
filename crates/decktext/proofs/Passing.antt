-- Lines that go through: what they keep of what the lines before them wrote.
use Prim.Native.Nat.{ℕ, ◌+◌, ◌*◌, ◌≤◌, ◌<◌}
use mathlib.Core.Path.{◌≡◌, refl, sym, ap, ◌∙◌, subst}
use mathlib.Core.List.{List, [], ◌∷◌, ◌++◌}
use native.Mathlib.Omega.{arith}
use lib.ListN.{length, get_or, length-set}
use lib.Seq.{get_or-set_other}
use Rattle.hexfloat.specs.Answer.{Answer, gives, stops}
use Rattle.orders.specs.Order.{order_at}
use Rattle.protection.specs.Form.{is_protected, with_mark}
use Rattle.protection.specs.Bits.{bit_form}
use Rattle.decktext.specs.Text.{Line, ended, unended}
use Rattle.decktext.specs.Read.{Wanted, heading, order, storage, halfword, Progress, Given, headed, ordered, parted, stored, line_read, buffered_with, progressed, Read, whole, faulty, end_read, read_on, lines_read_by, lines_read}
use Rattle.decktext.specs.Theorems.{Through, Faulty}
use Rattle.decktext.proofs.Forms.{Sound, first, an_order, parting, second, a_halfword, sound}
use Rattle.decktext.proofs.Cells.{order_kept}
use Rattle.decktext.proofs.Marks.{marked_others}
use Rattle.decktext.proofs.Walking.{other, end_whole}

-- ---- lines that go through, and lines that are read

-- a line that was read, with what came of those after it
pub read_on_lem : (a : Answer Given) (p q : Progress) (k : ℕ) (rest : Progress → Read) → read_on a p k rest ≡ whole q → (g : Given) × (a ≡ gives g) × (rest (progressed g p) ≡ whole q)
read_on_lem (gives g) p q k rest h = (g, refl, h)
read_on_lem (stops n) p q k rest h = other h

pub through : (ls : List Line) (p q : Progress) (k : ℕ) → lines_read ls p k ≡ whole q → Through ls p q
unfolding lines_read_by
through [] p q k h = end_whole p.wanted p q k h
through (unended l ∷ ls) p q k h = other h
through (ended l ∷ ls) p q k h =
    let r = read_on_lem (line_read p l) p q k (λ x. lines_read ls x (k + 1)) h in
    (r.0, r.1, through ls (progressed r.0 p) q (k + 1) r.2)

pub skip : (before rest : List Line) (p q : Progress) (k : ℕ) → Through before p q → lines_read (before ++ rest) p k ≡ lines_read rest q (k + length before)
unfolding lines_read_by
skip [] rest p q k h = let z : k ≡ k + 0 = omega arith in rw (h, ← z)
skip (unended l ∷ before) rest p q k h = absurd h
skip (ended l ∷ before) rest p q k h =
    rw h.1 (skip before rest (progressed h.0 p) q (k + 1) h.2 ∙ ap (λ (n : ℕ). lines_read rest q n) (omega arith))

-- the first of some lines that go through do so themselves
pub front : (before after : List Line) (p q : Progress) → Through (before ++ after) p q → (r : Progress) × Through before p r
front [] after p q h = (p, refl)
front (unended l ∷ before) after p q h = absurd h
front (ended l ∷ before) after p q h =
    let s = front before after (progressed h.0 p) q h.2 in
    (s.0, (h.0, h.1, s.1))

-- ---- the first fault

pub record Fault (ls : List Line) (p : Progress) (k n j : ℕ) : Type 0 where
  pub before : List Line
  pub rest : List Line
  pub reached : Progress
  pub lines : ls ≡ before ++ rest
  pub number : j ≡ k + length before
  pub through : Through before p reached
  pub faulty : Faulty rest reached n

faulty_number : {n k m j : ℕ} → faulty n k ≡ faulty m j → n ≡ m
faulty_number h = cc

faulty_line : {n k m j : ℕ} → faulty n k ≡ faulty m j → k ≡ j
faulty_line h = cc

other' : {n k : ℕ} {q : Progress} {C : Type 0} → whole q ≡ faulty n k → C
other' h = other (sym h)

at_once : (ls : List Line) (p : Progress) (k n j : ℕ) → k ≡ j → Faulty ls p n → Fault ls p k n j
at_once ls p k n j e f = record { before = []; rest = ls; reached = p; lines = refl; number = omega arith; through = refl; faulty = f }

end_fault : (w : Wanted) (p : Progress) (k n j : ℕ) → p.wanted ≡ w → end_read w p k ≡ faulty n j → Fault [] p k n j
end_fault heading p k n j e h = at_once [] p k n j (faulty_line h) (rw e (tt, sym (faulty_number h)))
end_fault order p k n j e h = other' h
end_fault storage p k n j e h = at_once [] p k n j (faulty_line h) (rw e (tt, sym (faulty_number h)))
end_fault halfword p k n j e h = other' h

later : (l : List ℕ) (ls : List Line) (p : Progress) (k n j : ℕ) (g : Given) → line_read p l ≡ gives g → Fault ls (progressed g p) (k + 1) n j → Fault (ended l ∷ ls) p k n j
later l ls p k n j g e f = record {
  before = ended l ∷ f.before;
  rest = f.rest;
  reached = f.reached;
  lines = ap (λ (x : List Line). ended l ∷ x) f.lines;
  number = omega (arith, f.number);
  through = (g, e, f.through);
  faulty = f.faulty;
}

fault_on : (l : List ℕ) (ls : List Line) (p : Progress) (k n j : ℕ) (a : Answer Given) → line_read p l ≡ a → read_on a p k (λ q. lines_read ls q (k + 1)) ≡ faulty n j
    → ((g : Given) → lines_read ls (progressed g p) (k + 1) ≡ faulty n j → Fault ls (progressed g p) (k + 1) n j) → Fault (ended l ∷ ls) p k n j
fault_on l ls p k n j (gives g) e h rest = later l ls p k n j g e (rest g h)
fault_on l ls p k n j (stops m) e h rest = at_once (ended l ∷ ls) p k n j (faulty_line h) (e ∙ ap (λ (x : ℕ). stops x) (faulty_number h))

pub first_fault : (ls : List Line) (p : Progress) (k n j : ℕ) → lines_read ls p k ≡ faulty n j → Fault ls p k n j
unfolding lines_read_by
first_fault [] p k n j h = end_fault p.wanted p k n j refl h
first_fault (unended l ∷ ls) p k n j h = at_once (unended l ∷ ls) p k n j (faulty_line h) (sym (faulty_number h))
first_fault (ended l ∷ ls) p k n j h = fault_on l ls p k n j (line_read p l) refl h (λ g r. first_fault ls (progressed g p) (k + 1) n j r)

-- ---- what a line keeps

pub record Kept (p q : Progress) : Type 0 where
  pub orders : p.count ≤ q.count
  pub least : p.least ≤ q.least
  pub cells : (j : ℕ) → j < p.count → order_at q.held.cells j ≡ order_at p.held.cells j
  pub memory : (a : ℕ) → a < p.least → get_or q.held.memory a 0 ≡ get_or p.held.memory a 0
  pub form : q.held.protect.form ≡ p.held.protect.form
  pub protect : p.held.protect.form ≡ bit_form → (a : ℕ) → a < p.least → is_protected q.held.protect a ≡ is_protected p.held.protect a
  pub size : length q.held.cells ≡ length p.held.cells
  pub room : p.count * 4 ≤ length p.held.cells → q.count * 4 ≤ length q.held.cells

same_kept : (p q : Progress) → p.count ≡ q.count → p.least ≡ q.least → p.held ≡ q.held → Kept p q
same_kept p q n l h = record {
  orders = omega arith;
  least = omega arith;
  cells = λ j k. rw h;
  memory = λ a k. rw h;
  form = rw h;
  protect = λ x a k. rw h;
  size = rw h;
  room = λ r. rw (← n, ← h) r;
}

kept : {p : Progress} {w : Wanted} {g : Given} → Sound p w g → Kept p (progressed g p)
unfolding progressed buffered_with with_mark
kept {p} first = same_kept p _ refl refl refl
kept {p} parting = same_kept p _ refl refl refl
kept {p} second = same_kept p _ refl refl refl
kept {p} (an_order o f) = record {
  orders = omega arith;
  least = omega arith;
  cells = λ j k. order_kept p.held.cells p.count j o k;
  memory = λ a k. refl;
  form = refl;
  protect = λ x a k. refl;
  size = simp length-set;
  room = λ r. simp length-set (omega arith);
}
kept {p} (a_halfword h r f) = record {
  orders = omega arith;
  least = omega arith;
  cells = λ j k. refl;
  memory = λ a k. get_or-set_other p.held.memory h.at a h.word 0 (λ e. omega arith);
  form = refl;
  protect = λ x a k. marked_others p.held.protect x h.at h.protect f.0.1 a (λ e. omega arith);
  size = refl;
  room = λ r. r;
}

kept_trans : {p q r : Progress} → Kept p q → Kept q r → Kept p r
kept_trans a b = record {
  orders = omega (arith, a.orders, b.orders);
  least = omega (arith, a.least, b.least);
  cells = λ j k. b.cells j (omega (arith, a.orders)) ∙ a.cells j k;
  memory = λ i k. b.memory i (omega (arith, a.least)) ∙ a.memory i k;
  form = b.form ∙ a.form;
  protect = λ x i k. b.protect (a.form ∙ x) i (omega (arith, a.least)) ∙ a.protect x i k;
  size = b.size ∙ a.size;
  room = λ r. b.room (a.room r);
}

pub line_sound : (p : Progress) (l : List ℕ) (g : Given) → line_read p l ≡ gives g → Sound p p.wanted g
unfolding line_read
line_sound p l g h = sound p.wanted p l g h

pub all_kept : (ls : List Line) (p q : Progress) → Through ls p q → Kept p q
all_kept [] p q h = same_kept p q (ap (λ (x : Progress). x.count) h) (ap (λ (x : Progress). x.least) h) (ap (λ (x : Progress). x.held) h)
all_kept (unended l ∷ ls) p q h = absurd h
all_kept (ended l ∷ ls) p q h =
    kept_trans (kept (line_sound p l h.0 h.1)) (all_kept ls (progressed h.0 p) q h.2)

-- ---- an order's place

-- m lines came before
abbrev pub Counted : Wanted → ℕ → ℕ → Type 0
Counted heading n m = (n ≡ 0) × (m ≡ 0)
Counted order n m = m ≡ n + 1
Counted storage n m = Unit {0}
Counted halfword n m = Unit {0}

counted : {p : Progress} {w : Wanted} {g : Given} (m : ℕ) → p.wanted ≡ w → Sound p w g → Counted w p.count m → Counted (progressed g p).wanted (progressed g p).count (m + 1)
unfolding progressed
counted m e first c = rw e (omega arith)
counted m e (an_order o f) c = omega arith
counted m e parting c = tt
counted m e second c = rw e tt
counted m e (a_halfword h r f) c = tt

pub all-counted : (ls : List Line) (p q : Progress) (m : ℕ) → Through ls p q → Counted p.wanted p.count m → Counted q.wanted q.count (m + length ls)
all-counted [] p q m h c = let z : m + 0 ≡ m = omega arith in rw (← h, z) c
all-counted (unended l ∷ ls) p q m h c = absurd h
all-counted (ended l ∷ ls) p q m h c =
    let z : m + 1 + length ls ≡ m + length (ended l ∷ ls) = omega arith in
    subst (λ (n : ℕ). Counted q.wanted q.count n) z
    (all-counted ls (progressed h.0 p) q (m + 1) h.2 (counted m refl (line_sound p l h.0 h.1) c))

-- an order comes where one is wanted
abbrev pub WantedBy : Given → Wanted → Type 0
WantedBy headed w = Unit {0}
WantedBy (ordered o) w = w ≡ order
WantedBy parted w = Unit {0}
WantedBy (stored h) w = Unit {0}

pub wanted_by : {p : Progress} {w : Wanted} {g : Given} → Sound p w g → WantedBy g w
wanted_by first = tt
wanted_by (an_order o f) = refl
wanted_by parting = tt
wanted_by second = tt
wanted_by (a_halfword h r f) = tt
