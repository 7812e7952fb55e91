-- A change and then the change to the old contents leaves registers and memory as they were.
use Prim.Native.Nat.{ℕ, zero, suc, ◌+◌, ◌*◌, ◌/◌, ◌%◌, ◌<◌, ◌≤◌}
use mathlib.Core.Path.{◌≡◌, refl, sym, ap, ◌∙◌}
use mathlib.Core.Logic.{◌≢◌}
use mathlib.Core.List.{List, [], ◌∷◌}
use mathlib.Core.Bool.{true}
use lib.ListN.{length, get_or, set, length-set}
use lib.Seq.{set-set, set_comm, set-get_or}
use native.Mathlib.Omega.{arith}
use borrow.Author.Tests.{leb-true}
use Rattle.orders.specs.General.{general_cell}
use Rattle.orders.proofs.Generals.{register_there}
use Rattle.protection.specs.Form.{ProtectList}
use Rattle.machine.specs.declared.change.Change.{Change}
use Rattle.machine.specs.declared.state.Registers.{Registers}
use Rattle.machine.specs.Change.{registered, placed, guarded, old_of, float_after, general_after, put_word, memory_after}
use Rattle.machine.specs.Operand.{word_at}

-- every element is a halfword
abbrev pub Halfwords : List ℕ → Type 0
Halfwords m = (i : ℕ) → get_or m i 0 < 65536

two_back : (l : List ℕ) (i j x y : ℕ) → i ≢ j → set (set (set (set l i x) j y) i (get_or l i 0)) j (get_or l j 0) ≡ l
two_back l i j x y h =
    rw (set_comm (set l i x) j i y (get_or l i 0) (λ e. h (sym e)), set-set l i x (get_or l i 0), set-get_or l i 0, set-set l j y (get_or l j 0)) (set-get_or l j 0)

pub float_back : (g : Registers) (m : List ℕ) (ch : Change) → float_after (old_of g m ch) (float_after ch g.float) ≡ g.float
unfolding float_after old_of
float_back g m Change.Nothing = refl
float_back g m (Change.Float r w) = rw (set-set g.float r w (get_or g.float r 0)) (set-get_or g.float r 0)
float_back g m (Change.Pair r x y) = two_back g.float r ((r + 1) % 8) x y (λ e. omega arith)
float_back g m (Change.General r w) = refl
float_back g m (Change.Two a w) = refl
float_back g m (Change.Four a x y) = refl

-- in the set that was selected
pub general_back :
    (g : Registers) (m : List ℕ) (ch : Change) → registered ch ≡ true → g.status.selector ≤ 1 →
    general_after (old_of g m ch) (general_after ch g.general g.status.selector) g.status.selector ≡ g.general
unfolding general_after old_of registered
general_back g m Change.Nothing h s = refl
general_back g m (Change.Float r w) h s = refl
general_back g m (Change.Pair r x y) h s = refl
general_back g m (Change.General r w) h s =
    let c = general_cell g.status.selector r in
    rw (register_there g.general g.status.selector r s (leb-true r 7 h), set-set g.general c w (get_or g.general c 0)) (set-get_or g.general c 0)
general_back g m (Change.Two a w) h s = refl
general_back g m (Change.Four a x y) h s = refl

-- a word put at a and the word that was there put back
word_back : (m : List ℕ) → Halfwords m → (a w : ℕ) → put_word a (word_at m a) (put_word a w m) ≡ m
word_back m h a w =
    let left : (get_or m a 0 * 65536 + get_or m (a + 1) 0) / 65536 % 65536 ≡ get_or m a 0 = omega (arith, h a, h (a + 1)) in
    let right : (get_or m a 0 * 65536 + get_or m (a + 1) 0) % 65536 ≡ get_or m (a + 1) 0 = omega (arith, h a, h (a + 1)) in
    rw (left, right) (two_back m a (a + 1) (w / 65536 % 65536) (w % 65536) (λ e. omega arith))

-- words that share no halfword may be put in either order
word_comm : (m : List ℕ) (a v w : ℕ) → put_word a v (put_word (a + 2) w m) ≡ put_word (a + 2) w (put_word a v m)
word_comm m a v w =
    let x = v / 65536 % 65536 in
    let y = v % 65536 in
    let p = w / 65536 % 65536 in
    let q = w % 65536 in
    let b = a + 2 in
    rw (
      set_comm (set m b p) (b + 1) a q x (λ e. omega arith),
      set_comm m b a p x (λ e. omega arith),
      set_comm (set (set m a x) b p) (b + 1) (a + 1) q y (λ e. omega arith),
      set_comm (set m a x) b (a + 1) p y (λ e. omega arith),
    )

pub memory_back : (g : Registers) (m : List ℕ) → Halfwords m → (ch : Change) → memory_after (old_of g m ch) (memory_after ch m) ≡ m
unfolding memory_after old_of
memory_back g m h Change.Nothing = refl
memory_back g m h (Change.Float r w) = refl
memory_back g m h (Change.Pair r x y) = refl
memory_back g m h (Change.General r w) = refl
memory_back g m h (Change.Two a w) = word_back m h a w
memory_back g m h (Change.Four a x y) =
    ap (put_word (a + 2) (word_at m (a + 2))) (word_comm (put_word a x m) a (word_at m a) y ∙ ap (put_word (a + 2) y) (word_back m h a x))
    ∙ word_back m h (a + 2) y

-- the old contents stand at the same places
pub registered_old : (g : Registers) (m : List ℕ) (ch : Change) → registered (old_of g m ch) ≡ registered ch
unfolding registered old_of
registered_old g m Change.Nothing = refl
registered_old g m (Change.Float r w) = refl
registered_old g m (Change.Pair r x y) = refl
registered_old g m (Change.General r w) = refl
registered_old g m (Change.Two a w) = refl
registered_old g m (Change.Four a x y) = refl

pub placed_old : (g : Registers) (m : List ℕ) (n : ℕ) (ch : Change) → placed (old_of g m ch) n ≡ placed ch n
unfolding placed old_of
placed_old g m n Change.Nothing = refl
placed_old g m n (Change.Float r w) = refl
placed_old g m n (Change.Pair r x y) = refl
placed_old g m n (Change.General r w) = refl
placed_old g m n (Change.Two a w) = refl
placed_old g m n (Change.Four a x y) = refl

pub guarded_old : (g : Registers) (m : List ℕ) (p : ProtectList) (ch : Change) → guarded p (old_of g m ch) ≡ guarded p ch
unfolding guarded old_of
guarded_old g m p Change.Nothing = refl
guarded_old g m p (Change.Float r w) = refl
guarded_old g m p (Change.Pair r x y) = refl
guarded_old g m p (Change.General r w) = refl
guarded_old g m p (Change.Two a w) = refl
guarded_old g m p (Change.Four a x y) = refl

-- memory keeps its length, and its halfwords stay halfwords
word-length : (a w : ℕ) (m : List ℕ) → length (put_word a w m) ≡ length m
word-length a w m = simp length-set

pub memory_length : (ch : Change) (m : List ℕ) → length (memory_after ch m) ≡ length m
unfolding memory_after
memory_length Change.Nothing m = refl
memory_length (Change.Float r w) m = refl
memory_length (Change.Pair r x y) m = refl
memory_length (Change.General r w) m = refl
memory_length (Change.Two a w) m = word-length a w m
memory_length (Change.Four a x y) m = word-length (a + 2) y (put_word a x m) ∙ word-length a x m

set_halfword : (m : List ℕ) → Halfwords m → (k v : ℕ) → v < 65536 → Halfwords (set m k v)
set_halfword [] h k v b i = h i
set_halfword (x ∷ m) h zero v b zero = b
set_halfword (x ∷ m) h zero v b (suc i) = h (suc i)
set_halfword (x ∷ m) h (suc k) v b zero = h zero
set_halfword (x ∷ m) h (suc k) v b (suc i) = set_halfword m (λ j. h (suc j)) k v b i

word-halfwords : (m : List ℕ) → Halfwords m → (a w : ℕ) → Halfwords (put_word a w m)
word-halfwords m h a w =
    set_halfword (set m a (w / 65536 % 65536)) (set_halfword m h a (w / 65536 % 65536) (omega arith)) (a + 1) (w % 65536) (omega arith)

pub memory_halfwords : (ch : Change) (m : List ℕ) → Halfwords m → Halfwords (memory_after ch m)
unfolding memory_after
memory_halfwords Change.Nothing m h = h
memory_halfwords (Change.Float r w) m h = h
memory_halfwords (Change.Pair r x y) m h = h
memory_halfwords (Change.General r w) m h = h
memory_halfwords (Change.Two a w) m h = word-halfwords m h a w
memory_halfwords (Change.Four a x y) m h = word-halfwords (put_word a x m) (word-halfwords m h a x) (a + 2) y
