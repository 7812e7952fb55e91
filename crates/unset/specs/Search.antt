-- For the private functions: the search for what reaches each place unwritten.
use Rattle.std.specs.Prelude.{ℕ, suc, ◌+◌, ◌-◌, ◌*◌, ◌/◌, ◌%◌, ◌^◌, ◌<◌, ◌≡◌, List, [], ◌∷◌, ◌++◌, Bool, true, false, cond, eqb, ltb, length, get_or, set, take, replicate}
use Rattle.std.specs.Int.Bits.{bit_or}
use Rattle.hexfloat.specs.Answer.{gives}
use Rattle.orders.specs.declared.order.Operation.{Operation}
use Rattle.orders.specs.Order.{order_at, legal_of}
use Rattle.machine.specs.Uses.{written_by}
use Rattle.unset.specs.declared.path.Point.{Point}
use Rattle.unset.specs.declared.search.Search.{Search}
use Rattle.unset.specs.Answer.{Checked}
use Rattle.unset.specs.Bits.{bits_of, in_word, register_of, without}
use Rattle.unset.specs.Path.{point, nexts, ReachedUnwritten}

abbrev pub index_of : Point → ℕ
index_of x = x.order * 2 + x.selector

abbrev pub point_at : ℕ → Point
point_at i = point (i / 2) (i % 2)

-- places: two for each order of the largest deck, by selector
abbrev pub places : ℕ
places = 8192

-- for each place the registers that were found to reach it unwritten, and whether it waits to be taken up; the places that wait, on a stack
abbrev pub search_of : List ℕ → List Bool → List ℕ → Search
search_of u w st = record { unwritten = u; waiting = w; stack = record { items = st } }

-- nothing is found yet, and nothing waits
abbrev pub unexplored : Search
unexplored = search_of (replicate places 0) (replicate places false) []

-- how many places the stack has
abbrev pub top : Search → ℕ
top s = length s.stack.items

abbrev pub word_at : Search → ℕ → ℕ
word_at s i = get_or s.unwritten i 0

abbrev pub waits : Search → ℕ → Bool
waits s i = get_or s.waiting i false

abbrev pub stacked : Search → ℕ → ℕ
stacked s j = get_or s.stack.items j 0

-- place i waits, if it did not already
unfoldable pub pushed : ℕ → Search → Search
pushed i s = cond (waits s i) s (search_of s.unwritten (set s.waiting i true) (s.stack.items ++ i ∷ []))

-- some registers arrive at place i unwritten: it waits if it gains one
unfoldable pub arrived : ℕ → ℕ → Search → Search
arrived i b s =
    cond (eqb (bit_or (word_at s i) b) (word_at s i)) s
    (pushed i (search_of (set s.unwritten i (bit_or (word_at s i) b)) s.waiting s.stack.items))

-- at a point, in a deck of n orders: past its end a path ends
unfoldable pub reached : ℕ → Point → ℕ → Search → Search
reached n x b s = cond (ltb x.order n) (arrived (index_of x) b s) s

unfoldable pub reached_all : ℕ → List Point → ℕ → Search → Search
reached_all n [] b s = s
reached_all n (x ∷ xs) b s = reached_all n xs b (reached n x b s)

-- the last place of the stack no longer waits
abbrev pub popped : Search → Search
popped s = search_of s.unwritten (set s.waiting (stacked s (top s - 1)) false) (take (top s - 1) s.stack.items)

-- how many places wait
unfoldable pub trues : List Bool → ℕ
trues [] = 0
trues (true ∷ bs) = suc (trues bs)
trues (false ∷ bs) = trues bs

-- the stack has the places that wait, each once; they are places of a deck of n orders
pub record Stacked (n : ℕ) (s : Search) : Type 0 where
  pub words : length s.unwritten ≡ places
  pub flags : length s.waiting ≡ places
  pub count : trues s.waiting ≡ top s
  pub wait : (j : ℕ) → j < top s → waits s (stacked s j) ≡ true
  pub once : (j k : ℕ) → j < k → k < top s → stacked s j ≡ stacked s k → ⊥
  pub inside : (j : ℕ) → j < top s → stacked s j < n * 2
  pub small : (i : ℕ) → word_at s i < 2 ^ 24

-- place i is one of them, and there is room to have it wait
pub record Arriving (s : Search) (i : ℕ) : Type 0 where
  pub inside : i < places
  pub room : waits s i ≡ false → top s < places

-- place i is of a deck that passes the checks
pub record Takeable (d : List ℕ) (s : Search) (i : ℕ) : Type 0 where
  pub checked : Checked d
  pub stack : Stacked (length d / 4) s
  pub inside : i < length d / 4 * 2

-- place i is taken up: what reaches it unwritten and is not written there arrives at the points after it
pub record TakenUp (d : List ℕ) (i : ℕ) (s t : Search) : Type 0 where
  pub operation : Operation
  pub legal : legal_of (order_at d (i / 2)) ≡ gives operation
  pub after :
      t ≡ reached_all (length d / 4) (nexts operation.verb (order_at d (i / 2)) (point_at i))
      (without (word_at s i) (bits_of (written_by operation (order_at d (i / 2)) (i % 2)))) s

-- what the search finds: at each point of the deck the registers that some path reaches it without having written
pub record Explored (d : List ℕ) (u : List ℕ) : Type 0 where
  pub only : (i k : ℕ) → k < 24 → in_word k (get_or u i 0) ≡ true → ReachedUnwritten d (register_of k) (point_at i)
  pub every :
      (i k : ℕ) → i < length d / 4 * 2 → k < 24 → ReachedUnwritten d (register_of k) (point_at i) → in_word k (get_or u i 0) ≡ true
