-- The staging array: what it stands for, before any line and with one line more.
use Prim.Native.Nat.{ℕ, zero, suc, ◌+◌, ◌-◌, ◌*◌, ◌≤◌, ◌<◌}
use mathlib.Core.Path.{◌≡◌, refl, sym, ap, ◌∙◌}
use mathlib.Core.List.{List, ◌∷◌, ◌++◌}
use native.Mathlib.Numerals.{add-one}
use native.Mathlib.Omega.{arith}
use borrow.Author.Count.{below_more}
use lib.ListN.{get_or-append, length-append, length-drop, length, get_or, set, take, drop, length-set}
use lib.Seq.{drop-append_seam, drop-drop, get_or-drop, get_or-take, get_or-set_same, get_or-set_other, append_snoc, length-take-le, take-suc, drop-cons, set-append_seam}
use Rattle.orders.specs.declared.order.Order.{Order}
use Rattle.orders.specs.Order.{order_at}
use Rattle.decktext.specs.Format.{Halfword}
use Rattle.decktext.specs.Read.{Buffers, Given, headed, ordered, parted, stored, with_cells, buffered_with}
use Rattle.decktext.specs.Walk.{Storable}
use Rattle.decktext.specs.Staged.{place_after, values_in, halfwords_with, with_halfword, staged_with, with_front, halfword_at, with_each, put_word, put_mark, replayed, Landing}
use Rattle.decktext.proofs.Cells.{cell_kept, order-put}

-- r has the values of s below a place
abbrev Agree : List ℕ → List ℕ → ℕ → Type 0
Agree s r m = (j : ℕ) → j < m → get_or r j 0 ≡ get_or s j 0

front_same : (s r : List ℕ) (m : ℕ) (c : List ℕ) → Agree s r m → with_front r m c ≡ with_front s m c
unfolding with_front
front_same s r zero c a = refl
front_same s r (suc m) c a =
    let e = a m (omega arith) in
    rw (e, front_same s r m c (λ j h. a j (omega arith)))

each_same : {W : Type 0} (put : Halfword → W → W) (s r : List ℕ) (n k : ℕ) (w : W) → Agree s r (place_after n k) → with_each put r n k w ≡ with_each put s n k w
unfolding with_each
each_same put s r n zero w a = refl
each_same put s r n (suc k) w a =
    let i = place_after n k in
    let e0 = a i (omega arith) in
    let e1 = a (i + 1) (omega arith) in
    let e2 = a (i + 2) (omega arith) in
    rw (e0, e1, e2, each_same put s r n k w (λ j h. a j (omega arith)))

-- ---- one halfword more

module _ (s : List ℕ) (i : ℕ) (h : Halfword) where
  halfword_kept : Agree s (with_halfword i h s) i
  halfword_kept j l =
      get_or-set_other (set (set s i h.at) (i + 1) h.protect) (i + 2) j h.word 0 (λ e. omega arith)
      ∙ get_or-set_other (set s i h.at) (i + 1) j h.protect 0 (λ e. omega arith)
      ∙ get_or-set_other s i j h.at 0 (λ e. omega arith)

  module _ (room : i + 3 ≤ length s) where
    at_put : get_or (with_halfword i h s) i 0 ≡ h.at
    at_put =
        get_or-set_other (set (set s i h.at) (i + 1) h.protect) (i + 2) i h.word 0 (λ e. omega arith)
        ∙ get_or-set_other (set s i h.at) (i + 1) i h.protect 0 (λ e. omega arith)
        ∙ get_or-set_same s i h.at 0 (omega arith)

    protect_put : get_or (with_halfword i h s) (i + 1) 0 ≡ h.protect
    protect_put =
        get_or-set_other (set (set s i h.at) (i + 1) h.protect) (i + 2) (i + 1) h.word 0 (λ e. omega arith)
        ∙ get_or-set_same (set s i h.at) (i + 1) h.protect 0 (simp length-set (omega arith))

    word-put : get_or (with_halfword i h s) (i + 2) 0 ≡ h.word
    word-put = get_or-set_same (set (set s i h.at) (i + 1) h.protect) (i + 2) h.word 0 (simp length-set (omega arith))

    halfword_put : halfword_at (with_halfword i h s) i ≡ h
    halfword_put = rw (at_put, protect_put, word-put)

each_more : {W : Type 0} (put : Halfword → W → W) (s : List ℕ) (n k : ℕ) (h : Halfword) (w : W) → place_after n k + 3 ≤ length s
    → with_each put (with_halfword (place_after n k) h s) n (k + 1) w ≡ put h (with_each put s n k w)
unfolding with_each
each_more put s n k h w room =
    let i = place_after n k in
    rw (add-one k, each_same put s (with_halfword i h s) n k w (halfword_kept s i h))
    (ap (λ (x : Halfword). put x (with_each put s n k w)) (halfword_put s i h room))

-- ---- one line more

-- halfwords come after all orders
abbrev pub Follows : Given → ℕ → Type 0
Follows headed k = Unit {0}
Follows (ordered o) k = k ≡ 0
Follows parted k = Unit {0}
Follows (stored h) k = Unit {0}

-- how many orders there are with what a line gives
abbrev pub orders_with : Given → ℕ → ℕ
orders_with headed n = n
orders_with (ordered o) n = n + 1
orders_with parted n = n
orders_with (stored h) n = n

pub size_with : (g : Given) (n k : ℕ) (s : List ℕ) → length (staged_with g n k s) ≡ length s
unfolding staged_with
size_with headed n k s = refl
size_with (ordered o) n k s = simp length-set
size_with parted n k s = refl
size_with (stored h) n k s = simp length-set

pub place_with : (g : Given) (n k : ℕ) → place_after (orders_with g n) (halfwords_with g k) ≡ place_after n k + values_in g
place_with headed n k = omega arith
place_with (ordered o) n k = omega arith
place_with parted n k = omega arith
place_with (stored h) n k = omega arith

four_front : (s : List ℕ) (m : ℕ) (c : List ℕ)
    → with_front s (m + 4) c ≡ set (set (set (set (with_front s m c) m (get_or s m 0)) (m + 1) (get_or s (m + 1) 0)) (m + 2) (get_or s (m + 2) 0)) (m + 3) (get_or s (m + 3) 0)
unfolding with_front
four_front s m c =
    let one : m + 1 ≡ suc m = omega arith in
    let two : m + 2 ≡ suc (suc m) = omega arith in
    let three : m + 3 ≡ suc (suc (suc m)) = omega arith in
    let four : m + 4 ≡ suc (suc (suc (suc m))) = omega arith in
    rw (one, two, three, four)

orders_more : (s : List ℕ) (n : ℕ) (o : Order) (c : List ℕ) → n * 4 + 4 ≤ length s → with_front (with_cells n o s) ((n + 1) * 4) c ≡ with_cells n o (with_front s (n * 4) c)
orders_more s n o c room =
    let four : (n + 1) * 4 ≡ n * 4 + 4 = omega arith in
    let kept = front_same s (with_cells n o s) (n * 4) c (λ j l. cell_kept s n j o l) in
    rw four
    (four_front (with_cells n o s) (n * 4) c
    ∙ ap (λ (x : List ℕ). with_cells n (order_at (with_cells n o s) n) x) kept
    ∙ ap (λ (x : Order). with_cells n x (with_front s (n * 4) c)) (order-put s n o room))

pub replayed_none : (s : List ℕ) (b : Buffers) → replayed s 0 0 b ≡ b
unfolding with_front with_each
replayed_none s b = refl

order-replayed : (o : Order) (n : ℕ) (s : List ℕ) (b : Buffers) → n * 4 + 4 ≤ length s → replayed (with_cells n o s) (n + 1) 0 b ≡ buffered_with (ordered o) n (replayed s n 0 b)
unfolding with_each buffered_with
order-replayed o n s b room = rw (orders_more s n o b.cells room)

pub replayed_with : (g : Given) (n k : ℕ) (s : List ℕ) (b : Buffers) → Follows g k → place_after n k + values_in g ≤ length s
    → replayed (staged_with g n k s) (orders_with g n) (halfwords_with g k) b ≡ buffered_with g n (replayed s n k b)
unfolding staged_with buffered_with
replayed_with headed n k s b f room = refl
replayed_with (ordered o) n k s b f room = rw f (order-replayed o n s b (omega arith))
replayed_with parted n k s b f room = refl
replayed_with (stored h) n k s b f room =
    let i = place_after n k in
    rw (
      front_same s (with_halfword i h s) (n * 4) b.cells (λ j l. halfword_kept s i h j (omega arith)),
      each_more put_word s n k h b.memory room,
      each_more put_mark s n k h b.protect room,
    )

pub landing_none : (s : List ℕ) (m : ℕ) → Landing s 0 0 m
landing_none s m = record { inside = omega arith; word = λ j l. absurd (omega arith); digit = λ j l. absurd (omega arith) }

-- no halfwords yet
landing_first : (s : List ℕ) (n k m : ℕ) → k ≡ 0 → n * 4 ≤ 16384 → Landing s n k m
landing_first s n k m z l = record { inside = omega arith; word = λ j h. absurd (omega arith); digit = λ j h. absurd (omega arith) }

pub landing_with : (g : Given) (n k : ℕ) (s : List ℕ) (c m : ℕ) → length s ≡ 16384 → Follows g k → place_after n k + values_in g ≤ 16384 → Storable g n c m
    → Landing s n k m → Landing (staged_with g n k s) (orders_with g n) (halfwords_with g k) m
unfolding staged_with
landing_with headed n k s c m z f room fits l = l
landing_with (ordered o) n k s c m z f room fits l = landing_first (with_cells n o s) (n + 1) k m f (omega arith)
landing_with parted n k s c m z f room fits l = l
landing_with (stored h) n k s c m z f room fits l =
    let i = place_after n k in
    let full : i + 3 ≤ length s = omega arith in
    record {
      inside = omega arith;
      word = below_more (λ (j : ℕ). get_or (with_halfword i h s) (place_after n j) 0 < m) k (λ j q. rw (halfword_kept s i h (place_after n j) (omega arith)) (l.word j q)) (rw (at_put s i h full) fits.0);
      digit = below_more (λ (j : ℕ). get_or (with_halfword i h s) (place_after n j + 1) 0 < 2) k (λ j q. rw (halfword_kept s i h (place_after n j + 1) (omega arith)) (l.digit j q)) (rw (protect_put s i h full) fits.1);
    }

-- ---- copied out

-- the front is copied as one slice
pub front_taken : (s : List ℕ) (m : ℕ) (c : List ℕ) → m ≤ length s → m ≤ length c → take m s ++ drop m c ≡ with_front s m c
unfolding with_front
front_taken s zero c h k = refl
front_taken s (suc m) c h k =
    rw (← front_taken s m c (omega arith) (omega arith), take-suc s m 0 (omega arith), drop-cons c m 0 (omega arith), append_snoc)
    (let e : length (take m s) ≡ m = length-take-le m s (omega arith) in
    sym (ap (λ (i : ℕ). set (take m s ++ get_or c m 0 ∷ drop (suc m) c) i (get_or s m 0)) (sym e) ∙ set-append_seam (take m s) (get_or c m 0) (drop (suc m) c) (get_or s m 0)))

pub each_next : {W : Type 0} (put : Halfword → W → W) (s : List ℕ) (n k : ℕ) (w now : W) → now ≡ with_each put s n k w
    → put (halfword_at s (place_after n k)) now ≡ with_each put s n (k + 1) w
unfolding with_each
each_next put s n k w now e = rw (add-one k, e)

-- ---- the halfwords as chunks of three

-- what is left of the m halfwords after j of them; n orders came before
abbrev pub chunks_after : List ℕ → ℕ → ℕ → ℕ → List ℕ
chunks_after s n m j = drop (j * 3) (take (n * 4 + m * 3 - n * 4) (drop (n * 4) s))

module _ (s : List ℕ) (n m k : ℕ) (room : place_after n m ≤ length s) (x rest : List ℕ) (e : chunks_after s n m k ≡ x ++ rest) (three : length x ≡ 3) where
  more_chunks : k < m
  more_chunks =
      let all : length (take (n * 4 + m * 3 - n * 4) (drop (n * 4) s)) ≡ n * 4 + m * 3 - n * 4 = length-take-le _ (drop (n * 4) s) (omega (arith, length-drop (n * 4) s)) in
      omega (arith, ap length e, length-append x rest, length-drop (k * 3) (take (n * 4 + m * 3 - n * 4) (drop (n * 4) s)))

  -- a value of the chunk is one of the halfword
  chunk_value : (i : ℕ) → i < 3 → get_or x i 0 ≡ get_or s (place_after n k + i) 0
  chunk_value i h =
      let there : n * 4 + (k * 3 + i) ≡ place_after n k + i = omega arith in
      sym (get_or-append x rest 0 i (omega arith)) ∙ ap (λ (l : List ℕ). get_or l i 0) (sym e)
      ∙ get_or-drop (k * 3) (take (n * 4 + m * 3 - n * 4) (drop (n * 4) s)) i 0
      ∙ get_or-take (n * 4 + m * 3 - n * 4) (drop (n * 4) s) (k * 3 + i) 0 (omega (arith, more_chunks))
      ∙ get_or-drop (n * 4) s (k * 3 + i) 0
      ∙ ap (λ (a : ℕ). get_or s a 0) there

  pub chunk : (k < m) × (halfword_at x 0 ≡ halfword_at s (place_after n k)) × (rest ≡ chunks_after s n m (k + 1))
  chunk = (
    more_chunks,
    (let a = chunk_value 0 (omega arith) in let b = chunk_value 1 (omega arith) in let c = chunk_value 2 (omega arith) in
        let first : place_after n k + 0 ≡ place_after n k = omega arith in rw (a, b, c, first)),
    (let on : k * 3 + 3 ≡ (k + 1) * 3 = omega arith in
        sym (drop-append_seam x rest) ∙ rw (three, ← e, drop-drop, on)),
  )
