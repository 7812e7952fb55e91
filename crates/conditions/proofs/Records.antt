-- A record is read back as it was written, and no other is touched.
use Prim.Native.Nat.{ℕ, ◌+◌, ◌*◌, ◌/◌, ◌%◌, ◌^◌, ◌<◌, ◌≤◌}
use mathlib.Core.Path.{◌≡◌, refl, sym, subst, ◌∙◌}
use mathlib.Core.List.{List}
use mathlib.Core.Bool.{true}
use lib.ListN.{length, get_or, set, length-set}
use lib.Seq.{get_or-set_same, get_or-set_other}
use native.Mathlib.Omega.{arith}
use borrow.Author.Tests.{lt-ltb}
use Rattle.hexfloat.specs.Answer.{gives}
use Rattle.machine.specs.declared.change.Change.{Change}
use Rattle.machine.specs.declared.journal.Record.{Record}
use Rattle.machine.specs.declared.verdict.Effect.{Effect}
use Rattle.machine.specs.declared.state.Status.{Status}
use Rattle.machine.specs.Change.{registered}
use Rattle.machine.specs.Journal.{four_words, record_at, written, encoded_as, encoded, change_from, effect_from, decoded, seat_in, Recordable}
use Rattle.machine.specs.Status.{condition_formed, packed, unpacked}
use Rattle.machine.proofs.Checks.{condition_below}
use Rattle.machine.proofs.Returning.{decoded_gives}
use Rattle.conditions.specs.Theorems.{ReadByForm}

pub written-length : (j : List ℕ) (k : ℕ) (q : Record) → length (written j k q) ≡ length j
unfolding written
written-length j k q = simp length-set

-- words of other records
pub written_other : (j : List ℕ) (k : ℕ) (q : Record) (i : ℕ) → (i / 4 ≡ k → ⊥) → get_or (written j k q) i 0 ≡ get_or j i 0
unfolding written
written_other j k q i h =
    let j1 = set j (k * 4) q.head in
    let j2 = set j1 (k * 4 + 1) q.place in
    let j3 = set j2 (k * 4 + 2) q.left in
    get_or-set_other j3 (k * 4 + 3) i q.right 0 (λ e. h (omega arith))
    ∙ get_or-set_other j2 (k * 4 + 2) i q.left 0 (λ e. h (omega arith))
    ∙ get_or-set_other j1 (k * 4 + 1) i q.place 0 (λ e. h (omega arith))
    ∙ get_or-set_other j (k * 4) i q.head 0 (λ e. h (omega arith))

module _ (l : List ℕ) (a b x y : ℕ) where
  other : (a ≡ b → ⊥) → get_or l a 0 ≡ x → get_or (set l b y) a 0 ≡ x
  other h e = get_or-set_other l b a y 0 h ∙ e

pub written_same : (j : List ℕ) (k : ℕ) (q : Record) → k * 4 + 4 ≤ length j → record_at (written j k q) k ≡ q
unfolding written
written_same j k q h =
    let a = k * 4 in
    let j1 = set j a q.head in
    let j2 = set j1 (a + 1) q.place in
    let j3 = set j2 (a + 2) q.left in
    let l1 : length j1 ≡ length j = length-set j a q.head in
    let l2 : length j2 ≡ length j = length-set j1 (a + 1) q.place ∙ l1 in
    let l3 : length j3 ≡ length j = length-set j2 (a + 2) q.left ∙ l2 in
    let e0 : get_or (set j3 (a + 3) q.right) a 0 ≡ q.head =
    other j3 a (a + 3) q.head q.right (λ e. omega arith)
    (other j2 a (a + 2) q.head q.left (λ e. omega arith)
    (other j1 a (a + 1) q.head q.place (λ e. omega arith)
    (get_or-set_same j a q.head 0 (omega arith)))) in
    let e1 : get_or (set j3 (a + 3) q.right) (a + 1) 0 ≡ q.place =
    other j3 (a + 1) (a + 3) q.place q.right (λ e. omega arith)
    (other j2 (a + 1) (a + 2) q.place q.left (λ e. omega arith)
    (get_or-set_same j1 (a + 1) q.place 0 (omega arith))) in
    let e2 : get_or (set j3 (a + 3) q.right) (a + 2) 0 ≡ q.left =
    other j3 (a + 2) (a + 3) q.left q.right (λ e. omega arith) (get_or-set_same j2 (a + 2) q.left 0 (omega arith)) in
    let e3 : get_or (set j3 (a + 3) q.right) (a + 3) 0 ≡ q.right = get_or-set_same j3 (a + 3) q.right 0 (omega arith) in
    rw (e0, e1, e2, e3)

-- a record read from a journal that agrees below
pub record_agrees : (j l : List ℕ) (k : ℕ) → ((i : ℕ) → i < k * 4 + 4 → get_or l i 0 ≡ get_or j i 0) → record_at l k ≡ record_at j k
record_agrees j l k h = rw (h (k * 4) (omega arith), h (k * 4 + 1) (omega arith), h (k * 4 + 2) (omega arith), h (k * 4 + 3) (omega arith))

-- the parts of word 0
module _ (s : Status) (seat kind : ℕ) where
  abbrev word : ℕ
  word = s.pointer + 65536 * s.condition + 262144 * s.mask + 4194304 * s.selector + 8388608 * seat + 524288 * kind

  pointer_in : s.pointer < 65536 → word % 65536 ≡ s.pointer
  pointer_in p = omega arith

  condition_in : s.pointer < 65536 → s.condition < 4 → word / 65536 % 4 ≡ s.condition
  condition_in p c = omega arith

  mask_in : s.pointer < 65536 → s.condition < 4 → s.mask ≤ 1 → word / 262144 % 2 ≡ s.mask
  mask_in p c m = omega arith

  kind_in : s.pointer < 65536 → s.condition < 4 → s.mask ≤ 1 → kind ≤ 7 → word / 524288 % 8 ≡ kind
  kind_in p c m k = omega arith

  selector_in : s.pointer < 65536 → s.condition < 4 → s.mask ≤ 1 → kind ≤ 7 → s.selector ≤ 1 → word / 4194304 % 2 ≡ s.selector
  selector_in p c m k t = omega arith

  seat_back : s.pointer < 65536 → s.condition < 4 → s.mask ≤ 1 → kind ≤ 7 → s.selector ≤ 1 → seat ≤ 1 → word / 8388608 % 2 ≡ seat
  seat_back p c m k t h = omega arith

-- a status comes back out of word 0, and so does the seat, whatever kind of three bits stands in it
pub record BackFrom (s : Status) (seat kind head : ℕ) : Type 0 where
  pub status : unpacked head ≡ s
  pub between : head / 2 ^ 19 % 8 ≡ kind
  pub whose : head / 2 ^ 23 % 2 ≡ seat
  pub whole : head < 2 ^ 24

-- and word 0 is the status, the seat and the kind that are taken out of it, where no bit above 23 is set
head_back : (w : ℕ) → w < 2 ^ 24 → packed (unpacked w) + 2 ^ 23 * (w / 2 ^ 23 % 2) + 2 ^ 19 * (w / 2 ^ 19 % 8) ≡ w
unfolding packed unpacked
head_back w h =
    joined (w % 65536) (w / 65536 % 4) (w / 262144 % 2) (w / 524288 % 8) (w / 4194304 % 2) (w / 8388608 % 2) (w / 65536) (w / 262144) (w / 524288) (w / 4194304) w
    (omega arith) (omega arith) (omega arith) (omega arith) (omega arith)
  where
    -- part by part, each with what stands above it
    joined :
        (p c m k s seat above-p above-c above-m above-k w : ℕ) → w ≡ p + 65536 * above-p → above-p ≡ c + 4 * above-c → above-c ≡ m + 2 * above-m →
        above-m ≡ k + 8 * above-k → above-k ≡ s + 2 * seat → p + 65536 * c + 262144 * m + 4194304 * s + 8388608 * seat + 524288 * k ≡ w
    joined p c m k s seat above-p above-c above-m above-k w a b d e f = omega arith

module _ (seat : ℕ) (hk : seat ≤ 1) (s : Status) (hp : s.pointer < 65536) (hc : condition_formed s.condition ≡ true) (hm : s.mask ≤ 1) (hs : s.selector ≤ 1) where
  -- word 0 but for the kind
  abbrev base : ℕ
  base = packed s + 2 ^ 23 * seat

  head_from : (kind : ℕ) → kind ≤ 7 → BackFrom s seat kind (base + 2 ^ 19 * kind)
  unfolding packed unpacked
  head_from kind few =
      let below = condition_below s.condition hc in
      record {
        status = rw (pointer_in s seat kind hp, condition_in s seat kind hp below, mask_in s seat kind hp below hm, selector_in s seat kind hp below hm few hs);
        between = kind_in s seat kind hp below hm few;
        whose = seat_back s seat kind hp below hm few hs hk;
        whole = omega arith;
      }

  -- what is read of a record: its status and change, and its seat
  abbrev ReadAs : Record → Change → Type 0
  ReadAs q ch = (decoded q ≡ gives (effect_from s ch)) × (seat_in q ≡ seat)

  at_kind :
      (kind place left right : ℕ) (ch : Change) → kind ≤ 7 → change_from kind place left right ≡ gives ch →
      ReadAs (four_words (base + 2 ^ 19 * kind) place left right) ch
  unfolding decoded seat_in
  at_kind kind place left right ch k e =
      let b = head_from kind k in
      (rw (b.status, hc, lt-ltb _ (2 ^ 24) b.whole, b.between, e), b.whose)

  change_back : (ch : Change) → registered ch ≡ true → ReadAs (encoded_as base ch) ch
  unfolding encoded_as change_from registered
  change_back Change.Nothing h =
      let none : base + 2 ^ 19 * 0 ≡ base = omega arith in
      subst (λ (w : ℕ). ReadAs (four_words w 0 0 0) Change.Nothing) none (at_kind 0 0 0 0 Change.Nothing (omega arith) refl)
  change_back (Change.Float r w) h = at_kind 1 r w 0 (Change.Float r w) (omega arith) (rw h)
  change_back (Change.Pair r x y) h = at_kind 2 r x y (Change.Pair r x y) (omega arith) (rw h)
  change_back (Change.General r w) h = at_kind 3 r w 0 (Change.General r w) (omega arith) (rw h)
  change_back (Change.Two a w) h = at_kind 4 a w 0 (Change.Two a w) (omega arith) refl
  change_back (Change.Four a x y) h = at_kind 5 a x y (Change.Four a x y) (omega arith) refl

-- what is encoded is decoded
pub decoded-encoded : (k : ℕ) → k ≤ 1 → (e : Effect) → Recordable e → (decoded (encoded k e) ≡ gives e) × (seat_in (encoded k e) ≡ k)
decoded-encoded k h e r = change_back k h e.status r.pointer r.condition r.mask r.selector e.change r.registers

-- what is taken out of word 0 is of its width
narrow : (w : ℕ) → ((unpacked w).mask ≤ 1) × ((unpacked w).selector ≤ 1) × ((unpacked w).pointer < 65536)
unfolding unpacked
narrow w = (omega arith, omega arith, omega arith)

-- and nothing else is
read_formed : (q : Record) (e : Effect) → decoded q ≡ gives e → (q ≡ encoded (seat_in q) e) × (seat_in q ≤ 1) × Recordable e
unfolding seat_in
read_formed q e h =
    let d = decoded_gives q e h in
    let w = q.head in
    let same = d.status in (
      rw (← same, ← d.change.words (packed (unpacked w) + 2 ^ 23 * (w / 2 ^ 23 % 2)), head_back w d.head),
      omega arith,
      record {
        condition = subst (λ (s : Status). condition_formed s.condition ≡ true) same d.condition;
        mask = subst (λ (s : Status). s.mask ≤ 1) same (narrow w).0;
        selector = subst (λ (s : Status). s.selector ≤ 1) same (narrow w).1;
        pointer = subst (λ (s : Status). s.pointer < 65536) same (narrow w).2;
        registers = d.change.registers;
      },
    )

pub read_by_form : (q : Record) (e : Effect) → ReadByForm q e
read_by_form q e = record {
  formed = read_formed q e;
  read = λ k few same r. subst (λ (y : Record). (decoded y ≡ gives e) × (seat_in y ≡ k)) (sym same) (decoded-encoded k few e r);
}
