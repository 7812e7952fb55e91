-- What checks 1 to 3 leave known.
use Rattle.std.proofs.Common.{◌≡◌, ℕ, ◌+◌, ◌/◌, ◌%◌, ◌<◌, ◌≤◌, Bool, true, false, cond, ◌&&◌, ◌||◌, eqb, leb, refl, arith, ne_eqb, eqb-true, le-leb, leb-false, leb-true}
use borrow.Author.Tests.{eqb-false}
use Rattle.protection.specs.Form.{ProtectList, covers}
use Rattle.hexfloat.proofs.Answers.{both}
use Rattle.machine.specs.declared.state.Status.{Status}
use Rattle.machine.specs.Check.{deck_sized, buffers_sized, state_formed, present}
use Rattle.machine.specs.Decide.{held_stop, entry_stop}
use Rattle.machine.specs.Status.{condition_formed, status_formed, Packable}

-- a status of the form
pub record Fits (s : Status) : Type 0 where
  pub condition : condition_formed s.condition ≡ true
  pub mask : s.mask ≤ 1
  pub selector : s.selector ≤ 1

-- checks 2 and 3
pub record Held (p : ProtectList) (s other : Status) (used memory journal : ℕ) : Type 0 where
  pub memory_size : memory ≤ 32768
  pub journal_size : journal ≤ 16384
  pub cover : covers p memory ≡ true
  pub own : Fits s
  pub beside : Fits other
  pub room : used ≤ journal / 4

-- check 1
pub record Sized (deck : ℕ) : Type 0 where
  pub multiple : deck % 4 ≡ 0
  pub size : deck ≤ 16384

-- checks 20 and 1, and those after them
pub record Entered (k deck : ℕ) (p : ProtectList) (s other : Status) (used memory journal : ℕ) : Type 0 where
  pub seat : k ≤ 1
  pub sized : Sized deck
  pub passes : held_stop p s other used memory journal ≡ 0

held_cases : (a b : Bool) → ◌≡◌ {A = ℕ} (cond a (cond b 0 3) 2) 0 → (a ≡ true) × (b ≡ true)
held_cases true true h = (refl, refl)
held_cases true false h = absurd (omega arith)
held_cases false b h = absurd (omega arith)

entry_cases : (a b : Bool) (k : ℕ) → ◌≡◌ {A = ℕ} (cond a (cond b k 1) 20) 0 → (a ≡ true) × (b ≡ true) × (k ≡ 0)
entry_cases true true k h = (refl, refl, h)
entry_cases true false k h = absurd (omega arith)
entry_cases false b k h = absurd (omega arith)

fits : (s : Status) → status_formed s ≡ true → Fits s
unfolding status_formed
fits s h =
    let e = both (condition_formed s.condition) (leb s.mask 1 && leb s.selector 1) h in
    let t = both (leb s.mask 1) (leb s.selector 1) e.1 in
    record { condition = e.0; mask = leb-true s.mask 1 t.0; selector = leb-true s.selector 1 t.1 }

formed : (s : Status) → Fits s → status_formed s ≡ true
unfolding status_formed
formed s f = rw (f.condition, le-leb s.mask 1 f.mask, le-leb s.selector 1 f.selector)

module _ (p : ProtectList) (s other : Status) (used memory journal : ℕ) where
  pub held : held_stop p s other used memory journal ≡ 0 → Held p s other used memory journal
  unfolding held_stop buffers_sized state_formed
  held h =
      let c = held_cases (buffers_sized p memory journal) (state_formed s other used journal) h in
      let b = both (leb memory 32768) (leb journal 16384 && covers p memory) c.0 in
      let d = both (leb journal 16384) (covers p memory) b.1 in
      let f = both (status_formed s) (status_formed other && leb used (journal / 4)) c.1 in
      let e = both (status_formed other) (leb used (journal / 4)) f.1 in
      record {
        memory_size = leb-true memory 32768 b.0;
        journal_size = leb-true journal 16384 d.0;
        cover = d.1;
        own = fits s f.0;
        beside = fits other e.0;
        room = leb-true used (journal / 4) e.1;
      }

  -- and the converse
  pub held_zero : Held p s other used memory journal → held_stop p s other used memory journal ≡ 0
  unfolding held_stop buffers_sized state_formed
  held_zero h =
      rw (
        le-leb memory 32768 h.memory_size,
        le-leb journal 16384 h.journal_size,
        h.cover,
        formed s h.own,
        formed other h.beside,
        le-leb used (journal / 4) h.room,
      )

  pub entered : (k deck : ℕ) → entry_stop k deck p s other used memory journal ≡ 0 → Entered k deck p s other used memory journal
  unfolding entry_stop deck_sized
  entered k deck h =
      let c = entry_cases (leb k 1) (deck_sized deck) (held_stop p s other used memory journal) h in
      let b = both (eqb (deck % 4) 0) (leb deck 16384) c.1 in
      record {
        seat = leb-true k 1 c.0;
        sized = record { multiple = eqb-true (deck % 4) 0 b.0; size = leb-true deck 16384 b.1 };
        passes = c.2;
      }

  -- check 3 looks at both seats alike
  pub held_swap : held_stop p s other used memory journal ≡ held_stop p other s used memory journal
  unfolding held_stop state_formed
  held_swap = cases (status_formed s) (status_formed other)
    where
      room : Bool
      room = leb used (journal / 4)

      stop : Bool → ℕ
      stop c = cond (buffers_sized p memory journal) (cond c 0 3) 2

      cases : (a b : Bool) → stop (a && (b && room)) ≡ stop (b && (a && room))
      cases true true = refl
      cases true false = refl
      cases false true = refl
      cases false false = refl

  -- which numbers they answer
  pub held_number : (P : ℕ → Type 0) → P 0 → P 2 → P 3 → P (held_stop p s other used memory journal)
  unfolding held_stop
  held_number P a b c = cases (buffers_sized p memory journal) (state_formed s other used journal)
    where
      cases : (x y : Bool) → P (cond x (cond y 0 3) 2)
      cases true true = a
      cases true false = c
      cases false y = b

  pub entry_number : (P : ℕ → Type 0) (k deck : ℕ) → P 0 → (1 < k → P 20) → P 1 → P 2 → P 3 → P (entry_stop k deck p s other used memory journal)
  unfolding entry_stop
  entry_number P k deck z seat a b c = cases (leb k 1) (deck_sized deck) refl
    where
      cases : (x y : Bool) → leb k 1 ≡ x → P (cond x (cond y (held_stop p s other used memory journal) 1) 20)
      cases true true h = held_number P z b c
      cases true false h = a
      cases false y h = seat (leb-false k 1 h)

-- a condition code takes two bits, and is not 2
pub condition_below : (c : ℕ) → condition_formed c ≡ true → c < 4
unfolding condition_formed
condition_below c h = cases (eqb c 0) (eqb c 1) (eqb c 3) refl refl refl h
  where
    cases : (x y z : Bool) → eqb c 0 ≡ x → eqb c 1 ≡ y → eqb c 3 ≡ z → (x || (y || z)) ≡ true → c < 4
    cases true y z a b d h = omega (arith, eqb-true c 0 a)
    cases false true z a b d h = omega (arith, eqb-true c 1 b)
    cases false false true a b d h = omega (arith, eqb-true c 3 d)
    cases false false false a b d h = absurd (let y : ◌≡◌ {A = ℕ} 0 1 = cc in omega arith)

-- so it is packed into two bits, and mask and selector into one each
pub packable : {s : Status} → condition_formed s.condition ≡ true → s.mask ≤ 1 → s.selector ≤ 1 → Packable s
packable {s} c m t = record { condition = condition_below s.condition c; mask = omega arith; selector = omega arith }

-- halfwords that are there
pub reach : (span a n : ℕ) → present span a n ≡ true → 0 < span → a + span ≤ n
unfolding present
reach span a n h positive = leb-true (a + span) n (rw (ne_eqb span 0 (λ z. omega arith)) at h)

-- fewer halfwords from the same place on
pub present_fewer : (k l a n : ℕ) → k ≤ l → present l a n ≡ true → present k a n ≡ true
unfolding present
present_fewer k l a n h t = cases (eqb k 0) refl
  where
    cases : (b : Bool) → eqb k 0 ≡ b → (b || leb (a + k) n) ≡ true
    cases true e = refl
    cases false e = within (eqb-false k 0 e)
      where
        within : (k ≡ 0 → ⊥) → leb (a + k) n ≡ true
        within z = le-leb (a + k) n (omega (arith, reach l a n t (omega arith)))
