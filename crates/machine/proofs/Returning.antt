-- What a back step that is taken says of its checks and of what its record puts back.
use Rattle.std.proofs.Common.{◌≡◌, ℕ, ◌+◌, ◌-◌, ◌*◌, ◌/◌, ◌%◌, ◌^◌, ◌<◌, ◌≤◌, Bool, true, false, cond, not, eqb, ltb, leb, List, length, refl, ap, ◌∙◌, subst, arith, ltb-true, eqb-true}
use borrow.Author.Tests.{eqb-false, not-true}
use Rattle.hexfloat.specs.Answer.{gives, stops, provided}
use Rattle.protection.specs.Form.{ProtectList}
use Rattle.machine.specs.declared.change.Change.{Change}
use Rattle.machine.specs.declared.journal.Record.{Record}
use Rattle.machine.specs.declared.state.State.{State}
use Rattle.machine.specs.declared.verdict.Effect.{Effect}
use Rattle.machine.specs.Back.{allowed, returning}
use Rattle.machine.specs.Change.{registered, placed, guarded}
use Rattle.machine.specs.Decide.{held_in}
use Rattle.machine.specs.Journal.{four_words, record_at, encoded_as, in_register, change_from, effect_from, decoded}
use Rattle.machine.specs.Status.{condition_formed, unpacked}
use Rattle.hexfloat.proofs.Answers.{gives_inj, never, provided_gives, checked_gives, mapped_gives, then_gives}

pub record Returned (p : ProtectList) (s : State) (memory : ℕ) (journal : ℕ) (e : Effect) : Type 0 where
  pub held : held_in p s memory journal ≡ 0
  pub used : 1 ≤ s.used
  pub registers : registered e.change ≡ true
  pub selector : e.status.selector ≤ 1
  pub there : placed e.change memory ≡ true
  pub free : guarded p e.change ≡ false

-- a change that words 1 to 3 give under a kind: its register is among 0 to 7, and the words are those of its record
pub record Formed (kind place left right : ℕ) (ch : Change) : Type 0 where
  pub registers : registered ch ≡ true
  pub words : (base : ℕ) → four_words (base + 2 ^ 19 * kind) place left right ≡ encoded_as base ch

module _ (kind place left right : ℕ) (ch : Change) where
  -- where they give x
  formed_as :
      (x : Change) → gives x ≡ gives ch → registered x ≡ true → ((base : ℕ) → four_words (base + 2 ^ 19 * kind) place left right ≡ encoded_as base x) →
      Formed kind place left right ch
  formed_as x i r w = subst (λ (y : Change). Formed kind place left right y) (gives_inj i) (record { registers = r; words = w })

  none_formed : kind ≡ 0 → provided (eqb place 0) 15 (provided (eqb left 0) 15 (provided (eqb right 0) 15 (gives Change.Nothing))) ≡ gives ch → Formed kind place left right ch
  unfolding registered encoded_as
  none_formed k h =
      let a = provided_gives (eqb place 0) 15 _ h in
      let b = provided_gives (eqb left 0) 15 _ a.1 in
      let c = provided_gives (eqb right 0) 15 _ b.1 in
      let none : (base : ℕ) → base + 2 ^ 19 * 0 ≡ base = λ base. omega arith in
      formed_as Change.Nothing c.1 refl
      (λ base. rw (k, eqb-true place 0 a.0, eqb-true left 0 b.0, eqb-true right 0 c.0, none base))

  -- a record of a register, whose word 3 is not in use where `unused` is `right`
  register_formed :
      (unused : ℕ) (x : Change) → registered x ≡ leb place 7 →
      ((base : ℕ) → unused ≡ 0 → four_words (base + 2 ^ 19 * kind) place left right ≡ encoded_as base x) →
      in_register place unused x ≡ gives ch → Formed kind place left right ch
  register_formed unused x e w h =
      let a = provided_gives (leb place 7) 15 _ h in
      let b = provided_gives (eqb unused 0) 15 _ a.1 in
      formed_as x b.1 (e ∙ a.0) (λ base. w base (eqb-true unused 0 b.0))

  two_formed : kind ≡ 4 → provided (eqb right 0) 15 (gives (Change.Two place left)) ≡ gives ch → Formed kind place left right ch
  unfolding registered encoded_as
  two_formed k h =
      let a = provided_gives (eqb right 0) 15 _ h in
      formed_as (Change.Two place left) a.1 refl (λ base. rw (k, eqb-true right 0 a.0))

  -- the kinds, one by one
  pub change_formed : change_from kind place left right ≡ gives ch → Formed kind place left right ch
  unfolding change_from registered encoded_as
  change_formed h = cases (eqb kind 0) (eqb kind 1) (eqb kind 2) (eqb kind 3) (eqb kind 4) (eqb kind 5) refl refl refl refl refl refl h
    where
      cases :
          (a b c d e f : Bool) → eqb kind 0 ≡ a → eqb kind 1 ≡ b → eqb kind 2 ≡ c → eqb kind 3 ≡ d → eqb kind 4 ≡ e → eqb kind 5 ≡ f →
          cond a (provided (eqb place 0) 15 (provided (eqb left 0) 15 (provided (eqb right 0) 15 (gives Change.Nothing))))
          (cond b (in_register place right (Change.Float place left))
          (cond c (in_register place 0 (Change.Pair place left right))
          (cond d (in_register place right (Change.General place left))
          (cond e (provided (eqb right 0) 15 (gives (Change.Two place left)))
          (cond f (gives (Change.Four place left right))
          (stops 15)))))) ≡ gives ch → Formed kind place left right ch
      cases true b c d e f k _ _ _ _ _ i = none_formed (eqb-true kind 0 k) i
      cases false true c d e f _ k _ _ _ _ i = register_formed right (Change.Float place left) refl (λ base z. rw (eqb-true kind 1 k, z)) i
      cases false false true d e f _ _ k _ _ _ i = register_formed 0 (Change.Pair place left right) refl (λ base z. rw (eqb-true kind 2 k)) i
      cases false false false true e f _ _ _ k _ _ i = register_formed right (Change.General place left) refl (λ base z. rw (eqb-true kind 3 k, z)) i
      cases false false false false true f _ _ _ _ k _ i = two_formed (eqb-true kind 4 k) i
      cases false false false false false true _ _ _ _ _ k i = formed_as (Change.Four place left right) i refl (λ base. rw (eqb-true kind 5 k))
      cases false false false false false false _ _ _ _ _ _ i = never i

-- what a record that is read says: its condition code is of the form, no bit above 23 is set, and its status and change
pub record Decodes (q : Record) (e : Effect) : Type 0 where
  pub condition : condition_formed (unpacked q.head).condition ≡ true
  pub head : q.head < 2 ^ 24
  pub status : unpacked q.head ≡ e.status
  pub change : Formed (q.head / 2 ^ 19 % 8) q.place q.left q.right e.change

pub decoded_gives : (q : Record) (e : Effect) → decoded q ≡ gives e → Decodes q e
unfolding decoded
decoded_gives q e h =
    let kind = q.head / 2 ^ 19 % 8 in
    let k = provided_gives (condition_formed (unpacked q.head).condition) 15 _ h in
    let l = provided_gives (ltb q.head (2 ^ 24)) 15 _ k.1 in
    let m = mapped_gives (effect_from (unpacked q.head)) (change_from kind q.place q.left q.right) l.1 in
    record {
      condition = k.0;
      head = ltb-true q.head (2 ^ 24) l.0;
      status = ap (λ (x : Effect). x.status) m.2;
      change = subst (λ (x : Effect). Formed kind q.place q.left q.right x.change) m.2 (change_formed kind q.place q.left q.right m.0 m.1);
    }

-- of the selector there is one bit
unpacked_selector : (w : ℕ) → (unpacked w).selector ≤ 1
unfolding unpacked
unpacked_selector w = omega arith

module _ (p : ProtectList) (memory : ℕ) where
  allowed_gives : (e x : Effect) → allowed e p memory ≡ gives x → (e ≡ x) × (placed x.change memory ≡ true) × (guarded p x.change ≡ false)
  unfolding allowed
  allowed_gives e x h =
      let k = provided_gives (placed e.change memory) 15 _ h in
      let l = provided_gives (not (guarded p e.change)) 15 _ k.1 in
      let same : e ≡ x = gives_inj l.1 in
      (same, rw same at k.0, rw same at (not-true (guarded p e.change) l.0))

  pub returning_gives : (s : State) (j : List ℕ) (e : Effect) → returning p s memory j ≡ gives e → Returned p s memory (length j) e
  unfolding returning
  returning_gives s j e h =
      let k = checked_gives (held_in p s memory (length j)) _ h in
      let l = provided_gives (not (eqb s.used 0)) 14 _ k.1 in
      let t = then_gives (decoded (record_at j (s.used - 1))) (λ x. allowed x p memory) l.1 in
      let q = record_at j (s.used - 1) in
      let a = allowed_gives t.0 e t.2 in
      let read = decoded_gives q t.0 t.1 in
      let some = eqb-false s.used 0 (not-true (eqb s.used 0) l.0) in
      record {
        held = k.0;
        used = omega arith;
        registers = rw a.0 at read.change.registers;
        selector = rw (read.status, a.0) at (unpacked_selector q.head);
        there = a.1;
        free = a.2;
      }
