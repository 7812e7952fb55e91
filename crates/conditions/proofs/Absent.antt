-- An address of S from 65,536 on is past the end of any memory, so the step stops by 6.
use Prim.Native.Nat.{ℕ, ◌+◌, ◌/◌, ◌<◌, ◌≤◌}
use mathlib.Core.Path.{◌≡◌, refl}
use mathlib.Core.List.{List}
use mathlib.Core.Bool.{Bool, true, false, not}
use lib.ListN.{length}
use native.Mathlib.Omega.{arith}
use borrow.Author.Tests.{not-true, ne_eqb, eq-eqb, lt-ltb, lt-leb}
use Rattle.hexfloat.specs.Answer.{gives}
use Rattle.orders.specs.declared.order.Operation.{Operation}
use Rattle.orders.specs.declared.order.Place.{Place}
use Rattle.orders.specs.declared.order.Verb.{Verb}
use Rattle.orders.specs.Order.{rows, legal_of, halfwords, is_halt}
use Rattle.orders.proofs.Passing.{legal-row}
use Rattle.orders.proofs.Table.{all_rows, row_passes}
use Rattle.protection.specs.Form.{ProtectList}
use Rattle.machine.specs.Check.{present}
use Rattle.machine.specs.Decide.{judged, pointer_of, decided}
use Rattle.machine.specs.Machine.{Machine}
use Rattle.machine.specs.Run.{entry_of}
use Rattle.machine.specs.Step.{outcome, next_order, next_address, stepped}
use Rattle.machine.proofs.Checks.{held, entered}
use Rattle.machine.proofs.Placed.{some}

-- HALT has no storage operand
unfoldable goes : Place → Verb → Bool
goes Place.Nowhere v = true
goes Place.FloatRegister v = true
goes Place.GeneralRegister v = true
goes Place.Storage v = not (is_halt v)

rows_go : all_rows (λ code op. goes op.place op.verb) rows 1 ≡ true
unfolding all_rows goes
rows_go = refl

halts : (q : Place) (v : Verb) → q ≡ Place.Storage → goes q v ≡ true → is_halt v ≡ false
unfolding goes
halts Place.Nowhere v e h = absurd (let z : ◌≡◌ {A = ℕ} 0 1 = cc in omega arith)
halts Place.FloatRegister v e h = absurd (let z : ◌≡◌ {A = ℕ} 0 1 = cc in omega arith)
halts Place.GeneralRegister v e h = absurd (let z : ◌≡◌ {A = ℕ} 0 1 = cc in omega arith)
halts Place.Storage v e h = not-true (is_halt v) h

pub absent_above :
    (d : List ℕ) (p : ProtectList) (k : ℕ) (x : Machine) (op : Operation) → entry_of d p k x ≡ 0 → pointer_of k x.state < length d / 4 → legal_of (next_order d k x) ≡ gives op →
    op.place ≡ Place.Storage → x.state.used < length x.journal / 4 → 65536 ≤ next_address d k x → stepped d p k x ≡ outcome x 0 6
unfolding stepped decided judged present
absent_above d p k x op entry pointer legal storage room above =
    let s = x.state in
    let o = next_order d k x in
    let a = next_address d k x in
    let n = length x.memory in
    let passes = (entered p s.seat0.status s.seat1.status s.used n (length x.journal) k (length d) entry).passes in
    let size = (held p s.seat0.status s.seat1.status s.used n (length x.journal) passes).memory_size in
    let wide = some op.width in
    let go = row_passes (λ code op. goes op.place op.verb) rows_go o.code op (legal-row o op legal).0 in
    rw (
      eq-eqb (entry_of d p k x) 0 entry,
      lt-ltb (pointer_of k s) (length d / 4) pointer,
      legal,
      halts op.place op.verb storage go,
      lt-ltb x.state.used (length x.journal / 4) room,
      storage,
      ne_eqb (halfwords op.width) 0 (λ z. omega arith),
      lt-leb (a + halfwords op.width) n (omega arith),
    )
