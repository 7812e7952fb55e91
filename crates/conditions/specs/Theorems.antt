-- What is proved of the calls, in the words of conditions 1 and 3 (document 01, 'Journal and back steps'), for every deck d, protect list p in any form,
-- machine x and list of calls. The proofs are in proofs/Theorems.antt.
use Rattle.std.specs.Prelude.{Some, None, ℕ, ◌+◌, ◌*◌, ◌/◌, ◌<◌, ◌≤◌, ◌≡◌, true, length, get_or, take, drop, replicate}
use mathlib.Core.List.{List, [], ◌∷◌, ◌++◌, Memᴰ}
use Rattle.hexfloat.specs.Answer.{gives}
use Rattle.hexfloat.specs.Convert.{fixed_coded}
use Rattle.hexfloat.specs.RoundTrip.{homed}
use Rattle.orders.specs.declared.order.Operation.{Operation}
use Rattle.orders.specs.declared.order.Order.{Order}
use Rattle.orders.specs.declared.order.Place.{Place}
use Rattle.orders.specs.General.{general_at}
use Rattle.orders.specs.Order.{order_at, legal_of}
use Rattle.protection.specs.Form.{ProtectList, is_protected}
use Rattle.protection.specs.Bits.{bit_form, bitwise}
use Rattle.protection.specs.Bytes.{byte_form, bytewise, unpacked}
use Rattle.protection.specs.Theorems.{Alike}
use Rattle.machine.specs.declared.state.Registers.{Registers}
use Rattle.machine.specs.declared.verdict.Effect.{Effect}
use Rattle.machine.specs.Back.{undone, backed}
use Rattle.machine.specs.Decide.{pointer_of}
use Rattle.machine.specs.declared.journal.Record.{Record}
use Rattle.machine.specs.Journal.{record_at, encoded, decoded, seat_in, Recordable}
use Rattle.machine.specs.Machine.{Machine, machine, before_of, committed}
use Rattle.machine.specs.Run.{entry_of, ran}
use Rattle.machine.specs.Seats.{registers_of, other_of}
use Rattle.machine.specs.Step.{Outcome, outcome, next_order, next_address, verdict_of, stepped}
use Rattle.machine.specs.Unindexed.{NoIndexIn}
use Rattle.machine.specs.Uses.{Register, contents, read_by, written_by}
use Rattle.conditions.specs.Trail.{Call, step, back, Entry, entry, Earlier, Trail, trail, Reply, traced, called, standing, replies, steps_said, backs_said, count_said, Behind, AllCovered}
use Rattle.conditions.specs.Apart.{Touches, StoresTo, Apart, taken_by}
use Rattle.conditions.specs.Unindexed.{unindexed_called}

-- what memory's type says: a halfword has 16 bits
pub record Typed (memory : List ℕ) : Type 0 where
  pub halfword : (i : ℕ) → get_or memory i 0 < 65536

-- the machine's state with its memory
abbrev pub whole_of : Machine → Entry
whole_of x = entry x.state x.memory

-- the trail with the start alone
abbrev pub start_of : Machine → Trail
start_of x = trail (whole_of x) []

-- what stands after the calls: the machine, and the trail, which is fed the journal's length and no word of it
abbrev pub machine_after : List ℕ → ProtectList → List Call → Machine → Machine
machine_after d p cs x = standing (called d p) cs x

abbrev pub trail_after : List ℕ → ProtectList → List Call → Machine → Trail
trail_after d p cs x = standing (traced d p (length x.journal)) cs (start_of x)

-- the steps that stand, the latest first: each with the entry that it was taken from
abbrev pub standing_after : List ℕ → ProtectList → List Call → Machine → List Earlier
standing_after d p cs x = (trail_after d p cs x).earlier

-- the entries less one
abbrev pub steps_after : List ℕ → ProtectList → List Call → Machine → ℕ
steps_after d p cs x = length (standing_after d p cs x)

-- what stands after n times the same call
abbrev pub times : List ℕ → ProtectList → ℕ → Call → Machine → Machine
times d p n c x = machine_after d p (replicate n c) x

-- steps of these seats, in their order
unfoldable pub steps : List ℕ → List Call
steps [] = []
steps (k ∷ ks) = step k ∷ steps ks

-- the seats of the steps that stand, the first one first
unfoldable pub seats : List Earlier → List ℕ
seats [] = []
seats (e ∷ es) = seats es ++ e.seat ∷ []

abbrev pub answer : ℕ → ℕ → Reply
answer taken stop = record { taken = taken; stop = stop; whose = None }

-- the answers of back steps that take these back, the latest first: whose each of them was
unfoldable pub undoings : List Earlier → List Reply
undoings [] = []
undoings (e ∷ es) = record { taken = 0; stop = 0; whose = Some e.seat } ∷ undoings es

abbrev pub seats_after : List ℕ → ProtectList → List Call → Machine → List ℕ
seats_after d p cs x = seats (standing_after d p cs x)

-- no call of the list is the one that is left out
abbrev pub Included : List ℕ → ProtectList → Machine → List Call → Type 0
Included d p x cs = AllCovered d p (length x.journal) cs (start_of x)

-- Condition 3, a single claim about the list: each answer is the trail's; state and memory are the last entry; n, the steps answered as taken and
-- the counts that runs report less the back steps not refused, is the entries less one; the entries are those of n steps from the start, by the seats
-- that the trail keeps, each of them taken; the used count has gone up by n.
pub record AsTrail (d : List ℕ) (p : ProtectList) (x : Machine) (cs : List Call) : Type 0 where
  pub answers : replies (called d p) cs x ≡ replies (traced d p (length x.journal)) cs (start_of x)
  pub last : whole_of (machine_after d p cs x) ≡ (trail_after d p cs x).last
  pub enough : backs_said cs (replies (called d p) cs x) ≤ steps_said cs (replies (called d p) cs x)
  pub count : count_said cs (replies (called d p) cs x) ≡ steps_after d p cs x
  pub again : trail_after d p cs x ≡ trail_after d p (steps (seats_after d p cs x)) x
  pub taken : replies (called d p) (steps (seats_after d p cs x)) x ≡ replicate (steps_after d p cs x) (answer 1 0)
  pub used : (machine_after d p cs x).state.used ≡ x.state.used + steps_after d p cs x

-- k back steps name the seats of the last k steps and find the state and memory after the first n - k steps, and k steps forward again, given the seats of
-- those taken back, in their order, find what stood after all n; none is refused.
pub record BackAndForth (d : List ℕ) (p : ProtectList) (x : Machine) (cs : List Call) (k : ℕ) : Type 0 where
  pub backs : replies (called d p) (replicate k back) (machine_after d p cs x) ≡ undoings (take k (standing_after d p cs x))
  pub found : whole_of (times d p k back (machine_after d p cs x)) ≡ whole_of (machine_after d p (steps (seats (drop k (standing_after d p cs x)))) x)
  pub forward :
      replies (called d p) (steps (seats (take k (standing_after d p cs x)))) (times d p k back (machine_after d p cs x)) ≡ replicate k (answer 1 0)
  pub again :
      whole_of (machine_after d p (steps (seats (take k (standing_after d p cs x)))) (times d p k back (machine_after d p cs x))) ≡ whole_of (machine_after d p cs x)

-- A back step is refused exactly when n is 0 before it.
pub record RefusedAtStart (d : List ℕ) (p : ProtectList) (x : Machine) (cs : List Call) : Type 0 where
  pub refused : steps_after d p cs x ≡ 0 → (called d p back (machine_after d p cs x)).stop ≡ 0 → ⊥
  pub taken : 0 < steps_after d p cs x → (called d p back (machine_after d p cs x)).stop ≡ 0

-- A run keeps exactly the steps that it reports, each of them taken and no more than its limit; without a stop they are its limit, and where it
-- stops, it stops as the next step would.
pub record KeepsSteps (d : List ℕ) (p : ProtectList) (k : ℕ) (x : Machine) (limit : ℕ) (r : Outcome Machine) : Type 0 where
  pub kept : r.after ≡ times d p r.taken (step k) x
  pub taken : replies (called d p) (replicate r.taken (step k)) x ≡ replicate r.taken (answer 1 0)
  pub within : r.taken ≤ limit
  pub whole : r.stop ≡ 0 → r.taken ≡ limit
  pub stopped : (r.stop ≡ 0 → ⊥) → stepped d p k r.after ≡ outcome r.after 0 r.stop

-- Condition 1: a refused call leaves state, memory and journal as they were; a run, as the steps that it reports left them.
pub record LeavesAll (d : List ℕ) (p : ProtectList) (x : Machine) : Type 0 where
  pub step : (k : ℕ) → ((stepped d p k x).stop ≡ 0 → ⊥) → (stepped d p k x).after ≡ x
  pub back : ((backed p x).stop ≡ 0 → ⊥) → (backed p x).after ≡ x
  pub run : (k limit : ℕ) → KeepsSteps d p k x limit (ran d p k limit x)

-- the numbers that a back step answers
pub data BackNumber : ℕ → Type 0 where
  taken : BackNumber 0
  buffers : BackNumber 2
  state : BackNumber 3
  nothing : BackNumber 14
  broken : BackNumber 15

-- Condition 1: every call answers 0 or one of the numbers of document 01: a step and a run 1 to 13 where they are given seat 0 or 1, and 20 otherwise,
-- whatever else may be wrong and at every limit; a back step 2, 3, 14 or 15.
pub record OneOfTheNumbers (d : List ℕ) (p : ProtectList) (x : Machine) : Type 0 where
  pub step : (k : ℕ) → k ≤ 1 → (stepped d p k x).stop ≤ 13
  pub run : (k limit : ℕ) → k ≤ 1 → (ran d p k limit x).stop ≤ 13
  pub no_seat : (k : ℕ) → 1 < k → stepped d p k x ≡ outcome x 0 20
  pub no_seat_run : (k limit : ℕ) → 1 < k → ran d p k limit x ≡ outcome x 0 20
  pub back : BackNumber (backed p x).stop

-- A record is read exactly if it is of the form: it is the record of what it gives and of its seat, 0 or 1, with condition code 0, 1 or 3, mask and
-- selector 0 or 1, a 16-bit pointer and registers below 8.
pub record ReadByForm (q : Record) (e : Effect) : Type 0 where
  pub formed : decoded q ≡ gives e → (q ≡ encoded (seat_in q) e) × (seat_in q ≤ 1) × Recordable e
  pub read : (k : ℕ) → k ≤ 1 → q ≡ encoded k e → Recordable e → (decoded q ≡ gives e) × (seat_in q ≡ k)

-- 0 is the answer of a call that was taken and of no other: a step then counts as one and the used count goes up by one, or down by one at a
-- back step.
pub record ZeroIsTaken (d : List ℕ) (p : ProtectList) (x : Machine) : Type 0 where
  pub counts : (k : ℕ) → (stepped d p k x).stop ≡ 0 → (stepped d p k x).taken ≡ 1
  pub step : (k : ℕ) → (stepped d p k x).stop ≡ 0 → (stepped d p k x).after.state.used ≡ x.state.used + 1
  pub back : (backed p x).stop ≡ 0 → (backed p x).after.state.used + 1 ≡ x.state.used

-- A taken step of seat k writes one record, at the used count, which goes up by one, and no other journal word; a back step after it puts everything
-- back, lowers the used count and says that the step was seat k's, and journal words stay.
pub record OneRecord (p : ProtectList) (k : ℕ) (x : Machine) (e : Effect) : Type 0 where
  pub used : (committed k e x).state.used ≡ x.state.used + 1
  pub words : length (committed k e x).journal ≡ length x.journal
  pub saved : record_at (committed k e x).journal x.state.used ≡ encoded k (before_of (registers_of k x.state) x.memory e)
  pub below : (i : ℕ) → i < x.state.used * 4 → get_or (committed k e x).journal i 0 ≡ get_or x.journal i 0
  pub above : (i : ℕ) → x.state.used * 4 + 4 ≤ i → get_or (committed k e x).journal i 0 ≡ get_or x.journal i 0
  pub back : backed p (committed k e x) ≡ undone (machine x.state x.memory (committed k e x).journal) k

-- Journal l is journal j, but for the words from n on: these are free, and there are as many of them as before.
pub record KeptBelow (n : ℕ) (j l : List ℕ) : Type 0 where
  pub words : length l ≡ length j
  pub below : (i : ℕ) → i < n → get_or l i 0 ≡ get_or j i 0

-- Two machines do the same from x on: every call has the same answer and leaves the same state, memory and journal, and so has every list of calls.
pub record SameCalls (f g : Call → Machine → Outcome Machine) (x : Machine) : Type 0 where
  pub call : (c : Call) → f c x ≡ g c x
  pub answers : (cs : List Call) → replies f cs x ≡ replies g cs x
  pub after : (cs : List Call) → standing f cs x ≡ standing g cs x

-- over two protect lists
abbrev pub SameOver : List ℕ → ProtectList → ProtectList → Machine → Type 0
SameOver d p q x = SameCalls (called d p) (called d q) x

-- Packed protect lists (document 02, Job 6): a list of the length that memory wants gives what the form before gave over the list that it stands for; one of
-- another length is refused as one of another length was; and the bits past the end of memory change nothing.
pub record AsBefore (d p : List ℕ) (x : Machine) : Type 0 where
  pub packed : length p ≡ bit_form.cover_of (length x.memory) → SameOver d (bitwise p) (bytewise (unpacked (length x.memory) p)) x
  pub other_length :
      (q : List ℕ) → (length p ≡ bit_form.cover_of (length x.memory) → ⊥) → (length q ≡ byte_form.cover_of (length x.memory) → ⊥) →
      SameOver d (bitwise p) (bytewise q) x
  pub past_the_end :
      (q : List ℕ) → length p ≡ length q → ((a : ℕ) → a < length x.memory → is_protected (bitwise p) a ≡ is_protected (bitwise q) a) →
      SameOver d (bitwise p) (bitwise q) x

-- Two sets of general registers (document 02, Job 8), where a step of seat k leaves it the registers g: every register of a set that was not selected is as
-- it was, and so is the selector unless the order was SET, code 35.
pub record OneSetAfter (d : List ℕ) (k : ℕ) (x : Machine) (g : Registers) : Type 0 where
  pub other :
      (s r : ℕ) → (s ≡ (registers_of k x.state).status.selector → ⊥) → general_at g.general s r ≡ general_at (registers_of k x.state).general s r
  pub selector : ((next_order d k x).code ≡ 35 → ⊥) → g.status.selector ≡ (registers_of k x.state).status.selector

abbrev pub OneSet : List ℕ → ProtectList → ℕ → Machine → Type 0
OneSet d p k x = OneSetAfter d k x (registers_of k (stepped d p k x).after.state)

-- what the registers' types say: there are eight float registers, and two sets of eight general ones
pub record TypedRegisters (g : Registers) : Type 0 where
  pub float : length g.float ≡ 8
  pub general : length g.general ≡ 16

-- general register r of seat k's selected set
abbrev pub general_of : ℕ → Machine → ℕ → ℕ
general_of k x r = general_at (registers_of k x.state).general (registers_of k x.state).status.selector r

-- the orders CVFX r1 r2 and CVFL r1 r2
abbrev pub cvfx : ℕ → ℕ → Order
cvfx r1 r2 = record { code = 9; r1 = r1; r2 = r2; at = 0 }

abbrev pub cvfl : ℕ → ℕ → Order
cvfl r1 r2 = record { code = 10; r1 = r1; r2 = r2; at = 0 }

abbrev pub Not6To11 : ℕ → Type 0
Not6To11 n = 6 ≤ n → n ≤ 11 → ⊥

-- A word to float and back (document 02, Job 9), where y stands after the first of two steps of seat k from x, and z after both: neither is stopped by 6 to
-- 11; where both are taken, general register g of the selected set holds `homed` of what r2 of it held before, with the condition code of its upper halfword.
pub record RoundTripBy (d : List ℕ) (p : ProtectList) (k : ℕ) (x y z : Machine) (r2 g : ℕ) : Type 0 where
  pub first : Not6To11 (stepped d p k x).stop
  pub second : Not6To11 (stepped d p k y).stop
  pub returns : (stepped d p k x).stop ≡ 0 → (stepped d p k y).stop ≡ 0 → general_of k z g ≡ homed (general_of k x r2)
  pub condition :
      (stepped d p k x).stop ≡ 0 → (stepped d p k y).stop ≡ 0 → (registers_of k z.state).status.condition ≡ (fixed_coded (homed (general_of k x r2))).condition

abbrev pub RoundTrip : List ℕ → ProtectList → ℕ → Machine → ℕ → ℕ → Type 0
RoundTrip d p k x r2 g = RoundTripBy d p k x (times d p 1 (step k) x) (times d p 2 (step k) x) r2 g

-- The registers that seat k's next order reads, and those that it writes (document 02, Job 11; machine, Uses); an order that is not legal has none.
pub record NextReads (d : List ℕ) (k : ℕ) (x : Machine) (r : Register) : Type 0 where
  pub operation : Operation
  pub legal : legal_of (next_order d k x) ≡ gives operation
  pub reads : Memᴰ r (read_by operation (next_order d k x) (registers_of k x.state).status.selector)

pub record NextWrites (d : List ℕ) (k : ℕ) (x : Machine) (r : Register) : Type 0 where
  pub operation : Operation
  pub legal : legal_of (next_order d k x) ≡ gives operation
  pub writes : Memᴰ r (written_by operation (next_order d k x) (registers_of k x.state).status.selector)

-- Two machines that differ in nothing but registers that seat k's next order does not read, all registers of the other seat and words of the journal.
pub record AlikeRead (d : List ℕ) (k : ℕ) (x y : Machine) : Type 0 where
  pub typed : TypedRegisters (registers_of k x.state)
  pub typed_too : TypedRegisters (registers_of k y.state)
  pub status : (registers_of k x.state).status ≡ (registers_of k y.state).status
  pub beside : (other_of k x.state).status ≡ (other_of k y.state).status
  pub used : x.state.used ≡ y.state.used
  pub memory : x.memory ≡ y.memory
  pub room : length x.journal ≡ length y.journal
  pub read : (r : Register) → NextReads d k x r → contents (registers_of k x.state) r ≡ contents (registers_of k y.state) r

-- A step of seat k of both comes out alike: taken or stopped by the same number, the same status, used count and memory after it, and, where it was taken, the same
-- contents of every register that the order writes. (What the record saves of a register from before the step is that register's.)
pub record AlikeAfter (d : List ℕ) (k : ℕ) (x : Machine) (a b : Outcome Machine) : Type 0 where
  pub taken : a.taken ≡ b.taken
  pub stop : a.stop ≡ b.stop
  pub status : (registers_of k a.after.state).status ≡ (registers_of k b.after.state).status
  pub beside : (other_of k a.after.state).status ≡ (other_of k b.after.state).status
  pub used : a.after.state.used ≡ b.after.state.used
  pub memory : a.after.memory ≡ b.after.memory
  pub written :
      a.stop ≡ 0 → (r : Register) → NextWrites d k x r → contents (registers_of k a.after.state) r ≡ contents (registers_of k b.after.state) r

-- Two seats (document 02, Job 12), where a call of seat k leaves y: the other seat j, 0 or 1, has its registers, both sets, selector, condition code,
-- pointer and mask as they were.
abbrev pub OtherSeat : ℕ → Machine → Machine → Type 0
OtherSeat k x y = (j : ℕ) → j ≤ 1 → (j ≡ k → ⊥) → registers_of j y.state ≡ registers_of j x.state

-- of a step, of a run, and of a back step that takes back a step of seat k
pub record LeavesOther (d : List ℕ) (p : ProtectList) (k : ℕ) (x : Machine) : Type 0 where
  pub step : OtherSeat k x (stepped d p k x).after
  pub run : (limit : ℕ) → OtherSeat k x (ran d p k limit x).after
  pub back : (backed p x).whose ≡ Some k → OtherSeat k x (backed p x).after

-- Two machines that differ in nothing but halfwords that seat k's next order does not touch, registers of the other seat and words of the journal.
pub record AlikeTouched (d : List ℕ) (k : ℕ) (x y : Machine) : Type 0 where
  pub registers : registers_of k x.state ≡ registers_of k y.state
  pub beside : (other_of k x.state).status ≡ (other_of k y.state).status
  pub used : x.state.used ≡ y.state.used
  pub size : length x.memory ≡ length y.memory
  pub room : length x.journal ≡ length y.journal
  pub touched : (a : ℕ) → Touches d k x.state a → get_or x.memory a 0 ≡ get_or y.memory a 0

-- A step of seat k of both comes out alike: taken or stopped by the same number, the same registers of the seat after it, and the same contents of every
-- halfword that was the same before it, those that it stores to among them.
pub record AlikeBoth (k : ℕ) (x y : Machine) (a b : Outcome Machine) : Type 0 where
  pub taken : a.taken ≡ b.taken
  pub stop : a.stop ≡ b.stop
  pub registers : registers_of k a.after.state ≡ registers_of k b.after.state
  pub memory : (i : ℕ) → get_or x.memory i 0 ≡ get_or y.memory i 0 → get_or a.after.memory i 0 ≡ get_or b.after.memory i 0

-- A start for n steps of seat k alone: the seat's registers and memory are those of x; where a step is to be taken, checks 1 to 3 pass and the journal has
-- room for all of them.
pub record StartsAs (d : List ℕ) (p : ProtectList) (k : ℕ) (x y : Machine) (n : ℕ) : Type 0 where
  pub registers : registers_of k y.state ≡ registers_of k x.state
  pub memory : y.memory ≡ x.memory
  pub checks : 0 < n → entry_of d p k y ≡ 0
  pub room : 0 < n → y.state.used + n ≤ length y.journal / 4

-- n steps of seat k alone from y are taken, and leave it the registers, both sets, selector, condition code, pointer and mask that it has in z.
pub record AsAlone (d : List ℕ) (p : ProtectList) (k : ℕ) (z y : Machine) (n : ℕ) : Type 0 where
  pub taken : replies (called d p) (replicate n (step k)) y ≡ replicate n (answer 1 0)
  pub registers : registers_of k z.state ≡ registers_of k (times d p n (step k) y).state

-- how many steps of seat k stand
abbrev pub steps_by : List ℕ → ProtectList → List Call → Machine → ℕ → ℕ
steps_by d p cs x k = taken_by k (standing_after d p cs x)

pub record Theorems : Type 0 where
  pub as_trail : (d : List ℕ) (p : ProtectList) (x : Machine) (cs : List Call) → Typed x.memory → Included d p x cs → AsTrail d p x cs
  -- the start alone decides: unless a back step there is the call that is left out, every list is included
  pub included : (d : List ℕ) (p : ProtectList) (x : Machine) (cs : List Call) → Typed x.memory → (Behind p (length x.journal) (start_of x) → ⊥) → Included d p x cs
  pub back_and_forth :
      (d : List ℕ) (p : ProtectList) (x : Machine) (cs : List Call) (k : ℕ) → Typed x.memory → Included d p x cs → k ≤ steps_after d p cs x → BackAndForth d p x cs k
  pub refused_at_start :
      (d : List ℕ) (p : ProtectList) (x : Machine) (cs : List Call) → Typed x.memory → Included d p x (cs ++ back ∷ []) → RefusedAtStart d p x cs
  -- every halfword whose bit is set in the packed list is as at the start throughout
  pub protected :
      (d p : List ℕ) (x : Machine) (cs : List Call) (a : ℕ) → is_protected (bitwise p) a ≡ true → get_or (machine_after d (bitwise p) cs x).memory a 0 ≡ get_or x.memory a 0
  pub leaves_all : (d : List ℕ) (p : ProtectList) (x : Machine) → LeavesAll d p x
  pub one_of_the_numbers : (d : List ℕ) (p : ProtectList) (x : Machine) → OneOfTheNumbers d p x
  pub read_by_form : (q : Record) (e : Effect) → ReadByForm q e
  pub zero_is_taken : (d : List ℕ) (p : ProtectList) (x : Machine) → ZeroIsTaken d p x
  -- a run writes no journal word below those of its first record, and a back step none at all
  pub run_journal :
      (d : List ℕ) (p : ProtectList) (k limit : ℕ) (x : Machine) → KeptBelow (x.state.used * 4) x.journal (ran d p k limit x).after.journal
  pub back_journal : (p : ProtectList) (x : Machine) → (backed p x).after.journal ≡ x.journal
  pub one_record : (d : List ℕ) (p : ProtectList) (k : ℕ) (x : Machine) (e : Effect) → Typed x.memory → verdict_of d p k x ≡ gives e → OneRecord p k x e
  -- the protect list enters by what it says of memory's halfwords and by nothing else
  pub same_over : (d : List ℕ) (p q : ProtectList) (x : Machine) → Alike (length x.memory) p q → SameOver d p q x
  pub as_before : (d p : List ℕ) (x : Machine) → AsBefore d p x
  -- Indexed storage orders (document 02, Job 7). A sum of 65,536 or more is absent memory and gives 6, where no check before that one stops the step.
  pub absent_above :
      (d : List ℕ) (p : ProtectList) (k : ℕ) (x : Machine) (op : Operation) → entry_of d p k x ≡ 0 → pointer_of k x.state < length d / 4 → legal_of (next_order d k x) ≡ gives op →
      op.place ≡ Place.Storage → x.state.used < length x.journal / 4 → 65536 ≤ next_address d k x → stepped d p k x ≡ outcome x 0 6
  -- Over a deck in which r2 is 0 in every order with a storage operand all is as it was before
  pub unindexed : (d : List ℕ) (p : ProtectList) (x : Machine) → NoIndexIn d → SameCalls (called d p) (unindexed_called d p) x
  pub one_set : (d : List ℕ) (p : ProtectList) (k : ℕ) (x : Machine) → OneSet d p k x
  -- CVFL at the pointer, and at the next order CVFX of the float register that it writes; a first step that is not taken is tried again
  pub round_trip :
      (d : List ℕ) (p : ProtectList) (k : ℕ) (x : Machine) (r1 r2 g : ℕ) → TypedRegisters (registers_of k x.state) → next_order d k x ≡ cvfl r1 r2 →
      order_at d (pointer_of k x.state + 1) ≡ cvfx g r1 → RoundTrip d p k x r2 g
  -- 'Any other step moves the pointer on by one' (document 01, 'Orders'): any but JC and JN, codes 20 and 21
  pub moves_on :
      (d : List ℕ) (p : ProtectList) (k : ℕ) (x : Machine) → ((next_order d k x).code ≡ 20 → ⊥) → ((next_order d k x).code ≡ 21 → ⊥) → (stepped d p k x).stop ≡ 0 →
      pointer_of k (stepped d p k x).after.state ≡ pointer_of k x.state + 1
  -- The table of what orders read and write (document 02, Job 11): a step changes no register that its order is not said to write,
  pub unwritten_kept :
      (d : List ℕ) (p : ProtectList) (k : ℕ) (x : Machine) (r : Register) → (NextWrites d k x r → ⊥) →
      contents (registers_of k (stepped d p k x).after.state) r ≡ contents (registers_of k x.state) r
  -- and its outcome depends on no register that its order is not said to read
  pub unread_free : (d : List ℕ) (p : ProtectList) (k : ℕ) (x y : Machine) → AlikeRead d k x y → AlikeAfter d k x (stepped d p k x) (stepped d p k y)
  -- Two seats (document 02, Job 12): one seat's steps change nothing of the other,
  pub leaves_other : (d : List ℕ) (p : ProtectList) (k : ℕ) (x : Machine) → LeavesOther d p k x
  -- a step stores to no halfword that its order is not said to store to,
  pub unstored_kept :
      (d : List ℕ) (p : ProtectList) (k : ℕ) (x : Machine) (a : ℕ) → (StoresTo d k x.state a → ⊥) →
      get_or (stepped d p k x).after.memory a 0 ≡ get_or x.memory a 0
  -- its outcome depends on no halfword that its order is not said to touch,
  pub untouched_free : (d : List ℕ) (p : ProtectList) (k : ℕ) (x y : Machine) → AlikeTouched d k x y → AlikeBoth k x y (stepped d p k x) (stepped d p k y)
  -- and a seat whose steps left standing touched only memory that the other's never stored to stands where as many of its steps alone would have left it;
  pub apart :
      (d : List ℕ) (p : ProtectList) (x : Machine) (cs : List Call) (k : ℕ) → Typed x.memory → Included d p x cs → k ≤ 1 → Apart d k (standing_after d p cs x) →
      (y : Machine) → StartsAs d p k x y (steps_by d p cs x k) → AsAlone d p k (machine_after d p cs x) y (steps_by d p cs x k)
  -- the start itself is such a start for them
  pub starts_as :
      (d : List ℕ) (p : ProtectList) (x : Machine) (cs : List Call) (k : ℕ) → Typed x.memory → Included d p x cs → k ≤ 1 → StartsAs d p k x x (steps_by d p cs x k)
