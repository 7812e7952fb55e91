-- The trail of condition 3 (document 01, 'Journal and back steps', last paragraph; document 02, Job 12). It is fed the start, the deck, the protect
-- list, the journal's length and the calls with their seats.
use Rattle.std.specs.Prelude.{Option, ℕ, zero, suc, ◌+◌, ◌-◌, ◌<◌, ◌≡◌, List, [], ◌∷◌, cond, length, eqb}
use Rattle.hexfloat.specs.Answer.{Answer}
use Rattle.protection.specs.Form.{ProtectList}
use Rattle.machine.specs.declared.state.State.{State}
use Rattle.machine.specs.declared.verdict.Effect.{Effect}
use Rattle.machine.specs.Back.{undone, backed}
use Rattle.machine.specs.Change.{memory_after}
use Rattle.machine.specs.Decide.{held_in, entry_in, decided}
use Rattle.machine.specs.Machine.{Machine, state_after}
use Rattle.machine.specs.Run.{admitted, ran}
use Rattle.machine.specs.Step.{Outcome, outcome, onward, stepped}

-- a step of a seat, a run of a seat with its limit, a back step
pub data Call : Type 0 where
  step : ℕ → Call
  run : ℕ → ℕ → Call
  back : Call

-- a whole state with memory
pub record Entry : Type 0 where
  pub state : State
  pub memory : List ℕ

abbrev pub entry : State → List ℕ → Entry
entry s m = record { state = s; memory = m }

-- an entry with a step after it, and the seat of that step
pub record Earlier : Type 0 where
  pub entry : Entry
  pub seat : ℕ

abbrev pub earlier : ℕ → Entry → Earlier
earlier k e = record { entry = e; seat = k }

-- the last entry, and those before it, the latest first; so the seat of each step that stands is kept, with the entry that it was taken from
pub record Trail : Type 0 where
  pub last : Entry
  pub earlier : List Earlier

abbrev pub trail : Entry → List Earlier → Trail
trail e es = record { last = e; earlier = es }

-- the outcome of a step of seat k that is taken is the next entry
abbrev pub entry_after : ℕ → Effect → Entry → Entry
entry_after k e x = entry (state_after k e (x.state.used + 1) x.state) (memory_after e.change x.memory)

abbrev pub extended : ℕ → Effect → Trail → Trail
extended k e t = trail (entry_after k e t.last) (earlier k t.last ∷ t.earlier)

-- condition 2 at the last entry
abbrev pub judged_last : List ℕ → ProtectList → ℕ → ℕ → Trail → Answer Effect
judged_last d p journal k t = decided d p k t.last.state t.last.memory journal

abbrev pub entered_last : List ℕ → ProtectList → ℕ → ℕ → Trail → ℕ
entered_last d p journal k t = entry_in k (length d) p t.last.state (length t.last.memory) journal

-- the first of 2 and 3 that the table gives at an entry, or 0
abbrev pub held_at : ProtectList → ℕ → Entry → ℕ
held_at p journal x = held_in p x.state (length x.memory) journal

-- the last entry is dropped, and the answer names the seat of its step; with the start alone nothing is, and the answer is the first of 2, 3, 14
abbrev pub dropped : ProtectList → ℕ → Entry → List Earlier → Outcome Trail
dropped p journal x [] = outcome (trail x []) 0 (cond (eqb (held_at p journal x) 0) 14 (held_at p journal x))
dropped p journal x (y ∷ ys) = undone (trail y.entry ys) y.seat

-- a step: if it is taken its outcome is the next entry, else no entry comes
unfoldable pub step_traced : List ℕ → ProtectList → ℕ → ℕ → Trail → Outcome Trail
step_traced d p journal k t = onward (judged_last d p journal k t) t (λ e. extended k e t) (λ u. outcome u 0 0)

abbrev pub counting : ℕ → Outcome Trail → Outcome Trail
counting n r = record { after = r.after; taken = n + r.taken; stop = r.stop; whose = r.whose }

-- after a step that was taken the rest follows, and its entries are added to the step's; a stop ends it
abbrev pub go_on : Outcome Trail → (Trail → Outcome Trail) → Outcome Trail
go_on r rest =
    cond (eqb r.stop 0) (counting r.taken (rest r.after)) r

-- a run repeats this until its limit, which is looked at first, or a stop
unfoldable pub run_traced : List ℕ → ProtectList → ℕ → ℕ → ℕ → Trail → Outcome Trail
run_traced d p journal k zero t = outcome t 0 0
run_traced d p journal k (suc n) t = go_on (step_traced d p journal k t) (run_traced d p journal k n)

-- checks 20 and 1 to 3 come first in a run, at a limit of 0 too
unfoldable pub traced : List ℕ → ProtectList → ℕ → Call → Trail → Outcome Trail
traced d p journal (step k) t = step_traced d p journal k t
traced d p journal (run k n) t = admitted (entered_last d p journal k t) t (run_traced d p journal k n t)
traced d p journal back t = dropped p journal t.last t.earlier

-- the same calls of the machine
unfoldable pub called : List ℕ → ProtectList → Call → Machine → Outcome Machine
called d p (step k) x = stepped d p k x
called d p (run k n) x = ran d p k n x
called d p back x = backed p x

-- the steps that a call reports, 0 or its stop, and whose step it took back
pub record Reply : Type 0 where
  pub taken : ℕ
  pub stop : ℕ
  pub whose : Option ℕ

abbrev pub reply_of : {W : Type 0} → Outcome W → Reply
reply_of r = record { taken = r.taken; stop = r.stop; whose = r.whose }

-- what stands after a list of calls, and the replies in order
unfoldable pub standing : {W : Type 0} → (Call → W → Outcome W) → List Call → W → W
standing f [] x = x
standing f (c ∷ cs) x = standing f cs (f c x).after

unfoldable pub replies : {W : Type 0} → (Call → W → Outcome W) → List Call → W → List Reply
replies f [] x = []
replies f (c ∷ cs) x = reply_of (f c x) ∷ replies f cs (f c x).after

-- what the answers of some calls say was taken: the steps answered as taken, and the counts that runs report
unfoldable pub steps_said : List Call → List Reply → ℕ
steps_said [] rs = 0
steps_said (c ∷ cs) [] = 0
steps_said (step k ∷ cs) (r ∷ rs) = cond (eqb r.stop 0) 1 0 + steps_said cs rs
steps_said (run k n ∷ cs) (r ∷ rs) = r.taken + steps_said cs rs
steps_said (back ∷ cs) (r ∷ rs) = steps_said cs rs

-- and what they say was taken back: the back steps not refused
unfoldable pub backs_said : List Call → List Reply → ℕ
backs_said [] rs = 0
backs_said (c ∷ cs) [] = 0
backs_said (step k ∷ cs) (r ∷ rs) = backs_said cs rs
backs_said (run k n ∷ cs) (r ∷ rs) = backs_said cs rs
backs_said (back ∷ cs) (r ∷ rs) = cond (eqb r.stop 0) 1 0 + backs_said cs rs

-- n of condition 3, from calls and answers alone
abbrev pub count_said : List Call → List Reply → ℕ
count_said cs rs = steps_said cs rs - backs_said cs rs

-- the one call that is left out: a back step with the start alone that passes checks 2 and 3 and finds records in use
pub record Behind (p : ProtectList) (journal : ℕ) (t : Trail) : Type 0 where
  pub alone : t.earlier ≡ []
  pub passes : held_at p journal t.last ≡ 0
  pub records : 0 < t.last.state.used

abbrev pub Covered : List ℕ → ProtectList → ℕ → Call → Trail → Type 0
Covered d p journal (step k) t = Unit {0}
Covered d p journal (run k n) t = Unit {0}
Covered d p journal back t = Behind p journal t → ⊥

-- no call of the list is left out
unfoldable pub AllCovered : List ℕ → ProtectList → ℕ → List Call → Trail → Type 0
AllCovered d p journal [] t = Unit {0}
AllCovered d p journal (c ∷ cs) t = Covered d p journal c t × AllCovered d p journal cs (traced d p journal c t).after
