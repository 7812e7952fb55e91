-- A packed protect list and the list that it stands for, through the reader.
use Prim.Native.Nat.{ℕ, ◌+◌, ◌/◌, ◌<◌}
use mathlib.Core.Path.{◌≡◌, refl, sym, ap, ◌∙◌}
use mathlib.Core.Bool.{Bool, true, false, cond}
use mathlib.Core.List.{List, [], ◌∷◌}
use native.Mathlib.Omega.{arith}
use lib.Dec.{leb, ltb}
use lib.ListN.{length, length-set}
use borrow.Author.Tests.{ltb-true, lt-ltb}
use Rattle.hexfloat.specs.Answer.{Answer, gives, stops, provided}
use Rattle.protection.specs.Form.{ProtectList, holds, with_mark}
use Rattle.protection.specs.Bits.{bit_form}
use Rattle.protection.specs.Bytes.{bytewise, unpacked}
use Rattle.hexfloat.proofs.Answers.{provided-same, then_same}
use Rattle.protection.proofs.Unpacked.{unpacked_length}
use Rattle.decktext.specs.Text.{Line, ended, unended, lines_of}
use Rattle.decktext.specs.Format.{Halfword, halfword_of}
use Rattle.decktext.specs.Read.{Buffers, refused, outcome, Wanted, heading, order, storage, halfword, Progress, start, Given, headed, ordered, parted, stored, halfword_fits, line_as, line_read, buffered_with, progressed, Read, whole, faulty, end_read, read_on, lines_read_by, lines_read, concluded_with, read_text}
use Rattle.decktext.specs.Theorems.{packed_with, stands_for}
use Rattle.decktext.proofs.Forms.{Fits, sound_fits}
use Rattle.decktext.proofs.Marks.{marked_unpacked}
use Rattle.decktext.proofs.Passing.{line_sound}

-- a packed list of the length that memory wants
record Packed (memory : List ℕ) (x : ProtectList) : Type 0 where
  form : x.form ≡ bit_form
  cover : length x.bytes ≡ bit_form.cover_of (length memory)

-- the same with the list that the packed one stands for
abbrev as_bytes : Progress → Progress
as_bytes p = record { wanted = p.wanted; count = p.count; least = p.least; held = stands_for p.held }

abbrev read_as_bytes : Read → Read
read_as_bytes (whole p) = whole (as_bytes p)
read_as_bytes (faulty n k) = faulty n k

-- ---- one line

-- each of the two lists has the byte of every address of memory
module _ {memory : List ℕ} {x : ProtectList} (packed : Packed memory x) (a : ℕ) (inside : a < length memory) where
  bits_hold : holds x a ≡ true
  unfolding holds
  bits_hold = rw packed.form (lt-ltb (a / 8) (length x.bytes) (omega (arith, packed.cover)))

  bytes_hold : holds (bytewise (unpacked (length memory) x.bytes)) a ≡ true
  unfolding holds
  bytes_hold = lt-ltb a (length (unpacked (length memory) x.bytes)) (omega (arith, unpacked_length x.bytes (length memory)))

module _ (p : Progress) (packed : Packed p.held.memory p.held.protect) where
  fits_alike : (h : Halfword) → halfword_fits (as_bytes p) h ≡ halfword_fits p h
  fits_alike h =
      ap (provided (leb p.least h.at) 16)
      (provided-same (ltb h.at (length p.held.memory)) 17 _ _ (λ t.
      let l = ltb-true h.at (length p.held.memory) t in
      ap (λ (ok : Bool). provided ok 17 (gives (stored h))) (bytes_hold packed h.at l ∙ sym (bits_hold packed h.at l))))

  -- a line gives the same, or has the same fault
  line_alike : (w : Wanted) (line : List ℕ) → line_as w (as_bytes p) line ≡ line_as w p line
  line_alike heading line = refl
  line_alike order line = refl
  line_alike storage line = refl
  line_alike halfword line = then_same (halfword_of line) (halfword_fits (as_bytes p)) (halfword_fits p) (λ h e. fits_alike h)

  -- what it gives is written alike
  progressed_alike : (g : Given) → Fits p g → progressed g (as_bytes p) ≡ as_bytes (progressed g p)
  unfolding progressed buffered_with
  progressed_alike headed f = refl
  progressed_alike (ordered o) f = refl
  progressed_alike parted f = refl
  progressed_alike (stored h) f =
      rw (length-set p.held.memory h.at h.word, marked_unpacked p.held.protect packed.form h.at h.protect f.0.1 (length p.held.memory) packed.cover f.0.0)

  -- the list stays packed, and memory keeps its length
  packed_on : (g : Given) → Packed (progressed g p).held.memory (progressed g p).held.protect
  unfolding progressed buffered_with with_mark
  packed_on headed = packed
  packed_on (ordered o) = packed
  packed_on parted = packed
  packed_on (stored h) = record { form = packed.form; cover = simp length-set packed.cover }

-- ---- all lines

end_alike : (w : Wanted) (p : Progress) (k : ℕ) → end_read w (as_bytes p) k ≡ read_as_bytes (end_read w p k)
end_alike heading p k = refl
end_alike order p k = refl
end_alike storage p k = refl
end_alike halfword p k = refl

on_alike : (a : Answer Given) (p : Progress) (k : ℕ) (rest : Progress → Read) → ((g : Given) → a ≡ gives g → rest (progressed g (as_bytes p)) ≡ read_as_bytes (rest (progressed g p)))
    → read_on a (as_bytes p) k rest ≡ read_as_bytes (read_on a p k rest)
on_alike (gives g) p k rest h = h g refl
on_alike (stops n) p k rest h = refl

lines_alike : (ls : List Line) (p : Progress) (k : ℕ) → Packed p.held.memory p.held.protect → lines_read ls (as_bytes p) k ≡ read_as_bytes (lines_read ls p k)
unfolding lines_read_by line_read
lines_alike [] p k packed = end_alike p.wanted p k
lines_alike (unended l ∷ ls) p k packed = refl
lines_alike (ended l ∷ ls) p k packed =
    rw (line_alike p packed p.wanted l)
    (on_alike (line_read p l) p k (λ q. lines_read ls q (k + 1)) (λ g e.
    rw (progressed_alike p packed g (sound_fits (line_sound p l g e)))
    (lines_alike ls (progressed g p) (k + 1) (packed_on p packed g))))

concluded_alike : (b : Buffers) (limit : Bool) (x : Read)
    → cond limit (outcome (stands_for b) (refused 17 0)) (concluded_with (stands_for b) (read_as_bytes x))
    ≡ outcome (stands_for (cond limit (outcome b (refused 17 0)) (concluded_with b x)).after) (cond limit (outcome b (refused 17 0)) (concluded_with b x)).said
concluded_alike b true x = refl
concluded_alike b false (whole p) = refl
concluded_alike b false (faulty n k) = refl

pub as_before : (t c m p : List ℕ) → length p ≡ bit_form.cover_of (length m)
    → read_text t (stands_for (packed_with c m p)) ≡ outcome (stands_for (read_text t (packed_with c m p)).after) (read_text t (packed_with c m p)).said
unfolding read_text
as_before t c m p cover =
    let b = packed_with c m p in
    rw (lines_alike (lines_of t) (start b) 1 (record { form = refl; cover = cover })) (concluded_alike b (ltb 32768 (length t)) (lines_read (lines_of t) (start b) 1))
