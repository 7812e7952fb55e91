-- The walk over the lines: what holds between two lines, and its laws (start, on, end and the two faults).
use Prim.Native.Nat.{ℕ, ◌+◌, ◌*◌, ◌≤◌, ◌<◌, zero-le}
use mathlib.Core.Path.{◌≡◌, refl, sym, ap, subst, ◌∙◌}
use mathlib.Core.List.{List}
use native.Mathlib.Omega.{arith}
use lib.ListN.{length, drop, length-set}
use Rattle.hexfloat.specs.Answer.{gives, stops}
use Rattle.protection.specs.Form.{with_mark}
use Rattle.std.specs.Prelude.{Result}
use Rattle.decktext.specs.declared.line.Progress.{Progress as Place}
use Rattle.decktext.specs.declared.line.Sizes.{Sizes}
use Rattle.decktext.specs.declared.staged.Staged.{Staged}
use Rattle.decktext.specs.declared.refusal.Refusal.{Refusal}
use Rattle.decktext.specs.Text.{lines_of}
use Rattle.decktext.specs.Read.{Buffers, refused, says_reading, Wanted, heading, order, storage, halfword, Progress, start as begun, Given, headed, ordered, parted, stored, line_read, buffered_with, progressed, Read, whole, faulty, end_read, lines_read_by, lines_read}
use Rattle.decktext.specs.Walk.{Stretch, Storable, wanted_of, progress_of, Sized, end_said, said_of, Walked}
use Rattle.decktext.specs.Staged.{place_after, values_in, halfwords_with, staged_with, replayed, Landing}
use Rattle.decktext.proofs.Forms.{Sound, first, an_order, parting, second, a_halfword, sound, sound_fits}
use Rattle.decktext.proofs.Lines.{part, length_part, line_ended, line_unended, no_line}
use Rattle.decktext.proofs.Staging.{Follows, orders_with, size_with, place_with, replayed_none, replayed_with, landing_none, landing_with}
use Rattle.decktext.proofs.Widths.{line_bytes}

-- the whole text as the definition reads it
abbrev pub text_read : List ℕ → Buffers → Read
text_read t b = lines_read (lines_of t) (begun b) 1

-- there are no halfwords before the second heading
abbrev pub Early : Wanted → ℕ → Type 0
Early heading k = k ≡ 0
Early order k = k ≡ 0
Early storage k = k ≡ 0
Early halfword k = Unit {0}

-- the progress that the definition has where the staging array stands for what the lines gave
abbrev pub reached : Place → ℕ → List ℕ → Buffers → Progress
reached p k staged b = progress_of p (replayed staged p.count k b)

-- the lines before `at` gave p and k halfwords, and are staged, two bytes of the text for each value
pub record Walking (t : List ℕ) (b : Buffers) (s : Sizes) (p : Place) (at line k : ℕ) (staged : List ℕ) : Type 0 where
  pub sized : Sized (replayed staged p.count k b) s
  pub first : Sized b s
  pub rest : text_read t b ≡ lines_read (lines_of (drop at t)) (reached p k staged b) line
  pub reach : at ≤ length t
  pub lines : line ≤ at + 1
  pub half : place_after p.count k * 2 ≤ at
  pub size : length staged ≡ 16384
  pub early : Early (wanted_of p.wanted) k
  pub landing : Landing staged p.count k s.memory

pub start : {t : List ℕ} {b : Buffers} {s : Sizes} {p : Place} {staged : List ℕ} → Sized b s → progress_of p b ≡ begun b → length staged ≡ 16384 → Walking t b s p 0 1 0 staged
start {t} {b} {s} {p} {staged} z e size =
    let n : p.count ≡ 0 = ap (λ (q : Progress). q.count) e in
    let w : heading ≡ wanted_of p.wanted = ap (λ (q : Progress). q.wanted) (sym e) in
    let none : replayed staged p.count 0 b ≡ b = rw n (replayed_none staged b) in
    record {
      sized = rw none z;
      first = z;
      rest = ap (λ (q : Progress). lines_read (lines_of t) q 1) (sym e) ∙ rw none;
      reach = zero-le;
      lines = omega arith;
      half = omega arith;
      size = size;
      early = subst (λ (x : Wanted). Early x 0) w refl;
      landing = rw n (landing_none staged s.memory);
    }

-- ---- a line

sized_with : (g : Given) (n : ℕ) (b : Buffers) (s : Sizes) → Sized b s → Sized (buffered_with g n b) s
unfolding buffered_with with_mark
sized_with headed n b s z = z
sized_with (ordered o) n b s z = record { cells = simp length-set z.cells; memory = z.memory; protect = z.protect; packed = z.packed }
sized_with parted n b s z = z
sized_with (stored h) n b s z = record { cells = z.cells; memory = simp length-set z.memory; protect = simp length-set z.protect; packed = z.packed }

count_with : (g : Given) (p : Progress) → (progressed g p).count ≡ orders_with g p.count
unfolding progressed
count_with headed p = refl
count_with (ordered o) p = refl
count_with parted p = refl
count_with (stored h) p = refl

follows : {p : Progress} {w : Wanted} {g : Given} (k : ℕ) → Sound p w g → Early w k → Follows g k
follows k first e = tt
follows k (an_order o f) e = e
follows k parting e = tt
follows k second e = tt
follows k (a_halfword h r f) e = tt

early_with : {p : Progress} {w : Wanted} {g : Given} (k : ℕ) → p.wanted ≡ w → Sound p w g → Early w k → Early (progressed g p).wanted (halfwords_with g k)
unfolding progressed
early_with k q first e = rw q e
early_with k q (an_order o f) e = e
early_with k q parting e = e
early_with k q second e = rw q tt
early_with k q (a_halfword h r f) e = tt

module _ {t : List ℕ} {b : Buffers} {s : Sizes} {p : Place} {at line k : ℕ} {staged : List ℕ} (r : Walking t b s p at line k staged) where
  module _ {e : ℕ} (m : Stretch t at (length t) 10 e) where
    module _ (l : e < length t) (g : Given) (f : line_read (reached p k staged b) (part at e t) ≡ gives g) where
      given_sound : Sound (reached p k staged b) (wanted_of p.wanted) g
      unfolding line_read
      given_sound = sound (wanted_of p.wanted) (reached p k staged b) (part at e t) g f

      -- two bytes of the text, with those of this line, for each value
      halves : (place_after p.count k + values_in g) * 2 ≤ e + 1
      unfolding line_read
      halves =
          let wide = line_bytes (wanted_of p.wanted) (reached p k staged b) (part at e t) g f in
          omega (arith, wide, length_part at e t m.low m.high, r.half, m.low)

      -- the values of the line fit into the staging array
      pub stageable : length t ≤ 32768 → place_after p.count k + values_in g ≤ 16384
      stageable limit = omega (arith, halves)

      fits_sizes : Storable g p.count s.cells s.memory
      fits_sizes = rw (← r.sized.cells, ← r.sized.memory) (sound_fits given_sound).0

      pub on : length t ≤ 32768 → (next : Place) → ((x : Buffers) → progress_of next (buffered_with g p.count x) ≡ progressed g (progress_of p x))
          → (to : ℕ) → to ≡ e + 1 → (more : ℕ) → more ≡ halfwords_with g k → (after : List ℕ) → after ≡ staged_with g p.count k staged
          → Walking t b s next to (line + 1) more after
      unfolding lines_read_by
      on limit next moved to past more halfwords after put =
          let held = replayed staged p.count k b in
          let wide = stageable limit in
          let behind = follows k given_sound r.early in
          let n : next.count ≡ orders_with g p.count = ap (λ (x : Progress). x.count) (moved held) ∙ count_with g (progress_of p held) in
          let w : wanted_of next.wanted ≡ (progressed g (progress_of p held)).wanted = ap (λ (x : Progress). x.wanted) (moved held) in
          let now : replayed after next.count more b ≡ buffered_with g p.count held =
          rw (put, n, halfwords) (replayed_with g p.count k staged b behind (rw r.size wide)) in
          record {
            sized = rw now (sized_with g p.count held s r.sized);
            first = r.first;
            rest = r.rest ∙ rw (line_ended m l, f, past, now, moved held);
            reach = omega arith;
            lines = omega (arith, r.lines, m.low);
            half = rw (n, halfwords, place_with g p.count k) (omega (arith, halves, past));
            size = rw put (size_with g p.count k staged ∙ r.size);
            early = rw (w, halfwords) (early_with k refl given_sound r.early);
            landing = rw (put, n, halfwords) (landing_with g p.count k staged s.cells s.memory r.size behind wide fits_sizes r.landing);
          }

    pub stopped : e < length t → (n : ℕ) → line_read (reached p k staged b) (part at e t) ≡ stops n → text_read t b ≡ faulty n line
    unfolding lines_read_by
    stopped l n f = r.rest ∙ rw (line_ended m l, f)

    pub unfinished : at < length t → e ≡ length t → text_read t b ≡ faulty 16 line
    unfolding lines_read_by
    unfinished l q = r.rest ∙ rw (line_unended m l q)

-- ---- where the walk is left

-- a whole text is no faulty one
pub other : {n k : ℕ} {q : Progress} {C : Type 0} → faulty n k ≡ whole q → C
other h = let z : ◌≡◌ {A = ℕ} 0 1 = cc in absurd (omega arith)

whole_inj : {p q : Progress} → whole p ≡ whole q → p ≡ q
whole_inj h = cc

pub end_whole : (w : Wanted) (p q : Progress) (k : ℕ) → end_read w p k ≡ whole q → p ≡ q
end_whole heading p q k h = other h
end_whole order p q k h = whole_inj h
end_whole storage p q k h = other h
end_whole halfword p q k h = whole_inj h

end_said_lem : (w : Wanted) (q : Progress) (line : ℕ) → end_said w q.count line ≡ said_of (end_read w q line)
end_said_lem heading q line = refl
end_said_lem order q line = refl
end_said_lem storage q line = refl
end_said_lem halfword q line = refl

-- at a fault
pub at_fault : {t : List ℕ} {b : Buffers} {n line : ℕ} {staged : Staged} {r : Result ℕ Refusal} → text_read t b ≡ faulty n line → says_reading r ≡ refused n line → Walked t b staged r
at_fault f e = record { said = rw f e; held = λ q h. other (sym f ∙ h); orders = λ q h. other (sym f ∙ h); landing = λ q h. other (sym f ∙ h) }

-- at the end of the text
module _ {t : List ℕ} {b : Buffers} {s : Sizes} {p : Place} {at line : ℕ} (staged : Staged) (r : Walking t b s p at line staged.halfwords staged.values) (limit : length t ≤ 32768) (l : length t ≤ at) where
  read_there : text_read t b ≡ end_read (wanted_of p.wanted) (reached p staged.halfwords staged.values b) line
  unfolding lines_read_by
  read_there = r.rest ∙ rw (no_line t at l)

  whole_there : (q : Progress) → text_read t b ≡ whole q → q ≡ reached p staged.halfwords staged.values b
  whole_there q h = sym (end_whole (wanted_of p.wanted) (reached p staged.halfwords staged.values b) q line (sym read_there ∙ h))

  pub at_end : (a : Result ℕ Refusal) → says_reading a ≡ end_said (wanted_of p.wanted) p.count line → Walked t b staged a
  at_end a e = record {
    said = e ∙ rw read_there (end_said_lem (wanted_of p.wanted) (reached p staged.halfwords staged.values b) line);
    held = λ q h. rw (whole_there q h);
    orders = λ q h. rw (whole_there q h) (omega (arith, r.half, r.reach));
    landing = λ q h. rw (whole_there q h) (rw r.first.memory r.landing);
  }
