use mathlib.Core.Path.{◌≡◌, refl, sym, ap, ◌∙◌}
use Prim.Native.Nat.{ℕ, ◌+◌, ◌<◌, zero-le}
use mathlib.Core.Bool.{cond}
use mathlib.Core.List.{List}
use native.Mathlib.Omega.{arith}
use lib.Dec.{eqb}
use Rattle.std.specs.Slice.Iter.{chunks_exact_rest, chunks_exact_size}
use Rattle.protection.specs.Form.{with_mark}
use Rattle.protection.specs.Bits.{bitwise}
use Rattle.protection.proofs.Unpacked.{digit_mark}
use Rattle.decktext.specs.Format.{Halfword}
use Rattle.decktext.specs.Staged.{place_after, halfword_at, with_each, put_word, put_mark}
use Rattle.decktext.proofs.Staging.{chunk, chunks_after, each_next}
use Rattle.decktext.proofs.staged.Staged.put_halfwords.Goals as goal
use Rattle.decktext.proofs.staged.Staged.put_halfwords.Goals.{In-Some}

-- the next chunk
next : (c : In-Some) → (c.loop-h.invariant.3 < c.args.self.now.halfwords) × (halfword_at c.in-Some.h.now 0 ≡ halfword_at c.args.self.now.values (place_after c.args.n c.loop-h.invariant.3))
    × (chunks_exact_rest c.next.new.self ≡ chunks_after c.args.self.now.values c.args.n c.args.self.now.halfwords (c.loop-h.invariant.3 + 1))
next c =
    chunk c.args.self.now.values c.args.n c.args.self.now.halfwords c.loop-h.invariant.3 (omega (arith, c.requires.inside, c.args.self.now.size)) c.in-Some.h.now _
    (sym c.loop-h.invariant.5 ∙ c.in-Some.ensures.steps.1.0) (c.in-Some.ensures.steps.1.1 ∙ c.loop-h.invariant.2)

pub loop-h-init : goal.loop-h-init
unfolding with_each
loop-h-init c =
    let size = ap chunks_exact_size c.into_iter-h-iterator.ensures.into_iter_gives ∙ c.chunks_exact-h-items.ensures.size in
    (omega (arith, size), tt, size, 0, zero-le, ap chunks_exact_rest c.into_iter-h-iterator.ensures.into_iter_gives ∙ c.chunks_exact-h-items.ensures.rest, refl, refl)

pub bounds-memory-at : goal.bounds-memory-at
bounds-memory-at c =
    let x = next (goal.at.bounds-memory-at c).In-Some in
    omega (arith, ap (λ (h : Halfword). h.at) x.1, c.requires.word c.loop-h.invariant.3 x.0, c.loop-h.auto.memory)

-- the halfword that is put lands in memory, and its protect digit is the mark that is made
pub loop-h-preserved : goal.loop-h-preserved
loop-h-preserved c =
    let i = c.loop-h.invariant in
    let s : List ℕ = c.args.self.now.values in
    let x = next (goal.at.loop-h-preserved c).In-Some in
    let h : Halfword = halfword_at c.in-Some.h.now 0 in
    let size = c.in-Some.ensures.steps.0 ∙ i.2 in
    let digit : cond (eqb h.protect 1) 1 0 ≡ h.protect = digit_mark h.protect (omega (arith, ap (λ (z : Halfword). z.protect) x.1, c.requires.digit i.3 x.0)) in (
      omega (arith, size),
      tt,
      size,
      i.3 + 1,
      omega (arith, x.0),
      x.2,
      ap (λ (z : Halfword). put_word z c.loop-h.memory) x.1 ∙ each_next put_word s c.args.n i.3 c.args.memory.now c.loop-h.memory i.6,
      c.mark.ensures
          ∙ ap (λ (v : ℕ). with_mark h.at v (bitwise c.loop-h.protect)) digit
          ∙ ap (λ (z : Halfword). put_mark z (bitwise c.loop-h.protect)) x.1
          ∙ each_next put_mark s c.args.n i.3 (bitwise c.args.protect.now) (bitwise c.loop-h.protect) i.7,
    )
