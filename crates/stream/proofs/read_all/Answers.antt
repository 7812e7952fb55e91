-- A read puts its bytes after those that stand there, and what it gave follows what was given.
use Rattle.std.proofs.Common.{rules, ℕ, ◌+◌, ◌≤◌, ◌≡◌, List, ◌++◌, length, take, drop, sym, ap, subst, ◌∙◌, le_refl, drop_at, length-take-le}
use Rattle.std.proofs.KnownBytes.{Consumes-trans}
use Rattle.std.proofs.lemmas.Slice.{take-put_mid_below}
use Rattle.std.specs.Io.KnownBytes.{Consumes}
use Rattle.std.specs.declared.option.Option.{Option}
use borrow.Rule.Slice.PartMut.{put_mid, post_of}
use lib.Seq.{take-add, take-append-le}
use Rattle.stream.proofs.read_all.Goals as goal

-- n bytes of ys in the place of those of xs from `from` on
grown : (a b c : Option (List ℕ)) (from k n : ℕ) (xs ys : List ℕ) → from ≤ length xs → n ≤ length ys
    → Consumes a b (take from xs) → Consumes b c (take n ys) → Consumes a c (take (from + n) (put_mid from k xs ys))
grown a b c from k n xs ys within fits before read =
    let all = put_mid from k xs ys in
    let front : take from all ≡ take from xs = take-put_mid_below _ _ _ _ _ (le_refl _) within in
    let back : take n (drop from all) ≡ take n ys = ap (take n) (drop_at (take from xs) (ys ++ post_of from k xs) from (length-take-le from xs within)) ∙ take-append-le n ys (post_of from k xs) fits in
    let joined : take from xs ++ take n ys ≡ take (from + n) all = ap (λ l. l ++ take n ys) (sym front) ∙ ap (λ l. take from all ++ l) (sym back) ∙ sym (take-add from n all) in
    subst (Consumes a c) joined (Consumes-trans a b c (take from xs) (take n ys) before read)

pub loop-count-preserved : goal.loop-count-preserved
loop-count-preserved g c =
    (search rules, grown _ _ _ _ _ _ _ _ c.loop-count.invariant.0 c.in-Ok.ensures.bound.0 c.loop-count.invariant.1 c.in-Ok.ensures.bytes.0)
