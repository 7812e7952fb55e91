-- Laws of text that grows.
use mathlib.Core.Path.{◌≡◌, sym, ap, ◌∙◌}
use mathlib.Core.List.{List, [], ◌++◌, append_assoc, append-nil}
use Prim.Native.Nat.{ℕ, ◌+◌, ◌-◌}
use native.Mathlib.Nat.{add-zero, add_assoc}
use lib.ListN.{length, length-append, length-drop}
use Rattle.listing.specs.declared.text.Text.{Text}
use Rattle.listing.specs.Text.{text_of, Holds, Appended}

pub nothing : {N : ℕ} {t : Text N} → Appended t t []
nothing {t = t} = record { text = sym (append-nil (text_of t)); size = sym (add-zero t.length) }

-- one after the other
pub then : {N : ℕ} {t u v : Text N} {xs ys : List ℕ} → Appended t u xs → Appended u v ys → Appended t v (xs ++ ys)
then {t = t} {u} {v} {xs} {ys} p q = record {
  text = q.text ∙ ap (λ (zs : List ℕ). zs ++ ys) p.text ∙ append_assoc (text_of t) xs ys;
  size = q.size ∙ ap (λ (n : ℕ). n + length ys) p.size ∙ add_assoc t.length (length xs) (length ys) ∙ ap (λ (n : ℕ). t.length + n) (sym (length-append xs ys));
}

-- from nothing
pub whole : {N : ℕ} {e t : Text N} {xs : List ℕ} → text_of e ≡ [] → Appended e t xs → Holds t xs
whole {e = e} {t} {xs} z p = record {
  text = p.text ∙ ap (λ (zs : List ℕ). zs ++ xs) z;
  within = t.within;
  free = length-drop t.length t.bytes ∙ ap (λ (n : ℕ). n - t.length) t.size;
}
