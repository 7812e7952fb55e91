-- Lists of calls: one after another, and one more step at the end.
use Prim.Native.Nat.{ℕ, zero, suc}
use mathlib.Core.Path.{◌≡◌, refl, ap, ◌∙◌}
use mathlib.Core.List.{List, [], ◌∷◌, ◌++◌}
use lib.ListN.{replicate}
use Rattle.protection.specs.Form.{ProtectList}
use Rattle.machine.specs.Step.{Outcome}
use Rattle.conditions.specs.Trail.{Call, step, back, Earlier, Trail, Reply, reply_of, traced, standing, replies, Covered, AllCovered}
use Rattle.conditions.specs.Theorems.{steps, seats, answer}

-- k back steps, the steps that stand taken once more from the first on, and the answers of k steps that are taken
abbrev pub backs : ℕ → List Call
backs k = replicate k back

abbrev pub forwards : List Earlier → List Call
forwards es = steps (seats es)

abbrev pub steps_taken : ℕ → List Reply
steps_taken k = replicate k (answer 1 0)

-- a list of calls and then another
pub standing-append : {W : Type 0} (f : Call → W → Outcome W) (cs ds : List Call) (x : W) → standing f (cs ++ ds) x ≡ standing f ds (standing f cs x)
unfolding standing
standing-append f [] ds x = refl
standing-append f (c ∷ cs) ds x = standing-append f cs ds (f c x).after

pub replies-append :
    {W : Type 0} (f : Call → W → Outcome W) (cs ds : List Call) (x : W) → replies f (cs ++ ds) x ≡ replies f cs x ++ replies f ds (standing f cs x)
unfolding standing replies
replies-append f [] ds x = refl
replies-append f (c ∷ cs) ds x = ap (λ (l : List Reply). reply_of (f c x) ∷ l) (replies-append f cs ds (f c x).after)

pub snoc : {A : Type 0} (a : A) (k : ℕ) → replicate (suc k) a ≡ replicate k a ++ (a ∷ [])
snoc a zero = refl
snoc a (suc k) = ap (λ (l : List _). a ∷ l) (snoc a k)

-- the same call once more at the end
module _ {W : Type 0} (f : Call → W → Outcome W) (c : Call) (n : ℕ) (x : W) where
  pub times_last : standing f (replicate (suc n) c) x ≡ (f c (standing f (replicate n c) x)).after
  unfolding standing
  times_last = ap (λ (cs : List Call). standing f cs x) (snoc c n) ∙ standing-append f (replicate n c) (c ∷ []) x

  pub times_reply : replies f (replicate (suc n) c) x ≡ replies f (replicate n c) x ++ (reply_of (f c (standing f (replicate n c) x)) ∷ [])
  unfolding replies
  times_reply = ap (λ (cs : List Call). replies f cs x) (snoc c n) ∙ replies-append f (replicate n c) (c ∷ []) x

-- steps of some seats and of one more
steps_snoc : (ks : List ℕ) (k : ℕ) → steps (ks ++ (k ∷ [])) ≡ steps ks ++ (step k ∷ [])
unfolding steps
steps_snoc [] k = refl
steps_snoc (j ∷ ks) k = ap (λ (l : List Call). step j ∷ l) (steps_snoc ks k)

-- one step more
module _ {W : Type 0} (f : Call → W → Outcome W) (e : Earlier) (es : List Earlier) (x : W) where
  forwards_last : forwards (e ∷ es) ≡ forwards es ++ (step e.seat ∷ [])
  unfolding seats
  forwards_last = steps_snoc (seats es) e.seat

  pub step_last : standing f (forwards (e ∷ es)) x ≡ (f (step e.seat) (standing f (forwards es) x)).after
  unfolding standing
  step_last = ap (λ (cs : List Call). standing f cs x) forwards_last ∙ standing-append f (forwards es) (step e.seat ∷ []) x

  pub reply_last : replies f (forwards (e ∷ es)) x ≡ replies f (forwards es) x ++ (reply_of (f (step e.seat) (standing f (forwards es) x)) ∷ [])
  unfolding replies
  reply_last = ap (λ (cs : List Call). replies f cs x) forwards_last ∙ replies-append f (forwards es) (step e.seat ∷ []) x

-- the calls of a list, and the call after it, none of them left out
module _ (d : List ℕ) (p : ProtectList) (journal : ℕ) (c : Call) where
  pub covered_append :
      (cs : List Call) (t : Trail) → AllCovered d p journal (cs ++ (c ∷ [])) t →
      AllCovered d p journal cs t × Covered d p journal c (standing (traced d p journal) cs t)
  unfolding AllCovered standing
  covered_append [] t v = (tt, v.0)
  covered_append (b ∷ cs) t v = let w = covered_append cs (traced d p journal b t).after v.1 in ((v.0, w.0), w.1)
