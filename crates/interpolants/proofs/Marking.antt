-- Marks that count and marks that do not.
use Rattle.std.proofs.Common.{◌≡◌, ℕ, ◌<◌, ◌≤◌, ◌==◌, Bool, true, false, List, [], ◌∷◌, Option, Some, None, zero, suc, refl, sym, ap, ◌∙◌, subst, arith, map, cond, slice_set, take, ◌++◌, length}
use Rattle.std.specs.Prelude.{All}
use Rattle.std.proofs.lemmas.Bool.{eqb-true, eq-eqb}
use Rattle.std.proofs.lemmas.List.{map-set}
use Rattle.std.proofs.lemmas.List.Elements.{All-head, All-tail}
use Rattle.interpolants.specs.declared.items.Formula.{Formula}
use Rattle.interpolants.specs.declared.items.Mark.{Mark}
use Rattle.interpolants.specs.Memos.{shown, IsBlank}

past : (m : Mark) (old new : ℕ) (f : Formula) → m.epoch ≤ old → old < new → (b : Bool) → (m.epoch == new) ≡ b
    → cond b (Some m.formula) None ≡ Some f → ⊥
past m old new f le less true e h = let q : m.epoch ≡ new = eqb-true m.epoch new e in absurd (omega (arith, q, le, less))
past m old new f le less false e h = absurd cc

-- no mark of an earlier epoch counts
pub blank-later : (marks : List Mark) (old new : ℕ) → All (λ m. m.epoch ≤ old) marks → old < new → IsBlank (map (shown new) marks)
blank-later [] old new all less k f h = absurd cc
blank-later (m ∷ ms) old new all less zero f h =
    let q : shown new m ≡ Some f = cc in
    past m old new f (All-head (λ m. m.epoch ≤ old) m ms all) less (m.epoch == new) refl q
blank-later (m ∷ ms) old new all less (suc k) f h = blank-later ms old new (All-tail (λ m. m.epoch ≤ old) m ms all) less k f h

take-front : (m ys : List Mark) → take (length m) (m ++ ys) ≡ m
take-front [] [] = refl
take-front [] (y ∷ ys) = refl
take-front (x ∷ m) ys = ap (λ (w : List Mark). x ∷ w) (take-front m ys)

pub blank-whole : (n : ℕ) (m ys : List Mark) (old new : ℕ) → n ≡ length m → All (λ k. k.epoch ≤ old) m → old < new
    → IsBlank (map (shown new) (take n (m ++ ys)))
blank-whole n m ys old new q all less =
    let e : take n (m ++ ys) ≡ m = ap (λ (k : ℕ). take k (m ++ ys)) q ∙ take-front m ys in
    subst (λ (ms : List Mark). IsBlank (map (shown new) ms)) (sym e) (blank-later m old new all less)

-- a mark of this epoch counts
pub shown-set : (epoch at : ℕ) (f : Formula) (marks : List Mark)
    → map (shown epoch) (slice_set marks at (record { epoch = epoch; formula = f })) ≡ slice_set (map (shown epoch) marks) at (Some f)
shown-set epoch at f marks =
    let m : Mark = record { epoch = epoch; formula = f } in
    map-set (shown epoch) marks at m
    ∙ ap (λ (o : Option Formula). slice_set (map (shown epoch) marks) at o) (ap (λ (b : Bool). cond b (Some f) None) (eq-eqb epoch epoch refl))
