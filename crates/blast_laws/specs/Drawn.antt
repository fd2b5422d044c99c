-- The values of fresh literals, which calls of blasting leave open.
use Rattle.std.specs.Prelude.{ℕ, ◌+◌, ◌^◌, ◌≡◌, ◌≤◌, ◌<◌, Bool, true, List, [], ◌∷◌, length}
use Rattle.prop.specs.declared.Lit.{Lit}
use Rattle.prop.specs.Logic.{all_hold}
use Rattle.bit_gates.specs.Net.{number}
use Rattle.bv_term.specs.WellFormed.{IsWidth}
use Rattle.bv_term.specs.Values.{IsStore}
use Rattle.bit_blast.specs.Held.{Held, new_of, fresh_lits, above_all}
use Rattle.blast_laws.specs.Calls.{Call, Blast, Fresh, Rebind, Renew, StoreAt, AllMay, clauses_by, made_by, spelled_store, IsFresh, IsStart}

-- one value for each call of fresh, below two to the power of its width
abbrev pub DrawsFit : List Call → List ℕ → Type 0
DrawsFit [] [] = Unit {0}
DrawsFit [] (x ∷ xs) = ⊥
DrawsFit (Blast ts t ∷ cs) xs = DrawsFit cs xs
DrawsFit (Fresh w ∷ cs) [] = ⊥
DrawsFit (Fresh w ∷ cs) (x ∷ xs) = (x < 2 ^ w) × DrawsFit cs xs
DrawsFit (Rebind c to ∷ cs) xs = DrawsFit cs xs
DrawsFit (Renew ∷ cs) xs = DrawsFit cs xs
DrawsFit (StoreAt f m i x ∷ cs) xs = DrawsFit cs xs

-- the literals of the calls of fresh spell these values, in turn
abbrev pub DrawsSpell : (ℕ → Bool) → List ℕ → Held → List Call → List ℕ → Type 0
DrawsSpell v ws h [] [] = Unit {0}
DrawsSpell v ws h [] (x ∷ xs) = ⊥
DrawsSpell v ws h (Blast ts t ∷ cs) xs = DrawsSpell v ws (made_by ws (Blast ts t) h).held cs xs
DrawsSpell v ws h (Fresh w ∷ cs) [] = ⊥
DrawsSpell v ws h (Fresh w ∷ cs) (x ∷ xs) =
    (number v (fresh_lits h.next w) ≡ x) × DrawsSpell v ws (made_by ws (Fresh w) h).held cs xs
DrawsSpell v ws h (Rebind c to ∷ cs) xs = DrawsSpell v ws (made_by ws (Rebind c to) h).held cs xs
DrawsSpell v ws h (Renew ∷ cs) xs = DrawsSpell v ws (made_by ws Renew h).held cs xs
DrawsSpell v ws h (StoreAt f m i x ∷ cs) xs = DrawsSpell v ws (made_by ws (StoreAt f m i x) h).held cs xs

-- fresh literals spell any values that fit, under an assignment that is any given one at all variables that were there before
abbrev pub FreshTakeAny : Type 0
FreshTakeAny =
    (ws : List ℕ) (h : Held) (cs : List Call) (xs : List ℕ) → DrawsFit cs xs → (v : ℕ → Bool)
    → (w : ℕ → Bool) × DrawsSpell w ws h cs xs × ((k : ℕ) → k < h.next → w k ≡ v k)

-- what they spell rests on their own variables alone
abbrev pub FreshStay : Type 0
FreshStay =
    (ws : List ℕ) (h : Held) (cs : List Call) (xs : List ℕ) (v w : ℕ → Bool) → ((k : ℕ) → IsFresh ws h cs k → w k ≡ v k)
    → DrawsSpell v ws h cs xs → DrawsSpell w ws h cs xs

-- the calls after a new Bits hold with any store in the first cells and any values of the fresh literals that fit, under an
-- assignment that is any given one at the variables of earlier clauses
abbrev pub AnyStoreAndDraws : Type 0
AnyStoreAndDraws =
    (old : List (List Lit)) (ws store : List ℕ) (cs : List Call) (xs : List ℕ)
    → IsStart ws (new_of old ws) → AllMay ws [] (new_of old ws) cs
    → IsStore ws store → length store ≡ length ws → DrawsFit cs xs → (v : ℕ → Bool)
    → (w : ℕ → Bool) × (all_hold w (clauses_by ws (new_of old ws) cs) ≡ true) × (spelled_store w (new_of old ws).cells ≡ store)
    × DrawsSpell w ws (new_of old ws) cs xs × ((k : ℕ) → k < above_all 0 old → w k ≡ v k)
