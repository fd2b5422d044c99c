-- Fresh literals take any values.
use Rattle.std.proofs.Common.{◌≡◌, ℕ, ◌+◌, ◌^◌, ◌≤◌, ◌<◌, length, List, [], ◌∷◌, map, arith, ◌∙◌, refl, suc, zero, Bool, ◌⊎◌, inl, inr, sym}
use Rattle.prop.specs.declared.Lit.{Lit}
use Rattle.bit_gates.specs.Net.{number}
use Rattle.bv_term.specs.Values.{IsStore}
use Rattle.bit_blast.specs.Held.{Held, fresh_lits, fresh_cells, fresh_of, new_of, above_all, sum_of}
use Rattle.blast_laws.specs.Calls.{Call, Blast, Fresh, Rebind, Renew, StoreAt, made_by, spelled_store, IsFresh}
use Rattle.blast_laws.specs.Drawn.{DrawsFit, DrawsSpell, FreshTakeAny, FreshStay, AnyStoreAndDraws}
use Rattle.blast_laws.proofs.Runs.{set-bits, set-other, number-same, set-number, stores_spelled, calls_exact}

-- the rest, from what a call leaves on
later : (ws : List ℕ) (c : Call) (h : Held) (cs : List Call) (xs : List ℕ) (v : ℕ → Bool) → h.next ≤ (made_by ws c h).held.next
    → (w : ℕ → Bool) × DrawsSpell w ws (made_by ws c h).held cs xs × ((k : ℕ) → k < (made_by ws c h).held.next → w k ≡ v k)
    → (w : ℕ → Bool) × DrawsSpell w ws (made_by ws c h).held cs xs × ((k : ℕ) → k < h.next → w k ≡ v k)
later ws c h cs xs v le (w, spelt, low) = (w, spelt, λ k lt. low k (omega (arith, lt, le)))

pub fresh_take_any : FreshTakeAny
fresh_take_any ws h [] [] f v = (v, tt, λ k lt. refl)
fresh_take_any ws h [] (x ∷ xs) f v = absurd f
fresh_take_any ws h (Blast ts t ∷ cs) xs f v =
    later ws (Blast ts t) h cs xs v (omega arith) (fresh_take_any ws (made_by ws (Blast ts t) h).held cs xs f v)
fresh_take_any ws h (Fresh w ∷ cs) [] f v = absurd f
fresh_take_any ws h (Fresh w ∷ cs) (x ∷ xs) f v =
    let u = set-bits v h.next w x in
    let (z, spelt, low) = fresh_take_any ws (made_by ws (Fresh w) h).held cs xs f.1 u in (
      z,
      (number-same u z h.next w (λ j le lt. low j lt) ∙ set-number v h.next w x f.0, spelt),
      λ k lt. low k (omega (arith, lt)) ∙ set-other v h.next w x k (inl lt),
    )
fresh_take_any ws h (Rebind c to ∷ cs) xs f v =
    later ws (Rebind c to) h cs xs v (omega arith) (fresh_take_any ws (made_by ws (Rebind c to) h).held cs xs f v)
fresh_take_any ws h (Renew ∷ cs) xs f v = later ws Renew h cs xs v (omega arith) (fresh_take_any ws (made_by ws Renew h).held cs xs f v)
fresh_take_any ws h (StoreAt g m i x ∷ cs) xs f v =
    later ws (StoreAt g m i x) h cs xs v (omega arith) (fresh_take_any ws (made_by ws (StoreAt g m i x) h).held cs xs f v)

pub fresh_stay : FreshStay
fresh_stay ws h [] [] v w a s = tt
fresh_stay ws h [] (x ∷ xs) v w a s = absurd s
fresh_stay ws h (Blast ts t ∷ cs) xs v w a s = fresh_stay ws (made_by ws (Blast ts t) h).held cs xs v w a s
fresh_stay ws h (Fresh n ∷ cs) [] v w a s = absurd s
fresh_stay ws h (Fresh n ∷ cs) (x ∷ xs) v w a s = (
  number-same v w h.next n (λ j le lt. a j (inl (le, lt))) ∙ s.0,
  fresh_stay ws (made_by ws (Fresh n) h).held cs xs v w (λ k o. a k (inr o)) s.1,
)
fresh_stay ws h (Rebind c to ∷ cs) xs v w a s = fresh_stay ws (made_by ws (Rebind c to) h).held cs xs v w a s
fresh_stay ws h (Renew ∷ cs) xs v w a s = fresh_stay ws (made_by ws Renew h).held cs xs v w a s
fresh_stay ws h (StoreAt f m i x ∷ cs) xs v w a s = fresh_stay ws (made_by ws (StoreAt f m i x) h).held cs xs v w a s

-- what cells of their own spell rests on their variables alone
cells-same : (v w : ℕ → Bool) (n : ℕ) (ws : List ℕ) → ((j : ℕ) → j < n + sum_of ws → w j ≡ v j)
    → map (number w) (fresh_cells n ws) ≡ map (number v) (fresh_cells n ws)
cells-same v w n [] a = refl
cells-same v w n (x ∷ ws) a =
    cons (number-same v w n x (λ j le lt. a j (omega (arith, lt)))) (cells-same v w (n + x) ws (λ j lt. a j (omega (arith, lt))))
  where
    cons : {a b : ℕ} {xs ys : List ℕ} → a ≡ b → xs ≡ ys → a ∷ xs ≡ b ∷ ys
    cons p q = cc

pub any_store_and_draws : AnyStoreAndDraws
any_store_and_draws old ws store cs xs start may s e f v =
    let h = new_of old ws in
    let (a, spelt, low, high) = stores_spelled old ws store s e v in
    let (b, drawn, kept) = fresh_take_any ws h cs xs f a in
    let (w, open_kept, holds) = (calls_exact ws h cs start may).extends b in (
      w,
      holds,
      cells-same a w (above_all 0 old) ws (λ j lt. open_kept j (inl lt) ∙ kept j lt) ∙ spelt,
      fresh_stay ws h cs xs b w (λ k o. open_kept k (inr o)) drawn,
      λ k lt. open_kept k (inl (omega (arith, lt))) ∙ (kept k (omega (arith, lt)) ∙ low k lt),
    )
