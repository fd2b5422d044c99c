-- The elements of an object, one at a time.
use Rattle.std.proofs.Common.{◌≡◌, ℕ, zero, suc, ◌+◌, ◌-◌, ◌<◌, ◌≤◌, List, [], ◌∷◌, ◌++◌, length, get_or, take, set, replicate, refl, sym, ap, ◌∙◌, arith, ℤ, pos}
use Rattle.std.proofs.Math.Seq.{take-suc}
use Rattle.std.proofs.lemmas.List.{take_more_set, take_all, append-nil, append_assoc, length-append, length-replicate}
use Rattle.lv_base.specs.declared.kind.Kind.{Kind}
use Rattle.lv_base.specs.declared.kind.Model.{Model}
use Rattle.c_run.specs.Run.{State, Got, Value, Stop, give, after, draw, draw_all, padded}
use Rattle.slot_code.specs.declared.reply.Ending.{Ending}
use Rattle.slot_board.specs.Seen.{seen, Ends}
use Rattle.slot_board.proofs.Answering.{over_after}

-- ---- Values and zeros behind them

zeros_read : (n i : ℕ) → get_or (replicate n (pos 0)) i (pos 0) ≡ pos 0
zeros_read zero i = refl
zeros_read (suc n) zero = refl
zeros_read (suc n) (suc i) = zeros_read n i

padded_read : (vs : List ℤ) (n i : ℕ) → get_or (vs ++ replicate n (pos 0)) i (pos 0) ≡ get_or vs i (pos 0)
padded_read [] n i = zeros_read n i
padded_read (v ∷ vs) n zero = refl
padded_read (v ∷ vs) n (suc i) = padded_read vs n i

padded_length : (n : ℕ) (vs : List ℤ) → length vs ≤ n → length (padded n vs) ≡ n
padded_length n vs b = omega (arith, length-append vs (replicate (n - length vs) (pos 0)), length-replicate (n - length vs) (pos 0))

pub begin_more : (n i : ℕ) (vs xs : List ℤ) → length vs ≤ n → i < n → length xs ≡ n → take i xs ≡ take i (padded n vs) →
    take (i + 1) (set xs i (get_or vs i (pos 0))) ≡ take (i + 1) (padded n vs)
begin_more n i vs xs b c l h =
    let e : i + 1 ≡ suc i = omega arith in
    let long : i < length (padded n vs) = omega (arith, padded_length n vs b) in
    take_more_set xs i (get_or vs i (pos 0)) (omega arith)
    ∙ ap (λ ys. ys ++ get_or vs i (pos 0) ∷ []) h
    ∙ ap (λ (v : ℤ). take i (padded n vs) ++ v ∷ []) (sym (padded_read vs (n - length vs) i))
    ∙ sym (rw e (take-suc (padded n vs) i (pos 0) long))

pub begin_done : (n i : ℕ) (vs xs : List ℤ) → length vs ≤ n → n ≤ i → length xs ≡ n → take i xs ≡ take i (padded n vs) → xs ≡ padded n vs
begin_done n i vs xs b c l h =
    let long : length (padded n vs) ≤ i = omega (arith, padded_length n vs b) in
    sym (take_all i xs (omega arith)) ∙ h ∙ take_all i (padded n vs) long

-- ---- Draws

module _ (inputs : List ℤ) (model : Model) (kind : Kind) where
  joined : (done : List ℤ) (v : ℤ) (g : Got (List ℤ)) → after (after g (λ vs. give (v ∷ vs))) (λ vs. give (done ++ vs)) ≡ after g (λ vs. give ((done ++ v ∷ []) ++ vs))
  joined done v (Value vs st) = ap (λ ws. Value ws st) (sym (append_assoc done (v ∷ []) vs))
  joined done v (Stop e) = refl

  draws_more : (left : ℕ) (done : List ℤ) (st st1 : State) (v : ℤ) → draw inputs model kind st ≡ Value v st1 →
      after (draw_all inputs model kind (suc left) st) (λ vs. give (done ++ vs)) ≡ after (draw_all inputs model kind left st1) (λ vs. give ((done ++ v ∷ []) ++ vs))
  draws_more left done st st1 v h =
      ap (λ g. after (after g (λ v1 st2. after (draw_all inputs model kind left st2) (λ vs. give (v1 ∷ vs)))) (λ vs. give (done ++ vs))) h
      ∙ joined done v (draw_all inputs model kind left st1)

  -- so many are drawn, and the others are left
  abbrev pub Drawing : (n i : ℕ) → List ℤ → State → State → Type 0
  Drawing n i xs st st1 = draw_all inputs model kind n st ≡ after (draw_all inputs model kind (n - i) st1) (λ vs. give (take i xs ++ vs))

  nothing_before : (g : Got (List ℤ)) → g ≡ after g (λ vs. give ([] ++ vs))
  nothing_before (Value vs st) = refl
  nothing_before (Stop e) = refl

  pub fill_first : (n : ℕ) (xs : List ℤ) (st : State) → Drawing n 0 xs st st
  fill_first n xs st = let e : n - 0 ≡ n = omega arith in rw e (nothing_before (draw_all inputs model kind n st))

  pub fill_more : (n i : ℕ) (xs : List ℤ) (v : ℤ) (st st1 st2 : State) → i < n → length xs ≡ n → Drawing n i xs st st1 → draw inputs model kind st1 ≡ Value v st2 →
      Drawing n (i + 1) (set xs i v) st st2
  fill_more n i xs v st st1 st2 b l h d =
      let e : n - i ≡ suc (n - (i + 1)) = omega arith in
      h ∙ ap (λ k. after (draw_all inputs model kind k st1) (λ vs. give (take i xs ++ vs))) e
      ∙ draws_more (n - (i + 1)) (take i xs) st1 st2 v d
      ∙ ap (λ ys. after (draw_all inputs model kind (n - (i + 1)) st2) (λ vs. give (ys ++ vs))) (sym (take_more_set xs i v (omega arith)))

  pub fill_done : (n i : ℕ) (xs : List ℤ) (st st1 : State) → n ≤ i → length xs ≡ n → Drawing n i xs st st1 → draw_all inputs model kind n st ≡ Value xs st1
  fill_done n i xs st st1 b l h =
      let e : n - i ≡ 0 = omega arith in
      h ∙ ap (λ k. after (draw_all inputs model kind k st1) (λ vs. give (take i xs ++ vs))) e
      ∙ ap (λ ys. Value ys st1) (append-nil (take i xs) ∙ take_all i xs (omega arith))

  pub fill_over : (n i : ℕ) (xs : List ℤ) (st st1 : State) (e : Ending) → i < n → Drawing n i xs st st1 → seen (draw inputs model kind st1) ≡ Ends e → seen (draw_all inputs model kind n st) ≡ Ends e
  fill_over n i xs st st1 e b h d =
      let f : n - i ≡ suc (n - (i + 1)) = omega arith in
      ap seen (h ∙ ap (λ k. after (draw_all inputs model kind k st1) (λ vs. give (take i xs ++ vs))) f)
      ∙ over_after (after (draw inputs model kind st1) (λ v st2. after (draw_all inputs model kind (n - (i + 1)) st2) (λ vs. give (v ∷ vs)))) (λ vs. give (take i xs ++ vs)) e
      (over_after (draw inputs model kind st1) (λ v st2. after (draw_all inputs model kind (n - (i + 1)) st2) (λ vs. give (v ∷ vs))) e d)
