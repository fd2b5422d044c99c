-- Rows of codes, read at the values of a loop.
use Rattle.std.proofs.Common.{◌≡◌, ℕ, ◌+◌, ◌*◌, ◌/◌, ◌<◌, Bool, true, false, cond, List, [], ◌∷◌, ◌++◌, suc, refl, sym, ap, ◌∙◌, arith, length, get_or, set, drop, drop-cons, nat_eq}
use Rattle.std.proofs.lemmas.Bool.{eq-eqb, ne_eqb}
use Rattle.std.proofs.lemmas.Grind.{get_or_default_zero}
use Rattle.resolution_log.specs.Codes.{AllBelow}
use Rattle.resolution_log.proofs.MarkLaws.{all_below_listed}
use Rattle.resolution_log.proofs.Places.{listed_at}
use Rattle.dense_trail.specs.Dense.{level_of}
use Rattle.dense_trail.proofs.CodeLaws.{half_below}
use Rattle.conflict_analysis.specs.Notes.{is_noted, note_stamps, note_learnt, note_here}

pub code_fits : (n : ℕ) (row : List ℕ) (i : ℕ) → AllBelow (2 * n) row → i < length row → get_or row i 0 / 2 < n
code_fits n row i b lt = half_below (get_or row i 0) n (all_below_listed (2 * n) row b (get_or row i 0) (listed_at row (get_or row i 0) i lt refl))

pub next_code : (row : List ℕ) (i : ℕ) → i < length row → drop i row ≡ get_or row i 0 ∷ drop (i + 1) row
next_code row i lt = let q : suc i ≡ i + 1 = omega arith in drop-cons row i 0 lt ∙ ap (λ w. get_or row i 0 ∷ drop w row) q

-- one more code of a row, which joins
module _ (epoch but : ℕ) (stamps row : List ℕ) (i : ℕ) (lt : i < length row) (joins : is_noted epoch stamps but (get_or row i 0) ≡ false) where
  pub stamps_next : (x : List ℕ) → note_stamps epoch but stamps (drop i row) ≡ x → note_stamps epoch but (set stamps (get_or row i 0 / 2) epoch) (drop (i + 1) row) ≡ x
  stamps_next x h = sym (ap (λ b. note_stamps epoch but (cond b stamps (set stamps (get_or row i 0 / 2) epoch)) (drop (i + 1) row)) joins) ∙ sym (ap (note_stamps epoch but stamps) (next_code row i lt)) ∙ h

  module _ (level : ℕ) (levels learnt : List ℕ) (here' : ℕ) where
    learnt_step : (x learnt2 : List ℕ) (b : Bool) → nat_eq (level_of levels (get_or row i 0)) level ≡ b → cond b learnt (learnt ++ (get_or row i 0 ∷ [])) ≡ learnt2 → note_learnt epoch but level levels stamps learnt (drop i row) ≡ x → note_learnt epoch but level levels (set stamps (get_or row i 0 / 2) epoch) learnt2 (drop (i + 1) row) ≡ x
    learnt_step x learnt2 b lb e h =
        ap (λ w. note_learnt epoch but level levels (set stamps (get_or row i 0 / 2) epoch) w (drop (i + 1) row)) (sym (ap (λ w. cond w learnt (learnt ++ (get_or row i 0 ∷ []))) lb ∙ e))
        ∙ sym (ap (λ b. note_learnt epoch but level levels (cond b stamps (set stamps (get_or row i 0 / 2) epoch)) (cond b learnt (cond (nat_eq (level_of levels (get_or row i 0)) level) learnt (learnt ++ (get_or row i 0 ∷ [])))) (drop (i + 1) row)) joins)
        ∙ sym (ap (note_learnt epoch but level levels stamps learnt) (next_code row i lt))
        ∙ h

    here_step : (x here2 : ℕ) (b : Bool) → nat_eq (level_of levels (get_or row i 0)) level ≡ b → cond b (here' + 1) here' ≡ here2 → note_here epoch but level levels stamps here' (drop i row) ≡ x → note_here epoch but level levels (set stamps (get_or row i 0 / 2) epoch) here2 (drop (i + 1) row) ≡ x
    here_step x here2 b lb e h =
        ap (λ w. note_here epoch but level levels (set stamps (get_or row i 0 / 2) epoch) w (drop (i + 1) row)) (sym (ap (λ w. cond w (here' + 1) here') lb ∙ e))
        ∙ sym (ap (λ b. note_here epoch but level levels (cond b stamps (set stamps (get_or row i 0 / 2) epoch)) (cond b here' (cond (nat_eq (level_of levels (get_or row i 0)) level) (here' + 1) here')) (drop (i + 1) row)) joins)
        ∙ sym (ap (note_here epoch but level levels stamps here') (next_code row i lt))
        ∙ h

    module _ (r : ℕ) (fits : get_or row i 0 / 2 < length levels) (read : r ≡ get_or levels (get_or row i 0 / 2) r) where
      level_is : level_of levels (get_or row i 0) ≡ r
      level_is = sym (read ∙ get_or_default_zero levels (get_or row i 0 / 2) r fits)

      pub learnt_here : r ≡ level → (x : List ℕ) → note_learnt epoch but level levels stamps learnt (drop i row) ≡ x → note_learnt epoch but level levels (set stamps (get_or row i 0 / 2) epoch) learnt (drop (i + 1) row) ≡ x
      learnt_here e x h = learnt_step x learnt true (eq-eqb _ _ (level_is ∙ e)) refl h

      pub here_here : r ≡ level → (x : ℕ) → note_here epoch but level levels stamps here' (drop i row) ≡ x → note_here epoch but level levels (set stamps (get_or row i 0 / 2) epoch) (here' + 1) (drop (i + 1) row) ≡ x
      here_here e x h = here_step x (here' + 1) true (eq-eqb _ _ (level_is ∙ e)) refl h

      pub learnt_low : (r ≡ level → ⊥) → (learnt2 x : List ℕ) → learnt2 ≡ learnt ++ (get_or row i 0 ∷ []) → note_learnt epoch but level levels stamps learnt (drop i row) ≡ x → note_learnt epoch but level levels (set stamps (get_or row i 0 / 2) epoch) learnt2 (drop (i + 1) row) ≡ x
      learnt_low n learnt2 x e h = learnt_step x learnt2 false (ne_eqb _ _ (λ q. n (sym level_is ∙ q))) (sym e) h

      pub here_low : (r ≡ level → ⊥) → (x : ℕ) → note_here epoch but level levels stamps here' (drop i row) ≡ x → note_here epoch but level levels (set stamps (get_or row i 0 / 2) epoch) here' (drop (i + 1) row) ≡ x
      here_low n x h = here_step x here' false (ne_eqb _ _ (λ q. n (sym level_is ∙ q))) refl h
