-- One block more.
use Rattle.std.proofs.Common.{◌≡◌, ℕ, suc, ◌+◌, List, ◌++◌, ap, sym, ◌∙◌, append_assoc, arith}
use Rattle.task_gen.specs.Generated.{block_text, blocks_text, head, next_number, number_at, sign_of}

pub number_more : (seed i n : ℕ) → n ≡ number_at seed i → next_number n ≡ number_at seed (i + 1)
number_more seed i n e = let q : suc i ≡ i + 1 = omega arith in ap next_number e ∙ ap (number_at seed) q

pub block_more :
    (seed i c : ℕ) (text more sign : List ℕ) → text ≡ head ++ blocks_text seed i → c ≡ number_at seed (i + 1) → sign ≡ sign_of seed i → more ≡ text ++ block_text i c sign
    → more ≡ head ++ blocks_text seed (i + 1)
block_more seed i c text more sign e number compares grown =
    let q : suc i ≡ i + 1 = omega arith in
    grown
    ∙ ap (λ (t : List ℕ). t ++ block_text i c sign) e
    ∙ append_assoc head (blocks_text seed i) (block_text i c sign)
    ∙ ap (λ (d : ℕ). head ++ (blocks_text seed i ++ block_text i d sign)) (number ∙ ap (number_at seed) (sym q))
    ∙ ap (λ (s : List ℕ). head ++ (blocks_text seed i ++ block_text i (number_at seed (suc i)) s)) compares
    ∙ ap (λ (n : ℕ). head ++ blocks_text seed n) q
