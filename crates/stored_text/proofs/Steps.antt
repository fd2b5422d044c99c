-- A head that ends too early.
use Rattle.std.proofs.Common.{◌≡◌, ℕ, ◌<◌, ◌≤◌, List, [], ◌∷◌, length, drop, get_or, Option, Some, subst, suc, drop-cons}
use Rattle.std.proofs.lemmas.List.{drop_all}
use Rattle.stored_text.specs.Reading.{head_fault}

pub head_short : (head bytes : List ℕ) (k : ℕ) (whole : Option ℕ) → k < length head → length bytes ≤ k → head_fault (drop k head) k (drop k bytes) ≡ whole → Some k ≡ whole
head_short head bytes k whole lt le e =
    let ch : drop k head ≡ get_or head k 0 ∷ drop (suc k) head = drop-cons head k 0 lt in
    let cb : drop k bytes ≡ [] = drop_all k bytes le in
    subst (λ x. head_fault x k [] ≡ whole) ch (subst (λ x. head_fault (drop k head) k x ≡ whole) cb e)
