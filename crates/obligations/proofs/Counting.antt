-- Error nodes among those that are left.
use Rattle.std.proofs.Common.{◌≡◌, ℕ, ◌+◌, ◌-◌, ◌<◌, ◌≤◌, Bool, true, false, List, [], ◌∷◌, length, drop, refl, sym, ap, ◌∙◌, zero, suc, arith, slice_index_or, if◌then◌else◌}
use Rattle.std.proofs.lemmas.List.{drop_more}
use Rattle.c_graph.specs.declared.graph.NodeId.{NodeId}
use Rattle.c_graph.specs.declared.graph.Node.{Node}
use Rattle.obligations.specs.Questions.{errors_from, is_error}

past_end : (xs : List Node) (i : ℕ) → length xs ≤ i → drop i xs ≡ []
past_end [] zero le = refl
past_end [] (suc i) le = refl
past_end (x ∷ xs) zero le = absurd (omega (arith, le))
past_end (x ∷ xs) (suc i) le = past_end xs i (omega (arith, le))

pub none_left : (n : ℕ) (xs : List Node) (i : ℕ) → length xs ≤ i → errors_from n (drop i xs) ≡ []
none_left n xs i le = ap (errors_from n) (past_end xs i le)

-- at an error node, and at any other
pub error_next : (xs : List Node) (i : ℕ) (x : Node) → i < length xs → x ≡ slice_index_or xs i x → is_error x ≡ true
    → errors_from i (drop i xs) ≡ record { 0 = i } ∷ errors_from (i + 1) (drop (i + 1) xs)
error_next xs i x lt at e =
    let d : drop i xs ≡ x ∷ drop (i + 1) xs = drop_more xs i x lt ∙ ap (λ (t : Node). t ∷ drop (i + 1) xs) (sym at) in
    ap (errors_from i) d ∙ ap (λ (b : Bool). if b then record { 0 = i } ∷ errors_from (i + 1) (drop (i + 1) xs) else errors_from (i + 1) (drop (i + 1) xs)) e

pub other_next : (xs : List Node) (i : ℕ) (x : Node) → i < length xs → x ≡ slice_index_or xs i x → is_error x ≡ false
    → errors_from i (drop i xs) ≡ errors_from (i + 1) (drop (i + 1) xs)
other_next xs i x lt at e =
    let d : drop i xs ≡ x ∷ drop (i + 1) xs = drop_more xs i x lt ∙ ap (λ (t : Node). t ∷ drop (i + 1) xs) (sym at) in
    ap (errors_from i) d ∙ ap (λ (b : Bool). if b then record { 0 = i } ∷ errors_from (i + 1) (drop (i + 1) xs) else errors_from (i + 1) (drop (i + 1) xs)) e

-- the error node after which so many are left
pub error_later : (whole : List NodeId) (i j left : ℕ) (x : NodeId) (rest : List NodeId) → whole ≡ x ∷ rest → 0 < left → left < length whole
    → (left - 1 < length rest) × (slice_index_or rest (left - 1) (record { 0 = 0 }) ≡ slice_index_or whole left (record { 0 = 0 }))
error_later whole i j zero x rest e some lt = absurd (omega (arith, some))
error_later whole i j (suc left) x rest e some lt =
    let z : suc left - 1 ≡ left = omega arith in
    let size : length whole ≡ suc (length rest) = ap length e in (
      omega (arith, lt, size),
      ap (λ (k : ℕ). slice_index_or rest k (record { 0 = 0 })) z ∙ sym (ap (λ (w : List NodeId). slice_index_or w (suc left) (record { 0 = 0 })) e),
    )
