-- How a list of clauses lies in one flat list: the end of each clause is kept, and each begins where the last ended.
use Rattle.std.specs.Prelude.{◌≡◌, ℕ, ◌-◌, ◌≤◌, List, [], ◌∷◌, take, drop, zero, suc, slice_index}

-- the pieces between a beginning and these ends
abbrev pub pieces : {A : Type 0} → ℕ → List ℕ → List A → List (List A)
pieces from [] xs = []
pieces from (e ∷ es) xs = take (e - from) (drop from xs) ∷ pieces e es xs

-- the ends rise from here to n, which is the last
abbrev pub Rising : ℕ → List ℕ → ℕ → Type 0
Rising from [] n = from ≡ n
Rising from (e ∷ es) n = (from ≤ e) × Rising e es n

-- where the piece with this number begins
abbrev pub start_of : ℕ → List ℕ → ℕ → ℕ
start_of from es zero = from
start_of from es (suc k) = slice_index es k
