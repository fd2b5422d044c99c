-- Entries that lead from each name to the one before it in its bucket, and a table that leads to the last of each.
use Rattle.std.specs.Prelude.{◌≡◌, ℕ, zero, suc, ◌<◌, List, [], Option, None, Some, Bool, false, cond, nat_eq, length, map, slice_get, get_or, ◌⊎◌}
use Rattle.typedef_names.specs.declared.names.Entry.{Entry}
use Rattle.typedef_names.specs.Buckets.{bucket}

abbrev pub names_of : List Entry → List (List ℕ)
names_of es = map (λ e. e.name) es

abbrev pub is_in : ℕ → Option Entry → Bool
is_in b None = false
is_in b (Some e) = nat_eq (bucket e.name) b

-- among the first so many, one more than the place of the last in the bucket, and 0 where there is none
abbrev pub newest : ℕ → List Entry → ℕ → ℕ
newest b es zero = 0
newest b es (suc k) = cond (is_in b (slice_get es k)) (suc k) (newest b es k)

pub record IsKept (es : List Entry) (table : List ℕ) : Type 0 where
  pub linked : (k : ℕ) (e : Entry) → slice_get es k ≡ Some e → e.older ≡ newest (bucket e.name) es k
  pub heads : (b : ℕ) → b < 65521 → get_or table b 0 ≡ newest b es (length es)
  pub sized : (table ≡ []) ⊎ (length table ≡ 65521)
