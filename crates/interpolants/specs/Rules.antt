-- The formula of a cut by McMillan's rules, as its truth under an assignment of the variables. The clauses before the cut are those with
-- a number below the edge.
use Rattle.std.specs.Prelude.{ℕ, Bool, true, false, ◌&&◌, ◌||◌, List, [], ◌∷◌, ◌++◌, zero, suc, drop, take, slice_index_or}
use Rattle.prop.specs.declared.Lit.{Lit}
use Rattle.prop.specs.Logic.{lit_value}
use Rattle.prop.specs.Trues.{listed}
use Rattle.resolution_log.specs.declared.Chain.{Chain}
use Rattle.resolution_log.specs.Codes.{all_vars}

-- a clause from the edge on has the variable
abbrev pub is_behind : List (List Lit) → ℕ → ℕ → Bool
is_behind clauses edge x = listed (all_vars (drop edge clauses)) x

-- a clause before the edge has the variable
abbrev pub is_before : List (List Lit) → ℕ → ℕ → Bool
is_before clauses edge x = listed (all_vars (take edge clauses)) x

-- a clause before the cut: one of its literals whose variable occurs behind the cut is true
abbrev pub some_holds : (ℕ → Bool) → (ℕ → Bool) → List Lit → Bool
some_holds behind v [] = false
some_holds behind v (l ∷ c) = (behind l.var && lit_value v l) || some_holds behind v c

-- the clauses in order, those behind the cut being true
abbrev pub leaves : (ℕ → Bool) → (ℕ → Bool) → ℕ → List (List Lit) → List Bool
leaves behind v edge [] = []
leaves behind v zero (c ∷ cs) = true ∷ leaves behind v zero cs
leaves behind v (suc edge) (c ∷ cs) = some_holds behind v c ∷ leaves behind v edge cs

-- a resolution: a conjunction where the pivot occurs behind the cut, else a disjunction
abbrev pub joined : Bool → Bool → Bool → Bool
joined true x y = x && y
joined false x y = x || y

-- the steps of a chain, from a clause of this truth; clauses by their numbers have the truths known
abbrev pub steps_truth : (ℕ → Bool) → List Bool → Bool → List (ℕ × ℕ) → Bool
steps_truth behind known x [] = x
steps_truth behind known x (p ∷ ps) = steps_truth behind known (joined (behind p.0) x (slice_index_or known p.1 true)) ps

-- a chain's result
abbrev pub chain_truth : (ℕ → Bool) → List Bool → Chain → Bool
chain_truth behind known ch = steps_truth behind known (slice_index_or known ch.first true) ch.pairs

-- the truths known, and then those of the results of chains
abbrev pub truths_after : (ℕ → Bool) → List Bool → List Chain → List Bool
truths_after behind known [] = known
truths_after behind known (ch ∷ chs) = truths_after behind (known ++ chain_truth behind known ch ∷ []) chs

-- the truths of clauses and results at a cut
abbrev pub truths : List (List Lit) → List Chain → ℕ → (ℕ → Bool) → List Bool
truths clauses log edge v =
    truths_after (is_behind clauses edge) (leaves (is_behind clauses edge) v edge clauses) log

-- the last of some truths
abbrev pub last_of : List Bool → Bool
last_of [] = true
last_of (x ∷ []) = x
last_of (x ∷ y ∷ xs) = last_of (y ∷ xs)

-- the truth of the last result at a cut
abbrev pub cut_truth : List (List Lit) → List Chain → ℕ → (ℕ → Bool) → Bool
cut_truth clauses log edge v = last_of (truths clauses log edge v)
