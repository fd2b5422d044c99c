-- A log cut to the chains that are needed, as it is computed: which clauses are needed is a list of marks by number.
use Rattle.std.specs.Prelude.{◌≡◌, ℕ, ◌<◌, Bool, true, false, cond, List, [], ◌∷◌, suc, length, get_or, slice_set}
use Rattle.resolution_log.specs.declared.Chain.{Chain}
use Rattle.resolution_log.specs.Cones.{anew, rank, Used}

abbrev pub need_in : List Bool → ℕ → Bool
need_in marks n = get_or marks n false

-- the marks behind a chain: the clauses that it names are needed
abbrev pub mark_pairs : List (ℕ × ℕ) → List Bool → List Bool
mark_pairs [] marks = marks
mark_pairs (p ∷ ps) marks = mark_pairs ps (slice_set marks p.1 true)

abbrev pub mark_chain : Chain → List Bool → List Bool
mark_chain ch marks = mark_pairs ch.pairs (slice_set marks ch.first true)

-- all clauses that a chain names have numbers below n
abbrev pub PairsBelow : ℕ → List (ℕ × ℕ) → Type 0
PairsBelow n [] = Unit {0}
PairsBelow n (p ∷ ps) = (p.1 < n) × PairsBelow n ps

abbrev pub NamesBelow : ℕ → Chain → Type 0
NamesBelow n ch = (ch.first < n) × PairsBelow n ch.pairs

-- each chain names clauses before it; the first chain has the number n
abbrev pub Ranged : ℕ → List Chain → Type 0
Ranged n [] = Unit {0}
Ranged n (ch ∷ chs) = NamesBelow n ch × Ranged (suc n) chs

-- the clauses that are given are needed
abbrev pub GivenNeeded : ℕ → List Bool → Type 0
GivenNeeded n marks = (k : ℕ) → k < n → need_in marks k ≡ true

abbrev pub Names : (ℕ → Bool) → Chain → Type 0
Names need ch = (need ch.first ≡ true) × Used need ch.pairs

-- each chain that is needed names needed clauses
abbrev pub Closes : (ℕ → Bool) → ℕ → List Chain → Type 0
Closes need n [] = Unit {0}
Closes need n (ch ∷ chs) = (need n ≡ true → Names need ch) × Closes need (suc n) chs

-- each number's place has its rank among those that are needed
abbrev pub AreRanks : (ℕ → Bool) → List ℕ → Type 0
AreRanks need numbers = (k : ℕ) → k < length numbers → get_or numbers k 0 ≡ rank need k

-- a chain with its clauses renamed
abbrev pub renamed : (ℕ → ℕ) → Chain → Chain
renamed f ch = record { first = f ch.first; pairs = anew f ch.pairs }

-- the chains that are needed, their clauses renamed; the first chain has the number n
abbrev pub cut_from : (ℕ → Bool) → ℕ → List Chain → List Chain
cut_from need n [] = []
cut_from need n (ch ∷ chs) = cond (need n) (renamed (rank need) ch ∷ cut_from need (suc n) chs) (cut_from need (suc n) chs)
