-- New logs and lean refutations.
use Rattle.std.specs.Prelude.{◌≡◌, ℕ, true, List, [], ◌∷◌, ◌++◌, Some}
use Rattle.prop.specs.declared.Lit.{Lit}
use Rattle.prop.specs.Steps.{Has}
use Rattle.resolution_log.specs.declared.Chain.{Chain}
use Rattle.resolution_log.specs.Chains.{chain_result, pivots_differ}
use Rattle.resolution_log.specs.Propagation.{IsNew}

-- A log that is new over clauses, with its results: its chains are valid, the pivots of one chain differ, and each
-- result is new over the clauses and the earlier results.
pub data New : List (List Lit) → List Chain → List (List Lit) → Type 0 where
  none : {known : List (List Lit)} → New known [] []
  more : {known rs : List (List Lit)} {ch : Chain} {chs : List Chain} {r : List Lit} → chain_result known ch ≡ Some r → pivots_differ ch.pairs ≡ true → IsNew known r → New (known ++ (r ∷ [])) chs rs → New known (ch ∷ chs) (r ∷ rs)

abbrev pub IsNewLog : List (List Lit) → List Chain → Type 0
IsNewLog clauses log = (rs : List (List Lit)) × New clauses log rs

-- A refutation whose pivots differ within each chain, and which is new without its last chain.
pub record Lean (clauses : List (List Lit)) (log : List Chain) : Type 0 where
  pub front : List Chain
  pub last : Chain
  pub results : List (List Lit)
  pub parts : log ≡ front ++ (last ∷ [])
  pub new : New clauses front results
  pub empty : chain_result (clauses ++ results) last ≡ Some []
  pub differ : pivots_differ last.pairs ≡ true

-- the same clause as a set of literals
pub record Same (c d : List Lit) : Type 0 where
  pub to : (l : Lit) → Has c l → Has d l
  pub from : (l : Lit) → Has d l → Has c l

pub data AllSame : List (List Lit) → List (List Lit) → Type 0 where
  none : AllSame [] []
  also : {c d : List Lit} {cs ds : List (List Lit)} → Same c d → AllSame cs ds → AllSame (c ∷ cs) (d ∷ ds)
