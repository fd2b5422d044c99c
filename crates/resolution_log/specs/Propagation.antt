-- Unit propagation, and the clauses that add to what it gives. (Empowering clauses: K. Pipatsrisawat and A. Darwiche,
-- On the Power of Clause-Learning SAT Solvers as Resolution Engines, 2011.)
use Rattle.std.specs.Prelude.{◌≡◌, ℕ, List, [], ◌∷◌}
use Rattle.prop.specs.declared.Lit.{Lit}
use Rattle.prop.specs.Logic.{negated}
use Rattle.prop.specs.Steps.{Has, In}

-- What propagation gives from given literals over clauses: the given literals, and each literal of a clause whose
-- other literals all have their complements among what it gives.
pub data Derived (clauses : List (List Lit)) (given : Lit → Type 0) : Lit → Type 0 where
  start : {l : Lit} → given l → Derived clauses given l
  unit : {l : Lit} (c : List Lit) → In clauses c → Has c l → ((m : Lit) → Has c m → (m ≡ l → ⊥) → Derived clauses given (negated m)) → Derived clauses given l

-- a set of literals without a literal and its complement
abbrev pub Quiet : (Lit → Type 0) → Type 0
Quiet S = (l : Lit) → S l → S (negated l) → ⊥

-- a set of literals from which propagation gives no further literal
abbrev pub Closed : List (List Lit) → (Lit → Type 0) → Type 0
Closed clauses S = (c : List Lit) (l : Lit) → In clauses c → Has c l → ((m : Lit) → Has c m → (m ≡ l → ⊥) → S (negated m)) → S l

-- the complements of the literals of r other than t
abbrev pub Others : List Lit → Lit → Lit → Type 0
Others r t l = Has r (negated l) × (negated l ≡ t → ⊥)

-- propagation from the complements of the other literals is not in conflict and does not give t
pub record Empowering (known : List (List Lit)) (r : List Lit) (t : Lit) : Type 0 where
  pub in_it : Has r t
  pub quiet : (l : Lit) → Derived known (Others r t) l → Derived known (Others r t) (negated l) → ⊥
  pub not_given : Derived known (Others r t) t → ⊥

-- A clause that is new over those known: some literal of it makes it empowering (so it is not empty), it has no
-- variable both ways, and as a set of literals it includes no known clause.
pub record IsNew (known : List (List Lit)) (r : List Lit) : Type 0 where
  pub some : (t : Lit) × Empowering known r t
  pub one_sided : (l : Lit) → Has r l → Has r (negated l) → ⊥
  pub includes_none : (c : List Lit) → In known c → ((l : Lit) → Has c l → Has r l) → ⊥
