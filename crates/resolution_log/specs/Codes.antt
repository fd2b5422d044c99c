-- Dense numbers for the literals that occur: the variables in rising order are numbered from 0, and a literal's code is
-- twice its variable's number, and one more where it is negative.
use Rattle.std.specs.Prelude.{◌≡◌, ℕ, ◌+◌, ◌*◌, ◌<◌, Bool, true, List, [], ◌∷◌, ◌++◌, length, cond, nat_eq, suc}
use Rattle.prop.specs.declared.Lit.{Lit}
use Rattle.prop.specs.Trues.{listed}
use Rattle.prop.specs.Steps.{has, Has, In}

-- the variables of clauses
abbrev pub vars_of : List Lit → List ℕ
vars_of [] = []
vars_of (l ∷ c) = l.var ∷ vars_of c

abbrev pub all_vars : List (List Lit) → List ℕ
all_vars [] = []
all_vars (c ∷ cs) = vars_of c ++ all_vars cs

-- a variable's number, and past all of these where it does not occur
abbrev pub place : List ℕ → ℕ → ℕ
place [] v = v
place (x ∷ xs) v = cond (nat_eq x v) 0 (suc (place xs v))

abbrev pub code_of : List ℕ → Lit → ℕ
code_of vars l = 2 * place vars l.var + cond l.positive 0 1

abbrev pub codes_of : List ℕ → List Lit → List ℕ
codes_of vars [] = []
codes_of vars (l ∷ c) = code_of vars l ∷ codes_of vars c

abbrev pub all_codes : List ℕ → List (List Lit) → List (List ℕ)
all_codes vars [] = []
all_codes vars (c ∷ cs) = codes_of vars c ∷ all_codes vars cs

-- every variable of a clause is listed
abbrev pub Covers : List ℕ → List Lit → Type 0
Covers vars [] = Unit {0}
Covers vars (l ∷ c) = (listed vars l.var ≡ true) × Covers vars c

abbrev pub CoversAll : List ℕ → List (List Lit) → Type 0
CoversAll vars [] = Unit {0}
CoversAll vars (c ∷ cs) = Covers vars c × CoversAll vars cs

abbrev pub AllBelow : ℕ → List ℕ → Type 0
AllBelow n [] = Unit {0}
AllBelow n (k ∷ ks) = (k < n) × AllBelow n ks

abbrev pub RowsBelow : ℕ → List (List ℕ) → Type 0
RowsBelow n [] = Unit {0}
RowsBelow n (r ∷ rs) = AllBelow n r × RowsBelow n rs

-- a list of codes has the codes of the clause's literals, and no other
abbrev pub IsRow : List ℕ → List ℕ → List Lit → Type 0
IsRow vars r c = ((l : Lit) → listed r (code_of vars l) ≡ has c l) × AllBelow (2 * length vars) r

pub data AreRows (vars : List ℕ) : List (List ℕ) → List (List Lit) → Type 0 where
  none : AreRows vars [] []
  also : {r : List ℕ} {c : List Lit} {rs : List (List ℕ)} {cs : List (List Lit)} → IsRow vars r c → AreRows vars rs cs → AreRows vars (r ∷ rs) (c ∷ cs)
