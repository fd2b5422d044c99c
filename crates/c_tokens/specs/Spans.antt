-- How far a form goes from the front of some bytes on.
use Rattle.std.specs.Prelude.{ℕ, ◌≡◌, ◌<◌, ◌≤◌, List, [], ◌∷◌, ◌++◌, length, take, Bool, true}

-- each of these bytes is of a class
abbrev pub Each : (ℕ → Bool) → List ℕ → Type 0
Each class [] = Unit {0}
Each class (b ∷ bytes) = (class b ≡ true) × Each class bytes

-- bytes begin with these
abbrev pub Begins : List ℕ → List ℕ → Type 0
Begins bytes front = (rest : List ℕ) × (bytes ≡ front ++ rest)

-- no bytes at the front are of a form
abbrev pub Never : (List ℕ → Type 0) → List ℕ → Type 0
Never Form bytes = (k : ℕ) → k ≤ length bytes → Form (take k bytes) → ⊥

-- so many bytes at the front are of a form, and no more of them are
pub record Longest (Form : List ℕ → Type 0) (bytes : List ℕ) (n : ℕ) : Type 0 where
  pub there : n ≤ length bytes
  pub formed : Form (take n bytes)
  pub most : (k : ℕ) → n < k → k ≤ length bytes → Form (take k bytes) → ⊥

-- so many bytes at the front are of a form, and no fewer of them are
pub record Shortest (Form : List ℕ → Type 0) (bytes : List ℕ) (n : ℕ) : Type 0 where
  pub there : n ≤ length bytes
  pub formed : Form (take n bytes)
  pub least : (k : ℕ) → k < n → Form (take k bytes) → ⊥
