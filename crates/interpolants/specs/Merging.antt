-- Two truths joined, where one truth swallows the other.
use Rattle.std.specs.Prelude.{ℕ, ◌≡◌, Bool, true, false, ◌&&◌, ◌||◌, List}
use Rattle.interpolants.specs.declared.plain.Settled.{Settled}
use Rattle.interpolants.specs.declared.plain.Settled.TheVariants.{Left, Right, Swallowed, Open}

-- a disjunction, in which true swallows the other, or a conjunction, in which false does
abbrev pub merged : Bool → Bool → Bool → Bool
merged true x y = x || y
merged false x y = x && y

-- what two joined truths are in each store
abbrev pub IsSettled : Bool → (List ℕ → Bool) → (List ℕ → Bool) → Settled → Type 0
IsSettled b f g Left = (store : List ℕ) → merged b (f store) (g store) ≡ f store
IsSettled b f g Right = (store : List ℕ) → merged b (f store) (g store) ≡ g store
IsSettled b f g Swallowed = (store : List ℕ) → merged b (f store) (g store) ≡ b
IsSettled b f g Open = Unit {0}
