-- Sets of objects.
use Rattle.std.specs.Prelude.{◌≡◌, ℕ, ◌||◌, List}
use Rattle.c_typed.specs.Rules as r

-- the same objects, in whatever order and however often
abbrev pub Same : List ℕ → List ℕ → Type 0
Same xs ys = (x : ℕ) → r.has xs x ≡ r.has ys x

-- those before and these
abbrev pub Gains : (before objects after : List ℕ) → Type 0
Gains before objects after = (x : ℕ) → r.has after x ≡ (r.has before x || r.has objects x)
