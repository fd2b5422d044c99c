-- Arrays that are not too long.
use Rattle.std.specs.Prelude.{◌≤◌, List, [], ◌∷◌}
use Rattle.c_typed.specs.Tree.{Object}

-- Each has at most as many elements as one array may have, so that `sizeof` of it is in range.
abbrev pub AreShort : List Object → Type 0
AreShort [] = Unit {0}
AreShort (o ∷ os) = (o.length ≤ 1024) × AreShort os
