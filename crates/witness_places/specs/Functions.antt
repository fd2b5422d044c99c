-- The function in whose body a token stands.
use Rattle.std.specs.Prelude.{ℕ, List, [], ◌&&◌, nat_le, if◌then◌else◌}
use Rattle.c_tree.specs.Tree.{Body, bBlock, bSkipped, named, Item, tSkipped, tFunction, tDeclaration, tEmpty, Items, no_items, items_and}

-- the name of this function where the token stands in its body, else what was found before
abbrev pub in_body : List ℕ → List ℕ → Body → ℕ → List ℕ
in_body before name (bBlock left inner right) at = if nat_le left at && nat_le at right then name else before
in_body before name (bSkipped left raw right) at = before

abbrev pub in_item : List ℕ → Item → ℕ → List ℕ
in_item before (tSkipped extension from raw semicolon) at = before
in_item before (tFunction words (named name from) parameters marks body) at = in_body before name body at
in_item before (tDeclaration declaration) at = before
in_item before (tEmpty from) at = before

-- its name; nothing where the token stands in no body
abbrev pub function_around : Items → ℕ → List ℕ
function_around no_items at = []
function_around (items_and items item) at = in_item (function_around items at) item at
