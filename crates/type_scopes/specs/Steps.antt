-- One word more of a declaration's words.
use Rattle.std.specs.Prelude.{ℕ, Bool, true, if◌then◌else◌}
use Rattle.c_tree.specs.declared.tree.Enumerator.{Enumerator, Plain, Valued'}
use Rattle.c_tree.specs.Tree.{Word, wConst, wTypedef}
use Rattle.c_meaning.specs.Bindings.{Env, entity_of, is_const_entity}

-- the words are const, or this one says so
abbrev pub const_with : Env → Word → Bool → Bool
const_with env (wConst w at) found = true
const_with env (wTypedef n at) found = if is_const_entity (entity_of env n at) then true else found
const_with env _ found = found

-- the offset of a constant's name
abbrev pub place_of : Enumerator → ℕ
place_of (Plain c n at) = at
place_of (Valued' c n at a p e) = at
