-- What a walk back over declarations finds.
use Rattle.std.specs.Prelude.{ℕ, zero, suc, nat_eq, Bool, false, ◌&&◌, not, if◌then◌else◌, cond, List, Option, None, Some, slice_get, bytes_eq}
use Rattle.c_tree.specs.Tree.{Initial, iNothing}
use Rattle.c_meaning.specs.Program.{is_number, initial_in}
use Rattle.c_meaning.specs.Scope.{Scope, file, block, Declared, is_file, is_same, is_tag}
use Rattle.c_meaning.specs.Bindings.{Entry, inner, is_visible}

-- of two declarations that a token may name, where the second was declared later
abbrev pub joined : Option Entry → Option Entry → Option Entry
joined None later = later
joined (Some e) None = Some e
joined (Some e) (Some l) = Some (inner (Some e) l)

-- the declaration, where the token may name it
abbrev pub seen_one : Bool → List ℕ → ℕ → Entry → Option Entry
seen_one tag name at e = if is_visible tag name at e then Some e else None

-- the first of two that pass a test, where the second was found before
abbrev pub or_found : Bool → Entry → Option Entry → Option Entry
or_found is_it e later = if is_it then Some e else later

-- the initial value in this declaration, where it is one of the object
abbrev pub own_initial : ℕ → Entry → Initial
own_initial number e = if is_number number e.entity then initial_in e.declared.what else iNothing

-- the last token of a scope, by its offset
abbrev pub last_of : Scope → ℕ
last_of file = 4294967295
last_of (block first last) = last

-- a declaration of the token at this offset, but for tags
abbrev pub is_placed : ℕ → Entry → Bool
is_placed at e = nat_eq e.declared.at at && not (is_tag e.declared.what)

abbrev pub is_in_file : List ℕ → Entry → Bool
is_in_file name e = is_file e.declared.scope && (not (is_tag e.declared.what) && bytes_eq e.declared.name name)

-- of one name space, one scope and one name
abbrev pub is_twin : Declared → Entry → Bool
is_twin d e = (if is_tag d.what then is_tag e.declared.what else not (is_tag e.declared.what)) && (is_same d.scope e.declared.scope && bytes_eq d.name e.declared.name)

abbrev pub holds_at : (Entry → Bool) → Option Entry → Bool
holds_at p None = false
holds_at p (Some e) = p e

-- among the first so many, one more than the place of the last that passes the test, and 0 where there is none
abbrev pub last_where : (Entry → Bool) → List Entry → ℕ → ℕ
last_where p es zero = 0
last_where p es (suc k) = cond (holds_at p (slice_get es k)) (suc k) (last_where p es k)
