-- An environment's entries are its declarations, in their order.
use Rattle.std.proofs.Common.{◌≡◌, ℕ, Bool, true, false, if◌then◌else◌, List, [], ◌∷◌, ◌++◌, map, append-nil, append_assoc, ap, sym, ◌∙◌}
use Rattle.std.proofs.lemmas.List.{map-append}
use Rattle.lv_base.specs.declared.kind.Model.{Model}
use Rattle.c_tree.specs.Tree as t
use Rattle.c_meaning.specs.Scope as s
use Rattle.c_meaning.specs.Bindings.{Env, Object, Entity, anObjectOf, aFunctionOf, aConstantOf, aTypeOf, aTagOf, aNameOf, nothingOf}
use Rattle.c_meaning.specs.Constants as c
use Rattle.c_meaning.specs.Program.{env_of}

abbrev pub declared_in : Env → List s.Declared
declared_in env = map (λ e. e.declared) env.entries

entered_adds : (env : Env) (d : s.Declared) (x : Entity) → declared_in (c.entered env d x) ≡ declared_in env ++ d ∷ []
entered_adds env d x = map-append (λ e. e.declared) env.entries _

new_adds : (env : Env) (d : s.Declared) (o : Object) → declared_in (c.new_object env d o) ≡ declared_in env ++ d ∷ []
new_adds env d o = map-append (λ e. e.declared) env.entries _

placed_adds : (b : Bool) (env : Env) (d : s.Declared) (o : Object) (n : ℕ) → declared_in (if b then c.entered env d (anObjectOf n) else c.new_object env d o) ≡ declared_in env ++ d ∷ []
placed_adds true env d o n = entered_adds env d (anObjectOf n)
placed_adds false env d o n = new_adds env d o

object_adds : (env : Env) (d : s.Declared) (o : Object) (x : Entity) → declared_in (c.object_or_same env d o x) ≡ declared_in env ++ d ∷ []
object_adds env d o (anObjectOf n) = placed_adds (s.is_file d.scope) env d o n
object_adds env d o (aFunctionOf r ps) = new_adds env d o
object_adds env d o (aConstantOf v) = new_adds env d o
object_adds env d o (aTypeOf k x) = new_adds env d o
object_adds env d o (aTagOf k) = new_adds env d o
object_adds env d o (aNameOf k x) = new_adds env d o
object_adds env d o nothingOf = new_adds env d o

declare_adds : (model : Model) (env : Env) (d : s.Declared) (w : s.What) → declared_in (c.declare model env d w) ≡ declared_in env ++ d ∷ []
declare_adds model env d (s.anObject ws f i) = object_adds env d _ (c.earlier_in_file env d.name)
declare_adds model env d (s.aParameter ws) = map-append (λ e. e.declared) env.entries _
declare_adds model env d (s.aFunction ws ps body) = entered_adds env d _
declare_adds model env d (s.aTypedef ws) = entered_adds env d _
declare_adds model env d (s.anEnumerator es) = entered_adds env d _
declare_adds model env d (s.aTag es) = entered_adds env d _
declare_adds model env d (s.aName ws) = entered_adds env d _

all_added : (model : Model) (env : Env) (ds : List s.Declared) → declared_in (c.bind_from model env ds) ≡ declared_in env ++ ds
all_added model env [] = sym (append-nil (declared_in env))
all_added model env (d ∷ ds) =
    all_added model (c.declare model env d d.what) ds ∙ ap (λ xs. xs ++ ds) (declare_adds model env d d.what) ∙ append_assoc (declared_in env) (d ∷ []) ds

pub declares_all : (items : t.Items) (model : Model) → declared_in (env_of items model) ≡ s.in_items items
declares_all items model = all_added model c.no_names (s.in_items items)
