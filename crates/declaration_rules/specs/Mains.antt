-- The functions of the name `main`, summed up.
use Rattle.std.specs.Prelude.{ℕ, nat_eq, Bool, true, ◌&&◌, not, if◌then◌else◌, [], length, Option, None, Some, bytes_eq, codes}
use Rattle.lv_base.specs.declared.kind.Kind.TheVariants as kind
use Rattle.lv_base.specs.declared.fault.SourceFault.TheVariants as fault
use Rattle.c_tree.specs.Tree.{Words, Name, named, Parameters, Body, bBlock, bSkipped, Item, tFunction, Items, no_items, items_and}
use Rattle.c_run.specs.Breaking.{line}
use Rattle.c_meaning.specs.Bindings.{Env, words_type, kind_in, parameter_kinds}
use Rattle.first_broken.specs.declared.lines.Found.{Found}
use Rattle.first_broken.specs.Found.{Summary, summary, both}
use Rattle.first_broken.specs.Seen.{found_of}
use Rattle.declaration_rules.specs.Twice.{same_result}

abbrev pub some_found : Option Found → Option Summary
some_found None = None
some_found (Some f) = Some (found_of f)

-- the result is no `int`, or there are parameters
abbrev pub is_wrong_main : Env → Words → Parameters → Bool
is_wrong_main env ws ps = not (same_result (kind_in (words_type env ws)) (Some kind.Int) && nat_eq (length (parameter_kinds env ps)) 0)

abbrev pub or_nothing : Option Summary → Summary
or_nothing None = summary []
or_nothing (Some s) = s

-- one more `main`, behind those before it
abbrev pub with_main : Env → Option Summary → Words → ℕ → Parameters → Option Summary
with_main env all ws at ps = Some (both (or_nothing all) (summary (line (is_wrong_main env ws ps) fault.NoMain at)))

abbrev pub is_main : Name → Bool
is_main (named n at) = bytes_eq n (codes "main")

abbrev pub with_named : Env → Option Summary → Words → Name → Parameters → Option Summary
with_named env all ws (named n at) ps = if is_main (named n at) then with_main env all ws at ps else all

-- a function whose body is left out is no `main`
abbrev pub with_function : Env → Option Summary → Words → Name → Parameters → Body → Option Summary
with_function env all ws n ps (bBlock a ss b) = with_named env all ws n ps
with_function env all ws n ps (bSkipped a r b) = all

abbrev pub with_item : Env → Option Summary → Item → Option Summary
with_item env all (tFunction ws n ps ats body) = with_function env all ws n ps body
with_item env all _ = all

abbrev pub mains_in : Env → Items → Option Summary
mains_in env no_items = None
mains_in env (items_and is i) = with_item env (mains_in env is) i

-- there is a `main`, and each is right
abbrev pub main_of : Option Summary → Summary
main_of None = summary (line true fault.NoMain 0)
main_of (Some s) = s

abbrev pub main_found : Env → Items → Summary
main_found env is = main_of (mains_in env is)
