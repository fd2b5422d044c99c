-- The typed tree of a source that nothing refuses keeps its facts and runs as the source does.
use Rattle.std.proofs.Common.{◌≡◌, [], ◌∷◌, ◌++◌, map, None, refl, ap, sym, ◌∙◌, subst}
use Rattle.lv_base.specs.declared.kind.Model.{Model}
use Rattle.c_tree.specs.declared.symbol.Symbol.TheVariants as sy
use Rattle.c_tree.specs.Symbols.{sign, signs_of}
use Rattle.c_tree.specs.Denotes.{spelling}
use Rattle.c_tree.specs.Tree.{Items}
use Rattle.c_run.specs.Breaking.{first_broken}
use Rattle.c_meaning.specs.Scope as s
use Rattle.c_meaning.specs.Bindings.{Env}
use Rattle.c_meaning.specs.Constants as c
use Rattle.c_meaning.specs.Program.{functions_of, env_of}
use Rattle.c_meaning.specs.Rules as rules
use Rattle.elaboration_fit_laws.proofs.Fitting.{nil_left}
use Rattle.elaboration_offset_laws.specs.Laws.{SourcesRun, SourcesBreak}
use Rattle.elaboration_offset_laws.specs.Rising.{Rises}
use Rattle.elaboration_offset_laws.proofs.Files.{placed_items}
use Rattle.elaboration_offset_laws.proofs.Lying.{Known, Distinct}
use Rattle.elaboration_offset_laws.proofs.Statements.{read_items}
use Rattle.elaboration_offset_laws.proofs.Whole.{up_to}
use Rattle.elaboration_source_laws.specs.Laws.{TokensRise}
use Rattle.elaboration_body_laws.specs.Held.{HeldSigns}
use Rattle.elaboration_body_laws.specs.Laws.{SourcesTyped}
use Rattle.elaboration_body_laws.proofs.Entries.{all_at}
use Rattle.elaboration_body_laws.proofs.Numbers.{held_items}
use Rattle.elaboration_body_laws.proofs.Spans.{AllSpan, spread_items}
use Rattle.elaboration_body_laws.proofs.Tokens.{tokens_held}
use Rattle.source_refusals.specs.Cells.{passed}
use Rattle.source_refusals.specs.Refusals.{faults_in, refusal_in}
use Rattle.elaboration_laws.specs.Read.{IsRead}
use Rattle.error_call_laws.specs.Laws.{CallsKept}
use Rattle.elaboration_laws.specs.Laws.{SourcesRead, IsFree, TypedKept, RunsKept, PlacesKept}
use Rattle.elaboration_laws.proofs.Limits.{no_broken, no_passed, none_broken, AllSmall, all_small}
use Rattle.elaboration_laws.proofs.Numbers.{objects_short}

pub sources_read_are : TokensRise → SourcesRead
sources_read_are rise source list tree model tokens denotes = record {
  tokens = signs_of list;
  spelled = denotes;
  rises = rise source list tokens;
  held = tokens_held model source list tokens;
}

-- what nothing refuses: it breaks no rule, and no array is too long
record Free (env : Env) (model : Model) (items : Items) : Type 0 where
  right : faults_in env model items ≡ []
  small : AllSmall env.objects

free : (env : Env) (model : Model) (items : Items) → refusal_in env model items ≡ None → Free env model items
free env model items h =
    let b = first_broken (faults_in env model items) in
    let p = passed 0 env.objects in
    record { right = none_broken (faults_in env model items) (no_broken b p h); small = all_small 0 env.objects (no_passed b p h) }

pub typed_kept_are : SourcesTyped → TypedKept
typed_kept_are typed items model read h =
    let g = free (env_of items model) model items h in
    typed read.tokens items model read.spelled read.rises read.held g.right (objects_short (env_of items model) model 0 (env_of items model).objects g.small)

pub runs_kept_are : SourcesRun → SourcesBreak → RunsKept
runs_kept_are runs breaks items model read h =
    let g = free (env_of items model) model items h in
    (runs read.tokens items model read.spelled read.rises g.right, breaks read.tokens items model read.spelled read.rises g.right)

pub places_kept_are : CallsKept → PlacesKept
places_kept_are calls items model read h = calls read.tokens items model read.spelled read.rises (free (env_of items model) model items h).right
