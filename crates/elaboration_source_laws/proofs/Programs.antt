-- Trees of a source's tokens that break no rule.
use Rattle.std.proofs.Common.{◌≡◌, ℕ, zero, suc, ◌<◌, List, [], ◌∷◌, length, map, Some, bytes_eq, refl, arith}
use Rattle.std.specs.Prelude.{slice_get}
use Rattle.std.proofs.lemmas.List.Quantifiers.{position-Some}
use Rattle.c_run.specs.Breaking.{Broken}
use Rattle.c_tree.specs.Denotes.{tree_of}
use Rattle.c_tree.specs.Symbols.{signs_of}
use Rattle.c_meaning.specs.Good.{or_control}
use Rattle.c_meaning.specs.Program.{Function, functions_of, env_of}
use Rattle.elaboration_fit_laws.specs.Whole.{SourcesFit}
use Rattle.elaboration_offset_laws.specs.Laws.{SourcesHold, GoodSources, ObjectsTyped, ParametersTyped}
use Rattle.elaboration_source_laws.specs.Laws.{TokensRise, GoodPrograms, CallsFound, ObjectsKept}
use Rattle.elaboration_source_laws.proofs.Letters.{letters_of}

pub good_programs_are : TokensRise → GoodSources → GoodPrograms
good_programs_are rise goods source list tree model tokens denotes good = goods (signs_of list) (tree_of tree) model denotes (rise source list tokens) good

or_left : (xs ys : List Broken) → or_control xs ys ≡ [] → xs ≡ []
or_left [] ys h = refl
or_left (x ∷ xs) ys h = cc

there_at : (fs : List Function) (n : ℕ) → n < length (map (λ f. f.name) fs) → (f : Function) × (slice_get fs n ≡ Some f)
there_at [] n h = absurd (omega (arith, h))
there_at (f ∷ fs) zero h = (f, refl)
there_at (f ∷ fs) (suc n) h = there_at fs n (omega (arith, h))

pub calls_found_are : TokensRise → SourcesHold → SourcesFit → CallsFound
calls_found_are rise holds fits source list tree model tokens denotes good =
    let items = tree_of tree in
    let env = env_of items model in
    let right = or_left _ _ good in
    let fit = fits items model (holds (signs_of list) items model denotes (rise source list tokens) right) right in
    (fit.0.bodies, (λ name number h. there_at (functions_of env items) number (position-Some (λ m. bytes_eq m name) (map (λ f. f.name) (functions_of env items)) number [] h).0))

pub objects_kept_are : TokensRise → ObjectsTyped → ParametersTyped → ObjectsKept
objects_kept_are rise objects parameters source list tree model tokens denotes good =
    let rises = rise source list tokens in
    let right = or_left _ _ good in
    (objects (signs_of list) (tree_of tree) model denotes rises (letters_of source list tokens) right, parameters (signs_of list) (tree_of tree) model denotes rises right)
