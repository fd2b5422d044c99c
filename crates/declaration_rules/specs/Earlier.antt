-- What is known of all earlier declarations of a name in its scope, from the last of them alone.
use Rattle.std.specs.Prelude.{◌≡◌, ℕ, nat_eq, Bool, true, false, ◌&&◌, ◌||◌, not, if◌then◌else◌, List, Option, None, Some, length, take, slice_get}
use Rattle.std.specs.List.{list_any}
use Rattle.lv_base.specs.declared.kind.Model.{Model}
use Rattle.c_tree.specs.Tree.{Words, Form, Parameters, Initial}
use Rattle.c_meaning.specs.Scope.{Declared, What, anObject, aFunction, is_file}
use Rattle.c_meaning.specs.Bindings.{Entry, Env, words_type, has_const, kind_in, kind_or_int, parameter_kinds}
use Rattle.c_meaning.specs.Constants.{object_length}
use Rattle.c_meaning.specs.Rules.{is_same_kind}
use Rattle.declaration_rules.specs.declared.earlier.Past.{Past}
use Rattle.declaration_rules.specs.Twice.{same_kinds, same_const, same_result, begins, meets}

-- ---- The parts of agreement

-- both arrays, or none
abbrev pub same_shape : Option ℕ → Option ℕ → Bool
same_shape None None = true
same_shape (Some n) (Some m) = true
same_shape _ _ = false

abbrev pub or_zero : Option ℕ → ℕ
or_zero None = 0
or_zero (Some n) = n

-- lengths that do not agree; 0 agrees with each
abbrev pub is_far : ℕ → ℕ → Bool
is_far n m = not (nat_eq n m || (nat_eq n 0 || nat_eq m 0))

-- initializes, or has a body
abbrev pub is_filled : What → Bool
is_filled (anObject ws f i) = begins i
is_filled (aFunction ws ps b) = b
is_filled _ = false

module _ (env : Env) where
  abbrev pub objects_alike : Model → Words → Form → Initial → Words → Form → Initial → Bool
  objects_alike model ws f i vs g j =
      is_same_kind (kind_or_int (words_type env ws)) (kind_or_int (words_type env vs))
      && (same_shape (object_length env model f i) (object_length env model g j)
      && same_const (has_const env ws) (has_const env vs))

  abbrev pub functions_alike : Words → Parameters → Words → Parameters → Bool
  functions_alike ws ps vs qs = same_result (kind_in (words_type env ws)) (kind_in (words_type env vs)) && same_kinds (parameter_kinds env ps) (parameter_kinds env qs)

  -- agree but for lengths, and for what initializes or has a body
  abbrev pub alike : Model → What → What → Bool
  alike model (anObject ws f i) (anObject vs g j) = objects_alike model ws f i vs g j
  alike model (aFunction ws ps b) (aFunction vs qs c) = functions_alike ws ps vs qs
  alike model _ _ = false

  -- of an array, and 0 of anything else
  abbrev pub length_of : Model → What → ℕ
  length_of model (anObject ws f i) = or_zero (object_length env model f i)
  length_of model _ = 0

-- ---- Those before a declaration

abbrev pub is_met : Declared → Entry → Bool
is_met d e = meets d e.declared

-- there are none
abbrev pub nothing : Past
nothing = record { met = false; apart = false; filled = false; length = 0; lengths = false }

-- some of them has a length that does not agree with this one
abbrev pub is_far_from : Past → ℕ → Bool
is_far_from past m = (past.lengths && not (nat_eq m 0)) || is_far past.length m

module _ (env : Env) (model : Model) where
  pub record IsPast (before : List Entry) (d : Declared) (past : Past) : Type 0 where
    pub met : past.met ≡ list_any (is_met d) before
    pub apart : past.apart ≡ list_any (λ e. is_met d e && not (alike env model e.declared.what d.what)) before
    pub filled : past.filled ≡ list_any (λ e. is_met d e && is_filled e.declared.what) before
    pub lengths : (m : ℕ) → is_far_from past m ≡ list_any (λ e. is_met d e && is_far (length_of env model e.declared.what) m) before

  -- of the declaration at a place
  abbrev pub IsPastAt : ℕ → Past → Type 0
  IsPastAt place past = (e : Entry) → slice_get env.entries place ≡ Some e → IsPast (take place env.entries) e.declared past

  abbrev pub ArePasts : ℕ → List Past → Type 0
  ArePasts count pasts = (length pasts ≡ count) × ((k : ℕ) (past : Past) → slice_get pasts k ≡ Some past → IsPastAt k past)

  -- behind one of which this was known
  abbrev pub behind : What → What → Past → Past
  behind earlier what past = record {
    met = true;
    apart = not (alike env model earlier what) || past.apart;
    filled = is_filled earlier || past.filled;
    length = if nat_eq (length_of env model earlier) 0 then past.length else length_of env model earlier;
    lengths = past.lengths || is_far past.length (length_of env model earlier);
  }

  abbrev pub behind_at : What → Option Entry → Option Past → Past
  behind_at what (Some e) (Some past) = behind e.declared.what what past
  behind_at what _ _ = nothing

  -- they leave no room for this declaration
  abbrev pub leave_no_room : Past → Declared → Bool
  leave_no_room past d =
      if is_file d.scope then past.apart || (is_far_from past (length_of env model d.what) || (past.filled && is_filled d.what)) else past.met
