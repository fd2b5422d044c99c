-- The lengths of a source that nothing refuses are short.
use Rattle.std.proofs.Common.{◌≡◌, ℕ, ◌≤◌, true, false, List, [], ◌∷◌, map, Option, None, Some, ℤ, pos, ◌≤ℤ◌, refl, subst, arith}
use Rattle.std.specs.Prelude.{int_lt}
use Rattle.std.proofs.lemmas.Int.{ints}
use Rattle.lv_base.specs.declared.kind.Kind.TheVariants as kind
use Rattle.lv_base.specs.declared.kind.Model.{Model}
use Rattle.lv_base.specs.Integers.{InRange}
use Rattle.c_meaning.specs.Scope as s
use Rattle.c_meaning.specs.Bindings.{Env, Entry, Object, Entity, anObjectOf, aFunctionOf, aConstantOf, aTypeOf, aTagOf, aNameOf, nothingOf, constant_value, declared_at, size_of_object}
use Rattle.c_types.specs.Elaborated as el
use Rattle.elaboration_offset_laws.proofs.Lying.{Known}
use Rattle.elaboration_body_laws.specs.Short.{AreShort}
use Rattle.elaboration_body_laws.proofs.Entries.{AllAt}
use Rattle.elaboration_body_laws.proofs.Spans.{SpanOf, AllSpan}
use Rattle.elaboration_laws.proofs.Limits.{AllSmall}

length_short : (o : Object) → size_of_object (Some o) ≤ 1024 → el.length_of o.length ≤ 1024
length_short o h = by_length o.length h
  where
    by_length : (n : Option ℕ) → elim n [ None ↦ 1 | Some m ↦ m ] ≤ 1024 → el.length_of n ≤ 1024
    by_length None q = omega arith
    by_length (Some m) q = q

pub objects_short : (env : Env) (model : Model) (number : ℕ) (os : List Object) → AllSmall os → AreShort (el.objects_from env model number os)
objects_short env model number [] h = tt
objects_short env model number (o ∷ os) h = (length_short o h.0, objects_short env model _ os h.1)
