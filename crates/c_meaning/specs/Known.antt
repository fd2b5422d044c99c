-- The functions that mean something without a body.
use Rattle.std.specs.Prelude.{ℕ, List, [], ◌∷◌, Option, find, bytes_eq, codes}
use Rattle.std.specs.Option.{option_map}
use Rattle.lv_base.specs.declared.kind.Kind.{Kind}
use Rattle.lv_base.specs.declared.kind.Kind.TheVariants as kind

-- to reach the error, to end the run, or to draw the next input, a value of this kind
pub data Known : Type 0 where
  reaches : Known
  aborts : Known
  draws : (kind : Kind) → Known

pub record Named : Type 0 where
  pub name : List ℕ
  pub means : Known

abbrev pub named_as : List ℕ → Known → Named
named_as name means = record { name = name; means = means }

abbrev pub KNOWN : List Named
KNOWN =
    named_as (codes "reach_error") reaches
    ∷ named_as (codes "abort") aborts
    ∷ named_as (codes "__VERIFIER_nondet_bool") (draws kind.Bool)
    ∷ named_as (codes "__VERIFIER_nondet_char") (draws kind.Char)
    ∷ named_as (codes "__VERIFIER_nondet_uchar") (draws kind.UChar)
    ∷ named_as (codes "__VERIFIER_nondet_short") (draws kind.Short)
    ∷ named_as (codes "__VERIFIER_nondet_ushort") (draws kind.UShort)
    ∷ named_as (codes "__VERIFIER_nondet_int") (draws kind.Int)
    ∷ named_as (codes "__VERIFIER_nondet_uint") (draws kind.UInt)
    ∷ named_as (codes "__VERIFIER_nondet_unsigned") (draws kind.UInt)
    ∷ named_as (codes "__VERIFIER_nondet_long") (draws kind.Long)
    ∷ named_as (codes "__VERIFIER_nondet_ulong") (draws kind.ULong)
    ∷ named_as (codes "__VERIFIER_nondet_longlong") (draws kind.LongLong)
    ∷ named_as (codes "__VERIFIER_nondet_ulonglong") (draws kind.ULongLong)
    ∷ []

abbrev pub known_of : List ℕ → Option Known
known_of name = option_map (λ k. k.means) (find (λ k. bytes_eq k.name name) KNOWN)
