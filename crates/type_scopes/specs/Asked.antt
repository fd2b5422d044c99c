-- What a walk over declarations asks of a place.
use Rattle.std.specs.Prelude.{ℕ, nat_lt, nat_le, Bool, false, ◌||◌, Option, None, Some}
use Rattle.c_meaning.specs.Scope.{Scope, begin_of}
use Rattle.c_meaning.specs.Bindings as b
use Rattle.type_scopes.specs.declared.links.Span.{Span}
use Rattle.type_scopes.specs.Walking.{last_of}

-- a scope that begins no later than that of the declaration
abbrev pub no_deeper : ℕ → Option b.Entry → Bool
no_deeper depth None = false
no_deeper depth (Some e) = nat_le depth (begin_of e.declared.scope)

-- no declaration of the span is seen at the token, or each is in no inner scope
abbrev pub is_hidden : Span → ℕ → Option b.Entry → Bool
is_hidden s at best = nat_lt at s.from || (nat_lt s.to at || no_deeper s.high best)

-- no declaration of the span is in the scope: each ends or begins before it does
abbrev pub is_apart : Span → Scope → Bool
is_apart s scope = nat_lt s.to (last_of scope) || nat_lt s.high (begin_of scope)

abbrev pub is_elsewhere : Span → ℕ → Bool
is_elsewhere s at = nat_lt at s.from || nat_lt s.to at

abbrev pub has_no_number : Span → ℕ → Bool
has_no_number s number = nat_lt number s.low || nat_lt s.high number
