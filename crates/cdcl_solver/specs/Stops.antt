-- Where propagation stops.
use Rattle.std.specs.Prelude.{◌≡◌, ℕ, true, List, []}
use Rattle.prop.specs.declared.Lit.{Lit}
use Rattle.prop.specs.Steps.{Has, In}
use Rattle.clause_learning.specs.declared.Entry.{Entry}
use Rattle.clause_learning.specs.Trail.{Set}
use Rattle.dense_trail.specs.declared.Trail.{Trail}
use Rattle.dense_trail.specs.Dense.{known_of, entries_of}
use Rattle.watched_clauses.specs.Kept.{IsFalse}
use Rattle.cdcl_solver.specs.declared.board.Stop.{Stop}
use Rattle.cdcl_solver.specs.declared.board.Stop.TheVariants.{AllMet, Clash}

abbrev pub trail_entries : List ℕ → Trail → List Entry
trail_entries vars t = entries_of vars t.levels.items t.reasons.items t.codes.items

abbrev pub IsStop : List ℕ → List (List ℕ) → Trail → Stop → Type 0
IsStop vars rows t AllMet = (c : List Lit) → In (known_of vars rows) c → ((l : Lit) → Has c l → Set (trail_entries vars t) l → ⊥) → c ≡ []
IsStop vars rows t (Clash k) = IsFalse rows t k
