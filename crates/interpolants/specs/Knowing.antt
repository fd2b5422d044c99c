-- What is known of clauses and a log at every cut.
use Rattle.std.specs.Prelude.{◌≡◌, List, [], length}
use Rattle.prop.specs.declared.Lit.{Lit}
use Rattle.resolution_log.specs.declared.Chain.{Chain}
use Rattle.interpolants.specs.declared.formulas.Known.{Known}
use Rattle.interpolants.specs.Sources.{AreEnds, IsCone, lows_after}

pub record IsKnown (clauses : List (List Lit)) (log : List Chain) (k : Known) : Type 0 where
  pub ends : AreEnds clauses k.ends
  pub clauses_of : k.cone.clauses ≡ length clauses
  pub lows : k.cone.lows.items ≡ lows_after (length clauses) [] log
  pub many : length k.cone.lows.items ≡ length log
  pub long : length k.cone.needed.items ≡ length log
  pub cone : IsCone (length clauses) k.cone.needed.items log
