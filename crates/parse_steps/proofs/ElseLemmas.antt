-- Tokens that have no clause of their own.
use Rattle.std.proofs.Common.{◌≡◌, ℕ, List, None, refl}
use Rattle.c_tree.specs.declared.symbol.Bracket.{Bracket}
use Rattle.c_tree.specs.declared.symbol.TypeWord.{TypeWord}
use Rattle.c_tree.specs.declared.symbol.Symbol.{Symbol}
use Rattle.c_tree.specs.declared.symbol.Symbol.TheVariants as sy
use Rattle.c_tree.specs.Tree as tr
use Rattle.parse_machine.specs.Contexts as m
use Rattle.parse_machine.specs.Making as mk
use Rattle.parse_machine.specs.Specifiers as sf
use Rattle.parse_machine.specs.Declarations as de

pub tagged_else : (names : List (List ℕ)) (t : Symbol) (at x : ℕ) (n : List ℕ) (y : ℕ) (s : m.Spoken) (w : m.Around) → ((b : Bracket) → t ≡ sy.Open b → ⊥) → sf.step_tagged names t at x n y s w ≡ sf.step_specs names t at (mk.said s s.told (tr.wTag x n y) 1) w
tagged_else names (sy.Open b) at x n y s w h = absurd (h b refl)
tagged_else names t at x n y s w h = refl

pub parameters_else : (names : List (List ℕ)) (t : Symbol) (at : ℕ) (d : m.Declared) (a : ℕ) → ((b : Bracket) → t ≡ sy.Close b → ⊥) → ((w : TypeWord) → t ≡ sy.Type w → ⊥) → de.step_parameters names t at d a ≡ sf.step_specs names t at mk.unspoken (m.aroundParameter d a (mk.tall tr.no_params 0) None)
parameters_else names (sy.Close b) at d a h k = absurd (h b refl)
parameters_else names (sy.Type w) at d a h k = absurd (k w refl)
parameters_else names t at d a h k = refl
