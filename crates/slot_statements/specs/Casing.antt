-- The cases of a switch, one at a time.
use Rattle.std.specs.Prelude.{ℕ, ◌+◌, List, [], ◌∷◌}
use Rattle.lv_base.specs.declared.kind.Kind.{Kind}
use Rattle.lv_base.specs.declared.kind.Model.{Model}
use Rattle.lv_base.specs.Integers.{converted}
use Rattle.slot_code.specs.declared.flat.Instruction.{Instruction}
use Rattle.slot_code.specs.declared.flat.Instruction.TheVariants as i
use Rattle.slot_code.specs.Statements.{Mark, aLabel, aCase, aDefault}

abbrev pub case_count : Mark → ℕ
case_count m = elim (m.name) [ aLabel l ↦ 0 | aCase v ↦ 1 | aDefault ↦ 0 ]

abbrev pub cases_count : List Mark → ℕ
cases_count [] = 0
cases_count (m ∷ ms) = case_count m + cases_count ms

-- before so many other cases
abbrev pub case_code : Model → ℕ → Kind → ℕ → Mark → List Instruction
case_code model slot k left m =
    elim (m.name) [
      | aLabel l ↦ []
      | aCase v ↦ i.SkipEqual slot (converted k model v) (left + 1 + m.place) ∷ []
      | aDefault ↦ []
    ]
