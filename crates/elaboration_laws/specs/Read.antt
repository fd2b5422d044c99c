-- Trees that were read from tokens.
use Rattle.std.specs.Prelude.{List}
use Rattle.lv_base.specs.declared.kind.Model.{Model}
use Rattle.c_tree.specs.declared.symbol.SymbolAt.{SymbolAt}
use Rattle.c_tree.specs.Tree.{Items}
use Rattle.c_tree.specs.Denotes.{IsSpelled}
use Rattle.elaboration_offset_laws.specs.Rising.{Rises}
use Rattle.elaboration_body_laws.specs.Held.{HeldSigns}

-- The tree is that of some tokens, whose offsets rise, whose names have letters, and whose numbers and characters are values of
-- their kinds.
pub record IsRead (items : Items) (model : Model) : Type 0 where
  pub tokens : List SymbolAt
  pub spelled : IsSpelled tokens items
  pub rises : Rises 0 tokens
  pub held : HeldSigns model tokens
