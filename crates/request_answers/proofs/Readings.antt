-- The tree that was read is that of the source.
use Rattle.std.proofs.Common.{◌≡◌, ◌∙◌, sym, ap, ℕ, List}
use Rattle.std.specs.Prelude.{Ok, Option, Some, None}
use Rattle.lv_base.specs.declared.kind.Model.{Model}
use Rattle.lv_base.specs.declared.fail.SourceFail.{SourceFail}
use Rattle.c_tree.specs.Tree.{Items}
use Rattle.source_checks.specs.Refusals.{source_refusal}
use Rattle.source_reading.specs.Reading.{checked, source_read, tree_read, unless}

by_refusal : (o : Option SourceFail) (x y : Items) → unless o x ≡ Ok y → x ≡ y
by_refusal None x y h = cc
by_refusal (Some fail) x y h = absurd (cc)

pub same_tree : (model : Model) (source : List ℕ) (x y : Items) → tree_read source ≡ Ok x → source_read model source ≡ Ok y → x ≡ y
same_tree model source x y read h = by_refusal (source_refusal x model) x y (sym (ap (checked model) read) ∙ h)
