-- One step of making whole what binds tighter than a level.
use Rattle.std.specs.Prelude.{◌≡◌, ℕ, ◌<◌, vec_len}
use Rattle.parse_stack.specs.declared.stacks.Folded.{Folded}
use Rattle.parse_stack.specs.declared.stacks.Folded.TheVariants as fo
use Rattle.parse_machine.specs.Contexts as m
use Rattle.parse_machine.specs.Expressions as ex
use Rattle.parse_stack.specs.View as v

abbrev pub FoldsTo : m.Inner → ℕ → m.Part → Folded → Type 0
FoldsTo k n e (fo.More p r) = ex.fold k n e ≡ ex.fold (v.inner r) n (v.part p)
FoldsTo k n e (fo.Done p r) = ex.fold k n e ≡ ex.held (v.part p) (v.inner r)

-- there is less left
abbrev pub IsLess : ℕ → Folded → Type 0
IsLess n (fo.More p r) = vec_len r.frames < n
IsLess n (fo.Done p r) = Unit {0}
