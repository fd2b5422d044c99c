-- What is known of a list of broken lines without the list.
use Rattle.std.specs.Prelude.{◌≡◌, Bool, true, if◌then◌else◌, List, ◌++◌, Option, None, Some}
use Rattle.std.specs.List.{list_any}
use Rattle.c_run.specs.Breaking.{Broken, is_before, first_broken}
use Rattle.c_meaning.specs.Rules.{is_typing, unless}

-- the one that is named, and whether lines around them are left aside
pub record Summary : Type 0 where
  pub least : Option Broken
  pub blocks : Bool

abbrev pub summary : List Broken → Summary
summary bs = record { least = first_broken bs; blocks = list_any (λ b. is_typing b.fault) bs }

abbrev pub earlier : Option Broken → Option Broken → Option Broken
earlier None y = y
earlier (Some x) None = Some x
earlier (Some x) (Some y) = if is_before y x then Some y else Some x

abbrev pub both : Summary → Summary → Summary
both f g = record { least = earlier f.least g.least; blocks = if f.blocks then true else g.blocks }

abbrev pub unless_found : Summary → Summary → Summary
unless_found parts lines = if parts.blocks then parts else both parts lines

abbrev pub Joined : Type 0
Joined = (xs ys : List Broken) → summary (xs ++ ys) ≡ both (summary xs) (summary ys)

abbrev pub Tried : Type 0
Tried = (parts lines : List Broken) → summary (unless parts lines) ≡ unless_found (summary parts) (summary lines)
