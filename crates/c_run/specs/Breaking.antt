-- A rule of the profile that a program breaks, and which of several is named.
use Rattle.std.specs.Prelude.{ℕ, nat_eq, nat_lt, Bool, true, false, if◌then◌else◌, List, [], ◌∷◌, Option, Some, None}
use Rattle.lv_base.specs.declared.fault.SourceFault.{SourceFault}
use Rattle.lv_base.specs.Names.{fault_number}

-- a rule that is broken at an offset
pub record Broken : Type 0 where
  pub fault : SourceFault
  pub at : ℕ

-- one line of the rules, where its test holds
abbrev pub line : Bool → SourceFault → ℕ → List Broken
line true f at = (record { fault = f; at = at }) ∷ []
line false f at = []

-- by offset, then by number
abbrev pub is_before : Broken → Broken → Bool
is_before a b = if nat_eq a.at b.at then nat_lt (fault_number a.fault) (fault_number b.fault) else nat_lt a.at b.at

abbrev pub least_of : Broken → List Broken → Broken
least_of best [] = best
least_of best (b ∷ bs) = least_of (if is_before b best then b else best) bs

-- the first one
abbrev pub first_broken : List Broken → Option Broken
first_broken [] = None
first_broken (b ∷ bs) = Some (least_of b bs)
