-- Lists of broken rules, and truth values.
use Rattle.std.proofs.Common.{◌≡◌, ℕ, Bool, true, false, ◌&&◌, not, List, [], ◌∷◌, ◌++◌, refl}
use Rattle.lv_base.specs.declared.fault.SourceFault.{SourceFault}
use Rattle.c_run.specs.Breaking.{Broken, line}
use Rattle.c_meaning.specs.Rules as rules

pub nil_left : {A : Type 0} (xs ys : List A) → xs ++ ys ≡ [] → xs ≡ []
nil_left [] ys h = refl
nil_left (x ∷ xs) ys h = cc

pub nil_right : {A : Type 0} (xs ys : List A) → xs ++ ys ≡ [] → ys ≡ []
nil_right [] ys h = h
nil_right (x ∷ xs) ys h = cc

pub line_holds : (b : Bool) (f : SourceFault) (at : ℕ) → line b f at ≡ [] → b ≡ false
line_holds true f at h = cc
line_holds false f at h = refl

pub not_false : (b : Bool) → not b ≡ false → b ≡ true
not_false true h = refl
not_false false h = cc

pub not_true : (b : Bool) → not b ≡ true → b ≡ false
not_true true h = cc
not_true false h = refl

pub and_left : (a b : Bool) → a && b ≡ true → a ≡ true
and_left true b h = refl
and_left false b h = cc

pub and_right : (a b : Bool) → a && b ≡ true → b ≡ true
and_right true b h = h
and_right false b h = cc

-- lines are tried where no part is broken
pub unless_lines : (parts lines : List Broken) → rules.unless parts lines ≡ [] → lines ≡ []
unless_lines [] lines h = h
unless_lines (x ∷ xs) lines h = cc
