-- How heights grow with those of their parts.
use Rattle.std.proofs.Common.{◌≡◌, ℕ, suc, ◌≤◌, max, Bool, true, false, if◌then◌else◌, leb, refl, arith, leb-true, leb-false}
use Rattle.parse_machine.specs.Contexts.{Declaring, Declared}
use Rattle.parse_machine.specs.Making.{above}
use Rattle.parse_machine.specs.Heights as ht

pick_le : (c : Bool) (h : ℕ) → (if c then suc h else h) ≤ suc h
pick_le true h = omega arith
pick_le false h = omega arith

pub above_le : (h : ℕ) → above h ≤ suc h
above_le h = pick_le (leb h 200) h

pub above_some : (h : ℕ) → 1 ≤ above h
above_some h = pick (leb h 200) refl
  where
    pick : (c : Bool) → leb h 200 ≡ c → 1 ≤ (if c then suc h else h)
    pick true e = omega arith
    pick false e = omega (arith, leb-false _ _ e)

pub above_grows : (g h : ℕ) → g ≤ h → above g ≤ above h
above_grows g h p = pick (leb g 200) (leb h 200) refl refl
  where
    pick : (c d : Bool) → leb g 200 ≡ c → leb h 200 ≡ d → (if c then suc g else g) ≤ (if d then suc h else h)
    pick true true e f = omega (arith, p)
    pick true false e f = omega (arith, leb-true _ _ e, leb-false _ _ f)
    pick false true e f = omega (arith, p)
    pick false false e f = omega (arith, p)

either_grows : (c : Bool) (x y z w : ℕ) → x ≤ z → y ≤ w → (if c then x else y) ≤ (if c then z else w)
either_grows true x y z w p q = p
either_grows false x y z w p q = q

declarator_grows : (d : Declaring) (g h : ℕ) → g ≤ h → ht.declarator_high d g ≤ ht.declarator_high d h
declarator_grows d g h p = omega (arith, above_grows g h p)

parameters_grows : (d : Declaring) (g h : ℕ) → g ≤ h → ht.parameters_high d g ≤ ht.parameters_high d h
parameters_grows d g h p = either_grows (ht.is_first d) _ _ _ _ (omega (arith, p)) (declarator_grows d g h p)

pub declared_grows : (d : Declared) (g h : ℕ) → g ≤ h → ht.declared_high d g ≤ ht.declared_high d h
declared_grows d g h p =
    either_grows (ht.is_function d.form.value) _ _ _ _ (parameters_grows d.around (max d.form.height g) (max d.form.height h) (omega (arith, p)))
    (declarator_grows d.around (max (max d.form.height (ht.form_needs d.form.value)) g) (max (max d.form.height (ht.form_needs d.form.value)) h) (omega (arith, p)))

-- one value more
pub part_high : (d : Declared) (a h : ℕ) → ht.declared_high d (above a) ≤ 200 → ht.declared_high d (above (max h 1)) ≤ 200 → ht.declared_high d (above (max a h)) ≤ 200
part_high d a h p q = pick (leb a h) refl
  where
    pick : (c : Bool) → leb a h ≡ c → ht.declared_high d (above (max a h)) ≤ 200
    pick true e = omega (arith, q, declared_grows d (above (max a h)) (above (max h 1)) (above_grows (max a h) (max h 1) (omega (arith, leb-true _ _ e))))
    pick false e = omega (arith, p, declared_grows d (above (max a h)) (above a) (above_grows (max a h) a (omega (arith, leb-false _ _ e))))
