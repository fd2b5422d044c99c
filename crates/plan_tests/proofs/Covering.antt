-- What holds of units holds of their cells.
use Rattle.std.proofs.Common.{◌≡◌, ℕ, ◌+◌, ◌/◌, ◌<◌, ◌≤◌, ◌==◌, ◌||◌, inl, inr, Bool, true, false, List, [], ◌∷◌, Option, Some, None, refl, sym, ap, ◌∙◌, zero, suc, arith, slice_get, eq-eqb}
use Rattle.std.proofs.lemmas.Bool.{eqb-true}
use Rattle.bv_term.specs.declared.term.TermId.{TermId}
use Rattle.c_graph.specs.declared.graph.Operation.{Operation}
use Rattle.plan_tables.specs.Tables.{UnitTable, is_live_in, unit_at, units_of}
use Rattle.block_rule.specs.Tests.{ReadsOperand}
use Rattle.walk_states.specs.declared.known.Known.{Known}
use Rattle.walk_states.specs.Known.{has_unit, on_unit, plan_of}
use Rattle.plan_tests.specs.Cells.{AreUnits, IsAlone, IsRising}
use Rattle.plan_tests.specs.Reads.{Includes}
use Rattle.plan_tests.specs.Flow.{AllCovered, IsCovered, IsKeptBelow, IsWordKept, Kills, KillsBy, StaysLive, TermFlows, sets, some_sets}
use Rattle.plan_tests.proofs.Flowing.{either}
use Rattle.plan_tests.proofs.Uniting.{between}

left : (a b : Bool) → a ≡ true → (a || b) ≡ true
left a b e = ap (λ (x : Bool). x || b) e

right : (a b : Bool) → b ≡ true → (a || b) ≡ true
right true b e = refl
right false b e = e

-- the place of a unit in a list that has it
placed : (us : List ℕ) (u : ℕ) → has_unit us u ≡ true → (k : ℕ) × (slice_get us k ≡ Some u)
placed [] u h = absurd (cc)
placed (x ∷ xs) u h = elim (either (x == u) (has_unit xs u) h) [
  | inl e ↦ (zero, ap (λ (y : ℕ). Some y) (eqb-true x u e))
  | inr r ↦ let (k, s) = placed xs u r in (suc k, s)
]

-- a cell that is marked by its unit has one
marked : (marks : ℕ → Bool) (o : Option ℕ) → on_unit marks o ≡ true → (u : ℕ) × ((o ≡ Some u) × (marks u ≡ true))
marked marks None h = absurd (cc)
marked marks (Some u) h = (u, (refl, h))

on : (marks : ℕ → Bool) (o : Option ℕ) (u : ℕ) → o ≡ Some u → marks u ≡ true → on_unit marks o ≡ true
on marks o u s m = ap (on_unit marks) s ∙ m

pub term_flows : (known : Known) (v : ℕ) (before : List Operation) (t : TermId) (us : List ℕ)
    → us ≡ units_of known.reads t.0 → AllCovered known v before us → TermFlows (plan_of known) v before t
term_flows known v before t us is h c r =
    let (u, (s, m)) = marked (has_unit (units_of known.reads t.0)) (unit_at known.units c) r in
    let (k, g) = placed us u (ap (λ (xs : List ℕ). has_unit xs u) is ∙ m) in
    h k u g c s

pub stays : (known : Known) (from : ℕ) (ops : List Operation) (to count : ℕ)
    → AreUnits known.units count → IsKeptBelow known from ops to count → StaysLive (plan_of known) from ops to
stays known from ops to count units h c l =
    let (u, (s, m)) = marked (is_live_in known.live to) (unit_at known.units c) l in
    h u (units.below c u s) m c s

-- a unit is below a count only if its word is among those of the count
pub all_words : (known : Known) (from : ℕ) (ops : List Operation) (to count : ℕ)
    → ((n : ℕ) → n < count / 64 + 1 → IsWordKept known from ops to n) → IsKeptBelow known from ops to count
all_words known from ops to count h u lt = h (u / 64) (omega (arith, lt)) u refl

pub reads_one : (known : Known) (k : ℕ) (i : TermId) (list units : List ℕ)
    → list ≡ units_of known.reads k → units ≡ units_of known.reads i.0 → Includes list units → ReadsOperand (plan_of known) k i
reads_one known k i list units list_is units_is h c r =
    let (u, (s, m)) = marked (has_unit (units_of known.reads i.0)) (unit_at known.units c) r in
    let (n, g) = placed units u (ap (λ (xs : List ℕ). has_unit xs u) units_is ∙ m) in
    let y : has_unit (units_of known.reads k) u ≡ true = ap (λ (xs : List ℕ). has_unit xs u) (sym list_is) ∙ h n u g in
    on (has_unit (units_of known.reads k)) (unit_at known.units c) u s y

pub spans : (known : Known) (k first last u : ℕ) → IsRising known.units → unit_at known.units first ≡ Some u → unit_at known.units last ≡ Some u
    → has_unit (units_of known.reads k) u ≡ true → (c : ℕ) → first ≤ c → c ≤ last → (plan_of known).reads k c ≡ true
spans known k first last u rising s t m c up down =
    on (has_unit (units_of known.reads k)) (unit_at known.units c) u (between known.units first c last u rising up down s t) m

pub unit_there : (units : UnitTable) (c u : ℕ) → on_unit (λ x. x == u) (unit_at units c) ≡ true → unit_at units c ≡ Some u
unit_there units c u h =
    let (v, (s, m)) = marked (λ x. x == u) (unit_at units c) h in
    s ∙ ap (λ (y : ℕ). Some y) (eqb-true v u m)

pub covered_live : (known : Known) (v : ℕ) (ops : List Operation) (unit : ℕ) → is_live_in known.live v unit ≡ true → IsCovered known v ops unit
covered_live known v ops unit l c s = left ((plan_of known).live v c) (some_sets ops c) (on (is_live_in known.live v) (unit_at known.units c) unit s l)

pub covered_killed : (known : Known) (v : ℕ) (ops : List Operation) (unit : ℕ) → Kills known.units ops unit → IsCovered known v ops unit
covered_killed known v ops unit h c s = right ((plan_of known).live v c) (some_sets ops c) (h c s)

some_there : (ops : List Operation) (k : ℕ) (op : Operation) (c : ℕ) → slice_get ops k ≡ Some op → sets op c ≡ true → some_sets ops c ≡ true
some_there [] k op c s y = absurd (cc)
some_there (o ∷ ops) zero op c s y =
    let e : o ≡ op = cc in
    left (sets o c) (some_sets ops c) (ap (λ (z : Operation). sets z c) e ∙ y)
some_there (o ∷ ops) (suc k) op c s y = right (sets o c) (some_sets ops c) (some_there ops k op c s y)

pub killed : (units : UnitTable) (ops : List Operation) (k : ℕ) (op : Operation) (unit : ℕ) → slice_get ops k ≡ Some op → KillsBy units op unit → Kills units ops unit
killed units ops k op unit s h c f = some_there ops k op c s (h c f)

pub alone_kills : (units : UnitTable) (d unit : ℕ) → IsAlone units d unit → (c : ℕ) → unit_at units c ≡ Some unit → (c == d) ≡ true
alone_kills units d unit h c s = eq-eqb c d (h c s)
