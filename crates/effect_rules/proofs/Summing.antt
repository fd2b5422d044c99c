-- The effects of an expression are what it writes and reads, and its broken lines summed up.
use Rattle.std.proofs.Common.{◌≡◌, ℕ, Bool, true, false, ◌||◌, List, [], ◌∷◌, ◌++◌, refl, ap, ◌∙◌, sym}
use Rattle.lv_base.specs.declared.fault.SourceFault.TheVariants as fault
use Rattle.c_run.specs.Breaking.{Broken, line}
use Rattle.c_typed.specs.Tree as t
use Rattle.c_typed.specs.Rules as r
use Rattle.first_broken.specs.Found.{Summary, summary}
use Rattle.first_broken.proofs.Least.{joined_is}
use Rattle.effect_rules.specs.Effects as e
use Rattle.effect_rules.proofs.Bools.{clash_left, or_commutes}

abbrev told : List ℕ → List ℕ → List Broken → e.Effects
told w rd bs = record { writes = w; reads = rd; found = summary bs }

joined_told : (x y : e.Effects) (w1 r1 w2 r2 : List ℕ) (b1 b2 : List Broken) → x ≡ told w1 r1 b1 → y ≡ told w2 r2 b2 → e.joined x y ≡ told (w1 ++ w2) (r1 ++ r2) (b1 ++ b2)
joined_told x y w1 r1 w2 r2 b1 b2 p q =
    ap (λ z. e.joined z y) p ∙ ap (e.joined (told w1 r1 b1)) q
    ∙ ap (λ (f : Summary). let z : e.Effects = record { writes = w1 ++ w2; reads = r1 ++ r2; found = f } in z) (sym (joined_is b1 b2))

lined_told : (x : e.Effects) (w rd : List ℕ) (bs : List Broken) (a b : Bool) (at : ℕ) → x ≡ told w rd bs → a ≡ b → e.lined x a at ≡ told w rd (bs ++ line b fault.Unsequenced at)
lined_told x w rd bs a b at p q =
    ap (λ z. e.lined z a at) p ∙ ap (λ z. e.lined (told w rd bs) z at) q
    ∙ ap (λ (f : Summary). let z : e.Effects = record { writes = w; reads = rd; found = f } in z) (sym (joined_is bs (line b fault.Unsequenced at)))

clash_told : (x y : e.Effects) (w1 r1 w2 r2 : List ℕ) (b1 b2 : List Broken) → x ≡ told w1 r1 b1 → y ≡ told w2 r2 b2 → e.parts_clash x y ≡ r.clash w1 r1 w2 r2
clash_told x y w1 r1 w2 r2 b1 b2 p q = ap (λ z. e.parts_clash z y) p ∙ ap (e.parts_clash (told w1 r1 b1)) q

-- what clashes with arguments together clashes with one of them
any_is : (es : t.Vals) (x : t.Val) → r.clash (r.writes_of_all es) (r.reads_of_all es) (r.writes x) (r.reads x) ≡ r.any_clash x es
any_is t.no_values x = none (r.writes x)
  where
    none : (w : List ℕ) → r.meets w [] ≡ false
    none [] = refl
    none (y ∷ ys) = none ys
any_is (t.values_and es y) x =
    clash_left (r.writes_of_all es) (r.reads_of_all es) (r.writes y) (r.reads y) (r.writes x) (r.reads x)
    ∙ ap (λ z. z || r.values_clash y x) (any_is es x)
    ∙ or_commutes (r.any_clash x es) (r.values_clash y x)

abbrev read_if : Bool → ℕ → List ℕ
read_if true object = object ∷ []
read_if false object = []

assigned_told : (b : Bool) (at object : ℕ) (g v : e.Effects) (wg rg wv rv : List ℕ) (bg bv : List Broken) → g ≡ told wg rg bg → v ≡ told wv rv bv →
    e.assigned b at object g v ≡ told (object ∷ (wg ++ wv)) (read_if b object ++ (rg ++ rv)) (bg ++ bv ++ line (r.clash wg rg wv rv || (r.has wv object || r.has wg object)) fault.Unsequenced at)
assigned_told true at object g v wg rg wv rv bg bv p q =
    ap (λ z. e.assigned true at object z v) p ∙ ap (e.assigned true at object (told wg rg bg)) q
    ∙ lined_told _ (object ∷ (wg ++ wv)) (object ∷ (rg ++ rv)) (bg ++ bv) _ _ at
    (joined_told (told (object ∷ wg) (object ∷ rg) bg) (told wv rv bv) (object ∷ wg) (object ∷ rg) wv rv bg bv refl refl) refl
assigned_told false at object g v wg rg wv rv bg bv p q =
    ap (λ z. e.assigned false at object z v) p ∙ ap (e.assigned false at object (told wg rg bg)) q
    ∙ lined_told _ (object ∷ (wg ++ wv)) (rg ++ rv) (bg ++ bv) _ _ at
    (joined_told (told (object ∷ wg) rg bg) (told wv rv bv) (object ∷ wg) rg wv rv bg bv refl refl) refl

mutual
  effects_are : (v : t.Val) → e.effects v ≡ told (r.writes v) (r.reads v) (r.unsequenced v)
  effects_are (t.vConstant k v) = refl
  effects_are (t.vRead k object) = refl
  effects_are (t.vElement k at object i) =
      lined_told _ (r.writes i) (object ∷ r.reads i) (r.unsequenced i) _ (r.has (r.writes i) object) at
      (joined_told (e.reading object) (e.effects i) [] (object ∷ []) (r.writes i) (r.reads i) [] (r.unsequenced i) refl (effects_are i))
      (ap (λ (z : e.Effects). r.has z.writes object) (effects_are i))
  effects_are (t.vWhole object) = refl
  effects_are t.vNothing = refl
  effects_are (t.vConvert k v) = effects_are v
  effects_are (t.vDiscard v) = effects_are v
  effects_are (t.vNegate k at v) = effects_are v
  effects_are (t.vComplement k at v) = effects_are v
  effects_are (t.vNot v) = effects_are v
  effects_are (t.vBinary o k at a b) =
      lined_told _ (r.writes a ++ r.writes b) (r.reads a ++ r.reads b) (r.unsequenced a ++ r.unsequenced b) _ (r.values_clash a b) at
      (joined_told (e.effects a) (e.effects b) (r.writes a) (r.reads a) (r.writes b) (r.reads b) (r.unsequenced a) (r.unsequenced b) (effects_are a) (effects_are b)) (clash_told (e.effects a) (e.effects b) _ _ _ _ _ _ (effects_are a) (effects_are b))
  effects_are (t.vBoth a b) = joined_told (e.effects a) (e.effects b) (r.writes a) (r.reads a) (r.writes b) (r.reads b) (r.unsequenced a) (r.unsequenced b) (effects_are a) (effects_are b)
  effects_are (t.vEither a b) = joined_told (e.effects a) (e.effects b) (r.writes a) (r.reads a) (r.writes b) (r.reads b) (r.unsequenced a) (r.unsequenced b) (effects_are a) (effects_are b)
  effects_are (t.vCond k c a b) = joined_told (e.joined (e.effects c) (e.effects a)) (e.effects b) _ _ _ _ _ _ (joined_told (e.effects c) (e.effects a) (r.writes c) (r.reads c) (r.writes a) (r.reads a) (r.unsequenced c) (r.unsequenced a) (effects_are c) (effects_are a)) (effects_are b)
  effects_are (t.vAssign k at g v) = assigned_told false at (r.object_in g) (e.goal_effects g) (e.effects v) _ _ _ _ _ _ (goal_is g) (effects_are v)
  effects_are (t.vUpdate o k l at g v) = assigned_told true at (r.object_in g) (e.goal_effects g) (e.effects v) _ _ _ _ _ _ (goal_is g) (effects_are v)
  effects_are (t.vChange before by k at g) =
      lined_told _ (r.object_in g ∷ r.writes_of_goal g) (r.object_in g ∷ r.reads_of_goal g) (r.unsequenced_goal g) _ (r.has (r.writes_of_goal g) (r.object_in g)) at
      (joined_told (e.written true (r.object_in g)) (e.goal_effects g) (r.object_in g ∷ []) (r.object_in g ∷ []) _ _ [] _ refl (goal_is g))
      (ap (λ (z : e.Effects). r.has z.writes (r.object_in g)) (goal_is g))
  effects_are (t.vCall result at x f es) =
      lined_told _ (r.writes_of_all es) (r.reads_of_all es) (r.unsequenced_in es) _ (r.arguments_clash es) x (list_is es) (arguments_are es)
  effects_are (t.vReach at) = refl
  effects_are t.vAbort = refl
  effects_are (t.vDraw k) = refl
  effects_are (t.vComma es v) = joined_told (e.list_effects es) (e.effects v) _ _ _ _ _ _ (list_is es) (effects_are v)

  goal_is : (g : t.Goal) → e.goal_effects g ≡ told (r.writes_of_goal g) (r.reads_of_goal g) (r.unsequenced_goal g)
  goal_is (t.gObject object) = refl
  goal_is (t.gElement at object i) = effects_are i

  list_is : (es : t.Vals) → e.list_effects es ≡ told (r.writes_of_all es) (r.reads_of_all es) (r.unsequenced_in es)
  list_is t.no_values = refl
  list_is (t.values_and es v) = joined_told (e.list_effects es) (e.effects v) _ _ _ _ _ _ (list_is es) (effects_are v)

  arguments_are : (es : t.Vals) → e.arguments_clash es ≡ r.arguments_clash es
  arguments_are t.no_values = refl
  arguments_are (t.values_and es v) =
      ap (λ z. z || e.arguments_clash es) (clash_told (e.list_effects es) (e.effects v) _ _ _ _ _ _ (list_is es) (effects_are v) ∙ any_is es v)
      ∙ ap (λ z. r.any_clash v es || z) (arguments_are es)

pub effects_summed : e.EffectsSummed
effects_summed = effects_are
