-- Passes that go on from what they found: what they answer by what is left.
use Rattle.std.proofs.Common.{◌≡◌, ℕ, zero, suc, ◌+◌, ◌-◌, ◌<◌, ◌≤◌, ◌==◌, ◌&&◌, ◌||◌, not, Bool, true, false, List, [], ◌∷◌, length, take, drop, nat_le, Option, None, Some, Vec, refl, sym, ap, ◌∙◌, subst, arith, inl, inr, slice_get, slice_index}
use Rattle.std.specs.Global.{Global}
use Rattle.std.proofs.lemmas.Bool.{and_parts, cases_eq, cases_lt}
use Rattle.std.proofs.lemmas.Option.{same_Some, slice_get_within}
use Rattle.c_graph.specs.declared.graph.EdgeId.{EdgeId}
use Rattle.c_graph.specs.declared.graph.NodeId.{NodeId}
use Rattle.c_graph.specs.Shape.{Flow}
use Rattle.walk_states.specs.declared.known.Known.{Known}
use Rattle.walk_states.specs.declared.state.Place.{Place}
use Rattle.walk_states.specs.Known.{plan_of}
use Rattle.plan_tests.specs.Made.{is_plan}
use Rattle.plan_tables.specs.Tables.{flag_at}
use Rattle.block_rule.specs.Plans.{Plan, matters}
use Rattle.plan_tests.proofs.Deciding.{both, second-not}
use Rattle.block_places.proofs.Deciding.{drop-end, drop-more}
use Rattle.block_follow.specs.Following.{AreMade}
use Rattle.block_follow.specs.Made as made

-- ---- A list that another one begins with

begin-suc : {X : Type 0} → (same : X → X → Bool) (xs ys : List X) (n : ℕ) (x y : X) → slice_get xs n ≡ Some x → slice_get ys n ≡ Some y
    → same x y ≡ true → made.begins_with same (take n xs) ys ≡ true → made.begins_with same (take (suc n) xs) ys ≡ true
begin-suc same [] ys n x y s t e h = refl
begin-suc same (a ∷ xs) [] n x y s t e h =
    let lt : n < 0 = slice_get_within [] n y t in
    absurd (omega (arith, lt))
begin-suc same (a ∷ xs) (b ∷ ys) zero x y s t e h =
    both (same a b) true (ap (λ z. same z b) (same_Some a x s) ∙ ap (same x) (same_Some b y t) ∙ e) refl
begin-suc same (a ∷ xs) (b ∷ ys) (suc n) x y s t e h =
    let (first, rest) = and_parts (same a b) (made.begins_with same (take n xs) ys) h in
    both (same a b) (made.begins_with same (take (suc n) xs) ys) first (begin-suc same xs ys n x y s t e rest)

pub begin-more : {X : Type 0} → (same : X → X → Bool) (xs ys : List X) (n : ℕ) (x y : X) → slice_get xs n ≡ Some x → slice_get ys n ≡ Some y
    → same x y ≡ true → made.begins_with same (take n xs) ys ≡ true → made.begins_with same (take (n + 1) xs) ys ≡ true
begin-more same xs ys n x y s t e h =
    let next : suc n ≡ n + 1 = omega arith in
    subst (λ (m : ℕ). made.begins_with same (take m xs) ys ≡ true) next (begin-suc same xs ys n x y s t e h)

pub begin-end : {X : Type 0} → (same : X → X → Bool) (xs ys : List X) (n : ℕ) → length xs ≤ n
    → made.begins_with same (take n xs) ys ≡ true → true ≡ made.begins_with same xs ys
begin-end same [] ys n le h = refl
begin-end same (a ∷ xs) ys zero le h = absurd (omega (arith, le))
begin-end same (a ∷ xs) [] (suc n) le h = sym h
begin-end same (a ∷ xs) (b ∷ ys) (suc n) le h =
    let (first, rest) = and_parts (same a b) (made.begins_with same (take n xs) ys) h in
    sym (both (same a b) (made.begins_with same xs ys) first (sym (begin-end same xs ys n (omega (arith, le)) rest)))

pub begin-not : {X : Type 0} → (same : X → X → Bool) (xs ys : List X) (n : ℕ) (x y : X) → slice_get xs n ≡ Some x → slice_get ys n ≡ Some y
    → same x y ≡ false → false ≡ made.begins_with same xs ys
begin-not same [] ys n x y s t e =
    let lt : n < 0 = slice_get_within [] n x s in
    absurd (omega (arith, lt))
begin-not same (a ∷ xs) [] n x y s t e = refl
begin-not same (a ∷ xs) (b ∷ ys) zero x y s t e =
    sym (ap (λ (z : Bool). z && made.begins_with same xs ys) (ap (λ z. same z b) (same_Some a x s) ∙ ap (same x) (same_Some b y t) ∙ e))
begin-not same (a ∷ xs) (b ∷ ys) (suc n) x y s t e =
    second-not (same a b) (made.begins_with same xs ys) (sym (begin-not same xs ys n x y s t e))

pub begin-short : {X : Type 0} → (same : X → X → Bool) (xs ys : List X) → length ys < length xs → false ≡ made.begins_with same xs ys
begin-short same [] ys lt = absurd (omega (arith, lt))
begin-short same (a ∷ xs) [] lt = refl
begin-short same (a ∷ xs) (b ∷ ys) lt = second-not (same a b) (made.begins_with same xs ys) (sym (begin-short same xs ys (omega (arith, lt))))

-- one more element is the same
pub same-more : {X : Type 0} → (xs ys : List X) (n : ℕ) (x y : X) → slice_get xs n ≡ Some x → slice_get ys n ≡ Some y → y ≡ x
    → ((k : ℕ) → k < n → slice_get ys k ≡ slice_get xs k) → (k : ℕ) → k < n + 1 → slice_get ys k ≡ slice_get xs k
same-more {X} xs ys n x y s t e h k lt = elim (cases_eq k n) [
  | inl is ↦
      let here : slice_get ys n ≡ slice_get xs n = t ∙ ap (λ (z : X). Some z) e ∙ sym s in
      subst (λ (j : ℕ). slice_get ys j ≡ slice_get xs j) (sym is) here
  | inr ne ↦ h k (omega (arith, lt, ne))
]

-- ---- Sizes

few-unfolded : (sizes : List ℕ) (most count n sum : ℕ) → n < count
    → made.few_from sizes most (count - n) n sum
    ≡ (nat_le (slice_index sizes n) (most - sum) && made.few_from sizes most (count - (n + 1)) (n + 1) (sum + slice_index sizes n))
few-unfolded sizes most count n sum lt =
    let left : count - n ≡ suc (count - (n + 1)) = omega (arith, lt) in
    ap (λ (m : ℕ). made.few_from sizes most m n sum) left

pub few-more : (sizes : List ℕ) (most count n sum more : ℕ) (whole : Bool) → n < count → nat_le (slice_index sizes n) (most - sum) ≡ true
    → more ≡ sum + slice_index sizes n → whole ≡ made.few_from sizes most (count - n) n sum
    → whole ≡ made.few_from sizes most (count - (n + 1)) (n + 1) more
few-more sizes most count n sum more whole lt e is h =
    h ∙ few-unfolded sizes most count n sum lt
    ∙ ap (λ (b : Bool). b && made.few_from sizes most (count - (n + 1)) (n + 1) (sum + slice_index sizes n)) e
    ∙ ap (made.few_from sizes most (count - (n + 1)) (n + 1)) (sym is)

pub few-not : (sizes : List ℕ) (most count n sum : ℕ) (whole : Bool) → n < count → nat_le (slice_index sizes n) (most - sum) ≡ false
    → whole ≡ made.few_from sizes most (count - n) n sum → false ≡ whole
few-not sizes most count n sum whole lt e h =
    sym (h ∙ few-unfolded sizes most count n sum lt
    ∙ ap (λ (b : Bool). b && made.few_from sizes most (count - (n + 1)) (n + 1) (sum + slice_index sizes n)) e)

pub few-end : (sizes : List ℕ) (most count n sum : ℕ) (whole : Bool) → count ≤ n → whole ≡ made.few_from sizes most (count - n) n sum → true ≡ whole
few-end sizes most count n sum whole le h =
    let none : count - n ≡ 0 = omega (arith, le) in
    sym (h ∙ ap (λ (m : ℕ). made.few_from sizes most m n sum) none)

-- ---- Members

pub get-past : {X : Type 0} → (xs : List X) (k : ℕ) → length xs ≤ k → slice_get xs k ≡ None
get-past [] k le = refl
get-past (x ∷ xs) zero le = absurd (omega (arith, le))
get-past (x ∷ xs) (suc k) le = get-past xs k (omega (arith, le))

pub no-list : (ms : List (Vec NodeId Global)) (k : ℕ) → slice_get ms k ≡ None → slice_get (made.lists_of ms) k ≡ None
no-list [] k s = refl
no-list (m ∷ ms) zero s = absurd (cc)
no-list (m ∷ ms) (suc k) s = no-list ms k s

pub one-list : (ms : List (Vec NodeId Global)) (k : ℕ) (m : Vec NodeId Global) → slice_get ms k ≡ Some m → slice_get (made.lists_of ms) k ≡ Some m.items
one-list [] k m s =
    let lt : k < 0 = slice_get_within [] k m s in
    absurd (omega (arith, lt))
one-list (x ∷ ms) zero m s = ap (λ (v : Vec NodeId Global). Some v.items) (same_Some x m s)
one-list (x ∷ ms) (suc k) m s = one-list ms k m s

-- ---- Edges that are kept

pub kept-more : (old new : Flow) (known : Known) (node at next : ℕ) (ids : List EdgeId) (n : ℕ) (id : EdgeId) (whole : Option ℕ)
    → slice_get ids n ≡ Some id → made.kept_at old new known node id at ≡ Some next → whole ≡ made.kept_until old new known node at (drop n ids)
    → whole ≡ made.kept_until old new known node next (drop (n + 1) ids)
kept-more old new known node at next ids n id whole s e h =
    h ∙ ap (made.kept_until old new known node at) (drop-more ids n id s)
    ∙ ap (made.kept_behind (λ there. made.kept_until old new known node there (drop (n + 1) ids))) e

pub kept-not : (old new : Flow) (known : Known) (node at : ℕ) (ids : List EdgeId) (n : ℕ) (id : EdgeId) (whole : Option ℕ)
    → slice_get ids n ≡ Some id → made.kept_at old new known node id at ≡ None → whole ≡ made.kept_until old new known node at (drop n ids)
    → None ≡ whole
kept-not old new known node at ids n id whole s e h =
    sym (h ∙ ap (made.kept_until old new known node at) (drop-more ids n id s)
    ∙ ap (made.kept_behind (λ there. made.kept_until old new known node there (drop (n + 1) ids))) e)

pub kept-end : (old new : Flow) (known : Known) (node at : ℕ) (ids : List EdgeId) (n : ℕ) (whole : Option ℕ) → length ids ≤ n
    → whole ≡ made.kept_until old new known node at (drop n ids) → Some at ≡ whole
kept-end old new known node at ids n whole le h = sym (h ∙ ap (made.kept_until old new known node at) (drop-end ids n le))

-- edges that are made up to a number, and those from there on
pub made-on : (g h : Flow) (plan : Plan) (v from at to : ℕ) → AreMade g h plan v from at → AreMade g h plan v at to → AreMade g h plan v from to
made-on g h plan v from at to first second k le lt = elim (cases_lt k at) [
  | inl down ↦ first k le down
  | inr up ↦ second k up lt
]

-- ---- Blocks

-- a cut point that matters, whose members have these places
pub follows-by : (old new : Flow) (known : Known) (members : List (List NodeId)) (firsts sizes : List ℕ) (node size first : ℕ) (ps : List Place)
    → flag_at known.cuts node ≡ true → matters (plan_of known) node ≡ true → (size == 0) ≡ false → size ≡ slice_index sizes node
    → first ≡ made.first_at firsts node → made.places_at old known members node ≡ Some ps
    → made.begins old new known ps size node first ≡ made.follows old new known members firsts sizes node
follows-by old new known members firsts sizes node size first ps cut much some size_is first_is found =
    let at : ℕ = made.first_at firsts node in
    let block : Bool = made.has_block old new known members firsts (slice_index sizes node) node in
    let sized : block ≡ made.has_block old new known members firsts size node = ap (λ (n : ℕ). made.has_block old new known members firsts n node) (sym size_is) in
    let placed : made.has_block old new known members firsts size node ≡ made.begins old new known ps size node at =
    ap (λ (b : Bool). not b && made.keeps_or_begins old new known size node at (made.places_at old known members node)) some
    ∙ ap (made.keeps_or_begins old new known size node at) found in
    let begun : block ≡ made.begins old new known ps size node first = sized ∙ placed ∙ ap (made.begins old new known ps size node) (sym first_is) in
    let whole : made.follows old new known members firsts sizes node ≡ block =
    ap (λ (b : Bool). not b || not (matters (plan_of known) node) || block) cut ∙ ap (λ (b : Bool). not b || block) much in
    sym (whole ∙ begun)

pub all-by : (old new : Flow) (known : Known) (members : List (List NodeId)) (sizes firsts : List ℕ) (all count : ℕ)
    → all ≡ length new.nodes → count ≡ length old.nodes → firsts ≡ made.first_edges new → true ≡ made.are_few sizes all count
    → made.nodes_follow old new known members firsts sizes count ≡ made.all_follow old new known members sizes
all-by old new known members sizes firsts all count all_is count_is firsts_is few =
    let rest : Bool = made.nodes_follow old new known members (made.first_edges new) sizes (length old.nodes) in
    let here : made.are_few sizes (length new.nodes) (length old.nodes) ≡ true =
    sym (few ∙ ap (λ (n : ℕ). made.are_few sizes n count) all_is ∙ ap (made.are_few sizes (length new.nodes)) count_is) in
    ap (λ (xs : List ℕ). made.nodes_follow old new known members xs sizes count) firsts_is
    ∙ ap (made.nodes_follow old new known members (made.first_edges new) sizes) count_is ∙ sym (ap (λ (b : Bool). b && rest) here)

pub rule-by : (old new : Flow) (known : Known) (members : List (List NodeId)) (sizes : List ℕ) → true ≡ made.grows old new → true ≡ is_plan old known
    → made.ends_where_nothing_matters old new known ≡ true → sizes ≡ made.sizes_of members
    → made.all_follow old new known members sizes ≡ made.follows_rule old new known members
rule-by old new known members sizes grown planned over sizes_is =
    let rest : Bool = made.all_follow old new known members (made.sizes_of members) in
    ap (made.all_follow old new known members) sizes_is
    ∙ sym (ap (λ (b : Bool). b && is_plan old known && made.ends_where_nothing_matters old new known && rest) (sym grown)
    ∙ ap (λ (b : Bool). b && made.ends_where_nothing_matters old new known && rest) (sym planned) ∙ ap (λ (b : Bool). b && rest) over)
