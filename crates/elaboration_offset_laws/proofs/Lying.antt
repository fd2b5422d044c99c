-- Declarations in a row: each lies in its part of the tree, no two have one offset, and each holds behind those before it.
use Rattle.std.proofs.Common.{◌≡◌, ℕ, suc, ◌≤◌, Bool, true, false, List, [], ◌∷◌, ◌++◌, None, Some, arith}
use Rattle.lv_base.specs.declared.kind.Model.{Model}
use Rattle.c_tree.specs.Tree as t
use Rattle.c_meaning.specs.Scope as s
use Rattle.c_meaning.specs.Bindings.{Env}
use Rattle.c_meaning.specs.Tokens.{count_parts}
use Rattle.c_meaning.specs.Constants.{listed, object_length}
use Rattle.c_meaning.specs.Rules as rules
use Rattle.elaboration_offset_laws.proofs.Standing.{In}

-- what the rules of a source are tried in
pub record Known : Type 0 where
  pub env : Env
  pub model : Model
  pub bodies : List (List ℕ)

-- the length of an array stands between its brackets and breaks no rule; without one there are values
abbrev pub Sized : Known → ℕ → ℕ → s.What → Type 0
Sized c at from (s.anObject ws (t.fArray a (Some e) b) i) = (rules.faults_of_length c.env c.model c.bodies e ≡ []) × In (suc a) e b × (suc at ≤ a) × (suc b ≤ from)
Sized c at from (s.anObject ws (t.fArray a None b) i) = suc 0 ≤ listed i
Sized c at from w = Unit {0}

-- a value without a list begins a scalar, and a list an array that has no fewer elements
abbrev pub Begun : Known → s.What → Type 0
Begun c (s.anObject ws t.fPlain (t.iList at a es x b)) = ⊥
Begun c (s.anObject ws (t.fArray y e z) (t.iValue at v)) = ⊥
Begun c (s.anObject ws (t.fArray y e z) (t.iList at a es x b)) = rules.is_too_many c.env c.model c.bodies (object_length c.env c.model (t.fArray y e z) (t.iList at a es x b)) (count_parts es) ≡ false
Begun c (s.anObject ws (t.fFunction ps) i) = ⊥
Begun c w = Unit {0}

-- where the scopes of prototypes may lie
pub data Room : Type 0 where
  nowhere : Room
  within : (first last : ℕ) → Room

-- the name of a prototype's parameter is in a scope that lies there
abbrev pub ScopeLies : Room → s.Scope → Type 0
ScopeLies (within lo hi) (s.block a b) = (lo ≤ a) × (suc b ≤ hi)
ScopeLies p scope = ⊥

abbrev pub NameLies : Room → s.What → s.Scope → Type 0
NameLies p (s.aName ws) scope = ScopeLies p scope
NameLies p w scope = Unit {0}

-- one room is a part of another
abbrev pub Allows : Room → Room → Type 0
Allows nowhere r = Unit {0}
Allows (within a b) nowhere = ⊥
Allows (within a b) (within lo hi) = (lo ≤ a) × (b ≤ hi)

-- an object, where there may be one
abbrev pub ObjectLies : Bool → s.What → Type 0
ObjectLies q (s.anObject ws f i) = q ≡ true
ObjectLies q w = Unit {0}

pub record Lies (c : Known) (p : Room) (q : Bool) (lo hi : ℕ) (d : s.Declared) : Type 0 where
  pub low : lo ≤ d.at
  pub high : suc d.at ≤ hi
  pub own : suc d.at ≤ d.from
  pub stop : d.from ≤ hi
  pub name : NameLies p d.what d.scope
  pub object : ObjectLies q d.what
  pub sized : Sized c d.at d.from d.what
  pub begun : Begun c d.what

-- behind an object's declarator
abbrev pub Behind : s.What → ℕ → ℕ → ℕ → Type 0
Behind (s.anObject ws f i) from at next = (from ≤ at) × (from ≤ next)
Behind w from at next = Unit {0}

-- one declaration before another
pub record Apart (d e : s.Declared) : Type 0 where
  pub differs : d.at ≡ e.at → ⊥
  pub behind : Behind d.what d.from e.at e.from

abbrev pub AllLie : Known → Room → Bool → ℕ → ℕ → List s.Declared → Type 0
AllLie c p q lo hi [] = Unit {0}
AllLie c p q lo hi (d ∷ ds) = Lies c p q lo hi d × AllLie c p q lo hi ds

abbrev pub AllApart : s.Declared → List s.Declared → Type 0
AllApart d [] = Unit {0}
AllApart d (e ∷ es) = Apart d e × AllApart d es

abbrev pub Distinct : List s.Declared → Type 0
Distinct [] = Unit {0}
Distinct (d ∷ ds) = AllApart d ds × Distinct ds

pub record Placed (c : Known) (p : Room) (q : Bool) (lo hi : ℕ) (ds : List s.Declared) : Type 0 where
  pub ordered : lo ≤ hi
  pub lie : AllLie c p q lo hi ds
  pub apart : Distinct ds

-- ---- Wider bounds, and more of what may be

pub alike : (b : Bool) → b ≡ true → b ≡ true
alike b h = h

pub never : (b : Bool) → false ≡ true → b ≡ true
never b h = cc

pub same_room : (p : Room) → Allows p p
same_room nowhere = tt
same_room (within a b) = (omega arith, omega arith)

name_wider : (w : s.What) (scope : s.Scope) (p r : Room) → Allows p r → NameLies p w scope → NameLies r w scope
name_wider (s.aName ws) (s.block a b) (within lo hi) (within low high) x h = (omega (arith, x.0, h.0), omega (arith, x.1, h.1))
name_wider (s.aName ws) (s.block a b) (within lo hi) nowhere x h = absurd x
name_wider (s.aName ws) (s.block a b) nowhere r x h = absurd h
name_wider (s.aName ws) s.file (within lo hi) r x h = absurd h
name_wider (s.aName ws) s.file nowhere r x h = absurd h
name_wider (s.anObject ws form i) scope p r x h = tt
name_wider (s.aParameter ws) scope p r x h = tt
name_wider (s.aFunction ws ps b) scope p r x h = tt
name_wider (s.aTypedef ws) scope p r x h = tt
name_wider (s.anEnumerator es) scope p r x h = tt
name_wider (s.aTag es) scope p r x h = tt

object_wider : (w : s.What) (q r : Bool) → (q ≡ true → r ≡ true) → ObjectLies q w → ObjectLies r w
object_wider (s.anObject ws form i) q r f h = f h
object_wider (s.aParameter ws) q r f h = tt
object_wider (s.aFunction ws ps b) q r f h = tt
object_wider (s.aTypedef ws) q r f h = tt
object_wider (s.anEnumerator es) q r f h = tt
object_wider (s.aTag es) q r f h = tt
object_wider (s.aName ws) q r f h = tt

lies_wider : (c : Known) (p p1 : Room) (q q1 : Bool) (lo hi low high : ℕ) (d : s.Declared) → Allows p p1 → (q ≡ true → q1 ≡ true) → low ≤ lo → hi ≤ high → Lies c p q lo hi d → Lies c p1 q1 low high d
lies_wider c p p1 q q1 lo hi low high d f g x y h =
    record {
      low = omega (arith, x, h.low);
      high = omega (arith, y, h.high);
      own = h.own;
      stop = omega (arith, y, h.stop);
      name = name_wider d.what d.scope p p1 f h.name;
      object = object_wider d.what q q1 g h.object;
      sized = h.sized;
      begun = h.begun;
    }

all_wider : (c : Known) (p p1 : Room) (q q1 : Bool) (lo hi low high : ℕ) (ds : List s.Declared) → Allows p p1 → (q ≡ true → q1 ≡ true) → low ≤ lo → hi ≤ high → AllLie c p q lo hi ds → AllLie c p1 q1 low high ds
all_wider c p p1 q q1 lo hi low high [] f g x y h = tt
all_wider c p p1 q q1 lo hi low high (d ∷ ds) f g x y h = (lies_wider c p p1 q q1 lo hi low high d f g x y h.0, all_wider c p p1 q q1 lo hi low high ds f g x y h.1)

pub wider : {c : Known} {p p1 : Room} {q q1 : Bool} {lo hi low high : ℕ} {ds : List s.Declared} → Placed c p q lo hi ds → Allows p p1 → (q ≡ true → q1 ≡ true) → low ≤ lo → hi ≤ high → Placed c p1 q1 low high ds
wider {c} {p} {p1} {q} {q1} {lo} {hi} {low} {high} {ds} h f g x y =
    let o : lo ≤ hi = h.ordered in
    record { ordered = omega (arith, x, y, o); lie = all_wider c p p1 q q1 lo hi low high ds f g x y h.lie; apart = h.apart }

pub stretch : {c : Known} {p : Room} {q : Bool} {lo hi : ℕ} {ds : List s.Declared} (low high : ℕ) → Placed c p q lo hi ds → low ≤ lo → hi ≤ high → Placed c p q low high ds
stretch {c} {p} {q} low high h x y = wider h (same_room p) (alike q) x y

-- ---- One behind the other

both_lie : (c : Known) (p : Room) (q : Bool) (lo hi : ℕ) (xs ys : List s.Declared) → AllLie c p q lo hi xs → AllLie c p q lo hi ys → AllLie c p q lo hi (xs ++ ys)
both_lie c p q lo hi [] ys h k = k
both_lie c p q lo hi (x ∷ xs) ys h k = (h.0, both_lie c p q lo hi xs ys h.1 k)

both_apart : (d : s.Declared) (xs ys : List s.Declared) → AllApart d xs → AllApart d ys → AllApart d (xs ++ ys)
both_apart d [] ys h k = k
both_apart d (x ∷ xs) ys h k = (h.0, both_apart d xs ys h.1 k)

behind_by : (w : s.What) (from at next : ℕ) → from ≤ at → from ≤ next → Behind w from at next
behind_by (s.anObject ws f i) from at next h k = (h, k)
behind_by (s.aParameter ws) from at next h k = tt
behind_by (s.aFunction ws ps b) from at next h k = tt
behind_by (s.aTypedef ws) from at next h k = tt
behind_by (s.anEnumerator es) from at next h k = tt
behind_by (s.aTag es) from at next h k = tt
behind_by (s.aName ws) from at next h k = tt

cross_one : (c : Known) (p : Room) (q : Bool) (lo m n hi : ℕ) (d e : s.Declared) → Lies c p q lo m d → Lies c p q n hi e → m ≤ n → Apart d e
cross_one c p q lo m n hi d e h k l =
    record { differs = (λ x. omega (arith, l, h.high, k.low, x)); behind = behind_by d.what d.from e.at e.from (omega (arith, l, h.stop, k.low)) (omega (arith, l, h.stop, k.low, k.own)) }

cross_all : (c : Known) (p : Room) (q : Bool) (lo m n hi : ℕ) (d : s.Declared) (es : List s.Declared) → Lies c p q lo m d → AllLie c p q n hi es → m ≤ n → AllApart d es
cross_all c p q lo m n hi d [] h k l = tt
cross_all c p q lo m n hi d (e ∷ es) h k l = (cross_one c p q lo m n hi d e h k.0 l, cross_all c p q lo m n hi d es h k.1 l)

both_distinct : (c : Known) (p : Room) (q : Bool) (lo m n hi : ℕ) (xs ys : List s.Declared) → AllLie c p q lo m xs → AllLie c p q n hi ys → Distinct xs → Distinct ys → m ≤ n → Distinct (xs ++ ys)
both_distinct c p q lo m n hi [] ys h k d e l = e
both_distinct c p q lo m n hi (x ∷ xs) ys h k d e l = (both_apart x xs ys d.0 (cross_all c p q lo m n hi x ys h.0 k l), both_distinct c p q lo m n hi xs ys h.1 k d.1 e l)

pub join : {c : Known} {p : Room} {q : Bool} {lo m n hi : ℕ} {xs ys : List s.Declared} → Placed c p q lo m xs → Placed c p q n hi ys → m ≤ n → Placed c p q lo hi (xs ++ ys)
join {c} {p} {q} {lo} {m} {n} {hi} {xs} {ys} h k l =
    let a : lo ≤ m = h.ordered in
    let b : n ≤ hi = k.ordered in
    record {
      ordered = omega (arith, a, b, l);
      lie = both_lie c p q lo hi xs ys (all_wider c p p q q lo m lo hi xs (same_room p) (alike q) (omega arith) (omega (arith, l, b)) h.lie) (all_wider c p p q q n hi lo hi ys (same_room p) (alike q) (omega (arith, a, l)) (omega arith) k.lie);
      apart = both_distinct c p q lo m n hi xs ys h.lie k.lie h.apart k.apart l;
    }

pub empty : {c : Known} {p : Room} {q : Bool} {lo hi : ℕ} → lo ≤ hi → Placed c p q lo hi []
empty h = record { ordered = h; lie = tt; apart = tt }

pub one : {c : Known} {p : Room} {q : Bool} {lo hi : ℕ} {d : s.Declared} → Lies c p q lo hi d → Placed c p q lo hi (d ∷ [])
one {c} {p} {q} {lo} {hi} {d} h =
    let a : lo ≤ d.at = h.low in
    let b : suc d.at ≤ hi = h.high in
    record { ordered = omega (arith, a, b); lie = (h, tt); apart = (tt, tt) }

-- ---- A name that stands before what is declared before it

late_behind : (w : s.What) (from at next : ℕ) → ObjectLies false w → Behind w from at next
late_behind (s.anObject ws f i) from at next h = cc
late_behind (s.aParameter ws) from at next h = tt
late_behind (s.aFunction ws ps b) from at next h = tt
late_behind (s.aTypedef ws) from at next h = tt
late_behind (s.anEnumerator es) from at next h = tt
late_behind (s.aTag es) from at next h = tt
late_behind (s.aName ws) from at next h = tt

late_distinct : (c : Known) (p : Room) (a b : ℕ) (xs : List s.Declared) (d : s.Declared) → AllLie c p false a b xs → Distinct xs → suc d.at ≤ a → Distinct (xs ++ d ∷ [])
late_distinct c p a b [] d h e x = (tt, tt)
late_distinct c p a b (z ∷ xs) d h e x =
    let l : a ≤ z.at = h.0.low in
    (both_apart z xs (d ∷ []) e.0 (record { differs = (λ q. omega (arith, x, l, q)); behind = late_behind z.what z.from d.at d.from h.0.object }, tt), late_distinct c p a b xs d h.1 e.1 x)

pub late : {c : Known} {p : Room} {q : Bool} {lo hi a b : ℕ} {xs : List s.Declared} {d : s.Declared} → Placed c p false a b xs → lo ≤ a → b ≤ hi → Lies c p q lo hi d → suc d.at ≤ a → Placed c p q lo hi (xs ++ d ∷ [])
late {c} {p} {q} {lo} {hi} {a} {b} {xs} {d} h x y l k =
    let o : a ≤ b = h.ordered in
    record {
      ordered = omega (arith, x, y, o);
      lie = both_lie c p q lo hi xs (d ∷ []) (all_wider c p p false q a b lo hi xs (same_room p) (never q) x y h.lie) (l, tt);
      apart = late_distinct c p a b xs d h.lie h.apart k;
    }

-- what expressions declare may stand wherever objects may
pub lift : {c : Known} {p : Room} {q : Bool} {lo hi : ℕ} {ds : List s.Declared} → Placed c nowhere false lo hi ds → Placed c p q lo hi ds
lift {c} {p} {q} h = wider h tt (never q) (omega arith) (omega arith)

pub inner_room : (p : Room) (lo hi a b : ℕ) → lo ≤ a → b ≤ hi → Allows (within lo hi) p → Allows (within a b) p
inner_room nowhere lo hi a b x y h = h
inner_room (within m n) lo hi a b x y h = (omega (arith, x, h.0), omega (arith, y, h.1))
