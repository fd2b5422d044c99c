-- Labels and gotos, one more at a time.
use Rattle.std.proofs.Common.{◌≡◌, ℕ, ◌<◌, ◌+◌, Bool, true, false, ◌||◌, List, [], ◌∷◌, ◌++◌, length, take, get_or, map, append_assoc, append-nil, refl, ap, ◌∙◌, sym}
use Rattle.std.specs.Prelude.{bytes_eq, ◌&&◌, not}
use Rattle.std.specs.List.{list_any}
use Rattle.lv_base.specs.declared.fault.SourceFault.TheVariants as fault
use Rattle.c_run.specs.Breaking.{Broken, line}
use Rattle.c_typed.specs.Rules as r
use Rattle.first_broken.specs.Found.{Summary, summary, both}
use Rattle.first_broken.proofs.Least.{joined_is}
use Rattle.step_values.proofs.Rows.{take_more}
use Rattle.jump_rules.specs.declared.jumps.Jump.{Jump}
use Rattle.jump_rules.specs.Seen.{jump_of, jumps}
use Rattle.jump_rules.proofs.Arms.{jumps_behind}

-- a test of jumps is one of those that they are seen as
pub any_jumps : (p : r.Jump → Bool) (xs : List Jump) → list_any (λ (x : Jump). p (jump_of x)) xs ≡ list_any p (jumps xs)
any_jumps p [] = refl
any_jumps p (x ∷ xs) = ap (λ z. p (jump_of x) || z) (any_jumps p xs)

pub any_append : {A : Type 0} (p : A → Bool) (xs ys : List A) → list_any p (xs ++ ys) ≡ (list_any p xs || list_any p ys)
any_append p [] ys = refl
any_append p (x ∷ xs) ys = ap (λ z. p x || z) (any_append p xs ys) ∙ assoc (p x) (list_any p xs) (list_any p ys)
  where
    assoc : (a b c : Bool) → (a || (b || c)) ≡ ((a || b) || c)
    assoc true b c = refl
    assoc false b c = refl

-- ---- Labels that stand a second time

-- a name is looked for among those before, in any order
same_repeated : (xs ys ls : List r.Jump) → ((p : r.Jump → Bool) → list_any p xs ≡ list_any p ys) → r.repeated_labels xs ls ≡ r.repeated_labels ys ls
same_repeated xs ys [] h = refl
same_repeated xs ys (l ∷ ls) h =
    ap (λ z. line z fault.Label l.named_at ++ r.repeated_labels (l ∷ xs) ls) (h (λ x. bytes_eq x.name l.name))
    ∙ ap (λ z. line (r.has_name l.name ys) fault.Label l.named_at ++ z) (same_repeated (l ∷ xs) (l ∷ ys) ls (λ p. ap (λ z. p l || z) (h p)))

behind : (p : r.Jump → Bool) (ys : List r.Jump) (l : r.Jump) → list_any p (l ∷ ys) ≡ list_any p (ys ++ l ∷ [])
behind p ys l = commutes (p l) (list_any p ys) ∙ ap (λ z. list_any p ys || z) (right (p l)) ∙ sym (any_append p ys (l ∷ []))
  where
    commutes : (a b : Bool) → (a || b) ≡ (b || a)
    commutes true true = refl
    commutes true false = refl
    commutes false true = refl
    commutes false false = refl

    right : (a : Bool) → a ≡ (a || false)
    right true = refl
    right false = refl

repeated_behind : (before ls : List r.Jump) (l : r.Jump) → r.repeated_labels before (ls ++ l ∷ []) ≡ r.repeated_labels before ls ++ line (r.has_name l.name (before ++ ls)) fault.Label l.named_at
repeated_behind before [] l = append-nil (line (r.has_name l.name before) fault.Label l.named_at) ∙ ap (λ z. line (r.has_name l.name z) fault.Label l.named_at) (sym (append-nil before))
repeated_behind before (k ∷ ls) l =
    ap (λ z. line (r.has_name k.name before) fault.Label k.named_at ++ z)
    (same_repeated (k ∷ before) (before ++ k ∷ []) (ls ++ l ∷ []) (λ p. behind p before k)
    ∙ repeated_behind (before ++ k ∷ []) ls l
    ∙ ap (λ z. r.repeated_labels (before ++ k ∷ []) ls ++ line (r.has_name l.name z) fault.Label l.named_at) (append_assoc before (k ∷ []) ls)
    ∙ ap (λ z. z ++ line (r.has_name l.name (before ++ (k ∷ ls))) fault.Label l.named_at) (sym (same_repeated (k ∷ before) (before ++ k ∷ []) ls (λ p. behind p before k))))
    ∙ sym (append_assoc (line (r.has_name k.name before) fault.Label k.named_at) (r.repeated_labels (k ∷ before) ls) (line (r.has_name l.name (before ++ (k ∷ ls))) fault.Label l.named_at))

taken : (xs : List Jump) (i : ℕ) (x : Jump) → i < length xs → x ≡ get_or xs i x → jumps (take (i + 1) xs) ≡ jumps (take i xs) ++ jump_of x ∷ []
taken xs i x l e = ap jumps (take_more xs i x l) ∙ jumps_behind (take i xs) (get_or xs i x) ∙ ap (λ y. jumps (take i xs) ++ jump_of y ∷ []) (sym e)

-- a list of broken lines and one more test
sum_step : (bs : List Broken) (a b : Bool) (k : ℕ) (all own new : Summary) → all ≡ summary bs → a ≡ b → own ≡ summary (line a fault.Label k) → new ≡ both all own → new ≡ summary (bs ++ line b fault.Label k)
sum_step bs a b k all own new m t o n =
    n ∙ ap (λ z. both z own) m ∙ ap (both (summary bs)) (o ∙ ap (λ z. summary (line z fault.Label k)) t) ∙ sym (joined_is bs (line b fault.Label k))

pub repeated_step : (xs : List Jump) (i : ℕ) (x : Jump) (test : Bool) (all own new : Summary) → i < length xs → x ≡ get_or xs i x →
    test ≡ r.has_name x.name (jumps (take i xs)) → all ≡ summary (r.repeated_labels [] (jumps (take i xs))) → own ≡ summary (line test fault.Label x.named_at) → new ≡ both all own →
    new ≡ summary (r.repeated_labels [] (jumps (take (i + 1) xs)))
repeated_step xs i x test all own new l e t m o n =
    sum_step (r.repeated_labels [] (jumps (take i xs))) test (r.has_name x.name (jumps (take i xs))) x.named_at all own new m t o n
    ∙ ap summary (sym (repeated_behind [] (jumps (take i xs)) (jump_of x)))
    ∙ ap (λ z. summary (r.repeated_labels [] z)) (sym (taken xs i x l e))

-- ---- Gotos

lost_behind : (labels gs : List r.Jump) (g : r.Jump) → r.lost_gotos labels (gs ++ g ∷ []) ≡ r.lost_gotos labels gs ++ line (not (r.has_name g.name labels)) fault.Label g.named_at
lost_behind labels [] g = append-nil (line (not (r.has_name g.name labels)) fault.Label g.named_at)
lost_behind labels (k ∷ gs) g =
    ap (λ z. line (not (r.has_name k.name labels)) fault.Label k.named_at ++ z) (lost_behind labels gs g)
    ∙ sym (append_assoc (line (not (r.has_name k.name labels)) fault.Label k.named_at) (r.lost_gotos labels gs) (line (not (r.has_name g.name labels)) fault.Label g.named_at))

pub lost_step : (labels xs : List Jump) (i : ℕ) (x : Jump) (has : Bool) (all own new : Summary) → i < length xs → x ≡ get_or xs i x →
    has ≡ r.has_name x.name (jumps labels) → all ≡ summary (r.lost_gotos (jumps labels) (jumps (take i xs))) → own ≡ summary (line (not has) fault.Label x.named_at) → new ≡ both all own →
    new ≡ summary (r.lost_gotos (jumps labels) (jumps (take (i + 1) xs)))
lost_step labels xs i x has all own new l e t m o n =
    sum_step (r.lost_gotos (jumps labels) (jumps (take i xs))) (not has) (not (r.has_name x.name (jumps labels))) x.named_at all own new m (ap not t) o n
    ∙ ap summary (sym (lost_behind (jumps labels) (jumps (take i xs)) (jump_of x)))
    ∙ ap (λ z. summary (r.lost_gotos (jumps labels) z)) (sym (taken xs i x l e))

abbrev entering_line : List r.Jump → r.Jump → List Broken
entering_line labels g = line (list_any (λ l. bytes_eq l.name g.name && r.enters g.scope l.scope) labels) fault.JumpIntoScope g.at

entering_behind : (labels gs : List r.Jump) (g : r.Jump) → r.entering_gotos labels (gs ++ g ∷ []) ≡ r.entering_gotos labels gs ++ entering_line labels g
entering_behind labels [] g = append-nil (entering_line labels g)
entering_behind labels (k ∷ gs) g =
    ap (λ z. entering_line labels k ++ z) (entering_behind labels gs g)
    ∙ sym (append_assoc (entering_line labels k) (r.entering_gotos labels gs) (entering_line labels g))

pub entering_step : (labels xs : List Jump) (i : ℕ) (x : Jump) (test : Bool) (all own new : Summary) → i < length xs → x ≡ get_or xs i x →
    test ≡ list_any (λ (y : Jump). bytes_eq y.name x.name && r.enters x.scope.items y.scope.items) labels → all ≡ summary (r.entering_gotos (jumps labels) (jumps (take i xs))) →
    own ≡ summary (line test fault.JumpIntoScope x.at) → new ≡ both all own → new ≡ summary (r.entering_gotos (jumps labels) (jumps (take (i + 1) xs)))
entering_step labels xs i x test all own new l e t m o n =
    n ∙ ap (λ z. both z own) m
    ∙ ap (both (summary (r.entering_gotos (jumps labels) (jumps (take i xs)))))
    (o ∙ ap (λ z. summary (line z fault.JumpIntoScope x.at)) (t ∙ any_jumps (λ y. bytes_eq y.name x.name && r.enters x.scope.items y.scope) labels))
    ∙ sym (joined_is (r.entering_gotos (jumps labels) (jumps (take i xs))) (entering_line (jumps labels) (jump_of x)))
    ∙ ap summary (sym (entering_behind (jumps labels) (jumps (take i xs)) (jump_of x)))
    ∙ ap (λ z. summary (r.entering_gotos (jumps labels) z)) (sym (taken xs i x l e))

-- three lists of lines
pub three : (xs ys zs : List Broken) (x y xy z all : Summary) → x ≡ summary xs → y ≡ summary ys → xy ≡ both x y → z ≡ summary zs → all ≡ both xy z → all ≡ summary (xs ++ ys ++ zs)
three xs ys zs x y xy z all p q m s n =
    n ∙ ap (λ u. both u z) (m ∙ ap (λ u. both u y) p ∙ ap (both (summary xs)) q ∙ sym (joined_is xs ys)) ∙ ap (both (summary (xs ++ ys))) s ∙ sym (joined_is (xs ++ ys) zs)
