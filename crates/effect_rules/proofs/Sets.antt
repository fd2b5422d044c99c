-- Sets of the objects of two parts show whether these clash.
use Rattle.std.proofs.Common.{◌≡◌, ℕ, ◌<◌, ◌+◌, Bool, true, false, ◌||◌, List, [], ◌∷◌, ◌++◌, length, take, get_or, Result, Ok, Err, refl, ap, ◌∙◌, sym}
use Rattle.std.specs.Prelude.{nat_eq, cond, IfOk}
use Rattle.c_typed.specs.Rules as r
use Rattle.step_values.proofs.Rows.{take_more}
use Rattle.effect_rules.specs.Effects as e
use Rattle.effect_rules.specs.Touched.{Same, Gains}
use Rattle.effect_rules.proofs.Bools.{any_append, or_assoc, or_false, eq_flip, meets_right, meets_flip, clash_flip}

meets_same : (xs ys zs : List ℕ) → Same ys zs → r.meets xs ys ≡ r.meets xs zs
meets_same [] ys zs s = refl
meets_same (x ∷ xs) ys zs s = ap (λ z. z || r.meets xs ys) (s x) ∙ ap (λ z. r.has zs x || z) (meets_same xs ys zs s)

clash_same : (w rd ws rs wt rt : List ℕ) → Same ws wt → Same rs rt → r.clash w rd ws rs ≡ r.clash w rd wt rt
clash_same w rd ws rs wt rt s t =
    ap (λ z. z || r.meets ws rd) (meets_right w ws rs)
    ∙ ap (λ z. (z || r.meets w rs) || r.meets ws rd) (meets_same w ws wt s)
    ∙ ap (λ z. (r.meets w wt || z) || r.meets ws rd) (meets_same w rs rt t)
    ∙ ap (λ z. (r.meets w wt || r.meets w rt) || z) (meets_flip ws rd ∙ meets_same rd ws wt s ∙ meets_flip rd wt)
    ∙ ap (λ z. z || r.meets wt rd) (sym (meets_right w wt rt))

-- sets with the objects of a part show what clashes with it
pub sets_show : (ws rs : List ℕ) (x y : e.Effects) (test : Bool) → Same ws x.writes → Same rs x.reads → test ≡ r.clash y.writes y.reads ws rs → test ≡ e.parts_clash x y
sets_show ws rs x y test s t k = k ∙ clash_same y.writes y.reads ws rs x.writes x.reads s t ∙ clash_flip y.writes y.reads x.writes x.reads

-- one more object
pub one_more : (before now after xs : List ℕ) (i x : ℕ) → i < length xs → x ≡ get_or xs i x → Gains before (take i xs) now → ((q : ℕ) → r.has after q ≡ cond (nat_eq x q) true (r.has now q)) →
    Gains before (take (i + 1) xs) after
one_more before now after xs i x h e g u q =
    u q ∙ by (nat_eq x q) refl
    ∙ ap (λ z. z || nat_eq q x) (g q)
    ∙ sym (or_assoc (r.has before q) (r.has (take i xs) q) (nat_eq q x))
    ∙ ap (λ z. r.has before q || (r.has (take i xs) q || z)) (sym (or_false (nat_eq q x)))
    ∙ ap (λ z. r.has before q || z) (sym (any_append (nat_eq q) (take i xs) (x ∷ [])))
    ∙ ap (λ z. r.has before q || r.has (take i xs ++ z ∷ []) q) e
    ∙ ap (λ z. r.has before q || r.has z q) (sym (take_more xs i x h))
  where
    by : (b : Bool) → b ≡ nat_eq x q → cond (nat_eq x q) true (r.has now q) ≡ (r.has now q || nat_eq q x)
    by true k = ap (λ z. cond z true (r.has now q)) (sym k) ∙ sym (ap (λ z. r.has now q || z) (sym (eq_flip x q) ∙ sym k) ∙ or_true (r.has now q))
      where
        or_true : (b : Bool) → (b || true) ≡ true
        or_true true = refl
        or_true false = refl
    by false k = ap (λ z. cond z true (r.has now q)) (sym k) ∙ sym (ap (λ z. r.has now q || z) (sym (eq_flip x q) ∙ sym k) ∙ or_false (r.has now q))

pub gained_none : (xs : List ℕ) → Gains xs [] xs
gained_none xs q = sym (or_false (r.has xs q))

-- the objects of a part behind those that are there
pub same_more : (before after objects list : List ℕ) → Same before list → Gains before objects after → Same after (list ++ objects)
same_more before after objects list s g q = g q ∙ ap (λ z. z || r.has objects q) (s q) ∙ sym (any_append (nat_eq q) list objects)

pub same_first : (before after objects : List ℕ) → before ≡ [] → Gains before objects after → Same after objects
same_first before after objects k g q = g q ∙ ap (λ z. r.has z q || r.has objects q) k

-- ---- Arms

pub parts_are : (w rd ws rs : List ℕ) (a b d : Bool) → a ≡ r.meets w ws → b ≡ r.meets w rs → d ≡ r.meets rd ws → ((a || b) || d) ≡ r.clash w rd ws rs
parts_are w rd ws rs a b d p q k =
    ap (λ z. (z || b) || d) p ∙ ap (λ z. (r.meets w ws || z) || d) q ∙ ap (λ z. (r.meets w ws || r.meets w rs) || z) (k ∙ meets_flip rd ws)
    ∙ ap (λ z. z || r.meets ws rd) (sym (meets_right w ws rs))

clash_link : (w rd yw yr ws rs : List ℕ) → yw ≡ w → yr ≡ rd → r.clash yw yr ws rs ≡ r.clash w rd ws rs
clash_link w rd yw yr ws rs p q = ap (λ z. r.clash z yr ws rs) p ∙ ap (λ z. r.clash w z ws rs) q

pub sets_arm : (none_w none_r ws rs ow ord yw yr : List ℕ) (x y : e.Effects) (test : Bool) → none_w ≡ [] → none_r ≡ [] → Gains none_w ow ws → Gains none_r ord rs →
    ow ≡ x.writes → ord ≡ x.reads → yw ≡ y.writes → yr ≡ y.reads → test ≡ r.clash yw yr ws rs → test ≡ e.parts_clash x y
sets_arm none_w none_r ws rs ow ord yw yr x y test nw nr g h a b p q k =
    sets_show ws rs x y test (λ z. same_first none_w ws ow nw g z ∙ ap (λ v. r.has v z) a) (λ z. same_first none_r rs ord nr h z ∙ ap (λ v. r.has v z) b)
    (k ∙ clash_link y.writes y.reads yw yr ws rs p q)

pub behind_arm : {B : Type 0} (x y : e.Effects) (o : Result Bool B) → IfOk o (λ b. b ≡ e.parts_clash y x) → IfOk o (λ b. b ≡ e.parts_clash x y)
behind_arm x y (Ok b) h = h ∙ clash_flip y.writes y.reads x.writes x.reads
behind_arm x y (Err z) h = h

-- the test of one more argument
pub argument_test : (ws rs yw yr : List ℕ) (all own : e.Effects) (test : Bool) → Same ws all.writes → Same rs all.reads → yw ≡ own.writes → yr ≡ own.reads → test ≡ r.clash yw yr ws rs → test ≡ e.parts_clash all own
argument_test ws rs yw yr all own test s t p q k = sets_show ws rs all own test s t (k ∙ clash_link own.writes own.reads yw yr ws rs p q)

-- the sets of one more argument
pub argument_same : (before after objects own list new : List ℕ) → Same before list → Gains before objects after → objects ≡ own → new ≡ list ++ own → Same after new
argument_same before after objects own list new s g p n x = same_more before after objects list s g x ∙ ap (λ z. r.has (list ++ z) x) p ∙ ap (λ z. r.has z x) (sym n)
