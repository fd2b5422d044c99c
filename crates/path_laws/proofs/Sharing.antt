-- What steps share is in the cuts between them.
use Rattle.std.proofs.Common.{◌≡◌, ℕ, ◌+◌, ◌-◌, ◌≤◌, ◌<◌, ◌⊎◌, Bool, true, false, ◌&&◌, List, [], ◌∷◌, ◌++◌, length, refl, sym, ap, ◌∙◌, subst, zero, suc, arith, slice_get, Some, inl, inr}
use Rattle.std.proofs.lemmas.Bool.{false≢true}
use Rattle.prop.specs.declared.Lit.{Lit}
use Rattle.prop.specs.Logic.{all_hold, clause_holds}
use Rattle.bit_gates.proofs.Within.{Fits, LitsOk}
use Rattle.bit_blast.specs.Emission.{cell_at}
use Rattle.bit_blast.specs.Held.{Held, new_of}
use Rattle.c_graph.specs.declared.graph.EdgeId.{EdgeId}
use Rattle.c_graph.specs.Shape.{Flow, IsFlow}
use Rattle.blast_laws.proofs.Owes.{AllOk, Below, IsLow, all-at, all-more}
use Rattle.blast_laws.proofs.Scopes.{all-both}
use Rattle.path_query.specs.declared.query.Bundle.{Bundle}
use Rattle.path_formula.specs.Paths.{bundles_of}
use Rattle.path_formula.specs.Questions.{asked, needed_along, plan_of, question_of, stepped}
use Rattle.obligation_laws.proofs.Alike.{Has}
use Rattle.path_laws.specs.Steps.{HasVariable, IsOf, Occurs}
use Rattle.path_laws.specs.Laws.{SharedInCuts, StepsLieBetween}
use Rattle.path_laws.proofs.Adding.{NeededOk}
use Rattle.path_laws.proofs.Stepping.{Sound, place, sound_amid, sound_new, step_adds}

-- all that the steps of edges speak of may be spoken of, where the cells that are needed before them may be
pub record Speaks (P : ℕ → ℕ → Type 0) (h : Held) (cs : List (List Lit)) : Type 0 where
  pub most : ℕ
  pub rises : h.next ≤ most
  pub clauses : AllOk P most cs

speaks : (P : ℕ → ℕ → Type 0) (lo : ℕ) → Fits P lo → IsLow P → (g : Flow) → IsFlow g → (n : ℕ) (h : Held) (path : List EdgeId) → lo ≤ h.next
    → Sound g.terms h → NeededOk P (needed_along g path) h → Speaks P h (asked g n h path).clauses
speaks P lo f low g flow n h [] le s need = record { most = h.next; rises = omega arith; clauses = tt }
speaks P lo f low g flow n h (e ∷ es) le s need =
    let m = stepped g (plan_of g e es) h in
    let a = step_adds P lo f low g flow e es h le s need in
    let up : lo ≤ m.held.next = omega (arith, le, a.rises) in
    let r = asked g (n + length m.clauses) m.held es in
    let x = speaks P lo f low g flow (n + length m.clauses) m.held es up (sound_amid P g.terms m.held a.amid) a.needed in
    record {
      most = x.most;
      rises = omega (arith, a.rises, x.rises);
      clauses = all-both P x.most m.clauses r.clauses (all-more P lo f m.held.next x.most m.clauses up x.rises a.clauses) x.clauses;
    }

-- made from lo on, or of the cut
abbrev Known : ℕ → List Bundle → ℕ → ℕ → Type 0
Known lo cut n k = (k < n) × ((lo ≤ k) ⊎ IsOf cut k)

known_fits : (lo : ℕ) (cut : List Bundle) → Fits (Known lo cut) lo
known_fits lo cut = record {
  later = λ n k le h. (omega (arith, h.0), h.1);
  fresh = λ n le. (omega arith, inl le);
}

known_low : (lo : ℕ) (cut : List Bundle) → IsLow (Known lo cut)
known_low lo cut n k h = h.0

-- the literals of a cut's cells are of the cut

has_variable : (ls : List Lit) (n : ℕ) (cut : List Bundle) (lo : ℕ) → LitsOk Below n ls → ((x : ℕ) → HasVariable ls x → IsOf cut x) → LitsOk (Known lo cut) n ls
has_variable [] n cut lo b f = tt
has_variable (l ∷ ls) n cut lo b f =
    ((b.0, inr (f l.var (0, l, refl, refl))), has_variable ls n cut lo b.1 (λ x v. f x (suc v.0, v.1, v.2, v.3)))

bundle_of : (cells : List (List Lit)) (needed : List ℕ) (c x : ℕ) → Has needed c → HasVariable (cell_at cells c) x → IsOf (bundles_of cells needed) x
bundle_of cells [] c x h v = absurd h
bundle_of cells (d ∷ ds) c x (inl e) v = (0, record { cell = d; bits = cell_at cells d }, refl, subst (λ (k : ℕ). HasVariable (cell_at cells k) x) e v)
bundle_of cells (d ∷ ds) c x (inr h) v = let r = bundle_of cells ds c x h v in (suc r.0, r.1, r.2, r.3)

cut_known : (g : Flow) (h : Held) (needed : List ℕ) → Sound g.terms h → NeededOk (Known h.next (bundles_of h.cells needed)) needed h
cut_known g h needed s c i =
    has_variable (cell_at h.cells c) h.next (bundles_of h.cells needed) h.next (all-at Below h.next c h.cells s.inside) (λ x v. bundle_of h.cells needed c x i v)

-- a clause of a number

clause_ok : (P : ℕ → ℕ → Type 0) (n : ℕ) (cs : List (List Lit)) (k : ℕ) (c : List Lit) → AllOk P n cs → slice_get cs k ≡ Some c → LitsOk P n c
clause_ok P n [] k c a e = absurd cc
clause_ok P n (x ∷ cs) zero c a e = subst (LitsOk P n) (clause_is x c e) a.0
  where
    clause_is : (x c : List Lit) → Some x ≡ Some c → x ≡ c
    clause_is x c e = cc
clause_ok P n (x ∷ cs) (suc k) c a e = clause_ok P n cs k c a.1 e

literal_ok : (P : ℕ → ℕ → Type 0) (n : ℕ) (ls : List Lit) (k : ℕ) (l : Lit) → LitsOk P n ls → slice_get ls k ≡ Some l → P n l.var
literal_ok P n [] k l a e = absurd cc
literal_ok P n (x ∷ ls) zero l a e = subst (λ (y : Lit). P n y.var) (literal_is x l e) a.0
  where
    literal_is : (x l : Lit) → Some x ≡ Some l → x ≡ l
    literal_is x l e = cc
literal_ok P n (x ∷ ls) (suc k) l a e = literal_ok P n ls k l a.1 e

occurs_ok : (P : ℕ → ℕ → Type 0) (n : ℕ) (cs : List (List Lit)) (k x : ℕ) → AllOk P n cs → Occurs cs k x → P n x
occurs_ok P n cs k x a (c, at, (j, l, there, is)) = subst (P n) is (literal_ok P n c j l (clause_ok P n cs k c a at) there)

get_before : (xs ys : List (List Lit)) (k : ℕ) → k < length xs → slice_get (xs ++ ys) k ≡ slice_get xs k
get_before [] ys k lt = absurd (omega (arith, lt))
get_before (x ∷ xs) ys zero lt = refl
get_before (x ∷ xs) ys (suc k) lt = get_before xs ys k (omega (arith, lt))

get_behind : (xs ys : List (List Lit)) (k : ℕ) → length xs ≤ k → slice_get (xs ++ ys) k ≡ slice_get ys (k - length xs)
get_behind [] ys k le = ap (slice_get ys) e
  where
    e : k ≡ k - 0
    e = omega arith
get_behind (x ∷ xs) ys zero le = absurd (omega (arith, le))
get_behind (x ∷ xs) ys (suc k) le = get_behind xs ys k (omega (arith, le)) ∙ ap (slice_get ys) e
  where
    e : k - length xs ≡ suc k - suc (length xs)
    e = omega arith

occurs_before : (all xs ys : List (List Lit)) (k x : ℕ) → all ≡ xs ++ ys → k < length xs → Occurs all k x → Occurs xs k x
occurs_before all xs ys k x e lt (c, at, v) = (c, sym (get_before xs ys k lt) ∙ (ap (λ (t : List (List Lit)). slice_get t k) (sym e) ∙ at), v)

occurs_behind : (all xs ys : List (List Lit)) (k x : ℕ) → all ≡ xs ++ ys → length xs ≤ k → Occurs all k x → Occurs ys (k - length xs) x
occurs_behind all xs ys k x e le (c, at, v) = (c, sym (get_behind xs ys k le) ∙ (ap (λ (t : List (List Lit)). slice_get t k) (sym e) ∙ at), v)

-- the step that begins at a start
edge_of_start : (g : Flow) (n : ℕ) (h : Held) (path : List EdgeId) (k start : ℕ) → slice_get (asked g n h path).starts k ≡ Some start → (e : EdgeId) × (slice_get path k ≡ Some e)
edge_of_start g n h [] k start at = absurd cc
edge_of_start g n h (e ∷ es) zero start at = (e, refl)
edge_of_start g n h (e ∷ es) (suc k) start at = let m = stepped g (plan_of g e es) h in edge_of_start g (n + length m.clauses) m.held es k start at

number_is : (a b : ℕ) → Some a ≡ Some b → a ≡ b
number_is a b e = cc

bundles_are : (a b : List Bundle) → Some a ≡ Some b → a ≡ b
bundles_are a b e = cc

pub shared_in_cuts : SharedInCuts
shared_in_cuts g path k start cut m n x flow starts cuts before behind first second =
    let h = new_of [] g.terms.cells in
    let (e, at) = edge_of_start g 0 h path k start starts in
    let p = place g flow 0 h path k e (sound_new g.terms flow.table) at in
    let H = p.held in
    let needed = needed_along g (e ∷ p.es) in
    let mine = bundles_of H.cells needed in
    let rest = asked g (0 + length p.earlier) H (e ∷ p.es) in
    let size : 0 + length p.earlier ≡ start = number_is (0 + length p.earlier) start (sym p.start ∙ starts) in
    let same : mine ≡ cut = bundles_are mine cut (sym p.before ∙ cuts) in
    let s = speaks (Known H.next mine) H.next (known_fits H.next mine) (known_low H.next mine) g flow (0 + length p.earlier) H (e ∷ p.es) (omega arith) p.sound (cut_known g H needed p.sound) in
    let all = (question_of g path).clauses in
    let low : x < H.next = occurs_ok Below H.next p.earlier m x p.low (occurs_before all p.earlier rest.clauses m x p.clauses (omega (arith, before, size)) first) in
    let late = occurs_ok (Known H.next mine) s.most rest.clauses (n - length p.earlier) x s.clauses
    (occurs_behind all p.earlier rest.clauses n x p.clauses (omega (arith, behind, size)) second) in
    subst (λ (c : List Bundle). IsOf c x) same (elim (late.1) [ inl high ↦ absurd (omega (arith, high, low)) | inr y ↦ y ])

-- the clauses of a step, by their numbers

clause_met : (v : ℕ → Bool) (cs : List (List Lit)) (k : ℕ) (c : List Lit) → all_hold v cs ≡ true → slice_get cs k ≡ Some c → clause_holds v c ≡ true
clause_met v [] k c h at = absurd cc
clause_met v (x ∷ cs) zero c h at = subst (λ (t : List Lit). clause_holds v t ≡ true) (clause_is x c at) (first (clause_holds v x) (all_hold v cs) h)
  where
    clause_is : (x c : List Lit) → Some x ≡ Some c → x ≡ c
    clause_is x c e = cc

    first : (a b : Bool) → (a && b) ≡ true → a ≡ true
    first true b e = refl
    first false b e = e
clause_met v (x ∷ cs) (suc k) c h at = clause_met v cs k c (rest (clause_holds v x) (all_hold v cs) h) at
  where
    rest : (a b : Bool) → (a && b) ≡ true → b ≡ true
    rest true b e = e
    rest false b e = absurd (false≢true e)

pub steps_lie_between : StepsLieBetween
steps_lie_between q k s v start n c has held at least most there =
    let size : length has.earlier ≡ start = number_is (length has.earlier) start (sym has.start ∙ at) in
    let low : length has.earlier ≤ n = omega (arith, size, least) in
    let most : n < length has.earlier + length s.clauses = subst (λ (k : ℕ). n < k) has.next most in
    let i = n - length has.earlier in
    let less : i < length s.clauses = omega (arith, most, low) in
    let mine : slice_get (s.clauses ++ has.later) i ≡ Some c
    = sym (get_behind has.earlier (s.clauses ++ has.later) n low) ∙ (ap (λ (t : List (List Lit)). slice_get t n) (sym has.clauses) ∙ there) in
    clause_met v s.clauses i c held (sym (get_before s.clauses has.later i less) ∙ mine)
