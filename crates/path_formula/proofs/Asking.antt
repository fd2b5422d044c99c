-- A path's question, one more step each turn.
use Rattle.std.proofs.Common.{◌≡◌, ℕ, ◌+◌, ◌≤◌, length, List, [], ◌∷◌, ◌++◌, map, drop, get_or, arith, ap, sym, ◌∙◌, refl, subst, append_assoc}
use Rattle.std.proofs.lemmas.List.{length-append, map-append, append-nil, drop_more, drop_all}
use Rattle.prop.specs.declared.Lit.{Lit}
use Rattle.prop.specs.declared.BlastFail.{BlastFail}
use Rattle.bit_gates.specs.Cut.{Cut}
use Rattle.bit_gates.proofs.Cuts.{cut_more}
use Rattle.bit_blast.specs.Held.{Held, new_of}
use Rattle.c_graph.specs.declared.graph.EdgeId.{EdgeId}
use Rattle.c_graph.specs.Shape.{Flow}
use Rattle.path_query.specs.declared.query.Bundle.{Bundle}
use Rattle.path_query.specs.declared.query.PathQuery.{PathQuery}
use Rattle.path_formula.specs.declared.path.Draft.{Draft}
use Rattle.path_formula.specs.declared.path.Step.{Step}
use Rattle.path_formula.specs.Needs.{kept_of, needed_by_all, operations_at}
use Rattle.path_formula.specs.Paths.{bundles_of}
use Rattle.path_formula.specs.Questions.{Begun, Plan, Stepped, plan_of, plans, planned, needed_along, stepped, asked, question_in, question_of}

snoc_inj : {A : Type 0} (xs ys : List A) (x y : A) → xs ++ x ∷ [] ≡ ys ++ y ∷ [] → (xs ≡ ys) × (x ≡ y)
snoc_inj [] [] x y e = let h : x ≡ y = cc in (refl, h)
snoc_inj [] (b ∷ ys) x y e = absurd (omega (arith, ap length e, length-append ys (y ∷ [])))
snoc_inj (a ∷ xs) [] x y e = absurd (omega (arith, ap length e, length-append xs (x ∷ [])))
snoc_inj (a ∷ xs) (b ∷ ys) x y e =
    let t : xs ++ x ∷ [] ≡ ys ++ y ∷ [] = cc in
    let h : a ≡ b = cc in
    let r = snoc_inj xs ys x y t in
    let q : xs ≡ ys = r.0 in
    let w : a ∷ xs ≡ b ∷ ys = cc in
    (w, r.1)

-- going back over one more edge
pub plans_turn : (g : Flow) (path : List EdgeId) (i left : ℕ) (e : EdgeId) (steps more : List Step) (step : Step) (needed new : List ℕ)
    → i + 1 ≡ left → left ≤ length path → e ≡ get_or path i e
    → map planned steps ≡ plans g (drop left path) → needed ≡ needed_along g (drop left path)
    → planned step ≡ record { edge = e; kept = kept_of g.terms needed (operations_at g.edges e.0); behind = needed }
    → more ≡ steps ++ step ∷ [] → new ≡ needed_by_all g.terms needed (operations_at g.edges e.0)
    → (map planned more ≡ plans g (drop i path)) × (new ≡ needed_along g (drop i path))
plans_turn g path i left e steps more step needed new ei le ee es en ep em ew =
    let rest = drop left path in
    let d : drop i path ≡ e ∷ rest
    = drop_more path i e (omega (arith, ei, le)) ∙ (ap (λ (t : EdgeId). t ∷ drop (i + 1) path) (sym ee) ∙ ap (λ (t : ℕ). e ∷ drop t path) ei) in
    let one : planned step ≡ plan_of g e rest
    = ep ∙ ap (λ (t : List ℕ). record { edge = e; kept = kept_of g.terms t (operations_at g.edges e.0); behind = t }) en in
    let all : map planned more ≡ plans g rest ++ plan_of g e rest ∷ []
    = ap (λ (t : List Step). map planned t) em ∙ (map-append planned steps (step ∷ [])
    ∙ (ap (λ (t : List Plan). t ++ planned step ∷ []) es ∙ ap (λ (t : Plan). plans g rest ++ t ∷ []) one)) in (
      all ∙ ap (λ (t : List EdgeId). plans g t) (sym d),
      ew ∙ (ap (λ (t : List ℕ). needed_by_all g.terms t (operations_at g.edges e.0)) en ∙ ap (λ (t : List EdgeId). needed_along g t) (sym d)),
    )

pub plans_start : (g : Flow) (path : List EdgeId) (n : ℕ) (needed : List ℕ) → n ≡ length path → needed ≡ []
    → ([] ≡ plans g (drop n path)) × (needed ≡ needed_along g (drop n path))
plans_start g path n needed e z =
    let d : drop n path ≡ [] = drop_all n path (omega (arith, e)) in
    (ap (λ (t : List EdgeId). plans g t) (sym d), z ∙ ap (λ (t : List EdgeId). needed_along g t) (sym d))

-- the first edge that is left, and those behind it
pub record Popped (g : Flow) (es : List EdgeId) (rest : List Step) (step : Step) : Type 0 where
  pub edge : EdgeId
  pub behind : List EdgeId
  pub whole : es ≡ edge ∷ behind
  pub rest_is : map planned rest ≡ plans g behind
  pub step_is : planned step ≡ plan_of g edge behind

pub plans_pop : (g : Flow) (es : List EdgeId) (steps rest : List Step) (step : Step) → steps ≡ rest ++ step ∷ [] → map planned steps ≡ plans g es → Popped g es rest step
plans_pop g [] steps rest step es h =
    let a : map planned rest ++ planned step ∷ [] ≡ [] = sym (ap (λ (t : List Step). map planned t) es ∙ map-append planned rest (step ∷ [])) ∙ h in
    absurd (omega (arith, ap length a, length-append (map planned rest) (planned step ∷ [])))
plans_pop g (e ∷ behind) steps rest step es h =
    let a : map planned rest ++ planned step ∷ [] ≡ plans g behind ++ plan_of g e behind ∷ []
    = sym (ap (λ (t : List Step). map planned t) es ∙ map-append planned rest (step ∷ [])) ∙ h in
    let r = snoc_inj (map planned rest) (plans g behind) (planned step) (plan_of g e behind) a in
    record { edge = e; behind = behind; whole = refl; rest_is = r.0; step_is = r.1 }

pub plans_none : (g : Flow) (es : List EdgeId) → [] ≡ plans g es → es ≡ []
plans_none g [] h = refl
plans_none g (e ∷ es) h = absurd (omega (arith, ap length h, length-append (plans g es) (plan_of g e es ∷ [])))

pub plans_end : (g : Flow) (es : List EdgeId) (steps : List Step) → length steps ≡ 0 → map planned steps ≡ plans g es → es ≡ []
plans_end g es [] z h = plans_none g es h
plans_end g es (s ∷ ss) z h = absurd (omega (arith, z))

abbrev made : List (List Lit) → List ℕ → List Bundle → List (List Bundle) → PathQuery
made c s f u = record { clauses = c; starts = s; draws = f; cuts = u }

-- what was made, and what the edges that are left will make, are the question
pub record Going (g : Flow) (path es : List EdgeId) (d : Draft) : Type 0 where
  pub clauses : (question_of g path).clauses ≡ d.clauses ++ (asked g (length d.clauses) d.bits es).clauses
  pub starts : (question_of g path).starts ≡ d.starts.items ++ (asked g (length d.clauses) d.bits es).starts
  pub draws : (question_of g path).draws ≡ d.draws.items ++ (asked g (length d.clauses) d.bits es).draws
  pub cuts : (question_of g path).cuts ≡ d.cuts.items ++ (asked g (length d.clauses) d.bits es).cuts

pub going_turn : (g : Flow) (path es behind : List EdgeId) (e : EdgeId) (p : Plan) (d n : Draft) → es ≡ e ∷ behind → p ≡ plan_of g e behind
    → Stepped g p d n → Going g path es d → Going g path behind n
going_turn g path es behind e p d n ee ep s r =
    let m = stepped g (plan_of g e behind) d.bits in
    let a = asked g (length d.clauses + length m.clauses) m.held behind in
    let b = asked g (length n.clauses) n.bits behind in
    let ec : n.clauses ≡ d.clauses ++ m.clauses = s.clauses ∙ ap (λ (t : Plan). d.clauses ++ (stepped g t d.bits).clauses) ep in
    let ed : n.draws.items ≡ d.draws.items ++ m.draws = s.draws ∙ ap (λ (t : Plan). d.draws.items ++ (stepped g t d.bits).draws) ep in
    let eh : n.bits ≡ m.held = s.bits ∙ ap (λ (t : Plan). (stepped g t d.bits).held) ep in
    let c = bundles_of m.held.cells (needed_along g behind) in
    let eu : n.cuts.items ≡ d.cuts.items ++ c ∷ [] = s.cuts ∙ ap (λ (t : Plan). d.cuts.items ++ bundles_of (stepped g t d.bits).held.cells t.behind ∷ []) ep in
    let el : length d.clauses + length m.clauses ≡ length n.clauses = omega (arith, ap length ec, length-append d.clauses m.clauses) in
    let ab : a ≡ b = ap (λ (t : ℕ). asked g t m.held behind) el ∙ ap (λ (t : Held). asked g (length n.clauses) t behind) (sym eh) in
    let w : asked g (length d.clauses) d.bits es ≡ asked g (length d.clauses) d.bits (e ∷ behind) = ap (λ (t : List EdgeId). asked g (length d.clauses) d.bits t) ee in
    record {
      clauses = r.clauses ∙ (ap (λ (t : PathQuery). d.clauses ++ t.clauses) w ∙ (sym (append_assoc d.clauses m.clauses a.clauses)
          ∙ (ap (λ (t : List (List Lit)). t ++ a.clauses) (sym ec) ∙ ap (λ (t : PathQuery). n.clauses ++ t.clauses) ab)));
      starts = r.starts ∙ (ap (λ (t : PathQuery). d.starts.items ++ t.starts) w ∙ (sym (append_assoc d.starts.items (length d.clauses ∷ []) a.starts)
          ∙ (ap (λ (t : List ℕ). t ++ a.starts) (sym s.starts) ∙ ap (λ (t : PathQuery). n.starts.items ++ t.starts) ab)));
      draws = r.draws ∙ (ap (λ (t : PathQuery). d.draws.items ++ t.draws) w ∙ (sym (append_assoc d.draws.items m.draws a.draws)
          ∙ (ap (λ (t : List Bundle). t ++ a.draws) (sym ed) ∙ ap (λ (t : PathQuery). n.draws.items ++ t.draws) ab)));
      cuts = r.cuts ∙ (ap (λ (t : PathQuery). d.cuts.items ++ t.cuts) w ∙ (sym (append_assoc d.cuts.items (c ∷ []) a.cuts)
          ∙ (ap (λ (t : List (List Bundle)). t ++ a.cuts) (sym eu) ∙ ap (λ (t : PathQuery). n.cuts.items ++ t.cuts) ab)));
    }

-- a refused step refuses the whole
pub going_cut : (g : Flow) (path es behind : List EdgeId) (e : EdgeId) (p : Plan) (d : Draft) (end : BlastFail) (new : List (List Lit)) → es ≡ e ∷ behind → p ≡ plan_of g e behind
    → Cut end d.clauses (stepped g p d.bits).clauses new → Going g path es d → Cut end [] (question_of g path).clauses new
going_cut g path es behind e p d end new ee ep c r =
    let m = stepped g (plan_of g e behind) d.bits in
    let a = asked g (length d.clauses + length m.clauses) m.held behind in
    let c2 : Cut end d.clauses m.clauses new = subst (λ (t : Plan). Cut end d.clauses (stepped g t d.bits).clauses new) ep c in
    let w : (question_of g path).clauses ≡ d.clauses ++ (m.clauses ++ a.clauses)
    = r.clauses ∙ ap (λ (t : List EdgeId). d.clauses ++ (asked g (length d.clauses) d.bits t).clauses) ee in
    subst (λ (t : List (List Lit)). Cut end [] t new) (sym w) (cut_more end [] d.clauses m.clauses a.clauses d.clauses new refl c2)

pub going_end : (g : Flow) (path es : List EdgeId) (d : Draft) → es ≡ [] → Going g path es d → question_in d ≡ question_of g path
going_end g path es d ee r =
    let w : asked g (length d.clauses) d.bits es ≡ asked g (length d.clauses) d.bits [] = ap (λ (t : List EdgeId). asked g (length d.clauses) d.bits t) ee in
    let q = question_of g path in
    let c : d.clauses ≡ q.clauses = sym (r.clauses ∙ (ap (λ (t : PathQuery). d.clauses ++ t.clauses) w ∙ append-nil d.clauses)) in
    let s : d.starts.items ≡ q.starts = sym (r.starts ∙ (ap (λ (t : PathQuery). d.starts.items ++ t.starts) w ∙ append-nil d.starts.items)) in
    let f : d.draws.items ≡ q.draws = sym (r.draws ∙ (ap (λ (t : PathQuery). d.draws.items ++ t.draws) w ∙ append-nil d.draws.items)) in
    let u : d.cuts.items ≡ q.cuts = sym (r.cuts ∙ (ap (λ (t : PathQuery). d.cuts.items ++ t.cuts) w ∙ append-nil d.cuts.items)) in
    by d.clauses q.clauses d.starts.items q.starts d.draws.items q.draws d.cuts.items q.cuts c s f u
  where
    by : (c1 c2 : List (List Lit)) (s1 s2 : List ℕ) (f1 f2 : List Bundle) (u1 u2 : List (List Bundle)) → c1 ≡ c2 → s1 ≡ s2 → f1 ≡ f2 → u1 ≡ u2
        → made c1 s1 f1 u1 ≡ made c2 s2 f2 u2
    by c1 c2 s1 s2 f1 f2 u1 u2 c s f u =
        ap (λ (t : List (List Lit)). made t s1 f1 u1) c ∙ (ap (λ (t : List ℕ). made c2 t f1 u1) s
        ∙ (ap (λ (t : List Bundle). made c2 s2 t u1) f ∙ ap (λ (t : List (List Bundle)). made c2 s2 f2 t) u))

pub going_start : (g : Flow) (path : List EdgeId) (needed : List ℕ) (d : Draft) → needed ≡ needed_along g path → Begun g needed d → Going g path path d
going_start g path needed d en b =
    let h = new_of [] g.terms.cells in
    let a = asked g 0 h path in
    let w : a ≡ asked g (length d.clauses) d.bits path
    = ap (λ (t : List (List Lit)). asked g (length t) h path) (sym b.clauses) ∙ ap (λ (t : Held). asked g (length d.clauses) t path) (sym b.bits) in
    record {
      clauses = ap (λ (t : PathQuery). t.clauses) w ∙ ap (λ (t : List (List Lit)). t ++ (asked g (length d.clauses) d.bits path).clauses) (sym b.clauses);
      starts = ap (λ (t : PathQuery). t.starts) w ∙ ap (λ (t : List ℕ). t ++ (asked g (length d.clauses) d.bits path).starts) (sym b.starts);
      draws = ap (λ (t : PathQuery). t.draws) w ∙ ap (λ (t : List Bundle). t ++ (asked g (length d.clauses) d.bits path).draws) (sym b.draws);
      cuts = ap (λ (t : PathQuery). bundles_of h.cells (needed_along g path) ∷ t.cuts) w
          ∙ ap (λ (t : List (List Bundle)). t ++ (asked g (length d.clauses) d.bits path).cuts)
          (sym (b.cuts ∙ ap (λ (t : List ℕ). bundles_of h.cells t ∷ []) en));
    }
