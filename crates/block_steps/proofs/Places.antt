-- Code found in edges, deed by deed.
use Rattle.std.proofs.Common.{◌≡◌, ℕ, Bool, not, List, [], ◌∷◌, ◌++◌, Some, None, inl, inr, refl, sym, ap, ◌∙◌, subst, zero, suc, arith, length, take, slice_get}
use Rattle.bv_term.specs.declared.term.TermId.{TermId}
use Rattle.bv_term.specs.WellFormed.{Table}
use Rattle.c_graph.specs.declared.graph.Edge.{Edge}
use Rattle.c_graph.specs.declared.graph.Operation.{Operation}
use Rattle.c_graph.specs.declared.graph.Operation.TheVariants.{Assume}
use Rattle.c_graph.specs.Shape.{Flow}
use Rattle.block_rule.specs.Deeds.{Deed, Tests, Code, Stops, Ends, Does, Branches, IsDeed, AreDeeds, TellsTest, Leading, Has, SetsWithin}
use Rattle.block_edges.specs.Exact.{OneOf}
use Rattle.block_steps.specs.declared.cursor.Cursor.{Cursor}
use Rattle.block_steps.specs.Cursors.{Meets, OpAt, IsBehind, EndAt, SideAt, AreSides}

same_edge : (es : List Edge) (k : ℕ) (e f : Edge) → slice_get es k ≡ Some e → slice_get es k ≡ Some f → e ≡ f
same_edge es k e f p q = let z : Some e ≡ Some f = sym p ∙ q in cc

are-more : (table : Table) (ops : List Operation) (n : ℕ) (op : Operation) (ds : List Deed) (d : Deed) → slice_get ops n ≡ Some op
    → AreDeeds table (take n ops) ds → IsDeed table op d → AreDeeds table (take (suc n) ops) (ds ++ d ∷ [])
are-more table [] n op ds d get are is = absurd (let z : None ≡ Some op = get in cc)
are-more table (x ∷ ops) zero op [] d get are is = (let z : x ≡ op = cc in subst (λ (y : Operation). IsDeed table y d) (sym z) is, tt)
are-more table (x ∷ ops) zero op (c ∷ ds) d get are is = absurd are
are-more table (x ∷ ops) (suc n) op [] d get are is = absurd are
are-more table (x ∷ ops) (suc n) op (c ∷ ds) d get are is = (are.0, are-more table ops n op ds d get are.1 is)

take-all : (ops : List Operation) → take (length ops) ops ≡ ops
take-all [] = refl
take-all (x ∷ ops) = ap (λ (xs : List Operation). x ∷ xs) (take-all ops)

take-one : (ops : List Operation) (op : Operation) → slice_get ops 0 ≡ Some op → take 1 ops ≡ op ∷ []
take-one [] op get = absurd (let z : None ≡ Some op = get in cc)
take-one (x ∷ ops) op get = let z : x ≡ op = cc in ap (λ (y : Operation). y ∷ []) z

-- an operation behind those that were done
done-more : (h : Flow) (k n : Cursor) (op : Operation) (d : Deed) → OpAt h k op → IsBehind k n → IsDeed h.terms op d
    → (e : Edge) (ds : List Deed) → slice_get h.edges k.edge_at ≡ Some e → AreDeeds h.terms (take k.op_at e.ops) ds
    → (slice_get h.edges n.edge_at ≡ Some e) × AreDeeds h.terms (take n.op_at e.ops) (ds ++ d ∷ [])
done-more h k n op d there behind is e ds get are =
    let same : there.0 ≡ e = same_edge h.edges k.edge_at there.0 e there.1.0 get in
    let op_there : slice_get e.ops k.op_at ≡ Some op = subst (λ (x : Edge). slice_get x.ops k.op_at ≡ Some op) same there.1.1 in
    let far : suc k.op_at ≡ n.op_at = omega (arith, behind.1) in (
      ap (slice_get h.edges) behind.0 ∙ get,
      subst (λ (j : ℕ). AreDeeds h.terms (take j e.ops) (ds ++ d ∷ [])) far (are-more h.terms e.ops k.op_at op ds d op_there are is),
    )

pub does : (h : Flow) (k n : Cursor) (op : Operation) (d : Deed) (code : Code) → OpAt h k op → IsBehind k n → IsDeed h.terms op d
    → SetsWithin (length h.cells) d → Meets h n code → Meets h k (Does d code)
does h k n op d code there behind is within m = record {
  sound = (within, m.sound);
  has = λ e ds get are. let (next, more) = done-more h k n op d there behind is e ds get are in m.has e (ds ++ d ∷ []) next more;
  one = λ e ds get are. let (next, more) = done-more h k n op d there behind is e ds get are in m.one e (ds ++ d ∷ []) next more;
}

-- an edge whose operations are all done does these deeds, and leads to the node
all-done : (h : Flow) (k : Cursor) (to : ℕ) (e : Edge) (ds : List Deed) → EndAt h k to → slice_get h.edges k.edge_at ≡ Some e
    → AreDeeds h.terms (take k.op_at e.ops) ds → (e.to.0 ≡ to) × AreDeeds h.terms e.ops ds
all-done h k to e ds end get are =
    let same : end.0 ≡ e = same_edge h.edges k.edge_at end.0 e end.1.0 get in
    let far : k.op_at ≡ length e.ops = subst (λ (x : Edge). k.op_at ≡ length x.ops) same end.1.1 in
    let goal : e.to.0 ≡ to = subst (λ (x : Edge). x.to.0 ≡ to) same end.1.2 in
    let all : take k.op_at e.ops ≡ e.ops = ap (λ (j : ℕ). take j e.ops) far ∙ take-all e.ops in
    (goal, subst (λ (ops : List Operation). AreDeeds h.terms ops ds) all are)

leading : (h : Flow) (k : Cursor) (to : ℕ) (e : Edge) (ds : List Deed) → EndAt h k to → slice_get h.edges k.edge_at ≡ Some e
    → AreDeeds h.terms (take k.op_at e.ops) ds → Leading h e.from.0 ds to
leading h k to e ds end get are = let (goal, all) = all-done h k to e ds end get are in (k.edge_at, (e, get, refl, goal, all))

pub ends : (h : Flow) (k : Cursor) (to : ℕ) → EndAt h k to → Meets h k (Ends to)
ends h k to end = record {
  sound = tt;
  has = λ e ds get are. leading h k to e ds end get are;
  one = λ e ds get are. all-done h k to e ds end get are;
}

-- the edge of a side, whose first operation tests its term
side-done : (h : Flow) (k : Cursor) (w : ℕ) (t : TermId) (p : List ℕ → Bool) → (at : SideAt h k w t) → TellsTest h.terms t p
    → AreDeeds h.terms (take k.op_at (at.0).ops) (Tests p ∷ [])
side-done h k w t p at tells =
    let e : Edge = at.0 in
    let one : take k.op_at e.ops ≡ Assume t ∷ [] = ap (λ (j : ℕ). take j e.ops) at.1.2 ∙ take-one e.ops (Assume t) at.1.3 in
    subst (λ (ops : List Operation). AreDeeds h.terms ops (Tests p ∷ [])) (sym one) (tells, tt)

side : (h : Flow) (k : Cursor) (w : ℕ) (t : TermId) (p : List ℕ → Bool) (code : Code) → SideAt h k w t → TellsTest h.terms t p → Meets h k code → Has h w (Tests p ∷ []) code
side h k w t p code at tells m =
    subst (λ (v : ℕ). Has h v (Tests p ∷ []) code) at.1.1 (m.has at.0 (Tests p ∷ []) at.1.0 (side-done h k w t p at tells))

-- each edge of the number of a side is one of the side's code
side-one : (h : Flow) (k : Cursor) (w : ℕ) (t : TermId) (p : List ℕ → Bool) (code : Code) → SideAt h k w t → TellsTest h.terms t p → Meets h k code
    → (j : ℕ) (f : Edge) → slice_get h.edges j ≡ Some f → j ≡ k.edge_at → OneOf h (Tests p ∷ []) code f
side-one h k w t p code at tells m j f there same =
    let get : slice_get h.edges k.edge_at ≡ Some f = ap (slice_get h.edges) (sym same) ∙ there in
    subst (λ (x : Edge). OneOf h (Tests p ∷ []) code x) (same_edge h.edges k.edge_at at.0 f at.1.0 get)
    (m.one at.0 (Tests p ∷ []) at.1.0 (side-done h k w t p at tells))

-- a branch whose sides are there, and are all that leads on
pub branches : (h : Flow) (k a b : Cursor) (w : ℕ) (t u : TermId) (p : List ℕ → Bool) (one other : Code) → EndAt h k w
    → SideAt h a w t → TellsTest h.terms t p → SideAt h b w u → TellsTest h.terms u (λ s. not (p s)) → AreSides h w a.edge_at b.edge_at
    → Meets h a one → Meets h b other → Meets h k (Branches p one other)
branches h k a b w t u p one other end sa ta sb tb both ma mb = record {
  sound = (ma.sound, mb.sound);
  has = λ e ds get are. (w, inr (leading h k w e ds end get are), side h a w t p one sa ta ma, side h b w u (λ s. not (p s)) other sb tb mb);
  one = λ e ds get are.
      let (goal, all) = all-done h k w e ds end get are in
      inr (
        ap (slice_get h.nodes) goal ∙ both.plain,
        all,
        λ j f there from. elim (both.only j f there (from ∙ goal)) [
          | inl x ↦ inl (side-one h a w t p one sa ta ma j f there x)
          | inr y ↦ inr (side-one h b w u (λ s. not (p s)) other sb tb mb j f there y)
        ],
      );
}

-- a branch of which only one side goes on
pub branches-once : (h : Flow) (k a : Cursor) (w : ℕ) (t : TermId) (p : List ℕ → Bool) (one : Code) → EndAt h k w
    → SideAt h a w t → TellsTest h.terms t p → AreSides h w a.edge_at a.edge_at → Meets h a one → Meets h k (Branches p one Stops)
branches-once h k a w t p one end sa ta alone ma = record {
  sound = (ma.sound, tt);
  has = λ e ds get are. (w, inr (leading h k w e ds end get are), side h a w t p one sa ta ma, tt);
  one = λ e ds get are.
      let (goal, all) = all-done h k w e ds end get are in
      inr (
        ap (slice_get h.nodes) goal ∙ alone.plain,
        all,
        λ j f there from. elim (alone.only j f there (from ∙ goal)) [
          | inl x ↦ inl (side-one h a w t p one sa ta ma j f there x)
          | inr x ↦ inl (side-one h a w t p one sa ta ma j f there x)
        ],
      );
}
