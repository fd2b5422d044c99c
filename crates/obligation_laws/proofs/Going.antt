-- An assignment is carried on over what terms and operations add, so that the cells spell what the operations make of the store.
use Rattle.std.proofs.Common.{◌≡◌, ℕ, ◌+◌, ◌≤◌, ◌<◌, ◌^◌, Bool, true, false, not, cond, ltb, ◌&&◌, List, [], ◌∷◌, ◌++◌, length, map, take, drop, refl, sym, ap, ◌∙◌, subst, zero, suc, arith, slice_index, slice_set, Option, Some, None, inl, inr}
use Rattle.std.proofs.lemmas.List.{append-nil}
use Rattle.std.proofs.lemmas.Bool.{cases_Bool, ltb-true}
use Rattle.prop.specs.declared.Lit.{Lit}
use Rattle.prop.specs.Logic.{all_hold, lit_value, negated, positive_of, LitsBelow}
use Rattle.bit_gates.specs.declared.netlist.Def.{Def}
use Rattle.bit_gates.specs.Net.{Agree, Grounded, Meets, extended, net_clauses, number}
use Rattle.bit_gates.proofs.Nets.{all_hold-append, def-agree, extended-agree, extended-meets, hold_from_meets, value-negated}
use Rattle.bit_gates.proofs.Exacts.{grounded_ok, below_ok}
use Rattle.bit_words.specs.Elements.{AllLong}
use Rattle.bv_term.specs.declared.term.Term.{Term}
use Rattle.bv_term.specs.declared.term.TermId.{TermId}
use Rattle.bv_term.specs.WellFormed.{Table, IsTable, widths}
use Rattle.bv_term.specs.Values.{IsStore, value, values}
use Rattle.bit_blast.specs.Done.{lits_of}
use Rattle.bit_blast.specs.Emission.{cell_at}
use Rattle.bit_blast.specs.Held.{Held, IsOver, above_all, begun, blast_of, fresh_lits, fresh_of, rebind_of, renew_of, store_of}
use Rattle.bit_blast.proofs.Cones.{blast-over}
use Rattle.bit_blast.proofs.Over.{over-none}
use Rattle.bit_blast.proofs.Ready.{array-cells}
use Rattle.c_graph.specs.Shape.{FitsCell, HasWidth, IsIndexed}
use Rattle.c_graph.specs.Steps.{stored_at as stored_in}
use Rattle.blast_laws.specs.Calls.{Call, Blast, Fresh, Rebind, Renew, StoreAt, Answers, CellsBelow, May, made_by, spelled_store, store_by, terms_after}
use Rattle.blast_laws.proofs.Owes.{AllOk, Below}
use Rattle.blast_laws.proofs.Keeping.{Keeps, OneHolds, OneOk, Says, call-says}
use Rattle.blast_laws.proofs.Runs.{steps-below, stores_spelled, truths_read}
use Rattle.path_formula.specs.Added.{drawn_into, set_to, stored_at}
use Rattle.obligations.specs.Stated.{stated}
use Rattle.blast_laws.proofs.Spelling.{lit_agrees, number_agrees, store_agrees, single}
use Rattle.obligation_laws.proofs.Nodes.{unit_holds}

pub agree_on : (n m : ℕ) (v w u : ℕ → Bool) → Agree n v w → n ≤ m → Agree m w u → Agree n v u
agree_on n m v w u a le b k lt = b k (omega (arith, lt, le)) ∙ a k lt

meets_agree : (n : ℕ) (ds : List Def) (v w : ℕ → Bool) → Grounded n ds → Agree (n + length ds) v w → Meets v n ds → Meets w n ds
meets_agree n [] v w g a m = tt
meets_agree n (d ∷ ds) v w g a m =
    let s : suc n + length ds ≡ n + suc (length ds) = omega arith in
    let here : Agree n v w = λ k lt. a k (omega (arith, lt)) in
    (a n (omega arith) ∙ (m.0 ∙ sym (def-agree n v w d here g.0)), meets_agree (suc n) ds v w g.1 (λ k lt. a k (omega (arith, lt, s))) m.1)

ok_cells : (n : ℕ) (cs : List (List Lit)) → AllOk Below n cs → CellsBelow n cs
ok_cells n [] h = tt
ok_cells n (c ∷ cs) h = (below_ok n c h.0, ok_cells n cs h.1)

pub lits_up : (n m : ℕ) (ls : List Lit) → n ≤ m → LitsBelow n ls → LitsBelow m ls
lits_up n m [] le h = tt
lits_up n m (l ∷ ls) le h = (omega (arith, le, h.0), lits_up n m ls le h.1)

-- what is held says the same under an assignment that agrees on its variables
says_agrees : (v w : ℕ → Bool) (ws : List ℕ) (us : List Term) (h : Held) (s : List ℕ) → Keeps Below ws us h → Says v ws us h s → Agree h.next v w → Says w ws us h s
says_agrees v w ws us h s k y a =
    let e : spelled_store w h.cells ≡ spelled_store v h.cells = store_agrees v w h.next h.cells (ok_cells h.next h.cells k.cells) a in
    record {
      store = e ∙ y.store;
      one = one h.one k.one y.one;
      done = λ j g.
          number_agrees v w h.next (lits_of h.done j) (below_ok h.next (lits_of h.done j) (k.lits j)) a
          ∙ (y.done j g ∙ ap (λ (st : List ℕ). slice_index (values (record { cells = ws; terms = us }) st) j) (sym e));
    }
  where
    one : (o : Option Lit) → OneOk Below h.next o → OneHolds v o → OneHolds w o
    one None b t = tt
    one (Some l) b t = lit_agrees v w h.next l b a ∙ t

-- clauses hold under each assignment that agrees on the variables below n
abbrev pub Stands : ℕ → (ℕ → Bool) → List (List Lit) → Type 0
Stands n w cs = (u : ℕ → Bool) → Agree n w u → all_hold u cs ≡ true

pub record Called (ws : List ℕ) (us : List Term) (h : Held) (v : ℕ → Bool) (s : List ℕ) (c : Call) : Type 0 where
  pub w : ℕ → Bool
  pub agree : Agree h.next v w
  pub rises : h.next ≤ (made_by ws c h).held.next
  pub stands : Stands (made_by ws c h).held.next w (net_clauses h.next (made_by ws c h).defs)
  pub keeps : Keeps Below ws (terms_after c us) (made_by ws c h).held
  pub says : Says w ws (terms_after c us) (made_by ws c h).held (store_by w c s)
  pub answers : Answers w ws s c (made_by ws c h).outs

pub called : (ws : List ℕ) (us : List Term) (h : Held) (v : ℕ → Bool) (s : List ℕ) (c : Call) → Keeps Below ws us h → May ws us h c → Says v ws us h s → Called ws us h v s c
called ws us h v s c k m y =
    let d = made_by ws c h in
    let st = steps-below ws us h c k m in
    let g : Grounded h.next d.defs = grounded_ok h.next d.defs st.net in
    let w = extended h.next d.defs v in
    let a : Agree h.next v w = extended-agree h.next d.defs v in
    let mw : Meets w h.next d.defs = extended-meets h.next d.defs v g in
    let r = call-says w ws us h c s k m (says_agrees v w ws us h s k y a) mw in
    record {
      w = w;
      agree = a;
      rises = omega (arith, st.rises);
      stands = λ u b. hold_from_meets u h.next d.defs (meets_agree h.next d.defs w u g (λ j lt. b j (omega (arith, lt, st.rises))) mw);
      keeps = st.keeps;
      says = r.0;
      answers = r.1;
    }

-- in the middle of a step, under an assignment: the cells spell the store
pub record Reach (table : Table) (h : Held) (v : ℕ → Bool) (s : List ℕ) : Type 0 where
  pub us : List Term
  pub more : List Term
  pub whole : table.terms ≡ us ++ more
  pub keeps : Keeps Below table.cells us h
  pub says : Says v table.cells us h s
  pub over : IsOver table h

-- the assignment is carried on over clauses, to where the cells spell a store
pub record Goes (table : Table) (h : Held) (v : ℕ → Bool) (cs : List (List Lit)) (h2 : Held) (s : List ℕ) : Type 0 where
  pub w : ℕ → Bool
  pub agree : Agree h.next v w
  pub rises : h.next ≤ h2.next
  pub stands : Stands h2.next w cs
  pub reach : Reach table h2 w s

pub goes_nowhere : (table : Table) (h : Held) (v : ℕ → Bool) (s : List ℕ) → Reach table h v s → Goes table h v [] h s
goes_nowhere table h v s r = record { w = v; agree = λ k lt. refl; rises = omega arith; stands = λ u a. refl; reach = r }

pub stands_both : (n m : ℕ) (w u : ℕ → Bool) (cs ds : List (List Lit)) → n ≤ m → Agree n w u → Stands n w cs → Stands m u ds → Stands m u (cs ++ ds)
stands_both n m w u cs ds le a f g x b =
    all_hold-append x cs ds ∙ (ap (λ (t : Bool). t && all_hold x ds) (f x (agree_on n m w u x a le b)) ∙ g x b)

-- from one table's step to another's
unfoldable pub goes_on : (table next : Table) (h h2 h3 : Held) (v : ℕ → Bool) (cs ds : List (List Lit)) (s s3 : List ℕ) (g : Goes table h v cs h2 s)
    → Goes next h2 g.w ds h3 s3 → Goes next h v (cs ++ ds) h3 s3
goes_on table next h h2 h3 v cs ds s s3 g f = record {
  w = f.w;
  agree = agree_on h.next h2.next v g.w f.w g.agree g.rises f.agree;
  rises = omega (arith, g.rises, f.rises);
  stands = stands_both h2.next h3.next g.w f.w cs ds f.rises f.agree g.stands f.stands;
  reach = f.reach;
}

-- a term
pub record Blasting (table : Table) (t : ℕ) (h : Held) (v : ℕ → Bool) (s : List ℕ) : Type 0 where
  pub goes : Goes table h v (net_clauses h.next (blast_of table t h).defs) (blast_of table t h).held s
  pub told : number goes.w (blast_of table t h).outs ≡ slice_index (values table s) t
  pub below : LitsBelow (blast_of table t h).held.next (blast_of table t h).outs
  pub long : length (blast_of table t h).outs ≡ slice_index (widths table) t

pub blasting : (table : Table) (t : ℕ) (h : Held) (v : ℕ → Bool) (s : List ℕ) → IsTable table → t < length table.terms → Reach table h v s → Blasting table t h v s
blasting table t h v s is lt r =
    let o = begun h.next h.one in
    let m = blast_of table t h in
    let c = called table.cells r.us h v s (Blast table.terms t) r.keeps (is, (r.more, r.whole), lt) r.says in
    let over = blast-over table o.lit h.cells (h.next + length o.defs) h.next h.one (Some o.lit) h.done m.held.done t is r.over lt refl m.held.next in
    record {
      goes = record {
        w = c.w;
        agree = c.agree;
        rises = c.rises;
        stands = c.stands;
        reach = record { us = table.terms; more = []; whole = sym (append-nil table.terms); keeps = c.keeps; says = c.says; over = over.0 };
      };
      told = c.answers;
      below = below_ok m.held.next m.outs (c.keeps.lits t);
      long = (over.0.done t over.1).1;
    }

-- a term holds, or fails

pub holds_goes : (table : Table) (t : TermId) (h : Held) (v : ℕ → Bool) (s : List ℕ) → IsTable table → HasWidth table t 1 → Reach table h v s → value table s t ≡ 1
    → Goes table h v (stated true table t.0 h).clauses (stated true table t.0 h).held s
holds_goes table t h v s is wide r e =
    let m = blast_of table t.0 h in
    let b = blasting table t.0 h v s is wide.0 r in
    let one = single m.outs (b.long ∙ wide.1) in
    let l = one.0 in
    let on : lit_value b.goes.w l ≡ true = (truths_read b.goes.w table s t l (ap (number b.goes.w) (sym one.1) ∙ b.told)).1 e in
    let low : LitsBelow m.held.next (l ∷ []) = subst (LitsBelow m.held.next) one.1 b.below in
    record {
      w = b.goes.w;
      agree = b.goes.agree;
      rises = b.goes.rises;
      stands = λ u a. unit_holds u (net_clauses h.next m.defs) m.outs l one.1 (b.goes.stands u a) (lit_agrees b.goes.w u m.held.next l low.0 a ∙ on);
      reach = b.goes.reach;
    }

pub fails_goes : (table : Table) (t : TermId) (h : Held) (v : ℕ → Bool) (s : List ℕ) → IsTable table → HasWidth table t 1 → Reach table h v s → (value table s t ≡ 1 → ⊥)
    → Goes table h v (stated false table t.0 h).clauses (stated false table t.0 h).held s
fails_goes table t h v s is wide r ne =
    let m = blast_of table t.0 h in
    let b = blasting table t.0 h v s is wide.0 r in
    let one = single m.outs (b.long ∙ wide.1) in
    let l = one.0 in
    let truths = truths_read b.goes.w table s t l (ap (number b.goes.w) (sym one.1) ∙ b.told) in
    let off : lit_value b.goes.w l ≡ false = elim (cases_Bool (lit_value b.goes.w l)) [ inl y ↦ absurd (ne (truths.0 y)) | inr n ↦ n ] in
    let low : LitsBelow m.held.next (l ∷ []) = subst (LitsBelow m.held.next) one.1 b.below in
    record {
      w = b.goes.w;
      agree = b.goes.agree;
      rises = b.goes.rises;
      stands = λ u a.
          unit_holds u (net_clauses h.next m.defs) (map negated m.outs) (negated l) (ap (map negated) one.1) (b.goes.stands u a)
          (value-negated u l ∙ ap not (lit_agrees b.goes.w u m.held.next l low.0 a ∙ off));
      reach = b.goes.reach;
    }

-- a cell gets the literals of a term

cell_long : (cells : List (List Lit)) (c : ℕ) → c < length (map length cells) → (c < length cells) × (length (cell_at cells c) ≡ slice_index (map length cells) c)
cell_long [] c lt = absurd (omega (arith, lt))
cell_long (x ∷ cells) zero lt = (omega arith, refl)
cell_long (x ∷ cells) (suc c) lt = let r = cell_long cells c (omega (arith, lt)) in (omega (arith, r.0), r.1)

pub cell_wide : (cells : List (List Lit)) (ws : List ℕ) (c : ℕ) → map length cells ≡ ws → c < length ws → (c < length cells) × (length (cell_at cells c) ≡ slice_index ws c)
cell_wide cells ws c e lt =
    let size : length (map length cells) ≡ length ws = ap length e in
    let r = cell_long cells c (omega (arith, lt, size)) in
    (r.0, r.1 ∙ ap (λ (x : List ℕ). slice_index x c) e)

pub set_goes : (table : Table) (c : ℕ) (t : TermId) (h : Held) (v : ℕ → Bool) (s : List ℕ) → IsTable table → FitsCell table c t → Reach table h v s
    → Goes table h v (set_to table c t.0 h).clauses (set_to table c t.0 h).held (slice_set s c (value table s t))
unfolding called
set_goes table c t h v s is f r =
    let m = blast_of table t.0 h in
    let b = blasting table t.0 h v s is f.1 r in
    let R = b.goes.reach in
    let there = cell_wide m.held.cells table.cells c R.keeps.widths f.0 in
    let d = called table.cells R.us m.held b.goes.w s (Rebind c m.outs) R.keeps (there.0, b.long ∙ (f.2 ∙ sym there.1), b.below) R.says in
    record {
      w = b.goes.w;
      agree = b.goes.agree;
      rises = b.goes.rises;
      stands = b.goes.stands;
      reach = record {
        us = [];
        more = table.terms;
        whole = refl;
        keeps = d.keeps;
        says = subst (λ (x : ℕ). Says b.goes.w table.cells [] (rebind_of c m.outs m.held) (slice_set s c x)) b.told d.says;
        over = over-none table m.held.next m.held.one (rebind_of c m.outs m.held).cells d.keeps.widths;
      };
    }

-- a value is stored at an index

pub store_goes : (table : Table) (first n : ℕ) (i t : TermId) (h : Held) (v : ℕ → Bool) (s : List ℕ) → IsTable table → IsIndexed table first n i
    → HasWidth table t (slice_index table.cells first) → Reach table h v s
    → Goes table h v (stored_at table first n i.0 t.0 h).clauses (stored_at table first n i.0 t.0 h).held (stored_in s first n (value table s i) (value table s t))
store_goes table first n i t h v s is f wide r =
    let a = blast_of table i.0 h in
    let A = blasting table i.0 h v s is f.1 r in
    let b = blast_of table t.0 a.held in
    let B = blasting table t.0 a.held A.goes.w s is wide.0 A.goes.reach in
    let R = B.goes.reach in
    let cells = array-cells b.held.cells table.cells first n R.keeps.widths f.0 in
    let long : slice_index table.cells first ≡ length b.outs = sym (B.long ∙ wide.1) in
    let d = called table.cells R.us b.held B.goes.w s (StoreAt first n a.outs b.outs) R.keeps (
      cells.0,
      subst (λ (k : ℕ). AllLong k (take n (drop first b.held.cells))) long cells.2,
      lits_up a.held.next b.held.next a.outs B.goes.rises A.below,
      B.below,
    ) R.says in
    let index : number d.w a.outs ≡ value table s i
    = number_agrees A.goes.w d.w a.held.next a.outs A.below (agree_on a.held.next b.held.next A.goes.w B.goes.w d.w B.goes.agree B.goes.rises d.agree) ∙ A.told in
    let put : number d.w b.outs ≡ value table s t = number_agrees B.goes.w d.w b.held.next b.outs B.below d.agree ∙ B.told in
    let st = store_of first n a.outs b.outs b.held in
    let last : Goes table b.held B.goes.w (net_clauses b.held.next st.defs) st.held (stored_in s first n (value table s i) (value table s t))
    = record {
      w = d.w;
      agree = d.agree;
      rises = d.rises;
      stands = d.stands;
      reach = record {
        us = [];
        more = table.terms;
        whole = refl;
        keeps = d.keeps;
        says = subst (λ (x : ℕ). Says d.w table.cells [] st.held (stored_in s first n x (value table s t))) index
            (subst (λ (x : ℕ). Says d.w table.cells [] st.held (stored_in s first n (number d.w a.outs) x)) put d.says);
        over = over-none table st.held.next st.held.one st.held.cells d.keeps.widths;
      };
    } in
    let T = stored_in s first n (value table s i) (value table s t) in
    goes_on table table h a.held st.held v (net_clauses h.next a.defs) (net_clauses a.held.next b.defs ++ net_clauses b.held.next st.defs) s T A.goes
    (goes_on table table a.held b.held st.held A.goes.w (net_clauses a.held.next b.defs) (net_clauses b.held.next st.defs) s T B.goes last)

-- a cell gets literals of its own, which may spell any value

abbrev below_one : ℕ → List (List Lit)
below_one zero = []
below_one (suc k) = (positive_of k ∷ []) ∷ []

above_one : (n : ℕ) → above_all 0 (below_one n) ≡ n
above_one zero = refl
above_one (suc k) = by (ltb k 0) refl
  where
    by : (b : Bool) → b ≡ ltb k 0 → cond b 0 (k + 1) ≡ suc k
    by true e = let lt = ltb-true k 0 (sym e) in absurd (omega (arith, lt))
    by false e = omega arith

-- some assignment agrees below n, and spells the value
spells : (n w x : ℕ) (v : ℕ → Bool) → x < 2 ^ w → (u : ℕ → Bool) × Agree n v u × (number u (fresh_lits n w) ≡ x)
spells n w x v lt =
    let (u, is, low, high) = stores_spelled (below_one n) (w ∷ []) (x ∷ []) fits refl v in
    let e = above_one n in (
      u,
      (λ k less. low k (omega (arith, less, e))),
      subst (λ (m : ℕ). number u (fresh_lits m w) ≡ x) e (ap (λ (st : List ℕ). slice_index st 0) is),
    )
  where
    fits : IsStore (w ∷ []) (x ∷ [])
    fits zero less = lt
    fits (suc c) less = absurd (omega (arith, less))

pub fresh_long : (n w : ℕ) → length (fresh_lits n w) ≡ w
fresh_long n zero = refl
fresh_long n (suc w) = ap suc (fresh_long (suc n) w)

pub fresh_low : (n w m : ℕ) → n + w ≤ m → LitsBelow m (fresh_lits n w)
fresh_low n zero m le = tt
fresh_low n (suc w) m le = (omega (arith, le), fresh_low (suc n) w m (omega (arith, le)))

pub draw_goes : (table : Table) (c x : ℕ) (h : Held) (v : ℕ → Bool) (s : List ℕ) → c < length table.cells → x < 2 ^ slice_index table.cells c → Reach table h v s
    → Goes table h v [] (drawn_into table c h).held (slice_set s c x)
unfolding called
draw_goes table c x h v s lt low r =
    let w = slice_index table.cells c in
    let ls = fresh_lits h.next w in
    let (u, a, is) = spells h.next w x v low in
    let d = called table.cells r.us h u s (Fresh w) r.keeps tt (says_agrees v u table.cells r.us h s r.keeps r.says a) in
    let g = (fresh_of w h).held in
    let there = cell_wide h.cells table.cells c r.keeps.widths lt in
    let q = called table.cells r.us g u s (Rebind c ls) d.keeps (there.0, fresh_long h.next w ∙ sym there.1, fresh_low h.next w g.next (omega arith)) d.says in
    record {
      w = u;
      agree = a;
      rises = omega arith;
      stands = λ k b. refl;
      reach = record {
        us = [];
        more = table.terms;
        whole = refl;
        keeps = q.keeps;
        says = subst (λ (y : ℕ). Says u table.cells [] (rebind_of c ls g) (slice_set s c y)) is q.says;
        over = over-none table g.next g.one (rebind_of c ls g).cells q.keeps.widths;
      };
    }

-- another step, of a table of the same cells
pub renew_goes : (table next : Table) (h : Held) (v : ℕ → Bool) (s : List ℕ) → table.cells ≡ next.cells → Reach table h v s → Reach next (renew_of h) v s
unfolding called
renew_goes table next h v s e r =
    let d = called table.cells r.us h v s Renew r.keeps tt r.says in
    let keeps : Keeps Below next.cells [] (renew_of h) = subst (λ (ws : List ℕ). Keeps Below ws [] (renew_of h)) e d.keeps in
    record {
      us = [];
      more = next.terms;
      whole = refl;
      keeps = keeps;
      says = subst (λ (ws : List ℕ). Says v ws [] (renew_of h) s) e d.says;
      over = over-none next h.next None h.cells keeps.widths;
    }
