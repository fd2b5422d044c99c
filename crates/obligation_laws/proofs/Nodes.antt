-- A formula that is said to hold, or to fail, in some store.
use Rattle.std.proofs.Common.{◌≡◌, ℕ, ◌<◌, Bool, true, false, not, List, [], ◌∷◌, ◌++◌, length, map, refl, sym, ap, ◌∙◌, subst, zero, suc, arith, Some, slice_get, slice_index_or, ◌↔◌, inl, inr, ◌&&◌, ◌||◌}
use Rattle.std.proofs.lemmas.Bool.{false≢true, cases_eq, cases_Bool}
use Rattle.prop.specs.declared.Lit.{Lit}
use Rattle.prop.specs.Logic.{all_hold, clause_holds, lit_value, negated}
use Rattle.bit_gates.specs.Net.{net_clauses}
use Rattle.bit_gates.proofs.Nets.{all_hold-append, value-negated}
use Rattle.bv_term.specs.declared.term.TermId.{TermId}
use Rattle.bv_term.specs.WellFormed.{Table, IsTable}
use Rattle.bv_term.specs.Values.{Holds, IsStore, value}
use Rattle.c_graph.specs.declared.graph.NodeId.{NodeId}
use Rattle.c_graph.specs.Shape.{Flow, HasWidth, widths_of}
use Rattle.c_graph.specs.Steps.{IsWhole}
use Rattle.c_graph.specs.Runs.{Formulas, HoldsAt, IsMapOf}
use Rattle.bit_blast.specs.Held.{Held, blast_of, new_of}
use Rattle.blast_laws.specs.Calls.{IsStart, spelled_store}
use Rattle.blast_laws.proofs.Runs.{new_starts, stores_spelled}
use Rattle.obligations.specs.Stated.{AreRefuted, stated}
use Rattle.obligation_laws.specs.Laws.{EntryExact, ErrorExact}
use Rattle.blast_laws.proofs.Spelling.{store_agrees}
use Rattle.obligation_laws.proofs.Blasted.{Blasted, blasted}

-- one more clause of one literal
pub unit_holds : (v : ℕ → Bool) (cs : List (List Lit)) (ls : List Lit) (l : Lit) → ls ≡ l ∷ [] → all_hold v cs ≡ true → lit_value v l ≡ true → all_hold v (cs ++ ls ∷ []) ≡ true
unit_holds v cs ls l e h t =
    let one : clause_holds v (l ∷ []) ≡ true = rw t refl in
    all_hold-append v cs (ls ∷ []) ∙ ap (λ (b : Bool). b && (clause_holds v ls && true)) h ∙ ap (λ (k : List Lit). clause_holds v k && true) e ∙ ap (λ (b : Bool). b && true) one

pub unit_held : (v : ℕ → Bool) (cs : List (List Lit)) (ls : List Lit) (l : Lit) → ls ≡ l ∷ [] → all_hold v (cs ++ ls ∷ []) ≡ true → (all_hold v cs ≡ true) × (lit_value v l ≡ true)
unit_held v cs ls l e h =
    let both : (all_hold v cs && (clause_holds v ls && true)) ≡ true = sym (all_hold-append v cs (ls ∷ [])) ∙ h in
    parts (all_hold v cs) (clause_holds v ls) (lit_value v l) (ap (clause_holds v) e) both
  where
    parts : (a b c : Bool) → b ≡ (c || false) → (a && (b && true)) ≡ true → (a ≡ true) × (c ≡ true)
    parts true true true e h = (refl, refl)
    parts true true false e h = absurd cc
    parts true false c e h = absurd cc
    parts false b c e h = absurd cc

module _ (table : Table) (t : TermId) (is : IsTable table) (wide : HasWidth table t 1) where
  abbrev first : Held
  first = new_of [] table.cells

  abbrev cs : List (List Lit)
  cs = net_clauses first.next (blast_of table t.0 first).defs

  start : IsStart table.cells first
  start = new_starts [] table.cells is.cells

  here : Blasted table t first
  here = blasted table t first is start wide

  -- every store is spelled by some assignment under which what was blasted holds
  spelled : (store : List ℕ) → IsStore table.cells store → length store ≡ length table.cells
      → (w : ℕ → Bool) × (spelled_store w first.cells ≡ store) × (all_hold w cs ≡ true)
  spelled store s n =
      let (v, is_store, low, high) = stores_spelled [] table.cells store s n (λ k. false) in
      let (w, agree, held) = here.extends v in
      (w, store_agrees v w first.next first.cells start.below agree ∙ is_store, held)

  -- the term fails in no store where it is refuted that it fails
  pub fails_refuted : AreRefuted (stated false table t.0 first).clauses → (store : List ℕ) → IsStore table.cells store → length store ≡ length table.cells → Holds table store t
  fails_refuted refuted store s n = elim (cases_eq (value table store t) 1) [
    | inl e ↦ e
    | inr ne ↦
        let (w, same, held) = spelled store s n in
        elim (cases_Bool (lit_value w here.lit)) [
          | inl yes' ↦ absurd (ne (subst (λ (x : List ℕ). Holds table x t) same ((here.told w held).0 yes')))
          | inr no' ↦
              let off : lit_value w (negated here.lit) ≡ true = value-negated w here.lit ∙ ap not no' in
              absurd (refuted w (unit_holds w cs (map negated (blast_of table t.0 first).outs) (negated here.lit) (ap (map negated) here.outs) held off))
        ]
  ]

  -- the other way about
  pub refuted_fails : ((store : List ℕ) → IsStore table.cells store → length store ≡ length table.cells → Holds table store t) → AreRefuted (stated false table t.0 first).clauses
  refuted_fails h w all =
      let (held, off) = unit_held w cs (map negated (blast_of table t.0 first).outs) (negated here.lit) (ap (map negated) here.outs) all in
      let (s, n) = here.reads w in
      let on : lit_value w here.lit ≡ true = (here.told w held).1 (h (spelled_store w first.cells) s n) in
      false≢true (sym (value-negated w here.lit ∙ ap not on) ∙ off)

  -- the term holds in no store where it is refuted that it holds
  pub holds_refuted : AreRefuted (stated true table t.0 first).clauses → (store : List ℕ) → IsStore table.cells store → length store ≡ length table.cells → Holds table store t → ⊥
  holds_refuted refuted store s n h =
      let (w, same, held) = spelled store s n in
      let on : lit_value w here.lit ≡ true = (here.told w held).1 (subst (λ (x : List ℕ). Holds table x t) (sym same) h) in
      refuted w (unit_holds w cs (blast_of table t.0 first).outs here.lit here.outs held on)

  pub refuted_holds : ((store : List ℕ) → IsStore table.cells store → length store ≡ length table.cells → Holds table store t → ⊥) → AreRefuted (stated true table t.0 first).clauses
  refuted_holds h w all =
      let (held, on) = unit_held w cs (blast_of table t.0 first).outs here.lit here.outs all in
      let (s, n) = here.reads w in
      h (spelled_store w first.cells) s n ((here.told w held).0 on)

-- formulas of nodes

at_index : (ts : List TermId) (k : ℕ) (d t : TermId) → slice_get ts k ≡ Some t → slice_index_or ts k d ≡ t
at_index [] k d t e = absurd cc
at_index (x ∷ ts) zero d t e = cc
at_index (x ∷ ts) (suc k) d t e = at_index ts k d t e

get_index : (ts : List TermId) (k : ℕ) (d : TermId) → k < length ts → slice_get ts k ≡ Some (slice_index_or ts k d)
get_index [] k d lt = absurd (omega (arith, lt))
get_index (t ∷ ts) zero d lt = refl
get_index (t ∷ ts) (suc k) d lt = get_index ts k d (omega (arith, lt))

abbrev pub formula : Formulas → NodeId → TermId
formula m v = slice_index_or m.at v.0 (record { 0 = 0 })

pub formula_wide : (g : Flow) (m : Formulas) (v : NodeId) → IsMapOf g m → v.0 < length g.nodes → HasWidth m.terms (formula m v) 1
formula_wide g m v is lt = is.formulas v.0 (record { 0 = 0 }) (omega (arith, lt, is.nodes))

pub holds_at : (g : Flow) (m : Formulas) (v : NodeId) (store : List ℕ) → IsMapOf g m → v.0 < length g.nodes → (HoldsAt m v store) ↔ (Holds m.terms store (formula m v))
holds_at g m v store is lt = (
  (λ h. h (formula m v) (get_index m.at v.0 (record { 0 = 0 }) (omega (arith, lt, is.nodes)))),
  (λ h t e. subst (λ (x : TermId). Holds m.terms store x) (at_index m.at v.0 (record { 0 = 0 }) t e) h),
)

-- a whole store of the graph is a store of the map's cells, and the other way about
pub to_store : (g : Flow) (m : Formulas) (store : List ℕ) → IsMapOf g m → IsWhole (widths_of g.cells) store → IsStore m.terms.cells store × (length store ≡ length m.terms.cells)
to_store g m store is w = (subst (λ (cs : List ℕ). IsStore cs store) (sym is.cells) w.fits, w.length ∙ ap length (sym is.cells))

pub from_store : (g : Flow) (m : Formulas) (store : List ℕ) → IsMapOf g m → IsStore m.terms.cells store → length store ≡ length m.terms.cells → IsWhole (widths_of g.cells) store
from_store g m store is s n = record { length = n ∙ ap length is.cells; fits = subst (λ (cs : List ℕ). IsStore cs store) is.cells s }

pub entry_exact : EntryExact
entry_exact g m flow table is =
    let wide = formula_wide g m g.entry is flow.entry in (
      (λ refuted store whole.
          let (s, n) = to_store g m store is whole in
          (holds_at g m g.entry store is flow.entry).1 (fails_refuted m.terms (formula m g.entry) table wide refuted store s n)),
      (λ met. refuted_fails m.terms (formula m g.entry) table wide
          (λ store s n. (holds_at g m g.entry store is flow.entry).0 (met store (from_store g m store is s n)))),
    )

pub error_exact : ErrorExact
error_exact g m v table is lt =
    let wide = formula_wide g m v is lt in (
      (λ refuted store whole h.
          let (s, n) = to_store g m store is whole in
          holds_refuted m.terms (formula m v) table wide refuted store s n ((holds_at g m v store is lt).0 h)),
      (λ met. refuted_holds m.terms (formula m v) table wide
          (λ store s n h. met store (from_store g m store is s n) ((holds_at g m v store is lt).1 h))),
    )
