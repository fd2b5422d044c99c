-- The places of blocks as lists, and the copy of a table.
use Rattle.std.proofs.Common.{◌≡◌, ◌↔◌, ◌∙◌, ◌<◌, ◌≤◌, ◌+◌, ℕ, zero, suc, ap, arith, refl, sym, Bool, true, false, if◌then◌else◌, Some, List, Vec, [], ◌∷◌, ◌++◌, drop, get_or, length, set, slice_get}
use Rattle.std.specs.Prelude.{All}
use Rattle.std.specs.Global.{Global}
use Rattle.std.proofs.lemmas.List.{drop_all, set_past}
use Rattle.bv_term.specs.declared.term.Term.{Term}
use Rattle.bv_term.specs.WellFormed.{Table, FitsTable, IsWidth, with_term}
use Rattle.c_graph.specs.declared.graph.NodeId.{NodeId}
use Rattle.block_emission.specs.declared.terms.Truths.{Truths}
use Rattle.block_emission.specs.Putting.{truths_of}
use Rattle.block_emission.specs.Blocking as made
use Rattle.block_emission.specs.Blocking.{places_of}
use Rattle.block_emission.proofs.Putting.{fits-as}
use Rattle.block_emission.proofs.Wholeness.{widths-iff}

-- ---- Places

pub places-length : (ms : List (Vec NodeId Global)) → length (places_of ms) ≡ length ms
places-length [] = refl
places-length (m ∷ ms) = ap suc (places-length ms)

drop-behind : {X : Type 0} (xs : List X) (k : ℕ) → drop (suc k) xs ≡ drop (k + 1) xs
drop-behind xs k = let one : suc k ≡ k + 1 = omega arith in ap (λ j. drop j xs) one

places-behind : (ms : List (Vec NodeId Global)) (k : ℕ) (d : Vec NodeId Global) → k < length ms
    → drop k (places_of ms) ≡ (get_or ms k d).items ∷ drop (suc k) (places_of ms)
places-behind [] k d lt = absurd (omega (arith, lt))
places-behind (m ∷ ms) zero d lt = refl
places-behind (m ∷ ms) (suc k) d lt = places-behind ms k d (omega (arith, lt))

pub places-drop : (ms : List (Vec NodeId Global)) (k : ℕ) (d : Vec NodeId Global) → k < length ms
    → drop k (places_of ms) ≡ (get_or ms k d).items ∷ drop (k + 1) (places_of ms)
places-drop ms k d lt =
    places-behind ms k d lt ∙ ap (λ (r : List (List NodeId)). (get_or ms k d).items ∷ r) (drop-behind (places_of ms) k)

places-get : (ms : List (Vec NodeId Global)) (k : ℕ) (d : Vec NodeId Global) → k < length ms → get_or (places_of ms) k [] ≡ (get_or ms k d).items
places-get [] k d lt = absurd (omega (arith, lt))
places-get (m ∷ ms) zero d lt = refl
places-get (m ∷ ms) (suc k) d lt = places-get ms k d (omega (arith, lt))

places-set : (ms : List (Vec NodeId Global)) (k : ℕ) (v : Vec NodeId Global) → places_of (set ms k v) ≡ set (places_of ms) k v.items
places-set [] k v = refl
places-set (m ∷ ms) zero v = refl
places-set (m ∷ ms) (suc k) v = ap (λ (x : List (List NodeId)). m.items ∷ x) (places-set ms k v)

pub member-added : (ms : List (Vec NodeId Global)) (k : ℕ) (d new : Vec NodeId Global) (v : NodeId) → k < length ms → new.items ≡ (get_or ms k d).items ++ v ∷ []
    → places_of (set ms k new) ≡ made.add_member (places_of ms) k v
member-added ms k d new v lt e =
    places-set ms k new
    ∙ ap (λ (x : List NodeId). set (places_of ms) k x) (e ∙ ap (λ (x : List NodeId). x ++ v ∷ []) (sym (places-get ms k d lt)))

pub member-past : (ms : List (Vec NodeId Global)) (k : ℕ) (v : NodeId) → length ms ≤ k → places_of ms ≡ made.add_member (places_of ms) k v
member-past ms k v le = sym (set_past (places_of ms) k _ (omega (arith, le, places-length ms)))

-- ---- Terms over other cells

pub append-unfit : (w : Truths) (t : Term) (x : Bool) → ((x ≡ true) ↔ FitsTable w.terms t) → x ≡ false → truths_of w.terms false ≡ made.append w t
append-unfit w t x h e = sym (ap (λ (z : Bool). if z then truths_of (with_term w.terms t) w.is_sound else truths_of w.terms false) (fits-as w.terms t x false h e))

pub append-fit : (w : Truths) (new : Table) (t : Term) (x : Bool) → ((x ≡ true) ↔ FitsTable w.terms t) → x ≡ true → new ≡ with_term w.terms t
    → truths_of new w.is_sound ≡ made.append w t
append-fit w new t x h e m =
    ap (λ (z : Table). truths_of z w.is_sound) m
    ∙ sym (ap (λ (z : Bool). if z then truths_of (with_term w.terms t) w.is_sound else truths_of w.terms false) (fits-as w.terms t x true h e))

term-behind : (ts : List Term) (k : ℕ) (t : Term) → slice_get ts k ≡ Some t → drop k ts ≡ t ∷ drop (suc k) ts
term-behind [] k t s = absurd cc
term-behind (x ∷ ts) zero t s = let one : x ≡ t = cc in ap (λ (y : Term). y ∷ ts) one
term-behind (x ∷ ts) (suc k) t s = term-behind ts k t s

pub term-drop : (ts : List Term) (k : ℕ) (t : Term) → slice_get ts k ≡ Some t → drop k ts ≡ t ∷ drop (k + 1) ts
term-drop ts k t s = term-behind ts k t s ∙ ap (λ (r : List Term). t ∷ r) (drop-behind ts k)

-- a table of these cells without terms
pub empty-is : (table : Table) (cells : List ℕ) → table.cells ≡ cells → table.terms ≡ [] → truths_of table true ≡ truths_of (record { cells = cells; terms = [] }) true
empty-is table cells c t =
    ap (λ (x : List ℕ). truths_of (record { cells = x; terms = table.terms }) true) c ∙ ap (λ (x : List Term). truths_of (record { cells = cells; terms = x }) true) t

pub copied-fit : (table : Table) (ws vs : List ℕ) (x : Bool) → ((x ≡ true) ↔ All IsWidth vs) → vs ≡ ws → x ≡ true
    → made.append_all (truths_of (record { cells = ws; terms = [] }) true) table.terms ≡ made.copied table ws
copied-fit table ws vs x h same e =
    let fit : made.are_widths ws ≡ true = ap made.are_widths (sym same) ∙ (widths-iff vs).1 (h.0 e) in
    sym (ap (λ (b : Bool). if b then made.append_all (truths_of (record { cells = ws; terms = [] }) true) table.terms else made.no_truths) fit)

not-true : (x y : Bool) → (y ≡ true → x ≡ true) → x ≡ false → y ≡ false
not-true x true h e = sym (h refl) ∙ e
not-true x false h e = refl

pub copied-unfit : (table : Table) (ws vs : List ℕ) (x : Bool) → ((x ≡ true) ↔ All IsWidth vs) → vs ≡ ws → x ≡ false → made.no_truths ≡ made.copied table ws
copied-unfit table ws vs x h same e =
    let unfit : made.are_widths ws ≡ false = ap made.are_widths (sym same) ∙ not-true x (made.are_widths vs) (λ t. h.1 ((widths-iff vs).0 t)) e in
    sym (ap (λ (b : Bool). if b then made.append_all (truths_of (record { cells = ws; terms = [] }) true) table.terms else made.no_truths) unfit)

-- ---- One more list

pub places-next : (ms : List (Vec NodeId Global)) (k : ℕ) (x : Vec NodeId Global) → k < length ms → x ≡ get_or ms k x
    → drop k (places_of ms) ≡ x.items ∷ drop (k + 1) (places_of ms)
places-next ms k x lt is = places-drop ms k x lt ∙ ap (λ (v : Vec NodeId Global). v.items ∷ drop (k + 1) (places_of ms)) (sym is)

pub places-done : (ms : List (Vec NodeId Global)) (k : ℕ) → length ms ≤ k → drop k (places_of ms) ≡ []
places-done ms k le = drop_all k (places_of ms) (omega (arith, le, places-length ms))

places-append : (ms : List (Vec NodeId Global)) (v : Vec NodeId Global) → places_of (ms ++ v ∷ []) ≡ places_of ms ++ v.items ∷ []
places-append [] v = refl
places-append (m ∷ ms) v = ap (λ (x : List (List NodeId)). m.items ∷ x) (places-append ms v)

empties-behind : (k : ℕ) → made.empty_lists k ++ [] ∷ [] ≡ made.empty_lists (suc k)
empties-behind zero = refl
empties-behind (suc k) = ap (λ (x : List (List NodeId)). [] ∷ x) (empties-behind k)

pub empty-more : (ms new : List (Vec NodeId Global)) (v : Vec NodeId Global) (k : ℕ) → new ≡ ms ++ v ∷ [] → v.items ≡ [] → places_of ms ≡ made.empty_lists k
    → places_of new ≡ made.empty_lists (k + 1)
empty-more ms new v k n e h =
    let one : suc k ≡ k + 1 = omega arith in
    ap places_of n ∙ places-append ms v ∙ ap (λ (x : List NodeId). places_of ms ++ x ∷ []) e ∙ ap (λ (x : List (List NodeId)). x ++ [] ∷ []) h
    ∙ empties-behind k ∙ ap made.empty_lists one
