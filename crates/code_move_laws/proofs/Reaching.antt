-- Deeds one after the other, and a value that gets into a slot.
use Rattle.std.proofs.Common.{◌≡◌, ℕ, refl, sym, ap, ◌∙◌, subst, List, [], ◌∷◌, ◌++◌, Option, None, Some, slice_set, ℤ}
use Rattle.lv_base.specs.Integers.{InAny, residue}
use Rattle.slot_code.specs.Slots.{get, put}
use Rattle.c_graph.specs.Shape.{widths_of}
use Rattle.c_graph.specs.Steps.{Moment, moment}
use Rattle.code_layout.specs.Layout.{slot_cell}
use Rattle.code_moves.specs.Setting.{Setting}
use Rattle.code_moves.specs.Values.{held, slot_value}
use Rattle.code_moves.specs.Deeds.{Deed}
use Rattle.code_moves.specs.Moves.{fills, fills_cell}
use Rattle.layout_laws.specs.Serve.{HasSlot}
use Rattle.code_move_laws.specs.Mirrors.{IsLaid, Mirrors}
use Rattle.code_move_laws.specs.Doing.{did, did_all, Reaches}
use Rattle.code_move_laws.proofs.Stores.{read-put, unread-put}

pub did-append : (W : List ℕ) (xs ys : List Deed) (m : Option Moment) → did_all W (xs ++ ys) m ≡ did_all W ys (did_all W xs m)
did-append W xs ys None = refl
did-append W [] ys (Some m) = refl
did-append W (x ∷ xs) ys (Some m) = did-append W xs ys (did W x m)

-- the deeds lead to a store that mirrors these slots and values
pub record Comes (g : Setting) (ds : List Deed) (store : List ℕ) (inputs rest slots : List ℤ) (values : List (List ℤ)) : Type 0 where
  pub after : List ℕ
  pub reaches : Reaches (widths_of g.lay.cells) ds store inputs after rest
  pub mirrors : Mirrors g slots values after

pub nothing : (g : Setting) (store : List ℕ) (inputs slots : List ℤ) (values : List (List ℤ)) → Mirrors g slots values store → Comes g [] store inputs inputs slots values
nothing g store inputs slots values h = record { after = store; reaches = refl; mirrors = h }

pub behind-at : (g : Setting) (xs ys : List Deed) (store mid : List ℕ) (inputs between rest slots : List ℤ) (values : List (List ℤ)) → Reaches (widths_of g.lay.cells) xs store inputs mid between
    → Comes g ys mid between rest slots values → Comes g (xs ++ ys) store inputs rest slots values
behind-at g xs ys store mid inputs between rest slots values first second = record {
  after = second.after;
  reaches = did-append (widths_of g.lay.cells) xs ys (Some (moment store inputs)) ∙ ap (did_all (widths_of g.lay.cells) ys) first ∙ second.reaches;
  mirrors = second.mirrors;
}

pub behind : (g : Setting) (xs ys : List Deed) (store : List ℕ) (inputs between rest slots slots' : List ℤ) (values values' : List (List ℤ)) → Comes g xs store inputs between slots values
    → ((after : List ℕ) → Mirrors g slots values after → Comes g ys after between rest slots' values') → Comes g (xs ++ ys) store inputs rest slots' values'
behind g xs ys store inputs between rest slots slots' values values' first next = behind-at g xs ys store first.after inputs between rest slots' values' first.reaches (next first.after first.mirrors)

-- the value of a slot that is read
pub slot-read : (g : Setting) (slots : List ℤ) (values : List (List ℤ)) (store : List ℕ) (s t : ℕ) → Mirrors g slots values store → HasSlot g.lay s → s ≡ t → slot_value g store s ≡ residue 64 (get slots t)
slot-read g slots values store s t h c e = ap (held store) c.1 ∙ h.slot s c.0 c.1 ∙ ap (λ (k : ℕ). residue 64 (get slots k)) e

-- a value gets into a slot
pub fill : (g : Setting) (slots : List ℤ) (values : List (List ℤ)) (store : List ℕ) (inputs : List ℤ) (s : ℕ) (v : ℤ) (f : List ℕ → ℕ) → IsLaid g → Mirrors g slots values store → InAny v → f store ≡ residue 64 v
    → Comes g (fills g s f) store inputs inputs (put slots s v) values
fill g slots values store inputs s v f laid h any is = go (slot_cell g.lay s) refl
  where
    go : (o : Option ℕ) → slot_cell g.lay s ≡ o → Comes g (fills g s f) store inputs inputs (put slots s v) values
    go None e =
        subst (λ (o : Option ℕ). Comes g (fills_cell o f) store inputs inputs (put slots s v) values) (sym e)
        (record { after = store; reaches = refl; mirrors = unread-put g laid slots values store h s v e any })
    go (Some cell) e =
        subst (λ (o : Option ℕ). Comes g (fills_cell o f) store inputs inputs (put slots s v) values) (sym e)
        (record {
          after = slice_set store cell (f store);
          reaches = refl;
          mirrors = subst (λ (x : ℕ). Mirrors g (put slots s v) values (slice_set store cell x)) (sym is) (read-put g laid slots values store h s cell v e any);
        })
