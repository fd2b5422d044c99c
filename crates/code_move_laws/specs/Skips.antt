-- Which way the machine goes at a skip, and the test of its edges.
use Rattle.std.specs.Prelude.{ℕ, ◌≡◌, ◌==◌, List, ℤ}
use Rattle.lv_base.specs.Integers.{residue}
use Rattle.bv_term.specs.Numbers.{truth}
use Rattle.c_run.specs.Run.{is_true}
use Rattle.slot_code.specs.Slots.{get}
use Rattle.c_terms.specs.Numbers.{nonzero}
use Rattle.code_moves.specs.Setting.{Setting}
use Rattle.code_moves.specs.Values.{slot_value}
use Rattle.layout_laws.specs.Serve.{HasSlot}
use Rattle.code_move_laws.specs.Mirrors.{Mirrors}
use Rattle.code_move_laws.specs.Ways.{graph_way}

-- The test of `SkipZero` is 1 where the machine goes on to the next place.
abbrev pub ZeroSkipsAgree : Type 0
ZeroSkipsAgree =
    (g : Setting) (slots : List ℤ) (values : List (List ℤ)) (store : List ℕ) (slot : ℕ) → Mirrors g slots values store → HasSlot g.lay slot
    → nonzero (slot_value g store slot) ≡ truth (is_true (get slots slot))

-- The test of `SkipEqual` is 1 where the machine skips.
abbrev pub EqualSkipsAgree : Type 0
EqualSkipsAgree =
    (g : Setting) (slots : List ℤ) (values : List (List ℤ)) (store : List ℕ) (slot : ℕ) (v : ℤ) → Mirrors g slots values store → HasSlot g.lay slot
    → truth (slot_value g store slot == residue 64 v) ≡ truth ((graph_way g).same (get slots slot) v)
