-- More tokens bring the machine to the end of the file, and it never stops on the way: one after another.
use Rattle.std.proofs.Common.{◌≡◌, ℕ, ◌≤◌, List, [], ◌∷◌, None, Some, Bool, true, false, if◌then◌else◌, leb, refl, ap, ◌∙◌, le-leb}
use Rattle.c_tree.specs.declared.symbol.Symbol.TheVariants as sy
use Rattle.c_tree.specs.declared.symbol.SymbolAt.{SymbolAt}
use Rattle.c_tree.specs.Symbols.{sign}
use Rattle.c_tree.specs.Tree.{Item, Items, items_and}
use Rattle.parse_machine.specs.Contexts.{Mode, File, Ended}
use Rattle.parse_machine.specs.Heights.{low}
use Rattle.parse_machine.specs.Declarations.{turn}
use Rattle.parse_machine.specs.Steps as steps
use Rattle.parse_machine.specs.Machine as ma
use Rattle.parse_machine.specs.Machine.{Plain, State, Going, Tree}

pub record ClosesFrom (s : State) : Type 0 where
  pub more : List SymbolAt
  pub tree : Items
  pub ends : ma.outcome (ma.run more (Going s)) ≡ Tree tree

-- in this mode, behind these items and with these typedef names
abbrev pub Closes : Items → List (List ℕ) → Mode → Type 0
Closes is names m = ClosesFrom (ma.state is names (Plain m))

pub file_closes : (is : Items) (names : List (List ℕ)) → Closes is names File
file_closes is names = record { more = sign sy.End 0 ∷ []; tree = is; ends = refl }

pub ended_closes : (is : Items) (names : List (List ℕ)) (i : Item) (h : ℕ) → Closes is names (Ended i h)
ended_closes is names i h = record { more = sign sy.End 0 ∷ []; tree = items_and is i; ends = refl }

goes_within : (t : SymbolAt) (s : State) (c : Bool) → c ≡ true → ma.course t (if c then ma.Goes s else ma.High) ≡ Going s
goes_within t s true h = refl
goes_within t s false h = cc

-- one token
pub on_state : (s z : State) (t : SymbolAt) → ma.step t s ≡ Some z → ma.phase_low z.phase ≤ 200 → ClosesFrom z → ClosesFrom s
on_state s z t e l c = record {
  more = t ∷ c.more;
  tree = c.tree;
  ends = ap (λ o. ma.outcome (ma.run c.more (ma.course t (ma.limited o)))) e ∙ ap (λ x. ma.outcome (ma.run c.more x)) (goes_within t z (leb (ma.phase_low z.phase) 200) (le-leb _ _ l)) ∙ c.ends;
}

pub on : (is : Items) (names ns : List (List ℕ)) (m n : Mode) (t : SymbolAt) → ma.filed is names (Plain m) ≡ ma.state is names (Plain m) → ma.opens t.symbol t.at m ≡ None → steps.next names t m ≡ Some (turn n ns) → low n ≤ 200 → Closes is ns n → Closes is names m
on is names ns m n t f o e l c =
    on_state (ma.state is names (Plain m)) (ma.state is ns (Plain n)) t
    (ap (ma.step_state t) f ∙ ap (λ x. ma.step_plain x is names t m) o ∙ ap (ma.plain is) e) l c
