-- A list of definitions with its constants and equal literals folded: fewer definitions, and for each variable of the
-- first list the literal that stands for it.
use Rattle.std.specs.Prelude.{ℕ, ◌+◌, ◌-◌, cond, List, [], ◌∷◌, ◌++◌, length, map, zero, suc}
use Rattle.std.specs.Prelude.{ltb}
use Rattle.prop.specs.declared.Lit.{Lit}
use Rattle.prop.specs.Logic.{negated, positive_of}
use Rattle.bit_gates.specs.declared.netlist.Def.{Def}
use Rattle.bit_gates.specs.declared.netlist.Def.TheVariants.{And, Xor, Select, Sum, Carry, Same, Fixed}
use Rattle.bit_gates.specs.Products.{Made}
use Rattle.bit_words.specs.Folds.{def_in}

-- the literal at a place of a list
abbrev pub standing : List Lit → ℕ → Lit
standing [] k = positive_of 0
standing (l ∷ ls) zero = l
standing (l ∷ ls) (suc k) = standing ls k

-- a literal in new variables: those from base on are replaced by the literals that stand for them
abbrev pub renamed : ℕ → List Lit → Lit → Lit
renamed base subs l =
    cond (ltb l.var base) l (cond l.positive (standing subs (l.var - base)) (negated (standing subs (l.var - base))))

abbrev pub renamed_def : ℕ → List Lit → Def → Def
renamed_def base subs (And a b) = And (renamed base subs a) (renamed base subs b)
renamed_def base subs (Xor a b) = Xor (renamed base subs a) (renamed base subs b)
renamed_def base subs (Select c a b) = Select (renamed base subs c) (renamed base subs a) (renamed base subs b)
renamed_def base subs (Sum a b c) = Sum (renamed base subs a) (renamed base subs b) (renamed base subs c)
renamed_def base subs (Carry a b c) = Carry (renamed base subs a) (renamed base subs b) (renamed base subs c)
renamed_def base subs (Same e a b) = Same (renamed base subs e) (renamed base subs a) (renamed base subs b)
renamed_def base subs (Fixed b) = Fixed b

-- definitions, and what stands for each variable so far
pub record Folded : Type 0 where
  pub defs : List Def
  pub subs : List Lit

-- the definitions ds of the variables from base + length subs on, in variables from n on
abbrev pub folded : Lit → ℕ → ℕ → List Lit → List Def → Folded
folded one base n subs [] = record { defs = []; subs = subs }
folded one base n subs (d ∷ ds) =
    let f = def_in one n (renamed_def base subs d) in
    let r = folded one base (n + length f.defs) (subs ++ f.out ∷ []) ds in
    record { defs = f.defs ++ r.defs; subs = r.subs }

-- what is made from the variable n on, folded
abbrev pub folded_made : Lit → ℕ → Made → Made
folded_made one n m =
    let f = folded one n n [] m.defs in
    record { defs = f.defs; outs = map (renamed n f.subs) m.outs }
