-- The `while` and `for` loops in the body of `main`, in the order of their offsets.
use Rattle.std.specs.Prelude.{ℕ, List, [], ◌∷◌, ◌++◌, if◌then◌else◌, Option, Some, None, codes}
use Rattle.std.specs.Str.{bytes_eq}
use Rattle.c_tree.specs.Tree.{Ex, Head, head, ForHead, for_head, St, sDeclaration, sBlock, sEmpty, sExpr, sIf, sIfElse, sWhile, sSwitch, sDo, sFor, sCase, sDefault, sLabel, sGoto, sBreak, sContinue, sReturn, Sts, no_statements, statements_and, Body, bBlock, bSkipped, named, Item, tSkipped, tFunction, tDeclaration, tEmpty, Items, no_items, items_and}
use Rattle.c_meaning.specs.Tokens.{first_of}
use Rattle.witness_places.specs.declared.loops.LoopPlace.{LoopPlace}

-- a loop whose condition begins at this token
abbrev pub loop_place : ℕ → ℕ → LoopPlace
loop_place keyword condition = record { keyword = keyword; condition = condition }

abbrev pub while_place : Head → LoopPlace
while_place (head at left condition right) = loop_place at (first_of condition)

-- without a condition the second `;` stands in its place
abbrev pub test_place : Option Ex → ℕ → ℕ
test_place None semicolon = semicolon
test_place (Some test) semicolon = first_of test

abbrev pub for_place : ForHead → LoopPlace
for_place (for_head at left start test semicolon step right) = loop_place at (test_place test semicolon)

-- the loops in a statement, behind those that were found before
abbrev mutual
  pub loops_behind : List LoopPlace → St → List LoopPlace
  loops_behind found (sDeclaration declaration) = found
  loops_behind found (sBlock left statements right) = all_behind found statements
  loops_behind found (sEmpty at) = found
  loops_behind found (sExpr e at) = found
  loops_behind found (sIf h inner) = loops_behind found inner
  loops_behind found (sIfElse h first at second) = loops_behind (loops_behind found first) second
  loops_behind found (sWhile h inner) = loops_behind (found ++ (while_place h ∷ [])) inner
  loops_behind found (sSwitch h inner) = loops_behind found inner
  loops_behind found (sDo at inner h semicolon) = loops_behind found inner
  loops_behind found (sFor h inner) = loops_behind (found ++ (for_place h ∷ [])) inner
  loops_behind found (sCase at e colon inner) = loops_behind found inner
  loops_behind found (sDefault at colon inner) = loops_behind found inner
  loops_behind found (sLabel name at colon marks inner) = loops_behind found inner
  loops_behind found (sGoto at name from semicolon) = found
  loops_behind found (sBreak at semicolon) = found
  loops_behind found (sContinue at semicolon) = found
  loops_behind found (sReturn at e semicolon) = found

  pub all_behind : List LoopPlace → Sts → List LoopPlace
  all_behind found no_statements = found
  all_behind found (statements_and statements s) = loops_behind (all_behind found statements) s

abbrev pub body_behind : List LoopPlace → List ℕ → Body → List LoopPlace
body_behind found name (bBlock left statements right) = if bytes_eq name (codes "main") then all_behind found statements else found
body_behind found name (bSkipped left raw right) = found

abbrev pub item_behind : List LoopPlace → Item → List LoopPlace
item_behind found (tSkipped extension at raw semicolon) = found
item_behind found (tFunction words (named name at) parameters marks body) = body_behind found name body
item_behind found (tDeclaration declaration) = found
item_behind found (tEmpty at) = found

abbrev pub main_loops : Items → List LoopPlace
main_loops no_items = []
main_loops (items_and items item) = item_behind (main_loops items) item
