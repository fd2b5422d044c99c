-- The sites in statements, in the order in which their instructions stand in flat code, behind those that were found before.
use Rattle.std.specs.Prelude.{ℕ, ◌+◌, min, List, Option}
use Rattle.c_tree.specs.Tree.{Ex, Initial, iNothing, iValue, iList, Decs, no_declarators, declarators_and, Declaration, declares, Head, head, ForStart, forDeclares, forExpr, ForHead, for_head, St, sDeclaration, sBlock, sEmpty, sExpr, sIf, sIfElse, sWhile, sSwitch, sDo, sFor, sCase, sDefault, sLabel, sGoto, sBreak, sContinue, sReturn, Sts, no_statements, statements_and, Body, bBlock, bSkipped}
use Rattle.trace_sites.specs.declared.site.Site.{Site}
use Rattle.trace_sites.specs.declared.site.Part.TheVariants.{Decision, Case}
use Rattle.trace_sites.specs.Expressions.{with_site, expression_behind, parts_behind, option_behind}

abbrev pub initial_behind : List Site → Initial → List Site
initial_behind found iNothing = found
initial_behind found (iValue at e) = expression_behind found e
initial_behind found (iList at left parts comma right) = parts_behind found parts

abbrev pub declarators_behind : List Site → Decs → List Site
declarators_behind found no_declarators = found
declarators_behind found (declarators_and ds comma name form marks initial) = initial_behind (declarators_behind found ds) initial

abbrev pub declaration_behind : List Site → Declaration → List Site
declaration_behind found (declares words ds semicolon) = declarators_behind found ds

-- the offset behind this one
abbrev pub behind : ℕ → ℕ
behind at = min (at + 1) 4294967295

-- a condition between brackets: what stands between them
abbrev pub head_behind : List Site → Head → List Site
head_behind found (head at left condition right) = with_site (expression_behind found condition) Decision (behind left) right

-- how a `for` begins, and the `;` behind it
abbrev pub start_behind : List Site → ForStart → List Site
start_behind found (forDeclares declaration) = declaration_behind found declaration
start_behind found (forExpr e semicolon) = option_behind found e

abbrev pub start_end : ForStart → ℕ
start_end (forDeclares (declares words ds semicolon)) = semicolon
start_end (forExpr e semicolon) = semicolon

-- what stands between the two `;`, also where no condition does
abbrev pub for_behind : List Site → ForHead → List Site
for_behind found (for_head at left start test semicolon step right) =
    with_site (option_behind (start_behind found start) test) Decision (behind (start_end start)) semicolon

abbrev pub step_of : ForHead → Option Ex
step_of (for_head at left start test semicolon step right) = step

-- the condition of a `switch` is compared with its cases
abbrev pub value_behind : List Site → Head → List Site
value_behind found (head at left condition right) = expression_behind found condition

-- the cases of the innermost `switch` around a statement: their keywords
abbrev mutual
  pub cases_behind : List Site → St → List Site
  cases_behind found (sDeclaration declaration) = found
  cases_behind found (sBlock left statements right) = all_cases_behind found statements
  cases_behind found (sEmpty at) = found
  cases_behind found (sExpr e at) = found
  cases_behind found (sIf h s) = cases_behind found s
  cases_behind found (sIfElse h first at second) = cases_behind (cases_behind found first) second
  cases_behind found (sWhile h s) = cases_behind found s
  cases_behind found (sSwitch h s) = found
  cases_behind found (sDo at s h semicolon) = cases_behind found s
  cases_behind found (sFor h s) = cases_behind found s
  cases_behind found (sCase at e colon s) = cases_behind (with_site found Case at at) s
  cases_behind found (sDefault at colon s) = cases_behind found s
  cases_behind found (sLabel name at colon marks s) = cases_behind found s
  cases_behind found (sGoto at name start semicolon) = found
  cases_behind found (sBreak at semicolon) = found
  cases_behind found (sContinue at semicolon) = found
  cases_behind found (sReturn at e semicolon) = found

  pub all_cases_behind : List Site → Sts → List Site
  all_cases_behind found no_statements = found
  all_cases_behind found (statements_and statements s) = cases_behind (all_cases_behind found statements) s

-- the condition of a `do` stands before its body, and the third part of a `for` behind it
abbrev mutual
  pub statement_behind : List Site → St → List Site
  statement_behind found (sDeclaration declaration) = declaration_behind found declaration
  statement_behind found (sBlock left statements right) = all_behind found statements
  statement_behind found (sEmpty at) = found
  statement_behind found (sExpr e at) = expression_behind found e
  statement_behind found (sIf h s) = statement_behind (head_behind found h) s
  statement_behind found (sIfElse h first at second) = statement_behind (statement_behind (head_behind found h) first) second
  statement_behind found (sWhile h s) = statement_behind (head_behind found h) s
  statement_behind found (sSwitch h s) = statement_behind (cases_behind (value_behind found h) s) s
  statement_behind found (sDo at s h semicolon) = statement_behind (head_behind found h) s
  statement_behind found (sFor h s) = option_behind (statement_behind (for_behind found h) s) (step_of h)
  statement_behind found (sCase at e colon s) = statement_behind found s
  statement_behind found (sDefault at colon s) = statement_behind found s
  statement_behind found (sLabel name at colon marks s) = statement_behind found s
  statement_behind found (sGoto at name start semicolon) = found
  statement_behind found (sBreak at semicolon) = found
  statement_behind found (sContinue at semicolon) = found
  statement_behind found (sReturn at e semicolon) = option_behind found e

  pub all_behind : List Site → Sts → List Site
  all_behind found no_statements = found
  all_behind found (statements_and statements s) = statement_behind (all_behind found statements) s

-- a body that is kept as its tokens has none
abbrev pub body_behind : List Site → Body → List Site
body_behind found (bBlock left statements right) = all_behind found statements
body_behind found (bSkipped left raw right) = found
