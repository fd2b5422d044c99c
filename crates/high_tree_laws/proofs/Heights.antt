-- Where the machine counts at most 200, the tree is no higher than it counts.
use Rattle.std.proofs.Common.{◌≡◌, ℕ, suc, ◌≤◌, ◌<◌, max, Option, None, Some, Bool, true, false, if◌then◌else◌, leb, refl, arith, ◌⊎◌, inl, inr, leb-true, leb-false}
use Rattle.c_tree.specs.Height.{height, height_parts, height_words, height_word, height_enumerators, height_option, height_attributes, height_params, height_parameters, height_form, height_initial, height_declarators, height_declaration, height_head, height_for_start, height_for_head, height_statement, height_statements, height_item}
use Rattle.c_tree.specs.Tree.{Ats, no_attributes, attributes_and, Ex, eName, eNumber, eLetter, eParen, eCall, eIndex, ePostfix, ePrefix, eSizeof, eCast, eBinary, eCond, eAssign, eComma, Parts, no_parts, parts_and, Words, no_words, words_and, Word, wType, wStorage, wConst, wExtension, wAttribute, wTypedef, wTag, wEnum, wTagEnum, Ens, no_enumerators, plain_and, valued_and, Params, no_params, params_and, Parameters, pUnknown, pVoid, pSome, Form, fPlain, fArray, fFunction, Initial, iNothing, iValue, iList, Decs, no_declarators, declarators_and, Declaration, declares, Head, head, ForStart, forDeclares, forExpr, ForHead, for_head, St, sDeclaration, sBlock, sEmpty, sExpr, sIf, sIfElse, sWhile, sSwitch, sDo, sFor, sCase, sDefault, sLabel, sGoto, sBreak, sContinue, sReturn, Sts, no_statements, statements_and, bBlock, bSkipped, Item, tSkipped, tFunction, tDeclaration, tEmpty}
use Rattle.parse_machine.specs.Making.{above}
use Rattle.high_tree_laws.proofs.Kept.{counted, counted_parts, counted_words, counted_word, counted_constants, counted_option, counted_params, counted_parameters, counted_form, counted_initial, counted_declarators, counted_declares, counted_head, counted_for_start, counted_for_head, counted_statement, counted_statements, counted_item}

above_cases : (h : ℕ) → ((h ≤ 200) × (above h ≡ suc h)) ⊎ ((200 < h) × (above h ≡ h))
above_cases h = above_at h (leb h 200) refl
  where
    above_at : (h : ℕ) (c : Bool) → leb h 200 ≡ c → ((h ≤ 200) × ((if c then suc h else h) ≡ suc h)) ⊎ ((200 < h) × ((if c then suc h else h) ≡ h))
    above_at h true e = inl (leb-true _ _ e, refl)
    above_at h false e = inr (leb-false _ _ e, refl)

-- one node more
more : (g h : ℕ) → (h ≤ 200 → g ≤ h) → above h ≤ 200 → suc g ≤ above h
more g h f p = more_at g h f p (above_cases h)
  where
    more_at : (g h : ℕ) → (h ≤ 200 → g ≤ h) → above h ≤ 200 → ((h ≤ 200) × (above h ≡ suc h)) ⊎ ((200 < h) × (above h ≡ h)) → suc g ≤ above h
    more_at g h f p (inl a) = omega (arith, f a.0, a.1)
    more_at g h f p (inr a) = absurd (omega (arith, p, a.0, a.1))

both : (a c x y : ℕ) → (c ≤ 200 → a ≤ c) → (y ≤ 200 → x ≤ y) → max c y ≤ 200 → max a x ≤ max c y
both a c x y f g p = omega (arith, f (omega (arith, p)), g (omega (arith, p)))

mutual
  ex_height : (e : Ex) → counted e ≤ 200 → height e ≤ counted e
  ex_height (eName n at) p = omega arith
  ex_height (eNumber v f at) p = omega arith
  ex_height (eLetter v at) p = omega arith
  ex_height (eParen a e c) p = more _ _ (ex_height e) p
  ex_height (eCall f a es c) p = more _ _ (both _ _ _ _ (ex_height f) (parts_height es)) p
  ex_height (eIndex f x i y) p = more _ _ (both _ _ _ _ (ex_height f) (ex_height i)) p
  ex_height (ePostfix e c at) p = more _ _ (ex_height e) p
  ex_height (ePrefix o at e) p = more _ _ (ex_height e) p
  ex_height (eSizeof at a ws c) p = more _ _ (more _ _ (words_height ws)) p
  ex_height (eCast a ws c e) p = more _ _ (both _ _ _ _ (more _ _ (words_height ws)) (ex_height e)) p
  ex_height (eBinary a o at c) p = more _ _ (both _ _ _ _ (ex_height a) (ex_height c)) p
  ex_height (eCond c x a y d) p = more _ _ (both _ _ _ _ (both _ _ _ _ (ex_height c) (ex_height a)) (ex_height d)) p
  ex_height (eAssign a o at c) p = more _ _ (both _ _ _ _ (ex_height a) (ex_height c)) p
  ex_height (eComma es) p = more _ _ (parts_height es) p

  parts_height : (es : Parts) → counted_parts es ≤ 200 → height_parts es ≤ counted_parts es
  parts_height no_parts p = omega arith
  parts_height (parts_and es c e) p = both _ _ _ _ (parts_height es) (ex_height e) p

  words_height : (ws : Words) → counted_words ws ≤ 200 → height_words ws ≤ counted_words ws
  words_height no_words p = omega arith
  words_height (words_and ws x) p = both _ _ _ _ (words_height ws) (word_height x) p

  word_height : (x : Word) → counted_word x ≤ 200 → height_word x ≤ counted_word x
  word_height (wType w at) p = omega arith
  word_height (wStorage w at) p = omega arith
  word_height (wConst w at) p = omega arith
  word_height (wExtension at) p = omega arith
  word_height (wAttribute a) p = omega arith
  word_height (wTypedef n at) p = omega arith
  word_height (wTag at n c) p = omega arith
  word_height (wEnum at a es c y) p = more _ _ (constants_height es) p
  word_height (wTagEnum at n x a es c y) p = more _ _ (constants_height es) p

  constants_height : (es : Ens) → counted_constants es ≤ 200 → height_enumerators es ≤ counted_constants es
  constants_height no_enumerators p = omega arith
  constants_height (plain_and es c n at) p = both _ _ 1 1 (constants_height es) (λ q. omega arith) p
  constants_height (valued_and es c n at a e) p = both _ _ _ _ (constants_height es) (more _ _ (ex_height e)) p

option_height : (e : Option Ex) → counted_option e ≤ 200 → height_option e ≤ counted_option e
option_height None p = omega arith
option_height (Some e) p = ex_height e p

params_height : (ps : Params) → counted_params ps ≤ 200 → height_params ps ≤ counted_params ps
params_height no_params p = omega arith
params_height (params_and ps c ws n) p = both _ _ _ _ (params_height ps) (more _ _ (words_height ws)) p

parameters_height : (ps : Parameters) → counted_parameters ps ≤ 200 → height_parameters ps ≤ counted_parameters ps
parameters_height (pUnknown a c) p = omega arith
parameters_height (pVoid a at c) p = omega arith
parameters_height (pSome a ps c) p = more _ _ (params_height ps) p

form_height : (f : Form) → counted_form f ≤ 200 → height_form f ≤ counted_form f
form_height fPlain p = omega arith
form_height (fArray a e c) p = option_height e p
form_height (fFunction ps) p = parameters_height ps p

initial_height : (i : Initial) → counted_initial i ≤ 200 → height_initial i ≤ counted_initial i
initial_height iNothing p = omega arith
initial_height (iValue at e) p = ex_height e p
initial_height (iList at a es c y) p = more _ _ (parts_height es) p

declarators_height : (ds : Decs) → counted_declarators ds ≤ 200 → height_declarators ds ≤ counted_declarators ds
declarators_height no_declarators p = omega arith
declarators_height (declarators_and ds c n f ats i) p =
    both _ _ _ _ (declarators_height ds) (more _ _ (both _ _ _ _ (both _ _ (height_attributes ats) (height_attributes ats) (form_height f) (λ q. omega arith)) (initial_height i))) p

declares_height : (d : Declaration) → counted_declares d ≤ 200 → height_declaration d ≤ counted_declares d
declares_height (declares ws ds x) p = omega (arith, both _ _ _ _ (more _ _ (words_height ws)) (declarators_height ds) (omega (arith, p)))

head_height : (h : Head) → counted_head h ≤ 200 → height_head h ≤ counted_head h
head_height (head at a e c) p = ex_height e p

start_height : (s : ForStart) → counted_for_start s ≤ 200 → height_for_start s ≤ counted_for_start s
start_height (forDeclares d) p = declares_height d p
start_height (forExpr e at) p = option_height e p

for_height : (h : ForHead) → counted_for_head h ≤ 200 → height_for_head h ≤ counted_for_head h
for_height (for_head at a s e x i c) p = both _ _ _ _ (both _ _ _ _ (start_height s) (option_height e)) (option_height i) p

one : (ats : Ats) → height_attributes ats ≤ 1
one no_attributes = omega arith
one (attributes_and ats x) = omega arith

st_some : (s : St) → 1 ≤ height_statement s
st_some (sDeclaration (declares ws ds x)) = omega arith
st_some (sBlock a ss c) = omega arith
st_some (sEmpty at) = omega arith
st_some (sExpr e at) = omega arith
st_some (sIf h s) = omega arith
st_some (sIfElse h a at s) = omega arith
st_some (sWhile h s) = omega arith
st_some (sSwitch h s) = omega arith
st_some (sDo at s h c) = omega arith
st_some (sFor h s) = omega arith
st_some (sCase at e c s) = omega arith
st_some (sDefault at c s) = omega arith
st_some (sLabel n at c ats s) = omega arith
st_some (sGoto at n x c) = omega arith
st_some (sBreak at c) = omega arith
st_some (sContinue at c) = omega arith
st_some (sReturn at e c) = omega arith

-- a node of a statement, which is always counted
node : (g h : ℕ) → (h ≤ 200 → g ≤ h) → suc h ≤ 200 → suc g ≤ suc h
node g h f p = omega (arith, f (omega (arith, p)))

mutual
  st_height : (s : St) → counted_statement s ≤ 200 → height_statement s ≤ counted_statement s
  st_height (sDeclaration d) p = declares_height d p
  st_height (sBlock a ss c) p = node _ _ (sts_height ss) p
  st_height (sEmpty at) p = omega arith
  st_height (sExpr e at) p = node _ _ (ex_height e) p
  st_height (sIf h s) p = node _ _ (both _ _ _ _ (head_height h) (st_height s)) p
  st_height (sIfElse h a at s) p = node _ _ (both _ _ _ _ (both _ _ _ _ (head_height h) (st_height a)) (st_height s)) p
  st_height (sWhile h s) p = node _ _ (both _ _ _ _ (head_height h) (st_height s)) p
  st_height (sSwitch h s) p = node _ _ (both _ _ _ _ (head_height h) (st_height s)) p
  st_height (sDo at s h c) p = node _ _ (both _ _ _ _ (st_height s) (head_height h)) p
  st_height (sFor h s) p = node _ _ (both _ _ _ _ (for_height h) (st_height s)) p
  st_height (sCase at e c s) p = node _ _ (both _ _ _ _ (ex_height e) (st_height s)) p
  st_height (sDefault at c s) p = node _ _ (st_height s) p
  st_height (sLabel n at c ats s) p = omega (arith, one ats, st_some s, st_height s (omega (arith, p)))
  st_height (sGoto at n x c) p = omega arith
  st_height (sBreak at c) p = omega arith
  st_height (sContinue at c) p = omega arith
  st_height (sReturn at e c) p = node _ _ (option_height e) p

  sts_height : (ss : Sts) → counted_statements ss ≤ 200 → height_statements ss ≤ counted_statements ss
  sts_height no_statements p = omega arith
  sts_height (statements_and ss s) p = both _ _ _ _ (sts_height ss) (st_height s) p

parameters_some : (ps : Parameters) → 1 ≤ height_parameters ps
parameters_some (pUnknown a c) = omega arith
parameters_some (pVoid a at c) = omega arith
parameters_some (pSome a ps c) = omega arith

pub item_height : (i : Item) → counted_item i ≤ 200 → height_item i ≤ 200
item_height (tSkipped x at r c) p = omega arith
item_height (tFunction ws n ps ats (bBlock a ss c)) p =
    omega (arith, p, one ats, parameters_some ps, more _ _ (words_height ws) (omega (arith, p)), parameters_height ps (omega (arith, p)), sts_height ss (omega (arith, p)))
item_height (tFunction ws n ps ats (bSkipped a r c)) p =
    omega (arith, p, one ats, parameters_some ps, more _ _ (words_height ws) (omega (arith, p)), parameters_height ps (omega (arith, p)))
item_height (tDeclaration (declares ws ds x)) p = omega (arith, p, more _ _ (both _ _ _ _ (more _ _ (words_height ws)) (declarators_height ds)) p)
item_height (tEmpty at) p = omega arith
