-- The program's trees, without where they lie in memory.
use Rattle.std.specs.Prelude.{List, [], ◌∷◌, Option, None, Some, Box}
use Rattle.std.proofs.Common.{Global}
use Rattle.c_tree.specs.declared.symbol.SymbolAt.{SymbolAt}
use Rattle.c_tree.specs.declared.tree.Name.{Name}
use Rattle.c_tree.specs.declared.tree.Attribute.{Attribute}
use Rattle.c_tree.specs.declared.tree.Listed.{Listed}
use Rattle.c_tree.specs.declared.tree.Specs.{Specs}
use Rattle.c_tree.specs.declared.tree.Enumerator.{Enumerator, Plain, Valued'}
use Rattle.c_tree.specs.declared.tree.Spec.{Spec, Row_of-Enumerator, end_of-Enumerator, more_of-Enumerator}
use Rattle.c_tree.specs.declared.tree.Spec as sp
use Rattle.c_tree.specs.declared.tree.Expr.{Expr, Row_of-Spec, end_of-Spec, more_of-Spec, Row_of-Listed, end_of-Listed, more_of-Listed}
use Rattle.c_tree.specs.declared.tree.Expr as ex
use Rattle.c_tree.specs.declared.tree.Parameter.{Parameter}
use Rattle.c_tree.specs.declared.tree.Parameters.{Parameters}
use Rattle.c_tree.specs.declared.tree.Parameters.TheVariants as pa
use Rattle.c_tree.specs.declared.tree.Form.{Form}
use Rattle.c_tree.specs.declared.tree.Form.TheVariants as fo
use Rattle.c_tree.specs.declared.tree.Initial.{Initial}
use Rattle.c_tree.specs.declared.tree.Initial.TheVariants as ini
use Rattle.c_tree.specs.declared.tree.Declarator.{Declarator}
use Rattle.c_tree.specs.declared.tree.Declaration.{Declaration}
use Rattle.c_tree.specs.declared.tree.Head.{Head}
use Rattle.c_tree.specs.declared.tree.ForStart.{ForStart}
use Rattle.c_tree.specs.declared.tree.ForStart.TheVariants as fs
use Rattle.c_tree.specs.declared.tree.ForHead.{ForHead}
use Rattle.c_tree.specs.declared.tree.Statement.{Statement, Row_of-Statement, end_of-Statement, more_of-Statement}
use Rattle.c_tree.specs.declared.tree.Statement.TheVariants as st
use Rattle.c_tree.specs.declared.tree.Body.{Body}
use Rattle.c_tree.specs.declared.tree.Body.TheVariants as bo
use Rattle.c_tree.specs.declared.tree.Item.{Item}
use Rattle.c_tree.specs.declared.tree.Item.TheVariants as it
use Rattle.c_tree.specs.Tree as t

abbrev pub raw_behind : t.Raw → List SymbolAt → t.Raw
raw_behind r [] = r
raw_behind r (x ∷ xs) = raw_behind (t.raw_and r x) xs

abbrev pub raw_of : List SymbolAt → t.Raw
raw_of xs = raw_behind t.no_raw xs

abbrev pub attribute_of : Attribute → t.At
attribute_of a = t.attribute a.word a.at a.open (raw_of a.tokens.items) a.close

abbrev pub attributes_behind : t.Ats → List Attribute → t.Ats
attributes_behind ats [] = ats
attributes_behind ats (x ∷ xs) = attributes_behind (t.attributes_and ats (attribute_of x)) xs

abbrev pub attributes_of : List Attribute → t.Ats
attributes_of xs = attributes_behind t.no_attributes xs

abbrev mutual
  pub expr : Expr → t.Ex
  expr (ex.Name n at) = t.eName n at
  expr (ex.Number v f at) = t.eNumber v f at
  expr (ex.Letter v at) = t.eLetter v at
  expr (ex.Paren' a p e b) = t.eParen a (expr e) b
  expr (ex.Call' p f a _ es b) = t.eCall (expr f) a (part_row t.no_parts es) b
  expr (ex.Index' p a x q i y) = t.eIndex (expr a) x (expr i) y
  expr (ex.Postfix' p e c at) = t.ePostfix (expr e) c at
  expr (ex.Prefix' o at p e) = t.ePrefix o at (expr e)
  expr (ex.SizeofType' a b _ ws c) = t.eSizeof a b (word_row t.no_words ws) c
  expr (ex.Cast' a _ ws b p e) = t.eCast a (word_row t.no_words ws) b (expr e)
  expr (ex.Binary' p a o at q b) = t.eBinary (expr a) o at (expr b)
  expr (ex.Cond' p c x q a y r b) = t.eCond (expr c) x (expr a) y (expr b)
  expr (ex.Assign' p a o at q b) = t.eAssign (expr a) o at (expr b)
  expr (ex.Comma' _ es) = t.eComma (part_row t.no_parts es)

  pub part_row : {n : _} → t.Parts → Row_of-Listed n → t.Parts
  part_row es end_of-Listed = es
  part_row es (more_of-Listed c p e rest) = part_row (t.parts_and es c (expr e)) rest

  pub word_row : {n : _} → t.Words → Row_of-Spec n → t.Words
  word_row ws end_of-Spec = ws
  word_row ws (more_of-Spec w rest) = word_row (t.words_and ws (word w)) rest

  pub word : Spec → t.Word
  word (sp.Type w at) = t.wType w at
  word (sp.Storage w at) = t.wStorage w at
  word (sp.Const w at) = t.wConst w at
  word (sp.Extension at) = t.wExtension at
  word (sp.Attribute a) = t.wAttribute (attribute_of a)
  word (sp.Typedef n at) = t.wTypedef n at
  word (sp.Tag a n b) = t.wTag a n b
  word (sp.Enum' a b _ es c d) = t.wEnum a b (enumerator_row t.no_enumerators es) c d
  word (sp.TagEnum' a n b c _ es d e) = t.wTagEnum a n b c (enumerator_row t.no_enumerators es) d e

  pub enumerator_row : {n : _} → t.Ens → Row_of-Enumerator n → t.Ens
  enumerator_row es end_of-Enumerator = es
  enumerator_row es (more_of-Enumerator e rest) = enumerator_row (enumerator_behind es e) rest

  pub enumerator_behind : t.Ens → Enumerator → t.Ens
  enumerator_behind es (Plain c n at) = t.plain_and es c n at
  enumerator_behind es (Valued' c n a b p e) = t.valued_and es c n a b (expr e)

abbrev pub option_expr : Option (Box Expr Global) → Option t.Ex
option_expr None = None
option_expr (Some e) = Some (expr e.value)

abbrev pub parts_behind : t.Parts → List Listed → t.Parts
parts_behind es [] = es
parts_behind es (x ∷ xs) = parts_behind (t.parts_and es x.comma (expr x.value.value)) xs

abbrev pub parts_of : List Listed → t.Parts
parts_of xs = parts_behind t.no_parts xs

abbrev pub words_behind : t.Words → List Spec → t.Words
words_behind ws [] = ws
words_behind ws (x ∷ xs) = words_behind (t.words_and ws (word x)) xs

abbrev pub words_of : Specs → t.Words
words_of s = words_behind t.no_words s.words.items

abbrev pub enumerators_behind : t.Ens → List Enumerator → t.Ens
enumerators_behind es [] = es
enumerators_behind es (x ∷ xs) = enumerators_behind (enumerator_behind es x) xs

abbrev pub enumerators_of : List Enumerator → t.Ens
enumerators_of xs = enumerators_behind t.no_enumerators xs

abbrev pub name_of : Name → t.Name
name_of n = t.named n.text n.at

abbrev pub option_name : Option Name → Option t.Name
option_name None = None
option_name (Some n) = Some (name_of n)

abbrev pub params_behind : t.Params → List Parameter → t.Params
params_behind ps [] = ps
params_behind ps (x ∷ xs) = params_behind (t.params_and ps x.comma (words_of x.specs) (option_name x.name)) xs

abbrev pub params_of : List Parameter → t.Params
params_of xs = params_behind t.no_params xs

abbrev pub parameters_of : Parameters → t.Parameters
parameters_of (pa.Unknown a b) = t.pUnknown a b
parameters_of (pa.Void a b c) = t.pVoid a b c
parameters_of (pa.Some a ps b) = t.pSome a (params_of ps.items) b

abbrev pub form_of : Form → t.Form
form_of fo.Plain = t.fPlain
form_of (fo.Array a e b) = t.fArray a (option_expr e) b
form_of (fo.Function p) = t.fFunction (parameters_of p)

abbrev pub initial_of : Initial → t.Initial
initial_of ini.Nothing = t.iNothing
initial_of (ini.Value a e) = t.iValue a (expr e.value)
initial_of (ini.List a b es c d) = t.iList a b (parts_of es.items) c d

abbrev pub declarator_behind : t.Decs → Declarator → t.Decs
declarator_behind ds d = t.declarators_and ds d.comma (name_of d.name) (form_of d.form) (attributes_of d.attributes.items) (initial_of d.initial)

abbrev pub declarators_behind : t.Decs → List Declarator → t.Decs
declarators_behind ds [] = ds
declarators_behind ds (x ∷ xs) = declarators_behind (declarator_behind ds x) xs

abbrev pub declarators_of : List Declarator → t.Decs
declarators_of xs = declarators_behind t.no_declarators xs

abbrev pub declaration_of : Declaration → t.Declaration
declaration_of d = t.declares (words_of d.specs) (declarators_of d.declarators.items) d.semicolon

abbrev pub head_of : Head → t.Head
head_of h = t.head h.at h.open (expr h.condition.value) h.close

abbrev pub for_start_of : ForStart → t.ForStart
for_start_of (fs.Declaration d) = t.forDeclares (declaration_of d)
for_start_of (fs.Expr e at) = t.forExpr (option_expr e) at

abbrev pub for_head_of : ForHead → t.ForHead
for_head_of h = t.for_head h.at h.open (for_start_of h.start) (option_expr h.test) h.semicolon (option_expr h.step) h.close

abbrev mutual
  pub statement : Statement → t.St
  statement (st.Declaration d) = t.sDeclaration (declaration_of d)
  statement (st.Block' a _ ss b) = t.sBlock a (statement_row t.no_statements ss) b
  statement (st.Empty at) = t.sEmpty at
  statement (st.Expr e at) = t.sExpr (expr e.value) at
  statement (st.If' h p s) = t.sIf (head_of h) (statement s)
  statement (st.IfElse' h p a at q b) = t.sIfElse (head_of h) (statement a) at (statement b)
  statement (st.While' h p s) = t.sWhile (head_of h) (statement s)
  statement (st.Switch' h p s) = t.sSwitch (head_of h) (statement s)
  statement (st.Do' at p s h b) = t.sDo at (statement s) (head_of h) b
  statement (st.For' h p s) = t.sFor (for_head_of h) (statement s)
  statement (st.Case' a e b p s) = t.sCase a (expr e.value) b (statement s)
  statement (st.Default' a b p s) = t.sDefault a b (statement s)
  statement (st.Label' n a b ats p s) = t.sLabel n a b (attributes_of ats.items) (statement s)
  statement (st.Goto a n b c) = t.sGoto a n b c
  statement (st.Break a b) = t.sBreak a b
  statement (st.Continue a b) = t.sContinue a b
  statement (st.Return a e b) = t.sReturn a (option_expr e) b

  pub statement_row : {n : _} → t.Sts → Row_of-Statement n → t.Sts
  statement_row ss end_of-Statement = ss
  statement_row ss (more_of-Statement s rest) = statement_row (t.statements_and ss (statement s)) rest

abbrev pub statements_behind : t.Sts → List Statement → t.Sts
statements_behind ss [] = ss
statements_behind ss (x ∷ xs) = statements_behind (t.statements_and ss (statement x)) xs

abbrev pub statements_of : List Statement → t.Sts
statements_of xs = statements_behind t.no_statements xs

abbrev pub body_of : Body → t.Body
body_of (bo.Block a ss b) = t.bBlock a (statements_of ss.items) b
body_of (bo.Skipped a r b) = t.bSkipped a (raw_of r.items) b

abbrev pub item_of : Item → t.Item
item_of (it.Skipped e a r b) = t.tSkipped e a (raw_of r.items) b
item_of (it.Function f) = t.tFunction (words_of f.specs) (name_of f.name) (parameters_of f.parameters) (attributes_of f.attributes.items) (body_of f.body)
item_of (it.Declaration d) = t.tDeclaration (declaration_of d)
item_of (it.Empty at) = t.tEmpty at

abbrev pub items_behind : t.Items → List Item → t.Items
items_behind is [] = is
items_behind is (x ∷ xs) = items_behind (t.items_and is (item_of x)) xs

abbrev pub items_of : List Item → t.Items
items_of xs = items_behind t.no_items xs
