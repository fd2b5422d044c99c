-- The parser's values, without where they lie in memory.
use Rattle.std.specs.Prelude.{◌≡◌, ℕ, List, [], ◌∷◌, ◌++◌, Option, None, Some, Result, Ok, Err, Box, Vec}
use Rattle.std.proofs.Common.{Global}
use Rattle.c_tree.specs.View.{expr, parts_of, words_of, enumerators_of, params_of, declarators_of, attributes_of, statement, statements_of, head_of, for_head_of, for_start_of, form_of, name_of, parameters_of, option_expr}
use Rattle.parse_stack.specs.declared.fail.StepFail.{StepFail}
use Rattle.parse_stack.specs.declared.fail.StepFail.TheVariants as fail
use Rattle.parse_stack.specs.declared.kinds.Test.{Test}
use Rattle.parse_stack.specs.declared.kinds.Test.TheVariants as te
use Rattle.parse_stack.specs.declared.kinds.EnumHead.{EnumHead}
use Rattle.parse_stack.specs.declared.kinds.EnumHead.TheVariants as eh
use Rattle.parse_stack.specs.declared.parts.Part.{Part}
use Rattle.parse_stack.specs.declared.parts.PartRow.{PartRow}
use Rattle.parse_stack.specs.declared.parts.Spoken.{Spoken}
use Rattle.parse_stack.specs.declared.parts.EnumRow.{EnumRow}
use Rattle.parse_stack.specs.declared.parts.ParamRow.{ParamRow}
use Rattle.parse_stack.specs.declared.parts.TallForm.{TallForm}
use Rattle.parse_stack.specs.declared.parts.DeclaratorRow.{DeclaratorRow}
use Rattle.parse_stack.specs.declared.places.Wrap.{Wrap}
use Rattle.parse_stack.specs.declared.places.Wrap.TheVariants as wr
use Rattle.parse_stack.specs.declared.places.OuterFrame.{OuterFrame}
use Rattle.parse_stack.specs.declared.places.OuterFrame.TheVariants as of
use Rattle.parse_stack.specs.declared.places.FunctionHead.{FunctionHead}
use Rattle.parse_stack.specs.declared.places.Opening.{Opening}
use Rattle.parse_stack.specs.declared.places.Outer.{Outer}
use Rattle.parse_stack.specs.declared.places.Place.{Place}
use Rattle.parse_stack.specs.declared.places.Place.TheVariants as pl
use Rattle.parse_stack.specs.declared.places.Declaring.{Declaring}
use Rattle.parse_stack.specs.declared.places.Declared.{Declared}
use Rattle.parse_stack.specs.declared.places.Inner.{Inner}
use Rattle.parse_stack.specs.declared.places.Around.{Around}
use Rattle.parse_stack.specs.declared.places.Around.TheVariants as ar
use Rattle.parse_stack.specs.declared.places.Listing.{Listing}
use Rattle.parse_stack.specs.declared.places.Attributed.{Attributed}
use Rattle.parse_stack.specs.declared.places.Attributed.TheVariants as ab
use Rattle.parse_stack.specs.declared.frames.Bind.{Bind}
use Rattle.parse_stack.specs.declared.frames.Bind.TheVariants as bi
use Rattle.parse_stack.specs.declared.frames.Opened.{Opened}
use Rattle.parse_stack.specs.declared.frames.Opened.TheVariants as op
use Rattle.parse_stack.specs.declared.frames.Nest.{Nest}
use Rattle.parse_stack.specs.declared.frames.Nest.TheVariants as ne
use Rattle.parse_stack.specs.declared.frames.Valuing.{Valuing}
use Rattle.parse_stack.specs.declared.frames.Frame.{Frame}
use Rattle.parse_stack.specs.declared.frames.Frame.TheVariants as fr
use Rattle.parse_stack.specs.declared.frames.Base.{Base}
use Rattle.parse_stack.specs.declared.frames.Base.TheVariants as ba
use Rattle.parse_stack.specs.declared.frames.Top.{Top}
use Rattle.parse_stack.specs.declared.frames.Top.TheVariants as top
use Rattle.parse_machine.specs.Contexts as m
use Rattle.c_tree.specs.Tree as t

abbrev pub test : Test → m.Test
test te.If = m.testIf
test te.While = m.testWhile
test te.Switch = m.testSwitch

abbrev pub enum_head : EnumHead → m.EnumHead
enum_head (eh.Bare at a) = m.headBare at a
enum_head (eh.Tagged at n x a) = m.headTagged at n x a

abbrev pub part : Part → m.Part
part p = record { value = expr p.node.value; level = p.level; height = p.height }

abbrev pub part_row : PartRow → m.Tall t.Parts
part_row r = record { value = parts_of r.parts.items; height = r.height }

abbrev pub spoken : Spoken → m.Spoken
spoken s = record { words = words_of s.words; told = s.told; height = s.height }

abbrev pub enum_row : EnumRow → m.Tall t.Ens
enum_row r = record { value = enumerators_of r.constants.items; height = r.height }

abbrev pub param_row : ParamRow → m.Tall t.Params
param_row r = record { value = params_of r.params.items; height = r.height }

abbrev pub tall_form : TallForm → m.Tall t.Form
tall_form f = record { value = form_of f.form; height = f.height }

abbrev pub declarator_row : DeclaratorRow → m.Tall t.Decs
declarator_row r = record { value = declarators_of r.declarators.items; height = r.height }

abbrev pub wrap : Wrap → m.Wrap
wrap (wr.Then h) = m.wThen (head_of h)
wrap (wr.Else h s at) = m.wElse (head_of h) (statement s.value) at
wrap (wr.While h) = m.wWhile (head_of h)
wrap (wr.Switch h) = m.wSwitch (head_of h)
wrap (wr.For k h) = m.wFor k (for_head_of h.value)
wrap (wr.Case at e b) = m.wCase at (expr e.value) b
wrap (wr.Default at b) = m.wDefault at b
wrap (wr.Label n at b ats) = m.wLabel n at b (attributes_of ats.items)

abbrev pub function_head : FunctionHead → m.Header
function_head h = record { words = words_of h.words; name = name_of h.name; parameters = parameters_of h.parameters.value; attributes = attributes_of h.attributes.items }

abbrev pub opening : Opening → m.Outer
opening b = m.outBody b.mark (function_head b.head.value) b.open (statements_of b.statements.items)

abbrev pub outer_on : m.Outer → OuterFrame → m.Outer
outer_on o (of.Block k a ss) = m.outBlock k a (statements_of ss.items) o
outer_on o (of.Do at) = m.outDo at o
outer_on o (of.Wrap w) = m.outWrap (wrap w) o

abbrev pub outer_behind : m.Outer → List OuterFrame → m.Outer
outer_behind o [] = o
outer_behind o (f ∷ fs) = outer_behind (outer_on o f) fs

abbrev pub outer : Outer → m.Outer
outer o = outer_behind (opening o.body.value) o.frames.items

abbrev pub place : Place → m.Place
place pl.File = m.placeFile
place (pl.Block o) = m.placeBlock (outer o)
place (pl.For k at a o) = m.placeFor k at a (outer o)

abbrev pub declaring : Declaring → m.Declaring
declaring d = record { place = place d.place.value; spoken = spoken d.spoken; before = declarator_row d.before }

abbrev pub declared : Declared → m.Declared
declared d = record { around = declaring d.around; comma = d.comma; name = d.name; at = d.at; form = tall_form d.form.value; attributes = attributes_of d.attributes.items }

abbrev pub bind : Bind → m.Bind
bind (bi.Binary a o at) = m.bBinary (part a) o at
bind (bi.Prefix o at) = m.bPrefix o at
bind (bi.Cast a ws b) = m.bCast a (record { value = words_of ws.words; height = ws.height }) b
bind (bi.Assign a o at) = m.bAssign (part a) o at
bind (bi.Else c x a y) = m.bElse (part c) x (part a) y
bind (bi.Comma es at) = m.bComma (part_row es) at

abbrev pub opened : Opened → m.Opened
opened (op.Paren a) = m.oParen a
opened (op.Index f x) = m.oIndex (part f) x
opened (op.Argument f a es c) = m.oArgument (part f) a (part_row es) c
opened (op.Then c x) = m.oThen (part c) x

abbrev pub nested : Nest → m.Inner → m.Around
nested (ne.Cast a) k = m.aroundCast a k
nested (ne.Sizeof at a) k = m.aroundSizeof at a k

abbrev pub valuing : m.Around → Valuing → m.Inner
valuing w v = m.inConstant w (spoken v.spoken) (enum_head v.head.value) (enum_row v.before) v.comma v.name v.at v.assign

abbrev pub base : Base → m.Inner
base (ba.Statement o) = m.inBase (m.baseStatement (outer o))
base (ba.Test t at a o) = m.inBase (m.baseTest (test t) at a (outer o))
base (ba.Do at s x a o) = m.inBase (m.baseDo at (statement s.value) x a (outer o))
base (ba.Return at o) = m.inBase (m.baseReturn at (outer o))
base (ba.Case at o) = m.inBase (m.baseCase at (outer o))
base (ba.Start k at a o) = m.inBase (m.baseStart k at a (outer o))
base (ba.More k at a s o) = m.inBase (m.baseMore k at a (for_start_of s.value) (outer o))
base (ba.Step k at a s e x o) = m.inBase (m.baseStep k at a (for_start_of s.value) (option_expr e) x (outer o))
base (ba.Length d a) = m.inBase (m.baseLength (declared d.value) a)
base (ba.Initial d at) = m.inBase (m.baseInitial (declared d.value) at)
base (ba.Part d at a es c) = m.inBase (m.basePart (declared d.value) at a (part_row es) c)
base (ba.ParameterConstant d a ps c v) = valuing (m.aroundParameter (declared d.value) a (param_row ps) c) v.value
base (ba.PlaceConstant p v) = valuing (m.aroundPlace (place p.value)) v.value

abbrev pub inner_on : m.Inner → Frame → m.Inner
inner_on k (fr.Bind b) = m.inBind (bind b) k
inner_on k (fr.Open o) = m.inOpen (opened o) k
inner_on k (fr.Constant n v) = valuing (nested n k) v.value

abbrev pub inner_behind : m.Inner → List Frame → m.Inner
inner_behind k [] = k
inner_behind k (f ∷ fs) = inner_behind (inner_on k f) fs

abbrev pub inner : Inner → m.Inner
inner k = inner_behind (base k.base.value) k.frames.items

abbrev pub topmost : Top → m.Inner
topmost (top.Base b) = base b.value
topmost (top.Bind b k) = m.inBind (bind b) (inner k)
topmost (top.Open o k) = m.inOpen (opened o) (inner k)
topmost (top.Constant n v k) = valuing (nested n (inner k)) v.value

abbrev pub around : Around → m.Around
around (ar.Cast a k) = m.aroundCast a (inner k)
around (ar.Sizeof at a k) = m.aroundSizeof at a (inner k)
around (ar.Parameter d a ps c) = m.aroundParameter (declared d.value) a (param_row ps) c
around (ar.Place p) = m.aroundPlace (place p.value)

abbrev pub listing : Listing → m.Listing
listing l = record { around = around l.around.value; spoken = spoken l.spoken; head = enum_head l.head.value; before = enum_row l.before; comma = l.comma }

abbrev pub attributed : Attributed → m.Attributed
attributed (ab.Words s w) = m.onWords (spoken s) (around w.value)
attributed (ab.Declared d) = m.onDeclared (declared d.value)
attributed (ab.Label n at b ats o) = m.onLabel n at b (attributes_of ats.items) (outer o)
