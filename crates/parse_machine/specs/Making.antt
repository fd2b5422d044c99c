-- Makes nodes, with their heights.
use Rattle.std.specs.Prelude.{ℕ, suc, max, leb, List, [], ◌∷◌, Option, Some, if◌then◌else◌, pos}
use Rattle.c_tree.specs.declared.known.Known.{Known}
use Rattle.c_tree.specs.Words.{nothing_known}
use Rattle.c_tree.specs.Spelling.{level}
use Rattle.c_tree.specs.Height.{height_attributes}
use Rattle.c_tree.specs.Tree.{Ats, no_attributes, Ex, eLetter, ePrefix, eCast, eBinary, eCond, eAssign, eComma, Parts, parts_and, Words, no_words, words_and, Word, wExtension, wEnum, wTagEnum, Ens, plain_and, valued_and, Name, named, Params, params_and, Form, fPlain, Initial, Decs, no_declarators, declarators_and, Declaration, declares, Head, St, sIf, sIfElse, sWhile, sSwitch, sFor, sCase, sDefault, sLabel}
use Rattle.parse_machine.specs.Contexts.{Tall, Part, Spoken, Bind, bBinary, bPrefix, bCast, bAssign, bElse, bComma, Test, testIf, testWhile, testSwitch, Wrap, wThen, wElse, wWhile, wSwitch, wFor, wCase, wDefault, wLabel, Place, Declaring, Declared, EnumHead, headBare, headTagged, Listing, Around}

-- one node more; 201 stands for all that is higher than 200
abbrev pub above : ℕ → ℕ
above h = if leb h 200 then suc h else h

abbrev pub tall : {A : Type 0} → A → ℕ → Tall A
tall x h = record { value = x; height = h }

-- an expression of this level and height; higher than 200, no tree is kept
abbrev pub part : ℕ → ℕ → Ex → Part
part l h e = record { value = if leb h 200 then e else eLetter (pos 0) 0; level = l; height = h }

abbrev pub spoken : Words → Known → ℕ → Spoken
spoken ws k h = record { words = ws; told = k; height = h }

abbrev pub unspoken : Spoken
unspoken = spoken no_words nothing_known 0

-- one word more, which adds this to what is said
abbrev pub said : Spoken → Known → Word → ℕ → Spoken
said s k w h = spoken (words_and s.words w) k (max s.height h)

-- so many times `__extension__`
abbrev pub extension_words : List ℕ → Spoken → Spoken
extension_words [] s = s
extension_words (at ∷ ats) s = extension_words ats (said s s.told (wExtension at) 0)

abbrev pub tall_words : Spoken → Tall Words
tall_words s = tall s.words s.height

abbrev pub one_more : Tall Parts → Option ℕ → Part → Tall Parts
one_more es c e = tall (parts_and es.value c e.value) (max es.height e.height)

-- an operator with its last operand
abbrev pub bound : Bind → Part → Part
bound (bBinary a o at) e = part (level o) (above (max a.height e.height)) (eBinary a.value o at e.value)
bound (bPrefix o at) e = part 14 (above e.height) (ePrefix o at e.value)
bound (bCast a ws b) e = part 13 (above (max (above ws.height) e.height)) (eCast a ws.value b e.value)
bound (bAssign a o at) e = part 1 (above (max a.height e.height)) (eAssign a.value o at e.value)
bound (bElse c x a y) e = part 2 (above (max (max c.height a.height) e.height)) (eCond c.value x a.value y e.value)
bound (bComma es at) e = part 0 (above (max es.height e.height)) (eComma (parts_and es.value (Some at) e.value))

-- the level up to which a token makes the operator whole
abbrev pub bind_level : Bind → ℕ
bind_level (bBinary a o at) = level o
bind_level (bPrefix o at) = 15
bind_level (bCast a ws b) = 15
bind_level (bAssign a o at) = 1
bind_level (bElse c x a y) = 1
bind_level (bComma es at) = 0

abbrev pub wrapped : Wrap → St → St
wrapped (wThen h) s = sIf h s
wrapped (wElse h a at) s = sIfElse h a at s
wrapped (wWhile h) s = sWhile h s
wrapped (wSwitch h) s = sSwitch h s
wrapped (wFor m h) s = sFor h s
wrapped (wCase at e b) s = sCase at e b s
wrapped (wDefault at b) s = sDefault at b s
wrapped (wLabel n at b ats) s = sLabel n at b ats s

abbrev pub tested : Test → Head → Wrap
tested testIf h = wThen h
tested testWhile h = wWhile h
tested testSwitch h = wSwitch h

-- one enumerator more, without a value and with one
abbrev pub plain_more : Listing → List ℕ → ℕ → Tall Ens
plain_more l n at = tall (plain_and l.before.value l.comma n at) (max l.before.height 1)

abbrev pub valued_more : Listing → List ℕ → ℕ → ℕ → Part → Tall Ens
valued_more l n at a e = tall (valued_and l.before.value l.comma n at a e.value) (max l.before.height (above e.height))

abbrev pub listing : Around → Spoken → EnumHead → Tall Ens → Option ℕ → Listing
listing w s h es c = record { around = w; spoken = s; head = h; before = es; comma = c }

-- an enumeration, with the comma before its `}`
abbrev pub enumeration : EnumHead → Ens → Option ℕ → ℕ → Word
enumeration (headBare at a) es c b = wEnum at a es c b
enumeration (headTagged at n x a) es c b = wTagEnum at n x a es c b

abbrev pub param_more : Tall Params → Option ℕ → Spoken → Option Name → Tall Params
param_more ps c s n = tall (params_and ps.value c s.words n) (max ps.height (above s.height))

abbrev pub declaring : Place → Spoken → Tall Decs → Declaring
declaring p s ds = record { place = p; spoken = s; before = ds }

abbrev pub declared : Declaring → Option ℕ → List ℕ → ℕ → Tall Form → Ats → Declared
declared d c n at f ats = record { around = d; comma = c; name = n; at = at; form = f; attributes = ats }

-- behind a name
abbrev pub declared_plain : Declaring → Option ℕ → List ℕ → ℕ → Declared
declared_plain d c n at = declared d c n at (tall fPlain 0) no_attributes

abbrev pub with_form : Declared → Tall Form → Declared
with_form d f = declared d.around d.comma d.name d.at f d.attributes

abbrev pub with_attributes : Declared → Ats → Declared
with_attributes d ats = declared d.around d.comma d.name d.at d.form ats

-- the declared names up to this one, with its initial value
abbrev pub with_initial : Declared → Initial → ℕ → Declaring
with_initial d i h =
    declaring d.around.place d.around.spoken (tall (declarators_and d.around.before.value d.comma (named d.name d.at) d.form.value d.attributes i) (max d.around.before.height (above (max (max d.form.height (height_attributes d.attributes)) h))))

abbrev pub no_more : Tall Decs
no_more = tall no_declarators 0

abbrev pub whole_declaration : Declaring → ℕ → Declaration
whole_declaration d b = declares d.spoken.words d.before.value b

abbrev pub declaration_height : Declaring → ℕ
declaration_height d = above (max (above d.spoken.height) d.before.height)
