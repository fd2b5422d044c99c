-- Where the parts of a tree stand whose tokens rise: from one offset on, and before another.
use Rattle.std.proofs.Common.{ℕ, suc, ◌≤◌, List, [], ◌∷◌, Option, None, Some, arith}
use Rattle.c_tree.specs.declared.symbol.AssignOp.TheVariants as to
use Rattle.c_tree.specs.declared.symbol.Bracket.TheVariants as br
use Rattle.c_tree.specs.declared.symbol.Symbol.TheVariants as sy
use Rattle.c_tree.specs.declared.symbol.SymbolAt.{SymbolAt}
use Rattle.c_tree.specs.Symbols.{sign}
use Rattle.c_tree.specs.Tree as t
use Rattle.c_tree.specs.Spelling.{opening, closing, comma, spell_raw, spell_attribute, spell_attributes, spell, spell_parts, spell_words, spell_word, spell_enumerators, spell_option, spell_option_name, spell_params, spell_parameters}

-- ---- Places of parts

abbrev mutual
  pub In : ℕ → t.Ex → ℕ → Type 0
  In lo (t.eName n at) hi = (lo ≤ at) × (suc at ≤ hi)
  In lo (t.eNumber v f at) hi = (lo ≤ at) × (suc at ≤ hi)
  In lo (t.eLetter v at) hi = (lo ≤ at) × (suc at ≤ hi)
  In lo (t.eParen a e b) hi = (lo ≤ a) × In (suc a) e b × (suc b ≤ hi)
  In lo (t.eCall f a es b) hi = In lo f a × InParts (suc a) es b × (suc b ≤ hi)
  In lo (t.eIndex a x i y) hi = In lo a x × In (suc x) i y × (suc y ≤ hi)
  In lo (t.ePostfix e c at) hi = In lo e at × (suc at ≤ hi)
  In lo (t.ePrefix o at e) hi = (lo ≤ at) × In (suc at) e hi
  In lo (t.eSizeof at a ws b) hi = (lo ≤ at) × (suc at ≤ a) × InWords (suc a) ws b × (suc b ≤ hi)
  In lo (t.eCast a ws b e) hi = (lo ≤ a) × InWords (suc a) ws b × In (suc b) e hi
  In lo (t.eBinary a o at b) hi = In lo a at × In (suc at) b hi
  In lo (t.eCond c x a y b) hi = In lo c x × In (suc x) a y × In (suc y) b hi
  In lo (t.eAssign a o at b) hi = In lo a at × In (suc at) b hi
  In lo (t.eComma es) hi = InParts lo es hi

  pub InParts : ℕ → t.Parts → ℕ → Type 0
  InParts lo t.no_parts hi = lo ≤ hi
  InParts lo (t.parts_and es c e) hi = (m : ℕ) × (n : ℕ) × InParts lo es m × (m ≤ n) × In n e hi

  pub InWords : ℕ → t.Words → ℕ → Type 0
  InWords lo t.no_words hi = lo ≤ hi
  InWords lo (t.words_and ws w) hi = (m : ℕ) × InWords lo ws m × InWord m w hi

  pub InWord : ℕ → t.Word → ℕ → Type 0
  InWord lo (t.wType w at) hi = (lo ≤ at) × (suc at ≤ hi)
  InWord lo (t.wStorage w at) hi = (lo ≤ at) × (suc at ≤ hi)
  InWord lo (t.wConst w at) hi = (lo ≤ at) × (suc at ≤ hi)
  InWord lo (t.wExtension at) hi = (lo ≤ at) × (suc at ≤ hi)
  InWord lo (t.wAttribute (t.attribute w at a r b)) hi = (lo ≤ at) × (suc at ≤ hi)
  InWord lo (t.wTypedef n at) hi = (lo ≤ at) × (suc at ≤ hi)
  InWord lo (t.wTag at n b) hi = (lo ≤ at) × (suc at ≤ b) × (suc b ≤ hi)
  InWord lo (t.wEnum at a es c b) hi = (m : ℕ) × (lo ≤ at) × (suc at ≤ a) × InEnumerators (suc a) es m × (m ≤ b) × (suc b ≤ hi)
  InWord lo (t.wTagEnum at n x a es c b) hi = (m : ℕ) × (lo ≤ at) × (suc at ≤ x) × (suc x ≤ a) × InEnumerators (suc a) es m × (m ≤ b) × (suc b ≤ hi)

  pub InEnumerators : ℕ → t.Ens → ℕ → Type 0
  InEnumerators lo t.no_enumerators hi = lo ≤ hi
  InEnumerators lo (t.plain_and es c n at) hi = (m : ℕ) × InEnumerators lo es m × (m ≤ at) × (suc at ≤ hi)
  InEnumerators lo (t.valued_and es c n at a e) hi = (m : ℕ) × InEnumerators lo es m × (m ≤ at) × (suc at ≤ a) × In (suc a) e hi

abbrev pub InOption : ℕ → Option t.Ex → ℕ → Type 0
InOption lo None hi = lo ≤ hi
InOption lo (Some e) hi = In lo e hi

abbrev pub InName : ℕ → t.Name → ℕ → Type 0
InName lo (t.named n at) hi = (lo ≤ at) × (suc at ≤ hi)

abbrev pub InOptionName : ℕ → Option t.Name → ℕ → Type 0
InOptionName lo None hi = lo ≤ hi
InOptionName lo (Some n) hi = InName lo n hi

abbrev pub InParams : ℕ → t.Params → ℕ → Type 0
InParams lo t.no_params hi = lo ≤ hi
InParams lo (t.params_and ps c ws n) hi = (m : ℕ) × (k : ℕ) × (l : ℕ) × InParams lo ps m × (m ≤ k) × InWords k ws l × InOptionName l n hi

abbrev pub InParameters : ℕ → t.Parameters → ℕ → Type 0
InParameters lo (t.pUnknown a b) hi = (lo ≤ a) × (suc a ≤ b) × (suc b ≤ hi)
InParameters lo (t.pVoid a at b) hi = (lo ≤ a) × (suc a ≤ at) × (suc at ≤ b) × (suc b ≤ hi)
InParameters lo (t.pSome a ps b) hi = (lo ≤ a) × InParams (suc a) ps b × (suc b ≤ hi)

-- ---- Rising tokens, before an offset at their end

abbrev pub RisesTo : ℕ → ℕ → List SymbolAt → Type 0
RisesTo top lo [] = lo ≤ top
RisesTo top lo (s ∷ rest) = (lo ≤ s.at) × RisesTo top (suc s.at) rest

-- the offset of the first token
abbrev pub first : ℕ → List SymbolAt → ℕ
first top [] = top
first top (s ∷ rest) = s.at

pub itself : (n : ℕ) → n ≤ n
itself n = omega arith

pub between : (a b c : ℕ) → a ≤ b → b ≤ c → a ≤ c
between a b c h k = omega (arith, h, k)

module _ (top : ℕ) where
  pub starts : (rest : List SymbolAt) (lo : ℕ) → RisesTo top lo rest → lo ≤ first top rest
  starts [] lo h = h
  starts (s ∷ rest) lo h = h.0

  pub again : (rest : List SymbolAt) (lo : ℕ) → RisesTo top lo rest → RisesTo top (first top rest) rest
  again [] lo h = itself top
  again (s ∷ rest) lo h = (itself s.at, h.1)

  pub past : (c : Option ℕ) (rest : List SymbolAt) (lo : ℕ) → RisesTo top lo (comma c rest) → (n : ℕ) × (lo ≤ n) × RisesTo top n rest
  past None rest lo h = (lo, itself lo, h)
  past (Some at) rest lo h = (suc at, (let e : lo ≤ at = h.0 in omega (arith, e)), h.1)

  -- what lies between is no matter
  pub weaker : (rest : List SymbolAt) (lo low : ℕ) → low ≤ lo → RisesTo top lo rest → RisesTo top low rest
  weaker [] lo low l h = omega (arith, l, h)
  weaker (s ∷ rest) lo low l h = ((let e : lo ≤ s.at = h.0 in omega (arith, l, e)), h.1)

  pub raw_past : (r : t.Raw) (rest : List SymbolAt) (lo : ℕ) → RisesTo top lo (spell_raw r rest) → RisesTo top lo rest
  raw_past t.no_raw rest lo h = h
  raw_past (t.raw_and r s) rest lo h =
      let q = raw_past r (s ∷ rest) lo h in
      weaker rest (suc s.at) lo (let e : lo ≤ s.at = q.0 in omega (arith, e)) q.1

  pub attribute_past : (a : t.At) (rest : List SymbolAt) (lo : ℕ) → RisesTo top lo (spell_attribute a rest) → RisesTo top lo rest
  attribute_past (t.attribute w at a r b) rest lo h =
      let q = raw_past r (closing br.Round b ∷ rest) (suc a) h.1.1 in
      weaker rest (suc b) lo (let x : lo ≤ at = h.0 in let y : suc at ≤ a = h.1.0 in let z : suc a ≤ b = q.0 in omega (arith, x, y, z)) q.1

  pub attributes_past : (ats : t.Ats) (rest : List SymbolAt) (lo : ℕ) → RisesTo top lo (spell_attributes ats rest) → RisesTo top lo rest
  attributes_past t.no_attributes rest lo h = h
  attributes_past (t.attributes_and ats a) rest lo h = attribute_past a rest lo (attributes_past ats (spell_attribute a rest) lo h)

  -- what stands there, and the tokens behind it
  mutual
    pub read : (e : t.Ex) (rest : List SymbolAt) (lo : ℕ) → RisesTo top lo (spell e rest) → In lo e (first top rest) × RisesTo top (first top rest) rest
    read (t.eName n at) rest lo h = ((h.0, starts rest _ h.1), again rest _ h.1)
    read (t.eNumber v f at) rest lo h = ((h.0, starts rest _ h.1), again rest _ h.1)
    read (t.eLetter v at) rest lo h = ((h.0, starts rest _ h.1), again rest _ h.1)
    read (t.eParen a e b) rest lo h =
        let r = read e (closing br.Round b ∷ rest) (suc a) h.1 in
        ((h.0, r.0, starts rest _ r.1.1), again rest _ r.1.1)
    read (t.eCall f a es b) rest lo h =
        let r = read f (opening br.Round a ∷ spell_parts es (closing br.Round b ∷ rest)) lo h in
        let q = read_parts es (closing br.Round b ∷ rest) (suc a) r.1.1 in
        ((r.0, q.0, starts rest _ q.1.1), again rest _ q.1.1)
    read (t.eIndex a x i y) rest lo h =
        let r = read a (opening br.Square x ∷ spell i (closing br.Square y ∷ rest)) lo h in
        let q = read i (closing br.Square y ∷ rest) (suc x) r.1.1 in
        ((r.0, q.0, starts rest _ q.1.1), again rest _ q.1.1)
    read (t.ePostfix e c at) rest lo h =
        let r = read e (sign (sy.Crement c) at ∷ rest) lo h in
        ((r.0, starts rest _ r.1.1), again rest _ r.1.1)
    read (t.ePrefix o at e) rest lo h =
        let r = read e rest (suc at) h.1 in
        ((h.0, r.0), r.1)
    read (t.eSizeof at a ws b) rest lo h =
        let q = read_words ws (closing br.Round b ∷ rest) (suc a) h.1.1 in
        ((h.0, h.1.0, q.0, starts rest _ q.1.1), again rest _ q.1.1)
    read (t.eCast a ws b e) rest lo h =
        let q = read_words ws (closing br.Round b ∷ spell e rest) (suc a) h.1 in
        let r = read e rest (suc b) q.1.1 in
        ((h.0, q.0, r.0), r.1)
    read (t.eBinary a o at b) rest lo h =
        let r = read a (sign (sy.Binary o) at ∷ spell b rest) lo h in
        let q = read b rest (suc at) r.1.1 in
        ((r.0, q.0), q.1)
    read (t.eCond c x a y b) rest lo h =
        let r = read c (sign sy.Question x ∷ spell a (sign sy.Colon y ∷ spell b rest)) lo h in
        let q = read a (sign sy.Colon y ∷ spell b rest) (suc x) r.1.1 in
        let p = read b rest (suc y) q.1.1 in
        ((r.0, q.0, p.0), p.1)
    read (t.eAssign a o at b) rest lo h =
        let r = read a (sign (sy.Assign o) at ∷ spell b rest) lo h in
        let q = read b rest (suc at) r.1.1 in
        ((r.0, q.0), q.1)
    read (t.eComma es) rest lo h = read_parts es rest lo h

    pub read_parts : (es : t.Parts) (rest : List SymbolAt) (lo : ℕ) → RisesTo top lo (spell_parts es rest) → InParts lo es (first top rest) × RisesTo top (first top rest) rest
    read_parts t.no_parts rest lo h = (starts rest lo h, again rest lo h)
    read_parts (t.parts_and es c e) rest lo h =
        let r = read_parts es (comma c (spell e rest)) lo h in
        let p = past c (spell e rest) (first top (comma c (spell e rest))) r.1 in
        let q = read e rest p.0 p.2 in
        ((first top (comma c (spell e rest)), p.0, r.0, p.1, q.0), q.1)

    pub read_words : (ws : t.Words) (rest : List SymbolAt) (lo : ℕ) → RisesTo top lo (spell_words ws rest) → InWords lo ws (first top rest) × RisesTo top (first top rest) rest
    read_words t.no_words rest lo h = (starts rest lo h, again rest lo h)
    read_words (t.words_and ws w) rest lo h =
        let r = read_words ws (spell_word w rest) lo h in
        let q = read_word w rest (first top (spell_word w rest)) r.1 in
        ((first top (spell_word w rest), r.0, q.0), q.1)

    pub read_word : (w : t.Word) (rest : List SymbolAt) (lo : ℕ) → RisesTo top lo (spell_word w rest) → InWord lo w (first top rest) × RisesTo top (first top rest) rest
    read_word (t.wType w at) rest lo h = ((h.0, starts rest _ h.1), again rest _ h.1)
    read_word (t.wStorage w at) rest lo h = ((h.0, starts rest _ h.1), again rest _ h.1)
    read_word (t.wConst w at) rest lo h = ((h.0, starts rest _ h.1), again rest _ h.1)
    read_word (t.wExtension at) rest lo h = ((h.0, starts rest _ h.1), again rest _ h.1)
    read_word (t.wAttribute (t.attribute w at a r b)) rest lo h =
        let q = raw_past r (closing br.Round b ∷ rest) (suc a) h.1.1 in
        let p = weaker rest (suc b) (suc at) (let y : suc at ≤ a = h.1.0 in let z : suc a ≤ b = q.0 in omega (arith, y, z)) q.1 in
        ((h.0, starts rest _ p), again rest _ p)
    read_word (t.wTypedef n at) rest lo h = ((h.0, starts rest _ h.1), again rest _ h.1)
    read_word (t.wTag at n b) rest lo h = ((h.0, h.1.0, starts rest _ h.1.1), again rest _ h.1.1)
    read_word (t.wEnum at a es c b) rest lo h =
        let r = read_enumerators es (comma c (closing br.Curly b ∷ rest)) (suc a) h.1.1 in
        let p = past c (closing br.Curly b ∷ rest) (first top (comma c (closing br.Curly b ∷ rest))) r.1 in
        ((first top (comma c (closing br.Curly b ∷ rest)), h.0, h.1.0, r.0, between _ _ _ p.1 p.2.0, starts rest _ p.2.1), again rest _ p.2.1)
    read_word (t.wTagEnum at n x a es c b) rest lo h =
        let r = read_enumerators es (comma c (closing br.Curly b ∷ rest)) (suc a) h.1.1.1 in
        let p = past c (closing br.Curly b ∷ rest) (first top (comma c (closing br.Curly b ∷ rest))) r.1 in
        ((first top (comma c (closing br.Curly b ∷ rest)), h.0, h.1.0, h.1.1.0, r.0, between _ _ _ p.1 p.2.0, starts rest _ p.2.1), again rest _ p.2.1)

    pub read_enumerators : (es : t.Ens) (rest : List SymbolAt) (lo : ℕ) → RisesTo top lo (spell_enumerators es rest) → InEnumerators lo es (first top rest) × RisesTo top (first top rest) rest
    read_enumerators t.no_enumerators rest lo h = (starts rest lo h, again rest lo h)
    read_enumerators (t.plain_and es c n at) rest lo h =
        let r = read_enumerators es (comma c (sign (sy.Name n) at ∷ rest)) lo h in
        let p = past c (sign (sy.Name n) at ∷ rest) (first top (comma c (sign (sy.Name n) at ∷ rest))) r.1 in
        ((first top (comma c (sign (sy.Name n) at ∷ rest)), r.0, between _ _ _ p.1 p.2.0, starts rest _ p.2.1), again rest _ p.2.1)
    read_enumerators (t.valued_and es c n at a e) rest lo h =
        let tail = sign (sy.Name n) at ∷ sign (sy.Assign to.Plain) a ∷ spell e rest in
        let r = read_enumerators es (comma c tail) lo h in
        let p = past c tail (first top (comma c tail)) r.1 in
        let q = read e rest (suc a) p.2.1.1 in
        ((first top (comma c tail), r.0, between _ _ _ p.1 p.2.0, p.2.1.0, q.0), q.1)

  pub read_option : (e : Option t.Ex) (rest : List SymbolAt) (lo : ℕ) → RisesTo top lo (spell_option e rest) → InOption lo e (first top rest) × RisesTo top (first top rest) rest
  read_option None rest lo h = (starts rest lo h, again rest lo h)
  read_option (Some e) rest lo h = read e rest lo h

  pub read_option_name : (n : Option t.Name) (rest : List SymbolAt) (lo : ℕ) → RisesTo top lo (spell_option_name n rest) → InOptionName lo n (first top rest) × RisesTo top (first top rest) rest
  read_option_name None rest lo h = (starts rest lo h, again rest lo h)
  read_option_name (Some (t.named n at)) rest lo h = ((h.0, starts rest _ h.1), again rest _ h.1)

  pub read_params : (ps : t.Params) (rest : List SymbolAt) (lo : ℕ) → RisesTo top lo (spell_params ps rest) → InParams lo ps (first top rest) × RisesTo top (first top rest) rest
  read_params t.no_params rest lo h = (starts rest lo h, again rest lo h)
  read_params (t.params_and ps c ws n) rest lo h =
      let tail = spell_words ws (spell_option_name n rest) in
      let r = read_params ps (comma c tail) lo h in
      let p = past c tail (first top (comma c tail)) r.1 in
      let q = read_words ws (spell_option_name n rest) p.0 p.2 in
      let o = read_option_name n rest (first top (spell_option_name n rest)) q.1 in
      ((first top (comma c tail), p.0, first top (spell_option_name n rest), r.0, p.1, q.0, o.0), o.1)

  pub read_parameters : (ps : t.Parameters) (rest : List SymbolAt) (lo : ℕ) → RisesTo top lo (spell_parameters ps rest) → InParameters lo ps (first top rest) × RisesTo top (first top rest) rest
  read_parameters (t.pUnknown a b) rest lo h = ((h.0, h.1.0, starts rest _ h.1.1), again rest _ h.1.1)
  read_parameters (t.pVoid a at b) rest lo h = ((h.0, h.1.0, h.1.1.0, starts rest _ h.1.1.1), again rest _ h.1.1.1)
  read_parameters (t.pSome a ps b) rest lo h =
      let r = read_params ps (closing br.Round b ∷ rest) (suc a) h.1 in
      ((h.0, r.0, starts rest _ r.1.1), again rest _ r.1.1)

-- ---- A part ends no earlier than it begins

mutual
  pub ordered : (e : t.Ex) (lo hi : ℕ) → In lo e hi → lo ≤ hi
  ordered (t.eName n at) lo hi h = omega (arith, h.0, h.1)
  ordered (t.eNumber v f at) lo hi h = omega (arith, h.0, h.1)
  ordered (t.eLetter v at) lo hi h = omega (arith, h.0, h.1)
  ordered (t.eParen a e b) lo hi h = let r = ordered e (suc a) b h.1 in omega (arith, h.0, h.2, r)
  ordered (t.eCall f a es b) lo hi h = let r = ordered f lo a h.0 in let q = ordered_parts es (suc a) b h.1 in omega (arith, h.2, r, q)
  ordered (t.eIndex a x i y) lo hi h = let r = ordered a lo x h.0 in let q = ordered i (suc x) y h.1 in omega (arith, h.2, r, q)
  ordered (t.ePostfix e c at) lo hi h = let r = ordered e lo at h.0 in omega (arith, h.1, r)
  ordered (t.ePrefix o at e) lo hi h = let r = ordered e (suc at) hi h.1 in omega (arith, h.0, r)
  ordered (t.eSizeof at a ws b) lo hi h = let r = ordered_words ws (suc a) b h.2 in omega (arith, h.0, h.1, h.3, r)
  ordered (t.eCast a ws b e) lo hi h = let r = ordered_words ws (suc a) b h.1 in let q = ordered e (suc b) hi h.2 in omega (arith, h.0, r, q)
  ordered (t.eBinary a o at b) lo hi h = let r = ordered a lo at h.0 in let q = ordered b (suc at) hi h.1 in omega (arith, r, q)
  ordered (t.eCond c x a y b) lo hi h = let r = ordered c lo x h.0 in let q = ordered a (suc x) y h.1 in let p = ordered b (suc y) hi h.2 in omega (arith, r, q, p)
  ordered (t.eAssign a o at b) lo hi h = let r = ordered a lo at h.0 in let q = ordered b (suc at) hi h.1 in omega (arith, r, q)
  ordered (t.eComma es) lo hi h = ordered_parts es lo hi h

  pub ordered_parts : (es : t.Parts) (lo hi : ℕ) → InParts lo es hi → lo ≤ hi
  ordered_parts t.no_parts lo hi h = h
  ordered_parts (t.parts_and es c e) lo hi h = let r = ordered_parts es lo h.0 h.2 in let q = ordered e h.1 hi h.4 in omega (arith, r, h.3, q)

  pub ordered_words : (ws : t.Words) (lo hi : ℕ) → InWords lo ws hi → lo ≤ hi
  ordered_words t.no_words lo hi h = h
  ordered_words (t.words_and ws w) lo hi h = let r = ordered_words ws lo h.0 h.1 in let q = ordered_word w h.0 hi h.2 in omega (arith, r, q)

  pub ordered_word : (w : t.Word) (lo hi : ℕ) → InWord lo w hi → lo ≤ hi
  ordered_word (t.wType w at) lo hi h = omega (arith, h.0, h.1)
  ordered_word (t.wStorage w at) lo hi h = omega (arith, h.0, h.1)
  ordered_word (t.wConst w at) lo hi h = omega (arith, h.0, h.1)
  ordered_word (t.wExtension at) lo hi h = omega (arith, h.0, h.1)
  ordered_word (t.wAttribute (t.attribute w at a r b)) lo hi h = omega (arith, h.0, h.1)
  ordered_word (t.wTypedef n at) lo hi h = omega (arith, h.0, h.1)
  ordered_word (t.wTag at n b) lo hi h = omega (arith, h.0, h.1, h.2)
  ordered_word (t.wEnum at a es c b) lo hi h = let r = ordered_enumerators es (suc a) h.0 h.3 in omega (arith, h.1, h.2, h.4, h.5, r)
  ordered_word (t.wTagEnum at n x a es c b) lo hi h = let r = ordered_enumerators es (suc a) h.0 h.4 in omega (arith, h.1, h.2, h.3, h.5, h.6, r)

  pub ordered_enumerators : (es : t.Ens) (lo hi : ℕ) → InEnumerators lo es hi → lo ≤ hi
  ordered_enumerators t.no_enumerators lo hi h = h
  ordered_enumerators (t.plain_and es c n at) lo hi h = let r = ordered_enumerators es lo h.0 h.1 in omega (arith, h.2, h.3, r)
  ordered_enumerators (t.valued_and es c n at a e) lo hi h = let r = ordered_enumerators es lo h.0 h.1 in let q = ordered e (suc a) hi h.4 in omega (arith, h.2, h.3, r, q)

pub ordered_option : (e : Option t.Ex) (lo hi : ℕ) → InOption lo e hi → lo ≤ hi
ordered_option None lo hi h = h
ordered_option (Some e) lo hi h = ordered e lo hi h

pub ordered_params : (ps : t.Params) (lo hi : ℕ) → InParams lo ps hi → lo ≤ hi
ordered_params t.no_params lo hi h = h
ordered_params (t.params_and ps x ws None) lo hi h = let r = ordered_params ps lo h.0 h.3 in let q = ordered_words ws h.1 h.2 h.5 in omega (arith, r, h.4, q, h.6)
ordered_params (t.params_and ps x ws (Some (t.named n at))) lo hi h = let r = ordered_params ps lo h.0 h.3 in let q = ordered_words ws h.1 h.2 h.5 in omega (arith, r, h.4, q, h.6.0, h.6.1)

pub ordered_parameters : (ps : t.Parameters) (lo hi : ℕ) → InParameters lo ps hi → lo ≤ hi
ordered_parameters (t.pUnknown a b) lo hi h = omega (arith, h.0, h.1, h.2)
ordered_parameters (t.pVoid a at b) lo hi h = omega (arith, h.0, h.1, h.2, h.3)
ordered_parameters (t.pSome a ps b) lo hi h = let r = ordered_params ps (suc a) b h.1 in omega (arith, h.0, r, h.2)
