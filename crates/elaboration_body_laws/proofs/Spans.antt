-- Where the words of functions' and parameters' types stand, and that no later declaration stands among them.
use Rattle.std.proofs.Common.{◌≡◌, ◌⊎◌, inl, inr, ℕ, suc, ◌≤◌, Bool, true, false, List, [], ◌∷◌, ◌++◌, append_assoc, Option, None, Some, refl, sym, subst, arith}
use Rattle.lv_base.specs.declared.kind.Kind.TheVariants as kind
use Rattle.lv_base.specs.Integers.{InRange}
use Rattle.c_tree.specs.Tree as t
use Rattle.c_tree.specs.declared.known.Site.TheVariants as site
use Rattle.c_tree.specs.declared.known.Known.{Known as Told}
use Rattle.c_tree.specs.Shape as sh
use Rattle.c_tree.specs.Shape.{ShapedParams, ShapedParameters, ShapedDeclarators, ShapedDeclaration, ShapedFunction, ShapedItems}
use Rattle.c_meaning.specs.Tokens.{first_of_words, open_of, close_of}
use Rattle.c_meaning.specs.Scope as s
use Rattle.c_meaning.specs.Bindings.{declared_at, constant_value, kind_in, words_type}
use Rattle.c_meaning.specs.Rules as rules
use Rattle.elaboration_offset_laws.proofs.Logic.{nil_left, nil_right}
use Rattle.elaboration_offset_laws.proofs.Standing.{InWords, InParams, InParameters, itself, ordered_words, ordered_params}
use Rattle.elaboration_offset_laws.proofs.Statements.{InForm, InBody, InDeclarators, InDeclaration, InItems, ordered_form, ordered_declarators}
use Rattle.elaboration_offset_laws.proofs.Lying.{Known, Room, within, AllLie, same_room}
use Rattle.elaboration_offset_laws.proofs.Placing.{placed_words, words_from, not_empty, close_in}
use Rattle.elaboration_offset_laws.proofs.Declaring.{placed_declarator, placed_initial, placed_declaration, placed_statements}
use Rattle.elaboration_offset_laws.proofs.Files.{body_shaped, placed_function, placed_skipped}
use Rattle.elaboration_offset_laws.proofs.Lengths.{AllBeyond}
use Rattle.elaboration_body_laws.proofs.Numbers.{Lettered, LetteredParams, LetteredParameters, ItemsLettered}
use Rattle.elaboration_body_laws.proofs.Plain.{IsPlain, AllPlain, plain_words, plain_prototype, plain_initial, plain_length, plain_statements}
use Rattle.elaboration_body_laws.proofs.Words.{tight_words, AllAside}

-- ---- Declarations behind an offset, or around a span

pub record From (n : ℕ) (d : s.Declared) : Type 0 where
  pub at : n ≤ d.at
  pub from : n ≤ d.from

abbrev pub AllFrom : ℕ → List s.Declared → Type 0
AllFrom n [] = Unit {0}
AllFrom n (d ∷ ds) = From n d × AllFrom n ds

from_both : (n : ℕ) (xs ys : List s.Declared) → AllFrom n xs → AllFrom n ys → AllFrom n (xs ++ ys)
from_both n [] ys h k = k
from_both n (x ∷ xs) ys h k = (h.0, from_both n xs ys h.1 k)

from_lower : (n m : ℕ) (ds : List s.Declared) → m ≤ n → AllFrom n ds → AllFrom m ds
from_lower n m [] l h = tt
from_lower n m (d ∷ ds) l h = (let a = h.0.at in let b = h.0.from in record { at = omega (arith, l, a); from = omega (arith, l, b) }, from_lower n m ds l h.1)

from_lies : (c : Known) (p : Room) (q : Bool) (lo hi n : ℕ) (ds : List s.Declared) → n ≤ lo → AllLie c p q lo hi ds → AllFrom n ds
from_lies c p q lo hi n [] l h = tt
from_lies c p q lo hi n (d ∷ ds) l h = (let a = h.0.low in let b = h.0.own in record { at = omega (arith, l, a); from = omega (arith, l, a, b) }, from_lies c p q lo hi n ds l h.1)

from_beyond : (low high n : ℕ) (ds : List s.Declared) → high ≤ n → AllFrom n ds → AllBeyond low high ds
from_beyond low high n [] l h = tt
from_beyond low high n (d ∷ ds) l h = (let a = h.0.at in let b = h.0.from in record { from = omega (arith, l, b); away = (λ at x y e. omega (arith, l, a, y, e)) }, from_beyond low high n ds l h.1)

record Around (lo hi : ℕ) (d : s.Declared) : Type 0 where
  behind : hi ≤ d.from
  outside : (d.at ≤ lo) ⊎ (hi ≤ d.at)

abbrev AllAround : ℕ → ℕ → List s.Declared → Type 0
AllAround lo hi [] = Unit {0}
AllAround lo hi (d ∷ ds) = Around lo hi d × AllAround lo hi ds

around_both : (lo hi : ℕ) (xs ys : List s.Declared) → AllAround lo hi xs → AllAround lo hi ys → AllAround lo hi (xs ++ ys)
around_both lo hi [] ys h k = k
around_both lo hi (x ∷ xs) ys h k = (h.0, around_both lo hi xs ys h.1 k)

from_around : (lo hi n : ℕ) (ds : List s.Declared) → hi ≤ n → AllFrom n ds → AllAround lo hi ds
from_around lo hi n [] l h = tt
from_around lo hi n (d ∷ ds) l h = (let a = h.0.at in let b = h.0.from in record { behind = omega (arith, l, b); outside = inr (omega (arith, l, a)) }, from_around lo hi n ds l h.1)

inner_side : (lo hi low high at : ℕ) → lo ≤ low → high ≤ hi → (at ≤ lo) ⊎ (hi ≤ at) → (at ≤ low) ⊎ (high ≤ at)
inner_side lo hi low high at x y (inl h) = inl (omega (arith, x, h))
inner_side lo hi low high at x y (inr h) = inr (omega (arith, y, h))

around_inner : (lo hi low high : ℕ) (ds : List s.Declared) → lo ≤ low → high ≤ hi → AllAround lo hi ds → AllAround low high ds
around_inner lo hi low high [] x y h = tt
around_inner lo hi low high (d ∷ ds) x y h = (let b = h.0.behind in record { behind = omega (arith, y, b); outside = inner_side lo hi low high d.at x y h.0.outside }, around_inner lo hi low high ds x y h.1)

not_inside : (lo hi at : ℕ) → (at ≤ lo) ⊎ (hi ≤ at) → (x : ℕ) → suc lo ≤ x → suc x ≤ hi → at ≡ x → ⊥
not_inside lo hi at (inl h) x p q e = omega (arith, h, p, e)
not_inside lo hi at (inr h) x p q e = omega (arith, h, q, e)

around_aside : (lo hi : ℕ) (ds : List s.Declared) → AllAround lo hi ds → AllAside lo hi ds
around_aside lo hi [] h = tt
around_aside lo hi (d ∷ ds) h = (record { from = inl h.0.behind; away = not_inside lo hi d.at h.0.outside }, around_aside lo hi ds h.1)

-- ---- Spans

abbrev pub ParametersSpan : t.Parameters → List s.Declared → Type 0
ParametersSpan (t.pSome a ps b) ds = InParams (suc a) ps b × AllBeyond (suc a) b ds
ParametersSpan ps ds = Unit {0}

-- the words of a function's result, and its parameters
pub record FunctionSpan (d : s.Declared) (ws : t.Words) (ps : t.Parameters) (rest : List s.Declared) : Type 0 where
  pub file : s.is_file d.scope ≡ true
  pub first : ℕ
  pub last : ℕ
  pub words : InWords first ws last
  pub behind : AllBeyond first last (d ∷ rest)
  pub parameters : ParametersSpan ps (d ∷ rest)

-- the words of a parameter, which declare nothing that a name with a letter finds
pub record ParameterSpan (d : s.Declared) (ws : t.Words) (rest : List s.Declared) : Type 0 where
  pub last : ℕ
  pub words : InWords (first_of_words ws) ws last
  pub lettered : Lettered ws
  pub aside : AllAside (first_of_words ws) last (d ∷ rest)

module _ (f : Known) where
  abbrev pub SpanOf : s.Declared → s.What → List s.Declared → Type 0
  SpanOf d (s.aFunction ws ps b) rest = FunctionSpan d ws ps rest
  SpanOf d (s.aParameter ws) rest = ParameterSpan d ws rest
  SpanOf d (s.anEnumerator es) rest = InRange kind.Int f.model (constant_value (declared_at f.env d.at))
  SpanOf d w rest = Unit {0}

  abbrev pub AllSpan : List s.Declared → List s.Declared → Type 0
  AllSpan [] after = Unit {0}
  AllSpan (d ∷ ds) after = SpanOf d d.what (ds ++ after) × AllSpan ds after

  spread_both : (xs ys after : List s.Declared) → AllSpan xs (ys ++ after) → AllSpan ys after → AllSpan (xs ++ ys) after
  spread_both [] ys after h k = k
  spread_both (x ∷ xs) ys after h k = (subst (SpanOf x x.what) (sym (append_assoc xs ys after)) h.0, spread_both xs ys after h.1 k)

  plain_span : (d : s.Declared) (w : s.What) (rest : List s.Declared) → IsPlain f d w → SpanOf d w rest
  plain_span d (s.aFunction ws ps b) rest h = absurd h
  plain_span d (s.aParameter ws) rest h = absurd h
  plain_span d (s.anEnumerator es) rest h = h
  plain_span d (s.anObject ws g i) rest h = tt
  plain_span d (s.aTypedef ws) rest h = tt
  plain_span d (s.aTag es) rest h = tt
  plain_span d (s.aName ws) rest h = tt

  plain_spread : (ds after : List s.Declared) → AllPlain f ds → AllSpan ds after
  plain_spread [] after h = tt
  plain_spread (d ∷ ds) after h = (plain_span d d.what (ds ++ after) h.0, plain_spread ds after h.1)

  -- ---- Parameters

  module _ (scope : s.Scope) (owner : Option ℕ) (names : List (List ℕ)) where
    spread_params : (ps : t.Params) (lo hi : ℕ) (after : List s.Declared) → ShapedParams names ps → InParams lo ps hi → LetteredParams ps → rules.faults_of_params f.env f.model f.bodies ps ≡ [] → AllAround lo hi after →
        AllSpan (s.in_params scope owner ps) after
    spread_params t.no_params lo hi after w h l z r = tt
    spread_params (t.params_and ps x ws None) lo hi after w h l z r =
        let first = first_of_words ws in
        let d = s.declared scope owner [] first first (s.aParameter ws) in
        let some = (words_from f scope owner names ws h.1 h.2 (not_empty f scope owner names ws w.1) w.2 h.5).0 in
        let before = ordered_params ps lo h.0 h.3 in
        let own = ordered_words ws h.1 h.2 h.5 in
        let words = placed_words f scope owner names ws h.1 h.2 w.2 h.5 in
        spread_both (s.in_params scope owner ps ++ s.in_words scope owner ws) (d ∷ []) after
        (spread_both (s.in_params scope owner ps) (s.in_words scope owner ws) (d ∷ after)
        (spread_params ps lo h.0 (s.in_words scope owner ws ++ d ∷ after) w.4 h.3 l.0 (nil_left _ _ z)
        (around_both lo h.0 (s.in_words scope owner ws) (d ∷ after) (from_around lo h.0 h.1 _ h.4 (from_lies f _ _ h.1 h.2 h.1 _ (itself h.1) words.lie))
        (record { behind = omega (arith, h.4, some); outside = inr (omega (arith, h.4, some)) }, around_inner lo hi lo h.0 after (itself lo) (omega (arith, h.4, own, h.6)) r)))
        (plain_spread (s.in_words scope owner ws) (d ∷ after) (plain_words f scope owner ws (nil_right (rules.faults_of_params f.env f.model f.bodies ps) _ z)))) (
          record {
            last = h.2;
            words = tight_words ws h.1 h.2 h.5;
            lettered = l.1;
            aside = (record { from = inr refl; away = (λ at p q e. omega (arith, p, e)) }, around_aside first h.2 after (around_inner lo hi first h.2 after (omega (arith, before, h.4, some)) h.6 r));
          },
          tt,
        )
    spread_params (t.params_and ps x ws (Some (t.named n at))) lo hi after w h l z r =
        let first = first_of_words ws in
        let d = s.declared scope owner n at at (s.aParameter ws) in
        let some = (words_from f scope owner names ws h.1 h.2 (not_empty f scope owner names ws w.1) w.2 h.5).0 in
        let before = ordered_params ps lo h.0 h.3 in
        let own = ordered_words ws h.1 h.2 h.5 in
        let words = placed_words f scope owner names ws h.1 h.2 w.2 h.5 in
        spread_both (s.in_params scope owner ps ++ s.in_words scope owner ws) (d ∷ []) after
        (spread_both (s.in_params scope owner ps) (s.in_words scope owner ws) (d ∷ after)
        (spread_params ps lo h.0 (s.in_words scope owner ws ++ d ∷ after) w.4 h.3 l.0 (nil_left _ _ z)
        (around_both lo h.0 (s.in_words scope owner ws) (d ∷ after) (from_around lo h.0 h.1 _ h.4 (from_lies f _ _ h.1 h.2 h.1 _ (itself h.1) words.lie))
        (record { behind = omega (arith, h.4, own, h.6.0); outside = inr (omega (arith, h.4, own, h.6.0)) }, around_inner lo hi lo h.0 after (itself lo) (omega (arith, h.4, own, h.6.0, h.6.1)) r)))
        (plain_spread (s.in_words scope owner ws) (d ∷ after) (plain_words f scope owner ws (nil_right (rules.faults_of_params f.env f.model f.bodies ps) _ z)))) (
          record {
            last = h.2;
            words = tight_words ws h.1 h.2 h.5;
            lettered = l.1;
            aside = (record { from = inl (omega (arith, h.6.0)); away = (λ x p q e. omega (arith, q, e, h.6.0)) }, around_aside first h.2 after (around_inner lo hi first h.2 after (omega (arith, before, h.4, some)) (omega (arith, h.6.0, h.6.1)) r));
          },
          tt,
        )

    -- behind a function's name, which stands before its parameters
    spread_parameters : (ps : t.Parameters) (at k : ℕ) (d : s.Declared) (rest : List s.Declared) → d.at ≡ at → d.from ≡ suc (close_of ps) → ShapedParameters names ps → InParameters (suc at) ps k → LetteredParameters ps →
        rules.faults_of_parameters f.env f.model f.bodies ps ≡ [] → AllFrom k rest → AllSpan (s.in_parameters scope owner ps) (d ∷ rest)
    spread_parameters (t.pUnknown a b) at k d rest e g w h l z r = tt
    spread_parameters (t.pVoid a x b) at k d rest e g w h l z r = tt
    spread_parameters (t.pSome a ps b) at k d rest e g w h l z r =
        spread_params ps (suc a) b (d ∷ rest) w.1 h.1 l z (record { behind = omega (arith, g); outside = inl (omega (arith, e, h.0)) }, from_around (suc a) b k rest (omega (arith, h.2)) r)

  -- ---- Functions

  parameters_span : (ps : t.Parameters) (at k : ℕ) (d : s.Declared) (rest : List s.Declared) → d.at ≡ at → d.from ≡ suc (close_of ps) → InParameters (suc at) ps k → AllFrom k rest → ParametersSpan ps (d ∷ rest)
  parameters_span (t.pUnknown a b) at k d rest e g h r = tt
  parameters_span (t.pVoid a x b) at k d rest e g h r = tt
  parameters_span (t.pSome a ps b) at k d rest e g h r =
      (h.1, (record { from = omega (arith, g); away = (λ x p q y. omega (arith, e, h.0, p, y)) }, from_beyond (suc a) b k rest (omega (arith, h.2)) r))

  function_span : (n : List ℕ) (at : ℕ) (ws : t.Words) (ps : t.Parameters) (b : Bool) (lo m k : ℕ) (rest : List s.Declared) → InWords lo ws m → m ≤ at → InParameters (suc at) ps k → AllFrom k rest →
      FunctionSpan (s.declared s.file None n at (close_of ps) (s.aFunction ws ps b)) ws ps rest
  function_span n at ws ps b lo m k rest h x p r =
      let q = close_in ps (suc at) k p in
      record {
        file = refl;
        first = lo;
        last = m;
        words = h;
        behind = (record { from = omega (arith, x, q.0); away = (λ y u v e. omega (arith, x, v, e)) }, from_beyond lo m k rest (omega (arith, x, q.0, q.1)) r);
        parameters = parameters_span ps at k (s.declared s.file None n at (close_of ps) (s.aFunction ws ps b)) rest refl refl p r;
      }

  spread_function : (names : List (List ℕ)) (number : ℕ) (ws : t.Words) (n : List ℕ) (at : ℕ) (ps : t.Parameters) (ats : t.Ats) (a z : ℕ) (ss : t.Sts) (m k l lo hi : ℕ) (after : List s.Declared) →
      ShapedFunction names ws (t.named n at) ps ats (t.bBlock a ss z) → InWords lo ws m → m ≤ at → InParameters (suc at) ps k → k ≤ l → InBody l (t.bBlock a ss z) hi → LetteredParameters ps →
      rules.faults_of_item f.env f.model f.bodies (t.tFunction ws (t.named n at) ps ats (t.bBlock a ss z)) ≡ [] → AllFrom hi after → AllSpan (s.in_function number ws n at ps (t.bBlock a ss z)) after
  spread_function names number ws n at ps ats a z ss m k l lo hi after w h x p y b e g r =
      let scope = s.block (open_of ps) z in
      let owner = Some number in
      let result = kind_in (words_type f.env ws) in
      let front = nil_left (rules.faults_of_words f.env f.model f.bodies ws ++ rules.faults_of_parameters f.env f.model f.bodies ps) _ g in
      let lines = nil_right (rules.faults_of_words f.env f.model f.bodies ws ++ rules.faults_of_parameters f.env f.model f.bodies ps) _ g in
      let shaped = body_shaped _ names a z ss w.body in
      let d = s.declared s.file None n at (close_of ps) (s.aFunction ws ps true) in
      let words = s.in_words s.file None ws in
      let own = s.in_parameters scope owner ps in
      let body = s.in_statements owner scope ss in
      let placed = placed_statements f owner result scope ss names (suc a) z shaped b.1 lines in
      let inner = placed.ordered in
      let rest = from_both k body after (from_lies f _ _ (suc a) z k body (omega (arith, y, b.0)) placed.lie) (from_lower hi k after (omega (arith, y, b.0, b.2, inner)) r) in
      spread_both (words ++ own ++ d ∷ []) body after
      (spread_both (words ++ own) (d ∷ []) (body ++ after)
      (spread_both words own (d ∷ (body ++ after)) (plain_spread words (own ++ (d ∷ (body ++ after))) (plain_words f s.file None ws (nil_left _ _ front)))
      (spread_parameters scope owner names ps at k d (body ++ after) refl refl w.parameters p e (nil_right (rules.faults_of_words f.env f.model f.bodies ws) _ front) rest))
      (function_span n at ws ps true lo m k (body ++ after) h x p rest, tt))
      (plain_spread body after (plain_statements f owner result scope ss names shaped lines))

  spread_skipped : (names : List (List ℕ)) (number : ℕ) (ws : t.Words) (n : List ℕ) (at : ℕ) (ps : t.Parameters) (ats : t.Ats) (a z : ℕ) (v : t.Raw) (m k l lo hi : ℕ) (after : List s.Declared) →
      ShapedFunction names ws (t.named n at) ps ats (t.bSkipped a v z) → InWords lo ws m → m ≤ at → InParameters (suc at) ps k → k ≤ l → l ≤ hi →
      rules.faults_of_item f.env f.model f.bodies (t.tFunction ws (t.named n at) ps ats (t.bSkipped a v z)) ≡ [] → AllFrom hi after → AllSpan (s.in_function number ws n at ps (t.bSkipped a v z)) after
  spread_skipped names number ws n at ps ats a z v m k l lo hi after w h x p y b g r =
      let front = nil_left (rules.faults_of_words f.env f.model f.bodies ws ++ rules.faults_of_parameters f.env f.model f.bodies ps) _ g in
      let d = s.declared s.file None n at (close_of ps) (s.aFunction ws ps true) in
      let words = s.in_words s.file None ws in
      let own = s.in_prototype ps in
      spread_both (words ++ own) (d ∷ []) after
      (spread_both words own (d ∷ after) (plain_spread words (own ++ d ∷ after) (plain_words f s.file None ws (nil_left _ _ front)))
      (plain_spread own (d ∷ after) (plain_prototype f ps (nil_right (rules.faults_of_words f.env f.model f.bodies ws) _ front))))
      (function_span n at ws ps true lo m k after h x p (from_lower hi k after (omega (arith, y, b)) r), tt)

  -- ---- Declarations

  function_as : (b : Bool) (n : List ℕ) (at : ℕ) (ws : t.Words) (ps : t.Parameters) (i : t.Initial) (lo m k : ℕ) (rest : List s.Declared) → InWords lo ws m → m ≤ at → InParameters (suc at) ps k → AllFrom k rest →
      AllSpan (s.declared s.file None n at (close_of ps) (s.declared_as s.file None b ws (t.fFunction ps) i) ∷ []) rest
  function_as true n at ws ps i lo m k rest h x p r = (tt, tt)
  function_as false n at ws ps i lo m k rest h x p r = (function_span n at ws ps false lo m k rest h x p r, tt)

  object_as : (b : Bool) (n : List ℕ) (at behind : ℕ) (ws : t.Words) (i : t.Initial) (rest : List s.Declared) → AllSpan (s.declared s.file None n at behind (s.declared_as s.file None b ws t.fPlain i) ∷ []) rest
  object_as true n at behind ws i rest = (tt, tt)
  object_as false n at behind ws i rest = (tt, tt)

  array_as : (v : Bool) (n : List ℕ) (at behind : ℕ) (ws : t.Words) (a : ℕ) (e : Option t.Ex) (b : ℕ) (i : t.Initial) (rest : List s.Declared) → AllSpan (s.declared s.file None n at behind (s.declared_as s.file None v ws (t.fArray a e b) i) ∷ []) rest
  array_as true n at behind ws a e b i rest = (tt, tt)
  array_as false n at behind ws a e b i rest = (tt, tt)

  spread_declarator : (ws : t.Words) (n : List ℕ) (at : ℕ) (g : t.Form) (i : t.Initial) (lo m k : ℕ) (rest : List s.Declared) → InWords lo ws m → m ≤ at → InForm (suc at) g k → rules.faults_of_form f.env f.model f.bodies g ≡ [] → AllFrom k rest →
      AllSpan (s.in_declarator s.file None ws n at g i) rest
  spread_declarator ws n at t.fPlain i lo m k rest h x p z r = object_as (s.has_typedef ws) n at at ws i rest
  spread_declarator ws n at (t.fArray a e b) i lo m k rest h x p z r =
      spread_both (s.in_option s.file None e) _ rest (plain_spread (s.in_option s.file None e) _ (plain_length f s.file None a e b z)) (array_as (s.has_typedef ws) n at b ws a e b i rest)
  spread_declarator ws n at (t.fFunction ps) i lo m k rest h x p z r =
      spread_both (s.in_prototype ps) _ rest (plain_spread (s.in_prototype ps) _ (plain_prototype f ps z)) (function_as (s.has_typedef ws) n at ws ps i lo m k rest h x p r)

  spread_declarators : (names : List (List ℕ)) (k : Told) (ws : t.Words) (first last : ℕ) (ds : t.Decs) (lo hi : ℕ) (after : List s.Declared) → InWords first ws last → last ≤ lo → ShapedDeclarators site.File k names ds → InDeclarators lo ds hi →
      rules.faults_of_declarators f.env f.model f.bodies true ds ≡ [] → AllFrom hi after → AllSpan (s.in_declarators s.file None ws ds) after
  spread_declarators names k ws first last t.no_declarators lo hi after v x w h l r = tt
  spread_declarators names k ws first last (t.declarators_and ds c (t.named n at) g ats i) lo hi after v x w h l r =
      let earlier = rules.faults_of_declarators f.env f.model f.bodies true ds in
      let form = rules.faults_of_form f.env f.model f.bodies g in
      let front = nil_left (earlier ++ form) _ l in
      let formed = nil_right earlier _ front in
      let begun = nil_right (earlier ++ form) _ l in
      let before = ordered_declarators ds lo h.0 h.3 in
      let across = ordered_form g (suc at) h.1 h.5 in
      let mine = s.in_declarator s.file None ws n at g i in
      let first_values = s.in_initial s.file None i in
      let value = placed_initial f s.file None (sh.declared k ds names) i h.2 hi w.6 h.7 in
      let declarator = placed_declarator f s.file None (sh.declared k ds names) site.File k true (within (suc at) h.1) ws n at g i h.1 w.2 w.4 w.6 h.5 formed begun (λ q. same_room (within (suc at) h.1)) in
      let ends = value.ordered in
      let rest = from_both h.1 first_values after (from_lies f _ _ h.2 hi h.1 first_values h.6 value.lie) (from_lower hi h.1 after (omega (arith, h.6, ends)) r) in
      spread_both (s.in_declarators s.file None ws ds ++ mine) first_values after
      (spread_both (s.in_declarators s.file None ws ds) mine (first_values ++ after)
      (spread_declarators names k ws first last ds lo h.0 (mine ++ (first_values ++ after)) v x w.0 h.3 (nil_left _ _ front)
      (from_both h.0 mine (first_values ++ after) (from_lies f _ _ at h.1 h.0 mine h.4 declarator.lie)
      (from_both h.0 first_values after (from_lies f _ _ h.2 hi h.0 first_values (omega (arith, h.4, across, h.6)) value.lie) (from_lower hi h.0 after (omega (arith, h.4, across, h.6, ends)) r))))
      (spread_declarator ws n at g i first last h.1 (first_values ++ after) v (omega (arith, x, before, h.4)) h.5 formed rest))
      (plain_spread first_values after (plain_initial f s.file None true g i begun))

  spread_declaration : (names : List (List ℕ)) (d : t.Declaration) (lo hi : ℕ) (after : List s.Declared) → ShapedDeclaration site.File names d → InDeclaration lo d hi → rules.faults_of_declaration f.env f.model f.bodies true d ≡ [] →
      AllFrom hi after → AllSpan (s.in_declaration s.file None d) after
  spread_declaration names (t.declares ws ds b) lo hi after w h l r =
      spread_both (s.in_words s.file None ws) (s.in_declarators s.file None ws ds) after
      (plain_spread (s.in_words s.file None ws) (s.in_declarators s.file None ws ds ++ after) (plain_words f s.file None ws (nil_left _ _ l)))
      (spread_declarators names w.specs.told ws lo h.0 ds h.0 b after h.1 (itself h.0) w.declarators h.2 (nil_right (rules.faults_of_words f.env f.model f.bodies ws) _ l) (from_lower hi b after (omega (arith, h.3)) r))

  -- ---- Items

  pub spread_items : (is : t.Items) (lo hi : ℕ) (after : List s.Declared) → ShapedItems is → InItems lo is hi → ItemsLettered is → rules.faults_of_items f.env f.model f.bodies is ≡ [] → AllFrom hi after → AllSpan (s.in_items is) after
  spread_items t.no_items lo hi after w h e l r = tt
  spread_items (t.items_and is (t.tSkipped x at v b)) lo hi after w h e l r = spread_items is lo h.0 after w.0 h.1 e (nil_left _ _ l) (from_lower hi h.0 after h.2 r)
  spread_items (t.items_and is (t.tEmpty at)) lo hi after w h e l r = spread_items is lo h.0 after w.0 h.1 e (nil_left _ _ l) (from_lower hi h.0 after h.2 r)
  spread_items (t.items_and is (t.tDeclaration d)) lo hi after w h e l r =
      let own = nil_right (rules.faults_of_items f.env f.model f.bodies is) _ l in
      let placed = placed_declaration f s.file None (sh.file_names is) site.File true (within h.0 hi) d h.0 hi w.1.0 h.2 own (λ x. same_room (within h.0 hi)) in
      let ends = placed.ordered in
      let mine = s.in_declaration s.file None d in
      spread_both (s.in_items is) mine after
      (spread_items is lo h.0 (mine ++ after) w.0 h.1 e (nil_left _ _ l) (from_both h.0 mine after (from_lies f _ _ h.0 hi h.0 mine (itself h.0) placed.lie) (from_lower hi h.0 after ends r)))
      (spread_declaration (sh.file_names is) d h.0 hi after w.1.0 h.2 own r)
  spread_items (t.items_and is (t.tFunction ws (t.named n at) ps ats (t.bSkipped a v z))) lo hi after w h e l r =
      let g = h.2 in
      let own = nil_right (rules.faults_of_items f.env f.model f.bodies is) _ l in
      let placed = placed_skipped f (sh.file_names is) (s.count_bodies is) ws n at ps ats a z v g.0 g.1 g.2 h.0 hi w.1.0 g.3 g.4 g.5 g.6 g.7 in
      let ends = placed.ordered in
      let mine = s.in_function (s.count_bodies is) ws n at ps (t.bSkipped a v z) in
      spread_both (s.in_items is) mine after
      (spread_items is lo h.0 (mine ++ after) w.0 h.1 e (nil_left _ _ l) (from_both h.0 mine after (from_lies f _ _ h.0 hi h.0 mine (itself h.0) placed.lie) (from_lower hi h.0 after ends r)))
      (spread_skipped (sh.file_names is) (s.count_bodies is) ws n at ps ats a z v g.0 g.1 g.2 h.0 hi after w.1.0 g.3 g.4 g.5 g.6 g.7 own r)
  spread_items (t.items_and is (t.tFunction ws (t.named n at) ps ats (t.bBlock a ss z))) lo hi after w h e l r =
      let g = h.2 in
      let own = nil_right (rules.faults_of_items f.env f.model f.bodies is) _ l in
      let placed = placed_function f (sh.file_names is) (s.count_bodies is) ws n at ps ats a z ss g.0 g.1 g.2 h.0 hi w.1.0 g.3 g.4 g.5 g.6 g.7
      (nil_right (rules.faults_of_words f.env f.model f.bodies ws ++ rules.faults_of_parameters f.env f.model f.bodies ps) _ own) in
      let ends = placed.ordered in
      let mine = s.in_function (s.count_bodies is) ws n at ps (t.bBlock a ss z) in
      spread_both (s.in_items is) mine after
      (spread_items is lo h.0 (mine ++ after) w.0 h.1 e.0 (nil_left _ _ l) (from_both h.0 mine after (from_lies f _ _ h.0 hi h.0 mine (itself h.0) placed.lie) (from_lower hi h.0 after ends r)))
      (spread_function (sh.file_names is) (s.count_bodies is) ws n at ps ats a z ss g.0 g.1 g.2 h.0 hi after w.1.0 g.3 g.4 g.5 g.6 g.7 e.2 own r)
