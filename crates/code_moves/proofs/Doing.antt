-- Operations that do what is said of them, one after the other, in a table that grew.
use Rattle.std.proofs.Common.{◌≡◌, ℕ, ◌<◌, ◌≤◌, Bool, List, [], ◌∷◌, ◌++◌, length, sym, ap, ◌∙◌, subst, arith, Option, Some, Result, Ok, Err, append_assoc, length-append, slice_index}
use Rattle.std.specs.Prelude.{IfOk}
use Rattle.std.proofs.lemmas.List.{append-nil}
use Rattle.lv_base.specs.declared.fail.Memory.{Memory}
use Rattle.bv_term.specs.declared.term.TermId.{TermId}
use Rattle.lv_base.specs.declared.kind.Kind.{Kind}
use Rattle.lv_base.specs.declared.kind.Kind.TheVariants.{Bool as ABool, Char, UChar, Short, UShort, Int, UInt, Long, ULong, LongLong, ULongLong}
use Rattle.lv_base.specs.declared.kind.Model.{Model}
use Rattle.lv_base.specs.declared.kind.Model.TheVariants.{Ilp32, Lp64}
use Rattle.lv_base.specs.Integers.{width_of}
use Rattle.bv_term.specs.WellFormed.{Table, IsArray}
use Rattle.bv_term.proofs.Staying.{widths_stay}
use Rattle.c_graph.specs.Shape.{OperationFits}
use Rattle.c_graph.specs.declared.graph.Operation.{Operation}
use Rattle.c_graph.specs.declared.graph.Operation.TheVariants.{Assume, Set, SetAt, Draw}
use Rattle.c_terms.specs.declared.words.Words.{Words}
use Rattle.c_terms.specs.Shown.{Grows, Puts}
use Rattle.c_terms.proofs.Putting.{grows-none, grows-twice, later}
use Rattle.code_layout.specs.Lies.{IsWide}
use Rattle.code_moves.specs.Deeds.{Deed, Sets, SetsAt, Draws, Tells, Means, IsDeed, AreDeeds, Does}
use Rattle.code_moves.specs.Moves.{kept_deeds}

pub tells-later : (a b : Words) (t : TermId) (bits : ℕ) (f : List ℕ → ℕ) → Grows a b → Tells a.terms t bits f → Tells b.terms t bits f
tells-later a b t bits f g h = λ s. later a b s t bits (f s) g (h s)

pub means-later : (a b : Words) (t : TermId) (f : List ℕ → ℕ) → Grows a b → Means a.terms t f → Means b.terms t f
means-later a b t f g h = (h.0, tells-later a b t h.0 f g h.1)

-- ---- Operations fit

later-there : (a b : Words) (t : TermId) → Grows a b → t.0 < length a.terms.terms → t.0 < length b.terms.terms
later-there a b t g h = omega (arith, h, ap length g.extends.1.1, length-append a.terms.terms g.extends.1.0)

pub fits-later : (a b : Words) (op : Operation) → Grows a b → OperationFits a.terms op → OperationFits b.terms op
fits-later a b (Assume t) g h = (later-there a b t g h.0, widths_stay a.terms b.terms t g.extends h.0 ∙ h.1)
fits-later a b (Set c t) g h = (
  subst (λ (cs : List ℕ). c < length cs) (sym g.extends.0) h.0,
  later-there a b t g h.1,
  widths_stay a.terms b.terms t g.extends h.1 ∙ h.2 ∙ ap (λ (cs : List ℕ). slice_index cs c) (sym g.extends.0),
)
fits-later a b (SetAt first n i t) g h = (
  subst (λ (cs : List ℕ). IsArray cs first n) (sym g.extends.0) h.0,
  later-there a b i g h.1,
  later-there a b t g h.2,
  widths_stay a.terms b.terms t g.extends h.2 ∙ h.3 ∙ ap (λ (cs : List ℕ). slice_index cs first) (sym g.extends.0),
)
fits-later a b (Draw c signed) g h =
    (subst (λ (cs : List ℕ). c < length cs) (sym g.extends.0) h.0, subst (λ (cs : List ℕ). slice_index cs c ≤ 64) (sym g.extends.0) h.1)

pub set-fits : (T : Table) (c w : ℕ) (t : TermId) (f : List ℕ → ℕ) → IsWide T.cells c w → Tells T t w f → OperationFits T (Set c t)
set-fits T c w t f wide h = (wide.0, (h []).there, (h []).width ∙ sym wide.1)

pub set-at-fits : (T : Table) (first n w v : ℕ) (i t : TermId) (j f : List ℕ → ℕ) → IsArray T.cells first n → slice_index T.cells first ≡ w → Tells T i v j → Tells T t w f → OperationFits T (SetAt first n i t)
set-at-fits T first n w v i t j f array wide k h = (array, (k []).there, (h []).there, (h []).width ∙ sym wide)

-- no kind is wider than a slot
pub width-most : (kind : Kind) (model : Model) → width_of kind model ≤ 64
width-most ABool model = omega arith
width-most Char model = omega arith
width-most UChar model = omega arith
width-most Short model = omega arith
width-most UShort model = omega arith
width-most Int model = omega arith
width-most UInt model = omega arith
width-most Long Ilp32 = omega arith
width-most Long Lp64 = omega arith
width-most ULong Ilp32 = omega arith
width-most ULong Lp64 = omega arith
width-most LongLong model = omega arith
width-most ULongLong model = omega arith

pub draw-fits : (T : Table) (c : ℕ) (signed : Bool) (kind : Kind) (model : Model) → IsWide T.cells c (width_of kind model) → OperationFits T (Draw c signed)
draw-fits T c signed kind model wide = (wide.0, omega (arith, wide.1, width-most kind model))

-- ---- Deeds

pub deed-later : (a b : Words) (op : Operation) (d : Deed) → Grows a b → IsDeed a.terms op d → IsDeed b.terms op d
deed-later a b (Assume t) (Sets c f) g h = absurd h
deed-later a b (Assume t) (SetsAt c n i f) g h = absurd h
deed-later a b (Assume t) (Draws c signed) g h = absurd h
deed-later a b (Set c t) (Sets d f) g h = (h.0, means-later a b t f g h.1, fits-later a b (Set c t) g h.2)
deed-later a b (Set c t) (SetsAt d n i f) g h = absurd h
deed-later a b (Set c t) (Draws d signed) g h = absurd h
deed-later a b (SetAt c n i t) (Sets d f) g h = absurd h
deed-later a b (SetAt c n i t) (SetsAt d m j f) g h = (h.0, h.1, means-later a b i j g h.2, means-later a b t f g h.3, fits-later a b (SetAt c n i t) g h.4)
deed-later a b (SetAt c n i t) (Draws d signed) g h = absurd h
deed-later a b (Draw c signed) (Sets d f) g h = absurd h
deed-later a b (Draw c signed) (SetsAt d m j f) g h = absurd h
deed-later a b (Draw c signed) (Draws d other) g h = (h.0, h.1, fits-later a b (Draw c signed) g h.2)

pub deeds-later : (a b : Words) (ops : List Operation) (ds : List Deed) → Grows a b → AreDeeds a.terms ops ds → AreDeeds b.terms ops ds
deeds-later a b [] [] g h = tt
deeds-later a b [] (d ∷ ds) g h = absurd h
deeds-later a b (op ∷ ops) [] g h = absurd h
deeds-later a b (op ∷ ops) (d ∷ ds) g h = (deed-later a b op d g h.0, deeds-later a b ops ds g h.1)

pub pushed : (T : Table) (ops all : List Operation) (ds : List Deed) (op : Operation) (d : Deed) → all ≡ ops ++ op ∷ [] → AreDeeds T ops ds → IsDeed T op d → AreDeeds T all (ds ++ d ∷ [])
pushed T ops all ds op d e h k = subst (λ (xs : List Operation). AreDeeds T xs (ds ++ d ∷ [])) (sym e) (more ops ds h) where
  more : (ops : List Operation) (ds : List Deed) → AreDeeds T ops ds → AreDeeds T (ops ++ op ∷ []) (ds ++ d ∷ [])
  more [] [] h = (k, tt)
  more [] (x ∷ xs) h = absurd h
  more (x ∷ xs) [] h = absurd h
  more (x ∷ xs) (y ∷ ys) h = (h.0, more xs ys h.1)

-- nothing is done behind them
pub kept : (T : Table) (ops : List Operation) (ds : List Deed) → AreDeeds T ops ds → AreDeeds T ops (ds ++ [])
kept T ops ds h = subst (λ (xs : List Deed). AreDeeds T ops xs) (sym (append-nil ds)) h

pub does-none : (a : Words) (ops : List Operation) (ds : List Deed) → AreDeeds a.terms ops ds → Does a a ops (ds ++ [])
does-none a ops ds h = record { grows = grows-none a; does = kept a.terms ops ds h }

pub regrouped : (r : Result (Unit {0}) Memory) (a b : Words) (ops : List Operation) (xs ys zs : List Deed) → IfOk r (λ u. Does a b ops ((xs ++ ys) ++ zs)) → IfOk r (λ u. Does a b ops (xs ++ (ys ++ zs)))
regrouped (Err e) a b ops xs ys zs h = tt
regrouped (Ok u) a b ops xs ys zs h = record { grows = h.grows; does = subst (λ (ds : List Deed). AreDeeds b.terms ops ds) (append_assoc xs ys zs) h.does }

-- ---- One call after another

pub filled : (r : Result (Unit {0}) Memory) (a b : Words) (ops : List Operation) (ds : List Deed) → Grows a b → IfOk r (λ u. AreDeeds b.terms ops ds) → IfOk r (λ u. Does a b ops ds)
filled (Err e) a b ops ds g h = tt
filled (Ok u) a b ops ds g h = record { grows = g; does = h }

pub then-does : (r : Result (Unit {0}) Memory) (a b c : Words) (ops : List Operation) (ds : List Deed) → Grows a b → IfOk r (λ u. Does b c ops ds) → IfOk r (λ u. Does a c ops ds)
then-does (Err e) a b c ops ds g h = tt
then-does (Ok u) a b c ops ds g h = record { grows = grows-twice a b c g h.grows; does = h.does }

pub does-equal : (r : Result (Unit {0}) Memory) (a b : Words) (ops : List Operation) (xs ys : List Deed) → xs ≡ ys → IfOk r (λ u. Does a b ops xs) → IfOk r (λ u. Does a b ops ys)
does-equal r a b ops xs ys e h = subst (λ (ds : List Deed). IfOk r (λ u. Does a b ops ds)) e h

pub done-by : (r : Result TermId Memory) (a b : Words) (ops : List Operation) (ds : List Deed) (cell bits number : ℕ) (s : List ℕ) (f : List ℕ → ℕ) (o : Option ℕ) → Some cell ≡ o → AreDeeds a.terms ops (ds ++ Sets cell f ∷ [])
    → IfOk r (λ t. Puts a b s t bits number) → IfOk r (λ t. Does a b ops (ds ++ kept_deeds o f))
done-by (Err x) a b ops ds cell bits number s f o e d h = tt
done-by (Ok t) a b ops ds cell bits number s f o e d h =
    record { grows = h.grows; does = subst (λ (k : Option ℕ). AreDeeds b.terms ops (ds ++ kept_deeds k f)) e (deeds-later a b ops (ds ++ Sets cell f ∷ []) h.grows d) }
