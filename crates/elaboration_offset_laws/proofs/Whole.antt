-- A source that breaks no rule of names, types and calls, and whose tokens rise.
use Rattle.std.proofs.Common.{◌≡◌, inl, inr, ℕ, suc, true, List, [], ◌∷◌, ◌++◌, map, append-nil, append_assoc, None, Some, refl, sym, ap, ◌∙◌, subst, arith}
use Rattle.c_tree.specs.declared.symbol.SymbolAt.{SymbolAt}
use Rattle.c_tree.specs.declared.symbol.Symbol.TheVariants as sy
use Rattle.c_tree.specs.Symbols.{sign}
use Rattle.c_tree.specs.Tree as t
use Rattle.c_tree.specs.Shape as sh
use Rattle.c_tree.specs.Shape.{ShapedItems}
use Rattle.c_tree.specs.Denotes.{spelling}
use Rattle.c_tree.specs.declared.known.Site.TheVariants as site
use Rattle.c_meaning.specs.Tokens.{open_of, close_of}
use Rattle.c_meaning.specs.Scope as s
use Rattle.c_meaning.specs.Constants as c
use Rattle.c_meaning.specs.Program.{Function, functions_of, env_of}
use Rattle.c_meaning.specs.Rules as rules
use Rattle.elaboration_fit_laws.specs.Holds.{StatementsHold, BodiesHold}
use Rattle.elaboration_fit_laws.specs.Known.{KnownHold}
use Rattle.elaboration_offset_laws.specs.Rising.{Rises}
use Rattle.elaboration_offset_laws.specs.Laws.{SourcesHold}
use Rattle.elaboration_offset_laws.proofs.Logic.{nil_left, nil_right}
use Rattle.elaboration_offset_laws.proofs.Standing.{RisesTo, itself, ordered_words, ordered_parameters}
use Rattle.elaboration_offset_laws.proofs.Statements.{InItems, read_items}
use Rattle.elaboration_offset_laws.proofs.Lying.{Known, nowhere, within, same_room}
use Rattle.elaboration_offset_laws.proofs.Declaring.{placed_declaration}
use Rattle.elaboration_offset_laws.proofs.Files.{body_shaped, placed_function, placed_skipped, placed_items}
use Rattle.elaboration_offset_laws.proofs.Growing.{grown}
use Rattle.elaboration_offset_laws.proofs.Lengths.{objects_fit}
use Rattle.elaboration_offset_laws.proofs.Finding.{AllFound, found_left, found_right, all_found, AllTold, all_told, AllFree, free_both, free_of, free_inner, no_names}
use Rattle.elaboration_offset_laws.proofs.Holding.{statements_hold}

-- some offset is behind all
pub up_to : (signs : List SymbolAt) (lo : ℕ) → Rises lo signs → (top : ℕ) × RisesTo top lo signs
up_to [] lo h = (lo, itself lo)
up_to (x ∷ signs) lo h = let r = up_to signs (suc x.at) h.1 in (r.0, (h.0, r.1))

module _ (f : Known) (told : AllTold f.env.entries) (whole : List s.Declared) (declares : map (λ e. e.declared) f.env.entries ≡ whole) (found : AllFound f.env whole) where
  hold_more : (fs : List Function) (g : Function) → BodiesHold f.env fs → StatementsHold f.env g.body → BodiesHold f.env (fs ++ g ∷ [])
  hold_more [] g h k = (k, tt)
  hold_more (x ∷ fs) g h k = (h.0, hold_more fs g h.1 k)

  -- the items up to here, and what is declared behind them
  bodies_hold : (is : t.Items) (lo hi : ℕ) (after : List s.Declared) → whole ≡ s.in_items is ++ after → AllFree lo hi after → ShapedItems is → InItems lo is hi → rules.faults_of_items f.env f.model f.bodies is ≡ [] → BodiesHold f.env (functions_of f.env is)
  bodies_hold t.no_items lo hi after e a w h l = tt
  bodies_hold (t.items_and is (t.tSkipped x at r b)) lo hi after e a w h l = bodies_hold is lo h.0 after e (free_inner lo hi lo h.0 after (itself lo) h.2 a) w.0 h.1 (nil_left _ _ l)
  bodies_hold (t.items_and is (t.tEmpty at)) lo hi after e a w h l = bodies_hold is lo h.0 after e (free_inner lo hi lo h.0 after (itself lo) h.2 a) w.0 h.1 (nil_left _ _ l)
  bodies_hold (t.items_and is (t.tDeclaration d)) lo hi after e a w h l =
      let p = placed_declaration f s.file None (sh.file_names is) site.File true (within h.0 hi) d h.0 hi w.1.0 h.2 (nil_right (rules.faults_of_items f.env f.model f.bodies is) _ l) (λ x. same_room (within h.0 hi)) in
      let o = p.ordered in
      bodies_hold is lo h.0 (s.in_declaration s.file None d ++ after) (e ∙ append_assoc (s.in_items is) _ after)
      (free_both lo h.0 (s.in_declaration s.file None d) after (free_of lo h.0 f (within h.0 hi) true h.0 hi (s.in_declaration s.file None d) (inr (itself h.0)) p.lie) (free_inner lo hi lo h.0 after (itself lo) o a)) w.0 h.1 (nil_left _ _ l)
  bodies_hold (t.items_and is (t.tFunction ws (t.named n at) ps ats (t.bSkipped x r z))) lo hi after e a w h l =
      let g = h.2 in
      let mine = s.in_function (s.count_bodies is) ws n at ps (t.bSkipped x r z) in
      let p = placed_skipped f (sh.file_names is) (s.count_bodies is) ws n at ps ats x z r g.0 g.1 g.2 h.0 hi w.1.0 g.3 g.4 g.5 g.6 g.7 in
      let o = p.ordered in
      bodies_hold is lo h.0 (mine ++ after) (e ∙ append_assoc (s.in_items is) mine after)
      (free_both lo h.0 mine after (free_of lo h.0 f (within h.0 hi) true h.0 hi mine (inr (itself h.0)) p.lie) (free_inner lo hi lo h.0 after (itself lo) o a)) w.0 h.1 (nil_left _ _ l)
  bodies_hold (t.items_and is (t.tFunction ws (t.named n at) ps ats (t.bBlock x ss z))) lo hi after e a w h l =
      let g = h.2 in
      let number = s.count_bodies is in
      let scope = s.block (open_of ps) z in
      let mine = s.in_function number ws n at ps (t.bBlock x ss z) in
      let own = nil_right (rules.faults_of_items f.env f.model f.bodies is) _ l in
      let p = placed_function f (sh.file_names is) number ws n at ps ats x z ss g.0 g.1 g.2 h.0 hi w.1.0 g.3 g.4 g.5 g.6 g.7
      (nil_right (rules.faults_of_words f.env f.model f.bodies ws ++ rules.faults_of_parameters f.env f.model f.bodies ps) _ own) in
      let o = p.ordered in
      let q = placed_items f is lo h.0 w.0 h.1 (nil_left _ _ l) in
      let ol = q.ordered in
      let same = e ∙ append_assoc (s.in_items is) mine after in
      let free = free_both h.0 hi (s.in_items is) (mine ++ after) (free_of h.0 hi f (within lo h.0) true lo h.0 (s.in_items is) (inl (itself h.0)) q.lie)
      (free_both h.0 hi mine after (free_of h.0 hi f nowhere true h.0 hi mine tt p.lie) (free_inner lo hi h.0 hi after ol (itself hi) a)) in
      let clear = no_names h.0 hi f.env told (subst (AllFree h.0 hi) (sym (declares ∙ same)) free) in
      let there = found_left f.env mine after (found_right f.env (s.in_items is) (mine ++ after) (subst (AllFound f.env) same found)) in
      let first = ordered_words ws h.0 g.0 g.3 in
      let second = ordered_parameters ps (suc at) g.1 g.5 in
      let body = g.7 in
      hold_more (functions_of f.env is) _
      (bodies_hold is lo h.0 (mine ++ after) same
      (free_both lo h.0 mine after (free_of lo h.0 f nowhere true h.0 hi mine tt p.lie) (free_inner lo hi lo h.0 after (itself lo) o a)) w.0 h.1 (nil_left _ _ l))
      (statements_hold f.env h.0 hi clear (Some number) scope ss (sh.file_names is) (suc x) z refl (body_shaped _ (sh.file_names is) x z ss w.1.0.body)
      (omega (arith, first, g.4, second, g.6, body.0)) (omega (arith, body.2)) body.1
      (found_right f.env (s.in_words s.file None ws ++ s.in_parameters scope (Some number) ps ++ s.declared s.file None n at (close_of ps) (s.aFunction ws ps true) ∷ []) (s.in_statements (Some number) scope ss) there))

pub sources_hold_is : KnownHold → SourcesHold
sources_hold_is known tokens items model spelled rises h =
    let env = env_of items model in
    let names = map (λ g. g.name) (functions_of env items) in
    let f : Known = record { env = env; model = model; bodies = names } in
    let end = spelled.end in
    let up = up_to (spelling items end) 0 (subst (Rises 0) (sym spelled.spelled) rises) in
    let read = read_items up.0 items (sign sy.End end ∷ []) 0 up.1 in
    let front = nil_left (rules.faults_of_items env model names items ++ rules.redeclared env model names [] env.entries) _ h in
    let items_right = nil_left (rules.faults_of_items env model names items) _ front in
    let p = placed_items f items 0 end spelled.shaped read.0 items_right in
    let ds = s.in_items items in
    let g = grown model c.no_names ds tt in
    let known_right = known items model names spelled.shaped (nil_right (rules.faults_of_items env model names items) _ front) in
    record {
      objects = objects_fit f (within 0 end) true 0 end c.no_names ds refl tt tt p.lie p.apart;
      bodies = bodies_hold f (all_told model c.no_names ds tt tt) ds (ap (map (λ e. e.declared)) g.entries ∙ g.declares) (all_found model c.no_names env ds refl tt tt p.apart) items 0 end [] (sym (append-nil ds)) tt spelled.shaped read.0 items_right;
      takes = known_right.0;
      known = known_right.1;
    }
