use Rattle.std.proofs.Common.{rules, ◌≡◌, ◌<◌, ◌≤◌, ◌⊎◌, inl, inr, ℕ, Bool, true, List, [], length, map, Some, sym, ap, arith, ◌∙◌, subst}
use Rattle.std.specs.Prelude.{IsTrue}
use Rattle.std.proofs.lemmas.List.{length-map}
use Rattle.bv_term.specs.WellFormed.{Table}
use Rattle.slot_code.specs.declared.flat.Instruction.{Instruction}
use Rattle.code_moves.specs.Setting.{Setting, Stands}
use Rattle.c_typed.specs.declared.tree.Object.{Object}
use Rattle.c_typed.specs.View.{object_of, function_of}
use Rattle.c_typed.specs.Parts.{tree_of}
use Rattle.c_typed.specs.Run.{main_number}
use Rattle.slot_code.specs.Programs as p
use Rattle.slot_code.specs.Slots.{slots_in}
use Rattle.slot_values.specs.Linked.{links_of}
use Rattle.slot_compiler.specs.Seen.{code_of}
use Rattle.cfg_build.specs.Ranges.{AreRanges, ProgramRanges, main_or, no_ranges, ranges_to}
use Rattle.cfg_build.specs.Built.{first_graphs, first_words, graphed}
use Rattle.cfg_build.proofs.Gathering.{is-built}
use Rattle.c_terms.specs.Made.{words_of}
use Rattle.c_terms.proofs.Choosing.{two, three}
use Rattle.bv_term.specs.declared.term.Term.{Term}
use Rattle.cfg_build.specs.Fitting.{AreFit, CallsEnter}
use Rattle.bv_term.specs.WellFormed.{IsTable}
use Rattle.c_graph.specs.Shape.{widths_of}
use Rattle.c_graph.specs.Functions.{FnFlow, Flows, AreFlows}
use Rattle.c_graph.specs.Parts.{flows_of}
use Rattle.cfg_build.specs.declared.placing.Range.{Range}
use Rattle.cfg_build.specs.declared.placing.Whole.{Whole}
use Rattle.cfg_build.specs.Sizes.{IsWithin, graph_nodes}
use Rattle.cfg_build.specs.Numbers.{AllLinked, numbers_to, owners_to}
use Rattle.cfg_build.specs.Placed.{AllCanFollow}
use Rattle.cfg_build.specs.Graphs.{FirstGraphs, ProgramFollows, program_code, program_setting}
use Rattle.cfg_build.proofs.Linking.{entry-below}
use Rattle.cfg_build.proofs.Passing.{LaidOut, all-can-follow, must-follow, some-function, few-functions, program-whole, ranges-back}
use Rattle.cfg_build.proofs.Graphing.{Tested, IsFitting, program-follows, either-follows, setting-is, stands-by, stand-both, stand-by, ranges-stand, fit-stand}
use Rattle.cfg_build.proofs.building.build.Goals as goal

pub returns-clause-made : goal.returns-clause-made
returns-clause-made c =
    let t = c.args.examined.now.typed in
    let order = c.args.examined.now.order in
    let code : List Instruction = c.in_ok-code.code.instructions.items in
    let is_code : code ≡ program_code t order = search rules in
    let objects_are : c.objects-objects.result.now ≡ t.objects = c.objects-objects.ensures.value ∙ ap (λ x. x.objects) c.typed-typed.ensures.value in
    let model_is : c.model-model.result ≡ t.model = c.model-model.ensures.value ∙ ap (λ x. x.model) c.typed-typed.ensures.value in
    let s : Setting = record { objects = c.objects-objects.result.now; model = c.model-model.result; lay = c.in_ok-layout.layout } in
    let setting : s ≡ program_setting t order =
    setting-is t order c.objects-objects.result.now c.model-model.result c.in_ok-layout.layout c.deref-2.result.now c.deref.result.now c.in_ok-slots.slots
    objects_are model_is (c.deref-2.ensures.value ∙ is_code) (c.deref.ensures.value ∙ is_code) c.in_ok-slots.ensures c.in_ok-layout.ensures.value in
    let stands : Stands s c.new-words.result =
    stands-by c.objects-objects.result.now c.model-model.result c.in_ok-layout.layout c.deref-2.result.now c.in_ok-slots.slots c.new-words.result
    c.in_ok-layout.ensures.value (search rules) in
    let gs = c.in_ok-graphs.field-0.graphs.items in
    let said = c.in_ok-graphs.ensures.made stands in
    let same : c.into_terms-terms.result ≡ c.graphs_of.new.words.terms = search rules in
    let follows = subst (λ (T : Table). (gs ≡ []) ⊎ FirstGraphs c.deref-4.result.now c.deref-5.result.now c.deref-7.result.now c.main_of-main.result s T (length c.deref-7.result.now) gs c.in_ok-graphs.field-0.exits.items)
    (sym same) (either-follows gs _ _ said) in
    let m = c.main_of-main.result in
    let rs = c.deref-7.result.now in
    let whole : code_of c.in_ok-code.code ≡ p.code_of (tree_of t) order = c.in_ok-code.ensures ∙ ap (λ x. p.code_of (tree_of x) c.order.result.now) c.typed-typed.ensures.value ∙ ap (λ x. p.code_of (tree_of t) x) c.order.ensures.value in
    let slots : c.in_ok-slots.slots ≡ slots_in (program_code t order) = c.in_ok-slots.ensures ∙ ap slots_in (c.deref.ensures.value ∙ is_code) in
    let stood : IsTrue c.is_placed.result → AreRanges (length code) c.in_ok-slots.slots (links_of c.in_ok-code.code.links.items) rs = λ b. search (rules, c.is_placed.ensures.stand b) in
    let placed : IsTrue c.is_placed.result → (main_number (tree_of t).functions ≡ Some m) × ProgramRanges t order rs = λ b. (
      subst (λ x. main_number (tree_of x).functions ≡ Some m) c.typed-typed.ensures.value (c.is_placed.ensures.main b),
      ranges-stand t order (code_of c.in_ok-code.code) c.in_ok-slots.slots rs whole slots (stood b),
    ) in
    let hs = c.graphs_where-graphs.result.items in
    let is = c.graphs_where-graphs-2.result.items in
    let first : (IsTrue c.is_placed.result × (hs ≡ gs)) ⊎ (hs ≡ []) = c.graphs_where-graphs.ensures.made in
    let second : (IsTrue c.in_ok-passed.passed × (is ≡ hs)) ⊎ (is ≡ []) = c.graphs_where-graphs-2.ensures.made in
    let fitting : IsTrue c.in_ok-passed.passed → IsFitting t order (p.code_of (tree_of t) order) = λ b.
    fit-stand t order (code_of c.in_ok-code.code) whole
    (subst (λ (os : List Object). AreFit t.model (map object_of os) code × CallsEnter (links_of c.in_ok-code.code.links.items) code × (length code < 18446744073709551616)) objects_are (c.in_ok-passed.ensures.fitting t.model b)) in
    let tested : IsTrue c.is_placed.result × IsTrue c.in_ok-passed.passed → Tested t order rs m = λ b. record {
      number = (placed b.0).0;
      stand = (placed b.0).1;
      fit = (fitting b.1).0;
      enters = (fitting b.1).1;
      short = (fitting b.1).2;
    } in
    let stand = stand-by _ _ _ _ tested (stand-both _ _ gs hs is first second) in
    program-follows t order c.in_ok-function_graphs_from.field-0 c.deref-4.result.now c.deref-5.result.now c.deref-7.result.now s
    gs c.graphs_where-graphs-2.result.items c.in_ok-graphs.field-0.exits.items c.into_cells-cells.result.items c.into_terms-terms.result m
    (search rules) c.in_ok-function_graphs_from.ensures.made stand
    follows setting (c.deref-4.ensures.value ∙ is_code) (search rules)

pub returns-clause-whole : goal.returns-clause-whole
returns-clause-whole c =
    let t = c.args.examined.now.typed in
    let order = c.args.examined.now.order in
    λ law h.
    let code : List Instruction = c.in_ok-code.code.instructions.items in
    let is_code : code ≡ program_code t order = search rules in
    let whole : code_of c.in_ok-code.code ≡ p.code_of (tree_of t) order = c.in_ok-code.ensures ∙ ap (λ x. p.code_of (tree_of x) c.order.result.now) c.typed-typed.ensures.value ∙ ap (λ x. p.code_of (tree_of t) x) c.order.ensures.value in
    let slots : c.in_ok-slots.slots ≡ slots_in (program_code t order) = c.in_ok-slots.ensures ∙ ap slots_in (c.deref.ensures.value ∙ is_code) in
    let objects_are : c.objects-objects.result.now ≡ t.objects = c.objects-objects.ensures.value ∙ ap (λ x. x.objects) c.typed-typed.ensures.value in
    let model_is : c.model-model.result ≡ t.model = c.model-model.ensures.value ∙ ap (λ x. x.model) c.typed-typed.ensures.value in
    let s : Setting = record { objects = c.objects-objects.result.now; model = c.model-model.result; lay = c.in_ok-layout.layout } in
    let setting : s ≡ program_setting t order =
    setting-is t order c.objects-objects.result.now c.model-model.result c.in_ok-layout.layout c.deref-2.result.now c.deref.result.now c.in_ok-slots.slots
    objects_are model_is (c.deref-2.ensures.value ∙ is_code) (c.deref.ensures.value ∙ is_code) c.in_ok-slots.ensures c.in_ok-layout.ensures.value in
    let stands : Stands s c.new-words.result =
    stands-by c.objects-objects.result.now c.model-model.result c.in_ok-layout.layout c.deref-2.result.now c.in_ok-slots.slots c.new-words.result
    c.in_ok-layout.ensures.value (search rules) in
    let links = c.in_ok-code.code.links.items in
    let functions_are : length c.functions.result.now ≡ length (tree_of t).functions =
    ap length (c.functions.ensures.value ∙ ap (λ x. x.functions) c.typed-typed.ensures.value) ∙ sym (length-map t.functions function_of) in
    let nodes : graph_nodes (program_code t order) (length (tree_of t).functions) ≤ 65536 =
    subst (λ (n : ℕ). graph_nodes (program_code t order) n ≤ 65536) functions_are
    (subst (λ (xs : List Instruction). graph_nodes xs (length c.functions.result.now) ≤ 65536) (c.deref-3.ensures.value ∙ is_code) c.in_ok-few_nodes.ensures) in
    let within : IsWithin t order = record { cells = subst (λ (z : Setting). length z.lay.cells ≤ 65536) setting c.in_ok-layout.ensures.few; nodes = nodes } in
    let m = c.main_of-main.result in
    let main_is : m ≡ h.main = c.main_of-main.ensures.main h.main (subst (λ x. main_number (tree_of x).functions ≡ Some h.main) (sym c.typed-typed.ensures.value) h.is_main) (few-functions t order h within) in
    let many : length h.ranges ≡ length (tree_of c.typed-typed.result.now).functions = subst (λ x. length h.ranges ≡ length (tree_of x).functions) (sym c.typed-typed.ensures.value) h.many in
    let stand : AreRanges (length code) c.in_ok-slots.slots (links_of links) h.ranges = ranges-back t order (code_of c.in_ok-code.code) c.in_ok-slots.slots h.ranges whole slots h.stand in
    let has : AllLinked (links_of links) (length h.ranges) = subst (λ (z : p.Code). AllLinked z.links (length h.ranges)) (sym whole) (subst (λ n. AllLinked (p.code_of (tree_of t) order).links n) (sym h.many) h.linked) in
    let ranges : c.in_ok-ranges.ranges.items ≡ h.ranges = c.in_ok-ranges.ensures.stand h.ranges many stand has in
    let rs : c.deref-7.result.now ≡ h.ranges = c.deref-7.ensures.value ∙ ranges in
    let w : Whole = record { code = c.deref-4.result; numbers = c.deref-5.result; owners = c.deref-6.result; ranges = c.deref-7.result } in
    let laid : LaidOut t order h w m = record {
      code = c.deref-4.ensures.value ∙ is_code;
      numbers = c.deref-5.ensures.value ∙ c.in_ok-numbers.ensures ∙ ap (λ (z : p.Code). numbers_to z.instructions m (length z.instructions) z.links) whole;
      owners = c.deref-6.ensures.value ∙ c.in_ok-owners.ensures ∙ ap (λ (z : p.Code). owners_to (length z.instructions) z.links) whole;
      ranges = rs;
    } in
    let all : AllCanFollow w c.in_ok-layout.layout m = subst (λ (z : Setting). AllCanFollow w z.lay m) (sym setting) (all-can-follow t order h w m laid) in
    let gs = c.in_ok-graphs.field-0.graphs.items in
    let said = c.in_ok-graphs.ensures.made stands in
    let count : length gs ≡ length h.ranges = c.in_ok-graphs.ensures.whole stands all ∙ ap length rs in
    let made = must-follow gs _ said (omega (arith, count, some-function t order h)) in
    let same : c.into_terms-terms.result ≡ c.graphs_of.new.words.terms = search rules in
    let follow = subst (λ (xs : List Instruction). FirstGraphs xs c.deref-5.result.now h.ranges h.main s c.into_terms-terms.result (length h.ranges) gs c.in_ok-graphs.field-0.exits.items) (c.deref-4.ensures.value ∙ is_code)
    (subst (λ (k : ℕ). FirstGraphs c.deref-4.result.now c.deref-5.result.now h.ranges k s c.into_terms-terms.result (length h.ranges) gs c.in_ok-graphs.field-0.exits.items) main_is
    (subst (λ (z : List Range). FirstGraphs c.deref-4.result.now c.deref-5.result.now z m s c.into_terms-terms.result (length z) gs c.in_ok-graphs.field-0.exits.items) rs
    (subst (λ (T : Table). FirstGraphs c.deref-4.result.now c.deref-5.result.now c.deref-7.result.now m s T (length c.deref-7.result.now) gs c.in_ok-graphs.field-0.exits.items) (sym same) made.1))) in
    let placed : IsTrue c.is_placed.result = c.is_placed.ensures.whole (subst (λ z. AreRanges (length code) c.in_ok-slots.slots (links_of links) z) (sym (c.deref-8.ensures.value ∙ ranges)) stand)
    (subst (λ x. main_number (tree_of x).functions ≡ Some m) (sym c.typed-typed.ensures.value) (h.is_main ∙ ap Some (sym main_is))) in
    let fit : AreFit t.model (map object_of c.objects-objects.result.now) code =
    subst (λ (os : List Object). AreFit t.model (map object_of os) code) (sym objects_are) (subst (λ (xs : List Instruction). AreFit t.model (tree_of t).objects xs) (sym is_code) h.fit) in
    let enters : CallsEnter (links_of links) code = subst (λ (z : p.Code). CallsEnter z.links z.instructions) (sym whole) h.enters in
    let passed : IsTrue c.in_ok-passed.passed = c.in_ok-passed.ensures.whole t.model fit (λ n x e. entry-below (length code) c.in_ok-slots.slots links h.ranges n x stand e) enters in
    let short : length (program_code t order) < 18446744073709551616 = subst (λ (xs : List Instruction). length xs < 18446744073709551616) is_code (c.in_ok-passed.ensures.fitting t.model passed).2 in
    let is = c.graphs_where-graphs.result.items in
    let js = c.graphs_where-graphs-2.result.items in
    let first : is ≡ gs = c.graphs_where-graphs.ensures.whole placed in
    let second : js ≡ gs = c.graphs_where-graphs-2.ensures.whole passed ∙ first in
    let cells = c.into_cells-cells.result.items in
    let laid_cells : cells ≡ s.lay.cells = search rules in
    let table : IsTable c.into_terms-terms.result = search rules in
    let started : c.new-words.result.terms.cells ≡ widths_of c.in_ok-layout.layout.cells = search rules in
    let wide : c.into_terms-terms.result.cells ≡ widths_of cells = ap (λ (z : Table). z.cells) same ∙ made.0.extends.0 ∙ started ∙ ap widths_of (sym laid_cells) in
    let both = program-whole t order law h within c.deref-5.result.now s gs c.in_ok-graphs.field-0.exits.items cells c.into_terms-terms.result count follow setting laid_cells short table wide in
    let at = λ (z : List FnFlow) (k : ℕ). flows_of z cells c.into_terms-terms.result c.in_ok-graphs.field-0.exits.items k in
    let moved : ProgramFollows t order (at js m) × AreFlows (at js m) =
    subst (λ (z : List FnFlow). ProgramFollows t order (at z m) × AreFlows (at z m)) (sym second) (subst (λ (k : ℕ). ProgramFollows t order (at gs k) × AreFlows (at gs k)) (sym main_is) both) in
    let answered : c.in_ok-function_graphs_from.field-0 ≡ at js m = c.in_ok-function_graphs_from.ensures.whole moved.1 in
    subst (λ (z : Flows). ProgramFollows t order z) (sym answered) moved.0

pub returns-clause-one : goal.returns-clause-one
returns-clause-one c =
    let t = c.args.examined.now.typed in
    let order = c.args.examined.now.order in
    λ law h.
    let code : List Instruction = c.in_ok-code.code.instructions.items in
    let is_code : code ≡ program_code t order = search rules in
    let whole : code_of c.in_ok-code.code ≡ p.code_of (tree_of t) order = c.in_ok-code.ensures ∙ ap (λ x. p.code_of (tree_of x) c.order.result.now) c.typed-typed.ensures.value ∙ ap (λ x. p.code_of (tree_of t) x) c.order.ensures.value in
    let slots : c.in_ok-slots.slots ≡ slots_in (program_code t order) = c.in_ok-slots.ensures ∙ ap slots_in (c.deref.ensures.value ∙ is_code) in
    let objects_are : c.objects-objects.result.now ≡ t.objects = c.objects-objects.ensures.value ∙ ap (λ x. x.objects) c.typed-typed.ensures.value in
    let model_is : c.model-model.result ≡ t.model = c.model-model.ensures.value ∙ ap (λ x. x.model) c.typed-typed.ensures.value in
    let s : Setting = record { objects = c.objects-objects.result.now; model = c.model-model.result; lay = c.in_ok-layout.layout } in
    let setting : s ≡ program_setting t order =
    setting-is t order c.objects-objects.result.now c.model-model.result c.in_ok-layout.layout c.deref-2.result.now c.deref.result.now c.in_ok-slots.slots
    objects_are model_is (c.deref-2.ensures.value ∙ is_code) (c.deref.ensures.value ∙ is_code) c.in_ok-slots.ensures c.in_ok-layout.ensures.value in
    let stands : Stands s c.new-words.result =
    stands-by c.objects-objects.result.now c.model-model.result c.in_ok-layout.layout c.deref-2.result.now c.in_ok-slots.slots c.new-words.result
    c.in_ok-layout.ensures.value (search rules) in
    let links = c.in_ok-code.code.links.items in
    let functions_are : length c.functions.result.now ≡ length (tree_of t).functions =
    ap length (c.functions.ensures.value ∙ ap (λ x. x.functions) c.typed-typed.ensures.value) ∙ sym (length-map t.functions function_of) in
    let nodes : graph_nodes (program_code t order) (length (tree_of t).functions) ≤ 65536 =
    subst (λ (n : ℕ). graph_nodes (program_code t order) n ≤ 65536) functions_are
    (subst (λ (xs : List Instruction). graph_nodes xs (length c.functions.result.now) ≤ 65536) (c.deref-3.ensures.value ∙ is_code) c.in_ok-few_nodes.ensures) in
    let within : IsWithin t order = record { cells = subst (λ (z : Setting). length z.lay.cells ≤ 65536) setting c.in_ok-layout.ensures.few; nodes = nodes } in
    let m = c.main_of-main.result in
    let main_is : m ≡ h.main = c.main_of-main.ensures.main h.main (subst (λ x. main_number (tree_of x).functions ≡ Some h.main) (sym c.typed-typed.ensures.value) h.is_main) (few-functions t order h within) in
    let many : length h.ranges ≡ length (tree_of c.typed-typed.result.now).functions = subst (λ x. length h.ranges ≡ length (tree_of x).functions) (sym c.typed-typed.ensures.value) h.many in
    let stand : AreRanges (length code) c.in_ok-slots.slots (links_of links) h.ranges = ranges-back t order (code_of c.in_ok-code.code) c.in_ok-slots.slots h.ranges whole slots h.stand in
    let has : AllLinked (links_of links) (length h.ranges) = subst (λ (z : p.Code). AllLinked z.links (length h.ranges)) (sym whole) (subst (λ n. AllLinked (p.code_of (tree_of t) order).links n) (sym h.many) h.linked) in
    let ranges : c.in_ok-ranges.ranges.items ≡ h.ranges = c.in_ok-ranges.ensures.stand h.ranges many stand has in
    let rs : c.deref-7.result.now ≡ h.ranges = c.deref-7.ensures.value ∙ ranges in
    let w : Whole = record { code = c.deref-4.result; numbers = c.deref-5.result; owners = c.deref-6.result; ranges = c.deref-7.result } in
    let laid : LaidOut t order h w m = record {
      code = c.deref-4.ensures.value ∙ is_code;
      numbers = c.deref-5.ensures.value ∙ c.in_ok-numbers.ensures ∙ ap (λ (z : p.Code). numbers_to z.instructions m (length z.instructions) z.links) whole;
      owners = c.deref-6.ensures.value ∙ c.in_ok-owners.ensures ∙ ap (λ (z : p.Code). owners_to (length z.instructions) z.links) whole;
      ranges = rs;
    } in
    let all : AllCanFollow w c.in_ok-layout.layout m = subst (λ (z : Setting). AllCanFollow w z.lay m) (sym setting) (all-can-follow t order h w m laid) in
    let gs = c.in_ok-graphs.field-0.graphs.items in
    let said = c.in_ok-graphs.ensures.made stands in
    let count : length gs ≡ length h.ranges = c.in_ok-graphs.ensures.whole stands all ∙ ap length rs in
    let made = must-follow gs _ said (omega (arith, count, some-function t order h)) in
    let same : c.into_terms-terms.result ≡ c.graphs_of.new.words.terms = search rules in
    let follow = subst (λ (xs : List Instruction). FirstGraphs xs c.deref-5.result.now h.ranges h.main s c.into_terms-terms.result (length h.ranges) gs c.in_ok-graphs.field-0.exits.items) (c.deref-4.ensures.value ∙ is_code)
    (subst (λ (k : ℕ). FirstGraphs c.deref-4.result.now c.deref-5.result.now h.ranges k s c.into_terms-terms.result (length h.ranges) gs c.in_ok-graphs.field-0.exits.items) main_is
    (subst (λ (z : List Range). FirstGraphs c.deref-4.result.now c.deref-5.result.now z m s c.into_terms-terms.result (length z) gs c.in_ok-graphs.field-0.exits.items) rs
    (subst (λ (T : Table). FirstGraphs c.deref-4.result.now c.deref-5.result.now c.deref-7.result.now m s T (length c.deref-7.result.now) gs c.in_ok-graphs.field-0.exits.items) (sym same) made.1))) in
    let placed : IsTrue c.is_placed.result = c.is_placed.ensures.whole (subst (λ z. AreRanges (length code) c.in_ok-slots.slots (links_of links) z) (sym (c.deref-8.ensures.value ∙ ranges)) stand)
    (subst (λ x. main_number (tree_of x).functions ≡ Some m) (sym c.typed-typed.ensures.value) (h.is_main ∙ ap Some (sym main_is))) in
    let fit : AreFit t.model (map object_of c.objects-objects.result.now) code =
    subst (λ (os : List Object). AreFit t.model (map object_of os) code) (sym objects_are) (subst (λ (xs : List Instruction). AreFit t.model (tree_of t).objects xs) (sym is_code) h.fit) in
    let enters : CallsEnter (links_of links) code = subst (λ (z : p.Code). CallsEnter z.links z.instructions) (sym whole) h.enters in
    let passed : IsTrue c.in_ok-passed.passed = c.in_ok-passed.ensures.whole t.model fit (λ n x e. entry-below (length code) c.in_ok-slots.slots links h.ranges n x stand e) enters in
    let short : length (program_code t order) < 18446744073709551616 = subst (λ (xs : List Instruction). length xs < 18446744073709551616) is_code (c.in_ok-passed.ensures.fitting t.model passed).2 in
    let is = c.graphs_where-graphs.result.items in
    let js = c.graphs_where-graphs-2.result.items in
    let first : is ≡ gs = c.graphs_where-graphs.ensures.whole placed in
    let second : js ≡ gs = c.graphs_where-graphs-2.ensures.whole passed ∙ first in
    let cells = c.into_cells-cells.result.items in
    let laid_cells : cells ≡ s.lay.cells = search rules in
    let table : IsTable c.into_terms-terms.result = search rules in
    let started : c.new-words.result.terms.cells ≡ widths_of c.in_ok-layout.layout.cells = search rules in
    let wide : c.into_terms-terms.result.cells ≡ widths_of cells = ap (λ (z : Table). z.cells) same ∙ made.0.extends.0 ∙ started ∙ ap widths_of (sym laid_cells) in
    let both = program-whole t order law h within c.deref-5.result.now s gs c.in_ok-graphs.field-0.exits.items cells c.into_terms-terms.result count follow setting laid_cells short table wide in
    let at = λ (z : List FnFlow) (k : ℕ). flows_of z cells c.into_terms-terms.result c.in_ok-graphs.field-0.exits.items k in
    let moved : ProgramFollows t order (at js m) × AreFlows (at js m) =
    subst (λ (z : List FnFlow). ProgramFollows t order (at z m) × AreFlows (at z m)) (sym second) (subst (λ (k : ℕ). ProgramFollows t order (at gs k) × AreFlows (at gs k)) (sym main_is) both) in
    let answered : c.in_ok-function_graphs_from.field-0 ≡ at js m = c.in_ok-function_graphs_from.ensures.whole moved.1 in
    let functions = (tree_of t).functions in
    let same_functions : (tree_of c.typed-typed.result.now).functions ≡ functions = ap (λ x. (tree_of x).functions) c.typed-typed.ensures.value in
    let number : m ≡ main_or (main_number functions) = c.main_of-main.ensures.value ∙ ap (λ x. main_or (main_number (tree_of x).functions)) c.typed-typed.ensures.value in
    let own_links : links_of links ≡ (p.code_of (tree_of t) order).links = ap (λ (z : p.Code). z.links) whole in
    let first_of : List Range = no_ranges (length (tree_of c.typed-typed.result.now).functions) in
    let first_is : first_of ≡ no_ranges (length functions) = ap (λ x. no_ranges (length (tree_of x).functions)) c.typed-typed.ensures.value in
    let own_ranges : c.deref-7.result.now ≡ ranges_to (length (program_code t order)) (slots_in (program_code t order)) (p.code_of (tree_of t) order).links (no_ranges (length functions)) =
    c.deref-7.ensures.value ∙ c.in_ok-ranges.ensures.made
    ∙ ap (λ (xs : List Instruction). ranges_to (length xs) c.in_ok-slots.slots (links_of links) first_of) is_code
    ∙ ap (λ (k : ℕ). ranges_to (length (program_code t order)) k (links_of links) first_of) slots
    ∙ two (λ ls fs. ranges_to (length (program_code t order)) (slots_in (program_code t order)) ls fs) own_links first_is in
    let none : c.new-words.result.terms.terms ≡ [] = ap (λ (z : Table). z.terms) c.new-words.ensures.terms ∙ c.new-2.ensures.terms in
    let sound : c.new-words.result.is_sound ≡ true = search rules in
    let own_words : c.new-words.result ≡ first_words s = three (λ (cs : List ℕ) (ts : List Term) (b : Bool). words_of (record { cells = cs; terms = ts }) b) started none sound in
    let value = c.in_ok-graphs.ensures.value in
    let some : (gs ≡ []) → ⊥ = (λ e. let none : length gs ≡ 0 = ap length e in omega (arith, none, count, some-function t order h)) in
    let drawn : graphed c.graphs_of.new.words gs c.in_ok-graphs.field-0.exits.items
    ≡ first_graphs c.deref-4.result.now c.deref-5.result.now c.deref-6.result.now c.deref-7.result.now (tree_of c.typed-typed.result.now).functions m s c.new-words.result (length c.deref-7.result.now) =
    elim value [ inl e ↦ absurd (some e) | inr e ↦ e ] in
    answered ∙ ap (λ (z : List FnFlow). at z m) second
    ∙ is-built t order c.deref-4.result.now c.deref-5.result.now c.deref-6.result.now c.deref-7.result.now (tree_of c.typed-typed.result.now).functions m s c.new-words.result c.graphs_of.new.words
    gs c.in_ok-graphs.field-0.exits.items cells c.into_terms-terms.result laid.code laid.numbers laid.owners own_ranges same_functions number setting own_words laid_cells same drawn
