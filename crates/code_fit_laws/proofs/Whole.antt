-- The code of a typed program passes all tests.
use Rattle.std.proofs.Common.{◌≡◌, ℕ, List, length, None, Some, subst}
use Rattle.c_typed.specs.Parts.{Parts, tree_of}
use Rattle.slot_code.specs.declared.flat.Instruction.{Instruction}
use Rattle.slot_code.specs.Slots.{slots_in}
use Rattle.slot_code.specs.Values.{Link}
use Rattle.code_layout.specs.Layout.{slot_cell}
use Rattle.cfg_build.specs.Graphs.{program_code, program_setting}
use Rattle.code_back_laws.proofs.Unread.{returns-are-unread}
use Rattle.code_fit_laws.specs.Ranges.{Range, links_of, IsRangeOf, IsAt, program_ranges, function_at}
use Rattle.cfg_build.specs.Ranges.{ProgramRanges}
use Rattle.slot_code.specs.declared.flat.Instruction.TheVariants as i
use Rattle.code_fit_laws.specs.Fit.{CodeIsFit, CallsAreEntries, CodeKeeps, CallsBegin, RangesAreThere, RangesAreOf, TypedCodePasses}
use Rattle.code_fit_laws.proofs.Fitting.{code_fits}
use Rattle.code_fit_laws.proofs.Calling.{calls_enter}
use Rattle.code_fit_laws.proofs.Standing.{AllStand, all_stand, kept_in}
use Rattle.code_fit_laws.proofs.Beginning.{function_there, link_there, callee_in}
use Rattle.code_fit_laws.proofs.Numbering.{ranges_length, ranges_there, ranges_of_links, all_linked}
use Rattle.code_fit_laws.proofs.Mains.{main_there}

pub code_is_fit : CodeIsFit
code_is_fit t order typed = code_fits (tree_of t) order typed

pub calls_are_entries : CallsAreEntries
calls_are_entries t order = calls_enter (tree_of t) order

module _ (t : Parts) (order : List ℕ) where
  abbrev code : List Instruction
  code = program_code t order

  abbrev links : List Link
  links = links_of t order

  stand : AllStand code (length code) (slots_in code) links
  stand = all_stand (tree_of t) order

pub code_keeps : CodeKeeps
code_keeps t order r place x is at = kept_in (code t order) (length (code t order)) (slots_in (code t order)) (links t order) r place x (stand t order) is at

pub calls_begin : CallsBegin
calls_begin t order ranges r place at goal slot a is there =
    let xs : List Instruction = program_code t order in
    let ls : List Link = links_of t order in
    let k = callee_in xs ranges (length xs) (slots_in xs) ls r place at goal slot (stand t order) a is there in
    record {
      function = k.link.function;
      there = subst (λ (p : ℕ). function_at p ls ≡ Some k.link.function) k.entry (function_there xs ranges (length xs) (slots_in xs) ls k.link (stand t order) k.among);
      begins = k.begins;
      unread =
          subst (λ (s : ℕ). slot_cell (program_setting t order).lay s ≡ None) k.by
          (returns-are-unread t order k.link.function k.link (link_there xs ranges (length xs) (slots_in xs) ls k.link (stand t order) a k.among));
    }

pub ranges_are_there : RangesAreThere
ranges_are_there t order ordered = (ranges_there (tree_of t) order ordered (stand t order), ranges_length (tree_of t) order ordered, all_linked (tree_of t) order ordered)

pub ranges_are_of : RangesAreOf
ranges_are_of t order number r ordered e = ranges_of_links (tree_of t) order ordered (stand t order) number r e

pub typed_code_passes : TypedCodePasses
typed_code_passes t order typed ordered =
    let there = ranges_are_there t order ordered in
    let m = main_there (tree_of t).functions typed.main in
    record {
      ranges = program_ranges t order;
      many = there.1;
      stand = there.0;
      linked = there.2;
      main = m.0;
      is_main = m.1;
      fit = code_is_fit t order typed;
      enters = calls_are_entries t order;
      keep = λ number place r x e from to stands. code_keeps t order r place x (ranges_are_of t order number r ordered e) (record { from = from; to = to; there = stands });
      call = λ number place at goal slot r e from to stands.
          let is = ranges_are_of t order number r ordered e in
          let b = calls_begin t order (program_ranges t order) r place at goal slot there.0 is (record { from = from; to = to; there = stands }) in
          (b.function, b.begins, b.unread);
    }
