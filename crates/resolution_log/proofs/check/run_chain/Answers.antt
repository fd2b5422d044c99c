use Rattle.std.proofs.Common.{rules, ◌≡◌, ◌∙◌, sym, ap, arith, ℕ, ◌+◌, ◌*◌, ◌++◌, ◌<◌, length, List, true, false, refl, Some, None, subst, []}
use Rattle.prop.specs.declared.Lit.{Lit}
use Rattle.resolution_log.specs.Chains.{chain_from, chain_result}
use Rattle.resolution_log.specs.Codes.{AreRows, AllBelow}
use Rattle.resolution_log.specs.Marks.{Sofar}
use Rattle.resolution_log.proofs.RowLaws.{row_below, first_past, if_ok_to, chain_loaded}
use Rattle.resolution_log.proofs.MarkLaws.{load}
use Rattle.resolution_log.proofs.check.run_chain.Goals as goal

pub returns-then-first-len : goal.returns-then-first-len
returns-then-first-len c cs a pos most = first_past c.args.vars.now c.args.rows.now cs c.args.chain.now a (omega (arith, c.len.ensures, c.if-first-len.true))

pub mark_row-requires : goal.mark_row-requires
mark_row-requires c = row_below (length c.args.stamps.now) c.args.rows.now c.args.chain.now.first c.row.result.now c.requires.rows c.row.ensures

pub returns : goal.returns
returns c = if_ok_to _ _ (λ ok f cs a pos most. chain_loaded c.args.vars.now c.args.epoch c.args.stamps.now c.mark_row.new.stamps c.clear.new.self.items c.row.result.now [] c.args.rows.now cs c.args.chain.now c.mark_row.new.members.items ok c.run_pairs.new.stamps c.run_pairs.new.members.items c.as_slice.result.now c.requires.few c.requires.size c.clear.ensures.items c.row.ensures c.in_ok-mark_row.ensures.stamps c.in_ok-mark_row.ensures.members c.as_slice.ensures f a pos most) c.run_pairs.result c.run_pairs.ensures
