use Rattle.fault_examples.proofs.Evaluated as rows
use Rattle.fault_examples.proofs.broken_lines.Goals as goal

pub returns : goal.returns
returns c = record {
  no_main = rows.no_main;
  unknown_name = rows.unknown_name;
  declared_twice = rows.declared_twice;
  no_body = rows.no_body;
  length_zero = rows.length_zero;
  no_label = rows.no_label;
  into_scope = rows.into_scope;
  const_written = rows.const_written;
  break_alone = rows.break_alone;
  unsequenced = rows.unsequenced;
  recursion = rows.recursion;
}
