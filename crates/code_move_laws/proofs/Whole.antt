-- The step, instruction by instruction.
use Rattle.slot_code.specs.declared.flat.Instruction.TheVariants as i
use Rattle.code_move_laws.specs.Steps.{StepsAgree}
use Rattle.code_move_laws.proofs.Plain.{constant, read, convert, negate, complements, turns, truths, binary}
use Rattle.code_move_laws.proofs.Located.{element-step, locate-step, take-step}
use Rattle.code_move_laws.proofs.Objects.{load-step, update-step}
use Rattle.code_move_laws.proofs.Crements.{change-step}
use Rattle.code_move_laws.proofs.Drawing.{draw-step, fill-step}
use Rattle.code_move_laws.proofs.Putting.{store-step, begin-step, bind-step}

pub steps : StepsAgree
steps g inputs (i.Constant slot v) m store laid serves shaped fit plain h = constant g inputs m store laid h slot v fit
steps g inputs (i.Read slot object) m store laid serves shaped fit plain h = read g inputs m store laid h slot object
steps g inputs (i.Element slot at object count) m store laid serves shaped fit plain h = element-step g inputs m store laid h slot at object count fit serves
steps g inputs (i.Locate slot at object count) m store laid serves shaped fit plain h = locate-step g inputs m store laid h slot at object count fit serves
steps g inputs (i.Load slot object) m store laid serves shaped fit plain h = load-step g inputs m store laid h slot object serves
steps g inputs (i.Store slot object) m store laid serves shaped fit plain h = store-step g inputs m store laid h slot object serves
steps g inputs (i.Convert slot k) m store laid serves shaped fit plain h = convert g inputs m store laid h slot k serves
steps g inputs (i.Negate slot k at) m store laid serves shaped fit plain h = negate g inputs m store laid h slot at k fit serves
steps g inputs (i.Complement slot k at) m store laid serves shaped fit plain h = complements g inputs m store laid h slot at k fit serves
steps g inputs (i.Not slot) m store laid serves shaped fit plain h = turns g inputs m store laid h slot serves
steps g inputs (i.Truth slot) m store laid serves shaped fit plain h = truths g inputs m store laid h slot serves
steps g inputs (i.Binary slot o k at) m store laid serves shaped fit plain h = binary g inputs m store laid h slot at o k fit.0 fit.1 serves
steps g inputs (i.Update slot o k l at object) m store laid serves shaped fit plain h = update-step g inputs m store laid h slot at object o k l fit.0 fit.1 fit.2 serves
steps g inputs (i.Change slot before by k at object) m store laid serves shaped fit plain h = change-step g inputs m store laid h slot at object before by k fit serves
steps g inputs (i.Draw slot k) m store laid serves shaped fit plain h = draw-step g inputs m store laid h slot k serves
steps g inputs (i.Fill object k count) m store laid serves shaped fit plain h = fill-step g inputs m store laid h object count k shaped fit
steps g inputs (i.Begin slot object count values) m store laid serves shaped fit plain h = begin-step g inputs m store laid h slot object count values serves shaped
steps g inputs (i.Bind slot object) m store laid serves shaped fit plain h = bind-step g inputs m store laid h slot object serves shaped
steps g inputs (i.Take slot at from needed) m store laid serves shaped fit plain h = take-step g inputs m store laid h slot at from needed serves
steps g inputs (i.Jump skip) m store laid serves shaped fit plain h = absurd plain
steps g inputs (i.Turn at goal) m store laid serves shaped fit plain h = absurd plain
steps g inputs (i.SkipZero slot skip) m store laid serves shaped fit plain h = absurd plain
steps g inputs (i.SkipEqual slot v skip) m store laid serves shaped fit plain h = absurd plain
steps g inputs (i.Call at goal slot) m store laid serves shaped fit plain h = absurd plain
steps g inputs (i.Return slot) m store laid serves shaped fit plain h = absurd plain
steps g inputs (i.Fail kind at) m store laid serves shaped fit plain h = absurd plain
steps g inputs i.Stop m store laid serves shaped fit plain h = absurd plain
