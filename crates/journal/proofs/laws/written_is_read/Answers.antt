use Rattle.std.proofs.Common.{◌∙◌, ap}
use Rattle.journal.specs.OrderText.{steps_of}
use Rattle.journal.proofs.OneReading.{one_lines, never_both}
use Rattle.journal.proofs.WritingLemmas.{one_text}
use Rattle.journal.proofs.laws.written_is_read.Goals as goal

pub returns : goal.returns
returns c = record {
  spelled = λ steps bytes ls h read. ap steps_of (one_lines 0 bytes ls h.lines read h.text) ∙ h.spelled;
  never_refused = λ steps bytes place h. never_both 0 bytes h.lines place h.text;
  one_text = one_text;
}
