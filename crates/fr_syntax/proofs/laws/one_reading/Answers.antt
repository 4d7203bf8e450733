use Rattle.fr_syntax.proofs.OneReading.{one_tokens, one_names, one_refusal, never_both}
use Rattle.fr_syntax.proofs.laws.one_reading.Goals as goal

pub returns : goal.returns
returns c = record { tokens = one_tokens; names = one_names; refusal = one_refusal; never_both = never_both }
