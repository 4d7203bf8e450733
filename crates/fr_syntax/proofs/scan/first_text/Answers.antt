use Rattle.fr_syntax.proofs.TokenLemmas.{ascii_front}
use Rattle.fr_syntax.proofs.scan.first_text.Goals as goal

pub returns-clause-ascii : goal.returns-clause-ascii
returns-clause-ascii c = ascii_front _ c.split_at.result.0.now c.text_len.result c.split_at.ensures.front c.text_len.ensures.value
