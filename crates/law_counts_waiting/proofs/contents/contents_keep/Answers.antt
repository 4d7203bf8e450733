use Rattle.law_counts_waiting.proofs.contents.contents_keep.Goals as goal
use Rattle.law_counts_waiting.proofs.contents.Contents.{each_leaves, sentence_kept}

pub returns : goal.returns
returns c = record { sums = each_leaves; one_content = sentence_kept }
