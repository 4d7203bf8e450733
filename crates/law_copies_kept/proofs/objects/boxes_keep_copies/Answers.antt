use Rattle.law_copies_kept.proofs.objects.boxes_keep_copies.Goals as goal
use Rattle.law_copies_kept.proofs.objects.Boxes.{boxes_keep}

pub returns : goal.returns
returns c = boxes_keep
