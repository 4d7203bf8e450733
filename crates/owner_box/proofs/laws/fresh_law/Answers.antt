use Rattle.owner_box.proofs.Issued.{started_fits, made_fresh, renewed_fresh, freed_fits, stored_fits, tinted_fits, others_fit}
use Rattle.owner_box.proofs.laws.fresh_law.Goals as goal

pub returns : goal.returns
returns c = record {
  started = started_fits;
  made = made_fresh;
  renewed = renewed_fresh;
  freed = freed_fits;
  stored = stored_fits;
  tinted = tinted_fits;
  others = others_fit;
}
