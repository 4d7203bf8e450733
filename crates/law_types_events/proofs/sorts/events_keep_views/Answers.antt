use Rattle.law_types_events.proofs.sorts.events_keep_views.Goals as goal
use Rattle.law_types_events.proofs.sorts.Views.{events_keep_views}

pub returns : goal.returns
returns c = events_keep_views
