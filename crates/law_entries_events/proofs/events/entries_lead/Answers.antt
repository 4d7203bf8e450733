use Rattle.law_entries_events.proofs.events.entries_lead.Goals as goal
use Rattle.law_entries_events.proofs.events.Events.{each_leads}

pub returns : goal.returns
returns c = each_leads c.objects_come_legally.ensures.legal
