use Rattle.std.proofs.Common.{sym, ◌∙◌}
use Rattle.read_cache.proofs.AgeLemmas.{oldest_is, none_unused}
use Rattle.read_cache.proofs.SlotLemmas.{oldest_goes}
use Rattle.read_cache.proofs.cache.Cache.oldest_unused.Goals as goal

pub returns-in_default-clause-word : goal.returns-in_default-clause-word
returns-in_default-clause-word c = rw (← c.self.view_is) (sym (none_unused c.self.invariant.0 c.in_default.ensures))

pub returns-in-Some-get-clause-word : goal.returns-in-Some-get-clause-word
returns-in-Some-get-clause-word c = rw (← c.self.view_is) (c.in-Some-get.ensures ∙ sym (oldest_is c.self.invariant.0 c.in-Some.age c.in-Some.ensures))

pub returns-in-Some-get-clause-unused : goal.returns-in-Some-get-clause-unused
returns-in-Some-get-clause-unused c =
    rw (← c.self.view_is)
    (oldest_goes c.self.inside.slots.entries c.len-len.ensures.unique c.in-Some-get.word.now (oldest_is c.self.invariant.0 c.in-Some.age c.in-Some.ensures ∙ sym c.in-Some-get.ensures))

pub returns-in-None-clause-word : goal.returns-in-None-clause-word
returns-in-None-clause-word c = rw (← c.self.view_is) (c.in-None.ensures ∙ sym (oldest_is c.self.invariant.0 c.in-Some.age c.in-Some.ensures))
