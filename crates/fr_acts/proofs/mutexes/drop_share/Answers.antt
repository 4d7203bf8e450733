use Rattle.std.proofs.Common.{Some, None, sym, ap, ◌∙◌}
use Rattle.fr_plain.specs.Heap.{dropped, live, last_link}
use Rattle.fr_plain.specs.Threads.{release_by}
use Rattle.fr_shared.specs.Shares.{changed, one_less}
use Rattle.fr_acts.specs.MutexActs.{part, whole_in, last_of}
use Rattle.fr_acts.proofs.ReleaseLemmas.{last_same, share_goes}
use Rattle.fr_acts.proofs.mutexes.drop_share.Goals as goal

pub returns-in-Some-clause-goes : goal.returns-in-Some-clause-goes
returns-in-Some-clause-goes c = λ x slots k. (
    let h = c.args.heap.now.heap in
    let v = c.in-Some.content in
    let ms = changed c.args.mutexes.now.mutexes c.args.mutex one_less in
    share_goes k x slots h c.args.mutexes.now.mutexes c.args.mutex (Some v) (sym c.in-Some.is ∙ c.drop_share.ensures.content)
    ∙ sym (last_same k (whole_in x (part slots (dropped h v) ms)) (last_link (live h) h v))
    ∙ ap (λ u. release_by k (whole_in x (part slots (dropped h v) ms)) (last_of u)) (sym c.drop_plain.ensures.released)
    ∙ ap (λ g. release_by k (whole_in x (part slots g ms)) (last_of c.drop_plain.result)) (sym c.drop_plain.ensures.heap)
    ∙ ap (λ ns. release_by k (whole_in x (part slots c.drop_plain.new.self.heap ns)) (last_of c.drop_plain.result)) (sym c.drop_share.ensures.mutexes))

pub returns-in-None-clause-goes : goal.returns-in-None-clause-goes
returns-in-None-clause-goes c = λ x slots k. (
    let h = c.args.heap.now.heap in
    share_goes k x slots h c.args.mutexes.now.mutexes c.args.mutex None (sym c.in-None.is ∙ c.drop_share.ensures.content)
    ∙ ap (λ ns. whole_in x (part slots h ns)) (sym c.drop_share.ensures.mutexes))
