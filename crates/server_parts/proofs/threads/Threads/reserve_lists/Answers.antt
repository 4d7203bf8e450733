use Rattle.std.proofs.Common.{OnOk, sym, subst, ap, ◌∙◌}
use Rattle.server_model.specs.Work.{thread_in, with_thread}
use Rattle.server_parts.specs.Sites.{HasItems}
use Rattle.server_parts.specs.Threads.{states}
use Rattle.server_parts.proofs.RoomLemmas.{lists_grown, put_item, set_same}
use Rattle.server_parts.proofs.threads.Threads.reserve_lists.Goals as goal

pub returns-clause-grown : goal.returns-clause-grown
returns-clause-grown c =
    let t = c.take-taken.result.state in
    let there = ap (thread_in (states c.args.self.now)) c.take-taken.ensures.number ∙ c.take-taken.ensures.thread in
    lists_grown
    (record {
      roomier = record { there = c.take-taken.ensures.item; state = c.reserve-reserved.ensures.state; room = c.reserve-reserved.ensures.spare };
      number = ap (λ s. s.number) c.reserve-reserved.ensures.state ∙ c.take-taken.ensures.number;
      taken = c.take-taken.ensures.places;
      put = c.insert.ensures.places;
    })
    (c.insert.ensures.state ∙ ap (with_thread (states c.take-taken.new.self)) c.reserve-reserved.ensures.state ∙ c.take-taken.ensures.back t c.take-taken.ensures.number ∙ set_same (states c.args.self.now) t there)

pub returns-clause-room : goal.returns-clause-room
returns-clause-room c =
    subst (λ o. OnOk c.reserve-reserved.result (HasItems c.args.n o))
    (sym
    (put_item
    (record {
      roomier = record { there = c.take-taken.ensures.item; state = c.reserve-reserved.ensures.state; room = c.reserve-reserved.ensures.spare };
      number = ap (λ s. s.number) c.reserve-reserved.ensures.state ∙ c.take-taken.ensures.number;
      taken = c.take-taken.ensures.places;
      put = c.insert.ensures.places;
    })))
    c.reserve-reserved.ensures.room
