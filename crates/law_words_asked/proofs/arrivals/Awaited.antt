-- What comes to a thread is what it waits for in turn: it waits for one answer, and its message asks for that.
use Rattle.std.proofs.Common.{◌≡◌, ◌≤◌, ◌==◌, ◌&&◌, true, false, refl, sym, subst, arith}
use Rattle.law_results_events.specs.Below.server_msgs.declared.message.Message.TheVariants as message
use Rattle.law_results_events.specs.Below.coherent_memory.Names.{tot, same_object}
use Rattle.law_results_events.specs.Below.coherent_memory.Things.{sent, things_of}
use Rattle.law_results_events.specs.Below.coherent_memory.Follow.{Standing}
use Rattle.law_results_events.specs.Below.coherent_memory.Sight.{sight}
use Rattle.law_results_events.specs.Below.coherent_memory.Walking.{asked_for, asks_for}
use Rattle.law_results_events.proofs.Below.coherent_memory.Names.{and_left, and_right}
use Rattle.law_results_events.proofs.Below.coherent_memory.Words.{named, itself}
use Rattle.law_results_events.proofs.Below.law_counts_sums.MutexResults.{has}
use Rattle.law_results_events.proofs.Below.law_counts_sums.ThreadThere.{thread_there}
use Rattle.law_results_events.proofs.Below.law_words_paths.paths.Contained.{among_thread}
use Rattle.law_words_asked.specs.arrivals.Awaited.{ArrivalsAwaited}
use Rattle.law_results_events.proofs.Below.law_results_reads.Alone.{strays, all_less, needed_less, is_asked}

pub arrivals_awaited : ArrivalsAwaited
arrivals_awaited k number i old t s c y sound here q at waiting =
    let x : Standing = record { server = s.rest.number; packed = false; thread = y } in
    let among = among_thread (sight k).ground.threads t x (thread_there k sound number s here t y at) in
    let turn = sound.walks.wait_in_turn x old among.0 waiting in
    let a = turn.awaited in
    let m = message.Moved old c t in
    let asked : 1 ≤ tot (asked_for t a) (things_of k) = subst (λ n. 1 ≤ tot (asked_for n a) (things_of k)) among.1 turn.asked in
    let none : tot (strays t a c.object) (things_of k) ≡ 0 = omega (arith, asked, all_less t a c.object (things_of k), sound.requests.one_answer t, needed_less t a c.object (things_of k), sound.names.numbers_differ t) in
    let its : strays t a c.object (sent s.rest.number m) ≡ 0 = omega (arith, none, has k sound number s here i m q (strays t a c.object)) in
    let asks : asks_for t a m ≡ true = is_asked t (same_object c.object c.object) (asks_for t a m) (itself c.object c.object refl) its in
    let brings : (a.word == old && same_object c.object a.object) ≡ true = and_right (t == t && a.comes) (a.word == old && same_object c.object a.object) asks in
    let mine : (t == t && a.comes) ≡ true = and_left (t == t && a.comes) (a.word == old && same_object c.object a.object) asks in
    record {
      awaited = a;
      turn = turn.turn;
      word = turn.word;
      object = sym (named c.object a.object (and_right (a.word == old) (same_object c.object a.object) brings));
      comes = and_right (t == t) a.comes mine;
    }
