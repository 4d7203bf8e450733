-- One event of a server in a round, in front of the messages that others sent in it, is the same event of a run, whose messages are handed over at once.
use Rattle.std.proofs.Common.{◌≡◌, ℕ, if◌then◌else◌, List, [], ◌∷◌, ◌++◌, length, Option, Some, None, IsSome, refl, sym, ap, subst, ◌∙◌, append_assoc}
use Rattle.std.specs.Prelude.{⊤, option_map, take, drop}
use Rattle.law_runs_whole.specs.Below.fr_base.declared.instruction.Instr.{Instr}
use Rattle.law_runs_whole.specs.Below.fr_base.declared.settings.Options.{Options}
use Rattle.law_runs_coherent.specs.Below.server_msgs.declared.message.Message.{Message}
use Rattle.law_runs_whole.specs.Below.journal.View.{EntryView}
use Rattle.law_runs_whole.specs.Below.server_model.declared.event.Event.{Event}
use Rattle.law_runs_whole.specs.Below.server_model.declared.event.What.{What}
use Rattle.law_runs_whole.specs.Below.server_model.Servers.{Sent, Server, Cluster}
use Rattle.law_runs_whole.specs.Below.server_model.Work.{then_some}
use Rattle.law_runs_whole.specs.Below.server_model.Events.{does}
use Rattle.law_runs_whole.specs.Below.server_model.Clusters.{with_server, accept_all, with_outbox, hand_over_newer, done_at, apply}
use Rattle.law_runs_whole.specs.Below.server_model.Laws.{messages_to, with_waiting}
use Rattle.law_runs_rounds.specs.rounds.Order.{SameItems}
use Rattle.law_runs_rounds.specs.rounds.Choosing.{IsChosen}
use Rattle.law_runs_rounds.proofs.rounds.Items.{grown, come_between}
use Rattle.law_runs_rounds.proofs.rounds.BehindEvents.{done_behind}
use Rattle.law_runs_rounds.proofs.rounds.Numbered.{AreFrom, found_there, changed_there, number_kept, all_waiting, waiting_append, to_more, all_come}
use Rattle.law_runs_rounds.proofs.rounds.Mirrored.{bare, Mirrored}

-- a server of the run of events stands for one in a round, where those messages of the round are under way: it has its own messages, and those that go to it
pub record Stands (xs : List Sent) (s z : Server) : Type 0 where
  pub same : bare z ≡ bare s
  pub sent : z.rest.outbox ≡ []
  pub waiting : SameItems (s.rest.inbox ++ messages_to s.rest.number xs) z.rest.inbox

abbrev pub AllStand : List Sent → List Server → List Server → Type 0
AllStand xs [] [] = ⊤
AllStand xs (s ∷ ss) (z ∷ zs) = Stands xs s z × AllStand xs ss zs
AllStand xs ss zs = ⊥

pub same_number : (s z : Server) → bare z ≡ bare s → z.rest.number ≡ s.rest.number
same_number s z e = ap (λ (x : Server). x.rest.number) e

-- MORE MESSAGES OF THE ROUND

more_wait : (xs ys : List Sent) (n : ℕ) (inbox ms : List Message) → SameItems (inbox ++ messages_to n xs) ms → SameItems (inbox ++ messages_to n (xs ++ ys)) (ms ++ messages_to n ys)
more_wait xs ys n inbox ms w =
    subst (λ l. SameItems l (ms ++ messages_to n ys)) (append_assoc inbox (messages_to n xs) (messages_to n ys) ∙ ap (λ l. inbox ++ l) (sym (to_more n xs ys))) (grown (inbox ++ messages_to n xs) ms (messages_to n ys) w)

pub one_stands : (xs ys : List Sent) (s z : Server) → Stands xs s z → Stands (xs ++ ys) s (with_waiting (messages_to z.rest.number ys) z)
one_stands xs ys s z h = record {
  same = h.same;
  sent = h.sent;
  waiting = subst (λ n. SameItems (s.rest.inbox ++ messages_to s.rest.number (xs ++ ys)) (z.rest.inbox ++ messages_to n ys)) (sym (same_number s z h.same)) (more_wait xs ys s.rest.number s.rest.inbox z.rest.inbox h.waiting);
}

pub all_stand : (xs ys : List Sent) (ss zs : List Server) → AllStand xs ss zs → AllStand (xs ++ ys) ss (all_waiting ys zs)
all_stand xs ys [] [] a = tt
all_stand xs ys (s ∷ ss) (z ∷ zs) a = (one_stands xs ys s z a.0, all_stand xs ys ss zs a.1)
all_stand xs ys [] (z ∷ zs) a = absurd a
all_stand xs ys (s ∷ ss) [] a = absurd a

-- THE EVENT

module _ (code : List Instr) (o : Options) where
  abbrev pub cluster : List Server → Cluster
  cluster zs = record { code = code; options = o; servers = zs }

  pub record One (xs : List Sent) (front back : List Server) (s z : Server) (w : What) : Type 0 where
    pub event : Event
    pub at : event.server ≡ z.rest.number
    pub chosen : IsChosen o s w → IsChosen o z event.what
    pub new : Server
    pub entry : EntryView
    pub done : does code o s w ≡ Some (new, entry)
    pub more : List Sent
    pub sent : new.rest.outbox ≡ s.rest.outbox ++ more
    pub mine : Server
    pub applied : apply (cluster (front ++ z ∷ back)) event ≡ Some (cluster (all_waiting more front ++ mine ∷ all_waiting more back), entry)
    pub stands : Stands (xs ++ more) new mine

  is_some : {X : Type 0} (x : Option X) → IsSome x → (a : X) × (x ≡ Some a)
  is_some None h = absurd (cc h)
  is_some (Some a) h = (a, refl)

  module _ (numbers : (s new : Server) (e : EntryView) (w : What) → does code o s w ≡ Some (new, e) → new.rest.number ≡ s.rest.number) where
    module _ (xs : List Sent) (front back : List Server) (s z : Server) (from : AreFrom 0 (front ++ z ∷ back)) (stands : Stands xs s z) (w : What) (m : Mirrored code o (messages_to s.rest.number xs) s z w) where
      abbrev ev : Event
      ev = record { server = z.rest.number; what = m.what }

      -- what applying the event comes to
      comes_to : apply (cluster (front ++ z ∷ back)) ev
          ≡ option_map (λ d. (cluster (hand_over_newer z.rest.number (length z.rest.outbox) d.0 (front ++ z ∷ back)), d.1)) (option_map (done_behind m.there z.rest.outbox) m.made)
      comes_to =
          ap (λ y. then_some y (λ x. option_map (λ d. (cluster (hand_over_newer z.rest.number (length x.rest.outbox) d.0 (front ++ z ∷ back)), d.1)) (done_at (cluster (front ++ z ∷ back)) m.what x))) (found_there 0 front z back from)
          ∙ ap (λ b. option_map (λ d. (cluster (hand_over_newer z.rest.number (length z.rest.outbox) d.0 (front ++ z ∷ back)), d.1)) (if b then does code o z m.what else None)) m.on
          ∙ ap (option_map (λ d. (cluster (hand_over_newer z.rest.number (length z.rest.outbox) d.0 (front ++ z ∷ back)), d.1))) m.does_there

      both : (made : Option (Server × EntryView)) → m.made ≡ made → IsSome (apply (cluster (front ++ z ∷ back)) ev) → One xs front back s z w
      both None e h = let none = comes_to ∙ ap (λ y. option_map (λ d. (cluster (hand_over_newer z.rest.number (length z.rest.outbox) d.0 (front ++ z ∷ back)), d.1)) (option_map (done_behind m.there z.rest.outbox) y)) e in let some = is_some _ h in absurd (cc (none, some.1))
      both (Some b) e h =
          let more = b.0.rest.outbox in
          let old = front ++ z ∷ back in
          let new = (done_behind m.here s.rest.outbox b).0 in
          let there = (done_behind m.there z.rest.outbox b).0 in
          let kept = with_outbox [] there in
          let mine = with_waiting (messages_to kept.rest.number more) kept in
          let here_is : does code o s w ≡ Some (done_behind m.here s.rest.outbox b) = m.does_here ∙ ap (option_map (done_behind m.here s.rest.outbox)) e in
          let there_is : does code o z m.what ≡ Some (done_behind m.there z.rest.outbox b) = m.does_there ∙ ap (option_map (done_behind m.there z.rest.outbox)) e in
          let same : there.rest.number ≡ z.rest.number = numbers z there b.1 m.what there_is in
          let come : hand_over_newer z.rest.number (length z.rest.outbox) there old ≡ all_waiting more front ++ mine ∷ all_waiting more back =
          ap (λ l. accept_all (with_server old z.rest.number (with_outbox (take (length l) (l ++ more)) there)) (drop (length l) (l ++ more))) stands.sent
          ∙ ap (λ l. accept_all l more) (changed_there 0 front z back kept from)
          ∙ all_come 0 more (front ++ kept ∷ back) (number_kept 0 front z kept back same from)
          ∙ waiting_append more front (kept ∷ back) in
          record {
            event = ev;
            at = refl;
            chosen = m.chosen;
            new = new;
            entry = b.1;
            done = here_is;
            more = more;
            sent = refl;
            mine = mine;
            applied = comes_to ∙ ap (λ y. option_map (λ d. (cluster (hand_over_newer z.rest.number (length z.rest.outbox) d.0 old), d.1)) (option_map (done_behind m.there z.rest.outbox) y)) e ∙ ap (λ l. Some (cluster l, b.1)) come;
            stands = one_stands xs more new kept (record {
              same = refl;
              sent = refl;
              waiting = subst (λ n. SameItems ((m.here ++ b.0.rest.inbox) ++ messages_to n xs) (m.there ++ b.0.rest.inbox)) (sym (numbers s new b.1 w here_is)) (come_between m.here (messages_to s.rest.number xs) m.there b.0.rest.inbox m.waiting);
            });
          }

      pub one : IsSome (apply (cluster (front ++ z ∷ back)) ev) → One xs front back s z w
      one h = both m.made refl h
