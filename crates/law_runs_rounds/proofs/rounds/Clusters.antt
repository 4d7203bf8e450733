-- Clusters that are the same but for the order in which messages wait: at the begin and at the end of a round, and where none waits.
use Rattle.std.proofs.Common.{◌≡◌, ℕ, suc, ◌&&◌, Bool, true, false, List, [], ◌∷◌, ◌++◌, length, refl, sym, ap, subst, ◌∙◌, append-nil}
use Rattle.law_runs_whole.specs.Below.thread_state.View.{is_over}
use Rattle.law_runs_whole.specs.Below.thread_state.declared.phase.Phase.{Phase}
use Rattle.law_runs_coherent.specs.Below.server_msgs.declared.message.Message.{Message}
use Rattle.law_runs_whole.specs.Below.server_model.Servers.{Sent, Server, Cluster}
use Rattle.law_runs_whole.specs.Below.server_model.Clusters.{with_outbox, outboxes, emptied, hand_over}
use Rattle.law_runs_whole.specs.Below.server_model.Laws.{messages_to, with_waiting}
use Rattle.drive_model.specs.Ending.{is_none, no_message, all_threads, all_in, is_stopped, ending_of, ending, is_going}
use Rattle.law_runs_whole.proofs.Below.coherent_memory.Names.{and_left, and_right}
use Rattle.law_runs_rounds.specs.rounds.Order.{SameItems, with_inbox, IsSameServer, AreSameServers, IsSameCluster}
use Rattle.law_runs_rounds.proofs.rounds.Items.{same_items}
use Rattle.law_runs_rounds.proofs.rounds.Numbered.{AreFrom, all_waiting, all_come, emptied_from, emptied_sent, waiting_sent}
use Rattle.law_runs_rounds.proofs.rounds.Mirrored.{bare}
use Rattle.law_runs_rounds.proofs.rounds.Standing.{Stands, AllStand, same_number}
use Rattle.law_runs_rounds.proofs.rounds.OneRound.{first_none, second_none}

-- ROUNDS

-- before a round nothing is under way
pub begin : (ss zs : List Server) → outboxes ss ≡ [] → AreSameServers ss zs → AllStand [] ss zs
begin [] [] q a = tt
begin (s ∷ ss) (z ∷ zs) q a = (one a.0, begin ss zs (second_none s.rest.outbox (outboxes ss) q) a.1)
  where
    one : IsSameServer s z → Stands [] s z
    one h = record { same = ap bare h.same; sent = ap (λ (x : Server). x.rest.outbox) h.same ∙ first_none s.rest.outbox (outboxes ss) q; waiting = subst (λ l. SameItems l z.rest.inbox) (sym (append-nil s.rest.inbox)) h.waiting }
begin [] (z ∷ zs) q a = absurd a
begin (s ∷ ss) [] q a = absurd a

-- and after it all that was comes
pub finish : (xs : List Sent) (ss zs : List Server) → AllStand xs ss zs → AreSameServers (all_waiting xs (emptied ss)) zs
finish xs [] [] a = tt
finish xs (s ∷ ss) (z ∷ zs) a = (one a.0, finish xs ss zs a.1)
  where
    one : Stands xs s z → IsSameServer (with_waiting (messages_to s.rest.number xs) (with_outbox [] s)) z
    one h = record {
      same = ap (λ l. record z { rest = record z.rest { outbox = l } }) h.sent ∙ ap (λ (b : Server). record b { rest = record b.rest { inbox = z.rest.inbox } }) h.same;
      waiting = h.waiting;
    }
finish xs [] (z ∷ zs) a = absurd a
finish xs (s ∷ ss) [] a = absurd a

pub numbered_too : (xs : List Sent) (n : ℕ) (ss zs : List Server) → AllStand xs ss zs → AreFrom n zs → AreFrom n ss
numbered_too xs n [] [] a f = tt
numbered_too xs n (s ∷ ss) (z ∷ zs) a f = (sym (same_number s z a.0.same) ∙ f.0, numbered_too xs (suc n) ss zs a.1 f.1)
numbered_too xs n [] (z ∷ zs) a f = absurd a
numbered_too xs n (s ∷ ss) [] a f = absurd a

pub handed : (k : Cluster) → AreFrom 0 k.servers → hand_over k ≡ record k { servers = all_waiting (outboxes k.servers) (emptied k.servers) }
handed k f = ap (λ l. record k { servers = l }) (all_come 0 (outboxes k.servers) (emptied k.servers) (emptied_from 0 k.servers f))

pub handed_sent : (xs : List Sent) (ss : List Server) → outboxes (all_waiting xs (emptied ss)) ≡ []
handed_sent xs ss = waiting_sent xs (emptied ss) ∙ emptied_sent ss

pub handed_length : (xs : List Sent) (ss : List Server) → length (all_waiting xs (emptied ss)) ≡ length ss
handed_length xs [] = refl
handed_length xs (s ∷ ss) = ap suc (handed_length xs ss)

pub servers_themselves : (ss : List Server) → AreSameServers ss ss
servers_themselves [] = tt
servers_themselves (s ∷ ss) = (record { same = refl; waiting = same_items s.rest.inbox }, servers_themselves ss)

-- OUTBOXES

pub sent_too : (ss zs : List Server) → AreSameServers ss zs → outboxes zs ≡ outboxes ss
sent_too [] [] a = refl
sent_too (s ∷ ss) (z ∷ zs) a = ap (λ (x : Server). x.rest.outbox ++ outboxes zs) a.0.same ∙ ap (λ l. s.rest.outbox ++ l) (sent_too ss zs a.1)
sent_too [] (z ∷ zs) a = absurd a
sent_too (s ∷ ss) [] a = absurd a

-- ENDINGS

none_too : (xs ys : List Message) → SameItems xs ys → is_none ys ≡ is_none xs
none_too [] ys s = ap is_none s
none_too (x ∷ xs) [] s = let h = s.1 in absurd (cc h)
none_too (x ∷ xs) (y ∷ ys) s = refl

quiet_too : (ss zs : List Server) → AreSameServers ss zs → no_message zs ≡ no_message ss
quiet_too [] [] a = refl
quiet_too (s ∷ ss) (z ∷ zs) a =
    ap (λ b. b && is_none z.rest.outbox && no_message zs) (none_too s.rest.inbox z.rest.inbox a.0.waiting) ∙ ap (λ (x : Server). is_none s.rest.inbox && is_none x.rest.outbox && no_message zs) a.0.same
    ∙ ap (λ b. is_none s.rest.inbox && is_none s.rest.outbox && b) (quiet_too ss zs a.1)
quiet_too [] (z ∷ zs) a = absurd a
quiet_too (s ∷ ss) [] a = absurd a

threads_too : (f : Phase → Bool) (ss zs : List Server) → AreSameServers ss zs → all_in f zs ≡ all_in f ss
threads_too f [] [] a = refl
threads_too f (s ∷ ss) (z ∷ zs) a = ap (λ (x : Server). all_threads f x.threads && all_in f zs) a.0.same ∙ ap (λ b. all_threads f s.threads && b) (threads_too f ss zs a.1)
threads_too f [] (z ∷ zs) a = absurd a
threads_too f (s ∷ ss) [] a = absurd a

pub same_ending : (k c : Cluster) → IsSameCluster k c → ending c ≡ ending k
same_ending k c h =
    ap (λ b. ending_of b (all_in is_over c.servers) (all_in is_stopped c.servers)) (quiet_too k.servers c.servers h.servers)
    ∙ ap (λ b. ending_of (no_message k.servers) b (all_in is_stopped c.servers)) (threads_too is_over k.servers c.servers h.servers)
    ∙ ap (λ b. ending_of (no_message k.servers) (all_in is_over k.servers) b) (threads_too is_stopped k.servers c.servers h.servers)

-- a cluster that isn't going has no message
pub ended_quiet : (k : Cluster) → is_going (ending k) ≡ false → no_message k.servers ≡ true
ended_quiet k e = by (no_message k.servers) refl e
  where
    by : (b : Bool) → no_message k.servers ≡ b → is_going (ending_of b (all_in is_over k.servers) (all_in is_stopped k.servers)) ≡ false → no_message k.servers ≡ true
    by true q g = q
    by false q g = absurd (cc g)

no_item : {X : Type 0} (xs : List X) → is_none xs ≡ true → xs ≡ []
no_item [] e = refl
no_item (x ∷ xs) e = absurd (cc e)

-- where none waits there is one order
pub one_order : (ss zs : List Server) → no_message ss ≡ true → AreSameServers ss zs → zs ≡ ss
one_order [] [] q a = refl
one_order (s ∷ ss) (z ∷ zs) q a =
    let first = and_left (is_none s.rest.inbox && is_none s.rest.outbox) (no_message ss) q in
    let inbox : s.rest.inbox ≡ [] = no_item s.rest.inbox (and_left (is_none s.rest.inbox) (is_none s.rest.outbox) first) in
    let none : SameItems [] z.rest.inbox = subst (λ l. SameItems l z.rest.inbox) inbox a.0.waiting in
    let same : z ≡ s = a.0.same ∙ ap (λ l. with_inbox l s) (none ∙ sym inbox) in
    ap (λ x. x ∷ zs) same ∙ ap (λ l. s ∷ l) (one_order ss zs (and_right (is_none s.rest.inbox && is_none s.rest.outbox) (no_message ss) q) a.1)
one_order [] (z ∷ zs) q a = absurd a
one_order (s ∷ ss) [] q a = absurd a
