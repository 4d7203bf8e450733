-- What an event has sent so far, beside the acts that it has noted so far.
use Rattle.std.proofs.Common.{◌≡◌, ℕ, ◌==◌, Bool, true, false, not, if◌then◌else◌, List, [], ◌∷◌, ◌++◌, Option, Some, None, refl, sym, ap, subst, ◌∙◌, append-nil, append_assoc, arith}
use Rattle.std.specs.Prelude.{map, filter}
use Rattle.std.proofs.lemmas.List.{map-append}
use Rattle.std.proofs.lemmas.List.Elements.{filter-append, filter_map-append}
use Rattle.law_counts_things.specs.Below.journal.declared.act.Act.{Act}
use Rattle.law_counts_things.specs.Below.journal.declared.act.Act.TheVariants as act
use Rattle.law_counts_things.specs.Below.coloured_heap.Sends.{Sending, sends, sendings, leaves}
use Rattle.law_counts_things.specs.Below.server_msgs.Messages.{kind_of}
use Rattle.law_counts_things.specs.Below.server_msgs.declared.message.Message.{Message}
use Rattle.law_counts_things.specs.Below.server_model.Servers.{Sent, Rest}
use Rattle.law_counts_things.specs.Below.server_model.Work.{Work, sent_from, is_hop, without_hops}
use Rattle.law_counts_things.specs.Below.coherent_memory.Appended.{sending_of, sending_out, stays}
use Rattle.law_counts_things.specs.Below.coherent_memory.Names.{tot}
use Rattle.law_counts_things.proofs.Below.coherent_memory.Names.{same_number}
use Rattle.law_counts_things.proofs.Below.coherent_memory.Sums.{tot-append}

-- an eviction
abbrev pub evicts : Act → ℕ
evicts (act.Evict w) = 1
evicts _ = 0

-- since that rest of the server: messages that came to its own list and to its outbox, which are those of the acts; and no copy was evicted
pub record Sends (r : Rest) (number : ℕ) (inbox : List Message) (outbox : List Sent) (acts : List Act) : Type 0 where
  pub same : number ≡ r.number
  pub own : List Message
  pub others : List Sent
  pub waiting : inbox ≡ r.inbox ++ own
  pub outbox_is : outbox ≡ r.outbox ++ others
  pub own_sendings : map (sending_of r.number) own ≡ filter (stays r.number) (sendings acts)
  pub other_sendings : map sending_out others ≡ filter (leaves r.number) (sendings acts)
  pub none_evicted : tot evicts acts ≡ 0

abbrev pub Of : Rest → Rest → List Act → Type 0
Of r r1 done = Sends r r1.number r1.inbox r1.outbox done

abbrev pub By : Rest → Work → Type 0
By r w = Of r w.rest w.acts

pub sends_none : (r : Rest) → Of r r []
sends_none r = record { same = refl; own = []; others = []; waiting = sym (append-nil r.inbox); outbox_is = sym (append-nil r.outbox); own_sendings = refl; other_sendings = refl; none_evicted = refl }

-- the same acts by what they send
pub by_sendings : (r : Rest) (n : ℕ) (i : List Message) (o : List Sent) (done others_done : List Act) → sendings done ≡ sendings others_done → tot evicts others_done ≡ 0 → Sends r n i o done → Sends r n i o others_done
by_sendings r n i o done others_done e z g =
    record { same = g.same; own = g.own; others = g.others; waiting = g.waiting; outbox_is = g.outbox_is; own_sendings = g.own_sendings ∙ ap (filter (stays r.number)) e; other_sendings = g.other_sendings ∙ ap (filter (leaves r.number)) e; none_evicted = z }

-- ONE ACT MORE

abbrev listed : Option Sending → List Sending
listed None = []
listed (Some x) = x ∷ []

alone : (a : Act) (o : Option Sending) → sends a ≡ o → sendings (a ∷ []) ≡ listed o
alone a None e = cc
alone a (Some x) e = cc

more : (done : List Act) (a : Act) (o : Option Sending) → sends a ≡ o → sendings (done ++ a ∷ []) ≡ sendings done ++ listed o
more done a o e = filter_map-append sends done (a ∷ []) ∙ ap (λ l. sendings done ++ l) (alone a o e)

-- an act that sends nothing, and is no eviction
pub notes : (r : Rest) (n : ℕ) (i : List Message) (o : List Sent) (done : List Act) (a : Act) → sends a ≡ None → evicts a ≡ 0 → Sends r n i o done → Sends r n i o (done ++ a ∷ [])
notes r n i o done a e z g = by_sendings r n i o done (done ++ a ∷ []) (sym (more done a None e ∙ append-nil (sendings done))) (omega (arith, g.none_evicted, z, tot-append evicts done (a ∷ []))) g

kept : (p : Sending → Bool) (ss : List Sending) (x : Sending) (b : Bool) → p x ≡ b → filter p (ss ++ x ∷ []) ≡ filter p ss ++ (if b then x ∷ [] else [])
kept p ss x b e = filter-append p ss (x ∷ []) ∙ ap (λ (c : Bool). filter p ss ++ (if c then x ∷ [] else [])) e

-- what sends something is no eviction
sends_keep : (a : Act) (x : Sending) → sends a ≡ Some x → evicts a ≡ 0
sends_keep (act.Evict w) x e = absurd (cc e)
sends_keep _ x e = refl

-- an act and its message
pub sends_act : (r r1 : Rest) (done : List Act) (a : Act) (t : ℕ) (m : Message) → sends a ≡ Some (record { kind = kind_of m; target = t }) → Of r r1 done → Of r (sent_from r1 t m) (done ++ a ∷ [])
sends_act r r1 done a t m e g = by (t == r1.number) refl
  where
    x : Sending
    x = record { kind = kind_of m; target = t }

    kept_all : tot evicts (done ++ a ∷ []) ≡ 0
    kept_all = omega (arith, g.none_evicted, sends_keep a x e, tot-append evicts done (a ∷ []))

    by : (b : Bool) → (t == r1.number) ≡ b → Of r (if b then record r1 { inbox = r1.inbox ++ m ∷ [] } else record r1 { outbox = r1.outbox ++ record { target = t; message = m } ∷ [] }) (done ++ a ∷ [])
    by true q =
        let here : (t == r.number) ≡ true = subst (λ n. (t == n) ≡ true) g.same q in record {
          same = g.same;
          own = g.own ++ m ∷ [];
          others = g.others;
          waiting = ap (λ l. l ++ m ∷ []) g.waiting ∙ append_assoc r.inbox g.own (m ∷ []);
          outbox_is = g.outbox_is;
          own_sendings =
              map-append (sending_of r.number) g.own (m ∷ [])
              ∙ ap (λ l. l ++ sending_of r.number m ∷ []) g.own_sendings
              ∙ ap (λ (n : ℕ). filter (stays r.number) (sendings done) ++ sending_of n m ∷ []) (sym (same_number t r.number here))
              ∙ sym (ap (filter (stays r.number)) (more done a (Some x) e) ∙ kept (stays r.number) (sendings done) x true here);
          other_sendings =
              g.other_sendings
              ∙ sym (append-nil (filter (leaves r.number) (sendings done)))
              ∙ sym (ap (filter (leaves r.number)) (more done a (Some x) e) ∙ kept (leaves r.number) (sendings done) x false (ap not here));
          none_evicted = kept_all;
        }
    by false q =
        let away : (t == r.number) ≡ false = subst (λ n. (t == n) ≡ false) g.same q in record {
          same = g.same;
          own = g.own;
          others = g.others ++ record { target = t; message = m } ∷ [];
          waiting = g.waiting;
          outbox_is = ap (λ l. l ++ record { target = t; message = m } ∷ []) g.outbox_is ∙ append_assoc r.outbox g.others (record { target = t; message = m } ∷ []);
          own_sendings =
              g.own_sendings
              ∙ sym (append-nil (filter (stays r.number) (sendings done)))
              ∙ sym (ap (filter (stays r.number)) (more done a (Some x) e) ∙ kept (stays r.number) (sendings done) x false away);
          other_sendings =
              map-append sending_out g.others (record { target = t; message = m } ∷ [])
              ∙ ap (λ l. l ++ x ∷ []) g.other_sendings
              ∙ sym (ap (filter (leaves r.number)) (more done a (Some x) e) ∙ kept (leaves r.number) (sendings done) x true (ap not away));
          none_evicted = kept_all;
        }

-- HOPS

hopless : (a : Act) → is_hop a ≡ true → sends a ≡ None
hopless (act.Local p w) e = refl
hopless (act.Hit p w) e = refl
hopless _ e = absurd (cc e)

first : (a : Act) (done : List Act) → sendings (a ∷ done) ≡ sendings (a ∷ []) ++ sendings done
first a done = filter_map-append sends (a ∷ []) done

hop_first : (a : Act) (done : List Act) (b : Bool) → is_hop a ≡ b → sendings (without_hops done) ≡ sendings done → sendings (if b then without_hops done else a ∷ without_hops done) ≡ sendings (a ∷ done)
hop_first a done true e g = g ∙ sym (first a done ∙ ap (λ l. l ++ sendings done) (alone a None (hopless a e)))
hop_first a done false e g = first a (without_hops done) ∙ ap (λ l. sendings (a ∷ []) ++ l) g ∙ sym (first a done)

hops_send_none : (done : List Act) → sendings (without_hops done) ≡ sendings done
hops_send_none [] = refl
hops_send_none (a ∷ done) = hop_first a done (is_hop a) refl (hops_send_none done)

-- nor is an act that stays an eviction, where none is
fewer : (done : List Act) → tot evicts done ≡ 0 → tot evicts (without_hops done) ≡ 0
fewer [] z = refl
fewer (a ∷ done) z = by (is_hop a) (fewer done (omega (arith, z)))
  where
    by : (b : Bool) → tot evicts (without_hops done) ≡ 0 → tot evicts (if b then without_hops done else a ∷ without_hops done) ≡ 0
    by true y = y
    by false y = omega (arith, z, y)

-- hops of an event that ends with a request go, and they send nothing
pub without : (r : Rest) (n : ℕ) (i : List Message) (o : List Sent) (done : List Act) → Sends r n i o done → Sends r n i o (without_hops done)
without r n i o done g = by_sendings r n i o done (without_hops done) (sym (hops_send_none done)) (fewer done g.none_evicted) g
